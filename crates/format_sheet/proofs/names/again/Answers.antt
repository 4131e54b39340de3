use Rattle.std.proofs.Common.{◌∙◌}
use Rattle.std.specs.Prelude.{get_or}
use Rattle.format_sheet.specs.NamesLaws.{is_in_any}
use Rattle.format_sheet.proofs.names.again.Goals as goal

pub returns : goal.returns
returns c = c.contains.ensures.value ∙ is_in_any (get_or c.args.found.now c.args.i 0) _
