use mathlib.Core.Path.{◌∙◌}
use Rattle.format_sheet.specs.MeetingLaws.{none_of_zeros}
use Rattle.format_sheet.specs.TallyLaws.{stand_once}
use Rattle.format_sheet.proofs.standing.patterns_stand_once.Goals as goal

pub meet_roots-requires : goal.meet_roots-requires
meet_roots-requires c = (c.requires.0, c.requires.1, c.requires.2, c.requires.3, none_of_zeros)

pub returns : goal.returns
returns c = c.all_met_once.ensures ∙ stand_once c.args.sheet.now c.args.map c.requires.1 c.meet_children.ensures
