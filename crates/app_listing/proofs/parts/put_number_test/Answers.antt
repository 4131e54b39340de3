use mathlib.Core.List.{[], ◌∷◌}
use Rattle.spec_rules.specs.Listing.{decimal}
use Rattle.app_listing.specs.WritingLaws.{writes_then, writes_as}
use mathlib.Core.List.{append_assoc}
use Rattle.app_listing.proofs.parts.put_number_test.Goals as goal

pub returns : goal.returns
returns c = writes_as (writes_then c.put_numbered-end.ensures c.put.ensures)
    (append_assoc c.args.word.now (decimal c.args.n) (41 ∷ []))
