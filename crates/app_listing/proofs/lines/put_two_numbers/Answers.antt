use Rattle.app_listing.specs.WritingLaws.{writes_then, writes_as}
use mathlib.Core.List.{[], ◌∷◌, ◌++◌, append_assoc}
use Rattle.spec_rules.specs.Listing.{decimal}
use Rattle.app_listing.proofs.lines.put_two_numbers.Goals as goal

pub returns : goal.returns
returns c =
    let a = c.args in
    writes_as (writes_then c.put_numbered-first.ensures (writes_then c.put_numbered-second.ensures c.put.ensures))
    (append_assoc a.word.now (decimal a.a) (32 ∷ (decimal a.b ++ 10 ∷ [])))
