use Rattle.build_leaves.specs.PuttingLaws.{none_give, owner_read, test_gives, parts_give}
use Rattle.build_leaves.proofs.parts_given.Goals as goal
use Rattle.build_leaves.proofs.parts_given.Goals.{then-count-eq0-via-then-count-eq0, then-count-eq0-via-else-count-eq0+then-at-p}

pub returns-then-count-eq0 : goal.returns-then-count-eq0
returns-then-count-eq0 c =
    let a = c.args in
    let s = a.sheet.now in
    let ok = c.requires.0 in
    let parts = c.requires.3 in
    elim c.then-count-eq0.branch [
      | then-count-eq0-via-then-count-eq0 w ↦ none_give s ok a.p a.first a.count parts w.if-count-eq0.true
      | then-count-eq0-via-else-count-eq0+then-at-p w ↦
          let some = w.if-count-eq0.false in
          test_gives s ok a.p a.first a.count parts some w.at.result (owner_read s ok a.p a.first a.count parts some _ _ c.requires.1 w.child_in.ensures w.at.ensures) w.if-at-p.true
    ]

pub returns : goal.returns
returns c =
    let a = c.args in
    let s = a.sheet.now in
    let ok = c.requires.0 in
    let parts = c.requires.3 in
    let some = c.if-count-eq0.false in
    parts_give s ok a.p a.first a.count parts some c.at.result (owner_read s ok a.p a.first a.count parts some _ _ c.requires.1 c.child_in.ensures c.at.ensures) c.if-at-p.false
