-- The lines of what the walk bound, no leaf, where it is stuck, or its refusal.
use Rattle.std.proofs.Common.{rules, arith}
use Rattle.app_listing.specs.WritingLaws.{writes_as}
use Rattle.app_report.specs.AnswersLaws.{walked_leaf, walked_without, walked_stuck, walked_refused}
use Rattle.app_report.proofs.put_walked.Goals as goal

pub put_leaf-requires : goal.put_leaf-requires
put_leaf-requires c =
    let l =
    walked_leaf c.args.tree.now c.args.panel.now _ c.walk.result _ c.requires.0 c.requires.1 (search rules) c.walk.ensures
    c.in-Ok-Some.leaf (search rules) in
    omega (arith, l.few, c.walk.auto.bound)

pub returns-in-Ok-Some : goal.returns-in-Ok-Some
returns-in-Ok-Some c =
    let l =
    walked_leaf c.args.tree.now c.args.panel.now _ c.walk.result _ c.requires.0 c.requires.1 (search rules) c.walk.ensures
    c.in-Ok-Some.leaf (search rules) in
    writes_as c.put_leaf.ensures l.text

pub returns-in-Ok-None : goal.returns-in-Ok-None
returns-in-Ok-None c =
    writes_as c.put_text.ensures
    (walked_without c.args.tree.now c.args.panel.now _ c.walk.result _ c.requires.0 c.requires.1 (search rules) c.walk.ensures (search rules))

pub returns-in-Err-Stuck : goal.returns-in-Err-Stuck
returns-in-Err-Stuck c =
    writes_as (rw c.in-Err-Stuck.field-0-is at c.put_stuck.ensures)
    (walked_stuck c.args.tree.now c.args.panel.now _ c.walk.result _ c.requires.0 c.requires.1 (search rules) c.walk.ensures
    c.in-Err-Stuck.node c.in-Err-Stuck.step (search rules))

pub returns-in-Err-Refused : goal.returns-in-Err-Refused
returns-in-Err-Refused c =
    writes_as (rw (c.number.ensures, c.in-Err-Refused.field-0-is) at c.put_refused.ensures)
    (walked_refused c.args.tree.now c.args.panel.now _ c.walk.result _ c.requires.0 c.requires.1 (search rules) c.walk.ensures
    c.in-Err-Refused.refusal (search rules))
