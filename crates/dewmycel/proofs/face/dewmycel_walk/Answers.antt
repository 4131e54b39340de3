-- `dewmycel::face::dewmycel_walk` meets its contract: each way out is packed, and the buffer is what the walk leaves.
use Rattle.dewmycel.specs.AnswersLaws.{leaf_packed, no_leaf_packed, stuck_packed, unwalked_packed}
use Rattle.dewmycel.proofs.face.dewmycel_walk.Goals as goal

pub returns-in-Ok-Some : goal.returns-in-Ok-Some
returns-in-Ok-Some c =
    leaf_packed c.in-Ok-Some.leaf c.pack.result (rw c.in-Ok-Some.field-0-is at c.in-Ok-Some.ensures) c.pack.ensures

pub returns-in-Ok-None : goal.returns-in-Ok-None
returns-in-Ok-None c = no_leaf_packed (rw c.in-Ok-None.field-0-is at c.in-Ok-None.ensures)

pub returns-in-Err-Stuck : goal.returns-in-Err-Stuck
returns-in-Err-Stuck c =
    let number = c.number.ensures in
    stuck_packed c.in-Err-Stuck.node c.in-Err-Stuck.step c.pack-in-Err-Stuck.result (rw c.in-Err-Stuck.field-0-is at c.in-Err-Stuck.ensures) (rw number at c.pack-in-Err-Stuck.ensures)

pub returns-in-Err-Refused : goal.returns-in-Err-Refused
returns-in-Err-Refused c =
    unwalked_packed c.in-Err-Refused.refusal c.pack_refusal.result (rw c.in-Err-Refused.field-0-is at c.in-Err-Refused.ensures) c.pack_refusal.ensures
