use Rattle.std.proofs.Common.{rules}
use Rattle.app_listing.specs.WritingLaws.{writes_as}
use Rattle.app_listing.specs.RecordsLaws.{step_pair, step_tuple, step_constr, step_list, step_listtail}
use Rattle.app_listing.proofs.parts.put_step.Goals as goal

pub returns-in-0 : goal.returns-in-0
returns-in-0 c = writes_as c.put_numbered.ensures
    (step_pair _ _ _ c.step_at-step.ensures c.in-0.is)

pub returns-in-1 : goal.returns-in-1
returns-in-1 c = writes_as c.put_numbered-in-1.ensures
    (step_tuple _ _ _ c.step_at-step.ensures c.in-1.is)

pub returns-in-2 : goal.returns-in-2
returns-in-2 c = writes_as c.put_constr_step.ensures
    (step_constr _ _ _ c.step_at-step.ensures c.in-2.is)

pub returns-in-3 : goal.returns-in-3
returns-in-3 c = writes_as c.put_numbered-in-3.ensures
    (step_list _ _ _ c.step_at-step.ensures c.in-3.is)

pub returns-in_default : goal.returns-in_default
returns-in_default c = writes_as c.put_numbered-in_default.ensures
    (step_listtail _ _ _ c.step_at-step.ensures (search rules) (search rules) (search rules) (search rules))
