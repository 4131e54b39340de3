-- `format_panel::shape::fields_fit` meets its contract: each arm is the case of its kind.
use Rattle.std.proofs.Common.{rules, arith}
use Rattle.std.proofs.lemmas.Grind.{common_steps}
use Rattle.format_panel.specs.ShapeSteps.{zero_used, text_fields, list_fields, pair_fields, constructor_fields, no_kind, past_kinds}
use Rattle.format_panel.proofs.shape.fields_fit.Goals as goal

pub returns-then-a-eq0 : goal.returns-then-a-eq0
returns-then-a-eq0 c = λ v r ex eh ep. rw (list_fields v r _ ex c.if-zero-eq0.true _ eh c.in-2.is) (grind (arith, common_steps))

pub returns-else-a-eq0 : goal.returns-else-a-eq0
returns-else-a-eq0 c = λ v r ex eh ep. rw (list_fields v r _ ex c.if-zero-eq0.true _ eh c.in-2.is) (grind (arith, common_steps))

pub returns-then-count-eq-PAIR_PARTS : goal.returns-then-count-eq-PAIR_PARTS
returns-then-count-eq-PAIR_PARTS c = λ v r ex eh ep. rw (pair_fields v r _ ex c.if-zero-eq0.true _ eh c.in-3.is) (grind (arith, common_steps))

pub returns-else-count-eq-PAIR_PARTS : goal.returns-else-count-eq-PAIR_PARTS
returns-else-count-eq-PAIR_PARTS c = λ v r ex eh ep. rw (pair_fields v r _ ex c.if-zero-eq0.true _ eh c.in-3.is) (grind (arith, common_steps))

pub returns-in-5 : goal.returns-in-5
returns-in-5 c = λ v r ex eh ep. rw (constructor_fields v r _ ex c.if-zero-eq0.true _ eh c.in-5.is) (grind (arith, common_steps))

pub returns-then-a-eq0-3 : goal.returns-then-a-eq0-3
returns-then-a-eq0-3 c = λ v r ex eh ep. rw (text_fields v r _ ex c.if-zero-eq0.true _ ep (search rules)) (grind (arith, common_steps))

pub returns-else-a-eq0-3 : goal.returns-else-a-eq0-3
returns-else-a-eq0-3 c = λ v r ex eh ep. rw (text_fields v r _ ex c.if-zero-eq0.true _ ep (search rules)) (grind (arith, common_steps))

pub returns-in_default : goal.returns-in_default
returns-in_default c = λ v r ex eh ep. rw (no_kind v r _ ex c.if-zero-eq0.true (search (rules, past_kinds)))

pub returns-else-zero-eq0 : goal.returns-else-zero-eq0
returns-else-zero-eq0 c = λ v r ex eh ep. rw (zero_used v r _ ex c.if-zero-eq0.false) (grind (arith, common_steps))
