-- `format_tree::records::step_keeps_rules` meets its contract: its tests are those of the definition, of the words as they were read.
use Rattle.std.proofs.Common.{arith}
use Rattle.std.proofs.lemmas.Grind.{common_steps}
use Rattle.spec_rules.specs.TreeReader.{step_keeps_rules}
use Rattle.format_tree.proofs.records.step_keeps_rules.Goals as goal

pub returns-then-step-eq0 : goal.returns-then-step-eq0
unfolding step_keeps_rules
returns-then-step-eq0 c = grind (arith, common_steps)

pub returns-then-step-eq1 : goal.returns-then-step-eq1
unfolding step_keeps_rules
returns-then-step-eq1 c = grind (arith, common_steps)

pub returns-else-step-eq1 : goal.returns-else-step-eq1
unfolding step_keeps_rules
returns-else-step-eq1 c = grind (arith, common_steps)

pub returns-else-step-le-LISTTAIL : goal.returns-else-step-le-LISTTAIL
unfolding step_keeps_rules
returns-else-step-le-LISTTAIL c = grind (arith, common_steps)
