-- `format_tree::layout::starts_rise` meets its contract: its tests are those of the definition, of the starts as they were read.
use Rattle.std.proofs.Common.{arith}
use Rattle.std.proofs.lemmas.Grind.{common_steps}
use Rattle.format_tree.specs.ReadingLaws.{starts_rise_is}
use Rattle.spec_rules.specs.TreeReader.{tree_start}
use Rattle.format_tree.proofs.layout.starts_rise.Goals as goal

pub returns-then-whole_records-5 : goal.returns-then-whole_records-5
unfolding tree_start
returns-then-whole_records-5 c = rw (starts_rise_is c.args.tree.now _ _ _ _ _ _ c.start-nodes.ensures c.start-cases.ensures c.start-bindings.ensures c.start-paths.ensures c.start-steps.ensures c.start-pool.ensures) (grind (arith, common_steps))

pub returns-else-whole_records-5 : goal.returns-else-whole_records-5
unfolding tree_start
returns-else-whole_records-5 c = rw (starts_rise_is c.args.tree.now _ _ _ _ _ _ c.start-nodes.ensures c.start-cases.ensures c.start-bindings.ensures c.start-paths.ensures c.start-steps.ensures c.start-pool.ensures) (grind (arith, common_steps))
