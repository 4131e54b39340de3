-- `format_tree::records_keep_rules` meets its contract: its five tests are those of the definition, in order.
use Rattle.std.proofs.Common.{arith}
use Rattle.std.proofs.lemmas.Grind.{common_steps}
use Rattle.format_tree.specs.Reading.{records_keep_rules}
use Rattle.format_tree.specs.ReadingLaws.{nodes_count, cases_count, bindings_count, paths_count, steps_count}
use Rattle.format_tree.proofs.records_keep_rules.Goals as goal

pub returns-then-paths_keep_rules : goal.returns-then-paths_keep_rules
unfolding records_keep_rules
returns-then-paths_keep_rules c = rw (nodes_count c.requires, cases_count c.requires, bindings_count c.requires, paths_count c.requires, steps_count c.requires) (grind (arith, common_steps))

pub returns-else-paths_keep_rules : goal.returns-else-paths_keep_rules
unfolding records_keep_rules
returns-else-paths_keep_rules c = rw (nodes_count c.requires, cases_count c.requires, bindings_count c.requires, paths_count c.requires, steps_count c.requires) (grind (arith, common_steps))
