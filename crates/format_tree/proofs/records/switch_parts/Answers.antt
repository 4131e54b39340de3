-- `format_tree::records::switch_parts` meets its contract: its tests are those of the definition, of the words as they were read.
use Rattle.std.proofs.Common.{arith}
use Rattle.std.proofs.lemmas.Grind.{common_steps}
use Rattle.spec_rules.specs.TreeReader.{switch_parts, node_path, node_first_case, node_cases, node_tail_cases, node_default}
use Rattle.format_tree.specs.ReadingLaws.{paths_count, cases_count, nodes_count}
use Rattle.format_tree.proofs.records.switch_parts.Goals as goal

pub returns-then-run_in : goal.returns-then-run_in
unfolding switch_parts node_path node_first_case node_cases node_tail_cases node_default
returns-then-run_in c = grind (arith, common_steps, paths_count c.requires.0, cases_count c.requires.0, nodes_count c.requires.0)

pub returns-else-run_in : goal.returns-else-run_in
unfolding switch_parts node_path node_first_case node_cases node_tail_cases node_default
returns-else-run_in c = grind (arith, common_steps, paths_count c.requires.0, cases_count c.requires.0, nodes_count c.requires.0)
