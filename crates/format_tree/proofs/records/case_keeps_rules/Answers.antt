-- `format_tree::records::case_keeps_rules` meets its contract: its tests are those of the definition.
use Rattle.std.proofs.Common.{arith}
use Rattle.std.proofs.lemmas.Grind.{common_steps}
use Rattle.spec_rules.specs.TreeReader.{case_keeps_rules}
use Rattle.format_tree.specs.ReadingLaws.{nodes_count}
use Rattle.format_tree.proofs.records.case_keeps_rules.Goals as goal

pub returns-then-case_of_kind : goal.returns-then-case_of_kind
unfolding case_keeps_rules
returns-then-case_of_kind c = grind (arith, common_steps, nodes_count c.requires.0)

pub returns-else-case_of_kind : goal.returns-else-case_of_kind
unfolding case_keeps_rules
returns-else-case_of_kind c = grind (arith, common_steps, nodes_count c.requires.0)
