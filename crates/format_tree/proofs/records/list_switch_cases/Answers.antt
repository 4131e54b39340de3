-- `format_tree::records::list_switch_cases` meets its contract: its tests are those of the definition, of the words as they were read.
use Rattle.std.proofs.Common.{arith}
use Rattle.std.proofs.lemmas.Grind.{common_steps}
use Rattle.spec_rules.specs.TreeReader.{list_switch_cases, node_first_case, node_cases, node_tail_cases}
use Rattle.format_tree.specs.RecordsLaws.{switch_run_in}
use Rattle.format_tree.proofs.records.list_switch_cases.Goals as goal

pub cases_of_kind-requires : goal.cases_of_kind-requires
cases_of_kind-requires c = (c.requires.0, omega (arith, switch_run_in c.requires.0 c.args.k c.node_word-first.result c.node_word-cases.result c.node_word-tails.result c.requires.2 c.node_word-first.ensures c.node_word-cases.ensures c.node_word-tails.ensures))

pub cases_of_kind-requires-then-cases_of_kind : goal.cases_of_kind-requires-then-cases_of_kind
cases_of_kind-requires-then-cases_of_kind c = (c.requires.0, omega (arith, switch_run_in c.requires.0 c.args.k c.node_word-first.result c.node_word-cases.result c.node_word-tails.result c.requires.2 c.node_word-first.ensures c.node_word-cases.ensures c.node_word-tails.ensures))

pub returns-then-cases_of_kind : goal.returns-then-cases_of_kind
unfolding list_switch_cases node_first_case node_cases node_tail_cases
returns-then-cases_of_kind c = grind (arith, common_steps)

pub returns-else-cases_of_kind : goal.returns-else-cases_of_kind
unfolding list_switch_cases node_first_case node_cases node_tail_cases
returns-else-cases_of_kind c = grind (arith, common_steps)
