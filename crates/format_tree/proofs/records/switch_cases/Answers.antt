-- `format_tree::records::switch_cases` meets its contract: its tests are those of the definition, of the words as they were read.
use Rattle.std.proofs.Common.{arith}
use Rattle.std.proofs.lemmas.Grind.{common_steps}
use Rattle.spec_rules.specs.TreeReader.{switch_cases, node_first_case, node_cases, node_tail_cases}
use Rattle.format_tree.specs.RecordsLaws.{switch_run_in}
use Rattle.format_tree.proofs.records.switch_cases.Goals as goal

pub returns-then-cases-lt1 : goal.returns-then-cases-lt1
unfolding switch_cases node_first_case node_cases node_tail_cases
returns-then-cases-lt1 c = grind (arith, common_steps)

pub case_kind-kind-requires : goal.case_kind-kind-requires
case_kind-kind-requires c = (c.requires.0, grind (arith, switch_run_in c.requires.0 c.args.k c.node_word-first.result c.node_word-cases.result c.node_word-tails.result c.requires.2 c.node_word-first.ensures c.node_word-cases.ensures c.node_word-tails.ensures))

pub cases_of_kind-requires : goal.cases_of_kind-requires
cases_of_kind-requires c = (c.requires.0, omega (arith, switch_run_in c.requires.0 c.args.k c.node_word-first.result c.node_word-cases.result c.node_word-tails.result c.requires.2 c.node_word-first.ensures c.node_word-cases.ensures c.node_word-tails.ensures))

pub returns-then-kind-le-BYTES : goal.returns-then-kind-le-BYTES
unfolding switch_cases node_first_case node_cases node_tail_cases
returns-then-kind-le-BYTES c = grind (arith, common_steps)

pub returns-else-kind-le-BYTES : goal.returns-else-kind-le-BYTES
unfolding switch_cases node_first_case node_cases node_tail_cases
returns-else-kind-le-BYTES c = grind (arith, common_steps)
