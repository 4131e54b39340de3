-- `format_tree::reading::switch_at` meets its contract: its words as they were read, and the test of its first case, which the rules put into its section.
use native.Mathlib.Omega.{arith}
use Rattle.spec_rules.specs.TreeReader.{node_kind_of, node_path, node_first_case, node_cases, node_default}
use Rattle.format_tree.specs.Reading.{node_of}
use Rattle.format_tree.specs.ReadingLaws.{cases_count}
use Rattle.format_tree.specs.NodesLaws.{switch_first_case}
use Rattle.format_tree.specs.OrderLaws.{in_nodes}
use Rattle.std.proofs.lemmas.Grind.{common_steps}
use Rattle.format_tree.proofs.reading.switch_at.Goals as goal

pub test_at-requires : goal.test_at-requires
test_at-requires c =
    let ruled = c.requires.0 in
    let k = c.args.k in
    let there = switch_first_case ruled.rules k (in_nodes ruled k c.requires.1) c.node_word-first.result c.requires.2 c.node_word-first.ensures in
    (ruled.mapped, omega (arith, there.0, cases_count ruled.mapped))

pub returns : goal.returns
unfolding node_of node_kind_of node_path node_first_case node_cases node_default
returns c = grind (arith, common_steps)
