-- `format_tree::layout::sections` meets its contract: each section reaches from its start to the next, and a file that is laid out has none that ends before it starts.
-- Rests on the law that makes the map of such sections.
use Rattle.spec_rules.specs.TreeReader.{tree_start, tree_nodes_at, tree_cases_at, tree_bindings_at, tree_paths_at, tree_steps_at, tree_pool_at, tree_pool_end}
use Rattle.format_tree.specs.ReadingLaws.{map_is}
use native.Mathlib.Omega.{arith}
use Rattle.format_tree.proofs.layout.sections.Goals as goal

pub section_of-requires : goal.section_of-requires
unfolding tree_start tree_nodes_at tree_cases_at
section_of-requires c =
    (omega (arith, c.requires.nodes_end), omega arith)

pub section_of-requires-2 : goal.section_of-requires-2
unfolding tree_start tree_cases_at tree_bindings_at
section_of-requires-2 c =
    (omega (arith, c.requires.cases_end), omega arith)

pub section_of-requires-3 : goal.section_of-requires-3
unfolding tree_start tree_bindings_at tree_paths_at
section_of-requires-3 c =
    (omega (arith, c.requires.bindings_end), omega arith)

pub section_of-requires-4 : goal.section_of-requires-4
unfolding tree_start tree_paths_at tree_steps_at
section_of-requires-4 c =
    (omega (arith, c.requires.paths_end), omega arith)

pub section_of-requires-5 : goal.section_of-requires-5
unfolding tree_start tree_steps_at tree_pool_at
section_of-requires-5 c =
    (omega (arith, c.requires.steps_end), omega arith)

pub section_of-requires-6 : goal.section_of-requires-6
unfolding tree_start tree_pool_at tree_pool_end
section_of-requires-6 c =
    (omega (arith, c.requires.pool_end_holds), omega arith)

pub returns : goal.returns
unfolding tree_start
returns c =
    map_is c.args.tree.now c.start-nodes_at.result c.start-cases_at.result c.start-bindings_at.result c.start-paths_at.result
    c.start-steps_at.result c.start-pool_at.result c.start-nodes_at.ensures c.start-cases_at.ensures c.start-bindings_at.ensures
    c.start-paths_at.ensures c.start-steps_at.ensures c.start-pool_at.ensures c.section_of.result c.section_of-2.result
    c.section_of-3.result c.section_of-4.result c.section_of-5.result c.section_of-6.result
    c.section_of.ensures c.section_of-2.ensures c.section_of-3.ensures c.section_of-4.ensures
    c.section_of-5.ensures c.section_of-6.ensures
