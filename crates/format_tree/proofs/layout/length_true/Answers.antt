-- `format_tree::layout::length_true` meets its contract: the definition's tests.
use Rattle.std.proofs.Common.{arith}
use Rattle.std.proofs.lemmas.Grind.{common_steps}
use Rattle.spec_rules.specs.TreeReader.{length_true, tree_length}
use Rattle.format_tree.proofs.layout.length_true.Goals as goal

pub returns-then-n-ge-TREE_TRAILER : goal.returns-then-n-ge-TREE_TRAILER
unfolding length_true tree_length
returns-then-n-ge-TREE_TRAILER c = grind (arith, common_steps)

pub returns-else-n-ge-TREE_TRAILER : goal.returns-else-n-ge-TREE_TRAILER
unfolding length_true tree_length
returns-else-n-ge-TREE_TRAILER c = grind (arith, common_steps)
