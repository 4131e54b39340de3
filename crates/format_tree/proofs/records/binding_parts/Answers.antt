-- `format_tree::records::binding_parts` meets its contract: its tests are those of the definition, of the words as they were read.
use Rattle.std.proofs.Common.{arith}
use Rattle.std.proofs.lemmas.Grind.{common_steps}
use Rattle.spec_rules.specs.TreeReader.{binding_parts, node_first_binding, node_bindings}
use Rattle.format_tree.specs.ReadingLaws.{bindings_count}
use Rattle.format_tree.proofs.records.binding_parts.Goals as goal

pub returns-then-count-le-NODE_BINDINGS_MOST : goal.returns-then-count-le-NODE_BINDINGS_MOST
unfolding binding_parts node_first_binding node_bindings
returns-then-count-le-NODE_BINDINGS_MOST c = grind (arith, common_steps, bindings_count c.requires.0)

pub returns-else-count-le-NODE_BINDINGS_MOST : goal.returns-else-count-le-NODE_BINDINGS_MOST
unfolding binding_parts node_first_binding node_bindings
returns-else-count-le-NODE_BINDINGS_MOST c = grind (arith, common_steps, bindings_count c.requires.0)
