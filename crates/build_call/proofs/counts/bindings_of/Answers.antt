-- `build_call::counts::bindings_of` meets its contract by its two cases.
use mathlib.Core.Path.{ap, ◌∙◌}
use Rattle.build_call.specs.Counts.{leaf_bindings}
use Rattle.build_call.specs.CountsLaws.{no_leaf, some_leaf}
use Rattle.build_call.proofs.counts.bindings_of.Goals as goal

pub returns-then-k-lt-NODES_MOST : goal.returns-then-k-lt-NODES_MOST
returns-then-k-lt-NODES_MOST c =
    c.from.ensures ∙ c.node_word.ensures ∙ some_leaf c.args.work.now c.from-k.result c.if-k-lt-NODES_MOST.true ∙ ap (leaf_bindings c.args.work.now) c.from-k.ensures

pub returns-else-k-lt-NODES_MOST : goal.returns-else-k-lt-NODES_MOST
returns-else-k-lt-NODES_MOST c =
    no_leaf c.args.work.now c.from-k.result c.if-k-lt-NODES_MOST.false ∙ ap (leaf_bindings c.args.work.now) c.from-k.ensures
