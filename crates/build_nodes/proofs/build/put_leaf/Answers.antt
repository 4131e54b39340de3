-- `build_nodes::build::put_leaf` meets its contract: the bindings, then the node with where they begin and how many they are.
use native.Mathlib.Omega.{arith}
use mathlib.Core.Path.{refl}
use Prim.Native.Nat.{◌+◌, ◌-◌}
use lib.ListN.{set}
use Rattle.build_nodes.specs.LeafLaws.{clause_small, leaf_top, leaf_step}
use Rattle.build_nodes.proofs.build.put_leaf.Goals as goal

pub leaf_bindings-top-requires : goal.leaf_bindings-top-requires
leaf_bindings-top-requires c =
    (c.requires.0, c.requires.1, record { long = c.requires.2.long; most = c.requires.2.bindings_most_holds })

pub overflow_sub-count : goal.overflow_sub-count
overflow_sub-count c =
    (leaf_top c.requires.0.checked.ok c.requires.1 c.args.opened.now c.requires.2 c.leaf_bindings-top.ensures).0

pub overflow_cast-count : goal.overflow_cast-count
overflow_cast-count c =
    omega (arith, leaf_top c.requires.0.checked.ok c.requires.1 c.args.opened.now c.requires.2 c.leaf_bindings-top.ensures)

pub overflow_cast-tops : goal.overflow_cast-tops
overflow_cast-tops c = omega (arith, c.requires.2.bindings_most_holds)

pub overflow_cast-clause : goal.overflow_cast-clause
overflow_cast-clause c =
    omega (arith, clause_small c.requires.0.checked.ok c.requires.1 c.args.opened.now)

pub put_node-requires : goal.put_node-requires
put_node-requires c =
    let top = leaf_top c.requires.0.checked.ok c.requires.1 c.args.opened.now c.requires.2 c.leaf_bindings-top.ensures in
    (omega (arith, top, c.requires.2.long), c.requires.3)

pub bounds-leaves-clause : goal.bounds-leaves-clause
bounds-leaves-clause c =
    clause_small c.requires.0.checked.ok c.requires.1 c.args.opened.now

pub returns : goal.returns
returns c =
    let tops = c.args.tops in
    let bound = c.leaf_bindings-top in
    let first = c.first_of-first in
    let put = c.put_node in
    leaf_step c.requires.0.checked.ok c.requires.1 c.args.opened.now c.args.work.now bound.new.work put.new.work tops
    (record { nodes = tops.nodes + 1; cases = tops.cases; bindings = bound.result; leaves = set tops.leaves c.args.clause 1 })
    bound.result (bound.result - tops.bindings) first.result c.requires.2 c.requires.3 bound.ensures refl first.ensures put.ensures refl
