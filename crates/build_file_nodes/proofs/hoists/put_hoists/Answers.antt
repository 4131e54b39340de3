-- `build_file_nodes::hoists::put_hoists` meets its contract. The loop's invariant: the clauses from c on bring the file to the state after all.
use Rattle.std.proofs.Common.{◌∙◌, sym, arith}
use Rattle.std.proofs.lemmas.Grind.{common_steps}
use Rattle.build_file_nodes.specs.Model.{places_of, reach_of, out_of, hoist_out}
use Rattle.build_file_nodes.specs.ModelLaws.{hoists_none, hoists_start, hoist_asked, hoists_next, hoists_end}
use Rattle.build_file_nodes.proofs.hoists.put_hoists.Goals as goal
use Rattle.build_file_nodes.proofs.hoists.put_hoists.Goals.{then-from-k, else-from-k}

pub returns-then-shift-k : goal.returns-then-shift-k
returns-then-shift-k c =
    let a = c.args in
    hoists_none a.work.now a.start (places_of a.node.now a.leaf.now) a.k 0 a.clauses (out_of a.tree.now (reach_of a.number.now a.list.now a.tops)) (λ d i j. c.requires.none_here c.if-shift-k.true d (omega arith))

pub loop-c-init : goal.loop-c-init
loop-c-init c =
    let a = c.args in
    hoists_start a.work.now a.start (places_of a.node.now a.leaf.now) a.k a.clauses a.tree.now (reach_of a.number.now a.list.now a.tops) c.requires.counted

pub put_hoist-next-requires : goal.put_hoist-next-requires
put_hoist-next-requires c =
    rw c.from-then-from-k.ensures (hoist_asked c.requires c.loop-c.invariant c.loop-c-test.true (sym c.from.ensures ∙ c.if-from-k.true))

pub loop-c-preserved : goal.loop-c-preserved
unfolding hoist_out
loop-c-preserved c =
    hoists_next c.requires c.loop-c.invariant c.loop-c-test.true c.if-from-k.auto.tree
    (elim c.if-from-k.branch [ then-from-k w ↦ grind (arith, common_steps) | else-from-k w ↦ grind (arith, common_steps) ])

pub returns : goal.returns
returns c = hoists_end c.loop-c.invariant c.loop-c-test.false
