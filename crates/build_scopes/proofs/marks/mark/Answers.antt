-- `build_scopes::marks::mark` meets its contract. The loop's invariant: the nodes from k on have the right sets, for every tree that is there.
use Rattle.std.proofs.Common.{◌≡◌, ◌+◌, ◌-◌, sym, subst, length, arith}
use Rattle.build_scopes.specs.Marks.{SetsMarked}
use Rattle.build_scopes.specs.ReadyLaws.{node_inside}
use Rattle.build_scopes.specs.WayLaws.{sets_more}
use Rattle.build_scopes.proofs.marks.mark.Goals as goal

pub node_set-requires : goal.node_set-requires
node_set-requires c =
    let l = c.loop-k in
    let h = c.requires.0 in
    node_inside c.args.work.now h.tree h.ready (l.k - 1) (omega (arith, h.count)) (length l.sets) (omega (arith, h.count))

pub loop-k-preserved : goal.loop-k-preserved
loop-k-preserved c =
    let l = c.loop-k in
    let down : l.k - 1 + 1 ≡ l.k = omega arith in
    λ h.
    sets_more c.args.work.now h.tree h.ready (l.k - 1) (omega (arith, h.count)) l.sets c.node_set.result (omega arith) c.node_set.ensures (subst (λ z. SetsMarked h.tree z l.sets) (sym down) (l.invariant h))

pub returns : goal.returns
returns c =
    let l = c.loop-k in
    let e : l.k ≡ 0 = omega arith in
    λ h. subst (λ z. SetsMarked h.tree z l.sets) e (l.invariant h)
