-- `build_scopes::last::mark_last` meets its contract. The loop's invariant: the nodes from k on have their last leaf, for every tree that is there.
use Rattle.std.proofs.Common.{◌≡◌, ◌+◌, ◌-◌, sym, subst, length, arith}
use Rattle.build_scopes.specs.Marks.{LastMarked}
use Rattle.build_scopes.specs.ReadyLaws.{node_inside}
use Rattle.build_scopes.specs.WayLaws.{last_more}
use Rattle.build_scopes.proofs.last.mark_last.Goals as goal

pub last_of-requires : goal.last_of-requires
last_of-requires c =
    let l = c.loop-k in
    let h = c.requires.0 in
    node_inside c.args.work.now h.tree h.ready (l.k - 1) (omega (arith, h.count)) (length l.last) (omega (arith, h.count))

pub loop-k-preserved : goal.loop-k-preserved
loop-k-preserved c =
    let l = c.loop-k in
    let down : l.k - 1 + 1 ≡ l.k = omega arith in
    λ h.
    last_more c.args.work.now h.tree h.ready (l.k - 1) (omega (arith, h.count)) l.last c.last_of.result (omega arith) c.last_of.ensures (subst (λ z. LastMarked h.tree z l.last) (sym down) (l.invariant h))

pub returns : goal.returns
returns c =
    let l = c.loop-k in
    let e : l.k ≡ 0 = omega arith in
    λ h. subst (λ z. LastMarked h.tree z l.last) e (l.invariant h)
