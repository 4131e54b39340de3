-- `build_scopes::hoist_paths` meets its contract. The loop's invariant: the answer is right for the clauses from c on, for every tree that is there.
use Rattle.build_scopes.specs.ScopedLaws.{ScopedFrom, scoped_start, hoists_few, scoped_more, scoped_end, surveyed}
use Prim.Native.Nat.{◌+◌, ◌-◌}
use mathlib.Core.Path.{◌≡◌, subst}
use native.Mathlib.Omega.{arith}
use Rattle.build_scopes.proofs.hoist_paths.Goals as goal

pub loop-c-init : goal.loop-c-init
loop-c-init g c =
    let a = c.args in
    λ h. scoped_start h.tree a.clauses c.requires.1

pub add_clause-requires : goal.add_clause-requires
add_clause-requires g c =
    let a = c.args in
    let q = c.mark_last in
    let m = c.mark in
    let l = c.loop-c in
    let t = c.loop-c-test.true in
    let h = c.requires.0 in (
      surveyed q.ensures (omega (arith, q.auto.last, c.requires.2)) m.ensures (omega (arith, m.auto.sets, c.requires.4)) h,
      omega (arith, c.requires.1, t),
      hoists_few h.tree a.clauses l.c l.scopes t c.requires.1 (omega arith) (l.invariant h),
    )

pub loop-c-preserved : goal.loop-c-preserved
loop-c-preserved g c =
    let a = c.args in
    let q = c.mark_last in
    let m = c.mark in
    let l = c.loop-c in
    let t = c.loop-c-test.true in
    let down : l.c ≡ l.c - 1 + 1 = omega arith in
    λ h.
    scoped_more h.tree a.clauses (l.c - 1) l.scopes (omega (arith, t)) c.requires.1 (subst (λ z. ScopedFrom h.tree a.clauses z l.scopes) down (l.invariant h)) c.add_clause.new.scopes
    (c.add_clause.ensures (surveyed q.ensures (omega (arith, q.auto.last, c.requires.2)) m.ensures (omega (arith, m.auto.sets, c.requires.4)) h))

pub returns : goal.returns
returns g c =
    let a = c.args in
    let m = c.mark in
    let l = c.loop-c in
    λ h. record { scopes = scoped_end h.tree a.clauses l.c l.scopes (omega (arith, c.loop-c-test.false)) (l.invariant h); sets_marked = m.ensures h }
