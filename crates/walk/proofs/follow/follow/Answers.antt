-- `walk::follow::follow` meets its contract: the loop's invariant is that the steps left lead from the position at hand to where the whole path leads from the root,
-- or stick where it does; and that the position is one of the panel.
use Rattle.format_records.specs.declared.reading.Path.{Path}
use Rattle.walk.specs.FollowLaws.{taken_some, taken_none, root_within, step_within, step_taken, path_run, path_start, path_on, path_stuck, path_end}
use Rattle.walk.specs.Positions.{placed}
use Rattle.spec_rules.specs.Walking.{take_step}
use Rattle.spec_rules.specs.TreeReader.{step_at, step_of_fields}
use Prim.Native.Nat.{◌+◌}
use native.Mathlib.Omega.{arith}
use mathlib.Core.Path.{sym, ap, ◌∙◌}
use Rattle.walk.proofs.follow.follow.Goals as goal

pub path_from-path-requires : goal.path_from-path-requires
path_from-path-requires c =
    let q = c.requires in
    (q.0.paths_lie, q.1, q.3)

pub loop-k-init : goal.loop-k-init
loop-k-init c =
    let a = c.args in
    let w = c.requires.0 in
    let x = c.path_from-path.result in (
      root_within w.opened.laid w.shaped,
      path_start a.panel.now a.tree.now x.first x.count a.p
          (ap (λ (y : Path). y.first) c.path_from-path.ensures)
          (ap (λ (y : Path). y.count) c.path_from-path.ensures),
    )

pub step_from-step-requires : goal.step_from-step-requires
step_from-step-requires c =
    let a = c.args in
    let w = c.requires.0 in
    let x = c.path_from-path.result in
    (w.steps_lie, c.requires.2, omega (arith, path_run w a.p x c.requires.3 c.path_from-path.ensures))

pub take_step-requires : goal.take_step-requires
take_step-requires c =
    let w = c.requires.0 in
    (w.opened, w.shaped, c.loop-k.invariant.0)

pub returns-in_default : goal.returns-in_default
returns-in_default c =
    let a = c.args in
    let x = c.path_from-path.result in
    let l = c.loop-k in
    let s = c.step_from-step.result in
    let u = step_taken a.panel.now a.tree.now (x.first + l.k) s l.at c.step_from-step.ensures in
    let q = take_step a.panel.now (step_of_fields s.kind s.flag s.index s.of) (placed l.at) in
    let e = taken_none q (sym c.take_step.ensures ∙ c.in_default.is) in
    path_stuck a.panel.now a.tree.now x.first x.count l.k (placed l.at) c.loop-k-test.true (sym u ∙ e) ∙ l.invariant.1

pub loop-k-preserved : goal.loop-k-preserved
loop-k-preserved c =
    let a = c.args in
    let w = c.requires.0 in
    let x = c.path_from-path.result in
    let l = c.loop-k in
    let s = c.step_from-step.result in
    let u = step_taken a.panel.now a.tree.now (x.first + l.k) s l.at c.step_from-step.ensures in
    let q = take_step a.panel.now (step_of_fields s.kind s.flag s.index s.of) (placed l.at) in
    let next = c.in-Some.next in
    let e = sym u ∙ taken_some q next (sym c.take_step.ensures ∙ c.in-Some.is) in (
      step_within w.opened.laid w.shaped (step_at a.tree.now (x.first + l.k)) (placed l.at) (placed next) l.invariant.0 e,
      path_on a.panel.now a.tree.now x.first x.count l.k (placed l.at) (placed next) c.loop-k-test.true e ∙ l.invariant.1,
    )

pub returns : goal.returns
returns c =
    let a = c.args in
    let x = c.path_from-path.result in
    let l = c.loop-k in
    path_end a.panel.now a.tree.now x.first x.count l.k l.at c.loop-k-test.false ∙ l.invariant.1
