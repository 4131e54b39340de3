-- `walk::choose::largest_tail` meets its contract: the loop's invariant is that the larger of the best so far and of the largest among those left is the largest of all.
use Rattle.std.proofs.Common.{rules}
use Rattle.walk.specs.ChoicesLaws.{tail_number_of, largest_start, largest_on, largest_end}
use Rattle.spec_rules.specs.Splitting.{ListWithTail}
use Rattle.spec_rules.specs.Walking.{tail_number}
use Prim.Native.Nat.{ℕ, ◌+◌}
use native.Mathlib.Omega.{arith}
use mathlib.Core.Path.{ap, ◌∙◌}
use Rattle.walk.proofs.choose.largest_tail.Goals as goal

pub loop-j-init : goal.loop-j-init
loop-j-init c = let a = c.args in λ f. largest_start a.tree.now a.n f a.i a.tails

pub loop-j-preserved : goal.loop-j-preserved
loop-j-preserved c =
    let a = c.args in
    let l = c.loop-j in
    let kind = c.requires.2 (a.i + l.j) (omega arith) (omega (arith, c.loop-j-test.true)) in
    let number = ap (λ (k : ℕ). tail_number a.n (ListWithTail k)) c.case_number-k.ensures in
    let e = c.tail_number.ensures ∙ number ∙ tail_number_of a.tree.now (a.i + l.j) a.n kind in
    λ f. largest_on a.tree.now a.n f a.i l.j a.tails l.best c.tail_number.result _ c.loop-j-test.true e (search rules) ∙ l.invariant f

pub returns : goal.returns
returns c =
    let a = c.args in
    let l = c.loop-j in
    λ f. largest_end a.tree.now a.n f a.i l.j a.tails l.best c.loop-j-test.false ∙ l.invariant f
