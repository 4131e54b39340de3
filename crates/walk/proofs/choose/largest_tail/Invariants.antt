-- `walk::choose::largest_tail` meets its contract: the loop's invariant is that the larger of the best so far and of the largest among those left is the largest of all.
use Rattle.spec_rules.specs.Walking.{largest_tail}
use Rattle.spec_rules.specs.TreeReader.{cases_for}
use Rattle.spec_rules.specs.Building.{Tree}
use Prim.Native.Nat.{ℕ, ◌+◌, ◌-◌, max}
use mathlib.Core.Path.{◌≡◌}
use Rattle.walk.proofs.choose.largest_tail.Given as goal

abbrev pub invariant-loop-j : goal.invariant-loop-j
invariant-loop-j l = (f : ℕ → Tree) → max l.best (largest_tail l.n (cases_for f l.tree (l.i + l.j) (l.tails - l.j))) ≡ largest_tail l.n (cases_for f l.tree l.i l.tails)
