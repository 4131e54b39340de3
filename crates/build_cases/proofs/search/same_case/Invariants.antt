-- `build_cases::search::same_case` meets its contract. Of the outer loop: what the search gives from here is what it gives from the start; of
-- the inner one: the bytes so far are equal.
use mathlib.Core.Path.{◌≡◌}
use Prim.Native.Nat.{ℕ, ◌+◌, ◌-◌, ◌≤◌, ◌<◌}
use lib.ListN.{get_or}
use Rattle.build_cases.specs.Fields.{has_test, first_where}
use Rattle.build_cases.proofs.search.same_case.Given as goal

abbrev pub invariant-loop-k : goal.invariant-loop-k
invariant-loop-k l = (l.k ≤ l.len) × ((j : ℕ) → j < l.k → get_or l.sheet (l.other + j) 0 ≡ get_or l.sheet (l.start + j) 0)

abbrev pub decreases-loop-k : goal.decreases-loop-k
decreases-loop-k l = l.len - l.k

abbrev pub invariant-cases : goal.invariant-cases
invariant-cases l =
    (l.from ≤ l.i) × (l.i ≤ l.to) × (first_where (has_test l.sheet l.work l.fields.kind l.fields.number l.fields.len) l.i (l.to - l.i) ≡ first_where (has_test l.sheet l.work l.fields.kind l.fields.number l.fields.len) l.from (l.to - l.from))

abbrev pub decreases-cases : goal.decreases-cases
decreases-cases l = l.to - l.i
