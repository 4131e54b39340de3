-- A way in the tree file, as the report says it: "the tests taken on the way" are switches of the file, each branch leads over hoists to the
-- next one's node, and the last to the reported switch, whose default field is 0.
use Rattle.std.specs.Prelude.{ℕ, suc, ◌+◌, ◌≤◌, ◌<◌, ◌≡◌, List, [], ◌∷◌}
use Rattle.spec_rules.specs.Hoisting.{Fallback, Case}
use Rattle.spec_rules.specs.TreeReader.{node_kind, node_first_case, node_cases, node_tail_cases, node_default, node_child, case_child}
use Rattle.spec_forgotten.specs.Values.{Passed}

-- from node k of the file t to switch n, by the tests ts
pub data FileWay (t : List ℕ) : ℕ → ℕ → List Passed → Type 0 where
  over_hoist : (k n : ℕ) (ts : List Passed) → node_kind t k ≡ 3 → FileWay t (node_child t k) n ts → FileWay t k n ts
  ends_here : (n : ℕ) → node_kind t n ≤ 1 → node_default t n ≡ 0 → FileWay t n n []
  by_case : (k i n : ℕ) (ts : List Passed) → node_kind t k ≤ 1 → i < node_cases t k + node_tail_cases t k → FileWay t (case_child t (node_first_case t k + i)) n ts
      → FileWay t k n (record { node = k; branch = Case i } ∷ ts)
  by_default : (k d n : ℕ) (ts : List Passed) → node_kind t k ≤ 1 → node_default t k ≡ suc d → FileWay t d n ts → FileWay t k n (record { node = k; branch = Fallback } ∷ ts)
