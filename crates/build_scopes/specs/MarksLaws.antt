-- Laws of what is read at one node, over plain values, as the code has them.
-- In a loop over a run of cases that ends before case `end`, end - j are left from case j on.
use Rattle.std.specs.Prelude.{◌≡◌, Bool, true, false, List, eqb}
use Rattle.std.proofs.Common.{subst}
use Prim.Native.Nat.{ℕ, zero, suc, ◌+◌, ◌-◌, ◌≤◌, ◌<◌}
use native.Mathlib.Omega.{arith}
use Rattle.std.proofs.Math.ListN.{get_or}
use Rattle.base_words.specs.Words.{pick}
use Rattle.spec_rules.specs.Limits.{nodes_most}
use Rattle.build_arena.specs.Arena.{case_child}
use Rattle.build_scopes.specs.Marks.{CasesInside, marked_cases, first_marked, marked_default}

-- a case of a run
pub case_there : {w : List ℕ} {i n m : ℕ} → CasesInside w i n m → (j : ℕ) → i ≤ j → j < i + n → case_child w j < m
case_there {w = w} {i = i} {m = m} h j low high = let e : i + (j - i) ≡ j = omega arith in subst (λ z. case_child w z < m) e (h.children (j - i) (omega arith))

module _ (w has : List ℕ) where
  -- ---- the sum of the marks
  pub marked_cases_next : (j end : ℕ) → j < end → marked_cases w has j (end - j) ≡ get_or has (case_child w j) 0 + marked_cases w has (j + 1) (end - (j + 1))
  unfolding marked_cases
  marked_cases_next j end l = let d : end - j ≡ suc (end - (j + 1)) = omega arith in rw d

  pub marked_cases_end : (j end : ℕ) → end ≤ j → marked_cases w has j (end - j) ≡ 0
  unfolding marked_cases
  marked_cases_end j end l = let d : end - j ≡ 0 = omega arith in rw d

  pub marked_cases_most : (i n : ℕ) → ((j : ℕ) → get_or has j 0 ≤ 1) → marked_cases w has i n ≤ n
  unfolding marked_cases
  marked_cases_most i zero most = omega arith
  marked_cases_most i (suc n) most = omega (arith, most (case_child w i), marked_cases_most (i + 1) n most)

  -- ---- the first marked child
  pub first_marked_next : (j end : ℕ) → j < end
      → first_marked w has j (end - j) ≡ pick (eqb (get_or has (case_child w j) 0) 1) (case_child w j) (first_marked w has (j + 1) (end - (j + 1)))
  unfolding first_marked
  first_marked_next j end l = let d : end - j ≡ suc (end - (j + 1)) = omega arith in rw d

  pub first_marked_end : (j end : ℕ) → end ≤ j → first_marked w has j (end - j) ≡ nodes_most
  unfolding first_marked
  first_marked_end j end l = let d : end - j ≡ 0 = omega arith in rw d

-- ---- the default
pub marked_default_most : (has : List ℕ) (default : ℕ) → ((j : ℕ) → get_or has j 0 ≤ 1) → marked_default has default ≤ 1
unfolding marked_default
marked_default_most has default most = go (eqb default 0)
  where
    go : (b : Bool) → pick b 0 (get_or has (default - 1) 0) ≤ 1
    go true = omega arith
    go false = most (default - 1)
