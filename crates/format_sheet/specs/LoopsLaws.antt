-- The laws of the loops that call what a closure could not: what is left is the whole, as long as each number passed.
-- Rests on the laws of `lowest` in spec_rules.
use Rattle.std.specs.Prelude.{◌≡◌, Bool, true, false}
use Rattle.std.proofs.Math.Path.{ap, sym}
use Rattle.std.proofs.Common.{◌∙◌}
use Prim.Native.Nat.{ℕ, suc, ◌+◌, ◌-◌, ◌≤◌, ◌<◌}
use native.Mathlib.Omega.{arith}
use Rattle.base_words.specs.Words.{both}
use Rattle.spec_rules.specs.Searching.{every, lowest}
use Rattle.spec_rules.specs.SearchingLaws.{lowest_found, lowest_on, lowest_end}
use Rattle.std.specs.Prelude.{Option, Some, None}
use Rattle.spec_rules.specs.Found.{found}

module _ (f : ℕ → Bool) (n : ℕ) where
  -- ---- a loop that asks n numbers from `first` on, and counts k from 0
  abbrev pub EveryFrom : ℕ → ℕ → Type 0
  EveryFrom first k = every f (first + k) (n - k) ≡ every f first n

  module _ (first k : ℕ) (h : k < n) (left : EveryFrom first k) where
    from_next : every f (first + k) (n - k) ≡ both (f (first + k)) (every f (first + (k + 1)) (n - (k + 1)))
    unfolding every
    from_next =
        let e : n - k ≡ suc (n - (k + 1)) = omega arith in
        let g : first + k + 1 ≡ first + (k + 1) = omega arith in
        ap (every f (first + k)) e ∙ ap (λ (i : ℕ). both (f (first + k)) (every f i (n - (k + 1)))) g

    pub from_goes_on : f (first + k) ≡ true → EveryFrom first (k + 1)
    from_goes_on e = ap (λ (b : Bool). both b (every f (first + (k + 1)) (n - (k + 1)))) (sym e) ∙ sym from_next ∙ left

    pub from_stops : f (first + k) ≡ false → false ≡ every f first n
    from_stops e = ap (λ (b : Bool). both b (every f (first + (k + 1)) (n - (k + 1)))) (sym e) ∙ sym from_next ∙ left

  pub from_ends : (first k : ℕ) → n ≤ k → EveryFrom first k → true ≡ every f first n
  unfolding every
  from_ends first k h left = let e : n - k ≡ 0 = omega arith in sym (ap (every f (first + k)) e) ∙ left

  -- ---- a loop that looks for the lowest number
  abbrev pub LowestLeft : ℕ → Type 0
  LowestLeft i = lowest f i (n - i) ≡ lowest f 0 n

  module _ (i : ℕ) (h : i < n) (left : LowestLeft i) where
    pub lowest_goes_on : f i ≡ false → LowestLeft (i + 1)
    lowest_goes_on e = lowest_on f i n h e ∙ left

    pub lowest_stops : f i ≡ true → ◌≡◌ {A = Option ℕ} (Some i) (found (lowest f 0 n))
    lowest_stops e = ap found (sym (lowest_found f i n h e) ∙ left)

  pub lowest_ends : (i : ℕ) → n ≤ i → LowestLeft i → ◌≡◌ {A = Option ℕ} None (found (lowest f 0 n))
  lowest_ends i h left = ap found (sym (lowest_end f i n h) ∙ left)
