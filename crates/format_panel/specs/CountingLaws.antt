-- Counting: sums of numbers that are at most 1, a sum that grows at one number, and a test that holds of one number at most.
-- Rests on the sums of the crate format_parts, and on the laws of `times`.
use Rattle.std.specs.Prelude.{◌≡◌, ◌⊎◌, Bool, eqb}
use Rattle.std.proofs.Math.Path.{refl}
use Rattle.std.proofs.Common.{◌∙◌, inl, inr, ⊎_elim, eqb-true}
use Rattle.std.proofs.Math.Bool.{true, false}
use Prim.Native.Nat.{ℕ, zero, suc, ◌+◌, ◌≤◌, ◌<◌}
use native.Mathlib.Omega.{arith}
use Rattle.std.proofs.lemmas.Bool.{eqb-false}
use Rattle.base_words.specs.Words.{pick}
use Rattle.spec_rules.specs.Searching.{times}
use Rattle.spec_rules.specs.SearchingLaws.{first_or_rest}
use Rattle.format_parts.specs.Sums.{sum, sum_same, sum_most, sum_split, sum_times}

pub same_or_not : (q p : ℕ) → (q ≡ p) ⊎ (q ≡ p → ⊥)
same_or_not q p = go (eqb q p) refl
  where
    go : (b : Bool) → eqb q p ≡ b → (q ≡ p) ⊎ (q ≡ p → ⊥)
    go true e = inl (eqb-true q p e)
    go false e = inr (eqb-false q p e)

-- ---- sums
pub sum_next : (f : ℕ → ℕ) (n : ℕ) → sum f 0 (n + 1) ≡ sum f 0 n + f n
unfolding sum
sum_next f n = let e : 0 + n ≡ n = omega arith in sum_split f 0 n 1 ∙ rw e (omega arith)

-- one more at one number, and the same elsewhere
pub sum_grows : (f g : ℕ → ℕ) (i n p : ℕ) → i ≤ p → p < i + n → g p ≡ f p + 1 → ((k : ℕ) → (k ≡ p → ⊥) → g k ≡ f k) → sum g i n ≡ sum f i n + 1
unfolding sum
sum_grows f g i zero p low high one other = absurd (omega arith)
sum_grows f g i (suc n) p low high one other =
    ⊎_elim here (λ w. later w (sum_grows f g (i + 1) n p w.0 w.1 one other)) (first_or_rest i p n low high)
  where
    here : p ≡ i → g i + sum g (i + 1) n ≡ f i + sum f (i + 1) n + 1
    here e =
        let rest = sum_same g f (i + 1) n (λ k l h. other k (λ d. omega arith)) in
        let first : g i ≡ f i + 1 = rw (← e) one in
        omega arith

    later : (i + 1 ≤ p) × (p < i + 1 + n) → sum g (i + 1) n ≡ sum f (i + 1) n + 1 → g i + sum g (i + 1) n ≡ f i + sum f (i + 1) n + 1
    later w rest = let first = other i (λ d. omega (arith, w.0)) in omega arith

-- where each is 1, the sum is n; where each is at most 1 and the sum is n, each is 1
pub sum_all_one : (f : ℕ → ℕ) (i n : ℕ) → ((k : ℕ) → i ≤ k → k < i + n → f k ≡ 1) → sum f i n ≡ n
unfolding sum
sum_all_one f i zero h = refl
sum_all_one f i (suc n) h =
    let first = h i (omega arith) (omega arith) in
    let rest = sum_all_one f (i + 1) n (λ k low high. h k (omega arith) (omega arith)) in
    omega arith

pub sum_each_one : (f : ℕ → ℕ) (i n : ℕ) → ((k : ℕ) → i ≤ k → k < i + n → f k ≤ 1) → sum f i n ≡ n → (k : ℕ) → i ≤ k → k < i + n → f k ≡ 1
unfolding sum
sum_each_one f i zero h e k low high = absurd (omega arith)
sum_each_one f i (suc n) h e k low high =
    ⊎_elim (λ d. rw d first) (λ w. sum_each_one f (i + 1) n (λ j l g. h j (omega arith) (omega arith)) rest k w.0 w.1)
    (first_or_rest i k n low high)
  where
    most : sum f (i + 1) n ≤ n
    most = sum_most f (i + 1) n (λ j l g. h j (omega arith) (omega arith))

    first : f i ≡ 1
    first = let one = h i (omega arith) (omega arith) in omega (arith, most)

    rest : sum f (i + 1) n ≡ n
    rest = let one = h i (omega arith) (omega arith) in omega (arith, most)

-- ---- how often a test holds
module _ (f : ℕ → Bool) where
  pub times_sum : (n : ℕ) → times f 0 n ≡ sum (λ k. pick (f k) 1 0) 0 n
  times_sum n = omega (arith, sum_times f 1 0 n)

  times_front : (i n : ℕ) → times f i (suc n) ≡ pick (f i) 1 0 + times f (i + 1) n
  unfolding times
  times_front i n = go (f i)
    where
      go : (b : Bool) → (elim b [ true ↦ suc (times f (i + 1) n) | false ↦ times f (i + 1) n ]) ≡ pick b 1 0 + times f (i + 1) n
      go true = omega arith
      go false = omega arith

  times_none : (i n : ℕ) → ((k : ℕ) → i ≤ k → k < i + n → f k ≡ false) → times f i n ≡ 0
  unfolding times
  times_none i zero h = refl
  times_none i (suc n) h =
      times_front i n
      ∙ rw (h i (omega arith) (omega arith)) (let rest = times_none (i + 1) n (λ k low high. h k (omega arith) (omega arith)) in omega arith)

  -- where any two numbers of which f holds are the same, f holds of one at most
  pub times_alone : (i n : ℕ) → ((j k : ℕ) → i ≤ j → j < i + n → i ≤ k → k < i + n → f j ≡ true → f k ≡ true → j ≡ k) → times f i n ≤ 1
  unfolding times
  times_alone i zero h = omega arith
  times_alone i (suc n) h = go (f i) refl (times_alone (i + 1) n (λ j k a b c d. h j k (omega arith) (omega arith) (omega arith) (omega arith)))
    where
      rest : f i ≡ true → (k : ℕ) → i + 1 ≤ k → k < i + 1 + n → f k ≡ false
      rest e k low high = each (f k) refl
        where
          each : (b : Bool) → f k ≡ b → f k ≡ false
          each true x = absurd (omega (arith, h i k (omega arith) (omega arith) (omega arith) (omega arith) e x))
          each false x = x

      go : (b : Bool) → f i ≡ b → times f (i + 1) n ≤ 1 → times f i (suc n) ≤ 1
      go true e ih = let front = rw e at (times_front i n) in omega (arith, times_none (i + 1) n (rest e))
      go false e ih = let front = rw e at (times_front i n) in omega arith
