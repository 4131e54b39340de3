-- What `all`, `any` and `find` answer over a range of numbers, where the closure answers for each number by one rule and stays as it was.
-- An answer cites the clause `ran` of that call, the range's two ends, and what one call of the closure says.
use Rattle.std.specs.Prelude.{ℕ, ◌+◌, ◌-◌, ◌<◌, ◌≤◌, Bool, true, false, List, length, get_or, Option, Some, None}
use Rattle.std.proofs.Common.{◌≡◌, Bor, zero, suc}
use Rattle.std.proofs.Math.Logic.{⊎_elim}
use Rattle.std.proofs.Math.Option.{some}
use Rattle.std.proofs.Math.Path.{ap, ap₂, sym, subst}
use native.Mathlib.Omega.{arith}
use denote.Param.Members.{Mut}
use Rattle.std.specs.Bool.{MatchBool}
use Rattle.std.specs.Option.{MatchOption, IsSomeAnd}
use Rattle.std.specs.Iterator.{ChecksAll, FindsItem}
use Rattle.std.specs.List.{range_with_len, AllWithin, HoldsAt}
use Rattle.std.specs.Fn.{Called, CalledAt}
use Rattle.std.specs.declared.ops.Range.{Range}
use Rattle.std.proofs.iter.Yields.{nat_range_steps}
use Rattle.std.proofs.lemmas.Iterator.{YieldsList-from_range, cases_from_all, first_from_Range}
use Rattle.std.proofs.lemmas.List.FromFn.{length-range_with_len, get_or-range_with_len}
use Rattle.spec_rules.specs.Searching.{every, lowest}
use Rattle.spec_rules.specs.SearchingLaws.{every_make, every_false, lowest_make_none, first_or_rest}
use Rattle.spec_rules.specs.Found.{found}

module _ (rule : ℕ → Bool) (a n : ℕ) where
  abbrev numbers : List ℕ
  numbers = range_with_len a n

  there : (k : ℕ) → k < n → get_or numbers k 0 ≡ a + k
  there k low = get_or-range_with_len a n k 0 low

  long : length numbers ≡ n
  long = length-range_with_len a n

  decided : (r : Bool) → MatchBool r (AllWithin (λ x. rule x ≡ true) numbers 0 (length numbers)) ((k : ℕ) × (k < length numbers) × HoldsAt (λ x. rule x ≡ false) numbers k)
      → r ≡ every rule a n
  decided true h = sym (every_make rule a n (λ k low high.
      let e : get_or numbers (k - a) 0 ≡ k = omega (arith, there (k - a) (omega arith)) in
      subst (λ x. rule x ≡ true) {x = get_or numbers (k - a) 0} {y = k} e (h (k - a) 0 (omega arith) (omega (arith, long)))))
  decided false (k, low, h) =
      let j : k < n = omega (arith, long) in
      sym (every_false rule a n (a + k) (omega arith) (omega arith) (subst (λ x. rule x ≡ false) {x = get_or numbers k 0} {y = a + k} (there k j) (h 0)))

both_ends : (s : Range ℕ) (a b : ℕ) → s.start ≡ a → s.end ≡ b → s ≡ record { start = a; end = b }
both_ends s a b e h = ap₂ (λ x y. record { start = x; end = y }) e h

-- ---- `all`
module _ {F : Type 0} {g : Mut F (ℕ × Unit {0}) Bool} {s u : Range ℕ} {f : F} {r : Bool} (rule : ℕ → Bool) where
  -- from a on, n numbers
  pub all_from : (a n : ℕ) → ChecksAll nat_range_steps g s f r u → s.start ≡ a → s.end ≡ a + n
      → ((x : ℕ) (b : Bool) (q : F) → Called g f (x, tt) b q → (q ≡ f) × (b ≡ rule x)) → r ≡ every rule a n
  all_from a n ran start end says =
      decided rule a n r
      (cases_from_all u f r (λ x. rule x ≡ true) (λ x. rule x ≡ false) ran (YieldsList-from_range a (a + n) n (both_ends s a (a + n) start end) (omega arith))
      (λ x q e. let h = says x true q e in (h.0, sym h.1)) (λ x q e. sym (says x false q e).1))

  -- below n
  pub all_below : (n : ℕ) → ChecksAll nat_range_steps g s f r u → s.start ≡ 0 → s.end ≡ n
      → ((x : ℕ) (b : Bool) (q : F) → Called g f (x, tt) b q → (q ≡ f) × (b ≡ rule x)) → r ≡ every rule 0 n
  all_below n ran start end says = all_from 0 n ran start (omega (arith, end)) says

-- ---- `find`
module _ (rule : ℕ → Bool) where
  lowest_is : (a n k : ℕ) → a ≤ k → k < a + n → rule k ≡ true → ((j : ℕ) → a ≤ j → j < k → rule j ≡ false) → lowest rule a n ≡ some k
  unfolding lowest
  lowest_is a zero k low high has below = absurd (omega arith)
  lowest_is a (suc n) k low high has below =
      ⊎_elim
      (λ e. let here : rule a ≡ true = subst (λ x. rule x ≡ true) e has in rw (lowest, here) (ap some (sym e)))
      (λ w. let not_here : rule a ≡ false = below a (omega arith) (omega (arith, w.0)) in
      rw (lowest, not_here) (lowest_is (a + 1) n k w.0 w.1 has (λ j x y. below j (omega arith) y)))
      (first_or_rest a k n low high)

  first_is : (s : Range ℕ) (a n : ℕ) (r : Option ℕ) → s.start ≡ a → s.end ≡ a + n
      → MatchOption r ((k : ℕ) → s.start ≤ k → k < s.end → rule k ≡ false) (λ i. (s.start ≤ i) × (i < s.end) × (rule i ≡ true) × ((k : ℕ) → s.start ≤ k → k < i → rule k ≡ false))
      → r ≡ found (lowest rule a n)
  first_is s a n None start end h = sym (ap found (lowest_make_none rule a n (λ k low high. h k (omega (arith, start)) (omega (arith, end)))))
  first_is s a n (Some i) start end h =
      sym (ap found (lowest_is a n i (omega (arith, start, h.0)) (omega (arith, end, h.1)) h.2 (λ k low high. h.3 k (omega (arith, start)) high)))

module _ {F : Type 0} {g : Mut F (Bor ℕ × Unit {0}) Bool} {s : Range ℕ} {f : F} {r : Option ℕ} (rule : ℕ → Bool) (u : Range ℕ) where
  -- from a on, n numbers
  pub find_from : (a n : ℕ) → FindsItem nat_range_steps g s f r u → s.start ≡ a → s.end ≡ a + n
      → ((x : ℕ) (b : Bool) (q : F) → CalledAt g f x b q → (q ≡ f) × (b ≡ rule x)) → r ≡ found (lowest rule a n)
  find_from a n ran start end says =
      first_is rule s a n r start end
      (first_from_Range s u f r (λ k. rule k ≡ true) (λ k. rule k ≡ false) ran (λ x q e. sym (says x true q e).1) (λ x q e. let h = says x false q e in (h.0, sym h.1)))

  -- below n
  pub find_below : (n : ℕ) → FindsItem nat_range_steps g s f r u → s.start ≡ 0 → s.end ≡ n
      → ((x : ℕ) (b : Bool) (q : F) → CalledAt g f x b q → (q ≡ f) × (b ≡ rule x)) → r ≡ found (lowest rule 0 n)
  find_below n ran start end says = find_from 0 n ran start (omega (arith, end)) says

-- the number found, kept as another type
pub kept_by_map : {P : ℕ → ℕ → Type 0} (r r' : Option ℕ) → MatchOption r (r' ≡ None) (λ x. IsSomeAnd r' (P x)) → ((x y : ℕ) → P x y → y ≡ x) → r' ≡ r
kept_by_map None r' h same = h
kept_by_map {P = P} (Some x) None h same = elim h [ ]
kept_by_map (Some x) (Some y) h same = ap Some (same x y h)
