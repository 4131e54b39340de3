-- Laws of `every`, `lowest` and `times`: what a loop over i, i + 1, .. uses, and what their answers say of each number.
-- In the `-next` laws n - i numbers are left from i on, as in a loop's invariant.
use Rattle.std.proofs.Math.Path.{◌≡◌, refl, ap, sym}
use Rattle.std.proofs.Common.{◌∙◌, inl, inr, add-one}
use Rattle.std.specs.Prelude.{◌⊎◌, Bool}
use Rattle.std.proofs.Math.Logic.{⊎_elim}
use Rattle.std.proofs.Math.Bool.{true, false}
use Rattle.std.proofs.Math.Option.{Option, none, some}
use Prim.Native.Nat.{ℕ, zero, suc, ◌+◌, ◌-◌, ◌≤◌, ◌<◌}
use native.Mathlib.Omega.{arith}
use Rattle.base_words.specs.Words.{both}
use Rattle.base_words.specs.WordsLaws.{both_true, both_make}
use Rattle.spec_rules.specs.Searching.{every, lowest, times}

-- i is the first, or it is one of the rest
pub first_or_rest : (i k n : ℕ) → i ≤ k → k < i + suc n → (k ≡ i) ⊎ ((i + 1 ≤ k) × (k < i + 1 + n))
first_or_rest i k n low high = go (k - i) refl
  where
    go : (d : ℕ) → k - i ≡ d → (k ≡ i) ⊎ ((i + 1 ≤ k) × (k < i + 1 + n))
    go zero e = inl (omega arith)
    go (suc d) e = inr (omega arith, omega arith)

module _ (f : ℕ → Bool) where
  -- ---- every
  pub every_next : (i n : ℕ) → i < n → every f i (n - i) ≡ both (f i) (every f (i + 1) (n - (i + 1)))
  unfolding every
  every_next i n h = let e : n - i ≡ suc (n - (i + 1)) = omega arith in rw e

  pub every_end : (i n : ℕ) → n ≤ i → every f i (n - i) ≡ true
  unfolding every
  every_end i n h = let e : n - i ≡ 0 = omega arith in rw e

  pub every_on : (i n : ℕ) → i < n → f i ≡ true → every f (i + 1) (n - (i + 1)) ≡ every f i (n - i)
  every_on i n h e = rw (every_next i n h, e)

  pub every_stop : (i n : ℕ) → i < n → f i ≡ false → every f i (n - i) ≡ false
  every_stop i n h e = rw (every_next i n h, e)

  pub every_true : (i n : ℕ) → every f i n ≡ true → (k : ℕ) → i ≤ k → k < i + n → f k ≡ true
  unfolding every
  every_true i zero h k low high = absurd (omega arith)
  every_true i (suc n) h k low high =
      let p = both_true (f i) (every f (i + 1) n) h in
      ⊎_elim (λ e. rw e p.0) (λ w. every_true (i + 1) n p.1 k w.0 w.1) (first_or_rest i k n low high)

  pub every_make : (i n : ℕ) → ((k : ℕ) → i ≤ k → k < i + n → f k ≡ true) → every f i n ≡ true
  unfolding every
  every_make i zero h = refl
  every_make i (suc n) h =
      both_make (f i) (every f (i + 1) n) (h i (omega arith) (omega arith)) (every_make (i + 1) n (λ k low high. h k (omega arith) (omega arith)))

  pub every_false : (i n k : ℕ) → i ≤ k → k < i + n → f k ≡ false → every f i n ≡ false
  every_false i n k low high e = go (every f i n) refl
    where
      go : (b : Bool) → every f i n ≡ b → every f i n ≡ false
      go false x = x
      go true x = let y = every_true i n x k low high in let z : true ≡ false = cc in cc

  -- ---- lowest
  lowest_step : ℕ → ℕ → Bool → Option ℕ
  lowest_step i n b = elim b [ true ↦ some i | false ↦ lowest f (i + 1) n ]

  lowest_next : (i n : ℕ) → i < n → lowest f i (n - i) ≡ lowest_step i (n - (i + 1)) (f i)
  unfolding lowest lowest_step
  lowest_next i n h = let d : n - i ≡ suc (n - (i + 1)) = omega arith in rw d

  pub lowest_found : (i n : ℕ) → i < n → f i ≡ true → lowest f i (n - i) ≡ some i
  unfolding lowest_step
  lowest_found i n h e = lowest_next i n h ∙ ap (lowest_step i (n - (i + 1))) e

  pub lowest_on : (i n : ℕ) → i < n → f i ≡ false → lowest f (i + 1) (n - (i + 1)) ≡ lowest f i (n - i)
  unfolding lowest_step
  lowest_on i n h e = ap (lowest_step i (n - (i + 1))) (sym e) ∙ sym (lowest_next i n h)

  pub lowest_end : (i n : ℕ) → n ≤ i → lowest f i (n - i) ≡ none
  unfolding lowest
  lowest_end i n h = let e : n - i ≡ 0 = omega arith in rw e

  pub lowest_none : (i n : ℕ) → lowest f i n ≡ none → (k : ℕ) → i ≤ k → k < i + n → f k ≡ false
  unfolding lowest
  lowest_none i zero h k low high = absurd (omega arith)
  lowest_none i (suc n) h k low high = go (f i) refl h (λ x l g. lowest_none (i + 1) n x k l g)
    where
      go : (b : Bool) → f i ≡ b → ◌≡◌ {A = Option ℕ} (elim b [ true ↦ some i | false ↦ lowest f (i + 1) n ]) none
          → (lowest f (i + 1) n ≡ none → i + 1 ≤ k → k < i + 1 + n → f k ≡ false) → f k ≡ false
      go true e x ih = let z : ◌≡◌ {A = ℕ} 0 1 = cc in absurd (omega arith)
      go false e x ih = ⊎_elim (λ d. rw d e) (λ w. ih x w.0 w.1) (first_or_rest i k n low high)

  pub lowest_make_none : (i n : ℕ) → ((k : ℕ) → i ≤ k → k < i + n → f k ≡ false) → lowest f i n ≡ none
  unfolding lowest
  lowest_make_none i zero h = refl
  lowest_make_none i (suc n) h = rw (lowest, h i (omega arith) (omega arith)) (lowest_make_none (i + 1) n (λ k low high. h k (omega arith) (omega arith)))

-- what a lowest number is
pub record Lowest (f : ℕ → Bool) (i n k : ℕ) : Type 0 where
  pub from : i ≤ k
  pub to : k < i + n
  pub has : f k ≡ true
  pub none_below : (j : ℕ) → i ≤ j → j < k → f j ≡ false

module _ (f : ℕ → Bool) where
  pub lowest_some : (i n k : ℕ) → lowest f i n ≡ some k → Lowest f i n k
  unfolding lowest
  lowest_some i zero k h = let z : ◌≡◌ {A = ℕ} 0 1 = cc in absurd (omega arith)
  lowest_some i (suc n) k h = go (f i) refl h (lowest_some (i + 1) n k)
    where
      below : (b : Bool) → f i ≡ b → b ≡ false → Lowest f (i + 1) n k → (j : ℕ) → i ≤ j → j < k → f j ≡ false
      below b e x l j low high =
          ⊎_elim (λ d. rw d (e ∙ x)) (λ w. l.none_below j w.0 high) (first_or_rest i j n low (omega (arith, l.to)))

      later : f i ≡ false → Lowest f (i + 1) n k → Lowest f i (suc n) k
      later e l = record {
        from = omega (arith, l.from);
        to = omega (arith, l.to);
        has = l.has;
        none_below = below false e refl l;
      }

      go : (b : Bool) → f i ≡ b → ◌≡◌ {A = Option ℕ} (elim b [ true ↦ some i | false ↦ lowest f (i + 1) n ]) (some k)
          → (lowest f (i + 1) n ≡ some k → Lowest f (i + 1) n k) → Lowest f i (suc n) k
      go true e x ih =
          let d : i ≡ k = cc in
          record { from = omega arith; to = omega arith; has = rw d at e; none_below = λ j low high. absurd (omega arith) }
      go false e x ih = later e (ih x)

  -- ---- times
  times_step : ℕ → ℕ → Bool → ℕ
  times_step i n b = elim b [ true ↦ suc (times f (i + 1) n) | false ↦ times f (i + 1) n ]

  times_next : (i n : ℕ) → i < n → times f i (n - i) ≡ times_step i (n - (i + 1)) (f i)
  unfolding times times_step
  times_next i n h = let d : n - i ≡ suc (n - (i + 1)) = omega arith in rw d

  pub times_yes : (i n : ℕ) → i < n → f i ≡ true → times f i (n - i) ≡ times f (i + 1) (n - (i + 1)) + 1
  unfolding times_step
  times_yes i n h e = times_next i n h ∙ ap (times_step i (n - (i + 1))) e ∙ sym (add-one (times f (i + 1) (n - (i + 1))))

  pub times_no : (i n : ℕ) → i < n → f i ≡ false → times f i (n - i) ≡ times f (i + 1) (n - (i + 1))
  unfolding times_step
  times_no i n h e = times_next i n h ∙ ap (times_step i (n - (i + 1))) e

  pub times_end : (i n : ℕ) → n ≤ i → times f i (n - i) ≡ 0
  unfolding times
  times_end i n h = let e : n - i ≡ 0 = omega arith in rw e

  pub times_most : (i n : ℕ) → times f i n ≤ n
  unfolding times
  times_most i zero = omega arith
  times_most i (suc n) = go (f i) (times_most (i + 1) n)
    where
      go : (b : Bool) → times f (i + 1) n ≤ n → (elim b [ true ↦ suc (times f (i + 1) n) | false ↦ times f (i + 1) n ]) ≤ suc n
      go true h = omega arith
      go false h = omega arith

  -- one number of which f holds counts; where it counts once, any two such numbers are the same
  pub times_some : (i n k : ℕ) → i ≤ k → k < i + n → f k ≡ true → 1 ≤ times f i n
  unfolding times
  times_some i zero k low high e = absurd (omega arith)
  times_some i (suc n) k low high e = go (f i) refl (first_or_rest i k n low high) (λ l h. times_some (i + 1) n k l h e)
    where
      go : (b : Bool) → f i ≡ b → (k ≡ i) ⊎ ((i + 1 ≤ k) × (k < i + 1 + n)) → (i + 1 ≤ k → k < i + 1 + n → 1 ≤ times f (i + 1) n)
          → 1 ≤ (elim b [ true ↦ suc (times f (i + 1) n) | false ↦ times f (i + 1) n ])
      go true x w ih = omega arith
      go false x w ih = ⊎_elim (λ d. let y : true ≡ false = sym e ∙ ap f d ∙ x in let z : ◌≡◌ {A = ℕ} 0 1 = cc in absurd (omega arith)) (λ l. ih l.0 l.1) w

  pub times_found : (i n : ℕ) → 1 ≤ times f i n → (k : ℕ) × (i ≤ k) × (k < i + n) × (f k ≡ true)
  unfolding times
  times_found i zero h = absurd (omega arith)
  times_found i (suc n) h = go (f i) refl h (times_found (i + 1) n)
    where
      go : (b : Bool) → f i ≡ b → 1 ≤ (elim b [ true ↦ suc (times f (i + 1) n) | false ↦ times f (i + 1) n ])
          → (1 ≤ times f (i + 1) n → (k : ℕ) × (i + 1 ≤ k) × (k < i + 1 + n) × (f k ≡ true)) → (k : ℕ) × (i ≤ k) × (k < i + suc n) × (f k ≡ true)
      go true e x ih = (i, omega arith, omega arith, e)
      go false e x ih = let w = ih x in (w.0, omega (arith, w.1), omega (arith, w.2), w.3)

  pub times_one : (i n j k : ℕ) → times f i n ≤ 1 → i ≤ j → j < i + n → f j ≡ true → i ≤ k → k < i + n → f k ≡ true → j ≡ k
  unfolding times
  times_one i zero j k h lj hj ej lk hk ek = absurd (omega arith)
  times_one i (suc n) j k h lj hj ej lk hk ek =
      go (f i) refl h (first_or_rest i j n lj hj) (first_or_rest i k n lk hk)
      (λ y a b. times_one (i + 1) n j k y a.0 a.1 ej b.0 b.1 ek)
    where
      clash : f i ≡ false → (m : ℕ) → f m ≡ true → m ≡ i → ⊥
      clash x m e d = let y : true ≡ false = sym e ∙ ap f d ∙ x in let z : ◌≡◌ {A = ℕ} 0 1 = cc in omega arith

      go : (b : Bool) → f i ≡ b → (elim b [ true ↦ suc (times f (i + 1) n) | false ↦ times f (i + 1) n ]) ≤ 1
          → (j ≡ i) ⊎ ((i + 1 ≤ j) × (j < i + 1 + n)) → (k ≡ i) ⊎ ((i + 1 ≤ k) × (k < i + 1 + n))
          → (times f (i + 1) n ≤ 1 → (i + 1 ≤ j) × (j < i + 1 + n) → (i + 1 ≤ k) × (k < i + 1 + n) → j ≡ k) → j ≡ k
      go true x y (inl a) (inl b) ih = a ∙ sym b
      go true x y (inl a) (inr b) ih = absurd (omega (arith, times_some (i + 1) n k b.0 b.1 ek))
      go true x y (inr a) (inl b) ih = absurd (omega (arith, times_some (i + 1) n j a.0 a.1 ej))
      go true x y (inr a) (inr b) ih = absurd (omega (arith, times_some (i + 1) n j a.0 a.1 ej))
      go false x y (inl a) (inl b) ih = a ∙ sym b
      go false x y (inl a) (inr b) ih = absurd (clash x j ej a)
      go false x y (inr a) (inl b) ih = absurd (clash x k ek b)
      go false x y (inr a) (inr b) ih = ih y a b

-- ---- tests that agree
pub lowest_agree : (f g : ℕ → Bool) (i n : ℕ) → ((k : ℕ) → i ≤ k → k < i + n → f k ≡ g k) → lowest f i n ≡ lowest g i n
unfolding lowest
lowest_agree f g i zero h = refl
lowest_agree f g i (suc n) h = go (g i) (h i (omega arith) (omega arith)) (lowest_agree f g (i + 1) n (λ k low high. h k (omega arith) (omega arith)))
  where
    go : (b : Bool) → f i ≡ b → lowest f (i + 1) n ≡ lowest g (i + 1) n
        → ◌≡◌ {A = Option ℕ} (elim (f i) [ true ↦ some i | false ↦ lowest f (i + 1) n ]) (elim b [ true ↦ some i | false ↦ lowest g (i + 1) n ])
    go true e ih = rw e
    go false e ih = rw e ih

pub times_agree : (f g : ℕ → Bool) (i n : ℕ) → ((k : ℕ) → i ≤ k → k < i + n → f k ≡ g k) → times f i n ≡ times g i n
unfolding times
times_agree f g i zero h = refl
times_agree f g i (suc n) h = go (g i) refl (times_agree f g (i + 1) n (λ k low high. h k (omega arith) (omega arith)))
  where
    go : (b : Bool) → g i ≡ b → times f (i + 1) n ≡ times g (i + 1) n → times f i (suc n) ≡ times g i (suc n)
    go true e ih = rw (h i (omega arith) (omega arith) ∙ e, e, times) (ap suc ih)
    go false e ih = rw (h i (omega arith) (omega arith) ∙ e, e, times) ih
