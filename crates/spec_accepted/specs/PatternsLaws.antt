-- The laws by which patterns are read from a sheet: a pattern opens one level, its children stand along the child list, and it keeps
-- its number and type. Rests on the shape of the sheet: a child's number is larger, so that the number of patterns is deep enough.
use Rattle.std.specs.Prelude.{◌≡◌, List}
use Rattle.std.proofs.Math.Path.{refl, ap, ap₂}
use Rattle.std.proofs.Common.{◌∙◌, add-one}
use Prim.Native.Nat.{ℕ, zero, suc, ◌+◌, ◌-◌, ◌≤◌, ◌<◌}
use native.Mathlib.Omega.{arith}
use Rattle.spec_rules.specs.Limits.{patterns_most}
use Rattle.spec_rules.specs.SheetFile.{patterns, entry, pattern_kind, pattern_a, pattern_first, pattern_count, child}
use Rattle.spec_rules.specs.Patterns.{PatternKind, Discard, Variable, Assign, Integer, ByteString, ListOfAll, ListWithRest, Constructor, Pair, Tuple, Unknown, pattern_kind_of, pairs, tuples, Pat, Pats, assign, listed, tailed, opened, pnil, pcons, many, one_constructor, decorated, along, of_constructor, of_kind, pattern_to, pattern}
use Rattle.spec_rules.specs.SheetRefusals.{has_children}
use Rattle.spec_accepted.specs.KindsLaws.{pattern_byte}
use Rattle.spec_accepted.specs.SheetFacts.{Counted, Parent, Owns, Shaped, owned_pattern}

-- ---- children along the child list
module _ (f : ℕ → ℕ → Pat) (s : List ℕ) where
  pub along_none : (j e step : ℕ) → along f s j 0 e step ≡ pnil
  unfolding along
  along_none j e step = refl

  pub along_more : (j n e step : ℕ) → along f s j (n + 1) e step ≡ pcons (f (child s j) (entry s e)) (along f s (j + 1) n (e + step) step)
  unfolding along
  along_more j n e step = rw (add-one n)

  pub along_some : (j n e step : ℕ) → (n ≡ 0 → ⊥) → along f s j n e step ≡ pcons (f (child s j) (entry s e)) (along f s (j + 1) (n - 1) (e + step) step)
  along_some j n e step h =
      let q : n ≡ n - 1 + 1 = omega arith in
      ap (λ (k : ℕ). along f s j k e step) q ∙ along_more j (n - 1) e step

  pub many_along : (j n e step : ℕ) → many (along f s j n e step) ≡ n
  unfolding along many
  many_along j zero e step = refl
  many_along j (suc n) e step = ap suc (many_along (j + 1) n (e + step) step)

-- made by two functions that agree at each child
pub along_same : (f g : ℕ → ℕ → Pat) (s : List ℕ) (j n e step : ℕ) → ((i u : ℕ) → j ≤ i → i < j + n → f (child s i) u ≡ g (child s i) u)
    → along f s j n e step ≡ along g s j n e step
unfolding along
along_same f g s j zero e step h = refl
along_same f g s j (suc n) e step h =
    ap₂ pcons (h j (entry s e) (omega arith) (omega arith)) (along_same f g s (j + 1) n (e + step) step (λ i u low high. h i u (omega arith) (omega arith)))

-- ---- a pattern by its kind, its children made by two functions that agree at each
module _ (s : List ℕ) (sh : Shaped s) (p t : ℕ) (known : p < patterns s) (f g : ℕ → ℕ → Pat)
    (agree : (j u : ℕ) → Owns s p j → f (child s j) u ≡ g (child s j) u) where
  along_owned : Parent s p → (n e step : ℕ) → n ≤ pattern_count s p → along f s (pattern_first s p) n e step ≡ along g s (pattern_first s p) n e step
  along_owned has n e step h =
      along_same f g s (pattern_first s p) n e step (λ i u low high. agree i u (record { parent = has; from = low; to = omega arith }))

  pub of_kind_same : (kind : PatternKind) → pattern_kind_of (pattern_kind s p) ≡ kind → of_kind f s p t kind ≡ of_kind g s p t kind
  unfolding of_kind has_children
  of_kind_same Discard e = refl
  of_kind_same Variable e = refl
  of_kind_same Assign e =
      let one = sh.assign_one p known (pattern_byte _ Assign e (omega arith)) in
      ap (assign (record { number = p; type = t }) (pattern_a s p)) (agree (pattern_first s p) t (record { parent = ap has_children e; from = omega arith; to = omega arith }))
  of_kind_same Integer e = refl
  of_kind_same ByteString e = refl
  of_kind_same ListOfAll e = ap (listed (record { number = p; type = t })) (along_owned (ap has_children e) (pattern_count s p) _ _ (omega arith))
  of_kind_same ListWithRest e =
      let two = sh.tail_after_some p known (pattern_byte _ ListWithRest e (omega arith)) in
      ap₂ (tailed (record { number = p; type = t })) (along_owned (ap has_children e) (pattern_count s p - 1) _ _ (omega arith))
      (agree (pattern_first s p + (pattern_count s p - 1)) t (record { parent = ap has_children e; from = omega arith; to = omega arith }))
  of_kind_same Constructor e =
      ap (λ (qs : Pats). of_constructor (record { number = p; type = t }) (pattern_a s p) (decorated s t) qs (one_constructor s t)) (along_owned (ap has_children e) (pattern_count s p) _ _ (omega arith))
  of_kind_same Pair e = ap (opened (record { number = p; type = t }) pairs) (along_owned (ap has_children e) (pattern_count s p) _ _ (omega arith))
  of_kind_same Tuple e = ap (opened (record { number = p; type = t }) tuples) (along_owned (ap has_children e) (pattern_count s p) _ _ (omega arith))
  of_kind_same Unknown e = refl

-- ---- a pattern opens one level
module _ (s : List ℕ) (sh : Shaped s) where
  -- depths that reach past the last pattern are the same
  pub pattern_to_enough : (k l p t : ℕ) → p < patterns s → patterns s ≤ k + p → patterns s ≤ l + p → pattern_to k s p t ≡ pattern_to l s p t
  unfolding pattern_to
  pattern_to_enough zero l p t h a b = absurd (omega arith)
  pattern_to_enough (suc k) zero p t h a b = absurd (omega arith)
  pattern_to_enough (suc k) (suc l) p t h a b =
      of_kind_same s sh p t h (pattern_to k s) (pattern_to l s)
      (λ j u o.
      let above = sh.child_above p j h o in
      pattern_to_enough k l (child s j) u (owned_pattern sh p j h o) (omega arith) (omega arith))
      (pattern_kind_of (pattern_kind s p)) refl

  module _ (few : Counted s) (p t : ℕ) (h : p < patterns s) where
    pub pattern_deep : (deep : ℕ) → patterns s ≤ deep + p → pattern_to deep s p t ≡ pattern s p t
    unfolding pattern
    pattern_deep deep a = pattern_to_enough deep patterns_most p t h a (omega (arith, few.patterns_most_holds))

    pub pattern_open : pattern s p t ≡ of_kind (pattern s) s p t (pattern_kind_of (pattern_kind s p))
    unfolding pattern pattern_to
    pattern_open =
        of_kind_same s sh p t h (pattern_to (patterns_most - 1) s) (pattern s)
        (λ j u o.
        let above = sh.child_above p j h o in
        pattern_to_enough (patterns_most - 1) patterns_most (child s j) u (owned_pattern sh p j h o) (omega (arith, few.patterns_most_holds)) (omega (arith, few.patterns_most_holds)))
        (pattern_kind_of (pattern_kind s p)) refl

    -- the same for a kind that is known
    pub pattern_of_kind : (kind : PatternKind) → pattern_kind_of (pattern_kind s p) ≡ kind → pattern s p t ≡ of_kind (pattern s) s p t kind
    pattern_of_kind kind e = pattern_open ∙ ap (of_kind (pattern s) s p t) e
