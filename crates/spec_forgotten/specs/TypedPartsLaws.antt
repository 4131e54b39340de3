-- The type of the part that a path leads to, by the value's own constructors: the part is of it, and a part of the same type may stand in
-- its place.
use Prim.Native.Nat.{ℕ, zero, suc, ◌+◌, ◌*◌}
use Rattle.std.proofs.Common.{arith, ap, ◌∙◌}
use Rattle.std.proofs.Math.Path.{◌≡◌, refl}
use Rattle.std.specs.Prelude.{Bool}
use Rattle.std.proofs.Math.Bool.{true, false}
use mathlib.Core.List.{List, [], ◌∷◌}
use Rattle.std.proofs.Math.Option.{Option, none, some}
use Rattle.std.proofs.Math.Dec.{eqb}
use Rattle.base_words.specs.Words.{both, pick}
use Rattle.base_words.specs.WordsLaws.{both_true, both_make}
use Rattle.spec_rules.specs.SheetFile.{entry}
use Rattle.spec_rules.specs.Rows.{Step, Path}
use Rattle.spec_rules.specs.Columns.{step_index}
use Rattle.spec_forgotten.specs.Values.{Whole, Value, Values, an_integer, a_byte_string, whole, vnil, vcons, whole_kind, many_values, takes_parts, parts_first, parts_step, of_type, of_types, nth_of, into_kind, is_tail, step_into, part_along}
use Rattle.spec_forgotten.specs.PuttingLaws.{change_nth, change_part, put_at, NoTails, many_change}

module _ (s : List ℕ) where
  -- the type of the part that a step leads to from a value of type t
  unfoldable pub part_type : ℕ → Step → Value → ℕ
  unfolding parts_first parts_step step_index entry
  part_type t u (an_integer w) = t
  part_type t u (a_byte_string w) = t
  part_type t u (whole k vs) = entry s (parts_first s t k + step_index u * parts_step k)

  unfoldable pub type_along : ℕ → Path → Value → ℕ
  unfolding part_type step_into
  type_along t [] v = t
  type_along t (u ∷ p) v = elim (step_into u v) [ none ↦ t | some x ↦ type_along (part_type t u v) p x ]

  -- ---- one of several
  first_entry : (e step : ℕ) → e + 0 * step ≡ e
  first_entry e step = omega arith

  next_entry : (e i step : ℕ) → e + step + i * step ≡ e + suc i * step
  next_entry e i step = omega arith

  nth_typed : (e step : ℕ) (vs : Values) (i : ℕ) (y : Value) → of_types s e step vs ≡ true → nth_of vs i ≡ some y → of_type s (entry s (e + i * step)) y ≡ true
  unfolding of_types nth_of
  nth_typed e step vnil i y h n = let z : ◌≡◌ {A = ℕ} 0 1 = cc in absurd (omega arith)
  nth_typed e step (vcons v vs) zero y h n =
      let w : v ≡ y = cc in
      rw (first_entry e step, ← w) (both_true (of_type s (entry s e) v) (of_types s (e + step) step vs) h).0
  nth_typed e step (vcons v vs) (suc i) y h n =
      rw (← next_entry e i step) (nth_typed (e + step) step vs i y (both_true (of_type s (entry s e) v) (of_types s (e + step) step vs) h).1 n)

  change_typed : (f : Value → Value) (e step : ℕ) (vs : Values) (i : ℕ) → of_types s e step vs ≡ true
      → ((y : Value) → nth_of vs i ≡ some y → of_type s (entry s (e + i * step)) (f y) ≡ true) → of_types s e step (change_nth f vs i) ≡ true
  unfolding of_types nth_of change_nth
  change_typed f e step vnil i h new = h
  change_typed f e step (vcons v vs) zero h new =
      let a = both_true (of_type s (entry s e) v) (of_types s (e + step) step vs) h in
      both_make (of_type s (entry s e) (f v)) (of_types s (e + step) step vs) (rw (first_entry e step) at (new v refl)) a.1
  change_typed f e step (vcons v vs) (suc i) h new =
      let a = both_true (of_type s (entry s e) v) (of_types s (e + step) step vs) h in
      both_make (of_type s (entry s e) v) (of_types s (e + step) step (change_nth f vs i)) a.0
      (change_typed f (e + step) step vs i a.1 (λ y n. rw (next_entry e i step) (new y n)))

  -- ---- by a step
  inside : (u : Step) (k : Whole) (vs : Values) (y : Value) → is_tail u ≡ false → step_into u (whole k vs) ≡ some y → nth_of vs (step_index u) ≡ some y
  unfolding step_into
  inside u k vs y n e = go (eqb (whole_kind k) (into_kind u)) (rw n at e)
    where
      go : (b : Bool) → pick b (nth_of vs (step_index u)) none ≡ some y → nth_of vs (step_index u) ≡ some y
      go true h = h
      go false h = let z : ◌≡◌ {A = ℕ} 0 1 = cc in absurd (omega arith)

  pub step_typed : (u : Step) (t : ℕ) (v y : Value) → is_tail u ≡ false → of_type s t v ≡ true → step_into u v ≡ some y → of_type s (part_type t u v) y ≡ true
  unfolding step_into of_type part_type
  step_typed u t (an_integer w) y n h e = let z : ◌≡◌ {A = ℕ} 0 1 = cc in absurd (omega arith)
  step_typed u t (a_byte_string w) y n h e = let z : ◌≡◌ {A = ℕ} 0 1 = cc in absurd (omega arith)
  step_typed u t (whole k vs) y n h e =
      nth_typed (parts_first s t k) (parts_step k) vs (step_index u) y
      (both_true (takes_parts s t k (many_values vs)) (of_types s (parts_first s t k) (parts_step k) vs) h).1 (inside u k vs y n e)

  part_changed : (u : Step) (t : ℕ) (f : Value → Value) (v : Value) → is_tail u ≡ false → of_type s t v ≡ true
      → ((y : Value) → step_into u v ≡ some y → of_type s (part_type t u v) (f y) ≡ true) → of_type s t (change_part u f v) ≡ true
  unfolding change_part of_type part_type step_into
  part_changed u t f (an_integer w) n h new = h
  part_changed u t f (a_byte_string w) n h new = h
  part_changed u t f (whole k vs) n h new =
      let a = both_true (takes_parts s t k (many_values vs)) (of_types s (parts_first s t k) (parts_step k) vs) h in
      go (eqb (whole_kind k) (into_kind u)) refl a.0 a.1 (λ y e. new y (rw (n, e)))
    where
      go : (b : Bool) → eqb (whole_kind k) (into_kind u) ≡ b → takes_parts s t k (many_values vs) ≡ true → of_types s (parts_first s t k) (parts_step k) vs ≡ true
          → ((y : Value) → pick (eqb (whole_kind k) (into_kind u)) (nth_of vs (step_index u)) none ≡ some y → of_type s (entry s (parts_first s t k + step_index u * parts_step k)) (f y) ≡ true)
          → both (takes_parts s t k (many_values (pick b (change_nth f vs (step_index u)) vs))) (of_types s (parts_first s t k) (parts_step k) (pick b (change_nth f vs (step_index u)) vs)) ≡ true
      go true q x y z =
          both_make (takes_parts s t k (many_values (change_nth f vs (step_index u)))) (of_types s (parts_first s t k) (parts_step k) (change_nth f vs (step_index u)))
          (ap (takes_parts s t k) (many_change f vs (step_index u)) ∙ x)
          (change_typed f (parts_first s t k) (parts_step k) vs (step_index u) y (λ w e. z w (rw q e)))
      go false q x y z = both_make (takes_parts s t k (many_values vs)) (of_types s (parts_first s t k) (parts_step k) vs) x y

  -- ---- along a path
  -- the part is of the type
  pub part_typed : (p : Path) (t : ℕ) (v y : Value) → NoTails p → of_type s t v ≡ true → part_along p v ≡ some y → of_type s (type_along t p v) y ≡ true
  unfolding part_along type_along
  part_typed [] t v y n h e = let w : v ≡ y = cc in rw (← w) h
  part_typed (u ∷ p) t v y n h e =
      go (step_into u v) refl e (λ x i k. part_typed p (part_type t u v) x y n.1 (step_typed u t v x n.0 h i) k)
    where
      go : (o : Option Value) → step_into u v ≡ o → elim o as (λ z. Option Value) [ none ↦ none | some x ↦ part_along p x ] ≡ some y
          → ((x : Value) → step_into u v ≡ some x → part_along p x ≡ some y → of_type s (type_along (part_type t u v) p x) y ≡ true)
          → of_type s (elim o as (λ z. ℕ) [ none ↦ t | some x ↦ type_along (part_type t u v) p x ]) y ≡ true
      go none i k ih = let z : ◌≡◌ {A = ℕ} 0 1 = cc in absurd (omega arith)
      go (some x) i k ih = ih x i k

  -- a part of its type may stand in its place
  pub put_typed : (p : Path) (t : ℕ) (x v y : Value) → NoTails p → of_type s t v ≡ true → part_along p v ≡ some y → of_type s (type_along t p v) x ≡ true
      → of_type s t (put_at p x v) ≡ true
  unfolding part_along type_along put_at
  put_typed [] t x v y n h e k = k
  put_typed (u ∷ p) t x v y n h e k =
      part_changed u t (put_at p x) v n.0 h
      (λ w i. go (step_into u v) w i e k (λ d c. put_typed p (part_type t u v) x w y n.1 (step_typed u t v w n.0 h i) d c))
    where
      go : (o : Option Value) (w : Value) → o ≡ some w → elim o as (λ z. Option Value) [ none ↦ none | some x ↦ part_along p x ] ≡ some y
          → of_type s (elim o as (λ z. ℕ) [ none ↦ t | some x ↦ type_along (part_type t u v) p x ]) x ≡ true
          → (part_along p w ≡ some y → of_type s (type_along (part_type t u v) p w) x ≡ true → of_type s (part_type t u v) (put_at p x w) ≡ true)
          → of_type s (part_type t u v) (put_at p x w) ≡ true
      go none w i d c ih = let z : ◌≡◌ {A = ℕ} 0 1 = cc in absurd (omega arith)
      go (some b) w i d c ih = let m : b ≡ w = cc in ih (rw (← m) d) (rw (← m) c)
