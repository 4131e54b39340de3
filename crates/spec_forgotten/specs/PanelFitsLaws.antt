-- The value that a panel file holds: the file fits exactly if its value is of the subject's type (`FitsByValue`), and a record's value is
-- made of its parts' values (`value_here`).
use Prim.Native.Nat.{ℕ, zero, suc, ◌+◌, ◌≤◌, ◌<◌}
use Rattle.std.proofs.Common.{arith, ◌∙◌}
use Rattle.std.specs.Prelude.{◌≡◌, Bool, true, List, eqb, drop}
use Rattle.std.proofs.Math.Path.{refl, sym, ap, ap₂}
use Rattle.base_words.specs.Words.{Bytes, both}
use Rattle.base_words.specs.WordsLaws.{both_assoc}
use Rattle.spec_rules.specs.Limits.{records_most}
use Rattle.spec_rules.specs.SheetFile.{subject, type_kind, type_first, type_count, constructor_first, entry}
use Rattle.spec_rules.specs.Patterns.{constructor_of, takes_arguments}
use Rattle.spec_rules.specs.PanelFile.{records, record_kind, record_a, record_first, record_count, part, record_text, panel_pool_at, RecordKind, Integer_record, Bytes_record, List_record, Pair_record, Tuple_record, Constructor_record, Unknown_record, record_kind_of, has_parts}
use Rattle.spec_rules.specs.Fitting.{parts_fit, record_fits, has_type_to, panel_fits}
use Rattle.spec_rules.specs.SplittingLaws.{both_end}
use Rattle.spec_accepted.specs.KindsLaws.{record_number, record_byte, record_number_lem}
use Rattle.spec_accepted.specs.PanelFacts.{Holder, Holds, PanelAccepted, held_record}
use Rattle.spec_forgotten.specs.Values.{Value, whole, a_list, a_pair, a_tuple, a_constructor, vcons, many_values, are_bytes, takes_parts, parts_first, parts_step, of_type, of_types}
use Rattle.spec_forgotten.specs.PanelValues.{values_from, value_of_kind, value_to, panel_value}
use Rattle.spec_forgotten.specs.SheetTested.{bytes_are, bytes_drop, bytes_take}

pub many_from : (g : ℕ → Value) (v : List ℕ) (j n : ℕ) → many_values (values_from g v j n) ≡ n
unfolding many_values values_from
many_from g v j zero = refl
many_from g v j (suc n) = ap suc (many_from g v (j + 1) n)

module _ (v : List ℕ) (a : PanelAccepted v) where
  -- a part's record is there, and has a larger number
  pub higher : (r : ℕ) → r < records v → Holder v r → (i : ℕ) → record_first v r ≤ i → i < record_first v r + record_count v r → (r < part v i) × (part v i < records v)
  higher r h has i low high =
      let held : Holds v r i = record { holder = has; from = low; to = high } in
      (a.is_shaped.part_above r i h held, held_record a.is_shaped r i h held)

  pub no_unknown : (r : ℕ) → r < records v → record_kind_of (record_kind v r) ≡ Unknown_record → ⊥
  no_unknown r h e = omega (arith, a.is_shaped.record_kind_holds r h, record_number_lem (record_kind v r), ap record_number e)

  -- ---- the value of a record, by those of its parts
  values_same : (f g : ℕ → Value) (j n : ℕ) → ((i : ℕ) → j ≤ i → i < j + n → f (part v i) ≡ g (part v i)) → values_from f v j n ≡ values_from g v j n
  unfolding values_from
  values_same f g j zero h = refl
  values_same f g j (suc n) h = ap₂ vcons (h j (omega arith) (omega arith)) (values_same f g (j + 1) n (λ i low high. h i (omega arith) (omega arith)))

  kind_same : (f g : ℕ → Value) (r : ℕ) (kind : RecordKind) → (has_parts kind ≡ true → values_from f v (record_first v r) (record_count v r) ≡ values_from g v (record_first v r) (record_count v r))
      → value_of_kind f v r kind ≡ value_of_kind g v r kind
  unfolding value_of_kind has_parts
  kind_same f g r Integer_record h = refl
  kind_same f g r Bytes_record h = refl
  kind_same f g r List_record h = ap (whole a_list) (h refl)
  kind_same f g r Pair_record h = ap (whole a_pair) (h refl)
  kind_same f g r Tuple_record h = ap (whole a_tuple) (h refl)
  kind_same f g r Constructor_record h = ap (whole (a_constructor (record_a v r))) (h refl)
  kind_same f g r Unknown_record h = refl

  value_enough : (k l r : ℕ) → r < records v → records v ≤ k + r → records v ≤ l + r → value_to k v r ≡ value_to l v r
  unfolding value_to
  value_enough zero l r h x y = absurd (omega arith)
  value_enough (suc k) zero r h x y = absurd (omega arith)
  value_enough (suc k) (suc l) r h x y =
      kind_same (value_to k v) (value_to l v) r (record_kind_of (record_kind v r))
      (λ has. values_same (value_to k v) (value_to l v) (record_first v r) (record_count v r)
      (λ i low high. let (m, n) = higher r h has i low high in value_enough k l (part v i) n (omega (arith, m)) (omega (arith, m))))

  abbrev pub record_value : ℕ → Value
  record_value r = value_to records_most v r

  pub value_here : (r : ℕ) → r < records v → record_value r ≡ value_of_kind record_value v r (record_kind_of (record_kind v r))
  value_here r h =
      value_enough records_most (suc records_most) r h (omega (arith, a.is_laid.records_most_holds)) (omega (arith, a.is_laid.records_most_holds)) ∙ again records_most
    where
      again : (n : ℕ) → value_to (suc n) v r ≡ value_of_kind (value_to n v) v r (record_kind_of (record_kind v r))
      again n = unfold value_to in refl

  -- ---- fitting
  module _ (bytes : Bytes v) (s : List ℕ) where
    parts_same : (f : ℕ → ℕ → Bool) (g : ℕ → Value) (j n e step : ℕ) → ((i u : ℕ) → j ≤ i → i < j + n → f (part v i) u ≡ of_type s u (g (part v i)))
        → parts_fit f s v j n e step ≡ of_types s e step (values_from g v j n)
    unfolding parts_fit of_types values_from
    parts_same f g j zero e step h = refl
    parts_same f g j (suc n) e step h =
        ap₂ both (h j (entry s e) (omega arith) (omega arith)) (parts_same f g (j + 1) n (e + step) step (λ i u low high. h i u (omega arith) (omega arith)))

    text_bytes : (r : ℕ) → are_bytes (record_text v r) ≡ true
    unfolding record_text
    text_bytes r = bytes_take (record_count v r) (drop (panel_pool_at v + record_first v r) v) (bytes_drop (panel_pool_at v + record_first v r) v (bytes_are v bytes.byte))

    kind_fits : (f : ℕ → ℕ → Bool) (g : ℕ → Value) (r t : ℕ) → r < records v
        → (Holder v r → (i u : ℕ) → record_first v r ≤ i → i < record_first v r + record_count v r → f (part v i) u ≡ of_type s u (g (part v i)))
        → (kind : RecordKind) → record_kind_of (record_kind v r) ≡ kind → record_fits f s v r t kind ≡ of_type s t (value_of_kind g v r kind)
    unfolding record_fits value_of_kind of_type takes_parts parts_first parts_step has_parts
    kind_fits f g r t h same Integer_record e =
        sym (ap (both (eqb (type_kind s t) 0)) (a.integer_canonical r h (record_byte (record_kind v r) Integer_record e (omega arith))) ∙ both_end (eqb (type_kind s t) 0))
    kind_fits f g r t h same Bytes_record e = sym (ap (both (eqb (type_kind s t) 1)) (text_bytes r) ∙ both_end (eqb (type_kind s t) 1))
    kind_fits f g r t h same List_record e = ap (both (eqb (type_kind s t) 2)) (parts_same f g (record_first v r) (record_count v r) (type_first s t) 0 (same (ap has_parts e)))
    kind_fits f g r t h same Pair_record e =
        rw (many_from g v (record_first v r) (record_count v r), parts_same f g (record_first v r) (record_count v r) (type_first s t) 1 (same (ap has_parts e)))
        (sym (both_assoc (eqb (type_kind s t) 3) (eqb (type_count s t) (record_count v r)) (of_types s (type_first s t) 1 (values_from g v (record_first v r) (record_count v r)))))
    kind_fits f g r t h same Tuple_record e =
        rw (many_from g v (record_first v r) (record_count v r), parts_same f g (record_first v r) (record_count v r) (type_first s t) 1 (same (ap has_parts e)))
        (sym (both_assoc (eqb (type_kind s t) 4) (eqb (type_count s t) (record_count v r)) (of_types s (type_first s t) 1 (values_from g v (record_first v r) (record_count v r)))))
    kind_fits f g r t h same Constructor_record e =
        rw (many_from g v (record_first v r) (record_count v r))
        (ap (both (takes_arguments s t (record_a v r) (record_count v r)))
        (parts_same f g (record_first v r) (record_count v r) (constructor_first s (constructor_of s t (record_a v r))) 1 (same (ap has_parts e))))
    kind_fits f g r t h same Unknown_record e = absurd (no_unknown r h e)

    value_fits : (deep r t : ℕ) → r < records v → records v ≤ deep + r → has_type_to deep s v r t ≡ of_type s t (value_to deep v r)
    unfolding has_type_to value_to
    value_fits zero r t h l = absurd (omega arith)
    value_fits (suc deep) r t h l =
        kind_fits (has_type_to deep s v) (value_to deep v) r t h
        (λ has i u low high. let (m, n) = higher r h has i low high in value_fits deep (part v i) u n (omega (arith, m))) (record_kind_of (record_kind v r)) refl

    -- THEOREM: a panel fits exactly if the value that it holds is of the type
    pub panel_fits_by_value : panel_fits s v ≡ of_type s (subject s) (panel_value v)
    unfolding panel_fits panel_value
    panel_fits_by_value = value_fits records_most 0 (subject s) (omega (arith, a.is_laid.some_record)) (omega (arith, a.is_laid.records_most_holds))
