-- The rule of the marking, `fills`: a mark made by it is right (`fills_filled`), and marks that it no longer adds to are all
-- (`filled_marked`), so that what is unmarked is hollow (`unmarked_hollow`).
use Prim.Native.Nat.{ℕ, zero, suc, ◌+◌, ◌-◌, ◌*◌, ◌≤◌, ◌<◌}
use Rattle.std.proofs.Common.{arith, ◌∙◌, eqb-true, eq-eqb, leb-true, leb-false, le-leb}
use Rattle.std.specs.Prelude.{◌≡◌, Bool, eqb, leb}
use Rattle.std.proofs.Math.Path.{refl, sym, ap}
use Rattle.std.proofs.Math.Bool.{true, false}
use mathlib.Core.List.{List, [], ◌∷◌}
use Rattle.std.proofs.Math.Option.{Option, none, some}
use Rattle.base_words.specs.Words.{both, pick}
use Rattle.base_words.specs.WordsLaws.{both_true, both_make}
use Rattle.spec_rules.specs.Searching.{every, lowest}
use Rattle.spec_rules.specs.SearchingLaws.{Lowest, lowest_some, lowest_none}
use Rattle.spec_rules.specs.SheetFile.{types, type_kind, type_first, type_count, constructor_first, constructor_count, entry}
use Rattle.spec_rules.specs.Patterns.{constructor_of, takes_arguments}
use Rattle.spec_rules.specs.Texts.{canonical}
use Rattle.spec_forgotten.specs.Values.{Whole, Value, Values, an_integer, a_byte_string, whole, a_list, a_pair, a_tuple, a_constructor, vnil, vcons, many_values, are_bytes, takes_parts, parts_first, parts_step, of_type, of_types}
use Rattle.spec_forgotten.specs.Forgetting.{Filled, Hollow}
use Rattle.spec_forgotten.specs.Marking.{all_marked, full_constructor, found, fills}

module _ (s : List ℕ) (marked : ℕ → Bool) where
  -- ---- a mark made by the rule is right
  module _ (right : (t : ℕ) → marked t ≡ true → Filled s t) where
    -- values for the types at n entries
    record Several (e n : ℕ) : Type 0 where
      values : Values
      as_many : many_values values ≡ n
      typed : of_types s e 1 values ≡ true

    several : (e n : ℕ) → all_marked marked s e n ≡ true → Several e n
    unfolding all_marked every many_values of_types
    several e zero h = record { values = vnil; as_many = refl; typed = refl }
    several e (suc n) h =
        let (a, b) = both_true (marked (entry s e)) (every (λ j. marked (entry s j)) (e + 1) n) h in
        let (v, w) = right (entry s e) a in
        let rest = several (e + 1) n b in
        record {
          values = vcons v rest.values;
          as_many = ap suc rest.as_many;
          typed = both_make (of_type s (entry s e) v) (of_types s (e + 1) 1 rest.values) w rest.typed;
        }

    a_pair_lem : (t : ℕ) → type_kind s t ≡ 3 → Several (type_first s t) (type_count s t) → Filled s t
    unfolding of_type takes_parts parts_first parts_step
    a_pair_lem t e r = (
      whole a_pair r.values,
      both_make (both (eqb (type_kind s t) 3) (eqb (type_count s t) (many_values r.values))) (of_types s (type_first s t) 1 r.values)
          (both_make (eqb (type_kind s t) 3) (eqb (type_count s t) (many_values r.values)) (eq-eqb _ _ e) (eq-eqb _ _ (sym r.as_many))) r.typed,
    )

    a_tuple_lem : (t : ℕ) → type_kind s t ≡ 4 → Several (type_first s t) (type_count s t) → Filled s t
    unfolding of_type takes_parts parts_first parts_step
    a_tuple_lem t e r = (
      whole a_tuple r.values,
      both_make (both (eqb (type_kind s t) 4) (eqb (type_count s t) (many_values r.values))) (of_types s (type_first s t) 1 r.values)
          (both_make (eqb (type_kind s t) 4) (eqb (type_count s t) (many_values r.values)) (eq-eqb _ _ e) (eq-eqb _ _ (sym r.as_many))) r.typed,
    )

    a_constructor_lem : (t : ℕ) → type_kind s t ≡ 5 → (c : ℕ) → Lowest (full_constructor marked s) (type_first s t) (type_count s t) c → Filled s t
    unfolding of_type takes_parts parts_first parts_step takes_arguments constructor_of full_constructor
    a_constructor_lem t e c l =
        let a : type_first s t + (c - type_first s t) ≡ c = omega (arith, l.from) in
        let small : c - type_first s t + 1 ≤ type_count s t = omega (arith, l.from, l.to) in
        let r = several (constructor_first s c) (constructor_count s c) l.has in (
          whole (a_constructor (c - type_first s t)) r.values,
          rw a (both_make
              (both (eqb (type_kind s t) 5) (both (leb (c - type_first s t + 1) (type_count s t)) (eqb (constructor_count s c) (many_values r.values))))
              (of_types s (constructor_first s c) 1 r.values)
              (both_make (eqb (type_kind s t) 5) (both (leb (c - type_first s t + 1) (type_count s t)) (eqb (constructor_count s c) (many_values r.values))) (eq-eqb _ _ e)
              (both_make (leb (c - type_first s t + 1) (type_count s t)) (eqb (constructor_count s c) (many_values r.values)) (le-leb _ _ small) (eq-eqb _ _ (sym r.as_many))))
              r.typed),
        )

    plain : (t : ℕ) (k : ℕ) → type_kind s t ≡ k → k ≤ 2 → Filled s t
    unfolding of_type canonical are_bytes takes_parts of_types
    plain t zero e l = (an_integer (48 ∷ []), rw e)
    plain t (suc zero) e l = (a_byte_string [], rw e)
    plain t (suc (suc zero)) e l = (whole a_list vnil, rw e)
    plain t (suc (suc (suc k))) e l = absurd (omega arith)

    pub fills_filled : (t : ℕ) → type_kind s t ≤ 5 → fills marked s t ≡ true → Filled s t
    unfolding fills
    fills_filled t known h = go (leb (type_kind s t) 2) refl (leb (type_kind s t) 4) refl h
      where
        three_or_four : (k : ℕ) → type_kind s t ≡ k → 2 < k → k ≤ 4 → Several (type_first s t) (type_count s t) → Filled s t
        three_or_four zero e a b r = absurd (omega arith)
        three_or_four (suc zero) e a b r = absurd (omega arith)
        three_or_four (suc (suc zero)) e a b r = absurd (omega arith)
        three_or_four (suc (suc (suc zero))) e a b r = a_pair_lem t e r
        three_or_four (suc (suc (suc (suc zero)))) e a b r = a_tuple_lem t e r
        three_or_four (suc (suc (suc (suc (suc k))))) e a b r = absurd (omega arith)

        one : (o : Option ℕ) → lowest (full_constructor marked s) (type_first s t) (type_count s t) ≡ o → found o ≡ true → type_kind s t ≡ 5 → Filled s t
        one none e x k = let z : ◌≡◌ {A = ℕ} 0 1 = cc in absurd (omega arith)
        one (some c) e x k = a_constructor_lem t k c (lowest_some (full_constructor marked s) (type_first s t) (type_count s t) c e)

        go : (a : Bool) → leb (type_kind s t) 2 ≡ a → (b : Bool) → leb (type_kind s t) 4 ≡ b
            → pick a true (pick b (all_marked marked s (type_first s t) (type_count s t)) (found (lowest (full_constructor marked s) (type_first s t) (type_count s t)))) ≡ true
            → Filled s t
        go true x b y w = plain t (type_kind s t) refl (leb-true (type_kind s t) 2 x)
        go false x true y w = three_or_four (type_kind s t) refl (leb-false (type_kind s t) 2 x) (leb-true (type_kind s t) 4 y) (several (type_first s t) (type_count s t) w)
        go false x false y w =
            one (lowest (full_constructor marked s) (type_first s t) (type_count s t)) refl w (omega (arith, leb-false (type_kind s t) 4 y))

  -- ---- marks that the rule no longer adds to are all
  module _ (closed : (t : ℕ) → t < types s → fills marked s t ≡ true → marked t ≡ true)
      (parts_known : (t : ℕ) → t < types s → (k : Whole) (n : ℕ) → takes_parts s t k n ≡ true → (i : ℕ) → i < n → entry s (parts_first s t k + i * parts_step k) < types s)
    where
      fills_plain : (t k : ℕ) → type_kind s t ≡ k → leb k 2 ≡ true → fills marked s t ≡ true
      unfolding fills
      fills_plain t k e h = rw (e, h)

      fills_parts : (t k : ℕ) → type_kind s t ≡ k → leb k 2 ≡ false → leb k 4 ≡ true → all_marked marked s (type_first s t) (type_count s t) ≡ true → fills marked s t ≡ true
      unfolding fills
      fills_parts t k e a b h = rw (e, a, b) h

      fills_data : (t a : ℕ) → type_kind s t ≡ 5 → a < type_count s t → full_constructor marked s (type_first s t + a) ≡ true → fills marked s t ≡ true
      unfolding fills
      fills_data t a e l h = rw e (go (lowest (full_constructor marked s) (type_first s t) (type_count s t)) refl)
        where
          go : (o : Option ℕ) → lowest (full_constructor marked s) (type_first s t) (type_count s t) ≡ o → found o ≡ true
          go none x =
              let y = lowest_none (full_constructor marked s) (type_first s t) (type_count s t) x (type_first s t + a) (omega arith) (omega arith) in
              let z : true ≡ false = sym h ∙ y in sym z
          go (some c) x = refl

      first_there : (e step : ℕ) → e + 0 * step ≡ e
      first_there e step = omega arith

      next_there : (e i step : ℕ) → e + step + i * step ≡ e + suc i * step
      next_there e i step = omega arith

      mutual
        unfolding of_type of_types takes_parts parts_first parts_step takes_arguments constructor_of full_constructor all_marked every many_values

        pub filled_marked : (t : ℕ) → t < types s → (v : Value) → of_type s t v ≡ true → marked t ≡ true
        filled_marked t l (an_integer w) h = closed t l (fills_plain t 0 (eqb-true _ _ (both_true (eqb (type_kind s t) 0) (canonical w) h).0) refl)
        filled_marked t l (a_byte_string w) h = closed t l (fills_plain t 1 (eqb-true _ _ (both_true (eqb (type_kind s t) 1) (are_bytes w) h).0) refl)
        filled_marked t l (whole a_list vs) h =
            closed t l (fills_plain t 2 (eqb-true _ _ (both_true (eqb (type_kind s t) 2) (of_types s (type_first s t) 0 vs) h).0) refl)
        filled_marked t l (whole a_pair vs) h =
            let (a, b) = both_true (both (eqb (type_kind s t) 3) (eqb (type_count s t) (many_values vs))) (of_types s (type_first s t) 1 vs) h in
            let (c, d) = both_true (eqb (type_kind s t) 3) (eqb (type_count s t) (many_values vs)) a in
            closed t l (fills_parts t 3 (eqb-true _ _ c) refl refl (rw (eqb-true (type_count s t) (many_values vs) d) (all_marked_lem (type_first s t) vs (parts_known t l a_pair (many_values vs) a) b)))
        filled_marked t l (whole a_tuple vs) h =
            let (a, b) = both_true (both (eqb (type_kind s t) 4) (eqb (type_count s t) (many_values vs))) (of_types s (type_first s t) 1 vs) h in
            let (c, d) = both_true (eqb (type_kind s t) 4) (eqb (type_count s t) (many_values vs)) a in
            closed t l (fills_parts t 4 (eqb-true _ _ c) refl refl (rw (eqb-true (type_count s t) (many_values vs) d) (all_marked_lem (type_first s t) vs (parts_known t l a_tuple (many_values vs) a) b)))
        filled_marked t l (whole (a_constructor a) vs) h =
            let (x, y) =
            both_true (both (eqb (type_kind s t) 5) (both (leb (a + 1) (type_count s t)) (eqb (constructor_count s (type_first s t + a)) (many_values vs))))
            (of_types s (constructor_first s (type_first s t + a)) 1 vs) h in
            let (c, d) = both_true (eqb (type_kind s t) 5) (both (leb (a + 1) (type_count s t)) (eqb (constructor_count s (type_first s t + a)) (many_values vs))) x in
            let (m, n) = both_true (leb (a + 1) (type_count s t)) (eqb (constructor_count s (type_first s t + a)) (many_values vs)) d in
            closed t l (fills_data t a (eqb-true _ _ c) (omega (arith, leb-true (a + 1) (type_count s t) m))
            (rw (eqb-true (constructor_count s (type_first s t + a)) (many_values vs) n) (all_marked_lem (constructor_first s (type_first s t + a)) vs (parts_known t l (a_constructor a) (many_values vs) x) y)))

        all_marked_lem : (e : ℕ) (vs : Values) → ((i : ℕ) → i < many_values vs → entry s (e + i * 1) < types s) → of_types s e 1 vs ≡ true → all_marked marked s e (many_values vs) ≡ true
        all_marked_lem e vnil known h = refl
        all_marked_lem e (vcons v vs) known h =
            let (a, b) = both_true (of_type s (entry s e) v) (of_types s (e + 1) 1 vs) h in
            both_make (marked (entry s e)) (every (λ j. marked (entry s j)) (e + 1) (many_values vs))
            (filled_marked (entry s e) (rw (first_there e 1) at (known 0 (omega arith))) v a)
            (all_marked_lem (e + 1) vs (λ i l. rw (next_there e i 1) (known (suc i) (omega arith))) b)

      -- so an unmarked type is hollow
      pub unmarked_hollow : (t : ℕ) → t < types s → marked t ≡ false → Hollow s t
      unmarked_hollow t l u v = go (of_type s t v) refl
        where
          go : (b : Bool) → of_type s t v ≡ b → of_type s t v ≡ false
          go false e = e
          go true e = let y : true ≡ false = sym (filled_marked t l v e) ∙ u in e ∙ y
