-- Each shape is one that a value of the type has, where no type is hollow: a possible branch is taken by some part (`possible_taken`).
use Prim.Native.Nat.{ℕ, zero, suc, ◌+◌, ◌≤◌, ◌<◌}
use native.Mathlib.Omega.{arith}
use Rattle.std.proofs.Math.Path.{◌≡◌, refl, ap}
use Rattle.std.proofs.Common.{sym, ◌∙◌, ⊎_elim, true≢false}
use Rattle.std.specs.Prelude.{◌⊎◌, Bool, leb}
use Rattle.std.proofs.Math.Logic.{inl, inr}
use Rattle.std.proofs.Math.Bool.{true, false}
use Rattle.std.proofs.lemmas.Bool.{false≢true}
use mathlib.Core.List.{List, [], ◌∷◌, ◌++◌}
use Rattle.std.proofs.Math.Option.{none, some}
use Rattle.std.proofs.Math.Dec.{eqb}
use borrow.Author.Tests.{eqb-true, eq-eqb, le-leb}
use Rattle.base_words.specs.Words.{both, pick}
use Rattle.base_words.specs.WordsLaws.{both_make, either_true}
use Rattle.spec_rules.specs.SheetFile.{types, type_kind, type_first, type_count, constructor_first, constructor_count, entry}
use Rattle.spec_rules.specs.Patterns.{Text, constructor_of, takes_arguments}
use Rattle.spec_rules.specs.Texts.{digits, canonical}
use Rattle.spec_rules.specs.Splitting.{Test, Constr, Int, Bytes, ListOf, ListWithTail, larger}
use Rattle.spec_rules.specs.SplittingLaws.{All}
use Rattle.spec_rules.specs.Building.{Tree, Cases, absent, leaf, hoist, switch, listswitch, cnil, ccons}
use Rattle.spec_accepted.specs.SheetFacts.{Typed}
use Rattle.spec_match.specs.Lists.{all_append}
use Rattle.spec_forgotten.specs.Values.{Value, Values, an_integer, a_byte_string, whole, a_list, a_constructor, vnil, vcons, whole_kind, many_values, are_bytes, takes_parts, parts_first, parts_step, of_type, of_types, shows_whole, shows, length_of}
use Rattle.spec_forgotten.specs.Forgetting.{NoHollow}
use Rattle.spec_forgotten.specs.KnownTypes.{field_known, element_known}
use Rattle.spec_forgotten.specs.NodesFit.{EachTest, MayShow, NodeFits}
use Rattle.spec_forgotten.specs.Shapes.{Shape, shape_of, numbers_from, lengths_from, tests_of, longest_text, tens, new_text, new_test, largest_number, shapes_of, choose_in, branch_is, any_shape, possible}
use Rattle.spec_forgotten.specs.ShapesLaws.{text_kind}

-- ---- any of the shapes
any_among : (P : Shape → Type 0) (f : Shape → Bool) (xs : List Shape) → All P xs → any_shape f xs ≡ true → (x : Shape) × P x × (f x ≡ true)
unfolding any_shape
any_among P f [] a h = absurd (false≢true h)
any_among P f (x ∷ xs) a h = ⊎_elim (λ y. (x, a.0, y)) (λ y. any_among P f xs a.1 y) (either_true (f x) (any_shape f xs) h)

module _ (s : List ℕ) where
  -- ---- a value of each shape, where no type is hollow
  abbrev Real : ℕ → Shape → Type 0
  Real t y = (x : Value) × (of_type s t x ≡ true) × (shape_of x ≡ y)

  tens_digits : (n : ℕ) → digits (tens n) ≡ true
  unfolding tens digits
  tens_digits zero = refl
  tens_digits (suc n) = tens_digits n

  tens_bytes : (n : ℕ) → are_bytes (tens n) ≡ true
  unfolding tens are_bytes
  tens_bytes zero = refl
  tens_bytes (suc n) = tens_bytes n

  real_integer : (t : ℕ) (w : Text) → type_kind s t ≡ 0 → canonical w ≡ true → Real t (record { shown = some (Int w); long = none })
  unfolding of_type shape_of shows length_of
  real_integer t w e c = (an_integer w, both_make (eqb (type_kind s t) 0) (canonical w) (eq-eqb _ _ e) c, refl)

  real_bytes : (t : ℕ) (w : Text) → type_kind s t ≡ 1 → are_bytes w ≡ true → Real t (record { shown = some (Bytes w); long = none })
  unfolding of_type shape_of shows length_of
  real_bytes t w e c = (a_byte_string w, both_make (eqb (type_kind s t) 1) (are_bytes w) (eq-eqb _ _ e) c, refl)

  new_canonical : (n : ℕ) → canonical (new_text n) ≡ true
  unfolding new_text canonical
  new_canonical n = tens_digits n

  new_bytes : (n : ℕ) → are_bytes (new_text n) ≡ true
  unfolding new_text are_bytes
  new_bytes n = tens_bytes n

  -- the tests of a switch that is no constructors'
  real_test : (t : ℕ) → eqb (type_kind s t) 5 ≡ false → (u : Test) → MayShow s t u → Real t (record { shown = some u; long = none })
  unfolding MayShow
  real_test t d (Constr a) h = absurd (true≢false (sym (eq-eqb _ _ h.0) ∙ d))
  real_test t d (Int w) h = real_integer t w h.0 h.1
  real_test t d (Bytes w) h = real_bytes t w h.0 h.1
  real_test t d (ListOf n) h = absurd h
  real_test t d (ListWithTail n) h = absurd h

  real_tests : (t : ℕ) → eqb (type_kind s t) 5 ≡ false → (cs : Cases) → EachTest (MayShow s t) cs → All (Real t) (tests_of cs)
  unfolding EachTest tests_of
  real_tests t d cnil h = tt
  real_tests t d (ccons u at a cs) h = (real_test t d u h.0, real_tests t d cs h.1)

  real_new : (t n : ℕ) → (type_kind s t ≡ 0) ⊎ (type_kind s t ≡ 1) → Real t (record { shown = some (new_test (type_kind s t) n); long = none })
  unfolding new_test
  real_new t n (inl e) = rw e (real_integer t (new_text n) e (new_canonical n))
  real_new t n (inr e) = rw e (real_bytes t (new_text n) e (new_bytes n))

  module _ (ty : Typed s) (filled : NoHollow s) where
    -- values for n entries
    several : (e n : ℕ) → ((i : ℕ) → i < n → entry s (e + i) < types s) → (vs : Values) × (many_values vs ≡ n) × (of_types s e 1 vs ≡ true)
    unfolding many_values of_types
    several e zero known = (vnil, refl, refl)
    several e (suc n) known =
        let z : e + 0 ≡ e = omega arith in
        let (v, h) = filled (entry s e) (rw z at (known 0 (omega arith))) in
        let (vs, m, k) = several (e + 1) n (λ i l. rw (next e i) (known (suc i) (omega arith))) in
        (vcons v vs, ap suc m, both_make (of_type s (entry s e) v) (of_types s (e + 1) 1 vs) h k)
      where
        next : (e i : ℕ) → e + 1 + i ≡ e + suc i
        next e i = omega arith

    -- n of one
    copies : (e n : ℕ) → entry s e < types s → (vs : Values) × (many_values vs ≡ n) × (of_types s e 0 vs ≡ true)
    unfolding many_values of_types
    copies e zero known = (vnil, refl, refl)
    copies e (suc n) known =
        let (v, h) = filled (entry s e) known in
        let (vs, m, k) = copies e n known in
        (vcons v vs, ap suc m, both_make (of_type s (entry s e) v) (of_types s (e + 0) 0 vs) h (rw (same e) k))
      where
        same : (e : ℕ) → e + 0 ≡ e
        same e = omega arith

    real_number : (t : ℕ) → t < types s → type_kind s t ≡ 5 → (a : ℕ) → a < type_count s t → Real t (record { shown = some (Constr a); long = none })
    unfolding of_type takes_parts parts_first parts_step takes_arguments shape_of shows shows_whole length_of whole_kind
    real_number t h e a l =
        let (vs, m, k) = several (constructor_first s (constructor_of s t a)) (constructor_count s (constructor_of s t a)) (λ i n. field_known s ty t a i h e l n) in (
          whole (a_constructor a) vs,
          both_make (both (eqb (type_kind s t) 5) (both (leb (a + 1) (type_count s t)) (eqb (constructor_count s (constructor_of s t a)) (many_values vs))))
              (of_types s (constructor_first s (constructor_of s t a)) 1 vs)
              (both_make (eqb (type_kind s t) 5) (both (leb (a + 1) (type_count s t)) (eqb (constructor_count s (constructor_of s t a)) (many_values vs))) (eq-eqb _ _ e)
              (both_make (leb (a + 1) (type_count s t)) (eqb (constructor_count s (constructor_of s t a)) (many_values vs)) (le-leb (a + 1) (type_count s t) (omega (arith, l))) (eq-eqb _ _ (sym m))))
              k,
          refl,
        )

    real_numbers : (t : ℕ) → t < types s → type_kind s t ≡ 5 → (a n : ℕ) → a + n ≤ type_count s t → All (Real t) (numbers_from a n)
    unfolding numbers_from
    real_numbers t h e a zero l = tt
    real_numbers t h e a (suc n) l = (real_number t h e a (omega arith), real_numbers t h e (a + 1) n (omega arith))

    real_length : (t : ℕ) → t < types s → type_kind s t ≡ 2 → (n : ℕ) → Real t (record { shown = none; long = some n })
    unfolding of_type takes_parts parts_first parts_step shape_of shows shows_whole length_of whole_kind
    real_length t h e n =
        let (vs, m, k) = copies (type_first s t) n (element_known s ty t h e) in
        (whole a_list vs, both_make (eqb (type_kind s t) 2) (of_types s (type_first s t) 0 vs) (eq-eqb _ _ e) k, ap (λ i. record { shown = none; long = some i }) m)

    real_lengths : (t : ℕ) → t < types s → type_kind s t ≡ 2 → (m n : ℕ) → All (Real t) (lengths_from m n)
    unfolding lengths_from
    real_lengths t h e m zero = tt
    real_lengths t h e m (suc n) = (real_length t h e m, real_lengths t h e (m + 1) n)

    all_real : (t : ℕ) (a : Tree) → NodeFits s t a → All (Real t) (shapes_of s t a)
    unfolding NodeFits shapes_of
    all_real t absent f = tt
    all_real t (leaf c bs) f = tt
    all_real t (hoist c bs a) f = tt
    all_real t (switch p cs d) (k, l, m) = go (eqb (type_kind s t) 5) refl
      where
        go : (b : Bool) → eqb (type_kind s t) 5 ≡ b
            → All (Real t) (pick b (numbers_from 0 (type_count s t)) (tests_of cs ++ record { shown = some (new_test (type_kind s t) (longest_text cs)); long = none } ∷ []))
        go true e = real_numbers t k (eqb-true _ _ e) 0 (type_count s t) (omega arith)
        go false e = all_append (Real t) (tests_of cs) (record { shown = some (new_test (type_kind s t) (longest_text cs)); long = none } ∷ []) (real_tests t e cs m)
            (real_new t (longest_text cs) (text_kind s t e cs l m), tt)
    all_real t (listswitch p cs ts d) (k, e) = real_lengths t k e 0 (larger (largest_number cs) (largest_number ts) + 2)

    -- THEOREM: a possible branch is taken by some part
    pub possible_taken : (t k : ℕ) (a : Tree) (b : ℕ) → NodeFits s t a → possible s t k a b ≡ true → (x : Value) × (of_type s t x ≡ true) × (branch_is (choose_in k a (shape_of x)) b ≡ true)
    unfolding possible
    possible_taken t k a b f h =
        let (y, (x, tx, e), z) = any_among (Real t) (λ x. branch_is (choose_in k a x) b) (shapes_of s t a) (all_real t a f) h in
        (x, tx, rw e z)
