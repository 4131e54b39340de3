-- A branch is possible exactly if some part of the tested type takes it: each shape is one that a value of the type has, where no type is
-- hollow (`possible_taken` of proofs/ShapesLaws.antt); and what any part of the type takes, one of the shapes takes (`taken_possible`).
use Prim.Native.Nat.{ℕ, zero, suc, ◌+◌, ◌≤◌, ◌<◌}
use native.Mathlib.Omega.{arith}
use Rattle.std.proofs.Math.Path.{◌≡◌, refl, ap, ap₂}
use Rattle.std.proofs.Common.{sym, ◌∙◌, ⊎_elim, true≢false}
use Rattle.std.specs.Prelude.{◌⊎◌, Bool, leb, ltb, length}
use Rattle.std.proofs.Math.Logic.{inl, inr}
use Rattle.std.proofs.Math.Bool.{true, false}
use Rattle.std.proofs.lemmas.Bool.{false≢true}
use mathlib.Core.List.{List, [], ◌∷◌, ◌++◌}
use Rattle.std.proofs.Math.Option.{Option, none, some}
use Rattle.std.proofs.Math.Dec.{eqb}
use borrow.Author.Tests.{eqb-true, eqb-false, eq-eqb, leb-true, leb-false, le-leb, ltb-true, ltb-false}
use Rattle.base_words.specs.Words.{either, pick}
use Rattle.base_words.specs.WordsLaws.{either_true, either_first_true, either_second_true}
use Rattle.spec_rules.specs.SheetFile.{type_kind, type_count}
use Rattle.spec_rules.specs.Patterns.{Text}
use Rattle.spec_rules.specs.Splitting.{Test, Constr, Int, Bytes, ListOf, ListWithTail, same_test, larger}
use Rattle.spec_rules.specs.SplittingLaws.{same_test_sound, not_true_false}
use Rattle.spec_rules.specs.Building.{Tree, Cases, absent, leaf, hoist, switch, listswitch, cnil, ccons}
use Rattle.spec_rules.specs.Hoisting.{how_many, nodes_in}
use Rattle.spec_rules.specs.Walking.{test_kind, tail_number, largest_tail}
use Rattle.spec_match.specs.Typing.{takes}
use Rattle.spec_forgotten.specs.Values.{Value, an_integer, a_byte_string, whole, a_list, a_pair, a_tuple, a_constructor, whole_kind, many_values, takes_parts, of_type, shows_whole, shows, length_of}
use Rattle.spec_forgotten.specs.Choosing.{Chosen, lookup, by_test, by_length}
use Rattle.spec_forgotten.specs.OpenedParts.{kinds_differ, integer_kind, bytes_kind, whole_takes, whole_kind_lem}
use Rattle.spec_forgotten.specs.NodesFit.{EachTest, MayShow, NodeFits}
use Rattle.spec_forgotten.specs.Shapes.{Shape, shape_of, numbers_from, lengths_from, tests_of, text_length, longest_text, tens, new_text, new_test, test_number, largest_number, shapes_of, choose_in, branch_is, any_shape, possible}

-- ---- any of the shapes
any_append : (f : Shape → Bool) (xs ys : List Shape) → any_shape f xs ≡ true → any_shape f (xs ++ ys) ≡ true
unfolding any_shape
any_append f [] ys h = absurd (false≢true h)
any_append f (x ∷ xs) ys h =
    ⊎_elim (λ a. either_first_true (f x) (any_shape f (xs ++ ys)) a) (λ b. either_second_true (f x) (any_shape f (xs ++ ys)) (any_append f xs ys b)) (either_true (f x) (any_shape f xs) h)

any_last : (f : Shape → Bool) (xs : List Shape) (y : Shape) → f y ≡ true → any_shape f (xs ++ y ∷ []) ≡ true
unfolding any_shape
any_last f [] y h = either_first_true (f y) false h
any_last f (x ∷ xs) y h = either_second_true (f x) (any_shape f (xs ++ y ∷ [])) (any_last f xs y h)

any_number : (f : Shape → Bool) (a n b : ℕ) → a ≤ b → b < a + n → f (record { shown = some (Constr b); long = none }) ≡ true → any_shape f (numbers_from a n) ≡ true
unfolding any_shape numbers_from
any_number f a zero b l m h = absurd (omega arith)
any_number f a (suc n) b l m h = go (eqb a b) refl (λ x y. any_number f (a + 1) n b x y h)
  where
    go : (c : Bool) → eqb a b ≡ c → (a + 1 ≤ b → b < a + 1 + n → any_shape f (numbers_from (a + 1) n) ≡ true) → either (f (record { shown = some (Constr a); long = none })) (any_shape f (numbers_from (a + 1) n)) ≡ true
    go true e ih = either_first_true (f (record { shown = some (Constr a); long = none })) (any_shape f (numbers_from (a + 1) n)) (rw (eqb-true a b e) h)
    go false e ih =
        let d = eqb-false a b e in
        either_second_true (f (record { shown = some (Constr a); long = none })) (any_shape f (numbers_from (a + 1) n))
        (ih (omega (arith, d)) (omega arith))

any_length : (f : Shape → Bool) (a n b : ℕ) → a ≤ b → b < a + n → f (record { shown = none; long = some b }) ≡ true → any_shape f (lengths_from a n) ≡ true
unfolding any_shape lengths_from
any_length f a zero b l m h = absurd (omega arith)
any_length f a (suc n) b l m h = go (eqb a b) refl (λ x y. any_length f (a + 1) n b x y h)
  where
    go : (c : Bool) → eqb a b ≡ c → (a + 1 ≤ b → b < a + 1 + n → any_shape f (lengths_from (a + 1) n) ≡ true) → either (f (record { shown = none; long = some a })) (any_shape f (lengths_from (a + 1) n)) ≡ true
    go true e ih = either_first_true (f (record { shown = none; long = some a })) (any_shape f (lengths_from (a + 1) n)) (rw (eqb-true a b e) h)
    go false e ih =
        let d = eqb-false a b e in
        either_second_true (f (record { shown = none; long = some a })) (any_shape f (lengths_from (a + 1) n))
        (ih (omega (arith, d)) (omega arith))

-- ---- the larger of two
larger_left : (a b : ℕ) → a ≤ larger a b
unfolding larger
larger_left a b = go (leb a b) refl
  where
    go : (c : Bool) → leb a b ≡ c → a ≤ pick c b a
    go true e = leb-true a b e
    go false e = omega arith

larger_right : (a b : ℕ) → b ≤ larger a b
unfolding larger
larger_right a b = go (leb a b) refl
  where
    go : (c : Bool) → leb a b ≡ c → b ≤ pick c b a
    go true e = omega arith
    go false e = omega (arith, leb-false a b e)

-- ---- a test that is no case's
none_found : (i j : ℕ) (cs : Cases) (t : Test) → EachTest (λ u. same_test t u ≡ false) cs → lookup i j cs t ≡ none
unfolding lookup EachTest
none_found i j cnil t h = refl
none_found i j (ccons u at a cs) t h = rw (h.0, lookup) (none_found (i + 1) (j + nodes_in a) cs t h.1)

each_map : (P Q : Test → Type 0) → ((u : Test) → P u → Q u) → (cs : Cases) → EachTest P cs → EachTest Q cs
unfolding EachTest
each_map P Q f cnil h = tt
each_map P Q f (ccons u at a cs) h = (f u h.0, each_map P Q f cs h.1)

short_texts : (n : ℕ) (cs : Cases) → longest_text cs ≤ n → EachTest (λ u. text_length u ≤ n) cs
unfolding longest_text EachTest
short_texts n cnil l = tt
short_texts n (ccons u at a cs) l =
    (omega (arith, larger_left (text_length u) (longest_text cs)), short_texts n cs (omega (arith, larger_right (text_length u) (longest_text cs))))

small_numbers : (n : ℕ) (cs : Cases) → largest_number cs ≤ n → EachTest (λ u. test_number u ≤ n) cs
unfolding largest_number EachTest
small_numbers n cnil l = tt
small_numbers n (ccons u at a cs) l =
    (omega (arith, larger_left (test_number u) (largest_number cs)), small_numbers n cs (omega (arith, larger_right (test_number u) (largest_number cs))))

tens_length : (n : ℕ) → length (tens n) ≡ n
unfolding tens
tens_length zero = refl
tens_length (suc n) = ap suc (tens_length n)

longer_new : (t : Test) (n : ℕ) → n < text_length t → (cs : Cases) → longest_text cs ≤ n → EachTest (λ u. same_test t u ≡ false) cs
longer_new t n l cs m =
    each_map (λ u. text_length u ≤ n) (λ u. same_test t u ≡ false)
    (λ u h. not_true_false (same_test t u) (λ e. too_long (text_length t) (text_length u) l h (ap text_length (same_test_sound t u e)))) cs (short_texts n cs m)
  where
    too_long : (a b : ℕ) → n < a → b ≤ n → a ≡ b → ⊥
    too_long a b x y e = omega arith

larger_new : (t : Test) (n : ℕ) → n < test_number t → (cs : Cases) → largest_number cs ≤ n → EachTest (λ u. same_test t u ≡ false) cs
larger_new t n l cs m =
    each_map (λ u. test_number u ≤ n) (λ u. same_test t u ≡ false)
    (λ u h. not_true_false (same_test t u) (λ e. too_large (test_number t) (test_number u) l h (ap test_number (same_test_sound t u e)))) cs (small_numbers n cs m)
  where
    too_large : (a b : ℕ) → n < a → b ≤ n → a ≡ b → ⊥
    too_large a b x y e = omega arith

new_length : (kind n : ℕ) → n < text_length (new_test kind n)
unfolding new_test text_length new_text
new_length kind n = go (eqb kind 0)
  where
    go : (b : Bool) → n < text_length (pick b (Int (new_text n)) (Bytes (new_text n)))
    go true = omega (arith, tens_length n)
    go false = omega (arith, tens_length n)

module _ (s : List ℕ) where
  -- ---- a value of each shape, where no type is hollow
  -- its type is of integers or of byte strings
  pub text_kind : (t : ℕ) → eqb (type_kind s t) 5 ≡ false → (cs : Cases) → 0 < how_many cs → EachTest (MayShow s t) cs → (type_kind s t ≡ 0) ⊎ (type_kind s t ≡ 1)
  unfolding EachTest how_many MayShow
  text_kind t d cnil l h = absurd (omega arith)
  text_kind t d (ccons u at a cs) l h = go u h.0
    where
      go : (u : Test) → MayShow s t u → (type_kind s t ≡ 0) ⊎ (type_kind s t ≡ 1)
      go (Constr a) m = absurd (true≢false (sym (eq-eqb (type_kind s t) 5 m.0) ∙ d))
      go (Int w) m = inl m.0
      go (Bytes w) m = inr m.0
      go (ListOf n) m = absurd m
      go (ListWithTail n) m = absurd m

  -- ---- what a part takes, one of the shapes takes
  found_among : (f : Shape → Bool) (i j : ℕ) (cs : Cases) (t : Test) (c : Chosen) → lookup i j cs t ≡ some c → f (record { shown = some t; long = none }) ≡ true → any_shape f (tests_of cs) ≡ true
  unfolding lookup any_shape tests_of
  found_among f i j cnil t c e h = let z : ◌≡◌ {A = ℕ} 0 1 = cc in absurd (omega arith)
  found_among f i j (ccons u at a cs) t c e h = go (same_test t u) refl e (λ x. found_among f (i + 1) (j + nodes_in a) cs t c x h)
    where
      go : (b : Bool) → same_test t u ≡ b
          → elim b as (λ z. Option Chosen) [ true ↦ some (record { test = u; index = i; node = j; tree = a }) | false ↦ lookup (i + 1) (j + nodes_in a) cs t ] ≡ some c
          → (lookup (i + 1) (j + nodes_in a) cs t ≡ some c → any_shape f (tests_of cs) ≡ true)
          → either (f (record { shown = some u; long = none })) (any_shape f (tests_of cs)) ≡ true
      go true x e ih = either_first_true (f (record { shown = some u; long = none })) (any_shape f (tests_of cs)) (rw (← same_test_sound t u x) h)
      go false x e ih = either_second_true (f (record { shown = some u; long = none })) (any_shape f (tests_of cs)) (ih e)

  -- tests of one kind that are no case's are taken alike
  none_alike : (k : ℕ) (cs : Cases) (t u : Test) → test_kind t ≡ test_kind u → lookup 0 (k + 1) cs t ≡ none → lookup 0 (k + 1) cs u ≡ none → by_test k cs (some t) ≡ by_test k cs (some u)
  unfolding by_test
  none_alike k cs t u e a b = rw (e, a, b)

  new_kind : (t n : ℕ) (u : Test) → (kind : ℕ) → type_kind s t ≡ kind → test_kind (new_test kind n) ≡ test_kind u → test_kind (new_test (type_kind s t) n) ≡ test_kind u
  new_kind t n u kind e h = rw e h

  text_possible : (t k : ℕ) (cs : Cases) (b : ℕ) (u : Test) → test_kind (new_test (type_kind s t) (longest_text cs)) ≡ test_kind u → branch_is (by_test k cs (some u)) b ≡ true
      → any_shape (λ x. branch_is (by_test k cs x.shown) b) (tests_of cs ++ record { shown = some (new_test (type_kind s t) (longest_text cs)); long = none } ∷ []) ≡ true
  text_possible t k cs b u e h = go (lookup 0 (k + 1) cs u) refl
    where
      new : Test
      new = new_test (type_kind s t) (longest_text cs)

      go : (o : Option Chosen) → lookup 0 (k + 1) cs u ≡ o
          → any_shape (λ x. branch_is (by_test k cs x.shown) b) (tests_of cs ++ record { shown = some (new_test (type_kind s t) (longest_text cs)); long = none } ∷ []) ≡ true
      go (some c) x =
          any_append (λ x. branch_is (by_test k cs x.shown) b) (tests_of cs) (record { shown = some (new_test (type_kind s t) (longest_text cs)); long = none } ∷ [])
          (found_among (λ x. branch_is (by_test k cs x.shown) b) 0 (k + 1) cs u c x h)
      go none x =
          any_last (λ x. branch_is (by_test k cs x.shown) b) (tests_of cs) (record { shown = some (new_test (type_kind s t) (longest_text cs)); long = none })
          (ap (λ o. branch_is o b)
          (none_alike k cs (new_test (type_kind s t) (longest_text cs)) u e
          (none_found 0 (k + 1) cs (new_test (type_kind s t) (longest_text cs)) (longer_new (new_test (type_kind s t) (longest_text cs)) (longest_text cs) (new_length (type_kind s t) (longest_text cs)) cs (omega arith)))
          x) ∙ h)

  -- ---- lengths past the largest number go one way
  tail_alike : (n m : ℕ) (ts : Cases) → largest_number ts ≤ n → largest_number ts ≤ m → largest_tail n ts ≡ largest_tail m ts
  unfolding largest_tail largest_number
  tail_alike n m cnil x y = refl
  tail_alike n m (ccons t at a ts) x y =
      let ih = tail_alike n m ts (omega (arith, larger_right (test_number t) (largest_number ts))) (omega (arith, larger_right (test_number t) (largest_number ts))) in
      let h = number t (omega (arith, larger_left (test_number t) (largest_number ts))) (omega (arith, larger_left (test_number t) (largest_number ts))) in
      ap₂ {C = ℕ} (λ i j. elim (leb i j) as (λ z. ℕ) [ true ↦ j | false ↦ i ]) h ih
    where
      number : (t : Test) → test_number t ≤ n → test_number t ≤ m → tail_number n t ≡ tail_number m t
      number (Constr a) x y = unfold tail_number in refl
      number (Int w) x y = unfold tail_number in refl
      number (Bytes w) x y = unfold tail_number in refl
      number (ListOf j) x y = unfold tail_number in refl
      number (ListWithTail j) x y = unfold tail_number test_number in (rw (le-leb j n x, le-leb j m y))

  length_alike : (k : ℕ) (cs ts : Cases) (n m : ℕ) → largest_number cs < n → largest_number cs < m → largest_number ts ≤ n → largest_number ts ≤ m
      → by_length k cs ts (some n) ≡ by_length k cs ts (some m)
  unfolding by_length
  length_alike k cs ts n m a b c d =
      rw (
        none_found 0 (k + 1) cs (ListOf n) (larger_new (ListOf n) (largest_number cs) (unfold test_number in a) cs (omega arith)),
        none_found 0 (k + 1) cs (ListOf m) (larger_new (ListOf m) (largest_number cs) (unfold test_number in b) cs (omega arith)),
        tail_alike n m ts c d,
      )

  length_possible : (k : ℕ) (cs ts : Cases) (b n : ℕ) → branch_is (by_length k cs ts (some n)) b ≡ true
      → any_shape (λ x. branch_is (by_length k cs ts x.long) b) (lengths_from 0 (larger (largest_number cs) (largest_number ts) + 2)) ≡ true
  length_possible k cs ts b n h = go (ltb n (most + 2)) refl
    where
      most : ℕ
      most = larger (largest_number cs) (largest_number ts)

      go : (c : Bool) → ltb n (larger (largest_number cs) (largest_number ts) + 2) ≡ c
          → any_shape (λ x. branch_is (by_length k cs ts x.long) b) (lengths_from 0 (larger (largest_number cs) (largest_number ts) + 2)) ≡ true
      go true e =
          any_length (λ x. branch_is (by_length k cs ts x.long) b) 0 (larger (largest_number cs) (largest_number ts) + 2) n (omega arith)
          (omega (arith, ltb-true n (larger (largest_number cs) (largest_number ts) + 2) e)) h
      go false e =
          let l = larger_left (largest_number cs) (largest_number ts) in
          let r = larger_right (largest_number cs) (largest_number ts) in
          let far = ltb-false n (larger (largest_number cs) (largest_number ts) + 2) e in
          any_length (λ x. branch_is (by_length k cs ts x.long) b) 0 (larger (largest_number cs) (largest_number ts) + 2) (larger (largest_number cs) (largest_number ts) + 1) (omega arith) (omega arith)
          (ap (λ o. branch_is o b) (length_alike k cs ts (larger (largest_number cs) (largest_number ts) + 1) n (omega arith) (omega arith) (omega arith) (omega arith)) ∙ h)

  -- ---- the shapes of values of a type
  shape_number : (t : ℕ) → type_kind s t ≡ 5 → (x : Value) → of_type s t x ≡ true → (a : ℕ) × (a < type_count s t) × (shape_of x ≡ record { shown = some (Constr a); long = none })
  unfolding shape_of shows shows_whole length_of whole_kind
  shape_number t e (an_integer w) h = absurd (kinds_differ s t 5 0 e (integer_kind s t w h) refl)
  shape_number t e (a_byte_string w) h = absurd (kinds_differ s t 5 1 e (bytes_kind s t w h) refl)
  shape_number t e (whole a_list vs) h = absurd (kinds_differ s t 5 2 e (whole_kind_lem s t a_list vs h) refl)
  shape_number t e (whole a_pair vs) h = absurd (kinds_differ s t 5 3 e (whole_kind_lem s t a_pair vs h) refl)
  shape_number t e (whole a_tuple vs) h = absurd (kinds_differ s t 5 4 e (whole_kind_lem s t a_tuple vs h) refl)
  shape_number t e (whole (a_constructor a) vs) h =
      let (k, m, n) = takes s [] t a (many_values vs) (unfold takes_parts in (whole_takes s t (a_constructor a) vs h)) in
      (a, m, refl)

  shape_integer : (t : ℕ) → type_kind s t ≡ 0 → (x : Value) → of_type s t x ≡ true → (w : Text) × (shape_of x ≡ record { shown = some (Int w); long = none })
  unfolding shape_of shows length_of whole_kind
  shape_integer t e (an_integer w) h = (w, refl)
  shape_integer t e (a_byte_string w) h = absurd (kinds_differ s t 0 1 e (bytes_kind s t w h) refl)
  shape_integer t e (whole a_list vs) h = absurd (kinds_differ s t 0 2 e (whole_kind_lem s t a_list vs h) refl)
  shape_integer t e (whole a_pair vs) h = absurd (kinds_differ s t 0 3 e (whole_kind_lem s t a_pair vs h) refl)
  shape_integer t e (whole a_tuple vs) h = absurd (kinds_differ s t 0 4 e (whole_kind_lem s t a_tuple vs h) refl)
  shape_integer t e (whole (a_constructor a) vs) h = absurd (kinds_differ s t 0 5 e (whole_kind_lem s t (a_constructor a) vs h) refl)

  shape_bytes : (t : ℕ) → type_kind s t ≡ 1 → (x : Value) → of_type s t x ≡ true → (w : Text) × (shape_of x ≡ record { shown = some (Bytes w); long = none })
  unfolding shape_of shows length_of whole_kind
  shape_bytes t e (an_integer w) h = absurd (kinds_differ s t 1 0 e (integer_kind s t w h) refl)
  shape_bytes t e (a_byte_string w) h = (w, refl)
  shape_bytes t e (whole a_list vs) h = absurd (kinds_differ s t 1 2 e (whole_kind_lem s t a_list vs h) refl)
  shape_bytes t e (whole a_pair vs) h = absurd (kinds_differ s t 1 3 e (whole_kind_lem s t a_pair vs h) refl)
  shape_bytes t e (whole a_tuple vs) h = absurd (kinds_differ s t 1 4 e (whole_kind_lem s t a_tuple vs h) refl)
  shape_bytes t e (whole (a_constructor a) vs) h = absurd (kinds_differ s t 1 5 e (whole_kind_lem s t (a_constructor a) vs h) refl)

  shape_list : (t : ℕ) → type_kind s t ≡ 2 → (x : Value) → of_type s t x ≡ true → (n : ℕ) × (shape_of x ≡ record { shown = none; long = some n })
  unfolding shape_of shows shows_whole length_of whole_kind
  shape_list t e (an_integer w) h = absurd (kinds_differ s t 2 0 e (integer_kind s t w h) refl)
  shape_list t e (a_byte_string w) h = absurd (kinds_differ s t 2 1 e (bytes_kind s t w h) refl)
  shape_list t e (whole a_list vs) h = (many_values vs, refl)
  shape_list t e (whole a_pair vs) h = absurd (kinds_differ s t 2 3 e (whole_kind_lem s t a_pair vs h) refl)
  shape_list t e (whole a_tuple vs) h = absurd (kinds_differ s t 2 4 e (whole_kind_lem s t a_tuple vs h) refl)
  shape_list t e (whole (a_constructor a) vs) h = absurd (kinds_differ s t 2 5 e (whole_kind_lem s t (a_constructor a) vs h) refl)

  switch_possible : (t k : ℕ) (cs : Cases) (b : ℕ) → 0 < how_many cs → EachTest (MayShow s t) cs → (x : Value) → of_type s t x ≡ true → branch_is (by_test k cs (shape_of x).shown) b ≡ true
      → any_shape (λ y. branch_is (by_test k cs y.shown) b)
      (pick (eqb (type_kind s t) 5) (numbers_from 0 (type_count s t)) (tests_of cs ++ record { shown = some (new_test (type_kind s t) (longest_text cs)); long = none } ∷ [])) ≡ true
  switch_possible t k cs b l m x h e = go (eqb (type_kind s t) 5) refl
    where
      texts : (type_kind s t ≡ 0) ⊎ (type_kind s t ≡ 1)
          → any_shape (λ y. branch_is (by_test k cs y.shown) b) (tests_of cs ++ record { shown = some (new_test (type_kind s t) (longest_text cs)); long = none } ∷ []) ≡ true
      texts (inl z) =
          let (w, q) = shape_integer t z x h in
          text_possible t k cs b (Int w) (rw z (unfold new_test test_kind in refl)) (rw q at e)
      texts (inr z) =
          let (w, q) = shape_bytes t z x h in
          text_possible t k cs b (Bytes w) (rw z (unfold new_test test_kind in refl)) (rw q at e)

      go : (c : Bool) → eqb (type_kind s t) 5 ≡ c
          → any_shape (λ y. branch_is (by_test k cs y.shown) b)
          (pick c (numbers_from 0 (type_count s t)) (tests_of cs ++ record { shown = some (new_test (type_kind s t) (longest_text cs)); long = none } ∷ [])) ≡ true
      go true z =
          let (a, n, q) = shape_number t (eqb-true (type_kind s t) 5 z) x h in
          any_number (λ y. branch_is (by_test k cs y.shown) b) 0 (type_count s t) a (omega arith) (omega arith) (rw q at e)
      go false z = texts (text_kind t z cs l m)

  -- THEOREM: the branch that a part takes is possible
  pub taken_possible : (t k : ℕ) (a : Tree) (b : ℕ) → NodeFits s t a → (x : Value) → of_type s t x ≡ true → branch_is (choose_in k a (shape_of x)) b ≡ true → possible s t k a b ≡ true
  unfolding possible shapes_of choose_in NodeFits
  taken_possible t k absent b f x h e = unfold branch_is in (absurd (false≢true e))
  taken_possible t k (leaf c bs) b f x h e = unfold branch_is in (absurd (false≢true e))
  taken_possible t k (hoist c bs a) b f x h e = unfold branch_is in (absurd (false≢true e))
  taken_possible t k (switch p cs d) b f x h e = switch_possible t k cs b f.1 f.2 x h e
  taken_possible t k (listswitch p cs ts d) b f x h e =
      let (n, q) = shape_list t f.1 x h in
      length_possible k cs ts b n (rw q at e)
