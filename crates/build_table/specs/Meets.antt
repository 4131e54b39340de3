-- The structure meets the numbers: the columns and bindings that rule 1 gives of a pattern are the cells and bindings at the numbers of
-- the tests and names seen there, in the same order; and so of what a test opens to, and of a clause's row.
-- Rests on SeenLaws, StandingLaws, and a pattern opened one level.
use Rattle.std.specs.Prelude.{◌≡◌, Bool}
use Rattle.std.proofs.Math.Path.{refl, sym, ap, ap₂}
use Rattle.std.proofs.Common.{◌∙◌, inr, true≢false, zero-add, mul-zero, one-mul}
use Rattle.std.proofs.Math.Bool.{true, false}
use mathlib.Core.List.{List, [], ◌∷◌, ◌++◌, map, map-append}
use Prim.Native.Nat.{ℕ, zero, suc, ◌+◌, ◌-◌, ◌*◌, ◌≤◌, ◌<◌}
use native.Mathlib.Omega.{arith}
use Rattle.std.proofs.Math.Nat.{add-zero}
use borrow.Author.Tests.{not-true, ne_eqb, eq-eqb}
use Rattle.std.proofs.Math.Dec.{eqb}
use Rattle.base_words.specs.Words.{both}
use Rattle.base_words.specs.WordsLaws.{pick_false}
use Rattle.spec_rules.specs.Kinds.{tuple_pattern}
use Rattle.spec_rules.specs.SheetFile.{patterns, clauses, type_first, constructor_first, entry, pattern_kind, pattern_a, pattern_first, pattern_count, child, root}
use Rattle.spec_rules.specs.Patterns.{PatternKind, Discard, Variable, Assign, Integer, ByteString, ListOfAll, ListWithRest, Constructor, Pair, Tuple, Unknown, pairs, tuples, Pat, Pats, pnil, pcons, many, one_constructor, decorated, constructor_of, along, of_constructor, of_kind, pattern, clause_pattern}
use Rattle.spec_rules.specs.SheetRefusals.{has_children}
use Rattle.spec_rules.specs.Rows.{Step, constr, list, listtail, Path, into, opening, Binding, Cell, columns_of, columns_of_each, bindings_of, bindings_of_each, opened_columns, opened_bindings}
use Rattle.spec_accepted.specs.KindsLaws.{pattern_number, pattern_byte, unknown_pattern}
use Rattle.spec_accepted.specs.SheetFacts.{Counted, Parent, Owns, Shaped, owned_pattern}
use Rattle.spec_accepted.specs.PatternsLaws.{many_along, pattern_of_kind}
use Rattle.build_table.specs.Standing.{kind_of, is_tail, step_to, type_to, follows, path_of, type_of, pattern_of, is_test}
use Rattle.build_table.specs.StandingLaws.{by_children, root_path, root_type, child_path, child_type}
use Rattle.build_table.specs.Seen.{each_of, tests_of, binds_of, opened_tests, opened_binds, cell_at, binding_at}
use Rattle.build_table.specs.SeenLaws.{each_of_last, test_of_constructor, test_kind, test_kind_most, opened_tests_each, opened_binds_each, opened_tests_none, opened_binds_none, tests_plain, tests_assign, tests_text_or_list, tests_several, tests_only, tests_pair, binds_discard, binds_variable, binds_assign, binds_text_or_list, binds_several, binds_only, binds_pair}

-- ---- along the children
-- pattern q stands at the path, and has the type at entry e
record Part (s : List ℕ) (path : Path) (e q : ℕ) : Type 0 where
  stands : path_of s q ≡ path
  typed : type_of s q ≡ entry s e

-- `of` gives something of a pattern at a path, and `of_each` of parts what `of` gives of each, one after the other
record Gathers (A : Type 0) (of : Path → Pat → List A) (of_each : Path → (ℕ → Step) → ℕ → Pats → List A) : Type 0 where
  none_of : (path : Path) (step : ℕ → Step) (i : ℕ) → of_each path step i pnil ≡ []
  more_of : (path : Path) (step : ℕ → Step) (i : ℕ) (q : Pat) (qs : Pats) → of_each path step i (pcons q qs) ≡ of (into path (step i)) q ++ of_each path step (i + 1) qs

-- what `of` gives of pattern q is what stands at these numbers
abbrev Meeting : {A : Type 0} → List ℕ → (Path → Pat → List A) → (ℕ → List ℕ) → (ℕ → A) → ℕ → Type 0
Meeting s of numbers at q = of (path_of s q) (pattern_of s q) ≡ map at (numbers q)

module _ {A : Type 0} {of : Path → Pat → List A} {of_each : Path → (ℕ → Step) → ℕ → Pats → List A} (g : Gathers A of of_each)
    (s : List ℕ) (numbers : ℕ → List ℕ) (at : ℕ → A) where
  part_meets : (path : Path) (e q : ℕ) → Part s path e q → Meeting s of numbers at q → of path (pattern s q (entry s e)) ≡ map at (numbers q)
  part_meets path e q part meets = rw (← part.stands, ← part.typed) meets

  each_meets : (path : Path) (step : ℕ → Step) (stride j n e i : ℕ)
      → ((k : ℕ) → k < n → Part s (into path (step (i + k))) (e + stride * k) (child s (j + k)))
      → ((k : ℕ) → k < n → Meeting s of numbers at (child s (j + k)))
      → of_each path step i (along (pattern s) s j n e stride) ≡ map at (each_of numbers s j n)
  unfolding along each_of
  each_meets path step stride j zero e i parts meet = g.none_of path step i
  each_meets path step stride j (suc n) e i parts meet =
      g.more_of path step i (pattern s (child s j) (entry s e)) (along (pattern s) s (j + 1) n (e + stride) stride)
      ∙ ap₂ ◌++◌ first (each_meets path step stride (j + 1) n (e + stride) (i + 1) later (λ k l. rw (shift_j k) at (meet (suc k) (omega arith))))
      ∙ sym (map-append at (numbers (child s j)) (each_of numbers s (j + 1) n))
    where
      shift_j : (k : ℕ) → j + suc k ≡ j + 1 + k
      shift_j k = omega arith

      shift_i : (k : ℕ) → i + suc k ≡ i + 1 + k
      shift_i k = omega arith

      shift_e : (k : ℕ) → e + stride * suc k ≡ e + stride + stride * k
      shift_e k = omega arith

      first : of (into path (step i)) (pattern s (child s j) (entry s e)) ≡ map at (numbers (child s j))
      first =
          part_meets (into path (step i)) e (child s j)
          (simp (add-zero, mul-zero) at (parts 0 (omega arith)))
          (rw (add-zero) at (meet 0 (omega arith)))

      later : (k : ℕ) → k < n → Part s (into path (step (i + 1 + k))) (e + stride + stride * k) (child s (j + 1 + k))
      later k l = rw (shift_i k, shift_e k, shift_j k) at (parts (suc k) (omega arith))

-- ---- where the parts of a pattern stand, by its kind
module _ {s : List ℕ} (sh : Shaped s) (few : Counted s) (p : ℕ) (h : p < patterns s) where
  abbrev t : ℕ
  t = type_of s p

  owns_part : (kind : PatternKind) → kind_of s p ≡ kind → has_children kind ≡ true → (i : ℕ) → i < pattern_count s p → Owns s p (pattern_first s p + i)
  unfolding kind_of
  owns_part kind e has i l = record { parent = ap has_children e ∙ has; from = omega arith; to = omega arith }

  part_path : (kind : PatternKind) → kind_of s p ≡ kind → has_children kind ≡ true → (i : ℕ) → i < pattern_count s p
      → path_of s (child s (pattern_first s p + i)) ≡ follows (path_of s p) (step_to s p t kind i)
  part_path kind e has i l =
      let o = owns_part kind e has i l in
      let back : pattern_first s p + i - pattern_first s p ≡ i = omega arith in
      child_path sh p (pattern_first s p + i) h o few ∙ rw (back, e)

  part_type : (kind : PatternKind) → kind_of s p ≡ kind → has_children kind ≡ true → (i : ℕ) → i < pattern_count s p
      → type_of s (child s (pattern_first s p + i)) ≡ type_to s p t kind i
  part_type kind e has i l =
      let o = owns_part kind e has i l in
      let back : pattern_first s p + i - pattern_first s p ≡ i = omega arith in
      child_type sh p (pattern_first s p + i) h o few ∙ rw (back, e)

  pair_parts : kind_of s p ≡ Pair → (k : ℕ) → k < pattern_count s p
      → Part s (into (path_of s p) (opening pairs t (0 + k))) (type_first s t + 1 * k) (child s (pattern_first s p + k))
  unfolding step_to type_to follows opening has_children
  pair_parts e k l = record { stands = simp (zero-add) (part_path Pair e refl k l); typed = simp (one-mul) (part_type Pair e refl k l) }

  tuple_parts : kind_of s p ≡ Tuple → (k : ℕ) → k < pattern_count s p
      → Part s (into (path_of s p) (opening tuples t (0 + k))) (type_first s t + 1 * k) (child s (pattern_first s p + k))
  unfolding step_to type_to follows opening has_children
  tuple_parts e k l = record { stands = simp (zero-add) (part_path Tuple e refl k l); typed = simp (one-mul) (part_type Tuple e refl k l) }

  list_parts : kind_of s p ≡ ListOfAll → (k : ℕ) → k < pattern_count s p
      → Part s (into (path_of s p) (list (0 + k) t)) (type_first s t + 0 * k) (child s (pattern_first s p + k))
  unfolding step_to type_to follows has_children
  list_parts e k l =
      let same : type_first s t ≡ type_first s t + 0 * k = omega arith in
      record { stands = simp (zero-add) (part_path ListOfAll e refl k l); typed = part_type ListOfAll e refl k l ∙ ap (entry s) same }

  field_parts : (one : Bool) → one_constructor s t ≡ one → kind_of s p ≡ Constructor → (k : ℕ) → k < pattern_count s p
      → Part s (into (path_of s p) (constr (0 + k) (both one (decorated s t)) t)) (constructor_first s (constructor_of s t (pattern_a s p)) + 1 * k) (child s (pattern_first s p + k))
  unfolding step_to type_to follows has_children
  field_parts one x e k l =
      record {
        stands = simp (zero-add) (rw x at (part_path Constructor e refl k l));
        typed = simp (one-mul) (part_type Constructor e refl k l);
      }

  -- of a list with tail: an element, and the tail
  element_parts : kind_of s p ≡ ListWithRest → (k : ℕ) → k < pattern_count s p - 1
      → Part s (into (path_of s p) (list (0 + k) t)) (type_first s t + 0 * k) (child s (pattern_first s p + k))
  unfolding step_to type_to follows has_children is_tail
  element_parts e k l =
      let other : eqb (k + 1) (pattern_count s p) ≡ false = ne_eqb (k + 1) (pattern_count s p) (λ x. omega arith) in
      let same : type_first s t ≡ type_first s t + 0 * k = omega arith in
      record {
        stands = simp (zero-add) (rw (other) at (part_path ListWithRest e refl k (omega arith)));
        typed = part_type ListWithRest e refl k (omega arith) ∙ pick_false (eqb (k + 1) (pattern_count s p)) t (entry s (type_first s t)) other ∙ ap (entry s) same;
      }

  tail_path : kind_of s p ≡ ListWithRest → 1 ≤ pattern_count s p
      → path_of s (child s (pattern_first s p + (pattern_count s p - 1))) ≡ into (path_of s p) (listtail (pattern_count s p - 1) t)
  unfolding step_to follows has_children is_tail
  tail_path e some_there =
      let last : eqb (pattern_count s p - 1 + 1) (pattern_count s p) ≡ true = eq-eqb (pattern_count s p - 1 + 1) (pattern_count s p) (omega arith) in
      rw (last) at (part_path ListWithRest e refl (pattern_count s p - 1) (omega arith))

  tail_type : kind_of s p ≡ ListWithRest → 1 ≤ pattern_count s p → type_of s (child s (pattern_first s p + (pattern_count s p - 1))) ≡ t
  unfolding type_to has_children is_tail
  tail_type e some_there =
      let last : eqb (pattern_count s p - 1 + 1) (pattern_count s p) ≡ true = eq-eqb (pattern_count s p - 1 + 1) (pattern_count s p) (omega arith) in
      rw (last) at (part_type ListWithRest e refl (pattern_count s p - 1) (omega arith))

  -- ---- what is gathered of the parts, if it is so of each
  module _ {A : Type 0} {of : Path → Pat → List A} {of_each : Path → (ℕ → Step) → ℕ → Pats → List A} (g : Gathers A of of_each)
      (numbers : ℕ → List ℕ) (at : ℕ → A) (ih : (j : ℕ) → Owns s p j → Meeting s of numbers at (child s j)) where
    each_of_lem : (kind : PatternKind) → kind_of s p ≡ kind → has_children kind ≡ true → (n : ℕ) → n ≤ pattern_count s p
        → (k : ℕ) → k < n → Meeting s of numbers at (child s (pattern_first s p + k))
    each_of_lem kind e has n most k l = ih (pattern_first s p + k) (owns_part kind e has k (omega arith))

    gathers_pair : kind_of s p ≡ Pair
        → of_each (path_of s p) (opening pairs t) 0 (along (pattern s) s (pattern_first s p) (pattern_count s p) (type_first s t) 1)
        ≡ map at (each_of numbers s (pattern_first s p) (pattern_count s p))
    unfolding has_children
    gathers_pair e =
        each_meets g s numbers at (path_of s p) (opening pairs t) 1 (pattern_first s p) (pattern_count s p) (type_first s t) 0 (pair_parts e)
        (each_of_lem Pair e refl (pattern_count s p) (omega arith))

    gathers_tuple : kind_of s p ≡ Tuple
        → of_each (path_of s p) (opening tuples t) 0 (along (pattern s) s (pattern_first s p) (pattern_count s p) (type_first s t) 1)
        ≡ map at (each_of numbers s (pattern_first s p) (pattern_count s p))
    unfolding has_children
    gathers_tuple e =
        each_meets g s numbers at (path_of s p) (opening tuples t) 1 (pattern_first s p) (pattern_count s p) (type_first s t) 0 (tuple_parts e)
        (each_of_lem Tuple e refl (pattern_count s p) (omega arith))

    gathers_list : kind_of s p ≡ ListOfAll
        → of_each (path_of s p) (λ i. list i t) 0 (along (pattern s) s (pattern_first s p) (pattern_count s p) (type_first s t) 0)
        ≡ map at (each_of numbers s (pattern_first s p) (pattern_count s p))
    unfolding has_children
    gathers_list e =
        each_meets g s numbers at (path_of s p) (λ i. list i t) 0 (pattern_first s p) (pattern_count s p) (type_first s t) 0 (list_parts e)
        (each_of_lem ListOfAll e refl (pattern_count s p) (omega arith))

    gathers_fields : (one : Bool) → one_constructor s t ≡ one → kind_of s p ≡ Constructor
        → of_each (path_of s p) (λ i. constr i (both one (decorated s t)) t) 0
        (along (pattern s) s (pattern_first s p) (pattern_count s p) (constructor_first s (constructor_of s t (pattern_a s p))) 1)
        ≡ map at (each_of numbers s (pattern_first s p) (pattern_count s p))
    unfolding has_children
    gathers_fields one x e =
        each_meets g s numbers at (path_of s p) (λ i. constr i (both one (decorated s t)) t) 1 (pattern_first s p) (pattern_count s p)
        (constructor_first s (constructor_of s t (pattern_a s p))) 0 (field_parts one x e)
        (each_of_lem Constructor e refl (pattern_count s p) (omega arith))

    gathers_tailed : kind_of s p ≡ ListWithRest
        → of_each (path_of s p) (λ i. list i t) 0 (along (pattern s) s (pattern_first s p) (pattern_count s p - 1) (type_first s t) 0)
        ++ of (into (path_of s p) (listtail (many (along (pattern s) s (pattern_first s p) (pattern_count s p - 1) (type_first s t) 0)) t))
        (pattern s (child s (pattern_first s p + (pattern_count s p - 1))) t)
        ≡ map at (each_of numbers s (pattern_first s p) (pattern_count s p))
    unfolding has_children kind_of
    gathers_tailed e =
        let n = pattern_count s p - 1 in
        let two = sh.tail_after_some p h (pattern_byte (pattern_kind s p) ListWithRest e (omega arith)) in
        let q = child s (pattern_first s p + n) in
        let whole : n + 1 ≡ pattern_count s p = omega arith in
        let elements =
        each_meets g s numbers at (path_of s p) (λ i. list i t) 0 (pattern_first s p) n (type_first s t) 0 (element_parts e)
        (each_of_lem ListWithRest e refl n (omega arith))
        in
        let last : of (into (path_of s p) (listtail n t)) (pattern s q t) ≡ map at (numbers q) =
        rw (← tail_path e (omega arith), ← tail_type e (omega arith)) (ih (pattern_first s p + n) (owns_part ListWithRest e refl n (omega arith)))
        in
        rw (many_along (pattern s) s (pattern_first s p) n (type_first s t) 0) (ap₂ ◌++◌ elements last)
        ∙ sym (map-append at (each_of numbers s (pattern_first s p) n) (numbers q))
        ∙ ap (map at) (sym (each_of_last numbers s (pattern_first s p) n) ∙ ap (each_of numbers s (pattern_first s p)) whole)

  -- an assign's inside stands where the assign does
  assign_path : kind_of s p ≡ Assign → path_of s (child s (pattern_first s p)) ≡ path_of s p
  unfolding step_to follows has_children kind_of
  assign_path e =
      let one = sh.assign_one p h (pattern_byte (pattern_kind s p) Assign e (omega arith)) in
      rw add-zero at (part_path Assign e refl 0 (omega arith))

  assign_type : kind_of s p ≡ Assign → type_of s (child s (pattern_first s p)) ≡ t
  unfolding type_to has_children kind_of
  assign_type e =
      let one = sh.assign_one p h (pattern_byte (pattern_kind s p) Assign e (omega arith)) in
      rw add-zero at (part_type Assign e refl 0 (omega arith))

  assign_owns : kind_of s p ≡ Assign → Owns s p (pattern_first s p)
  unfolding has_children kind_of
  assign_owns e =
      let one = sh.assign_one p h (pattern_byte (pattern_kind s p) Assign e (omega arith)) in
      record { parent = ap has_children e; from = omega arith; to = omega arith }

  -- the kind byte of a known kind
  byte : (kind : PatternKind) → kind_of s p ≡ kind → pattern_number kind < suc tuple_pattern → pattern_kind s p ≡ pattern_number kind
  unfolding kind_of
  byte kind e l = pattern_byte (pattern_kind s p) kind e l

  parent : (kind : PatternKind) → kind_of s p ≡ kind → has_children kind ≡ true → Parent s p
  unfolding kind_of
  parent kind e has = ap has_children e ∙ has

-- a shaped sheet has no other kind
known_kind : {s : List ℕ} → Shaped s → (p : ℕ) → p < patterns s → kind_of s p ≡ Unknown → ⊥
unfolding kind_of
known_kind {s} sh p h e = omega (arith, sh.pattern_kind_holds p h, unknown_pattern (pattern_kind s p) e)

-- ---- columns
gathers_columns : Gathers Cell columns_of columns_of_each
unfolding columns_of
gathers_columns = record { none_of = λ path step i. refl; more_of = λ path step i q qs. refl }

abbrev one_cell : Path → Pat → List Cell
one_cell path q = record { path = path; pattern = q } ∷ []

module _ {s : List ℕ} (sh : Shaped s) (few : Counted s) where
  -- a test is one column, with itself
  test_column : (p : ℕ) (q : Pat) → columns_of (path_of s p) q ≡ one_cell (path_of s p) q → pattern_of s p ≡ q → tests_of s p ≡ p ∷ []
      → columns_of (path_of s p) q ≡ map (cell_at s) (tests_of s p)
  test_column p q a b c = a ∙ ap (one_cell (path_of s p)) (sym b) ∙ ap (map (cell_at s)) (sym c)

  module _ (p : ℕ) (h : p < patterns s) (ih : (j : ℕ) → Owns s p j → Meeting s columns_of (tests_of s) (cell_at s) (child s j)) where
    columns_of_constructor : kind_of s p ≡ Constructor → (one : Bool) → one_constructor s (type_of s p) ≡ one
        → pattern_of s p
        ≡ of_constructor (record { number = p; type = type_of s p }) (pattern_a s p) (decorated s (type_of s p))
        (along (pattern s) s (pattern_first s p) (pattern_count s p) (constructor_first s (constructor_of s (type_of s p) (pattern_a s p))) 1) one
        → Meeting s columns_of (tests_of s) (cell_at s) p
    unfolding of_constructor columns_of opening has_children
    columns_of_constructor e true x y =
        ap (columns_of (path_of s p)) y
        ∙ gathers_fields sh few p h gathers_columns (tests_of s) (cell_at s) ih true x e
        ∙ ap (map (cell_at s)) (sym (tests_only sh few p h (byte sh few p h Constructor e (omega arith)) x))
    columns_of_constructor e false x y =
        ap (columns_of (path_of s p)) y ∙ test_column p _ refl y (tests_several sh few p h (byte sh few p h Constructor e (omega arith)) x)

    columns_of_kind : (kind : PatternKind) → kind_of s p ≡ kind → pattern_of s p ≡ of_kind (pattern s) s p (type_of s p) kind
        → Meeting s columns_of (tests_of s) (cell_at s) p
    unfolding of_kind columns_of
    columns_of_kind Discard e y =
        let k = byte sh few p h Discard e (omega arith) in
        ap (columns_of (path_of s p)) y ∙ ap (map (cell_at s)) (sym (tests_plain sh few p h (omega arith)))
    columns_of_kind Variable e y =
        let k = byte sh few p h Variable e (omega arith) in
        ap (columns_of (path_of s p)) y ∙ ap (map (cell_at s)) (sym (tests_plain sh few p h (omega arith)))
    columns_of_kind Assign e y =
        ap (columns_of (path_of s p)) y
        ∙ ap₂ (λ (path : Path) (u : ℕ). columns_of path (pattern s (child s (pattern_first s p)) u)) (sym (assign_path sh few p h e)) (sym (assign_type sh few p h e))
        ∙ ih (pattern_first s p) (assign_owns sh few p h e)
        ∙ ap (map (cell_at s)) (sym (tests_assign sh few p h (byte sh few p h Assign e (omega arith))))
    columns_of_kind Integer e y =
        let k = byte sh few p h Integer e (omega arith) in
        ap (columns_of (path_of s p)) y ∙ test_column p _ refl y (tests_text_or_list sh few p h (omega arith) (omega arith))
    columns_of_kind ByteString e y =
        let k = byte sh few p h ByteString e (omega arith) in
        ap (columns_of (path_of s p)) y ∙ test_column p _ refl y (tests_text_or_list sh few p h (omega arith) (omega arith))
    columns_of_kind ListOfAll e y =
        let k = byte sh few p h ListOfAll e (omega arith) in
        ap (columns_of (path_of s p)) y ∙ test_column p _ refl y (tests_text_or_list sh few p h (omega arith) (omega arith))
    columns_of_kind ListWithRest e y =
        let k = byte sh few p h ListWithRest e (omega arith) in
        ap (columns_of (path_of s p)) y ∙ test_column p _ refl y (tests_text_or_list sh few p h (omega arith) (omega arith))
    columns_of_kind Constructor e y = columns_of_constructor e (one_constructor s (type_of s p)) refl y
    columns_of_kind Pair e y =
        let k = byte sh few p h Pair e (omega arith) in
        ap (columns_of (path_of s p)) y
        ∙ gathers_pair sh few p h gathers_columns (tests_of s) (cell_at s) ih e
        ∙ ap (map (cell_at s)) (sym (tests_pair sh few p h (omega arith) (omega arith)))
    columns_of_kind Tuple e y =
        let k = byte sh few p h Tuple e (omega arith) in
        ap (columns_of (path_of s p)) y
        ∙ gathers_tuple sh few p h gathers_columns (tests_of s) (cell_at s) ih e
        ∙ ap (map (cell_at s)) (sym (tests_pair sh few p h (omega arith) (omega arith)))
    columns_of_kind Unknown e y = absurd (known_kind sh p h e)

  -- what a test opens to
  module _ (p : ℕ) (h : p < patterns s) (test : is_test s p ≡ true) (ih : (j : ℕ) → Owns s p j → Meeting s columns_of (tests_of s) (cell_at s) (child s j)) where
    opened_of_kind : (kind : PatternKind) → kind_of s p ≡ kind → pattern_of s p ≡ of_kind (pattern s) s p (type_of s p) kind
        → opened_columns (path_of s p) (pattern_of s p) ≡ map (cell_at s) (opened_tests s p)
    unfolding of_kind of_constructor opened_columns has_children
    opened_of_kind Discard e y = let k = byte sh few p h Discard e (omega arith) in absurd (omega (arith, test_kind s p test))
    opened_of_kind Variable e y = let k = byte sh few p h Variable e (omega arith) in absurd (omega (arith, test_kind s p test))
    opened_of_kind Assign e y = let k = byte sh few p h Assign e (omega arith) in absurd (omega (arith, test_kind s p test))
    opened_of_kind Integer e y =
        let k = byte sh few p h Integer e (omega arith) in
        ap (opened_columns (path_of s p)) y ∙ ap (map (cell_at s)) (sym (opened_tests_none sh few p h (inr (omega arith, omega arith))))
    opened_of_kind ByteString e y =
        let k = byte sh few p h ByteString e (omega arith) in
        ap (opened_columns (path_of s p)) y ∙ ap (map (cell_at s)) (sym (opened_tests_none sh few p h (inr (omega arith, omega arith))))
    opened_of_kind ListOfAll e y =
        ap (opened_columns (path_of s p)) y
        ∙ gathers_list sh few p h gathers_columns (tests_of s) (cell_at s) ih e
        ∙ ap (map (cell_at s)) (sym (opened_tests_each sh few p h (parent sh few p h ListOfAll e refl)))
    opened_of_kind ListWithRest e y =
        ap (opened_columns (path_of s p)) y
        ∙ gathers_tailed sh few p h gathers_columns (tests_of s) (cell_at s) ih e
        ∙ ap (map (cell_at s)) (sym (opened_tests_each sh few p h (parent sh few p h ListWithRest e refl)))
    opened_of_kind Constructor e y =
        let several : one_constructor s (type_of s p) ≡ false = not-true (one_constructor s (type_of s p)) (sym (test_of_constructor s p (byte sh few p h Constructor e (omega arith))) ∙ test) in
        ap (opened_columns (path_of s p)) (y ∙ ap (of_constructor (record { number = p; type = type_of s p }) (pattern_a s p) (decorated s (type_of s p)) (along (pattern s) s (pattern_first s p) (pattern_count s p) (constructor_first s (constructor_of s (type_of s p) (pattern_a s p))) 1)) several)
        ∙ gathers_fields sh few p h gathers_columns (tests_of s) (cell_at s) ih false several e
        ∙ ap (map (cell_at s)) (sym (opened_tests_each sh few p h (parent sh few p h Constructor e refl)))
    opened_of_kind Pair e y = let k = byte sh few p h Pair e (omega arith) in absurd (omega (arith, test_kind_most s p test))
    opened_of_kind Tuple e y = let k = byte sh few p h Tuple e (omega arith) in absurd (omega (arith, test_kind_most s p test))
    opened_of_kind Unknown e y = absurd (known_kind sh p h e)

  pub columns_meet : (p : ℕ) → p < patterns s → columns_of (path_of s p) (pattern_of s p) ≡ map (cell_at s) (tests_of s p)
  columns_meet =
      by_children sh (Meeting s columns_of (tests_of s) (cell_at s))
      (λ p h ih. columns_of_kind p h ih (kind_of s p) refl (unfold kind_of in (pattern_of_kind s sh few p (type_of s p) h (kind_of s p) refl)))

  pub opened_columns_meet : (p : ℕ) → p < patterns s → is_test s p ≡ true → opened_columns (path_of s p) (pattern_of s p) ≡ map (cell_at s) (opened_tests s p)
  opened_columns_meet p h test =
      opened_of_kind p h test (λ j o. columns_meet (child s j) (owned_pattern sh p j h o)) (kind_of s p) refl
      (unfold kind_of in (pattern_of_kind s sh few p (type_of s p) h (kind_of s p) refl))

-- ---- bindings
gathers_bindings : Gathers Binding bindings_of bindings_of_each
unfolding bindings_of
gathers_bindings = record { none_of = λ path step i. refl; more_of = λ path step i q qs. refl }

module _ {s : List ℕ} (sh : Shaped s) (few : Counted s) where
  module _ (p : ℕ) (h : p < patterns s) (ih : (j : ℕ) → Owns s p j → Meeting s bindings_of (binds_of s) (binding_at s) (child s j)) where
    bindings_of_constructor : kind_of s p ≡ Constructor → (one : Bool) → one_constructor s (type_of s p) ≡ one
        → bindings_of (path_of s p)
        (of_constructor (record { number = p; type = type_of s p }) (pattern_a s p) (decorated s (type_of s p))
        (along (pattern s) s (pattern_first s p) (pattern_count s p) (constructor_first s (constructor_of s (type_of s p) (pattern_a s p))) 1) one)
        ≡ map (binding_at s) (binds_of s p)
    unfolding of_constructor bindings_of opening
    bindings_of_constructor e true x =
        gathers_fields sh few p h gathers_bindings (binds_of s) (binding_at s) ih true x e
        ∙ ap (map (binding_at s)) (sym (binds_only sh few p h (byte sh few p h Constructor e (omega arith)) x))
    bindings_of_constructor e false x = ap (map (binding_at s)) (sym (binds_several sh few p h (byte sh few p h Constructor e (omega arith)) x))

    bindings_of_kind : (kind : PatternKind) → kind_of s p ≡ kind
        → bindings_of (path_of s p) (of_kind (pattern s) s p (type_of s p) kind) ≡ map (binding_at s) (binds_of s p)
    unfolding of_kind bindings_of
    bindings_of_kind Discard e = ap (map (binding_at s)) (sym (binds_discard sh few p h (byte sh few p h Discard e (omega arith))))
    bindings_of_kind Variable e = ap (map (binding_at s)) (sym (binds_variable sh few p h (byte sh few p h Variable e (omega arith))))
    bindings_of_kind Assign e =
        ap (λ (l : List Binding). binding_at s p ∷ l)
        (ap₂ (λ (path : Path) (u : ℕ). bindings_of path (pattern s (child s (pattern_first s p)) u)) (sym (assign_path sh few p h e)) (sym (assign_type sh few p h e))
        ∙ ih (pattern_first s p) (assign_owns sh few p h e))
        ∙ ap (map (binding_at s)) (sym (binds_assign sh few p h (byte sh few p h Assign e (omega arith))))
    bindings_of_kind Integer e =
        let k = byte sh few p h Integer e (omega arith) in
        ap (map (binding_at s)) (sym (binds_text_or_list sh few p h (omega arith) (omega arith)))
    bindings_of_kind ByteString e =
        let k = byte sh few p h ByteString e (omega arith) in
        ap (map (binding_at s)) (sym (binds_text_or_list sh few p h (omega arith) (omega arith)))
    bindings_of_kind ListOfAll e =
        let k = byte sh few p h ListOfAll e (omega arith) in
        ap (map (binding_at s)) (sym (binds_text_or_list sh few p h (omega arith) (omega arith)))
    bindings_of_kind ListWithRest e =
        let k = byte sh few p h ListWithRest e (omega arith) in
        ap (map (binding_at s)) (sym (binds_text_or_list sh few p h (omega arith) (omega arith)))
    bindings_of_kind Constructor e = bindings_of_constructor e (one_constructor s (type_of s p)) refl
    bindings_of_kind Pair e =
        let k = byte sh few p h Pair e (omega arith) in
        gathers_pair sh few p h gathers_bindings (binds_of s) (binding_at s) ih e
        ∙ ap (map (binding_at s)) (sym (binds_pair sh few p h (omega arith) (omega arith)))
    bindings_of_kind Tuple e =
        let k = byte sh few p h Tuple e (omega arith) in
        gathers_tuple sh few p h gathers_bindings (binds_of s) (binding_at s) ih e
        ∙ ap (map (binding_at s)) (sym (binds_pair sh few p h (omega arith) (omega arith)))
    bindings_of_kind Unknown e = absurd (known_kind sh p h e)

    -- what a test opens to
    opened_bindings_of_constructor : kind_of s p ≡ Constructor → (one : Bool) → one_constructor s (type_of s p) ≡ one → one ≡ false
        → opened_bindings (path_of s p)
        (of_constructor (record { number = p; type = type_of s p }) (pattern_a s p) (decorated s (type_of s p))
        (along (pattern s) s (pattern_first s p) (pattern_count s p) (constructor_first s (constructor_of s (type_of s p) (pattern_a s p))) 1) one)
        ≡ map (binding_at s) (opened_binds s p)
    unfolding of_constructor opened_bindings has_children
    opened_bindings_of_constructor e true x several = absurd (true≢false several)
    opened_bindings_of_constructor e false x several =
        gathers_fields sh few p h gathers_bindings (binds_of s) (binding_at s) ih false x e
        ∙ ap (map (binding_at s)) (sym (opened_binds_each sh few p h (parent sh few p h Constructor e refl)))

    opened_bindings_of_kind : is_test s p ≡ true → (kind : PatternKind) → kind_of s p ≡ kind
        → opened_bindings (path_of s p) (of_kind (pattern s) s p (type_of s p) kind) ≡ map (binding_at s) (opened_binds s p)
    unfolding of_kind opened_bindings has_children
    opened_bindings_of_kind test Discard e = let k = byte sh few p h Discard e (omega arith) in absurd (omega (arith, test_kind s p test))
    opened_bindings_of_kind test Variable e = let k = byte sh few p h Variable e (omega arith) in absurd (omega (arith, test_kind s p test))
    opened_bindings_of_kind test Assign e = let k = byte sh few p h Assign e (omega arith) in absurd (omega (arith, test_kind s p test))
    opened_bindings_of_kind test Integer e =
        let k = byte sh few p h Integer e (omega arith) in
        ap (map (binding_at s)) (sym (opened_binds_none sh few p h (inr (omega arith, omega arith))))
    opened_bindings_of_kind test ByteString e =
        let k = byte sh few p h ByteString e (omega arith) in
        ap (map (binding_at s)) (sym (opened_binds_none sh few p h (inr (omega arith, omega arith))))
    opened_bindings_of_kind test ListOfAll e =
        gathers_list sh few p h gathers_bindings (binds_of s) (binding_at s) ih e
        ∙ ap (map (binding_at s)) (sym (opened_binds_each sh few p h (parent sh few p h ListOfAll e refl)))
    opened_bindings_of_kind test ListWithRest e =
        gathers_tailed sh few p h gathers_bindings (binds_of s) (binding_at s) ih e
        ∙ ap (map (binding_at s)) (sym (opened_binds_each sh few p h (parent sh few p h ListWithRest e refl)))
    opened_bindings_of_kind test Constructor e =
        opened_bindings_of_constructor e (one_constructor s (type_of s p)) refl
        (not-true (one_constructor s (type_of s p)) (sym (test_of_constructor s p (byte sh few p h Constructor e (omega arith))) ∙ test))
    opened_bindings_of_kind test Pair e = let k = byte sh few p h Pair e (omega arith) in absurd (omega (arith, test_kind_most s p test))
    opened_bindings_of_kind test Tuple e = let k = byte sh few p h Tuple e (omega arith) in absurd (omega (arith, test_kind_most s p test))
    opened_bindings_of_kind test Unknown e = absurd (known_kind sh p h e)

  pub bindings_meet : (p : ℕ) → p < patterns s → bindings_of (path_of s p) (pattern_of s p) ≡ map (binding_at s) (binds_of s p)
  unfolding kind_of
  bindings_meet =
      by_children sh (Meeting s bindings_of (binds_of s) (binding_at s))
      (λ p h ih. ap (bindings_of (path_of s p)) (pattern_of_kind s sh few p (type_of s p) h (kind_of s p) refl) ∙ bindings_of_kind p h ih (kind_of s p) refl)

  pub opened_bindings_meet : (p : ℕ) → p < patterns s → is_test s p ≡ true → opened_bindings (path_of s p) (pattern_of s p) ≡ map (binding_at s) (opened_binds s p)
  unfolding kind_of
  opened_bindings_meet p h test =
      ap (opened_bindings (path_of s p)) (pattern_of_kind s sh few p (type_of s p) h (kind_of s p) refl)
      ∙ opened_bindings_of_kind p h (λ j o. bindings_meet (child s j) (owned_pattern sh p j h o)) test (kind_of s p) refl

  -- ---- a clause's row
  clause_pattern_lem : (c : ℕ) → c < clauses s → clause_pattern s c ≡ pattern_of s (root s c)
  unfolding clause_pattern
  clause_pattern_lem c h = ap (pattern s (root s c)) (sym (root_type sh c h))

  pub clause_columns_meet : (c : ℕ) → c < clauses s → columns_of [] (clause_pattern s c) ≡ map (cell_at s) (tests_of s (root s c))
  clause_columns_meet c h =
      ap₂ columns_of (sym (root_path sh c h)) (clause_pattern_lem c h) ∙ columns_meet sh few (root s c) (sh.root_pattern c h)

  pub clause_bindings_meet : (c : ℕ) → c < clauses s → bindings_of [] (clause_pattern s c) ≡ map (binding_at s) (binds_of s (root s c))
  clause_bindings_meet c h =
      ap₂ bindings_of (sym (root_path sh c h)) (clause_pattern_lem c h) ∙ bindings_meet (root s c) (sh.root_pattern c h)
