-- The types of parts are types of the sheet: of what opens without a test, of what a case opens, and of the parts of any value.
use Rattle.std.specs.Prelude.{ℕ, ◌+◌, ◌*◌, ◌≤◌, ◌<◌, ◌≡◌, Bool, eqb}
use native.Mathlib.Omega.{arith}
use Rattle.std.proofs.Math.Path.{refl}
use Rattle.std.proofs.Math.Logic.{⊎_elim}
use Rattle.std.proofs.Math.Bool.{true, false}
use Rattle.std.proofs.lemmas.Bool.{false≢true}
use mathlib.Core.List.{List, [], ◌∷◌}
use borrow.Author.Tests.{eqb-true}
use Rattle.base_words.specs.Words.{either, pick}
use Rattle.base_words.specs.WordsLaws.{both_true, either_true}
use Rattle.spec_rules.specs.SheetFile.{types, type_kind, type_first, type_count, constructor_first, constructor_count, entry}
use Rattle.spec_rules.specs.Patterns.{one_constructor, constructor_of}
use Rattle.spec_rules.specs.Rows.{Path}
use Rattle.spec_rules.specs.Columns.{step_index}
use Rattle.spec_rules.specs.Splitting.{Test, Constr, Int, Bytes, ListOf, ListWithTail}
use Rattle.spec_accepted.specs.SheetFacts.{Typed, its_constructor}
use Rattle.spec_match.specs.Typing.{takes}
use Rattle.spec_match.specs.ColumnTypes.{is_open, open_part, Legal, type_after, case_part}
use Rattle.spec_forgotten.specs.Values.{Whole, a_list, a_pair, a_tuple, a_constructor, takes_parts, parts_first, parts_step}
use Rattle.spec_forgotten.specs.OpenedParts.{open_count, Bounded, case_count}

module _ (s : List ℕ) (ty : Typed s) where
  pub field_known : (t a i : ℕ) → t < types s → type_kind s t ≡ 5 → a < type_count s t → i < constructor_count s (constructor_of s t a)
      → entry s (constructor_first s (constructor_of s t a) + i) < types s
  field_known t a i h k l m =
      let run = ty.constructor_entries (constructor_of s t a) (its_constructor ty t a h k l) in
      ty.entry_type (constructor_first s (constructor_of s t a) + i) (omega (arith, run.inside, m))

  pub part_known : (t i : ℕ) → t < types s → type_kind s t ≤ 4 → i < type_count s t → entry s (type_first s t + i) < types s
  part_known t i h k l = ty.entry_type (type_first s t + i) (omega (arith, ty.type_entries t h k))

  pub element_known : (t : ℕ) → t < types s → type_kind s t ≡ 2 → entry s (type_first s t) < types s
  element_known t h k =
      let one = ty.list_one t h k in
      ty.entry_type (type_first s t) (omega (arith, one, ty.type_entries t h (omega (arith, k))))

  -- ---- what opens without a test
  open_known : (t i : ℕ) → t < types s → is_open s t ≡ true → i < open_count s t → open_part s t i < types s
  unfolding is_open open_count open_part
  open_known t i h o l = go (one_constructor s t) refl o l
    where
      small : either (eqb (type_kind s t) 3) (either (eqb (type_kind s t) 4) false) ≡ true → type_kind s t ≤ 4
      small e =
          ⊎_elim (λ x. let a = eqb-true (type_kind s t) 3 x in omega (arith, a))
          (λ x. ⊎_elim (λ y. let a = eqb-true (type_kind s t) 4 y in omega (arith, a)) (λ y. absurd (false≢true y)) (either_true (eqb (type_kind s t) 4) false x))
          (either_true (eqb (type_kind s t) 3) (either (eqb (type_kind s t) 4) false) e)

      go : (b : Bool) → one_constructor s t ≡ b → either (eqb (type_kind s t) 3) (either (eqb (type_kind s t) 4) b) ≡ true
          → i < pick b (constructor_count s (constructor_of s t 0)) (type_count s t)
          → pick b (entry s (constructor_first s (constructor_of s t 0) + i)) (entry s (type_first s t + i)) < types s
      go true x e m =
          let (k, n) = both_true (eqb (type_kind s t) 5) (eqb (type_count s t) 1) (unfold one_constructor in x) in
          field_known t 0 i h (eqb-true _ _ k) (omega (arith, eqb-true (type_count s t) 1 n)) m
      go false x e m = part_known t i h (small e) m

  pub after_known : (x : Path) (t : ℕ) → t < types s → Legal s t x → Bounded s t x → type_after s t x < types s
  after_known [] t h l b = h
  after_known (u ∷ x) t h l b = after_known x (open_part s t (step_index u)) (open_known t (step_index u) h l.0 b.0) l.2 b.1

  -- ---- what a case opens
  abbrev pub TestOf : ℕ → Test → Type 0
  TestOf t (Constr a) = (type_kind s t ≡ 5) × (a < type_count s t)
  TestOf t (Int w) = Unit {0}
  TestOf t (Bytes w) = Unit {0}
  TestOf t (ListOf n) = type_kind s t ≡ 2
  TestOf t (ListWithTail n) = type_kind s t ≡ 2

  pub case_known : (u : Test) (t i : ℕ) → t < types s → TestOf t u → i < case_count s u t → case_part s u t i < types s
  unfolding case_count case_part
  case_known (Constr a) t i h k l = field_known t a i h k.0 k.1 l
  case_known (Int w) t i h k l = absurd (omega arith)
  case_known (Bytes w) t i h k l = absurd (omega arith)
  case_known (ListOf n) t i h k l = element_known t h k
  case_known (ListWithTail n) t i h k l = element_known t h k

  -- ---- the parts of a value
  pub parts_known : (t : ℕ) → t < types s → (k : Whole) (n : ℕ) → takes_parts s t k n ≡ true → (i : ℕ) → i < n → entry s (parts_first s t k + i * parts_step k) < types s
  unfolding takes_parts parts_first parts_step
  parts_known t h a_list n e i l = rw (none_on (type_first s t)) (element_known t h (eqb-true _ _ e))
    where
      none_on : (e : ℕ) → e + i * 0 ≡ e
      none_on e = omega arith
  parts_known t h a_pair n e i l =
      let (a, b) = both_true (eqb (type_kind s t) 3) (eqb (type_count s t) n) e in
      let k = eqb-true (type_kind s t) 3 a in
      rw (by_one (type_first s t)) (part_known t i h (omega (arith, k)) (omega (arith, eqb-true (type_count s t) n b)))
    where
      by_one : (e : ℕ) → e + i * 1 ≡ e + i
      by_one e = omega arith
  parts_known t h a_tuple n e i l =
      let (a, b) = both_true (eqb (type_kind s t) 4) (eqb (type_count s t) n) e in
      let k = eqb-true (type_kind s t) 4 a in
      rw (by_one (type_first s t)) (part_known t i h (omega (arith, k)) (omega (arith, eqb-true (type_count s t) n b)))
    where
      by_one : (e : ℕ) → e + i * 1 ≡ e + i
      by_one e = omega arith
  parts_known t h (a_constructor a) n e i l =
      let (k, m, c) = takes s [] t a n e in
      rw (by_one (constructor_first s (constructor_of s t a))) (field_known t a i h k m (omega (arith, c)))
    where
      by_one : (e : ℕ) → e + i * 1 ≡ e + i
      by_one e = omega arith
