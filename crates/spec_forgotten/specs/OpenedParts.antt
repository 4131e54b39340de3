-- The parts that are there without a test, and those that a case of a test opens: a pair, a tuple and a type of one constructor have all
-- their parts; below Case(a) constructor a has its fields, and below a list's case its elements are there. Each is of the type that the
-- columns of a matrix give it.
use Rattle.std.specs.Prelude.{ℕ, zero, suc, ◌+◌, ◌*◌, ◌≤◌, ◌<◌, Bool, eqb}
use native.Mathlib.Omega.{arith}
use Rattle.std.proofs.Math.Path.{◌≡◌, refl, sym, ap}
use Rattle.std.proofs.Common.{◌∙◌}
use Rattle.std.proofs.Math.Bool.{true, false, true≢false, false≢true}
use mathlib.Core.List.{List, [], ◌∷◌}
use Rattle.std.proofs.Math.Option.{Option, none, some}
use borrow.Author.Tests.{eqb-true, eq-eqb}
use Rattle.base_words.specs.Words.{both, either, pick}
use Rattle.base_words.specs.WordsLaws.{both_true}
use Rattle.spec_rules.specs.SheetFile.{type_kind, type_first, type_count, constructor_first, constructor_count, entry}
use Rattle.spec_rules.specs.Patterns.{one_constructor, decorated, constructor_of}
use Rattle.spec_rules.specs.Texts.{canonical}
use Rattle.spec_rules.specs.Rows.{Step, pair, tuple, constr, list, Path}
use Rattle.spec_rules.specs.Columns.{step_index}
use Rattle.spec_rules.specs.Splitting.{Test, Constr, Int, Bytes, ListOf, ListWithTail}
use Rattle.spec_match.specs.Typing.{takes, one_of_one}
use Rattle.spec_match.specs.ColumnTypes.{is_open, open_step, open_part, Legal, type_after, case_step, case_part, element_type, field_type}
use Rattle.spec_forgotten.specs.Values.{Whole, Value, Values, an_integer, a_byte_string, whole, a_list, a_pair, a_tuple, a_constructor, vnil, vcons, whole_kind, many_values, are_bytes, takes_parts, parts_first, parts_step, of_type, of_types, nth_of, into_kind, is_tail, step_into, part_along, shows_whole, shows, length_of}
use Rattle.spec_forgotten.specs.PuttingLaws.{NoTails}
use Rattle.spec_forgotten.specs.TypedPartsLaws.{part_type, type_along, step_typed}

pub nth_there : (vs : Values) (i : ℕ) → i < many_values vs → (y : Value) × (nth_of vs i ≡ some y)
unfolding many_values nth_of
nth_there vnil i l = absurd (omega arith)
nth_there (vcons v vs) zero l = (v, refl)
nth_there (vcons v vs) (suc i) l = nth_there vs i (omega arith)

module _ (s : List ℕ) where
  -- ---- what a value of a type is, by the type's kind
  pub kinds_differ : (t k n : ℕ) → type_kind s t ≡ k → type_kind s t ≡ n → eqb k n ≡ false → ⊥
  kinds_differ t k n e f d = let same : k ≡ n = sym e ∙ f in true≢false (sym (eq-eqb k n same) ∙ d)

  pub integer_kind : (t : ℕ) (w : List ℕ) → of_type s t (an_integer w) ≡ true → type_kind s t ≡ 0
  unfolding of_type
  integer_kind t w h = eqb-true _ _ (both_true (eqb (type_kind s t) 0) (canonical w) h).0

  pub bytes_kind : (t : ℕ) (w : List ℕ) → of_type s t (a_byte_string w) ≡ true → type_kind s t ≡ 1
  unfolding of_type
  bytes_kind t w h = eqb-true _ _ (both_true (eqb (type_kind s t) 1) (are_bytes w) h).0

  pub whole_takes : (t : ℕ) (k : Whole) (vs : Values) → of_type s t (whole k vs) ≡ true → takes_parts s t k (many_values vs) ≡ true
  unfolding of_type
  whole_takes t k vs h = (both_true (takes_parts s t k (many_values vs)) (of_types s (parts_first s t k) (parts_step k) vs) h).0

  pub whole_kind_lem : (t : ℕ) (k : Whole) (vs : Values) → of_type s t (whole k vs) ≡ true → type_kind s t ≡ whole_kind k
  unfolding takes_parts whole_kind
  whole_kind_lem t k vs h = go k (whole_takes t k vs h)
    where
      go : (k : Whole) → takes_parts s t k (many_values vs) ≡ true → type_kind s t ≡ whole_kind k
      go a_list a = eqb-true _ _ a
      go a_pair a = eqb-true _ _ (both_true (eqb (type_kind s t) 3) (eqb (type_count s t) (many_values vs)) a).0
      go a_tuple a = eqb-true _ _ (both_true (eqb (type_kind s t) 4) (eqb (type_count s t) (many_values vs)) a).0
      go (a_constructor a) b = (takes s [] t a (many_values vs) b).0

  -- ---- a type that opens
  -- of kind 0, 1 or 2 it does not
  not_opened : (t k : ℕ) → type_kind s t ≡ k → either (eqb k 3) (either (eqb k 4) (eqb k 5)) ≡ false → is_open s t ≡ true → ⊥
  unfolding is_open one_constructor
  not_opened t k e h o = go (eqb k 3) (eqb k 4) (eqb k 5) h (rw e at o)
    where
      go : (a b c : Bool) → either a (either b c) ≡ false → either a (either b (both c (eqb (type_count s t) 1))) ≡ true → ⊥
      go true b c h o = true≢false h
      go false true c h o = true≢false h
      go false false true h o = true≢false h
      go false false false h o = false≢true o

  -- how many parts it opens to
  unfoldable pub open_count : ℕ → ℕ
  unfolding one_constructor constructor_count constructor_of type_count
  open_count t = pick (one_constructor s t) (constructor_count s (constructor_of s t 0)) (type_count s t)

  module _ (t : ℕ) (k : ℕ) (is : type_kind s t ≡ k) (small : eqb k 5 ≡ false) where
    pub plain_not_one : one_constructor s t ≡ false
    unfolding one_constructor
    plain_not_one = rw (is, small)

    pub plain_count : open_count t ≡ type_count s t
    unfolding open_count
    plain_count = rw plain_not_one

    plain_part : (i : ℕ) → open_part s t i ≡ entry s (type_first s t + i)
    unfolding open_part
    plain_part i = rw plain_not_one

  pub data_one : (t : ℕ) → type_kind s t ≡ 5 → is_open s t ≡ true → one_constructor s t ≡ true
  unfolding is_open one_constructor
  data_one t e o = rw e (rw e at o)

  pub one_count : (t a : ℕ) → one_constructor s t ≡ true → a ≡ 0 → open_count t ≡ constructor_count s (constructor_of s t a)
  unfolding open_count
  one_count t a e z = rw (e, z)

  -- ---- a part that a step leads to, and of which type
  pub record Led (t : ℕ) (u : Step) (v : Value) (to : ℕ) : Type 0 where
    pub part : Value
    pub there : step_into u v ≡ some part
    pub type : part_type s t u v ≡ to

  led_same : (t : ℕ) (u w : Step) (v : Value) (to : ℕ) → u ≡ w → Led t w v to → Led t u v to
  led_same t u w v to e d = rw e d

  by_one : (e i : ℕ) → e + i * 1 ≡ e + i
  by_one e i = omega arith

  open_pair : (t : ℕ) (vs : Values) → type_kind s t ≡ 3 → type_count s t ≡ many_values vs → (i : ℕ) → i < open_count t → Led t (open_step s t i) (whole a_pair vs) (open_part s t i)
  unfolding open_step step_into into_kind is_tail step_index whole_kind part_type parts_first parts_step
  open_pair t vs e n i l =
      let (y, h) = nth_there vs i (omega (arith, plain_count t 3 e refl)) in
      rw e (record { part = y; there = h; type = ap (entry s) (by_one (type_first s t) i) ∙ sym (plain_part t 3 e refl i) })

  open_tuple : (t : ℕ) (vs : Values) → type_kind s t ≡ 4 → type_count s t ≡ many_values vs → (i : ℕ) → i < open_count t → Led t (open_step s t i) (whole a_tuple vs) (open_part s t i)
  unfolding open_step step_into into_kind is_tail step_index whole_kind part_type parts_first parts_step
  open_tuple t vs e n i l =
      let (y, h) = nth_there vs i (omega (arith, plain_count t 4 e refl)) in
      rw e (record { part = y; there = h; type = ap (entry s) (by_one (type_first s t) i) ∙ sym (plain_part t 4 e refl i) })

  open_fields : (t a : ℕ) (vs : Values) → type_kind s t ≡ 5 → one_constructor s t ≡ true → a ≡ 0 → constructor_count s (constructor_of s t a) ≡ many_values vs
      → (i : ℕ) → i < open_count t → Led t (open_step s t i) (whole (a_constructor a) vs) (open_part s t i)
  unfolding open_step open_part step_into into_kind is_tail step_index whole_kind part_type parts_first parts_step
  open_fields t a vs e o z n i l =
      let (y, h) = nth_there vs i (omega (arith, one_count t a o z)) in
      rw (e, o, z) (record { part = y; there = h; type = ap (entry s) (by_one (constructor_first s (constructor_of s t 0)) i) })

  open_there : (t : ℕ) (v : Value) → of_type s t v ≡ true → is_open s t ≡ true → (i : ℕ) → i < open_count t → Led t (open_step s t i) v (open_part s t i)
  open_there t (an_integer w) h o i l = absurd (not_opened t 0 (integer_kind t w h) refl o)
  open_there t (a_byte_string w) h o i l = absurd (not_opened t 1 (bytes_kind t w h) refl o)
  open_there t (whole a_list vs) h o i l = absurd (not_opened t 2 (unfold whole_kind in (whole_kind_lem t a_list vs h)) refl o)
  open_there t (whole a_pair vs) h o i l =
      let (a, b) = both_true (eqb (type_kind s t) 3) (eqb (type_count s t) (many_values vs)) (unfold takes_parts in (whole_takes t a_pair vs h)) in
      open_pair t vs (eqb-true _ _ a) (eqb-true _ _ b) i l
  open_there t (whole a_tuple vs) h o i l =
      let (a, b) = both_true (eqb (type_kind s t) 4) (eqb (type_count s t) (many_values vs)) (unfold takes_parts in (whole_takes t a_tuple vs h)) in
      open_tuple t vs (eqb-true _ _ a) (eqb-true _ _ b) i l
  open_there t (whole (a_constructor a) vs) h o i l =
      let (k, m, n) = takes s [] t a (many_values vs) (unfold takes_parts in (whole_takes t (a_constructor a) vs h)) in
      let one = data_one t k o in
      open_fields t a vs k one (sym (one_of_one s [] t a 0 one m (omega arith))) n i l

  -- ---- along steps that open without a test
  abbrev pub Bounded : ℕ → Path → Type 0
  Bounded t [] = Unit {0}
  Bounded t (u ∷ x) = (step_index u < open_count t) × Bounded (open_part s t (step_index u)) x

  pub open_plain : (t i : ℕ) → is_tail (open_step s t i) ≡ false
  unfolding open_step is_tail
  open_plain t i = go (eqb (type_kind s t) 3) (eqb (type_kind s t) 4)
    where
      go : (a b : Bool) → is_tail (pick a (pair i t) (pick b (tuple i t) (constr i (decorated s t) t))) ≡ false
      go true b = refl
      go false true = refl
      go false false = refl

  pub legal_plain : (t : ℕ) (x : Path) → Legal s t x → NoTails x
  legal_plain t [] l = tt
  legal_plain t (u ∷ x) l = (rw l.1 (open_plain t (step_index u)), legal_plain (open_part s t (step_index u)) x l.2)

  -- a part is there, of the type that the columns give it
  pub record Stands (t : ℕ) (x : Path) (v : Value) (to : ℕ) : Type 0 where
    pub part : Value
    pub there : part_along x v ≡ some part
    pub type : type_along s t x v ≡ to

  stands_here : (t : ℕ) (v : Value) → Stands t [] v t
  unfolding part_along type_along
  stands_here t v = record { part = v; there = refl; type = refl }

  pub stands_under : (t : ℕ) (u : Step) (x : Path) (v : Value) (m to : ℕ) (d : Led t u v m) → Stands m x d.part to → Stands t (u ∷ x) v to
  unfolding part_along type_along
  stands_under t u x v m to d r = record { part = r.part; there = rw (d.there, part_along) r.there; type = rw (d.there, type_along) (rw d.type r.type) }

  pub led_typed : (t : ℕ) (u : Step) (v : Value) (m : ℕ) (d : Led t u v m) → is_tail u ≡ false → of_type s t v ≡ true → of_type s m d.part ≡ true
  led_typed t u v m d n h = rw d.type at (step_typed s u t v d.part n h d.there)

  pub legal_there : (x : Path) (t : ℕ) (v : Value) → of_type s t v ≡ true → Legal s t x → Bounded t x → Stands t x v (type_after s t x)
  legal_there [] t v h l b = stands_here t v
  legal_there (u ∷ x) t v h l b =
      let d : Led t u v (open_part s t (step_index u)) =
      led_same t u (open_step s t (step_index u)) v (open_part s t (step_index u)) l.1 (open_there t v h l.0 (step_index u) b.0) in
      let n : is_tail u ≡ false = rw l.1 (open_plain t (step_index u)) in
      stands_under t u x v (open_part s t (step_index u)) (type_after s t (u ∷ x)) d
      (legal_there x (open_part s t (step_index u)) d.part (led_typed t u v (open_part s t (step_index u)) d n h) l.2 b.1)

  -- ---- what a case of a test opens
  -- the part takes the case: its constructor number, or its length, is the case's
  abbrev pub Takes : Test → Value → Type 0
  Takes (Constr a) y = shows y ≡ some (Constr a)
  Takes (Int w) y = shows y ≡ some (Int w)
  Takes (Bytes w) y = shows y ≡ some (Bytes w)
  Takes (ListOf n) y = length_of y ≡ some n
  Takes (ListWithTail n) y = (m : ℕ) × (length_of y ≡ some m) × (n ≤ m)

  unfoldable pub case_count : Test → ℕ → ℕ
  unfolding constructor_count constructor_of
  case_count (Constr a) t = constructor_count s (constructor_of s t a)
  case_count (Int w) t = 0
  case_count (Bytes w) t = 0
  case_count (ListOf n) t = n
  case_count (ListWithTail n) t = n

  element_there : (t : ℕ) (y : Value) (m i : ℕ) → length_of y ≡ some m → i < m → Led t (list i t) y (element_type s t i)
  unfolding length_of step_into into_kind is_tail step_index whole_kind part_type parts_first parts_step
  element_there t (an_integer w) m i e l = absurd (no_length m e)
    where
      no_length : (m : ℕ) → ◌≡◌ {A = Option ℕ} none (some m) → ⊥
      no_length m e = let z : ◌≡◌ {A = ℕ} 0 1 = cc in absurd (omega arith)
  element_there t (a_byte_string w) m i e l = absurd (no_length m e)
    where
      no_length : (m : ℕ) → ◌≡◌ {A = Option ℕ} none (some m) → ⊥
      no_length m e = let z : ◌≡◌ {A = ℕ} 0 1 = cc in absurd (omega arith)
  element_there t (whole a_list vs) m i e l =
      let n : many_values vs ≡ m = cc in
      let (y, h) = nth_there vs i (omega arith) in
      record { part = y; there = h; type = ap (entry s) (same (type_first s t)) }
    where
      same : (e : ℕ) → e + i * 0 ≡ e
      same e = omega arith
  element_there t (whole a_pair vs) m i e l = let z : ◌≡◌ {A = ℕ} 0 1 = cc in absurd (omega arith)
  element_there t (whole a_tuple vs) m i e l = let z : ◌≡◌ {A = ℕ} 0 1 = cc in absurd (omega arith)
  element_there t (whole (a_constructor a) vs) m i e l = let z : ◌≡◌ {A = ℕ} 0 1 = cc in absurd (omega arith)

  field_there : (t a : ℕ) (y : Value) (i : ℕ) → of_type s t y ≡ true → shows y ≡ some (Constr a) → i < constructor_count s (constructor_of s t a)
      → Led t (constr i false t) y (field_type s t a i)
  unfolding shows shows_whole step_into into_kind is_tail step_index whole_kind part_type parts_first parts_step
  field_there t a (an_integer w) i h e l = let z : ◌≡◌ {A = ℕ} 0 1 = cc in absurd (omega arith)
  field_there t a (a_byte_string w) i h e l = let z : ◌≡◌ {A = ℕ} 0 1 = cc in absurd (omega arith)
  field_there t a (whole a_list vs) i h e l = let z : ◌≡◌ {A = ℕ} 0 1 = cc in absurd (omega arith)
  field_there t a (whole a_pair vs) i h e l = let z : ◌≡◌ {A = ℕ} 0 1 = cc in absurd (omega arith)
  field_there t a (whole a_tuple vs) i h e l = let z : ◌≡◌ {A = ℕ} 0 1 = cc in absurd (omega arith)
  field_there t a (whole (a_constructor b) vs) i h e l =
      let same : b ≡ a = cc in
      let (k, m, n) = takes s [] t b (many_values vs) (unfold takes_parts in (whole_takes t (a_constructor b) vs h)) in
      let (y, there) = nth_there vs i (rw (← n) (rw same l)) in
      record { part = y; there = there; type = rw same (ap (entry s) (by_one (constructor_first s (constructor_of s t a)) i)) }

  pub case_plain : (u : Test) (t i : ℕ) → is_tail (case_step u t i) ≡ false
  unfolding case_step is_tail
  case_plain (Constr a) t i = refl
  case_plain (Int w) t i = refl
  case_plain (Bytes w) t i = refl
  case_plain (ListOf n) t i = refl
  case_plain (ListWithTail n) t i = refl

  pub case_there : (u : Test) (t : ℕ) (y : Value) → of_type s t y ≡ true → Takes u y → (i : ℕ) → i < case_count u t → Led t (case_step u t i) y (case_part s u t i)
  unfolding case_step case_part case_count
  case_there (Constr a) t y h k i l = field_there t a y i h k l
  case_there (Int w) t y h k i l = absurd (omega arith)
  case_there (Bytes w) t y h k i l = absurd (omega arith)
  case_there (ListOf n) t y h k i l = element_there t y n i k l
  case_there (ListWithTail n) t y h (m, k, le) i l = element_there t y m i k (omega arith)
