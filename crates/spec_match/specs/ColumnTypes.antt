-- Where two patterns of a matrix stand at one path they are of one type, so that they open by the same steps: then in every matrix
-- that a tree is built from two columns are the same or apart, and their order is total (`columns_ordered`).
use Prim.Native.Nat.{ℕ, ◌+◌}
use Rattle.std.specs.Prelude.{◌≡◌, ◌⊎◌, Bool, eqb}
use Rattle.std.proofs.Math.Path.{refl}
use Rattle.std.proofs.Common.{sym, ap, ◌∙◌, inl, inr, ⊎_elim, true≢false, eqb-true}
use Rattle.std.proofs.Math.Bool.{true, false}
use Rattle.std.proofs.lemmas.Bool.{false≢true, eqb-false}
use mathlib.Core.List.{List, [], ◌∷◌, ◌++◌, append-nil, append_assoc}
use Rattle.std.proofs.Math.Option.{Option, none, some}
use Rattle.base_words.specs.Words.{either, pick}
use Rattle.spec_rules.specs.Kinds.{pair_type, tuple_type}
use Rattle.spec_rules.specs.SheetFile.{type_kind, type_first, constructor_first, entry}
use Rattle.spec_rules.specs.Patterns.{Mark, Pat, Pats, discard, variable, assign, integer, bytestring, listed, tailed, constructor, opened, pnil, pcons, many, one_constructor, decorated, constructor_of}
use Rattle.spec_rules.specs.Rows.{Step, pair, tuple, constr, list, listtail, Path, into, opening, same_step, Cell, Row, columns_of, columns_of_each, opened_columns, clause_rows}
use Rattle.spec_rules.specs.Columns.{step_index, before, union, all_tests, columns, without, test_at, choice}
use Rattle.spec_rules.specs.Splitting.{Test, Constr, Int, Bytes, ListOf, ListWithTail, without_test, open_row, column, is_met, cases_of, covers, case_rows, case_opens, default_rows}
use Rattle.spec_rules.specs.SplittingLaws.{All, not_true_false, same_test_sound}
use Rattle.spec_match.specs.Lists.{all_append, all_map, all_both}
use Rattle.spec_match.specs.Paths.{same_step_sound, same_step_refl}
use Rattle.spec_match.specs.Tests.{take_test, taken_has, others_have, default_all, case_all}
use Rattle.spec_match.specs.Depth.{case_columns}
use Rattle.spec_match.specs.Apart.{Apart, apart_longer, ApartFrom, taken_tidy, no_test_at, is_column, all_column, Neat, case_neat, default_neat, clause_rows_neat}
use Rattle.spec_match.specs.Order.{TidyPaths, SameOrApart, apart_before, column_apart, without_apart, union_all, union_tidy, tidy_paths_append, apart_at, under_same, start_same, choice_in}

-- ---- a pattern without columns
unfoldable pub is_plain : Pat → Bool
is_plain (discard m) = true
is_plain (variable m x) = true
is_plain (assign m x q) = false
is_plain (integer m at w) = false
is_plain (bytestring m at w) = false
is_plain (listed m qs) = false
is_plain (tailed m qs q) = false
is_plain (constructor m a qs) = false
is_plain (opened m o qs) = false

plain_columns : (p : Path) (q : Pat) → is_plain q ≡ true → columns_of p q ≡ []
unfolding columns_of is_plain
plain_columns p (discard m) h = refl
plain_columns p (variable m x) h = refl
plain_columns p (assign m x q) h = absurd (false≢true h)
plain_columns p (integer m at w) h = absurd (false≢true h)
plain_columns p (bytestring m at w) h = absurd (false≢true h)
plain_columns p (listed m qs) h = absurd (false≢true h)
plain_columns p (tailed m qs q) h = absurd (false≢true h)
plain_columns p (constructor m a qs) h = absurd (false≢true h)
plain_columns p (opened m o qs) h = absurd (false≢true h)

-- ---- a path with p taken off its start
unfoldable pub stripped : Path → Path → Option Path
unfolding same_step
stripped [] z = some z
stripped (w ∷ p) [] = none
stripped (w ∷ p) (y ∷ z) = elim (same_step w y) [ true ↦ stripped p z | false ↦ none ]

stripped_under : (p x : Path) → stripped p (p ++ x) ≡ some x
unfolding stripped
stripped_under [] x = refl
stripped_under (w ∷ p) x = rw (same_step_refl w, stripped) (stripped_under p x)

stripped_fork : (p : Path) (w y : Step) (x z : Path) → (step_index w ≡ step_index y → ⊥) → stripped (p ++ w ∷ x) (p ++ y ∷ z) ≡ none
unfolding stripped
stripped_fork [] w y x z d = rw (not_true_false (same_step w y) (λ e. d (ap step_index (same_step_sound w y e))), stripped)
stripped_fork (v ∷ p) w y x z d = rw (same_step_refl v, stripped) (stripped_fork p w y x z d)

stripped_apart : (p z : Path) → Apart p z → stripped p z ≡ none
stripped_apart p z a = rw (a.left, a.right) (stripped_fork a.shared a.one a.two a.end_one a.end_two a.differ)

-- the tests of a row that lacks one at p stand apart from p
wild_apart : (p : Path) (ps : List Path) → TidyPaths ps → is_column p ps ≡ true → (r : Row) → test_at p r.tests ≡ none → Neat ps r → All (ApartFrom p) r.tests
wild_apart p ps t k r x n =
    all_both (λ c. is_column c.path ps ≡ true) (λ c. p ≡ c.path → ⊥) (ApartFrom p)
    (λ c h d. ⊎_elim (λ e. absurd (d e)) (λ w. w) (all_column (SameOrApart p) c.path ps (column_apart p ps t k) h)) r.tests n.1 (no_test_at p r.tests x)

-- ---- the steps by which a case of a column of type t opens
unfoldable pub case_step : Test → ℕ → ℕ → Step
case_step (Constr a) t i = constr i false t
case_step (Int w) t i = list i t
case_step (Bytes w) t i = list i t
case_step (ListOf n) t i = list i t
case_step (ListWithTail n) t i = list i t

pub case_step_index : (u : Test) (t i : ℕ) → step_index (case_step u t i) ≡ i
unfolding case_step step_index
case_step_index (Constr a) t i = refl
case_step_index (Int w) t i = refl
case_step_index (Bytes w) t i = refl
case_step_index (ListOf n) t i = refl
case_step_index (ListWithTail n) t i = refl

-- ---- what a type opens to: only a pair, a tuple and a type of one constructor open without a test
module _ (s : List ℕ) where
  unfoldable pub is_open : ℕ → Bool
  unfolding one_constructor
  is_open t = either (eqb (type_kind s t) pair_type) (either (eqb (type_kind s t) tuple_type) (one_constructor s t))

  unfoldable pub open_step : ℕ → ℕ → Step
  unfolding decorated
  open_step t i = pick (eqb (type_kind s t) pair_type) (pair i t) (pick (eqb (type_kind s t) tuple_type) (tuple i t) (constr i (decorated s t) t))

  -- the type of part i: of the one constructor, or at its own type entry
  unfoldable pub open_part : ℕ → ℕ → ℕ
  unfolding constructor_of
  open_part t i = pick (one_constructor s t) (entry s (constructor_first s (constructor_of s t 0) + i)) (entry s (type_first s t + i))

  pub open_step_index : (t i : ℕ) → step_index (open_step t i) ≡ i
  unfolding open_step step_index
  open_step_index t i = go (eqb (type_kind s t) pair_type) (eqb (type_kind s t) tuple_type)
    where
      go : (a b : Bool) → step_index (pick a (pair i t) (pick b (tuple i t) (constr i (decorated s t) t))) ≡ i
      go true b = refl
      go false true = refl
      go false false = refl

  -- steps that a type opens by, down to one that is tested; and that type
  abbrev pub Legal : ℕ → Path → Type 0
  Legal t [] = is_open t ≡ false
  Legal t (u ∷ x) = (is_open t ≡ true) × (u ≡ open_step t (step_index u)) × Legal (open_part t (step_index u)) x

  abbrev pub type_after : ℕ → Path → ℕ
  type_after t [] = t
  type_after t (u ∷ x) = type_after (open_part t (step_index u)) x

  pub legal_beside : (t : ℕ) (x y : Path) → Legal t x → Legal t y → SameOrApart x y
  legal_beside t [] [] h k = inl refl
  legal_beside t [] (w ∷ y) h k = absurd (true≢false (sym k.0 ∙ h))
  legal_beside t (u ∷ x) [] h k = absurd (true≢false (sym h.0 ∙ k))
  legal_beside t (u ∷ x) (w ∷ y) h k = go (eqb (step_index u) (step_index w)) refl (λ z. legal_beside (open_part t (step_index u)) x y h.2 z)
    where
      go : (b : Bool) → eqb (step_index u) (step_index w) ≡ b → (Legal (open_part t (step_index u)) y → SameOrApart x y) → SameOrApart (u ∷ x) (w ∷ y)
      go true e ih =
          let i = eqb-true (step_index u) (step_index w) e in
          let same : u ≡ w = h.1 ∙ ap (open_step t) i ∙ sym k.1 in
          rw (← same) (under_same u x y (ih (rw i k.2)))
      go false e ih = inr (apart_at u w x y (eqb-false (step_index u) (step_index w) e))

  -- ---- a pattern resolved against a type, and its parts against the types of the parts
  -- the type of a list's element; of a constructor's field
  abbrev pub element_type : ℕ → ℕ → ℕ
  element_type t i = entry s (type_first s t)

  abbrev pub field_type : ℕ → ℕ → ℕ → ℕ
  field_type t a i = entry s (constructor_first s (constructor_of s t a) + i)

  unfoldable mutual
    unfolding is_open open_step open_part is_plain opening

    pub Resolved : Pat → ℕ → Type 0
    Resolved (discard m) t = Unit {0}
    Resolved (variable m x) t = Unit {0}
    Resolved (assign m x q) t = Resolved q t
    Resolved (integer m at w) t = (m.type ≡ t) × (is_open t ≡ false)
    Resolved (bytestring m at w) t = (m.type ≡ t) × (is_open t ≡ false)
    Resolved (listed m qs) t = (m.type ≡ t) × (is_open t ≡ false) × ResolvedEach qs (element_type t) 0
    Resolved (tailed m qs q) t = (m.type ≡ t) × (is_open t ≡ false) × ResolvedEach qs (element_type t) 0 × (is_plain q ≡ true)
    Resolved (constructor m a qs) t = (m.type ≡ t) × (is_open t ≡ false) × ResolvedEach qs (field_type t a) 0
    Resolved (opened m o qs) t = (is_open t ≡ true) × ((i : ℕ) → opening o m.type i ≡ open_step t i) × ResolvedEach qs (open_part t) 0

    -- parts i, i + 1, .. against the types that `types` gives them
    pub ResolvedEach : Pats → (ℕ → ℕ) → ℕ → Type 0
    ResolvedEach pnil types i = Unit {0}
    ResolvedEach (pcons q qs) types i = Resolved q (types i) × ResolvedEach qs types (i + 1)

  -- ---- the columns of a pattern of type t at p
  abbrev Placed : Path → ℕ → Cell → Type 0
  Placed p t c = (x : Path) × (c.path ≡ p ++ x) × Legal t x × Resolved c.pattern (type_after t x)

  -- below one of the parts that `step` leads to
  abbrev pub PlacedIn : Path → (ℕ → Step) → (ℕ → ℕ) → Cell → Type 0
  PlacedIn p step types c = (i : ℕ) × (x : Path) × (c.path ≡ p ++ step i ∷ x) × Legal (types i) x × Resolved c.pattern (type_after (types i) x)

  placed_part : (p : Path) (step : ℕ → Step) (types : ℕ → ℕ) (i : ℕ) (c : Cell) → Placed (into p (step i)) (types i) c → PlacedIn p step types c
  unfolding into
  placed_part p step types i c (x, e, l, r) = (i, x, e ∙ append_assoc p (step i ∷ []) x, l, r)

  placed_open : (p : Path) (step : ℕ → Step) (t : ℕ) → is_open t ≡ true → ((i : ℕ) → step i ≡ open_step t i) → (c : Cell) → PlacedIn p step (open_part t) c → Placed p t c
  placed_open p step t o same c (i, x, e, l, r) =
      let k = open_step_index t i in
      (open_step t i ∷ x, e ∙ ap (λ u. p ++ u ∷ x) (same i), (o, ap (open_step t) (sym k), rw k l), rw k r)

  mutual
    unfolding columns_of Resolved

    columns_of_placed : (p : Path) (q : Pat) (t : ℕ) → Resolved q t → All (Placed p t) (columns_of p q)
    columns_of_placed p (discard m) t h = tt
    columns_of_placed p (variable m x) t h = tt
    columns_of_placed p (assign m x q) t h = columns_of_placed p q t h
    columns_of_placed p (integer m at w) t h = (([], sym (append-nil p), h.1, h), tt)
    columns_of_placed p (bytestring m at w) t h = (([], sym (append-nil p), h.1, h), tt)
    columns_of_placed p (listed m qs) t h = (([], sym (append-nil p), h.1, h), tt)
    columns_of_placed p (tailed m qs q) t h = (([], sym (append-nil p), h.1, h), tt)
    columns_of_placed p (constructor m a qs) t h = (([], sym (append-nil p), h.1, h), tt)
    columns_of_placed p (opened m o qs) t h =
        all_map (PlacedIn p (opening o m.type) (open_part t)) (Placed p t) (placed_open p (opening o m.type) t h.0 h.1)
        (columns_of_each p (opening o m.type) 0 qs) (columns_of_each_placed p (opening o m.type) 0 qs (open_part t) h.2)

    columns_of_each_placed : (p : Path) (step : ℕ → Step) (i : ℕ) (qs : Pats) (types : ℕ → ℕ) → ResolvedEach qs types i → All (PlacedIn p step types) (columns_of_each p step i qs)
    columns_of_each_placed p step i pnil types h = tt
    columns_of_each_placed p step i (pcons q qs) types h =
        all_append (PlacedIn p step types) (columns_of (into p (step i)) q) (columns_of_each p step (i + 1) qs)
        (all_map (Placed (into p (step i)) (types i)) (PlacedIn p step types) (placed_part p step types i) (columns_of (into p (step i)) q) (columns_of_placed (into p (step i)) q (types i) h.0))
        (columns_of_each_placed p step (i + 1) qs types h.1)

  -- ---- what a case of a column of type t opens: by one kind of step, to parts of the same types in every row
  unfoldable pub case_part : Test → ℕ → ℕ → ℕ
  unfolding constructor_of
  case_part (Constr a) t i = field_type t a i
  case_part (Int w) t i = element_type t i
  case_part (Bytes w) t i = element_type t i
  case_part (ListOf n) t i = element_type t i
  case_part (ListWithTail n) t i = element_type t i

  tailed_placed : (p : Path) (m : Mark) (qs : Pats) (q : Pat) (t : ℕ) → Resolved (tailed m qs q) t → All (PlacedIn p (λ i. list i t) (element_type t)) (opened_columns p (tailed m qs q))
  unfolding opened_columns Resolved
  tailed_placed p m qs q t h =
      rw (plain_columns (into p (listtail (many qs) m.type)) q h.3, append-nil (columns_of_each p (λ i. list i m.type) 0 qs), h.0)
      (columns_of_each_placed p (λ i. list i t) 0 qs (element_type t) h.2)

  opened_placed : (p : Path) (q : Pat) (t : ℕ) (u : Test) → Resolved q t → covers q u ≡ true → All (PlacedIn p (case_step u t) (case_part u t)) (opened_columns p q)
  unfolding opened_columns Resolved covers case_step case_part
  opened_placed p (discard m) t u h c = tt
  opened_placed p (variable m x) t u h c = tt
  opened_placed p (assign m x q) t u h c = tt
  opened_placed p (integer m at w) t u h c = tt
  opened_placed p (bytestring m at w) t u h c = tt
  opened_placed p (listed m qs) t u h c =
      rw (same_test_sound u (ListOf (many qs)) c, h.0) (columns_of_each_placed p (λ i. list i t) 0 qs (element_type t) h.2)
  opened_placed p (tailed m qs q) t (Constr a) h c = absurd (false≢true c)
  opened_placed p (tailed m qs q) t (Int w) h c = absurd (false≢true c)
  opened_placed p (tailed m qs q) t (Bytes w) h c = absurd (false≢true c)
  opened_placed p (tailed m qs q) t (ListOf n) h c = tailed_placed p m qs q t h
  opened_placed p (tailed m qs q) t (ListWithTail n) h c = tailed_placed p m qs q t h
  opened_placed p (constructor m a qs) t u h c =
      rw (same_test_sound u (Constr a) c, h.0) (columns_of_each_placed p (λ i. constr i false t) 0 qs (field_type t a) h.2)
  opened_placed p (opened m o qs) t u h c = tt

  -- ---- the paths below p that a case opens are the same or apart
  abbrev pub NewPath : Path → Test → ℕ → Path → Type 0
  NewPath p u t z = (i : ℕ) × (x : Path) × (z ≡ p ++ case_step u t i ∷ x) × Legal (case_part u t i) x

  pub new_beside : (p : Path) (u : Test) (t : ℕ) (y z : Path) → NewPath p u t y → NewPath p u t z → SameOrApart y z
  new_beside p u t y z (i, x, e, l) (j, w, f, k) = rw (e, f) (start_same p (case_step u t i ∷ x) (case_step u t j ∷ w) (go (eqb i j) refl))
    where
      go : (b : Bool) → eqb i j ≡ b → SameOrApart (case_step u t i ∷ x) (case_step u t j ∷ w)
      go true m = let n = eqb-true i j m in rw (← n) (under_same (case_step u t i) x w (legal_beside (case_part u t i) x w l (rw n k)))
      go false m = inr (apart_at (case_step u t i) (case_step u t j) x w (λ n. eqb-false i j m (sym (case_step_index u t i) ∙ n ∙ case_step_index u t j)))

  new_apart : (p : Path) (u : Test) (t : ℕ) (z : Path) → Apart p z → (y : Path) → NewPath p u t y → Apart y z
  new_apart p u t z a y (i, x, e, l) = rw e (apart_longer p z a (case_step u t i ∷ x))

  -- ---- the type at a path: where p is tested, what lies below it is typed anew
  unfoldable pub under_case : Test → ℕ → Path → ℕ
  unfolding case_part step_index open_part
  under_case u t [] = t
  under_case u t (w ∷ x) = type_after (case_part u t (step_index w)) x

  unfoldable pub retyped : (Path → ℕ) → Path → Test → Path → ℕ
  unfolding stripped under_case
  retyped types p u z = elim (stripped p z) [ none ↦ types z | some x ↦ under_case u (types p) x ]

  pub retyped_apart : (types : Path → ℕ) (p : Path) (u : Test) (z : Path) → Apart p z → retyped types p u z ≡ types z
  unfolding retyped
  retyped_apart types p u z a = rw (stripped_apart p z a, retyped)

  pub retyped_new : (types : Path → ℕ) (p : Path) (u : Test) (i : ℕ) (x : Path)
      → retyped types p u (p ++ case_step u (types p) i ∷ x) ≡ type_after (case_part u (types p) i) x
  unfolding retyped under_case
  retyped_new types p u i x =
      rw (stripped_under p (case_step u (types p) i ∷ x), retyped) (ap (λ j. type_after (case_part u (types p) j) x) (case_step_index u (types p) i))

  -- ---- a matrix whose columns are apart, and whose tests at one path are of one type
  abbrev pub TypedBy : (Path → ℕ) → Cell → Type 0
  TypedBy types c = Resolved c.pattern (types c.path)

  pub record Sound (ps : List Path) (rs : List Row) : Type 0 where
    pub types : Path → ℕ
    pub apart : TidyPaths ps
    pub neat : All (Neat ps) rs
    pub typed : All (λ r. All (TypedBy types) r.tests) rs

  keep_typed : (types : Path → ℕ) (p : Path) (u : Test) (cs : List Cell) → All (ApartFrom p) cs → All (TypedBy types) cs → All (TypedBy (retyped types p u)) cs
  keep_typed types p u cs a h =
      all_both (ApartFrom p) (TypedBy types) (TypedBy (retyped types p u)) (λ c d k. rw (retyped_apart types p u c.path d) k) cs a h

  new_typed : (types : Path → ℕ) (p : Path) (u : Test) (cs : List Cell) → All (PlacedIn p (case_step u (types p)) (case_part u (types p))) cs → All (TypedBy (retyped types p u)) cs
  new_typed types p u cs h =
      all_map (PlacedIn p (case_step u (types p)) (case_part u (types p))) (TypedBy (retyped types p u))
      (λ c (i, x, e, l, k). rw (e, retyped_new types p u i x) k) cs h

  -- the pattern in the column is of the column's type
  pub column_typed : (types : Path → ℕ) (p : Path) (r : Row) (q : Pat) → test_at p r.tests ≡ some q → All (TypedBy types) r.tests → Resolved q (types p)
  column_typed types p r q x h = taken_has (TypedBy types) p q r.tests (take_test p r.tests q x) h

  pub case_opens_placed : (types : Path → ℕ) (p : Path) (u : Test) (rs : List Row) → All (λ r. All (TypedBy types) r.tests) rs
      → All (PlacedIn p (case_step u (types p)) (case_part u (types p))) (case_opens p u rs)
  unfolding case_opens
  case_opens_placed types p u [] h = tt
  case_opens_placed types p u (r ∷ rs) h = go (test_at p r.tests) refl (case_opens_placed types p u rs h.1)
    where
      P : Cell → Type 0
      P = PlacedIn p (case_step u (types p)) (case_part u (types p))

      go : (o : Option Pat) → test_at p r.tests ≡ o → All P (case_opens p u rs) → All P (case_opens p u (r ∷ rs))
      go none x ih = rw (x, case_opens) ih
      go (some q) x ih = test (covers q u) refl
        where
          test : (b : Bool) → covers q u ≡ b → All P (case_opens p u (r ∷ rs))
          test true y = rw (x, y, case_opens) (all_append P (opened_columns p q) (case_opens p u rs) (opened_placed p q (types p) u (column_typed types p r q x h.0) y) ih)
          test false y = rw (x, y, case_opens) ih

  pub sound_case : (ps : List Path) (rs : List Row) (p : Path) (u : Test) → is_column p ps ≡ true → Sound ps rs → Sound (case_columns p u ps rs) (case_rows p u rs)
  unfolding case_columns
  sound_case ps rs p u k h =
      record {
        types = retyped h.types p u;
        apart = tidy_paths_append (union (case_opens p u rs)) (without p ps) (union_tidy New (new_beside p u t) (case_opens p u rs) new) others.1
            (all_map New (λ y. All (Apart y) (without p ps)) (λ y n. all_map (Apart p) (Apart y) (λ z a. new_apart p u t z a y n) (without p ps) others.0)
            (union (case_opens p u rs)) (union_all New (new_beside p u t) (case_opens p u rs) new));
        neat = unfold case_columns in (case_neat p u ps rs h.neat);
        typed = case_all (λ r. Neat ps r × All (TypedBy h.types) r.tests) (λ r. All (TypedBy (retyped h.types p u)) r.tests) p
            (λ r x (n, w). keep_typed h.types p u r.tests (wild_apart p ps h.apart k r x n) w)
            u
            (λ r q x y (n, w). open_typed r q x y n w)
            rs
            (all_both (Neat ps) (λ r. All (TypedBy h.types) r.tests) (λ r. Neat ps r × All (TypedBy h.types) r.tests) (λ r a b. (a, b)) rs h.neat h.typed);
      }
    where
      t : ℕ
      t = h.types p

      New : Path → Type 0
      New = NewPath p u t

      others : All (Apart p) (without p ps) × TidyPaths (without p ps)
      others = without_apart p ps h.apart k

      new : All (λ c. New c.path) (case_opens p u rs)
      new =
          all_map (PlacedIn p (case_step u t) (case_part u t)) (λ c. New c.path) (λ c (i, x, e, l, r). (i, x, e, l)) (case_opens p u rs)
          (case_opens_placed h.types p u rs h.typed)

      open_typed : (r : Row) (q : Pat) → test_at p r.tests ≡ some q → covers q u ≡ true → Neat ps r → All (TypedBy h.types) r.tests
          → All (TypedBy (retyped h.types p u)) (open_row p q r).tests
      open_typed r q x y n w =
          unfold open_row in (all_append (TypedBy (retyped h.types p u)) (opened_columns p q) (without_test p r.tests)
          (new_typed h.types p u (opened_columns p q) (opened_placed p q t u (column_typed h.types p r q x w) y))
          (keep_typed h.types p u (without_test p r.tests) (taken_tidy p q r.tests (take_test p r.tests q x) n.0).0
          (others_have (TypedBy h.types) p q r.tests (take_test p r.tests q x) w)))

  pub sound_default : (ps : List Path) (rs : List Row) (p : Path) → is_column p ps ≡ true → Sound ps rs → Sound (without p ps) (default_rows p rs)
  sound_default ps rs p k h =
      record {
        types = h.types;
        apart = (without_apart p ps h.apart k).1;
        neat = default_neat p ps rs h.neat;
        typed = default_all (λ r. All (TypedBy h.types) r.tests) (λ r. All (TypedBy h.types) r.tests) p (λ r x w. w) rs h.typed;
      }

  -- the types of a case's columns, and of the default's
  pub case_types : (ps : List Path) (rs : List Row) (p : Path) (u : Test) (k : is_column p ps ≡ true) (h : Sound ps rs)
      → (sound_case ps rs p u k h).types ≡ retyped h.types p u
  unfolding sound_case
  case_types ps rs p u k h = refl

  pub default_types : (ps : List Path) (rs : List Row) (p : Path) (k : is_column p ps ≡ true) (h : Sound ps rs) → (sound_default ps rs p k h).types ≡ h.types
  unfolding sound_default
  default_types ps rs p k h = refl

  -- the rows of clauses whose patterns are resolved against one type
  module _ (t : ℕ) where
    rows_typed : (c : ℕ) (qs : List Pat) → All (λ q. Resolved q t) qs → All (λ r. All (TypedBy (type_after t)) r.tests) (clause_rows c qs)
    unfolding clause_rows
    rows_typed c [] h = tt
    rows_typed c (q ∷ qs) h = (
      all_map (Placed [] t) (TypedBy (type_after t)) (λ d (x, e, l, r). rw e r) (columns_of [] q) (columns_of_placed [] q t h.0),
      rows_typed (c + 1) qs h.1,
    )

    rows_legal : (c : ℕ) (qs : List Pat) → All (λ q. Resolved q t) qs → All (λ d. Legal t d.path) (all_tests (clause_rows c qs))
    unfolding clause_rows all_tests
    rows_legal c [] h = tt
    rows_legal c (q ∷ qs) h =
        all_append (λ d. Legal t d.path) (columns_of [] q) (all_tests (clause_rows (c + 1) qs))
        (all_map (Placed [] t) (λ d. Legal t d.path) (λ d (x, e, l, r). rw e l) (columns_of [] q) (columns_of_placed [] q t h.0)) (rows_legal (c + 1) qs h.1)

    pub sound_root : (qs : List Pat) → All (λ q. Resolved q t) qs → Sound (columns (clause_rows 0 qs)) (clause_rows 0 qs)
    unfolding columns
    sound_root qs h =
        record {
          types = type_after t;
          apart = union_tidy (Legal t) (legal_beside t) (all_tests (clause_rows 0 qs)) (rows_legal 0 qs h);
          neat = unfold columns in (clause_rows_neat 0 qs);
          typed = rows_typed 0 qs h;
        }

    pub root_types : (qs : List Pat) (h : All (λ q. Resolved q t) qs) → (sound_root qs h).types ≡ type_after t
    unfolding sound_root
    root_types qs h = refl

-- ---- the matrices that a tree is built from
pub data Meets (qs : List Pat) : List Path → List Row → Type 0 where
  at_root : Meets qs (columns (clause_rows 0 qs)) (clause_rows 0 qs)
  in_case : (ps : List Path) (rs : List Row) (p : Path) (t : Test) → Meets qs ps rs → choice ps rs ≡ some p → is_met t (cases_of (column p rs)) ≡ true
      → Meets qs (case_columns p t ps rs) (case_rows p t rs)
  in_default : (ps : List Path) (rs : List Row) (p : Path) → Meets qs ps rs → choice ps rs ≡ some p → Meets qs (without p ps) (default_rows p rs)

module _ (s : List ℕ) (t : ℕ) (qs : List Pat) (resolved : All (λ q. Resolved s q t) qs) where
  pub met_sound : (ps : List Path) (rs : List Row) → Meets qs ps rs → Sound s ps rs
  met_sound ps rs at_root = sound_root s t qs resolved
  met_sound ps rs (in_case zs ss p u m e i) = sound_case s zs ss p u (choice_in zs ss p e) (met_sound zs ss m)
  met_sound ps rs (in_default zs ss p m e) = sound_default s zs ss p (choice_in zs ss p e) (met_sound zs ss m)

  -- THEOREM: of two columns of a matrix that are not the same, one is before the other
  pub columns_ordered : (ps : List Path) (rs : List Row) → Meets qs ps rs → (p q : Path) → is_column p ps ≡ true → is_column q ps ≡ true → (p ≡ q → ⊥)
      → (before p q ≡ true) ⊎ (before q p ≡ true)
  columns_ordered ps rs m p q a b d =
      ⊎_elim (λ e. absurd (d e)) (apart_before p q) (all_column (SameOrApart p) q ps (column_apart p ps (met_sound ps rs m).apart a) b)
