-- The switches of a built tree: what stands at their paths, their cases' kinds and where their texts start. First for any sheet whose
-- patterns are typed; hoisting keeps it.
use Prim.Native.Nat.{ℕ, suc, ◌+◌, ◌≤◌}
use native.Mathlib.Omega.{arith}
use Rattle.std.specs.Prelude.{◌≡◌, Bool}
use Rattle.std.proofs.Math.Path.{refl, sym}
use Rattle.std.proofs.Common.{◌∙◌, true≢false}
use Rattle.std.proofs.Math.Bool.{true, false}
use Rattle.std.proofs.lemmas.Bool.{false≢true, not-true}
use mathlib.Core.List.{List, [], ◌∷◌}
use Rattle.std.proofs.Math.Option.{Option, none, some}
use Rattle.std.proofs.Math.Dec.{eqb}
use Rattle.base_words.specs.Words.{either, pick}
use Rattle.base_words.specs.WordsLaws.{either_false}
use Rattle.spec_rules.specs.Limits.{children_most}
use Rattle.spec_rules.specs.Kinds.{list_type, list_case, list_with_tail_case}
use Rattle.spec_rules.specs.SheetFile.{type_kind, pool}
use Rattle.spec_rules.specs.Patterns.{Pat, discard, variable, assign, integer, bytestring, listed, tailed, constructor, opened, many}
use Rattle.spec_rules.specs.Rows.{Path, Row, opened_columns, clause_row, clause_rows}
use Rattle.spec_rules.specs.Columns.{columns, without, test_at, choice}
use Rattle.spec_rules.specs.Splitting.{Test, Constr, Int, Bytes, ListOf, ListWithTail, tailless_length, tailed_length, longest, column, without_test, open_row, text_start, Met, is_met, cases_of, covers, default_rows, case_rows}
use Rattle.spec_rules.specs.SplittingLaws.{same_test_sound, InRange, All}
use Rattle.spec_rules.specs.Building.{Tree, Cases, absent, leaf, hoist, switch, listswitch, cnil, ccons, leaf_of, is_list, has_list, plain_tree}
use Rattle.spec_file.specs.Writable.{test_kind, TextStarts, AllOfKind}
use Rattle.spec_match.specs.Lists.{all_append, all_map, all_both}
use Rattle.spec_match.specs.Tests.{is_test, TestRow, take_test, taken_has, others_have, row_test, default_all, case_all, clause_rows_test}
use Rattle.spec_match.specs.Depth.{choice_nothing, choice_first, cases_on, is_tail, is_exact, only, node_on, case_columns, met_here, met_there, only_met, matrix_tree, plain_tree_matrix, tree_induction}
use Rattle.spec_match.specs.ColumnTypes.{Resolved, Sound, Meets, at_root, in_case, in_default, met_sound}
use Rattle.spec_theorems.specs.Stands.{Used}
use Rattle.spec_theorems.specs.EachPattern.{Everywhere, everywhere_here, InCell, columns_of_everywhere, opened_columns_everywhere}
use Rattle.spec_theorems.specs.SheetPatterns.{FieldA, FactsOf, Facts}
use Rattle.spec_theorems.specs.CaseStarts.{OpenedBy, cases_of_opened, longest_most}

-- ---- a tree by its switches: N of each switch's path, C of each case's start and test, one kind of test in a switch, and lists' tests
-- in their places
unfoldable pub OneKind : Cases → Type 0
OneKind cs = (k : ℕ) × (k ≤ 2) × AllOfKind k cs

module _ (N : Path → Type 0) (C : ℕ → Test → Type 0) where
  unfoldable mutual
    unfolding OneKind

    pub Formed : Tree → Type 0
    Formed absent = Unit {0}
    Formed (leaf c bs) = Unit {0}
    Formed (hoist c bs a) = Formed a
    Formed (switch p cs d) = N p × OneKind cs × FormedOf cs × Formed d
    Formed (listswitch p cs ts d) = N p × AllOfKind 3 cs × AllOfKind 4 ts × FormedOf cs × FormedOf ts × Formed d

    pub FormedOf : Cases → Type 0
    FormedOf cnil = Unit {0}
    FormedOf (ccons t start a cs) = C start t × Formed a × FormedOf cs

  -- ---- the switch on a column
  cases_on_formed : (f : Test → Tree) (ms : List Met) → All (λ m. C m.start m.test) ms → ((t : Test) → is_met t ms ≡ true → Formed (f t)) → FormedOf (cases_on f ms)
  unfolding cases_on Formed
  cases_on_formed f [] h k = tt
  cases_on_formed f (m ∷ ms) h k = (h.0, k m.test (met_here m ms), cases_on_formed f ms h.1 (λ t e. k t (met_there t m ms e)))

cases_on_kind : (k : ℕ) (f : Test → Tree) (ms : List Met) → All (λ m. test_kind m.test ≡ k) ms → AllOfKind k (cases_on f ms)
unfolding cases_on AllOfKind
cases_on_kind k f [] h = tt
cases_on_kind k f (m ∷ ms) h = (h.0, cases_on_kind k f ms h.1)

all_only : (P Q : Met → Type 0) (f : Test → Bool) → ((m : Met) → f m.test ≡ true → P m → Q m) → (ms : List Met) → All P ms → All Q (only f ms)
unfolding only
all_only P Q f g [] h = tt
all_only P Q f g (m ∷ ms) h = go (f m.test) refl (all_only P Q f g ms h.1)
  where
    go : (b : Bool) → f m.test ≡ b → All Q (only f ms) → All Q (only f (m ∷ ms))
    go true e ih = rw (e, only) (g m e h.0, ih)
    go false e ih = rw (e, only) ih

-- ---- the patterns of a column, all of type t
-- the kind of the cases of a column of a type of this kind that is no list: Int 1, Bytes 2, Data 0
switch_kind : ℕ → ℕ
switch_kind k = pick (eqb k 0) 1 (pick (eqb k 1) 2 0)

switch_kind_most : (k : ℕ) → switch_kind k ≤ 2
unfolding switch_kind
switch_kind_most k = go (eqb k 0) (eqb k 1)
  where
    go : (a b : Bool) → pick a 1 (pick b 2 0) ≤ 2
    go true b = omega arith
    go false true = omega arith
    go false false = omega arith

module _ (s : List ℕ) where
  -- a case's number: a list's is at most that of children, a constructor's is the field a of a pattern
  unfoldable pub NumberOf : Test → Type 0
  NumberOf (Constr a) = FieldA s a
  NumberOf (Int w) = Unit {0}
  NumberOf (Bytes w) = Unit {0}
  NumberOf (ListOf n) = n ≤ children_most
  NumberOf (ListWithTail n) = n ≤ children_most

  unfoldable pub CaseOf : ℕ → Test → Type 0
  unfolding TextStarts NumberOf
  CaseOf start t = TextStarts (pool s) start t × NumberOf t

  module _ (t : ℕ) where
    abbrev Fine : Pat → Type 0
    Fine q = (is_test q ≡ true) × Resolved s q t × FactsOf s q

    fine_list : (q : Pat) → Fine q → is_list q ≡ eqb (type_kind s t) list_type
    unfolding is_list is_test Resolved
    fine_list (discard m) h = absurd (false≢true h.0)
    fine_list (variable m x) h = absurd (false≢true h.0)
    fine_list (assign m x q) h = absurd (false≢true h.0)
    fine_list (integer m at w) h = rw (← h.1.0, h.2.0)
    fine_list (bytestring m at w) h = rw (← h.1.0, h.2.0)
    fine_list (listed m qs) h = rw (← h.1.0, h.2.0)
    fine_list (tailed m qs q) h = rw (← h.1.0, h.2.0)
    fine_list (constructor m a qs) h = rw (← h.1.0, h.2.0)
    fine_list (opened m o qs) h = absurd (false≢true h.0)

    has_list_kind : (qs : List Pat) → All Fine qs → has_list qs ≡ true → eqb (type_kind s t) list_type ≡ true
    unfolding has_list
    has_list_kind [] h e = absurd (false≢true e)
    has_list_kind (q ∷ qs) h e = go (is_list q) refl e (has_list_kind qs h.1)
      where
        go : (b : Bool) → is_list q ≡ b → either b (has_list qs) ≡ true → (has_list qs ≡ true → eqb (type_kind s t) list_type ≡ true) → eqb (type_kind s t) list_type ≡ true
        go true x y ih = sym (fine_list q h.0) ∙ x
        go false x y ih = ih y

    no_list : (qs : List Pat) → has_list qs ≡ false → All (λ q. is_list q ≡ false) qs
    unfolding has_list
    no_list [] e = tt
    no_list (q ∷ qs) e = let (a, b) = either_false (is_list q) (has_list qs) e in (a, no_list qs b)

    -- ---- a case that such a pattern belongs to
    covered_starts : (q : Pat) (u : Test) → Fine q → covers q u ≡ true → TextStarts (pool s) (text_start q) u
    unfolding covers text_start TextStarts is_test
    covered_starts (discard m) u h c = absurd (false≢true c)
    covered_starts (variable m x) u h c = absurd (false≢true c)
    covered_starts (assign m x q) u h c = absurd (false≢true c)
    covered_starts (integer m at w) u h c = rw (same_test_sound u (Int w) c) h.2.1
    covered_starts (bytestring m at w) u h c = rw (same_test_sound u (Bytes w) c) h.2.1
    covered_starts (listed m qs) u h c = rw (same_test_sound u (ListOf (many qs)) c) refl
    covered_starts (tailed m qs q) (Constr a) h c = absurd (false≢true c)
    covered_starts (tailed m qs q) (Int w) h c = absurd (false≢true c)
    covered_starts (tailed m qs q) (Bytes w) h c = absurd (false≢true c)
    covered_starts (tailed m qs q) (ListOf n) h c = refl
    covered_starts (tailed m qs q) (ListWithTail n) h c = refl
    covered_starts (constructor m a qs) u h c = rw (same_test_sound u (Constr a) c) refl
    covered_starts (opened m o qs) u h c = absurd (false≢true c)

    covered_number : (tailless tails : ℕ) → tailless ≤ suc children_most → tails ≤ suc children_most → (q : Pat) (u : Test) → Fine q → covers q u ≡ true
        → InRange tailless tails u → NumberOf u
    unfolding covers NumberOf is_test
    covered_number tailless tails a b (discard m) u h c r = absurd (false≢true c)
    covered_number tailless tails a b (variable m x) u h c r = absurd (false≢true c)
    covered_number tailless tails a b (assign m x q) u h c r = absurd (false≢true c)
    covered_number tailless tails a b (integer m at w) u h c r = rw (same_test_sound u (Int w) c) tt
    covered_number tailless tails a b (bytestring m at w) u h c r = rw (same_test_sound u (Bytes w) c) tt
    covered_number tailless tails a b (listed m qs) u h c r = rw (same_test_sound u (ListOf (many qs)) c) h.2.1
    covered_number tailless tails a b (tailed m qs q) (Constr e) h c r = absurd (false≢true c)
    covered_number tailless tails a b (tailed m qs q) (Int w) h c r = tt
    covered_number tailless tails a b (tailed m qs q) (Bytes w) h c r = tt
    covered_number tailless tails a b (tailed m qs q) (ListOf n) h c r = omega arith
    covered_number tailless tails a b (tailed m qs q) (ListWithTail n) h c r = omega arith
    covered_number tailless tails a b (constructor m e qs) u h c r = rw (same_test_sound u (Constr e) c) h.2.1
    covered_number tailless tails a b (opened m o qs) u h c r = absurd (false≢true c)

    covered_kind : (q : Pat) (u : Test) → Fine q → is_list q ≡ false → covers q u ≡ true → test_kind u ≡ switch_kind (type_kind s t)
    unfolding covers is_list is_test Resolved switch_kind test_kind
    covered_kind (discard m) u h l c = absurd (false≢true c)
    covered_kind (variable m x) u h l c = absurd (false≢true c)
    covered_kind (assign m x q) u h l c = absurd (false≢true c)
    covered_kind (integer m at w) u h l c = rw (same_test_sound u (Int w) c, ← h.1.0, h.2.0)
    covered_kind (bytestring m at w) u h l c = rw (same_test_sound u (Bytes w) c, ← h.1.0, h.2.0)
    covered_kind (listed m qs) u h l c = absurd (true≢false l)
    covered_kind (tailed m qs q) u h l c = absurd (true≢false l)
    covered_kind (constructor m a qs) u h l c = rw (same_test_sound u (Constr a) c, ← h.1.0, h.2.0)
    covered_kind (opened m o qs) u h l c = absurd (false≢true c)

    covered_list : (q : Pat) (u : Test) → is_list q ≡ true → covers q u ≡ true → is_tail u ≡ false → test_kind u ≡ list_case
    unfolding covers is_list is_tail test_kind
    covered_list (discard m) u l c e = absurd (false≢true l)
    covered_list (variable m x) u l c e = absurd (false≢true l)
    covered_list (assign m x q) u l c e = absurd (false≢true l)
    covered_list (integer m at w) u l c e = absurd (false≢true l)
    covered_list (bytestring m at w) u l c e = absurd (false≢true l)
    covered_list (listed m qs) u l c e = rw (same_test_sound u (ListOf (many qs)) c)
    covered_list (tailed m qs q) (Constr a) l c e = absurd (false≢true c)
    covered_list (tailed m qs q) (Int w) l c e = absurd (false≢true c)
    covered_list (tailed m qs q) (Bytes w) l c e = absurd (false≢true c)
    covered_list (tailed m qs q) (ListOf n) l c e = refl
    covered_list (tailed m qs q) (ListWithTail n) l c e = absurd (true≢false e)
    covered_list (constructor m a qs) u l c e = absurd (false≢true l)
    covered_list (opened m o qs) u l c e = absurd (false≢true l)

    tail_kind : (u : Test) → is_tail u ≡ true → test_kind u ≡ list_with_tail_case
    unfolding is_tail test_kind
    tail_kind (Constr a) e = absurd (false≢true e)
    tail_kind (Int w) e = absurd (false≢true e)
    tail_kind (Bytes w) e = absurd (false≢true e)
    tail_kind (ListOf n) e = absurd (false≢true e)
    tail_kind (ListWithTail n) e = refl

    -- ---- the lengths of the column's lists
    tailless_most : (q : Pat) → Fine q → tailless_length q ≤ suc children_most
    unfolding tailless_length is_test
    tailless_most (discard m) h = omega arith
    tailless_most (variable m x) h = omega arith
    tailless_most (assign m x q) h = omega arith
    tailless_most (integer m at w) h = omega arith
    tailless_most (bytestring m at w) h = omega arith
    tailless_most (listed m qs) h = omega (arith, h.2.1)
    tailless_most (tailed m qs q) h = omega arith
    tailless_most (constructor m a qs) h = omega arith
    tailless_most (opened m o qs) h = omega arith

    tailed_most : (q : Pat) → Fine q → tailed_length q ≤ suc children_most
    unfolding tailed_length is_test
    tailed_most (discard m) h = omega arith
    tailed_most (variable m x) h = omega arith
    tailed_most (assign m x q) h = omega arith
    tailed_most (integer m at w) h = omega arith
    tailed_most (bytestring m at w) h = omega arith
    tailed_most (listed m qs) h = omega arith
    tailed_most (tailed m qs q) h = omega (arith, h.2.1)
    tailed_most (constructor m a qs) h = omega arith
    tailed_most (opened m o qs) h = omega arith

    -- ---- the cases of a column of fine patterns
    module _ (qs : List Pat) (fine : All Fine qs) where
      abbrev Case : (Pat → Type 0) → Met → Type 0
      Case P = OpenedBy (longest tailless_length qs) (longest tailed_length qs) P

      case_of : (m : Met) → Case Fine m → CaseOf m.start m.test
      unfolding CaseOf
      case_of m o = (
        rw o.starts (covered_starts o.pattern m.test o.has o.covered),
        covered_number (longest tailless_length qs) (longest tailed_length qs)
            (longest_most tailless_length (suc children_most) qs (all_map Fine (λ q. tailless_length q ≤ suc children_most) tailless_most qs fine))
            (longest_most tailed_length (suc children_most) qs (all_map Fine (λ q. tailed_length q ≤ suc children_most) tailed_most qs fine))
            o.pattern m.test o.has o.covered o.in_range,
      )

      cases_of_lem : All (λ m. CaseOf m.start m.test) (cases_of qs)
      cases_of_lem = all_map (Case Fine) (λ m. CaseOf m.start m.test) case_of (cases_of qs) (cases_of_opened Fine qs fine)

      -- a switch
      plain_kinds : has_list qs ≡ false → All (λ m. test_kind m.test ≡ switch_kind (type_kind s t)) (cases_of qs)
      plain_kinds e =
          all_map (Case Plain) (λ m. test_kind m.test ≡ switch_kind (type_kind s t))
          (λ m o. covered_kind o.pattern m.test o.has.0 o.has.1 o.covered) (cases_of qs)
          (cases_of_opened Plain qs (all_both Fine (λ q. is_list q ≡ false) Plain (λ q a b. (a, b)) qs fine (no_list qs e)))
        where
          Plain : Pat → Type 0
          Plain q = Fine q × (is_list q ≡ false)

      -- a list switch
      exact_kinds : has_list qs ≡ true → All (λ m. test_kind m.test ≡ list_case) (only is_exact (cases_of qs))
      exact_kinds e =
          all_only (Case Fine) (λ m. test_kind m.test ≡ list_case) is_exact
          (λ m x o.
          covered_list o.pattern m.test (fine_list o.pattern o.has ∙ has_list_kind qs fine e) o.covered (not-true (is_tail m.test) x))
          (cases_of qs) (cases_of_opened Fine qs fine)

      tail_kinds : All (λ m. test_kind m.test ≡ list_with_tail_case) (only is_tail (cases_of qs))
      tail_kinds = all_only (Case Fine) (λ m. test_kind m.test ≡ list_with_tail_case) is_tail (λ m x o. tail_kind m.test x) (cases_of qs) (cases_of_opened Fine qs fine)

      node_formed : (N : Path → Type 0) (p : Path) (f : Test → Tree) (d : Tree) → N p → ((u : Test) → is_met u (cases_of qs) ≡ true → Formed N CaseOf (f u)) → Formed N CaseOf d
          → Formed N CaseOf (node_on p qs f d)
      unfolding node_on Formed OneKind
      node_formed N p f d n h k = go (has_list qs) refl
        where
          kept : (g : Test → Bool) → All (λ m. CaseOf m.start m.test) (only g (cases_of qs))
          kept g = all_only (λ m. CaseOf m.start m.test) (λ m. CaseOf m.start m.test) g (λ m x c. c) (cases_of qs) cases_of_lem

          go : (b : Bool) → has_list qs ≡ b → Formed N CaseOf (node_on p qs f d)
          go true e =
              rw (e, node_on) (
                n,
                cases_on_kind 3 f (only is_exact (cases_of qs)) (exact_kinds e),
                cases_on_kind 4 f (only is_tail (cases_of qs)) tail_kinds,
                cases_on_formed N CaseOf f (only is_exact (cases_of qs)) (kept is_exact) (λ u x. h u (only_met is_exact u (cases_of qs) x)),
                cases_on_formed N CaseOf f (only is_tail (cases_of qs)) (kept is_tail) (λ u x. h u (only_met is_tail u (cases_of qs) x)),
                k,
              )
          go false e =
              rw (e, node_on) (
                n,
                (switch_kind (type_kind s t), switch_kind_most (type_kind s t), cases_on_kind (switch_kind (type_kind s t)) f (cases_of qs) (plain_kinds e)),
                cases_on_formed N CaseOf f (cases_of qs) cases_of_lem h,
                k,
              )

  -- ---- rows
  abbrev RowFine : Row → Type 0
  RowFine r = All (InCell (Facts s)) r.tests

  row_facts : (p : Path) (r : Row) (q : Pat) → test_at p r.tests ≡ some q → RowFine r → Everywhere (Facts s) p q
  row_facts p r q x h = taken_has (InCell (Facts s)) p q r.tests (take_test p r.tests q x) h

  open_fine : (p : Path) (r : Row) (q : Pat) → test_at p r.tests ≡ some q → RowFine r → RowFine (open_row p q r)
  unfolding open_row
  open_fine p r q x h =
      all_append (InCell (Facts s)) (opened_columns p q) (without_test p r.tests) (opened_columns_everywhere (Facts s) p q (row_facts p r q x h))
      (others_have (InCell (Facts s)) p q r.tests (take_test p r.tests q x) h)

  -- what a column's patterns have, if each row's has it
  column_all : (P : Row → Type 0) (Q : Pat → Type 0) (p : Path) → ((r : Row) (q : Pat) → test_at p r.tests ≡ some q → P r → Q q) → (rs : List Row) → All P rs → All Q (column p rs)
  unfolding column
  column_all P Q p f [] h = tt
  column_all P Q p f (r ∷ rs) h = go (test_at p r.tests) refl (column_all P Q p f rs h.1)
    where
      go : (o : Option Pat) → test_at p r.tests ≡ o → All Q (column p rs) → All Q (column p (r ∷ rs))
      go none x ih = rw (x, column) ih
      go (some q) x ih = rw (x, column) (f r q x h.0, ih)

  rows_fine : (c : ℕ) (qs : List Pat) → All (Everywhere (Facts s) []) qs → All RowFine (clause_rows c qs)
  unfolding clause_rows clause_row
  rows_fine c [] h = tt
  rows_fine c (q ∷ qs) h = (columns_of_everywhere (Facts s) [] q h.0, rows_fine (c + 1) qs h.1)

  -- ---- every switch of the tree, matrix by matrix
  module _ (t : ℕ) (qs : List Pat) (resolved : All (λ q. Resolved s q t) qs) (facts : All (Everywhere (Facts s) []) qs) where
    abbrev Leads : List Path → List Row → Tree → Type 0
    Leads ps rs a = Meets qs ps rs → All RowFine rs → Formed (Used s) CaseOf a

    leads_leaf : (ps : List Path) (rs : List Row) → choice ps rs ≡ none → Leads ps rs (leaf_of rs)
    unfolding leaf_of Formed
    leads_leaf ps [] x m h = tt
    leads_leaf ps (r ∷ rs) x m h = tt

    used_column : (ps : List Path) (rs : List Row) (p : Path) → choice ps rs ≡ some p → All RowFine rs → Used s p
    used_column ps [] p x h = absurd (nothing (sym (choice_nothing ps) ∙ x))
      where
        nothing : ◌≡◌ {A = Option Path} none (some p) → ⊥
        nothing z = let y : false ≡ true = cc in false≢true y
    used_column ps (r ∷ rs) p x h = let (q, y) = choice_first ps r rs p x in (everywhere_here (Facts s) p q (row_facts p r q y h.0)).0

    column_fine : (ps : List Path) (rs : List Row) (p : Path) → All TestRow rs → (m : Meets qs ps rs) → All RowFine rs → All (Fine ((met_sound s t qs resolved ps rs m).types p)) (column p rs)
    column_fine ps rs p g m h =
        column_all Whole (Fine (types p)) p
        (λ r q x w. (row_test p q r x w.0, taken_has (λ c. Resolved s c.pattern (types c.path)) p q r.tests (take_test p r.tests q x) w.1, (everywhere_here (Facts s) p q (row_facts p r q x w.2)).1))
        rs (all_both TestRow Half Whole (λ r a b. (a, b.0, b.1)) rs g (all_both Typed RowFine Half (λ r a b. (a, b)) rs sound.typed h))
      where
        sound : Sound s ps rs
        sound = met_sound s t qs resolved ps rs m

        types : Path → ℕ
        types = sound.types

        Typed : Row → Type 0
        Typed r = All (λ c. Resolved s c.pattern (types c.path)) r.tests

        Half : Row → Type 0
        Half r = Typed r × RowFine r

        Whole : Row → Type 0
        Whole r = TestRow r × Typed r × RowFine r

    leads_node : (ps : List Path) (rs : List Row) (p : Path) → All TestRow rs → choice ps rs ≡ some p
        → ((u : Test) → is_met u (cases_of (column p rs)) ≡ true → Leads (case_columns p u ps rs) (case_rows p u rs) (matrix_tree (case_columns p u ps rs) (case_rows p u rs)))
        → Leads (without p ps) (default_rows p rs) (matrix_tree (without p ps) (default_rows p rs))
        → Leads ps rs (node_on p (column p rs) (λ u. matrix_tree (case_columns p u ps rs) (case_rows p u rs)) (matrix_tree (without p ps) (default_rows p rs)))
    leads_node ps rs p g x cases other m h =
        node_formed ((met_sound s t qs resolved ps rs m).types p) (column p rs) (column_fine ps rs p g m h) (Used s) p
        (λ u. matrix_tree (case_columns p u ps rs) (case_rows p u rs)) (matrix_tree (without p ps) (default_rows p rs)) (used_column ps rs p x h)
        (λ u y. cases u y (in_case ps rs p u m x y) (case_all RowFine RowFine p (λ r z k. k) u (λ r q z w k. open_fine p r q z k) rs h))
        (other (in_default ps rs p m x) (default_all RowFine RowFine p (λ r z k. k) rs h))

    -- LEMMA
    pub plain_formed : Formed (Used s) CaseOf (plain_tree qs)
    plain_formed =
        rw plain_tree_matrix
        (tree_induction Leads leads_leaf leads_node (columns (clause_rows 0 qs)) (clause_rows 0 qs) (clause_rows_test 0 qs) at_root (rows_fine 0 qs facts))
