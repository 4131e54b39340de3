-- The column chosen in a matrix: what splitting by it asks, its cases in the order of their records, the matrices of its cases and of
-- its default. Rests on the tree of a matrix by numbers and on the cases met.
use Rattle.std.specs.Prelude.{◌≡◌, Bool, true, false, List, [], ◌∷◌, ◌++◌, map, ℕ, ◌+◌, ◌≤◌, ◌<◌, length, take}
use Rattle.std.proofs.Math.Path.{refl}
use Rattle.std.proofs.Common.{sym, ap, subst, ◌∙◌, append_assoc, arith, length-append, length-take-le}
use Rattle.std.proofs.lemmas.Bool.{false≢true}
use Rattle.std.proofs.Math.Option.{Option, none, some}
use Rattle.std.proofs.lemmas.List.{length-map}
use Rattle.base_words.specs.Words.{either}
use Rattle.spec_rules.specs.Limits.{patterns_most}
use Rattle.spec_rules.specs.SheetFile.{clauses}
use Rattle.spec_rules.specs.SheetRefusals.{is_in}
use Rattle.spec_rules.specs.Patterns.{Pat}
use Rattle.spec_rules.specs.Rows.{Path, Row}
use Rattle.spec_rules.specs.Columns.{test_at}
use Rattle.spec_rules.specs.Splitting as splitting
use Rattle.spec_rules.specs.Splitting.{Met, is_met, cases_of, column}
use Rattle.spec_rules.specs.SplittingLaws.{All}
use Rattle.spec_rules.specs.Building.{absent}
use Rattle.spec_rules.specs.Hoisting.{nodes_in}
use Rattle.spec_accepted.specs.SheetFacts.{Accepted}
use Rattle.spec_match.specs.Depth.{is_tail, is_exact, only, node_on, met_here, met_there, only_met}
use Rattle.spec_match.specs.Tests.{is_test, TestRow, row_test}
use Rattle.spec_match.specs.Switches.{own_test, own_met}
use Rattle.format_sheet.specs.declared.SheetMap.{SheetMap}
use Rattle.build_table.specs.Standing.{path_of, pattern_of}
use Rattle.build_matrix.specs.declared.Matrix.{Matrix}
use Rattle.build_matrix.specs.Columns.{Held}
use Rattle.build_matrix.specs.Lists.{classes_in, numbers_in}
use Rattle.build_matrix.specs.Numbered.{Numbered, SoundOf, default_numbered, case_numbered, tests_in, tree_at}
use Rattle.build_matrix.specs.InNumbers.{in_numbers, WholeMatrix, StandsFor, Splits, default_read}
use Rattle.build_matrix.specs.InNumbersLaws.{rising_below, default_read_lem, splits}
use Rattle.build_matrix.specs.Live.{live_in}
use Rattle.build_matrix.specs.HeldRows.{held_tests}
use Rattle.build_matrix.specs.Matrices.{rows_at}
use Rattle.build_matrix.specs.MatricesLaws.{column_is}
use Rattle.build_matrix.specs.TreesLaws.{FirstTest, rows_tests, chosen_first, some_tree, no_tree, case_some, chosen_there, chosen_room, chosen_class, tree_switch, sound_default, sound_case}
use Rattle.build_cases.specs.PassesLaws.{sorts_length}
use Rattle.build_nodes.specs.CasesLaws.{There}
use Rattle.build_nodes.specs.SwitchLaws.{in_order}
use Rattle.build_nodes.specs.Steps.{MatrixThere, StillTested, chosen_column, case_list, case_tree, default_tree, AskedColumn}
use Rattle.build_nodes.specs.TestedLaws.{one_more, still_more}

-- ---- a column's tests are tests, and each has a case
column_tests : (p : Path) (rs : List Row) → All TestRow rs → All (λ q. is_test q ≡ true) (column p rs)
unfolding column
column_tests p [] h = tt
column_tests p (r ∷ rs) h = go (test_at p r.tests) refl (column_tests p rs h.1)
  where
    go : (o : Option Pat) → test_at p r.tests ≡ o → All (λ q. is_test q ≡ true) (column p rs) → All (λ q. is_test q ≡ true) (column p (r ∷ rs))
    go none e ih = rw (e, column) ih
    go (some q) e ih = rw (e, column) (row_test p q r e h.0, ih)

met_some : (t : splitting.Test) (ms : List Met) → is_met t ms ≡ true → 1 ≤ length ms
unfolding is_met
met_some t [] e = absurd (false≢true e)
met_some t (m ∷ ms) e = omega arith

cases_some : (qs : List Pat) → All (λ q. is_test q ≡ true) qs → 1 ≤ length qs → 1 ≤ length (cases_of qs)
cases_some [] h l = absurd (omega arith)
cases_some (q ∷ qs) h l = met_some (own_test q) (cases_of (q ∷ qs)) (own_met (q ∷ qs) h).0

held_some : (held : ℕ → Held) (rows : List ℕ) → FirstTest held rows → 1 ≤ length (held_tests held rows)
unfolding held_tests
held_some held rows f = rw f.are (rw (f.holds, held_tests) (omega arith))

-- ---- how many rows and columns tested
pub tested_is : {x : Matrix} → WholeMatrix x → length (in_numbers x).tested ≡ x.tested.count
tested_is {x} h = length-take-le x.tested.count x.tested.list (omega (arith, h.whole_tested.long, h.whole_tested.most))

pub rows_count : {x : Matrix} → WholeMatrix x → length (in_numbers x).rows ≡ x.rows.count
rows_count {x} h = length-take-le x.rows.count x.rows.list (omega (arith, h.whole_rows.long, h.whole_rows.most))

-- ---- the cases of a column, in the order of their records
-- a case of a list is met in it
pub met_among : (xs : List Met) (m : Met) (ys : List Met) → is_met m.test (xs ++ m ∷ ys) ≡ true
met_among [] m ys = met_here m ys
met_among (x ∷ xs) m ys = met_there m.test x (xs ++ m ∷ ys) (met_among xs m ys)

met_either : (t : splitting.Test) (xs ys : List Met) → is_met t (xs ++ ys) ≡ either (is_met t xs) (is_met t ys)
unfolding is_met
met_either t [] ys = refl
met_either t (m ∷ xs) ys = ap (either (splitting.same_test t m.test)) (met_either t xs ys) ∙ assoc (splitting.same_test t m.test) (is_met t xs) (is_met t ys)
  where
    assoc : (x y z : Bool) → either x (either y z) ≡ either (either x y) z
    assoc true y z = refl
    assoc false y z = refl

pub order_met : (qs : List Pat) (t : splitting.Test) → is_met t (in_order qs) ≡ true → is_met t (cases_of qs) ≡ true
unfolding in_order
order_met qs t e = go (is_met t (only is_exact (cases_of qs))) refl (sym (met_either t (only is_exact (cases_of qs)) (only is_tail (cases_of qs))) ∙ e)
  where
    go : (b : Bool) → is_met t (only is_exact (cases_of qs)) ≡ b → either (is_met t (only is_exact (cases_of qs))) (is_met t (only is_tail (cases_of qs))) ≡ true → is_met t (cases_of qs) ≡ true
    go true x y = only_met is_exact t (cases_of qs) x
    go false x y = only_met is_tail t (cases_of qs) (rw x at y)

-- as many as there are
pub order_parts : (qs : List Pat) → length (in_order qs) ≡ length (only is_exact (cases_of qs)) + length (only is_tail (cases_of qs))
unfolding in_order
order_parts qs = length-append (only is_exact (cases_of qs)) (only is_tail (cases_of qs))

pub order_length : (qs : List Pat) → length (in_order qs) ≡ length (cases_of qs)
order_length qs = order_parts qs ∙ sorts_length (cases_of qs)

-- P of each case, if it holds of every test that is met
each_met : (P : splitting.Test → Type 0) (qs : List Pat) → ((t : splitting.Test) → is_met t (cases_of qs) ≡ true → P t) → All (λ (m : Met). P m.test) (in_order qs)
each_met P qs h = go [] (in_order qs) refl
  where
    go : (xs ys : List Met) → in_order qs ≡ xs ++ ys → All (λ (m : Met). P m.test) ys
    go xs [] e = tt
    go xs (m ∷ ys) e = (
      h m.test (order_met qs m.test (rw e (met_among xs m ys))),
      go (xs ++ m ∷ []) ys (e ∙ sym (append_assoc xs (m ∷ []) ys)),
    )

-- ---- the column chosen, and the matrices that it is split into
module _ {s : List ℕ} {m : SheetMap} {t : List ℕ} {x : Matrix} {k : ℕ} (col : AskedColumn s m t x k) where
  abbrev ok : Accepted s
  ok = col.ready.checked.ok

  -- fewer columns than patterns are tested
  pub tested_room : x.tested.count < patterns_most
  tested_room = omega (arith, chosen_room ok (in_numbers x) col.there.sound k col.chosen, tested_is col.there.whole)

  pub column_known : k < patterns_most
  column_known = omega (arith, (chosen_class ok (in_numbers x) col.there.sound k col.chosen).known, ok.is_counted.patterns_most_holds)

  -- its rows are clauses
  pub rows_known : All (λ c. c < clauses s) (numbers_in x.rows)
  rows_known = rising_below (clauses s) 0 (numbers_in x.rows) col.there.sound.rising

  -- what its parts ask
  pub column_in : is_in k (classes_in x.columns) ≡ true
  column_in = chosen_there s (in_numbers x) k col.chosen

  pub column_splits : Splits t x k
  column_splits = splits col.ready x col.there.whole col.there.sound k column_in

  -- every case has a node
  pub cases_there : All (There (case_tree s k (in_numbers x))) (case_list s k (in_numbers x))
  cases_there =
      each_met (λ u. 1 ≤ nodes_in (case_tree s k (in_numbers x) u)) (chosen_column s k (in_numbers x))
      (λ u e. some_tree s (case_numbered s k u (in_numbers x)) (case_some s (in_numbers x) k u e))

  -- a case's matrix
  module _ (y : Matrix) (u : splitting.Test) (whole : WholeMatrix y) (is : in_numbers y ≡ case_numbered s k u (in_numbers x)) where
    pub case_there : is_met u (cases_of (chosen_column s k (in_numbers x))) ≡ true → MatrixThere s y
    case_there e =
        record {
          whole = whole;
          sound = subst (λ (M : Numbered). SoundOf s M) (sym is) (sound_case ok (in_numbers x) col.there.sound k (chosen_there s (in_numbers x) k col.chosen) u);
          some_row = subst (λ (M : Numbered). 1 ≤ length M.rows) (sym is) (case_some s (in_numbers x) k u e);
        }

    -- one class more is tested, and those before it stay
    pub case_more : y.tested.count ≡ x.tested.count + 1
    unfolding case_numbered
    case_more = one_more k col.there.whole whole (ap (λ (M : Numbered). M.tested) is)

    pub case_still : StillTested x.tested.count x.tested.list y.tested.list
    unfolding case_numbered
    case_still = still_more k col.there.whole whole (ap (λ (M : Numbered). M.tested) is)

  -- the default's
  module _ (d : Matrix) (stands : StandsFor d (default_read t k (in_numbers x))) where
    whole : WholeMatrix d
    whole = stands.whole

    pub default_are : in_numbers d ≡ default_numbered s k (in_numbers x)
    default_are = stands.are ∙ default_read_lem col.ready (in_numbers x) col.there.sound k column_known

    pub default_there : (d.rows.count ≡ 0 → ⊥) → MatrixThere s d
    default_there e =
        record {
          whole = whole;
          sound = subst (λ (M : Numbered). SoundOf s M) (sym default_are) (sound_default ok (in_numbers x) col.there.sound k (chosen_there s (in_numbers x) k col.chosen));
          some_row = omega (arith, rows_count whole);
        }

    pub default_none : d.rows.count ≡ 0 → default_tree s k (in_numbers x) ≡ absent
    default_none e = no_tree s (default_numbered s k (in_numbers x)) (rw (← default_are) (ap (λ z. take z d.rows.list) e))

    pub default_more : d.tested.count ≡ x.tested.count + 1
    unfolding default_read
    default_more = one_more k col.there.whole whole (ap (λ (M : Numbered). M.tested) stands.are)

    pub default_still : StillTested x.tested.count x.tested.list d.tested.list
    unfolding default_read
    default_still = still_more k col.there.whole whole (ap (λ (M : Numbered). M.tested) stands.are)

  pub as_switch : tree_at s (in_numbers x) ≡ node_on (path_of s k) (chosen_column s k (in_numbers x)) (case_tree s k (in_numbers x)) (default_tree s k (in_numbers x))
  as_switch = tree_switch ok (in_numbers x) col.there.sound k col.chosen

  -- a column chosen has a case
  pub some_case : 1 ≤ length (case_list s k (in_numbers x))
  some_case =
      let M = in_numbers x in
      let first = chosen_first s M k col.chosen in
      let qs = chosen_column s k M in
      let tests : All (λ q. is_test q ≡ true) qs =
      subst (All (λ q. is_test q ≡ true)) (column_is ok col.there.sound k (chosen_class ok M col.there.sound k col.chosen) ∙ tests_are)
      (column_tests (path_of s k) (rows_at s M.tested M.rows) (rows_tests s (map (path_of s) M.tested) M.rows)) in
      omega (arith, order_length qs, cases_some qs tests (omega (arith, length-map (tests_in s k M) (pattern_of s), tests_some first)))
    where
      tests_some : FirstTest (live_in s x.opened k) (in_numbers x).rows → 1 ≤ length (tests_in s k (in_numbers x))
      tests_some f = unfold tests_in in (held_some (live_in s x.opened k) (in_numbers x).rows f)

      tests_are : map (pattern_of s) (held_tests (live_in s x.opened k) (in_numbers x).rows) ≡ chosen_column s k (in_numbers x)
      tests_are = unfold tests_in in refl
