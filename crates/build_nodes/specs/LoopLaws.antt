-- The loop over the cases of a switch, as the code takes it: a case's test read, its matrix, its child's number written and its tree built.
-- Rests on the laws of cases over plain values.
use Rattle.std.specs.Prelude.{◌≡◌, Option, Some, true, List, ◌∷◌, ℕ, ◌+◌, ◌-◌, ◌*◌, ◌≤◌, ◌<◌, length}
use Rattle.std.proofs.Math.Path.{refl}
use Rattle.std.proofs.Common.{sym, ap, ap₂, subst, ◌∙◌, arith}
use Rattle.base_words.specs.Words.{word_bytes}
use Rattle.base_words.specs.Stored.{stored}
use Rattle.base_words.specs.StoredLaws.{length_stored}
use Rattle.spec_rules.specs.Limits.{case_size}
use Rattle.spec_rules.specs.Splitting as splitting
use Rattle.spec_rules.specs.Splitting.{Met, is_met, cases_of}
use Rattle.spec_rules.specs.SplittingLaws.{All}
use Rattle.spec_rules.specs.Building.{Tree}
use Rattle.spec_rules.specs.Hoisting.{nodes_in}
use Rattle.spec_rules.specs.TreeFile.{cases_in}
use Rattle.spec_file.specs.Writable.{test_kind}
use Rattle.spec_file.specs.RecordsLaws.{test_number, test_length}
use Rattle.spec_match.specs.Lists.{all_back}
use Rattle.format_sheet.specs.declared.SheetMap.{SheetMap}
use Rattle.build_table.specs.Standing.{sheet_paths}
use Rattle.build_matrix.specs.declared.Matrix.{Matrix}
use Rattle.build_matrix.specs.Numbered.{Numbered, case_numbered, tree_at}
use Rattle.build_matrix.specs.Meant.{meant, InPool}
use Rattle.build_matrix.specs.InNumbers.{in_numbers, StandsFor}
use Rattle.format_records.specs.declared.reading.Test.{Test}
use Rattle.format_records.specs.declared.reading.Case.{Case}
use Rattle.build_arena.specs.Arena.{cases_start, case_of}
use Rattle.format_records.specs.Records.{test_for}
use Rattle.format_records.specs.RecordsLaws.{case_is, case_read}
use Rattle.build_cases.specs.Fields.{test_in}
use Rattle.build_cases.specs.SoFar.{InSheet}
use Rattle.build_nodes.specs.declared.tops.Tops.{Tops}
use Rattle.build_nodes.specs.Built.{Put, BuiltTo, Builds, Partly, TooMany, TooManyOf, BuildsCases, CasesOpen}
use Rattle.build_nodes.specs.CasesLaws.{Next, next_case, next_stands, case_built, case_over, cases_begin, cases_end}
use Rattle.build_nodes.specs.TestedLaws.{tested_in, still_numbers, still_column}
use Rattle.build_nodes.specs.ColumnLaws.{met_among, order_met, cases_there, case_there}
use Rattle.build_nodes.specs.Steps.{StillTested, Asked, chosen_column, case_list, case_tree, AskedColumn, AskedCase, AskedCases}

-- ---- a case's test, as it is read
-- a case met means its test, and its text lies in the sheet's pool
module _ (s : List ℕ) where
  abbrev Meant : Met → Type 0
  Meant m = (meant s (test_for m.start m.test) ≡ m.test) × InPool s (test_for m.start m.test)

  sheet_meant : (m : Met) → InSheet s m → Meant m
  unfolding meant test_for test_in test_kind test_number test_length
  sheet_meant m h = go m.test refl
    where
      go : (u : splitting.Test) → m.test ≡ u → Meant m
      go (splitting.Constr a) e = rw e (refl, tt)
      go (splitting.Int v) e = rw e (rw e at h.meant, (rw e at h.fit).inside refl)
      go (splitting.Bytes v) e = rw e (rw e at h.meant, (rw e at h.fit).inside refl)
      go (splitting.ListOf n) e = rw e (refl, tt)
      go (splitting.ListWithTail n) e = rw e (refl, tt)

-- ---- a case
module _ {s : List ℕ} {m : SheetMap} {t : List ℕ} {x : Matrix} {k : ℕ} {test : Test} {w : List ℕ} {tops : Tops} (asked : AskedCase s m t x k test w tops) (y : Matrix)
    (stands : StandsFor y (case_numbered s k (meant s test) (in_numbers x))) where
  -- its matrix y
  pub case_asked : Asked s m t y w tops
  case_asked =
      record {
        ready = asked.col.ready;
        there = case_there asked.col y (meant s test) stands.whole stands.are asked.met;
        room = asked.room;
      }

  pub case_tree_is : (w' : List ℕ) (r : Option Tops) → Builds (sheet_paths s) w w' (tree_at s (in_numbers y)) tops r
      → Builds (sheet_paths s) w w' (case_tree s k (in_numbers x) (meant s test)) tops r
  case_tree_is w' r b = subst (λ (a : Tree). Builds (sheet_paths s) w w' a tops r) (ap (tree_at s) stands.are) b

-- ---- a turn
-- the cases up to number n are built, and there is one more
pub record Turn (s : List ℕ) (m : SheetMap) (t : List ℕ) (x : Matrix) (k first : ℕ) (w₀ : List ℕ) (from : Tops) (n : ℕ) (l w : List ℕ) (tops : Tops) : Type 0 where
  pub col : AskedColumn s m t x k
  pub asked : AskedCases s k (in_numbers x) first w₀ from
  pub part : Partly (sheet_paths s) (case_tree s k (in_numbers x)) (case_list s k (in_numbers x)) first (n - first) w₀ w from tops
  pub begins : first ≤ n
  pub inside : n < from.cases
  pub kept : StillTested x.tested.count x.tested.list l

pub turn_at : {s : List ℕ} {m : SheetMap} {t : List ℕ} {x : Matrix} {k first : ℕ} {w₀ : List ℕ} {from : Tops} (n : ℕ) {l w : List ℕ} {tops : Tops}
    → AskedColumn s m t x k → AskedCases s k (in_numbers x) first w₀ from
    → Partly (sheet_paths s) (case_tree s k (in_numbers x)) (case_list s k (in_numbers x)) first (n - first) w₀ w from tops
    → first ≤ n → n < from.cases → StillTested x.tested.count x.tested.list l → Turn s m t x k first w₀ from n l w tops
turn_at n col asked part begins inside kept = record { col = col; asked = asked; part = part; begins = begins; inside = inside; kept = kept }

module _ {s : List ℕ} {m : SheetMap} {t : List ℕ} {x : Matrix} {k first : ℕ} {w₀ : List ℕ} {from : Tops} {n : ℕ} {l w : List ℕ} {tops : Tops}
    (turn : Turn s m t x k first w₀ from n l w tops) where
  abbrev i : ℕ
  i = n - first

  is_number : first + i ≡ n
  is_number = omega (arith, turn.begins)

  abbrev begun : CasesOpen (case_list s k (in_numbers x)) first w₀ from
  begun = turn.asked.begun

  next : Next (sheet_paths s) (case_tree s k (in_numbers x)) (case_list s k (in_numbers x)) first w₀ from i w tops
  next = next_case (sheet_paths s) (case_tree s k (in_numbers x)) (case_list s k (in_numbers x)) first w₀ from i w tops (omega (arith, begun.to_come, turn.begins, turn.inside)) turn.part

  abbrev u : splitting.Test
  u = next.case.test

  u_met : is_met u (cases_of (chosen_column s k (in_numbers x))) ≡ true
  u_met = order_met (chosen_column s k (in_numbers x)) u (rw next.whole (met_among next.done next.case next.rest))

  -- the test that is read is its own
  test_is : (test : Test) → test ≡ (case_of w n).test → test ≡ test_for next.case.start u
  test_is test e =
      let stands = next_stands (sheet_paths s) (case_tree s k (in_numbers x)) (case_list s k (in_numbers x)) first w₀ from begun i w tops next in
      let at = cases_start + case_size * (first + i) in
      let read = case_read w at u next.case.start 0 (case_is w at u next.case.start 0 stands) in
      e ∙ ap (λ (j : ℕ). (case_of w j).test) (sym is_number) ∙ ap (λ (z : Case). z.test) read

  u_meant : Meant s next.case
  u_meant = sheet_meant s next.case (all_back (InSheet s) next.done (next.case ∷ next.rest) (subst (All (InSheet s)) next.whole turn.asked.each)).0

  module _ (test : Test) (e : test ≡ (case_of w n).test) where
    abbrev now_is : in_numbers (tested_in x l) ≡ in_numbers x
    now_is = still_numbers x turn.kept

    meant_is : meant s test ≡ u
    meant_is = ap (meant s) (test_is test e) ∙ u_meant.0

    -- its child is written
    module _ (w₁ : List ℕ) (child : w₁ ≡ stored w (cases_start + case_size * n + 6) (word_bytes tops.nodes)) where
      pub turn_asked : AskedCase s m t (tested_in x l) k test w₁ tops
      turn_asked =
          let r = next.put.room in
          record {
            col = still_column turn.col turn.kept;
            pool = subst (InPool s) (sym (test_is test e)) u_meant.1;
            met = ap₂ (λ (z : splitting.Test) (M : Numbered). is_met z (cases_of (chosen_column s k M))) meant_is now_is ∙ u_met;
            room = record {
              long = omega (arith, r.long, ap length child, length_stored w (cases_start + case_size * n + 6) (word_bytes tops.nodes));
              nodes_most_holds = r.nodes_most_holds;
              cases_most_holds = r.cases_most_holds;
              bindings_most_holds = r.bindings_most_holds;
              leaves_long = r.leaves_long;
            };
          }

      -- its tree is built, or has too many nodes
      as_case : case_tree s k (in_numbers (tested_in x l)) (meant s test) ≡ case_tree s k (in_numbers x) u
      as_case = ap₂ (λ (z : splitting.Test) (M : Numbered). case_tree s k M z) meant_is now_is

      pub turn_done : (w₂ : List ℕ) (to : Tops) → BuiltTo (sheet_paths s) w₁ w₂ (case_tree s k (in_numbers (tested_in x l)) (meant s test)) tops to
          → Partly (sheet_paths s) (case_tree s k (in_numbers x)) (case_list s k (in_numbers x)) first (n + 1 - first) w₀ w₂ from to
      turn_done w₂ to b =
          let one : i + 1 ≡ n + 1 - first = omega (arith, turn.begins) in
          rw (← one)
          (case_built (sheet_paths s) (case_tree s k (in_numbers x)) (case_list s k (in_numbers x)) first w₀ from begun i w tops next w₁ w₂ to
          (child ∙ ap (λ (j : ℕ). stored w (cases_start + case_size * j + 6) (word_bytes tops.nodes)) (sym is_number))
          (subst (λ (a : Tree). Put (sheet_paths s) w₁ w₂ a tops to) as_case b.put) (subst (λ (a : Tree). cases_in a < nodes_in a) as_case b.fewer_cases))

      pub turn_over : TooMany (case_tree s k (in_numbers (tested_in x l)) (meant s test)) tops → TooManyOf (case_tree s k (in_numbers x)) (case_list s k (in_numbers x)) first from
      turn_over over =
          case_over (sheet_paths s) (case_tree s k (in_numbers x)) (case_list s k (in_numbers x)) first w₀ from begun i w tops next (cases_there turn.col)
          (subst (λ (a : Tree). TooMany a tops) as_case over)

-- ---- the loop
module _ {s : List ℕ} {m : SheetMap} {t : List ℕ} {x : Matrix} {k : ℕ} (col : AskedColumn s m t x k) {first : ℕ} {w₀ : List ℕ} {from : Tops}
    (asked : AskedCases s k (in_numbers x) first w₀ from) where
  abbrev Done : ℕ → List ℕ → Tops → Type 0
  Done i w tops = Partly (sheet_paths s) (case_tree s k (in_numbers x)) (case_list s k (in_numbers x)) first i w₀ w from tops

  pub loop_begin : Done (first - first) w₀ from
  loop_begin =
      let none : first - first ≡ 0 = omega arith in
      rw none
      (cases_begin (sheet_paths s) (case_tree s k (in_numbers x)) (case_list s k (in_numbers x)) first w₀ from asked.begun)

  pub loop_end : (n : ℕ) (w : List ℕ) (tops : Tops) → Done (n - first) w tops → from.cases ≤ n
      → BuildsCases (sheet_paths s) (case_tree s k (in_numbers x)) (case_list s k (in_numbers x)) first w₀ w from (Some tops)
  loop_end n w tops part l =
      cases_end (sheet_paths s) (case_tree s k (in_numbers x)) (case_list s k (in_numbers x)) first w₀ from (n - first) w tops (omega (arith, asked.begun.to_come)) part
