-- Laws of a matrix in arrays: a matrix is what its parts hold; and where the table is the sheet's and the matrix is sound, what the table
-- tells is what the sheet says: the column chosen, and the matrix of the default.
use Rattle.std.specs.Prelude.{◌≡◌, true, ltb, length, Some, None}
use Rattle.std.proofs.Math.Path.{refl, ap, ap₂}
use Rattle.std.proofs.Common.{◌∙◌, arith}
use mathlib.Core.List.{List, [], ◌∷◌, ◌++◌}
use Prim.Native.Nat.{ℕ, zero, suc, ◌+◌, ◌<◌}
use Rattle.base_words.specs.Words.{pick}
use Rattle.spec_rules.specs.Limits.{patterns_most}
use Rattle.spec_rules.specs.SheetFile.{clauses}
use Rattle.spec_rules.specs.SheetRefusals.{is_in}
use Rattle.spec_rules.specs.SplittingLaws.{All}
use Rattle.spec_accepted.specs.SheetFacts.{Accepted}
use Rattle.format_sheet.specs.declared.SheetMap.{SheetMap}
use Rattle.build_table.specs.Standing.{owner_of, cell_of}
use Rattle.build_table.specs.TabledLaws.{cell_most, cell_inside, cell_owner_inside}
use Rattle.build_matrix.specs.declared.Matrix.{Matrix}
use Rattle.build_matrix.specs.Columns.{Held, Choice}
use Rattle.build_matrix.specs.Live.{available, is_live, live_cell, live_test, live_in, IsClass}
use Rattle.build_matrix.specs.HeldRows.{count_of, best_of, held_tests, wild_of}
use Rattle.build_matrix.specs.Lists.{classes_in, numbers_in, Holds, HoldsRows}
use Rattle.build_matrix.specs.ListsLaws.{holds_count, whole, whole_rows}
use Rattle.build_matrix.specs.Ordered.{without_class, without_one}
use Rattle.build_matrix.specs.Matrices.{Rising}
use Rattle.build_matrix.specs.MatricesLaws.{all_in}
use Rattle.build_matrix.specs.Numbered.{Numbered, SoundOf, chosen_in, default_numbered}
use Rattle.build_matrix.specs.TreesLaws.{few_columns}
use Rattle.build_matrix.specs.Reading.{owner_in, cell_held, held_in, InTable}
use Rattle.build_matrix.specs.Ready.{ReadyTable}
use Rattle.build_matrix.specs.PuttingLaws.{all_map}
use Rattle.build_matrix.specs.InNumbers.{in_numbers, WholeMatrix, StandsFor, Readable, Splits, chosen_read, default_read}

-- ---- a matrix of its parts
pub stands_for : (x : Matrix) (M : Numbered) → HoldsRows x.rows M.rows → Holds x.columns M.columns → Holds x.tested M.tested
    → x.opened ≡ M.opened → length x.opened ≡ patterns_most → StandsFor x M
stands_for x M a b c d e = record {
  whole = record { whole_rows = whole_rows a; whole_columns = whole b; whole_tested = whole c; long_opened = e };
  are = joined x M a.are b.are c.are d;
}
  where
    joined : (x : Matrix) (M : Numbered) → numbers_in x.rows ≡ M.rows → classes_in x.columns ≡ M.columns → classes_in x.tested ≡ M.tested
        → x.opened ≡ M.opened → in_numbers x ≡ M
    joined x M a b c d i = record { rows = a i; columns = b i; tested = c i; opened = d i }

-- ---- told alike, counted and kept alike
module _ (f g : ℕ → Held) where
  abbrev Alike : ℕ → Type 0
  Alike c = f c ≡ g c

  count_alike : (cs : List ℕ) → All Alike cs → count_of f cs ≡ count_of g cs
  unfolding count_of
  count_alike [] h = refl
  count_alike (c ∷ cs) h = ap₂ (λ (x : Held) (n : ℕ). elim x [ Some p ↦ suc n | None ↦ 0 ]) h.0 (count_alike cs h.1)

  wild_alike : (cs : List ℕ) → All Alike cs → wild_of f cs ≡ wild_of g cs
  unfolding wild_of
  wild_alike [] h = refl
  wild_alike (c ∷ cs) h = ap₂ (λ (x : Held) (l : List ℕ). elim x [ Some p ↦ l | None ↦ c ∷ l ]) h.0 (wild_alike cs h.1)

  tests_alike : (cs : List ℕ) → All Alike cs → held_tests f cs ≡ held_tests g cs
  unfolding held_tests
  tests_alike [] h = refl
  tests_alike (c ∷ cs) h = ap₂ (λ (x : Held) (l : List ℕ). elim x [ Some p ↦ p ∷ l | None ↦ l ]) h.0 (tests_alike cs h.1)

pub best_alike : (f g : ℕ → ℕ) (chosen : Choice) (n : ℕ) (ks : List ℕ) → All (λ k. f k ≡ g k) ks → best_of f chosen n ks ≡ best_of g chosen n ks
unfolding best_of
best_alike f g chosen n [] h = refl
best_alike f g chosen n (k ∷ ks) h =
    ap (λ (x : ℕ). pick (ltb n x) (best_of f (Some k) x ks) (best_of f chosen n ks)) h.0
    ∙ ap₂ (λ (a b : Choice). pick (ltb n (g k)) a b) (best_alike f g (Some k) (g k) ks h.1) (best_alike f g chosen n ks h.1)

pub rising_below : (n from : ℕ) (cs : List ℕ) → Rising n from cs → All (λ c. c < n) cs
rising_below n from [] r = tt
rising_below n from (c ∷ cs) r = (r.1, rising_below n (c + 1) cs r.2)

-- ---- of a sheet and its table
module _ {s : List ℕ} {m : SheetMap} {t : List ℕ} (ready : ReadyTable s m t) where
  ok : Accepted s
  ok = ready.checked.ok

  module _ (c class : ℕ) (h : c < clauses s) (known : class < patterns_most) where
    pub in_table : InTable t class c
    in_table = record {
      long = ready.tabled.long;
      clause = omega (arith, ok.is_counted.clauses_most_holds);
      known = known;
      cell = omega (arith, cell_inside ok ready.tabled c class h known, ok.is_counted.patterns_most_holds);
      owner = cell_owner_inside ok ready.tabled c class h known;
    }

    -- what the table tells of a row
    pub held_read : (opened : List ℕ) → held_in t opened class c ≡ live_in s opened class c
    unfolding held_in live_test
    held_read opened = ap (cell_held t opened) (ready.tabled.cell c class h known) ∙ go (cell_of s c class) refl
      where
        go : (cell : ℕ) → cell_of s c class ≡ cell → cell_held t opened (cell_of s c class) ≡ live_cell s opened (cell_of s c class)
        go zero e = rw e
        go (suc p) e =
            let owner : owner_in t p ≡ owner_of s p = (ready.tabled.placed p (omega (arith, cell_most s c class))).owner in
            rw (e, owner) (unfold is_live available in refl)

  -- ---- of rows that are clauses
  module _ (rows : List ℕ) (low : All (λ c. c < clauses s) rows) (k : ℕ) (known : k < patterns_most) where
    pub cells_in : All (InTable t k) rows
    cells_in = all_map (λ c. c < clauses s) (InTable t k) (λ c h. in_table c k h known) rows low

    module _ (opened : List ℕ) where
      alike_rows : All (Alike (held_in t opened k) (live_in s opened k)) rows
      alike_rows = all_map (λ c. c < clauses s) (Alike (held_in t opened k) (live_in s opened k)) (λ c h. held_read c k h known opened) rows low

      count_read : count_of (held_in t opened k) rows ≡ count_of (live_in s opened k) rows
      count_read = count_alike (held_in t opened k) (live_in s opened k) rows alike_rows

      wild_read : wild_of (held_in t opened k) rows ≡ wild_of (live_in s opened k) rows
      wild_read = wild_alike (held_in t opened k) (live_in s opened k) rows alike_rows

      pub tests_read : held_tests (held_in t opened k) rows ≡ held_tests (live_in s opened k) rows
      tests_read = tests_alike (held_in t opened k) (live_in s opened k) rows alike_rows

  -- ---- of a sound matrix
  module _ (M : Numbered) (sound : SoundOf s M) where
    class_most : (k : ℕ) → IsClass s k → k < patterns_most
    class_most k h = omega (arith, h.known, ok.is_counted.patterns_most_holds)

    rows_low : All (λ c. c < clauses s) M.rows
    rows_low = rising_below (clauses s) 0 M.rows sound.rising

    pub chosen_read_lem : chosen_read t M ≡ chosen_in s M
    unfolding chosen_read chosen_in
    chosen_read_lem =
        best_alike (λ k. count_of (held_in t M.opened k) M.rows) (λ k. count_of (live_in s M.opened k) M.rows) None 0 M.columns
        (all_map (IsClass s) (λ k. count_of (held_in t M.opened k) M.rows ≡ count_of (live_in s M.opened k) M.rows)
        (λ k h. count_read M.rows rows_low k (class_most k h) M.opened) M.columns sound.are_classes)

    pub default_read_lem : (k : ℕ) → k < patterns_most → default_read t k M ≡ default_numbered s k M
    unfolding default_read default_numbered
    default_read_lem k h i = record {
      rows = wild_read M.rows rows_low k h M.opened i;
      columns = without_class k M.columns;
      tested = M.tested ++ k ∷ [];
      opened = M.opened;
    }

  module _ (x : Matrix) (whole : WholeMatrix x) (sound : SoundOf s (in_numbers x)) where
    pub readable : Readable t x
    readable = record {
      whole = whole;
      cells = all_map (IsClass s) (λ k. All (InTable t k) (numbers_in x.rows)) (λ k h. cells_in (numbers_in x.rows) (rows_low (in_numbers x) sound) k (class_most (in_numbers x) sound k h)) (classes_in x.columns) sound.are_classes;
    }

    pub splits : (class : ℕ) → is_in class (classes_in x.columns) ≡ true → Splits t x class
    splits class there =
        let known = class_most (in_numbers x) sound class (all_in (IsClass s) class (classes_in x.columns) sound.are_classes there) in
        record {
          whole = whole;
          there = there;
          known = known;
          cells = cells_in (numbers_in x.rows) (rows_low (in_numbers x) sound) class known;
          room = omega (arith, few_columns ok (in_numbers x) sound, without_one class (classes_in x.columns) there, holds_count whole.whole_tested);
        }
