-- The laws of a column by the numbers of its tests: the tests read row by row from the table, and the longest lengths found from the
-- last test on, each a number that two bytes hold. Rests on what one pattern says of its lengths.
use Rattle.std.specs.Prelude.{◌≡◌, refl, Bool, true, false, not, ℕ, zero, suc, ◌-◌, ◌≤◌, ◌<◌, eqb, leb, length, get_or, drop, Some, None}
use Rattle.std.proofs.Common.{sym, ap, ap₂, ◌∙◌}
use mathlib.Core.List.{List, [], ◌∷◌, ◌++◌, map, append_assoc, append-nil}
use native.Mathlib.Omega.{arith}
use Rattle.std.proofs.Math.Seq.{take-length, drop-length, drop-cons}
use Rattle.base_words.specs.Words.{pick, both, either, Bytes as IsBytes}
use Rattle.base_words.specs.WordsLaws.{word_at_small}
use Rattle.spec_rules.specs.Kinds.{list_pattern, list_with_tail_pattern}
use Rattle.spec_rules.specs.SheetFile.{pattern_kind, pattern_count}
use Rattle.spec_rules.specs.Splitting.{tailless_length, tailed_length, larger, longest}
use Rattle.spec_accepted.specs.SheetFacts.{Accepted}
use Rattle.format_sheet.specs.declared.records.PatternRecord.{PatternRecord}
use Rattle.format_sheet.specs.Records as records
use Rattle.build_table.specs.Standing.{pattern_of}
use Rattle.spec_rules.specs.SplittingLaws.{All}
use Rattle.build_matrix.specs.Columns.{Held}
use Rattle.build_matrix.specs.declared.PerRow.{PerRow}
use Rattle.build_matrix.specs.HeldRows.{held_tests}
use Rattle.build_matrix.specs.Lists.{numbers_in, HoldsRows}
use Rattle.build_matrix.specs.Reading.{cell_in, owner_in, cell_held, held_in, InTable}
use Rattle.build_matrix.specs.ReadingLaws.{all_at}
use Rattle.build_matrix.specs.Ready.{TestKnown}
use Rattle.build_cases.specs.declared.tests.Longest.{Longest}
use Rattle.build_cases.specs.Rows.{longest_of, longer, held_test, TestSmall}
use Rattle.build_cases.specs.RowsLaws.{tailless_length_lem, tailed_length_lem, longest_more}

-- ---- the longest lengths are numbers that two bytes hold
larger_most : (a b n : ℕ) → a ≤ n → b ≤ n → larger a b ≤ n
unfolding larger
larger_most a b n h k = go (leb a b)
  where
    go : (t : Bool) → pick t b a ≤ n
    go true = k
    go false = h

pick_most : (t : Bool) (x n : ℕ) → x ≤ n → pick t x 0 ≤ n
pick_most true x n h = h
pick_most false x n h = omega arith

module _ {s : List ℕ} (bytes : IsBytes s) (ok : Accepted s) where
  count_small : (p : ℕ) → pattern_count s p < 65536
  unfolding pattern_count
  count_small p = word_at_small bytes _

  pub longest_most : (ps : List ℕ) → All (TestKnown s) ps → ((longest_of s ps).tailless ≤ 65536) × ((longest_of s ps).tails ≤ 65536)
  unfolding longest
  longest_most [] a = (omega arith, omega arith)
  longest_most (p ∷ ps) a =
      let (x, y) = longest_most ps a.1 in (
        larger_most (tailless_length (pattern_of s p)) (longest tailless_length (map (pattern_of s) ps)) 65536
            (rw (tailless_length_lem ok p a.0) (pick_most (eqb (pattern_kind s p) list_pattern) (suc (pattern_count s p)) 65536 (count_small p))) x,
        larger_most (tailed_length (pattern_of s p)) (longest tailed_length (map (pattern_of s) ps)) 65536
            (rw (tailed_length_lem ok p a.0) (pick_most (eqb (pattern_kind s p) list_with_tail_pattern) (pattern_count s p) 65536 (omega (arith, count_small p)))) y,
      )

  pub longest_few : (ps : List ℕ) → All (TestKnown s) ps → (l : Longest) → l ≡ longest_of s ps → (l.tailless ≤ 65536) × (l.tails ≤ 65536)
  longest_few ps a l e = rw e (longest_most ps a)

-- ---- the longest lengths from the last test on
pub all_here : (P : ℕ → Type 0) (ps : List ℕ) (i : ℕ) → i < length ps → All P ps → P (get_or ps i 0)
all_here P ps i h a = all_at P ps (length ps) i h (omega arith) (rw take-length a)

pub longest_starts : (s ps : List ℕ) (n : ℕ) → n ≡ length ps → ◌≡◌ {A = Longest} (record { tailless = 0; tails = 0 }) (longest_of s (drop n ps))
unfolding longest
longest_starts s ps n e = rw (e, drop-length ps)

pub longest_step : {s : List ℕ} → Accepted s → (ps : List ℕ) (i : ℕ) → 0 < i → i ≤ length ps → All (TestKnown s) ps → (p : ℕ) → p ≡ get_or ps (i - 1) 0
    → (r : PatternRecord) → r ≡ records.pattern_of s p → (l next : Longest) → l ≡ longest_of s (drop i ps) → next ≡ longer r l → next ≡ longest_of s (drop (i - 1) ps)
longest_step {s} ok ps i some h a p is r er l next el en =
    let known : TestKnown s p = rw is (all_here (TestKnown s) ps (i - 1) (omega arith) a) in
    let one : suc (i - 1) ≡ i = omega arith in
    en ∙ longest_more ok p known r l (drop i ps) er el
    ∙ ap (longest_of s)
    (ap₂ (λ (x j : ℕ). x ∷ drop j ps) is (sym one) ∙ sym (drop-cons ps (i - 1) 0 (omega arith)))

pub longest_ends : (s : List ℕ) (ps : List ℕ) (i : ℕ) (l : Longest) → i ≤ 0 → l ≡ longest_of s (drop i ps) → l ≡ longest_of s ps
longest_ends s ps i l h e = let z : i ≡ 0 = omega arith in e ∙ ap (λ (j : ℕ). longest_of s (drop j ps)) z

-- ---- the tests of a column, one row after the other
held_in_small : (t opened : List ℕ) (class c : ℕ) → InTable t class c → TestSmall (held_in t opened class c)
unfolding held_in
held_in_small t opened class c x = go (cell_in t class c) refl
  where
    in_byte : (b : Bool) (p : ℕ) → p < 256 → TestSmall (pick b (Some p) None)
    in_byte true p h = h
    in_byte false p h = tt

    go : (cell : ℕ) → cell_in t class c ≡ cell → TestSmall (cell_held t opened (cell_in t class c))
    go zero e = rw e tt
    go (suc p) e = rw e (in_byte (both (eqb (get_or opened p 0) 0) (either (eqb (owner_in t p) 0) (not (eqb (get_or opened (owner_in t p - 1) 0) 0)))) p (omega (arith, x.cell)))

pub held_small : (t opened : List ℕ) (class c : ℕ) (held : Held) → InTable t class c → held ≡ held_in t opened class c → TestSmall held
held_small t opened class c held x e = rw e (held_in_small t opened class c x)

tests_more : (held : ℕ → Held) (c : ℕ) (cs : List ℕ) → held_tests held (c ∷ cs) ≡ held_test (held c) ++ held_tests held cs
unfolding held_tests
tests_more held c cs = go (held c) refl
  where
    go : (h : Held) → held c ≡ h → held_tests held (c ∷ cs) ≡ held_test (held c) ++ held_tests held cs
    go (Some p) e = rw (e, held_tests)
    go None e = rw (e, held_tests)

pub tests_step : (held : ℕ → Held) (r next : PerRow) (c : ℕ) (h : Held) (cs : List ℕ) → held c ≡ h → HoldsRows next (numbers_in r ++ held_test h)
    → numbers_in next ++ held_tests held cs ≡ numbers_in r ++ held_tests held (c ∷ cs)
tests_step held r next c h cs e w =
    ap (λ (x : List ℕ). x ++ held_tests held cs) w.are ∙ append_assoc (numbers_in r) (held_test h) (held_tests held cs)
    ∙ ap (λ (x : List ℕ). numbers_in r ++ x) (ap (λ (x : Held). held_test x ++ held_tests held cs) (sym e) ∙ sym (tests_more held c cs))

pub tests_end : (held : ℕ → Held) (l cs : List ℕ) → cs ≡ [] → l ≡ l ++ held_tests held cs
unfolding held_tests
tests_end held l cs e = sym (ap (λ (x : List ℕ). l ++ held_tests held x) e ∙ append-nil l)

pub held_test_most : (h : Held) → length (held_test h) ≤ 1
held_test_most (Some p) = omega arith
held_test_most None = omega arith
