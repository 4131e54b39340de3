-- Whether the test of a pattern belongs to a case, by its record, is what rules says of the pattern: kind by kind, test by test.
use Rattle.std.specs.Prelude.{◌≡◌, Bool, List, ℕ, ◌+◌, ◌-◌, ◌≤◌, eqb, leb}
use Rattle.std.proofs.Math.Path.{refl, sym, ap}
use Rattle.std.proofs.Common.{◌∙◌, arith}
use Rattle.std.proofs.Math.Bool.{true, false}
use Rattle.std.proofs.lemmas.Bool.{false≢true}
use borrow.Author.Tests.{not-true}
use Rattle.std.proofs.Math.ListN.{length}
use Rattle.base_words.specs.Words.{both, either, pick, text_at, same_text}
use Rattle.base_words.specs.WordsLaws.{length_text_at, not_same_text}
use Rattle.spec_rules.specs.Kinds.{integer_pattern, byte_string_pattern, list_pattern, list_with_tail_pattern, constructor_pattern, int_case}
use Rattle.spec_rules.specs.SheetFile.{pattern_zero, type_first, pattern_kind, pattern_a, pattern_first, pattern_count, child, pool_at, pool_size, pool_text}
use Rattle.spec_rules.specs.Patterns.{PatternKind, Discard, Variable, Assign, Integer, ByteString, ListOfAll, ListWithRest, Constructor, Pair, Tuple, Unknown, pattern_kind_of, Mark, Pat, Pats, tailed, many, one_constructor, along, of_constructor, of_kind, pattern}
use Rattle.spec_rules.specs.Splitting as splitting
use Rattle.spec_rules.specs.Splitting.{same_test, test_fields, covers}
use Rattle.spec_accepted.specs.KindsLaws.{pattern_byte}
use Rattle.spec_accepted.specs.PatternsLaws.{pattern_of_kind, many_along}
use Rattle.spec_accepted.specs.SheetFacts.{Accepted, text_inside as text_in}
use Rattle.format_sheet.specs.declared.SheetMap.{SheetMap}
use Rattle.format_sheet.specs.declared.records.PatternRecord.{PatternRecord}
use Rattle.format_sheet.specs.Records.{pattern_of as record_of}
use Rattle.build_table.specs.Standing.{kind_of, type_of, test_of_kind, is_test, pattern_of}
use Rattle.format_sheet.specs.Check.{SheetAccepts}
use Rattle.format_records.specs.declared.reading.Test.{Test}
use Rattle.build_matrix.specs.HeldRows.{joins_case}
use Rattle.build_matrix.specs.Ready.{TestKnown}
use Rattle.build_matrix.specs.Meant.{meant, covers_read}

-- ---- by the kind's number
module _ (s : List ℕ) (z a first count : ℕ) where
  abbrev with_kind : ℕ → PatternRecord
  with_kind k = record { kind = k; zero = z; a = a; first = first; count = count }

  of_integer : (u : Test) → covers_read s (with_kind integer_pattern) u ≡ same_test (meant s u) (splitting.Int (pool_text s first count))
  unfolding meant same_test test_fields same_text
  of_integer (Test.Constr n) = refl
  of_integer (Test.Text kind start n) = go (eqb kind int_case)
    where
      go : (b : Bool) → both (eqb integer_pattern (pick b integer_pattern byte_string_pattern)) (same_text (pool_text s start n) (pool_text s first count))
          ≡ same_test (pick b (splitting.Int (pool_text s start n)) (splitting.Bytes (pool_text s start n))) (splitting.Int (pool_text s first count))
      go true = refl
      go false = refl
  of_integer (Test.List n) = refl
  of_integer (Test.Tailed n) = refl

  of_bytes : (u : Test) → covers_read s (with_kind byte_string_pattern) u ≡ same_test (meant s u) (splitting.Bytes (pool_text s first count))
  unfolding meant same_test test_fields same_text
  of_bytes (Test.Constr n) = refl
  of_bytes (Test.Text kind start n) = go (eqb kind int_case)
    where
      go : (b : Bool) → both (eqb byte_string_pattern (pick b integer_pattern byte_string_pattern)) (same_text (pool_text s start n) (pool_text s first count))
          ≡ same_test (pick b (splitting.Int (pool_text s start n)) (splitting.Bytes (pool_text s start n))) (splitting.Bytes (pool_text s first count))
      go true = refl
      go false = refl
  of_bytes (Test.List n) = refl
  of_bytes (Test.Tailed n) = refl

  of_list : (u : Test) → covers_read s (with_kind list_pattern) u ≡ same_test (meant s u) (splitting.ListOf count)
  unfolding meant same_test test_fields same_text
  of_list (Test.Constr n) = refl
  of_list (Test.Text kind start n) = go (eqb kind int_case)
    where
      go : (b : Bool) → both (eqb list_pattern (pick b integer_pattern byte_string_pattern)) (same_text (pool_text s start n) (pool_text s first count))
          ≡ same_test (pick b (splitting.Int (pool_text s start n)) (splitting.Bytes (pool_text s start n))) (splitting.ListOf count)
      go true = refl
      go false = refl
  of_list (Test.List n) = go (eqb n count)
    where
      go : (b : Bool) → either b false ≡ both b true
      go true = refl
      go false = refl
  of_list (Test.Tailed n) = refl

  of_tailed : (t : Pat) (many_is : (u : splitting.Test) → covers t u
      ≡ elim u [ splitting.Constr a ↦ false | splitting.Int w ↦ false | splitting.Bytes w ↦ false | splitting.ListOf n ↦ leb (count - 1) n | splitting.ListWithTail n ↦ leb (count - 1) n ])
      → (u : Test) → covers_read s (with_kind list_with_tail_pattern) u ≡ covers t (meant s u)
  unfolding meant
  of_tailed t many_is (Test.Constr n) = rw (many_is (splitting.Constr n))
  of_tailed t many_is (Test.Text kind start n) = go (eqb kind int_case)
    where
      go : (b : Bool) → both (eqb list_with_tail_pattern (pick b integer_pattern byte_string_pattern)) (same_text (pool_text s start n) (pool_text s first count))
          ≡ covers t (pick b (splitting.Int (pool_text s start n)) (splitting.Bytes (pool_text s start n)))
      go true = rw (many_is (splitting.Int (pool_text s start n)))
      go false = rw (many_is (splitting.Bytes (pool_text s start n)))
  of_tailed t many_is (Test.List n) = rw (many_is (splitting.ListOf n))
  of_tailed t many_is (Test.Tailed n) = rw (many_is (splitting.ListWithTail n))

  of_constructor_lem : (u : Test) → covers_read s (with_kind constructor_pattern) u ≡ same_test (meant s u) (splitting.Constr a)
  unfolding meant same_test test_fields same_text
  of_constructor_lem (Test.Constr n) = go (eqb n a)
    where
      go : (b : Bool) → b ≡ both b true
      go true = refl
      go false = refl
  of_constructor_lem (Test.Text kind start n) = go (eqb kind int_case)
    where
      go : (b : Bool) → both (eqb constructor_pattern (pick b integer_pattern byte_string_pattern)) (same_text (pool_text s start n) (pool_text s first count))
          ≡ same_test (pick b (splitting.Int (pool_text s start n)) (splitting.Bytes (pool_text s start n))) (splitting.Constr a)
      go true = refl
      go false = refl
  of_constructor_lem (Test.List n) = refl
  of_constructor_lem (Test.Tailed n) = refl

tailed_covers : (m : Mark) (qs : Pats) (q : Pat) (count : ℕ) → many qs ≡ count → (u : splitting.Test) → covers (tailed m qs q) u
    ≡ elim u [ splitting.Constr a ↦ false | splitting.Int w ↦ false | splitting.Bytes w ↦ false | splitting.ListOf n ↦ leb count n | splitting.ListWithTail n ↦ leb count n ]
unfolding covers
tailed_covers m qs q count e (splitting.Constr a) = refl
tailed_covers m qs q count e (splitting.Int w) = refl
tailed_covers m qs q count e (splitting.Bytes w) = refl
tailed_covers m qs q count e (splitting.ListOf n) = ap (λ (x : ℕ). leb x n) e
tailed_covers m qs q count e (splitting.ListWithTail n) = ap (λ (x : ℕ). leb x n) e

-- ---- of a pattern that is a test
module _ {s : List ℕ} (ok : Accepted s) (p : ℕ) (k : TestKnown s p) (u : Test) where
  opens_as : (kind : PatternKind) → pattern_kind_of (pattern_kind s p) ≡ kind → pattern_of s p ≡ of_kind (pattern s) s p (type_of s p) kind
  opens_as = pattern_of_kind s ok.is_shaped ok.is_counted p (type_of s p) k.known

  the_test : (kind : PatternKind) → pattern_kind_of (pattern_kind s p) ≡ kind → test_of_kind s (type_of s p) kind ≡ true
  unfolding is_test kind_of
  the_test kind e = ap (test_of_kind s (type_of s p)) (sym e) ∙ k.test

  abbrev Same : PatternKind → Type 0
  Same kind = covers_read s (record_of s p) u ≡ covers (of_kind (pattern s) s p (type_of s p) kind) (meant s u)

  by_kind : (kind : PatternKind) → pattern_kind_of (pattern_kind s p) ≡ kind → Same kind
  unfolding test_of_kind of_kind of_constructor covers
  by_kind Discard e = absurd (false≢true (the_test Discard e))
  by_kind Variable e = absurd (false≢true (the_test Variable e))
  by_kind Assign e = absurd (false≢true (the_test Assign e))
  by_kind Integer e = rw (pattern_byte (pattern_kind s p) Integer e (omega arith)) (of_integer s (pattern_zero s p) (pattern_a s p) (pattern_first s p) (pattern_count s p) u)
  by_kind ByteString e = rw (pattern_byte (pattern_kind s p) ByteString e (omega arith)) (of_bytes s (pattern_zero s p) (pattern_a s p) (pattern_first s p) (pattern_count s p) u)
  by_kind ListOfAll e =
      rw (pattern_byte (pattern_kind s p) ListOfAll e (omega arith), many_along (pattern s) s (pattern_first s p) (pattern_count s p) (type_first s (type_of s p)) 0)
      (of_list s (pattern_zero s p) (pattern_a s p) (pattern_first s p) (pattern_count s p) u)
  by_kind ListWithRest e =
      rw (pattern_byte (pattern_kind s p) ListWithRest e (omega arith))
      (of_tailed s (pattern_zero s p) (pattern_a s p) (pattern_first s p) (pattern_count s p) (of_kind (pattern s) s p (type_of s p) ListWithRest)
      (tailed_covers (record { number = p; type = type_of s p }) (along (pattern s) s (pattern_first s p) (pattern_count s p - 1) (type_first s (type_of s p)) 0)
      (pattern s (child s (pattern_first s p + (pattern_count s p - 1))) (type_of s p)) (pattern_count s p - 1)
      (many_along (pattern s) s (pattern_first s p) (pattern_count s p - 1) (type_first s (type_of s p)) 0)) u)
  by_kind Constructor e =
      let one : one_constructor s (type_of s p) ≡ false = not-true (one_constructor s (type_of s p)) (the_test Constructor e) in
      rw (pattern_byte (pattern_kind s p) Constructor e (omega arith), one) (of_constructor_lem s (pattern_zero s p) (pattern_a s p) (pattern_first s p) (pattern_count s p) u)
  by_kind Pair e = absurd (false≢true (the_test Pair e))
  by_kind Tuple e = absurd (false≢true (the_test Tuple e))
  by_kind Unknown e = absurd (false≢true (the_test Unknown e))

  pub covers_read_lem : covers_read s (record_of s p) u ≡ joins_case s (meant s u) p
  unfolding joins_case
  covers_read_lem = by_kind (pattern_kind_of (pattern_kind s p)) refl ∙ ap (λ (q : Pat). covers q (meant s u)) (sym (opens_as (pattern_kind_of (pattern_kind s p)) refl))

-- ---- as the code has them
module _ (s : List ℕ) (m : SheetMap) (c : SheetAccepts s m) (a n b k : ℕ) where
  pool_is : m.pool.start ≡ pool_at s
  pool_is = ap (λ (x : SheetMap). x.pool.start) c.is_map

  pub texts_not : a + n ≤ pool_size s → b + k ≤ pool_size s → (n ≡ k → ⊥) → false ≡ same_text (pool_text s a n) (pool_text s b k)
  unfolding pool_text
  texts_not x y h =
      sym (not_same_text (pool_text s a n) (pool_text s b k)
      (λ e. h (sym (length_text_at s (pool_at s + a) n (omega (arith, text_in c.ok.is_laid a n x))) ∙ ap length e
      ∙ length_text_at s (pool_at s + b) k (omega (arith, text_in c.ok.is_laid b k y)))))

  pub texts_are : (x : Bool) → n ≡ k → x ≡ same_text (text_at s (m.pool.start + a) n) (text_at s (m.pool.start + b) n) → x ≡ same_text (pool_text s a n) (pool_text s b k)
  unfolding pool_text
  texts_are x e f =
      f ∙ ap (λ (i : ℕ). same_text (text_at s (i + a) n) (text_at s (i + b) n)) pool_is
      ∙ ap (λ (l : ℕ). same_text (text_at s (pool_at s + a) n) (text_at s (pool_at s + b) l)) e

module _ {s : List ℕ} (ok : Accepted s) (p : ℕ) (k : TestKnown s p) (r : PatternRecord) (is : r ≡ record_of s p) where
  pub covers_by : (test : Test) (x : Bool) → x ≡ covers_read s r test → x ≡ joins_case s (meant s test) p
  covers_by test x e = e ∙ ap (λ (z : PatternRecord). covers_read s z test) is ∙ covers_read_lem ok p k test
