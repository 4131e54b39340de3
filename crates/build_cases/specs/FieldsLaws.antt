-- The laws of tests by their fields: a test gives its fields back, so that a comparison of fields, and of bytes in the pool, decides
-- whether two tests are the same; and the steps of the search. Rests on the laws of texts and of a sheet that is laid out.
use Rattle.std.specs.Prelude.{◌≡◌, Bool, List, eqb, get_or}
use Rattle.std.proofs.Math.Path.{refl, sym, ap}
use Rattle.std.proofs.Common.{ap₂, ◌∙◌, true≢false}
use Rattle.std.proofs.Math.Logic.{⊎_elim}
use Rattle.std.proofs.Math.Bool.{true, false}
use Prim.Native.Nat.{ℕ, zero, suc, ◌+◌, ◌-◌, ◌≤◌, ◌<◌}
use native.Mathlib.Omega.{arith}
use borrow.Author.Tests.{eqb-true, eqb-false, eq-eqb, ne_eqb}
use Rattle.std.proofs.Math.ListN.{length, drop}
use Rattle.base_words.specs.Words.{both, either, pick, text_at}
use Rattle.base_words.specs.WordsLaws.{length_text_at, texts_agree, texts_differ, both_true, both_false, either_false}
use Rattle.spec_rules.specs.Kinds.{int_case, bytes_case, list_with_tail_case}
use Rattle.spec_rules.specs.SheetFile.{pool_at, pool_size, pool_text}
use Rattle.spec_rules.specs.Splitting.{Test, Int, Bytes, test_fields, same_test}
use Rattle.spec_rules.specs.SplittingLaws.{same_test_sound, same_test_make}
use Rattle.spec_accepted.specs.SheetFacts.{Laid, text_inside}
use Rattle.spec_file.specs.Writable.{test_kind}
use Rattle.spec_file.specs.RecordsLaws.{test_number, test_length}
use Rattle.build_arena.specs.Arena.{case_kind, case_number, case_length}
use Rattle.format_records.specs.declared.reading.Test as tests
use Rattle.format_records.specs.Records.{kind_of, number_of, length_of}
use Rattle.build_cases.specs.declared.search.Fields.{Fields}
use Rattle.build_cases.specs.Fields.{fields_of, is_text, test_in, start_in, Fit, is_alike, has_test, first_where}

-- by kind
pub five : (P : ℕ → Type 0) → P 0 → P 1 → P 2 → P 3 → P 4 → (k : ℕ) → k ≤ 4 → P k
five P a b c d e zero h = a
five P a b c d e (suc zero) h = b
five P a b c d e (suc (suc zero)) h = c
five P a b c d e (suc (suc (suc zero))) h = d
five P a b c d e (suc (suc (suc (suc zero)))) h = e
five P a b c d e (suc (suc (suc (suc (suc k))))) h = absurd (omega arith)

-- ---- a test gives its fields back
module _ (s : List ℕ) (number len : ℕ) where
  pub kind_back : (kind : ℕ) → kind ≤ list_with_tail_case → test_kind (test_in s kind number len) ≡ kind
  unfolding test_in test_kind
  kind_back = five (λ k. test_kind (test_in s k number len) ≡ k) refl refl refl refl refl

  pub number_back : (kind : ℕ) → kind ≤ list_with_tail_case → test_number (start_in kind number) (test_in s kind number len) ≡ number
  unfolding test_in start_in test_number
  number_back = five (λ k. test_number (start_in k number) (test_in s k number len) ≡ number) refl refl refl refl refl

  plain_number : (kind : ℕ) → kind ≤ list_with_tail_case → is_text kind ≡ false → test_number 0 (test_in s kind number len) ≡ number
  unfolding test_in test_number
  plain_number = five (λ k. is_text k ≡ false → test_number 0 (test_in s k number len) ≡ number) (λ e. refl) (λ e. absurd (true≢false e)) (λ e. absurd (true≢false e)) (λ e. refl) (λ e. refl)

  pub length_back : Laid s → (kind : ℕ) → Fit s kind number len → test_length (test_in s kind number len) ≡ len
  unfolding test_in test_length pool_text
  length_back laid kind fit =
      five (λ k. Fit s k number len → test_length (test_in s k number len) ≡ len) (λ f. sym (f.plain refl)) (λ f. long (f.inside refl)) (λ f. long (f.inside refl))
      (λ f. sym (f.plain refl)) (λ f. sym (f.plain refl)) kind fit.known fit
    where
      long : number + len ≤ pool_size s → length (text_at s (pool_at s + number) len) ≡ len
      long h = length_text_at s (pool_at s + number) len (omega (arith, text_inside laid number len h))

  text_back : (kind : ℕ) → kind ≤ list_with_tail_case → is_text kind ≡ true → drop 1 (test_fields (test_in s kind number len)) ≡ text_at s (pool_at s + number) len
  unfolding test_in test_fields pool_text
  text_back =
      five (λ k. is_text k ≡ true → drop 1 (test_fields (test_in s k number len)) ≡ text_at s (pool_at s + number) len) (λ e. absurd (true≢false (sym e))) (λ e. refl) (λ e. refl)
      (λ e. absurd (true≢false (sym e))) (λ e. absurd (true≢false (sym e)))

-- a test from equal fields, or from an equal text
text_same : (s : List ℕ) (number start len kind : ℕ) → kind ≤ list_with_tail_case → is_text kind ≡ true → text_at s (pool_at s + number) len ≡ text_at s (pool_at s + start) len
    → test_in s kind number len ≡ test_in s kind start len
unfolding test_in pool_text
text_same s number start len kind h e t =
    five (λ k. is_text k ≡ true → test_in s k number len ≡ test_in s k start len) (λ e. absurd (true≢false (sym e))) (λ e. ap Int t) (λ e. ap Bytes t)
    (λ e. absurd (true≢false (sym e))) (λ e. absurd (true≢false (sym e))) kind h e

not_same : (t u : Test) → (t ≡ u → ⊥) → same_test t u ≡ false
not_same t u h = go (same_test t u) refl
  where
    go : (b : Bool) → same_test t u ≡ b → same_test t u ≡ false
    go true e = absurd (h (same_test_sound t u e))
    go false e = e

-- ---- what a comparison tells
module _ {s : List ℕ} (laid : Laid s) (w : List ℕ) (i : ℕ) {kind number len : ℕ} (fit : Fit s kind number len) (its : Fit s (case_kind w i) (case_number w i) (case_length w i)) where
  abbrev wanted : Test
  wanted = test_in s kind number len

  abbrev there : Test
  there = test_in s (case_kind w i) (case_number w i) (case_length w i)

  kinds : wanted ≡ there → kind ≡ case_kind w i
  kinds e = sym (kind_back s number len kind fit.known) ∙ ap test_kind e ∙ kind_back s (case_number w i) (case_length w i) (case_kind w i) its.known

  lengths : wanted ≡ there → len ≡ case_length w i
  lengths e = sym (length_back s number len laid kind fit) ∙ ap test_length e ∙ length_back s (case_number w i) (case_length w i) laid (case_kind w i) its

  pub other_kind : (case_kind w i ≡ kind → ⊥) → has_test s w kind number len i ≡ false
  unfolding has_test
  other_kind h = not_same wanted there (λ e. h (sym (kinds e)))

  pub other_length : (case_length w i ≡ len → ⊥) → has_test s w kind number len i ≡ false
  unfolding has_test
  other_length h = not_same wanted there (λ e. h (sym (lengths e)))

  pub other_number : is_text kind ≡ false → (case_number w i ≡ number → ⊥) → has_test s w kind number len i ≡ false
  unfolding has_test
  other_number plain h =
      not_same wanted there
      (λ e. h (sym (plain_number s (case_number w i) (case_length w i) (case_kind w i) its.known (ap is_text (sym (kinds e)) ∙ plain)) ∙ ap (test_number 0) (sym e) ∙ plain_number s number len kind fit.known plain))

  -- the parts of being alike
  module _ (alike : is_alike w i kind number len ≡ true) where
    same_kind : case_kind w i ≡ kind
    unfolding is_alike
    same_kind = eqb-true _ _ (both_true (eqb (case_kind w i) kind) _ alike).0

    rest : both (eqb (case_length w i) len) (either (is_text kind) (eqb (case_number w i) number)) ≡ true
    unfolding is_alike
    rest = (both_true (eqb (case_kind w i) kind) _ alike).1

    same_length : case_length w i ≡ len
    same_length = eqb-true _ _ (both_true (eqb (case_length w i) len) _ rest).0

    -- where there is a byte to compare, it is in the sheet
    pub byte_inside : (k : ℕ) → k < len → (pool_at s + case_number w i + k < length s) × (pool_at s + number + k < length s)
    byte_inside k h = go (is_text kind) refl
      where
        go : (b : Bool) → is_text kind ≡ b → (pool_at s + case_number w i + k < length s) × (pool_at s + number + k < length s)
        go true e =
            let a = its.inside (ap is_text same_kind ∙ e) in
            (omega (arith, same_length, text_inside laid (case_number w i) (case_length w i) a), omega (arith, text_inside laid number len (fit.inside e)))
        go false e = absurd (omega (arith, fit.plain e))

    pub other_byte : (k : ℕ) → k < len → (get_or s (pool_at s + case_number w i + k) 0 ≡ get_or s (pool_at s + number + k) 0 → ⊥) → has_test s w kind number len i ≡ false
    unfolding has_test
    other_byte k h n = go (is_text kind) refl
      where
        go : (b : Bool) → is_text kind ≡ b → same_test wanted there ≡ false
        go true e =
            not_same wanted there
            (λ x.
            texts_differ s s (pool_at s + case_number w i) (pool_at s + number) len k h n
            (ap (text_at s (pool_at s + case_number w i)) (sym same_length)
            ∙ sym (text_back s (case_number w i) (case_length w i) (case_kind w i) its.known (ap is_text same_kind ∙ e))
            ∙ ap (λ (t : Test). drop 1 (test_fields t)) (sym x)
            ∙ text_back s number len kind fit.known e))
        go false e = absurd (omega (arith, fit.plain e))

    pub same_bytes : ((k : ℕ) → k < len → get_or s (pool_at s + case_number w i + k) 0 ≡ get_or s (pool_at s + number + k) 0) → has_test s w kind number len i ≡ true
    unfolding has_test
    same_bytes h = same_test_make wanted there (sym (ap₂ (λ (a b : ℕ). test_in s a (case_number w i) b) same_kind same_length ∙ go (is_text kind) refl))
      where
        go : (b : Bool) → is_text kind ≡ b → test_in s kind (case_number w i) len ≡ test_in s kind number len
        go true e =
            let a = its.inside (ap is_text same_kind ∙ e) in
            text_same s (case_number w i) number len kind fit.known e
            (texts_agree s s (pool_at s + case_number w i) (pool_at s + number) len
            (omega (arith, same_length, text_inside laid (case_number w i) (case_length w i) a)) (omega (arith, text_inside laid number len (fit.inside e))) h)
        go false e =
            let n : either (is_text kind) (eqb (case_number w i) number) ≡ true = (both_true (eqb (case_length w i) len) _ rest).1 in
            ap (λ (a : ℕ). test_in s kind a len) (eqb-true _ _ (rw e at n))

  pub not_alike : is_alike w i kind number len ≡ false → has_test s w kind number len i ≡ false
  unfolding is_alike
  not_alike e =
      ⊎_elim (λ a. other_kind (eqb-false _ _ a))
      (λ b.
      ⊎_elim (λ c. other_length (eqb-false _ _ c)) (λ d. let (x, y) = either_false (is_text kind) (eqb (case_number w i) number) d in other_number x (eqb-false _ _ y))
      (both_false (eqb (case_length w i) len) (either (is_text kind) (eqb (case_number w i) number)) b))
      (both_false (eqb (case_kind w i) kind) (both (eqb (case_length w i) len) (either (is_text kind) (eqb (case_number w i) number))) e)

-- ---- the same, of what was read
-- the fields of a test, and what they were asked for
module _ (test : tests.Test) (f : Fields) (is : f ≡ fields_of test) where
  pub fields_fit : {s : List ℕ} → Fit s (kind_of test) (number_of test) (length_of test) → Fit s f.kind f.number f.len
  fields_fit h = rw is h

  pub fields_searched : (s w : List ℕ) (from n at : ℕ) → at ≡ first_where (has_test s w f.kind f.number f.len) from n
      → at ≡ first_where (has_test s w (kind_of test) (number_of test) (length_of test)) from n
  fields_searched s w from n at e = e ∙ ap (λ (g : Fields). first_where (has_test s w g.kind g.number g.len) from n) is

-- the last comparison of fields
pub alike_number : (w : List ℕ) (i kind number len k l n : ℕ) → k ≡ case_kind w i → k ≡ kind → l ≡ case_length w i → l ≡ len → (kind ≡ int_case → ⊥) → (kind ≡ bytes_case → ⊥) → n ≡ case_number w i
    → eqb n number ≡ is_alike w i kind number len
unfolding is_alike
alike_number w i kind number len k l n a b c d e f g =
    rw (eq-eqb (case_kind w i) kind (sym a ∙ b), eq-eqb (case_length w i) len (sym c ∙ d), ne_eqb kind int_case e, ne_eqb kind bytes_case f, ← g)

-- texts at `other` and at `start`
module _ {s : List ℕ} (laid : Laid s) (w : List ℕ) (i : ℕ) {kind number len : ℕ} (fit : Fit s kind number len) (its : Fit s (case_kind w i) (case_number w i) (case_length w i))
    (other start : ℕ) (is_other : other ≡ pool_at s + case_number w i) (is_start : start ≡ pool_at s + number) (alike : is_alike w i kind number len ≡ true) where
  pub read_inside : (k : ℕ) → k < len → (other + k < length s) × (start + k < length s)
  read_inside k h = let (a, b) = byte_inside laid w i fit its alike k h in (rw is_other a, rw is_start b)

  pub texts_same : ((k : ℕ) → k < len → get_or s (other + k) 0 ≡ get_or s (start + k) 0) → has_test s w kind number len i ≡ true
  texts_same h = same_bytes laid w i fit its alike (λ k l. rw (is_other, is_start) at (h k l))

  pub texts_other : (k : ℕ) → k < len → (get_or s (other + k) 0 ≡ get_or s (start + k) 0 → ⊥) → has_test s w kind number len i ≡ false
  texts_other k l n = other_byte laid w i fit its alike k l (rw (is_other, is_start) at n)

-- ---- the steps of the search
module _ (f : ℕ → Bool) (i to : ℕ) where
  first_next : i < to → first_where f i (to - i) ≡ pick (f i) i (first_where f (i + 1) (to - (i + 1)))
  unfolding first_where
  first_next h = let e : to - i ≡ suc (to - (i + 1)) = omega arith in rw e

  pub first_end : to ≤ i → first_where f i (to - i) ≡ i
  unfolding first_where
  first_end h = let e : to - i ≡ 0 = omega arith in rw e

  pub first_here : i < to → f i ≡ true → first_where f i (to - i) ≡ i
  first_here h e = rw (first_next h, e)

  pub first_past : i < to → f i ≡ false → first_where f (i + 1) (to - (i + 1)) ≡ first_where f i (to - i)
  first_past h e = rw (first_next h, e)
