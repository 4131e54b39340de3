-- The laws of what a row's test meets, from what the code reads of its pattern: by its kind it is rule 4's meeting of that row.
-- Rests on the laws by which patterns are read from a sheet.
use Rattle.std.specs.Prelude.{◌≡◌, refl, Bool, true, false, List, [], ◌∷◌, ◌++◌, map, eqb, leb, max, length, get_or, take}
use Rattle.std.proofs.Common.{sym, ◌∙◌, true≢false, take-suc, take_all}
use Rattle.std.proofs.Math.Path.{ap, ap₂}
use Prim.Native.Nat.{ℕ, suc, ◌+◌, ◌-◌, ◌≤◌, ◌<◌}
use native.Mathlib.Omega.{arith}
use Rattle.std.proofs.Math.Numerals.{add-one}
use borrow.Author.Tests.{le-leb, leb-true, leb-false, not-true}
use Rattle.base_words.specs.Words.{pick, Bytes as IsBytes}
use Rattle.base_words.specs.WordsLaws.{word_at_small}
use Rattle.spec_rules.specs.Kinds.{integer_pattern, byte_string_pattern, list_pattern, list_with_tail_pattern, constructor_pattern, constr_case, int_case, bytes_case, list_case, list_with_tail_case}
use Rattle.spec_rules.specs.SheetFile.{pattern_kind, pattern_a, pattern_first, pattern_count, pool_text, pool_size, type_first, constructor_first}
use Rattle.spec_rules.specs.Patterns.{PatternKind, Integer, ByteString, ListOfAll, ListWithRest, Constructor, pattern_kind_of, Mark, Pat, Pats, integer, bytestring, listed, tailed, constructor, many, one_constructor, decorated, constructor_of, along, of_kind, of_constructor, pattern}
use Rattle.spec_rules.specs.Splitting.{ListOf, Met, rising, joined, text_start, tailless_length, tailed_length, larger, longest, meet}
use Rattle.spec_match.specs.Depth.{is_tail, is_exact}
use Rattle.spec_accepted.specs.SheetFacts.{Accepted}
use Rattle.spec_accepted.specs.PatternsLaws.{pattern_of_kind, many_along}
use Rattle.format_sheet.specs.declared.SheetMap.{SheetMap}
use Rattle.format_sheet.specs.declared.records.PatternRecord.{PatternRecord}
use Rattle.format_sheet.specs.Records as records
use Rattle.build_arena.specs.Arena.{cases_most}
use Rattle.format_records.specs.declared.reading.Test as tests
use Rattle.format_records.specs.Records.{kind_of, number_of, length_of}
use Rattle.build_table.specs.Standing.{type_of, pattern_of}
use Rattle.format_sheet.specs.Check.{SheetAccepts}
use Rattle.build_table.specs.SeenLaws.{test_of_constructor, test_kind, test_kind_most}
use Rattle.build_matrix.specs.Ready.{TestKnown}
use Rattle.build_cases.specs.declared.tests.Longest.{Longest}
use Rattle.build_cases.specs.Passes.{tests, meet_row, meet_rows, up_to}
use Rattle.build_cases.specs.PassesLaws.{rise_more, pass_more, exact_integer, exact_bytestring, exact_listed, exact_constructor, exact_tailed, tail_tailed}
use Rattle.build_cases.specs.Fields.{is_text, test_in, start_in, Fit}
use Rattle.build_cases.specs.FieldsLaws.{five}
use Rattle.build_cases.specs.SoFar.{meet_one, Meets}
use Rattle.build_cases.specs.SoFarLaws.{meets_none, meets_as, meets_then}
use Rattle.build_cases.specs.Rows.{exact_test, Small, sort_of, list_test, arena_list_test, rise_to, meet_test, meet_tests, longest_of, longer}

larger_or : (b : Bool) (x n : ℕ) → pick b (larger x n) n ≡ larger (pick b x 0) n
unfolding larger
larger_or true x n = refl
larger_or false x n = rw (le-leb 0 n (omega arith))

larger_max : (x n : ℕ) → larger x n ≡ max n x
unfolding larger
larger_max x n = go (leb x n) refl
  where
    go : (b : Bool) → leb x n ≡ b → pick b n x ≡ max n x
    go true e = let h = leb-true x n e in omega arith
    go false e = let h = leb-false x n e in omega arith

-- the longest lengths, by kind
module _ (r : PatternRecord) (l : Longest) (n : ℕ) where
  pub longer_list : r.kind ≡ list_pattern → n ≡ max l.tailless (r.count + 1) → ◌≡◌ {A = Longest} (record { tailless = n; tails = l.tails }) (longer r l)
  longer_list e h = rw (e, larger_max (suc r.count) l.tailless, h, add-one r.count)

  pub longer_tailed : r.kind ≡ list_with_tail_pattern → n ≡ max l.tails r.count → ◌≡◌ {A = Longest} (record { tailless = l.tailless; tails = n }) (longer r l)
  longer_tailed e h = rw (e, larger_max r.count l.tails, h)

fit_text : (s : List ℕ) (kind number len : ℕ) → kind ≤ list_with_tail_case → is_text kind ≡ true → number + len ≤ pool_size s → Fit s kind number len
fit_text s kind number len known text inside = record { known = known; inside = λ e. inside; plain = λ e. absurd (true≢false (sym text ∙ e)) }

fit_plain : (s : List ℕ) (kind number : ℕ) → kind ≤ list_with_tail_case → is_text kind ≡ false → Fit s kind number 0
fit_plain s kind number known plain = record { known = known; inside = λ e. absurd (true≢false (sym e ∙ plain)); plain = λ e. refl }

-- ---- the pattern of a test by its kind
module _ {s : List ℕ} (ok : Accepted s) (p : ℕ) (k : TestKnown s p) where
  mark : Mark
  mark = record { number = p; type = type_of s p }

  by_kind : (kind : PatternKind) → pattern_kind_of (pattern_kind s p) ≡ kind → pattern_of s p ≡ of_kind (pattern s) s p (type_of s p) kind
  by_kind kind e = pattern_of_kind s ok.is_shaped ok.is_counted p (type_of s p) k.known kind e

  is_integer : pattern_kind s p ≡ integer_pattern → pattern_of s p ≡ integer mark (pattern_first s p) (pool_text s (pattern_first s p) (pattern_count s p))
  unfolding pattern_kind_of of_kind mark
  is_integer e = by_kind Integer (ap pattern_kind_of e)

  is_bytestring : pattern_kind s p ≡ byte_string_pattern → pattern_of s p ≡ bytestring mark (pattern_first s p) (pool_text s (pattern_first s p) (pattern_count s p))
  unfolding pattern_kind_of of_kind mark
  is_bytestring e = by_kind ByteString (ap pattern_kind_of e)

  -- a list has as many elements as its record says
  is_listed : pattern_kind s p ≡ list_pattern → (qs : Pats) × (pattern_of s p ≡ listed mark qs) × (many qs ≡ pattern_count s p)
  unfolding pattern_kind_of of_kind mark
  is_listed e = (
    along (pattern s) s (pattern_first s p) (pattern_count s p) (type_first s (type_of s p)) 0,
    by_kind ListOfAll (ap pattern_kind_of e),
    many_along (pattern s) s (pattern_first s p) (pattern_count s p) (type_first s (type_of s p)) 0,
  )

  is_tailed : pattern_kind s p ≡ list_with_tail_pattern → (qs : Pats) × (q : Pat) × (pattern_of s p ≡ tailed mark qs q) × (many qs ≡ pattern_count s p - 1)
  unfolding pattern_kind_of of_kind mark
  is_tailed e = (
    along (pattern s) s (pattern_first s p) (pattern_count s p - 1) (type_first s (type_of s p)) 0,
    _,
    by_kind ListWithRest (ap pattern_kind_of e),
    many_along (pattern s) s (pattern_first s p) (pattern_count s p - 1) (type_first s (type_of s p)) 0,
  )

  several : pattern_kind s p ≡ constructor_pattern → one_constructor s (type_of s p) ≡ false
  several e = not-true (one_constructor s (type_of s p)) (sym (test_of_constructor s p e) ∙ k.test)

  is_constructor : pattern_kind s p ≡ constructor_pattern → (qs : Pats) × (pattern_of s p ≡ constructor mark (pattern_a s p) qs)
  unfolding pattern_kind_of of_kind of_constructor mark
  is_constructor e =
      let qs = along (pattern s) s (pattern_first s p) (pattern_count s p) (constructor_first s (constructor_of s (type_of s p) (pattern_a s p))) 1 in
      (qs, by_kind Constructor (ap pattern_kind_of e) ∙ ap (of_constructor mark (pattern_a s p) (decorated s (type_of s p)) qs) (several e))

  -- a test is of one of five kinds
  of_kinds : (A : Type 0) → (pattern_kind s p ≡ integer_pattern → A) → (pattern_kind s p ≡ byte_string_pattern → A) → (pattern_kind s p ≡ list_pattern → A) → (pattern_kind s p ≡ list_with_tail_pattern → A) → (pattern_kind s p ≡ constructor_pattern → A) → A
  of_kinds A a b c d e =
      let low = test_kind s p k.test in
      let high = test_kind_most s p k.test in
      five (λ j. pattern_kind s p ≡ j + integer_pattern → A) a b c d e (pattern_kind s p - integer_pattern) (omega arith) (omega arith)

  -- its fields, where it has no tail
  pub exact_fit : (pattern_kind s p ≡ list_with_tail_pattern → ⊥) → Fit s (kind_of (exact_test (records.pattern_of s p))) (number_of (exact_test (records.pattern_of s p))) (length_of (exact_test (records.pattern_of s p)))
  exact_fit n =
      of_kinds (Fit s (kind_of (exact_test (records.pattern_of s p))) (number_of (exact_test (records.pattern_of s p))) (length_of (exact_test (records.pattern_of s p))))
      (λ e. rw e (fit_text s int_case (pattern_first s p) (pattern_count s p) (omega arith) refl (run (omega arith) (omega arith))))
      (λ e. rw e (fit_text s bytes_case (pattern_first s p) (pattern_count s p) (omega arith) refl (run (omega arith) (omega arith))))
      (λ e. rw e (fit_plain s list_case (pattern_count s p) (omega arith) refl))
      (λ e. absurd (n e))
      (λ e. rw e (fit_plain s constr_case (pattern_a s p) (omega arith) refl))
    where
      run : integer_pattern ≤ pattern_kind s p → pattern_kind s p ≤ byte_string_pattern → pattern_first s p + pattern_count s p ≤ pool_size s
      run low high = (ok.is_shaped.text_run p k.known low high).inside

  module _ (from tailless tails : ℕ) (ms : List Met) where
    -- without a tail it meets one case, of its own fields
    pub exact_meets : (pattern_kind s p ≡ list_with_tail_pattern → ⊥) → meet_one s from (exact_test (records.pattern_of s p)) ms ≡ up_to from (meet_row is_exact tailless tails ms (pattern_of s p))
    unfolding test_in start_in
    exact_meets n =
        of_kinds (meet_one s from (exact_test (records.pattern_of s p)) ms ≡ up_to from (meet_row is_exact tailless tails ms (pattern_of s p)))
        (λ e. rw (e, is_integer e) (ap (up_to from) (sym (exact_integer tailless tails ms mark (pattern_first s p) (pool_text s (pattern_first s p) (pattern_count s p))))))
        (λ e. rw (e, is_bytestring e) (ap (up_to from) (sym (exact_bytestring tailless tails ms mark (pattern_first s p) (pool_text s (pattern_first s p) (pattern_count s p))))))
        (λ e.
        let (qs, x, y) = is_listed e in
        rw (e, x) (ap (up_to from) (sym (exact_listed tailless tails ms mark qs ∙ ap (λ (n : ℕ). meet 0 ms (ListOf n ∷ [])) y))))
        (λ e. absurd (n e))
        (λ e. let (qs, x) = is_constructor e in rw (e, x) (ap (up_to from) (sym (exact_constructor tailless tails ms mark (pattern_a s p) qs))))

    -- and no case with a tail
    pub exact_no_tail : (pattern_kind s p ≡ list_with_tail_pattern → ⊥) → meet_row is_tail tailless tails ms (pattern_of s p) ≡ ms
    unfolding meet_row joined tests text_start is_tail meet
    exact_no_tail n =
        of_kinds (meet_row is_tail tailless tails ms (pattern_of s p) ≡ ms)
        (λ e. rw (is_integer e)) (λ e. rw (is_bytestring e)) (λ e. rw (is_listed e).1) (λ e. absurd (n e)) (λ e. rw (is_constructor e).1)

    -- with a tail it meets rising cases
    pub tailed_meets : (tail : Bool) (l : Longest) → pattern_kind s p ≡ list_with_tail_pattern
        → rise_to from tail (pattern_count s p - 1) (pick tail l.tails l.tailless - (pattern_count s p - 1)) ms ≡ meet_test s from tail l p ms
    tailed_meets true l e =
        let (qs, q, x, y) = is_tailed e in
        rw (x, ← y) (ap (up_to from) (sym (tail_tailed l.tailless l.tails ms mark qs q)))
    tailed_meets false l e =
        let (qs, q, x, y) = is_tailed e in
        rw (x, ← y) (ap (up_to from) (sym (exact_tailed l.tailless l.tails ms mark qs q)))

  -- ---- one pattern more of the longest lengths
  pub tailless_length_lem : tailless_length (pattern_of s p) ≡ pick (eqb (pattern_kind s p) list_pattern) (suc (pattern_count s p)) 0
  unfolding tailless_length
  tailless_length_lem =
      of_kinds (tailless_length (pattern_of s p) ≡ pick (eqb (pattern_kind s p) list_pattern) (suc (pattern_count s p)) 0)
      (λ e. rw (e, is_integer e)) (λ e. rw (e, is_bytestring e)) (λ e. rw (e, (is_listed e).1) (ap suc (is_listed e).2)) (λ e. rw (e, (is_tailed e).2)) (λ e. rw (e, (is_constructor e).1))

  pub tailed_length_lem : tailed_length (pattern_of s p) ≡ pick (eqb (pattern_kind s p) list_with_tail_pattern) (pattern_count s p) 0
  unfolding tailed_length
  tailed_length_lem =
      of_kinds (tailed_length (pattern_of s p) ≡ pick (eqb (pattern_kind s p) list_with_tail_pattern) (pattern_count s p) 0)
      (λ e. rw (e, is_integer e)) (λ e. rw (e, is_bytestring e)) (λ e. rw (e, (is_listed e).1))
      (λ e.
      let two = ok.is_shaped.tail_after_some p k.known e in
      rw (e, (is_tailed e).2) (omega (arith, (is_tailed e).3)))
      (λ e. rw (e, (is_constructor e).1))

  pub longest_more : (r : PatternRecord) (l : Longest) (ps : List ℕ) → r ≡ records.pattern_of s p → l ≡ longest_of s ps → longer r l ≡ longest_of s (p ∷ ps)
  unfolding longest
  longest_more r l ps e f =
      ap₂ longer e f
      ∙ (λ i. record {
        tailless = (larger_or (eqb (pattern_kind s p) list_pattern) (suc (pattern_count s p)) (longest tailless_length (map (pattern_of s) ps)) ∙ ap (λ (n : ℕ). larger n (longest tailless_length (map (pattern_of s) ps))) (sym tailless_length_lem)) i;
        tails = (larger_or (eqb (pattern_kind s p) list_with_tail_pattern) (pattern_count s p) (longest tailed_length (map (pattern_of s) ps)) ∙ ap (λ (n : ℕ). larger n (longest tailed_length (map (pattern_of s) ps))) (sym tailed_length_lem)) i;
      })

-- ---- rising cases, one after the other
list_fit : (s : List ℕ) (tail : Bool) (i : ℕ) → Fit s (kind_of (arena_list_test tail i)) (number_of (arena_list_test tail i)) (length_of (arena_list_test tail i))
list_fit s true i = fit_plain s list_with_tail_case i (omega arith) refl
list_fit s false i = fit_plain s list_case i (omega arith) refl

pub rise_fit : (s : List ℕ) (tail : Bool) (i : ℕ) (test : tests.Test) → test ≡ arena_list_test tail i → Fit s (kind_of test) (number_of test) (length_of test)
rise_fit s tail i test e = rw e (list_fit s tail i)

list_met : (s : List ℕ) (from : ℕ) (tail : Bool) (i : ℕ) (ms : List Met) → meet_one s from (arena_list_test tail i) ms ≡ up_to from (meet 0 ms (list_test tail i ∷ []))
unfolding test_in start_in
list_met s from true i ms = refl
list_met s from false i ms = refl

module _ {s w : List ℕ} {from to : ℕ} (tail : Bool) (k : ℕ) where
  pub rise_none : Meets s w from to (rise_to from tail k (k - k)) to w
  unfolding rising meet
  rise_none = let e : k - k ≡ 0 = omega arith in meets_none (λ ms. meet 0 ms (rising (list_test tail) k (k - k))) (λ ms. rw e)

  pub rise_one : (i : ℕ) (test : tests.Test) → k ≤ i → test ≡ arena_list_test tail i → {mid : ℕ} {w₁ : List ℕ} {next : ℕ} {w' : List ℕ}
      → Meets s w from to (rise_to from tail k (i - k)) mid w₁ → Meets s w₁ from mid (meet_one s from test) next w' → Meets s w from to (rise_to from tail k (i + 1 - k)) next w'
  rise_one i test h e a b =
      meets_as (λ ms. meet_one s from test (rise_to from tail k (i - k) ms)) (rise_to from tail k (i + 1 - k))
      (λ ms.
      ap (λ (u : tests.Test). meet_one s from u (rise_to from tail k (i - k) ms)) e ∙ list_met s from tail i (rise_to from tail k (i - k) ms)
      ∙ rise_more (cases_most - from) 0 ms (list_test tail) k i h)
      (meets_then (rise_to from tail k (i - k)) (meet_one s from test) a b)

  pub rise_ends : (i end : ℕ) → end ≤ i → k ≤ i → i - k ≤ end - k → {next : ℕ} {w' : List ℕ} → Meets s w from to (rise_to from tail k (i - k)) next w' → Meets s w from to (rise_to from tail k (end - k)) next w'
  rise_ends i end h l n a = let e : end - k ≡ i - k = omega arith in rw e a

-- ---- a row, by what was read of its pattern
pub longest_small : (l : Longest) (tail : Bool) (end : ℕ) → end ≡ pick tail l.tails l.tailless → l.tailless ≤ 65536 → l.tails ≤ 65536 → end ≤ 65536
longest_small l true end e a b = omega arith
longest_small l false end e a b = omega arith

pub record_small : {s : List ℕ} → IsBytes s → (p : ℕ) (r : PatternRecord) → r ≡ records.pattern_of s p → Small r
unfolding pattern_a pattern_first pattern_count
record_small bytes p r e = rw e (record { a_small = word_at_small bytes _; first_small = word_at_small bytes _; count_small = word_at_small bytes _ })

module _ {s : List ℕ} {m : SheetMap} (c : SheetAccepts s m) (p : ℕ) (k : TestKnown s p) (r : PatternRecord) (is : r ≡ records.pattern_of s p) where
  kind_is : r.kind ≡ pattern_kind s p
  kind_is = ap (λ (x : PatternRecord). x.kind) is

  count_is : r.count ≡ pattern_count s p
  count_is = ap (λ (x : PatternRecord). x.count) is

  pub row_elements : r.kind ≡ list_with_tail_pattern → 2 ≤ r.count
  row_elements e = rw count_is (c.ok.is_shaped.tail_after_some p k.known (sym kind_is ∙ e))

  pub row_fit : (r.kind ≡ list_with_tail_pattern → ⊥) → (test : tests.Test) → test ≡ exact_test r → Fit s (kind_of test) (number_of test) (length_of test)
  row_fit n test e = rw (e ∙ ap exact_test is) (exact_fit c.ok p k (λ x. n (kind_is ∙ x)))

  module _ {w : List ℕ} {from to : ℕ} (tail : Bool) (l : Longest) {next : ℕ} {w' : List ℕ} where
    pub row_rises : r.kind ≡ list_with_tail_pattern → (end : ℕ) → end ≡ pick tail l.tails l.tailless → Meets s w from to (rise_to from tail (r.count - 1) (end - (r.count - 1))) next w'
        → Meets s w from to (meet_test s from tail l p) next w'
    row_rises e end f a =
        meets_as (rise_to from tail (r.count - 1) (end - (r.count - 1))) (meet_test s from tail l p)
        (λ ms.
        ap₂ (λ (n z : ℕ). rise_to from tail (n - 1) (z - (n - 1)) ms) count_is f
        ∙ tailed_meets c.ok p k from l.tailless l.tails ms tail l (sym kind_is ∙ e)) a

    pub row_meets : (r.kind ≡ list_with_tail_pattern → ⊥) → tail ≡ false → (test : tests.Test) → test ≡ exact_test r → Meets s w from to (meet_one s from test) next w'
        → Meets s w from to (meet_test s from tail l p) next w'
    row_meets n f test e a =
        meets_as (meet_one s from test) (meet_test s from tail l p)
        (λ ms.
        ap (λ (u : tests.Test). meet_one s from u ms) (e ∙ ap exact_test is) ∙ exact_meets c.ok p k from l.tailless l.tails ms (λ x. n (kind_is ∙ x))
        ∙ ap (λ (b : Bool). meet_test s from b l p ms) (sym f)) a

  pub row_meets_none : {w : List ℕ} {from to : ℕ} (tail : Bool) (l : Longest) → (r.kind ≡ list_with_tail_pattern → ⊥) → tail ≡ true → Meets s w from to (meet_test s from tail l p) to w
  row_meets_none tail l n f =
      meets_none (λ ms. meet_row (sort_of tail) l.tailless l.tails ms (pattern_of s p))
      (λ ms. ap (λ (b : Bool). meet_row (sort_of b) l.tailless l.tails ms (pattern_of s p)) f ∙ exact_no_tail c.ok p k 0 l.tailless l.tails ms (λ x. n (kind_is ∙ x)))

-- ---- the pass, one row after the other
map_more : (f : ℕ → Pat) (xs : List ℕ) (x : ℕ) → map f (xs ++ x ∷ []) ≡ map f xs ++ f x ∷ []
map_more f [] x = refl
map_more f (y ∷ xs) x = ap (λ (qs : List Pat). f y ∷ qs) (map_more f xs x)

module _ {s w : List ℕ} {from to : ℕ} (tail : Bool) (l : Longest) (ps : List ℕ) where
  pub pass_none : Meets s w from to (meet_tests s from tail l (take 0 ps)) to w
  unfolding meet_rows
  pass_none = meets_none (λ ms. ms) (λ ms. refl)

  pub pass_one : (i : ℕ) → i < length ps → (p : ℕ) → p ≡ get_or ps i 0 → {mid : ℕ} {w₁ : List ℕ} {next : ℕ} {w' : List ℕ}
      → Meets s w from to (meet_tests s from tail l (take i ps)) mid w₁ → Meets s w₁ from mid (meet_test s from tail l p) next w'
      → Meets s w from to (meet_tests s from tail l (take (i + 1) ps)) next w'
  pass_one i h p is a b =
      meets_as (λ ms. meet_test s from tail l p (meet_tests s from tail l (take i ps) ms)) (meet_tests s from tail l (take (i + 1) ps))
      (λ ms.
      pass_more (cases_most - from) (sort_of tail) l.tailless l.tails ms (map (pattern_of s) (take i ps)) (pattern_of s p)
      ∙ ap (λ (qs : List Pat). up_to from (meet_rows (sort_of tail) l.tailless l.tails ms qs))
      (sym (ap (map (pattern_of s)) (ap (λ (n : ℕ). take n ps) (add-one i) ∙ take-suc ps i 0 h) ∙ map_more (pattern_of s) (take i ps) (get_or ps i 0)
      ∙ ap (λ (q : ℕ). map (pattern_of s) (take i ps) ++ pattern_of s q ∷ []) (sym is))))
      (meets_then (meet_tests s from tail l (take i ps)) (meet_test s from tail l p) a b)

  pub pass_ends : (i : ℕ) → length ps ≤ i → {next : ℕ} {w' : List ℕ} → Meets s w from to (meet_tests s from tail l (take i ps)) next w' → Meets s w from to (meet_tests s from tail l ps) next w'
  pass_ends i e a = rw (take_all i ps e) at a
