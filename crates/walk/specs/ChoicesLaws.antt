-- Laws of what a switch asks for and what a part shows, and of the search of a run of cases of one kind.
-- Rests on Choices, and on the facts of an accepted tree and an accepted panel.
use Rattle.std.specs.Prelude.{◌≡◌, Bool, Option as Chosen, Some, List, ℕ, zero, suc, ◌+◌, ◌-◌, ◌≤◌, ◌<◌, max, eqb, leb, length}
use Rattle.std.specs.Option.{ForSome}
use Rattle.std.proofs.Math.Path.{refl, ap}
use Rattle.std.proofs.Common.{sym, ◌∙◌, ne_eqb, leb-true, leb-false}
use Rattle.std.proofs.Math.Bool.{true, false}
use Rattle.std.proofs.Math.Option.{Option, none, some}
use native.Mathlib.Omega.{arith}
use Rattle.base_words.specs.Words.{text_at, both, pick, same_text}
use Rattle.base_words.specs.WordsLaws.{length_text_at, not_same_text}
use Rattle.spec_rules.specs.Kinds.{integer_record, bytes_record, constructor_record, constr_case, int_case, bytes_case, list_case, list_with_tail_case}
use Rattle.spec_rules.specs.Searching.{lowest}
use Rattle.spec_rules.specs.Found.{found}
use Rattle.spec_rules.specs.SearchingLaws.{lowest_some, lowest_agree}
use Rattle.spec_rules.specs.Splitting.{Test, Constr, Int, Bytes, ListOf, ListWithTail, test_fields, same_test}
use Rattle.spec_rules.specs.Building.{Tree, Cases, ccons}
use Rattle.spec_rules.specs.PanelFile.{records, record_kind, record_text, RecordKind, Integer_record, Bytes_record, List_record, Pair_record, Tuple_record, Constructor_record, Unknown_record, record_kind_of}
use Rattle.spec_rules.specs.TreeReader.{case_kind, case_number, case_length, case_text, CaseKind, Constr_case, Int_case, Bytes_case, List_case, List_with_tail_case, Unknown_case, case_kind_of, test_of_kind, case_test, cases_for}
use Rattle.spec_rules.specs.Walking.{Position as Place, shown, shown_at, test_kind, tail_number, largest_tail}
use Rattle.spec_accepted.specs.KindsLaws.{record_byte, case_kind_number, case_byte, byte_case, unknown_case}
use Rattle.spec_accepted.specs.TreeFacts.{cases_for_some}
use Rattle.spec_accepted.specs.PanelFacts.{PanelShaped}
use Rattle.format_panel.specs.declared.PanelMap.{PanelMap}
use Rattle.format_panel.specs.declared.records.Record.{Record}
use Rattle.format_panel.specs.Opened.{record_of, Opened}
use Rattle.format_records.specs.Records.{test_from}
use Rattle.format_tree.specs.Reading.{test_of}
use Rattle.walk.specs.Choices.{asked_by, AllKind, AllText, first_case, first_numbered, first_text, text_test}

-- ---- the kind of record that a switch asks for, by the kind of its first case
abbrev pub asked_for : ℕ → ℕ
asked_for zero = constructor_record
asked_for (suc c) = c

module _ (t : List ℕ) (i : ℕ) (h : case_kind t i ≤ bytes_case) where
  pub asked_is : asked_by (test_of t i) ≡ asked_for (case_kind t i)
  unfolding test_of test_from
  asked_is = go (case_kind_of (case_kind t i)) refl
    where
      go : (kind : CaseKind) → case_kind_of (case_kind t i) ≡ kind → asked_by (test_from (case_kind_of (case_kind t i)) (case_number t i) (case_length t i)) ≡ asked_for (case_kind t i)
      go Constr_case e = let k = case_byte (case_kind t i) Constr_case e (omega arith) in rw (e, k)
      go Int_case e = let k = case_byte (case_kind t i) Int_case e (omega arith) in rw (e, k)
      go Bytes_case e = let k = case_byte (case_kind t i) Bytes_case e (omega arith) in rw (e, k)
      go List_case e = absurd (omega (arith, case_byte (case_kind t i) List_case e (omega arith)))
      go List_with_tail_case e = absurd (omega (arith, case_byte (case_kind t i) List_with_tail_case e (omega arith)))
      go Unknown_case e = absurd (omega (arith, unknown_case (case_kind t i) e))

  pub constr_asked : asked_by (test_of t i) ≡ constructor_record → case_kind t i ≡ constr_case
  constr_asked e = go (case_kind t i) h (sym asked_is ∙ e)
    where
      go : (c : ℕ) → c ≤ bytes_case → asked_for c ≡ constructor_record → c ≡ constr_case
      go zero l q = refl
      go (suc c) l q = absurd (omega arith)

  -- an integer's text or a byte string's
  pub text_asked : (asked_by (test_of t i) ≡ constructor_record → ⊥) → (integer : Bool) × (case_kind t i ≡ pick integer int_case bytes_case) × (asked_by (test_of t i) ≡ pick integer integer_record bytes_record)
  text_asked n = go (case_kind t i) h refl
    where
      go : (c : ℕ) → c ≤ bytes_case → case_kind t i ≡ c → (integer : Bool) × (case_kind t i ≡ pick integer int_case bytes_case) × (asked_by (test_of t i) ≡ pick integer integer_record bytes_record)
      go zero l q = absurd (n (asked_is ∙ ap asked_for q))
      go (suc zero) l q = (true, q, asked_is ∙ ap asked_for q)
      go (suc (suc zero)) l q = (false, q, asked_is ∙ ap asked_for q)
      go (suc (suc (suc c))) l q = absurd (omega arith)

  pub texts_asked : (asked_by (test_of t i) ≡ constructor_record → ⊥) → (n : ℕ) → AllKind t (case_kind t i) i n → (asked_by (test_of t i) ≤ bytes_record) × AllText t i n
  texts_asked other n alike = let w = text_asked other in go w.0 w.1 w.2
    where
      go : (integer : Bool) → case_kind t i ≡ pick integer int_case bytes_case → asked_by (test_of t i) ≡ pick integer integer_record bytes_record → (asked_by (test_of t i) ≤ bytes_record) × AllText t i n
      go true k a = (omega arith, λ j low high. let e = alike j low high in (omega arith, omega arith))
      go false k a = (omega arith, λ j low high. let e = alike j low high in (omega arith, omega arith))

-- ---- what a part shows, whose record was read as x
-- a part shows what cases of a kind ask
abbrev pub of_kind : Option Test → ℕ → Bool
of_kind none kind = false
of_kind (some x) kind = eqb (test_kind x) kind

module _ (v : List ℕ) (p : Place) (x : Record) (is : x ≡ record_of v p.place) where
  kind_is : record_kind v p.place ≡ x.kind
  kind_is = sym (ap (λ (y : Record). y.kind) is)

  pub shown_constr : x.kind ≡ constructor_record → shown_at v p ≡ some (Constr x.a)
  unfolding shown_at shown record_kind_of
  shown_constr k = let a = ap (λ (y : Record). y.a) is in rw (kind_is, k, a)

  pub shown_other : (c : ℕ) → (x.kind ≡ asked_for c → ⊥) → of_kind (shown_at v p) c ≡ false
  unfolding shown_at shown test_kind
  shown_other c h = go (record_kind_of (record_kind v p.place)) refl
    where
      go : (kind : RecordKind) → record_kind_of (record_kind v p.place) ≡ kind → of_kind (shown v p.place (record_kind_of (record_kind v p.place))) c ≡ false
      go Integer_record e = rw e (ne_eqb 1 c (λ q. h (sym kind_is ∙ record_byte _ Integer_record e (omega arith) ∙ ap asked_for q)))
      go Bytes_record e = rw e (ne_eqb bytes_case c (λ q. h (sym kind_is ∙ record_byte _ Bytes_record e (omega arith) ∙ ap asked_for q)))
      go List_record e = rw e
      go Pair_record e = rw e
      go Tuple_record e = rw e
      go Constructor_record e = rw e (ne_eqb 0 c (λ q. h (sym kind_is ∙ record_byte _ Constructor_record e (omega arith) ∙ ap asked_for q)))
      go Unknown_record e = rw e

  module _ (n : PanelMap) (opened : Opened v n) where
    text_is : record_text v p.place ≡ text_at v (n.pool.start + x.first) x.count
    unfolding record_text
    text_is =
        let f = ap (λ (y : Record). y.first) is in
        let c = ap (λ (y : Record). y.count) is in
        let a = opened.pool_at in
        rw (a, f, c)

    pub shown_text : (integer : Bool) → x.kind ≡ pick integer integer_record bytes_record → shown_at v p ≡ some (text_test integer (text_at v (n.pool.start + x.first) x.count))
    unfolding shown_at shown record_kind_of
    shown_text true k = rw (kind_is, k, text_is)
    shown_text false k = rw (kind_is, k, text_is)

    pub text_inside : PanelShaped v → p.place < records v → x.kind ≤ bytes_record → n.pool.start + x.first + x.count ≤ length v
    text_inside shaped h k =
        let q = kind_is in
        let f = ap (λ (y : Record). y.first) is in
        let c = ap (λ (y : Record). y.count) is in
        omega (arith, (shaped.text_run p.place h (omega arith)).inside, opened.pool_at, opened.laid.pool_end_holds, opened.laid.trailer_end)

-- ---- the test of a case of a known kind
test_of_lem : (t : List ℕ) (i : ℕ) (kind : CaseKind) → case_kind t i ≡ case_kind_number kind → test_of_kind t i kind ≡ case_test t i
unfolding case_test
test_of_lem t i kind e = ap (test_of_kind t i) (sym (byte_case (case_kind t i) kind e))

only_this : (a : Bool) → a ≡ both a true
only_this true = refl
only_this false = refl

module _ (t : List ℕ) (i : ℕ) where
  constr_same : (a : ℕ) → case_kind t i ≡ constr_case → eqb a (case_number t i) ≡ same_test (Constr a) (case_test t i)
  unfolding same_test same_text test_fields test_of_kind
  constr_same a k = only_this (eqb a (case_number t i)) ∙ ap (same_test (Constr a)) (test_of_lem t i Constr_case k)

  list_same : (a : ℕ) → case_kind t i ≡ list_case → eqb a (case_number t i) ≡ same_test (ListOf a) (case_test t i)
  unfolding same_test same_text test_fields test_of_kind
  list_same a k = only_this (eqb a (case_number t i)) ∙ ap (same_test (ListOf a)) (test_of_lem t i List_case k)

  tail_same : (a : ℕ) → case_kind t i ≡ list_with_tail_case → eqb a (case_number t i) ≡ same_test (ListWithTail a) (case_test t i)
  unfolding same_test same_text test_fields test_of_kind
  tail_same a k = only_this (eqb a (case_number t i)) ∙ ap (same_test (ListWithTail a)) (test_of_lem t i List_with_tail_case k)

  text_same : (integer : Bool) (w : List ℕ) → case_kind t i ≡ pick integer int_case bytes_case → same_text w (case_text t i) ≡ same_test (text_test integer w) (case_test t i)
  unfolding same_test same_text test_fields test_of_kind
  text_same true w k = ap (same_test (Int w)) (test_of_lem t i Int_case k)
  text_same false w k = ap (same_test (Bytes w)) (test_of_lem t i Bytes_case k)

  pub tail_number_of : (n : ℕ) → case_kind t i ≡ list_with_tail_case → tail_number n (ListWithTail (case_number t i)) ≡ tail_number n (case_test t i)
  unfolding test_of_kind
  tail_number_of n k = ap (tail_number n) (test_of_lem t i List_with_tail_case k)

-- ---- the search of a run of one kind is that of a test
module _ (t : List ℕ) (i n : ℕ) where
  pub numbered_constr : (a : ℕ) → AllKind t 0 i n → first_numbered t a i n ≡ first_case t (Constr a) i n
  numbered_constr a k = lowest_agree (λ j. eqb a (case_number t j)) (λ j. same_test (Constr a) (case_test t j)) i n (λ j low high. constr_same t j a (k j low high))

  pub numbered_list : (a : ℕ) → AllKind t list_case i n → first_numbered t a i n ≡ first_case t (ListOf a) i n
  numbered_list a k = lowest_agree (λ j. eqb a (case_number t j)) (λ j. same_test (ListOf a) (case_test t j)) i n (λ j low high. list_same t j a (k j low high))

  pub numbered_tail : (a : ℕ) → AllKind t list_with_tail_case i n → first_numbered t a i n ≡ first_case t (ListWithTail a) i n
  numbered_tail a k =
      lowest_agree (λ j. eqb a (case_number t j)) (λ j. same_test (ListWithTail a) (case_test t j)) i n (λ j low high. tail_same t j a (k j low high))

  pub text_first : (integer : Bool) (w : List ℕ) → AllKind t (pick integer int_case bytes_case) i n → first_text t w i n ≡ first_case t (text_test integer w) i n
  text_first integer w k =
      lowest_agree (λ j. same_text w (case_text t j)) (λ j. same_test (text_test integer w) (case_test t j)) i n (λ j low high. text_same t j integer w (k j low high))

-- the place that a search of a run answers is one of the run
pub found_in : (f : ℕ → Bool) (i n count : ℕ) (chosen : Chosen ℕ) → i + n ≤ count → chosen ≡ found (lowest f i n) → ForSome chosen (λ j. j < count)
found_in f i n count chosen inside e x q = go (lowest f i n) refl (sym e ∙ q)
  where
    go : (o : Option ℕ) → lowest f i n ≡ o → found o ≡ Some x → x < count
    go none w r = let z : ◌≡◌ {A = ℕ} 0 1 = cc in absurd (omega arith)
    go (some j) w r = let k : j ≡ x = cc in omega (arith, inside, (lowest_some f i n j w).to)

-- texts of two lengths differ
pub lengths_differ : (v t : List ℕ) (i n j m : ℕ) → i + n ≤ length v → j + m ≤ length t → (n ≡ m → ⊥) → false ≡ same_text (text_at v i n) (text_at t j m)
lengths_differ v t i n j m a b h =
    sym (not_same_text (text_at v i n) (text_at t j m)
    (λ e. h (sym (length_text_at v i n a) ∙ ap length e ∙ length_text_at t j m b)))

-- ---- the largest tail
largest_max : (n : ℕ) (u : Test) (at : ℕ) (a : Tree) (cs : Cases) → largest_tail n (ccons u at a cs) ≡ max (tail_number n u) (largest_tail n cs)
unfolding largest_tail
largest_max n u at a cs = go (leb (tail_number n u) (largest_tail n cs)) refl
  where
    go : (b : Bool) → leb (tail_number n u) (largest_tail n cs) ≡ b
        → (elim b [ true ↦ largest_tail n cs | false ↦ tail_number n u ]) ≡ max (tail_number n u) (largest_tail n cs)
    go true e = let l = leb-true (tail_number n u) (largest_tail n cs) e in omega arith
    go false e = let l = leb-false (tail_number n u) (largest_tail n cs) e in omega arith

module _ (t : List ℕ) (n : ℕ) (f : ℕ → Tree) where
  pub largest_start : (i m : ℕ) → max 0 (largest_tail n (cases_for f t (i + 0) (m - 0))) ≡ largest_tail n (cases_for f t i m)
  largest_start i m =
      let a : i + 0 ≡ i = omega arith in
      let b : m - 0 ≡ m = omega arith in
      let z : max 0 (largest_tail n (cases_for f t i m)) ≡ largest_tail n (cases_for f t i m) = omega arith in
      rw (a, b) z

  pub largest_on : (i j m best number next : ℕ) → j < m → number ≡ tail_number n (case_test t (i + j)) → next ≡ max best number
      → max next (largest_tail n (cases_for f t (i + (j + 1)) (m - (j + 1)))) ≡ max best (largest_tail n (cases_for f t (i + j) (m - j)))
  largest_on i j m best number next h e larger =
      let a : i + (j + 1) ≡ i + j + 1 = omega arith in
      let b : m - (j + 1) ≡ m - j - 1 = omega arith in
      let c = cases_for_some f t (i + j) (m - j) (λ z. omega arith) in
      let d : largest_tail n (cases_for f t (i + j) (m - j)) ≡ max (tail_number n (case_test t (i + j))) (largest_tail n (cases_for f t (i + j + 1) (m - j - 1)))
      = ap (largest_tail n) c ∙ largest_max n (case_test t (i + j)) _ _ _ in
      rw (a, b) (omega (arith, d, e))

  pub largest_end : (i j m best : ℕ) → m ≤ j → best ≡ max best (largest_tail n (cases_for f t (i + j) (m - j)))
  unfolding cases_for largest_tail
  largest_end i j m best h = let a : m - j ≡ 0 = omega arith in rw a (omega arith)
