-- What finding a class, its indices and the order of two paths computes on the bytes of a table, as the code's loops and branches do.
-- Rests on Table, the laws of searches and the laws of stores.
use Rattle.std.specs.Prelude.{◌≡◌, Bool, true, false, List, [], ◌∷◌, ◌++◌, Some, eqb, length, set, take, drop}
use Rattle.std.proofs.Math.Path.{refl, sym, ap, ap₂}
use Rattle.std.proofs.Common.{◌∙◌, add-one, length-set}
use Rattle.std.proofs.Math.Bool.{not}
use Rattle.std.proofs.Math.Option.{Option as Lowest, none, some}
use Rattle.std.specs.Option.{unwrap_or}
use Rattle.std.specs.Ordering.{is_lt, is_some_and, nat_cmp}
use Rattle.std.specs.Cmp.Lexicographic.{slice_partial_cmp}
use Rattle.std.proofs.lemmas.Bool.Decides.{nat_tests}
use Rattle.std.proofs.lemmas.Cmp.{same_from_slice_cmp_tested}
use Prim.Native.Nat.{ℕ, zero, suc, ◌+◌, ◌-◌, ◌*◌, ◌≤◌, ◌<◌}
use native.Mathlib.Omega.{arith}
use Rattle.std.proofs.Math.Nat.{sub-zero}
use borrow.Author.Tests.{eq-eqb, ne_eqb}
use Rattle.std.proofs.Math.ListN.{get_or}
use Rattle.base_words.specs.Words.{both, text_at}
use Rattle.base_words.specs.WordsLaws.{pick_true, pick_false, length_text_at}
use Rattle.base_words.specs.Stored.{stored}
use Rattle.base_words.specs.StoredLaws.{set_stored, stored_append, stored_is}
use Rattle.spec_rules.specs.Limits.{patterns_most, depth_most}
use Rattle.spec_rules.specs.Kinds.{data_type, integer_pattern, list_with_tail_pattern, constructor_pattern}
use Rattle.spec_rules.specs.SheetFile.{subject, patterns, root}
use Rattle.spec_rules.specs.Patterns.{one_constructor}
use Rattle.format_sheet.specs.declared.SheetMap.{SheetMap}
use Rattle.format_sheet.specs.declared.records.PatternRecord.{PatternRecord}
use Rattle.format_sheet.specs.declared.records.TypeRecord.{TypeRecord}
use Rattle.format_sheet.specs.Records.{pattern_of, type_of as type_of_record}
use Rattle.spec_rules.specs.Searching.{lowest}
use Rattle.spec_rules.specs.Found.{found}
use Rattle.spec_rules.specs.SearchingLaws.{lowest_some, lowest_on}
use Rattle.build_table.specs.Standing.{or_self, type_of, is_test}
use Rattle.build_table.specs.StandingLaws.{clause_known}
use Rattle.build_table.specs.ClassLaws.{class_below}
use Rattle.build_table.specs.SeenLaws.{test_of_text_or_list, no_test_of_plain, no_test_of_pair, test_of_constructor}
use Rattle.build_table.specs.PlacingLaws.{kind_is}
use Rattle.build_table.specs.Table.{class_at, step_at, index_at, depth_at, clause_at, indices_at, cells_at, table_size, same_number, rooted, rooted_each, above_in, same_step_in, class_in, classed, indexed, tested, first_before}
use Rattle.format_sheet.specs.Check.{SheetAccepts}
use Rattle.build_table.specs.Tabled.{Placed, Classed, RowBelow}

-- ---- the lowest pattern with the same step
module _ (t : List ℕ) (p : ℕ) where
  abbrev pub LowestFrom : ℕ → Type 0
  LowestFrom q = lowest (λ k. same_step_in t k p) q (p - q) ≡ lowest (λ k. same_step_in t k p) 0 p

  -- none before the n-th
  pub class_begins : (n : ℕ) → n ≤ p → ((q : ℕ) → q < n → same_step_in t q p ≡ false) → LowestFrom n
  class_begins zero l none_before = ap (lowest (λ k. same_step_in t k p) 0) (sub-zero p)
  class_begins (suc n) l none_before =
      let on : LowestFrom (n + 1) = lowest_on (λ k. same_step_in t k p) n p (omega arith) (none_before n (omega arith)) ∙ class_begins n (omega arith) (λ q below. none_before q (omega arith)) in
      ap (λ (k : ℕ). lowest (λ k. same_step_in t k p) k (p - k)) (sym (add-one n)) ∙ on

  or_found : (x : Lowest ℕ) → unwrap_or (found x) p ≡ or_self x p
  or_found none = refl
  or_found (some k) = refl

  -- so the search may begin there
  pub class_from : (n : ℕ) → n ≤ p → ((q : ℕ) → q < n → same_step_in t q p ≡ false) → unwrap_or (found (lowest (λ k. same_step_in t k p) n (p - n))) p ≡ class_in t p
  unfolding class_in
  class_from n l none_before = or_found (lowest (λ k. same_step_in t k p) n (p - n)) ∙ ap (λ (x : Lowest ℕ). or_self x p) (class_begins n l none_before)

  or_self_most : (x : Lowest ℕ) → ((k : ℕ) → x ≡ some k → k < p) → or_self x p ≤ p
  or_self_most none h = omega arith
  or_self_most (some k) h = let l = h k refl in omega arith

  pub class_in_most : class_in t p ≤ p
  unfolding class_in
  class_in_most = or_self_most (lowest (λ k. same_step_in t k p) 0 p) (λ k e. omega (arith, (lowest_some (λ q. same_step_in t q p) 0 p k e).to))

  -- ---- the class and the depth stored
  module _ (above : ℕ) (is_above : above ≡ above_in t p) where
    pub classed_same : get_or t (step_at + p) 0 ≡ same_number → set (set t (class_at + p) (get_or t (class_at + above) 0)) (depth_at + p) (get_or t (depth_at + above) 0) ≡ classed t p
    unfolding classed
    classed_same e = rw (is_above) (sym (pick_true (eqb (get_or t (step_at + p) 0) same_number) _ _ (eq-eqb _ _ e)))

    pub classed_step : (get_or t (step_at + p) 0 ≡ same_number → ⊥) → (c : ℕ) → c ≡ class_in t p
        → set (set t (class_at + p) c) (depth_at + p) (get_or t (depth_at + above) 0 + 1) ≡ classed t p
    unfolding classed
    classed_step e c ec = rw (is_above, ec) (sym (pick_false (eqb (get_or t (step_at + p) 0) same_number) _ _ (ne_eqb _ _ e)))

-- ---- the indices copied
-- n bytes of t copied, and one more behind them
module _ (t : List ℕ) (from to n : ℕ) (here : from + n ≤ length t) (there : to + n ≤ length t) where
  copied : take to t ++ take (from + n - from) (drop from t) ++ drop (to + (from + n - from)) t ≡ stored t to (text_at t from n)
  copied =
      let k : from + n - from ≡ n = omega arith in
      let long : length (text_at t from n) ≡ n = length_text_at t from n here in
      ap (λ (m : ℕ). take to t ++ take m (drop from t) ++ drop (to + m) t) k
      ∙ ap (λ (m : ℕ). take to t ++ text_at t from n ++ drop (to + m) t) (sym long)
      ∙ sym (stored_is t to (text_at t from n) (omega (arith, long)))

  pub copied_and_one : (u : List ℕ) (x : ℕ) → u ≡ take to t ++ take (from + n - from) (drop from t) ++ drop (to + (from + n - from)) t
      → set u (to + n) x ≡ stored t to (text_at t from n ++ x ∷ [])
  copied_and_one u x e =
      ap (λ (w : List ℕ). set w (to + n) x) (e ∙ copied)
      ∙ set_stored _ (to + n) x
      ∙ stored_append t to (to + n) (text_at t from n) (x ∷ []) (omega (arith, length_text_at t from n here))

-- ---- which of two paths comes first, by their indices
-- the library's order of two texts
less_is_before : (xs ys : List ℕ) (r : Bool) → r ≡ is_some_and is_lt (slice_partial_cmp (λ x y. Some (nat_cmp x y)) xs ys) → r ≡ first_before xs ys
unfolding first_before
less_is_before = same_from_slice_cmp_tested nat_cmp is_lt first_before refl (λ _ _. refl) (λ _ _. refl) (λ x y xs ys o e. grind (arith, nat_tests))

-- of the rows from a on and from b on, as long as v and w
pub rows_compared : (t : List ℕ) (a b x y v w : ℕ) → x ≡ v → y ≡ w → (r : Bool)
    → r ≡ is_some_and is_lt (slice_partial_cmp (λ i k. Some (nat_cmp i k)) (take (a + x - a) (drop a t)) (take (b + y - b) (drop b t)))
    → r ≡ first_before (text_at t a v) (text_at t b w)
rows_compared t a b x y v w ex ey r e =
    let first : a + x - a ≡ v = omega arith in
    let second : b + y - b ≡ w = omega arith in
    less_is_before _ _ r e ∙ ap₂ (λ (i k : ℕ). first_before (text_at t a i) (text_at t b k)) first second

-- ---- the row of p and of the pattern above, as the code has read them
pub record Row (p above depth : ℕ) : Type 0 where
  pub known : p < patterns_most
  pub above_known : above < patterns_most
  pub depth_known : depth + 1 < depth_most
  pub lower : depth_most * above + depth ≤ depth_most * p

module _ {t : List ℕ} {p above depth : ℕ} (row : RowBelow t p) (is_above : above ≡ above_in t p) (is_depth : depth ≡ get_or t (depth_at + above) 0) where
  deep : depth ≡ get_or t (depth_at + above_in t p) 0
  deep = is_depth ∙ ap (λ (k : ℕ). get_or t (depth_at + k) 0) is_above

  pub row_known : Row p above depth
  row_known = record {
    known = row.ranged.known;
    above_known = omega (arith, row.ranged.above p (omega arith));
    depth_known = omega (arith, deep, row.ranged.depth);
    lower = omega (arith, deep, row.lower);
  }

  pub indexed_is : stored t (indices_at + depth_most * p) (text_at t (indices_at + depth_most * above) depth ++ get_or t (index_at + p) 0 ∷ []) ≡ indexed t p
  unfolding indexed
  indexed_is = ap₂ (λ (k d : ℕ). stored t (indices_at + depth_most * p) (text_at t (indices_at + depth_most * k) d ++ get_or t (index_at + p) 0 ∷ [])) is_above deep

-- ---- roots
pub length_rooted : (t : List ℕ) (r c type : ℕ) → length (rooted t r c type) ≡ length t
unfolding rooted
length_rooted t r c type = simp length-set

module _ (s : List ℕ) (n : ℕ) where
  pub rooted_each_on : (t u : List ℕ) (c r tipo : ℕ) → c < n → r ≡ root s c → tipo ≡ subject s → u ≡ rooted t r c tipo
      → rooted_each s u (c + 1) (n - (c + 1)) ≡ rooted_each s t c (n - c)
  unfolding rooted_each
  rooted_each_on t u c r tipo l er et e =
      let d : n - c ≡ suc (n - (c + 1)) = omega arith in
      rw (d, e, er, et)

  pub rooted_each_end : (t : List ℕ) (c : ℕ) → n ≤ c → rooted_each s t c (n - c) ≡ t
  unfolding rooted_each
  rooted_each_end t c l = let d : n - c ≡ 0 = omega arith in rw d

-- ---- a test and its cell
module _ (s : List ℕ) (p : ℕ) (r : PatternRecord) (is_pattern : r ≡ pattern_of s p) where
  pub constructor_tests : (ty : TypeRecord) (tipo : ℕ) (one : Bool) → tipo ≡ type_of s p → ty ≡ type_of_record s tipo → one ≡ both (eqb ty.kind data_type) (eqb ty.count 1) → r.kind ≡ constructor_pattern
      → not one ≡ is_test s p
  unfolding one_constructor
  constructor_tests ty tipo one et er eo k =
      let same : one ≡ one_constructor s (type_of s p) = eo ∙ ap (λ (x : TypeRecord). both (eqb x.kind data_type) (eqb x.count 1)) (er ∙ ap (type_of_record s) et) in
      ap not same ∙ sym (test_of_constructor s p (sym (kind_is s p r is_pattern) ∙ k))

  pub plain_tests_not : r.kind < integer_pattern → false ≡ is_test s p
  plain_tests_not l = sym (no_test_of_plain s p (omega (arith, kind_is s p r is_pattern)))

  pub text_or_list_tests : integer_pattern ≤ r.kind → r.kind ≤ list_with_tail_pattern → true ≡ is_test s p
  text_or_list_tests low high = sym (test_of_text_or_list s p (omega (arith, kind_is s p r is_pattern)) (omega (arith, kind_is s p r is_pattern)))

  pub pair_tests_not : list_with_tail_pattern < r.kind → (r.kind ≡ constructor_pattern → ⊥) → false ≡ is_test s p
  pair_tests_not l other = sym (no_test_of_pair s p (omega (arith, kind_is s p r is_pattern)))

module _ (t : List ℕ) (p : ℕ) (test : Bool) where
  pub tested_yes : (r : Bool) (clause class : ℕ) → r ≡ test → r ≡ true → clause ≡ get_or t (clause_at + p) 0 → class ≡ get_or t (class_at + p) 0
      → set t (cells_at + patterns_most * clause + class) (p + 1) ≡ tested t test p
  unfolding tested
  tested_yes r clause class e y ec ek = rw (ec, ek) (sym (pick_true test _ t (sym e ∙ y)))

  pub tested_no : (r : Bool) → r ≡ test → r ≡ false → t ≡ tested t test p
  unfolding tested
  tested_no r e n = sym (pick_false test (set t (cells_at + patterns_most * get_or t (clause_at + p) 0 + get_or t (class_at + p) 0) (p + 1)) t (sym e ∙ n))

-- the cell is in the table
pub cell_inside : {s t : List ℕ} {m : SheetMap} {p : ℕ} → SheetAccepts s m → p < patterns s → Placed s t p → Classed s t p → (clause class : ℕ) → clause ≡ get_or t (clause_at + p) 0 → class ≡ get_or t (class_at + p) 0
    → cells_at + patterns_most * clause + class < table_size
cell_inside {s} {t} {m} {p} ch h pl cl clause class ec ek =
    let ok = ch.ok in
    omega (arith, pl.clause, cl.class, clause_known ok.is_shaped ok.is_counted p h, ok.is_counted.clauses_most_holds, class_below s p h, ok.is_counted.patterns_most_holds)
