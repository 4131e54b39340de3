-- Refusal 8 from what the code reads and asks: the parts of Shape are refusal 8, and each part that holds makes the next ones safe.
use Rattle.std.specs.Prelude.{◌≡◌, Bool, false, not, List, ℕ, zero, suc, ◌+◌, ◌-◌, ◌≤◌, ◌<◌, eqb, leb, ltb}
use Rattle.std.proofs.Math.Path.{refl, ap, sym}
use Rattle.std.proofs.Common.{ap₂, ◌∙◌, arith, leb-true, leb-false, ltb-true, eqb-true, ne_eqb, le-leb, lt-ltb}
use Rattle.std.proofs.Math.Bool.{true}
use Rattle.std.proofs.lemmas.Bool.{lt-leb, eqb-false}
use Rattle.base_words.specs.Words.{both, either, pick}
use Rattle.base_words.specs.WordsLaws.{both_true, both_assoc}
use Rattle.spec_rules.specs.Kinds.{variable_pattern, assign_pattern, list_pattern, list_with_tail_pattern, tuple_pattern}
use Rattle.spec_rules.specs.Searching.{every}
use Rattle.spec_rules.specs.SplittingLaws.{both_end}
use Rattle.spec_rules.specs.SheetFile.{patterns, children, clauses, pool_size, pattern_kind, pattern_zero, pattern_a, pattern_first, pattern_count, child, run_in}
use Rattle.spec_rules.specs.Patterns.{PatternKind, Discard, Variable, Assign, Integer, ByteString, ListOfAll, ListWithRest, Constructor, Pair, Tuple, Unknown, pattern_kind_of}
use Rattle.spec_rules.specs.SheetRefusals.{has_children, tail_fits, fields_fit, is_above, children_above, stands_once, pattern_keeps_rules, child_keeps_rules, root_keeps_rules, within, depth_fits, shape_fits}
use Rattle.spec_accepted.specs.KindsLaws.{pattern_number, pattern_number_lem, pattern_byte}
use Rattle.spec_accepted.specs.RunsLaws.{run_in_lem, every_below}
use Rattle.spec_accepted.specs.SheetFacts.{fields_run}
use Rattle.format_sheet.specs.declared.SheetMap.{SheetMap}
use Rattle.format_sheet.specs.declared.records.PatternRecord.{PatternRecord}
use Rattle.format_sheet.specs.declared.records.Run.{Run}
use Rattle.format_sheet.specs.Sections.{map_of}
use Rattle.format_sheet.specs.SectionsLaws.{mapped}
use Rattle.format_sheet.specs.Records.{pattern_of}
use Rattle.format_sheet.specs.Shape.{children_first, children_count, children_of, plain_run, own_fields, record_fits, child_known, ChildrenKnown, RootsKnown, RunsInside, listed_once, all_above}

-- ---- Bools
same_truth : (a b : Bool) → (a ≡ true → b ≡ true) → (b ≡ true → a ≡ true) → a ≡ b
same_truth true b f g = sym (f refl)
same_truth false true f g = g refl
same_truth false false f g = refl

both_swap : (a b c : Bool) → both a (both b c) ≡ both b (both a c)
both_swap true b c = refl
both_swap false true c = refl
both_swap false false c = refl

both_rest : (a b c t : Bool) → both a (both b (both c t)) ≡ both (both b (both a c)) t
both_rest true b c t = sym (both_assoc b c t)
both_rest false true c t = refl
both_rest false false c t = refl

-- ---- which kinds have children
children_by_number : (kind : PatternKind) → has_children kind ≡ either (eqb (pattern_number kind) assign_pattern) (both (leb list_pattern (pattern_number kind)) (leb (pattern_number kind) tuple_pattern))
unfolding has_children
children_by_number Discard = refl
children_by_number Variable = refl
children_by_number Assign = refl
children_by_number Integer = refl
children_by_number ByteString = refl
children_by_number ListOfAll = refl
children_by_number ListWithRest = refl
children_by_number Constructor = refl
children_by_number Pair = refl
children_by_number Tuple = refl
children_by_number Unknown = refl

module _ (k : ℕ) where
  pub assign_has_children : k ≡ assign_pattern → true ≡ has_children (pattern_kind_of k)
  unfolding has_children pattern_kind_of
  assign_has_children e = rw e

  pub low_has_none : (k ≡ assign_pattern → ⊥) → k < list_pattern → false ≡ has_children (pattern_kind_of k)
  low_has_none h l =
      let e : pattern_number (pattern_kind_of k) ≡ k = pattern_number_lem k ∙ omega arith in
      sym (children_by_number (pattern_kind_of k) ∙ rw (e, ne_eqb k assign_pattern h, lt-leb list_pattern k l))

  pub high_has_children : list_pattern ≤ k → leb k tuple_pattern ≡ has_children (pattern_kind_of k)
  high_has_children l = go (leb k tuple_pattern) refl
    where
      go : (b : Bool) → leb k tuple_pattern ≡ b → leb k tuple_pattern ≡ has_children (pattern_kind_of k)
      go true x =
          let h = leb-true k tuple_pattern x in
          let e : pattern_number (pattern_kind_of k) ≡ k = pattern_number_lem k ∙ omega arith in
          sym (children_by_number (pattern_kind_of k) ∙ rw (e, ne_eqb k assign_pattern (λ (q : k ≡ assign_pattern). omega arith), le-leb list_pattern k l))
      go false x =
          let h = leb-false k tuple_pattern x in
          let e : pattern_number (pattern_kind_of k) ≡ suc tuple_pattern = pattern_number_lem k ∙ omega arith in
          x ∙ sym (children_by_number (pattern_kind_of k) ∙ rw e)

-- ---- the fields of a pattern
tail_rule : List ℕ → ℕ → PatternKind → Bool
tail_rule s p Discard = true
tail_rule s p Variable = true
tail_rule s p Assign = true
tail_rule s p Integer = true
tail_rule s p ByteString = true
tail_rule s p ListOfAll = true
tail_rule s p ListWithRest = tail_fits s p
tail_rule s p Constructor = true
tail_rule s p Pair = true
tail_rule s p Tuple = true
tail_rule s p Unknown = true

fields_are : (s : List ℕ) (p : ℕ) (kind : PatternKind) → fields_fit s p kind ≡ both (own_fields (pattern_of s p) (children s) (pool_size s) kind) (tail_rule s p kind)
unfolding fields_fit own_fields tail_rule
fields_are s p Discard = sym (both_end _)
fields_are s p Variable = sym (both_end _)
fields_are s p Assign = sym (both_end _)
fields_are s p Integer = sym (both_end _)
fields_are s p ByteString = sym (both_end _)
fields_are s p ListOfAll = sym (both_end _)
fields_are s p ListWithRest = both_rest (eqb (pattern_a s p) 0) (leb 2 (pattern_count s p)) (run_in (pattern_first s p) (pattern_count s p) (children s)) (tail_fits s p)
fields_are s p Constructor = sym (both_end _)
fields_are s p Pair = both_swap (eqb (pattern_a s p) 0) (eqb (pattern_count s p) 2) (run_in (pattern_first s p) (pattern_count s p) (children s)) ∙ sym (both_end _)
fields_are s p Tuple = sym (both_end _)
fields_are s p Unknown = refl

-- a kind other than list with tail asks nothing of a tail
no_tail : (s : List ℕ) (p : ℕ) (kind : PatternKind) → (kind ≡ ListWithRest → ⊥) → tail_rule s p kind ≡ true
unfolding tail_rule
no_tail s p Discard h = refl
no_tail s p Variable h = refl
no_tail s p Assign h = refl
no_tail s p Integer h = refl
no_tail s p ByteString h = refl
no_tail s p ListOfAll h = refl
no_tail s p ListWithRest h = absurd (h refl)
no_tail s p Constructor h = refl
no_tail s p Pair h = refl
no_tail s p Tuple h = refl
no_tail s p Unknown h = refl

-- the ways through the record of pattern p: its zero byte, its own fields, its tail
module _ (s : List ℕ) (m : SheetMap) (e : m ≡ map_of s) (p : ℕ) (r : PatternRecord) (f : r ≡ pattern_of s p) where
  kind_is : r.kind ≡ pattern_kind s p
  kind_is = ap (λ (x : PatternRecord). x.kind) f

  zero_is : r.zero ≡ pattern_zero s p
  zero_is = ap (λ (x : PatternRecord). x.zero) f

  own_is : own_fields r m.children.count m.pool.count (pattern_kind_of r.kind) ≡ own_fields (pattern_of s p) (children s) (pool_size s) (pattern_kind_of (pattern_kind s p))
  own_is = rw (e, f)

  tail_is : (b : Bool) → eqb r.kind list_with_tail_pattern ≡ b
      → tail_rule s p (pattern_kind_of (pattern_kind s p)) ≡ either (not b) (leb (pattern_kind s (child s (r.first + (r.count - 1)))) variable_pattern)
  unfolding tail_rule tail_fits pattern_kind_of
  tail_is true x = rw (sym kind_is ∙ eqb-true r.kind list_with_tail_pattern x, f)
  tail_is false x =
      no_tail s p (pattern_kind_of (pattern_kind s p)) (λ k. eqb-false r.kind list_with_tail_pattern x (kind_is ∙ pattern_byte (pattern_kind s p) ListWithRest k (omega arith)))

  pub record_read : record_fits s p
      ≡ both (eqb r.zero 0)
      (both (own_fields r m.children.count m.pool.count (pattern_kind_of r.kind))
      (either (not (eqb r.kind list_with_tail_pattern)) (leb (pattern_kind s (child s (r.first + (r.count - 1)))) variable_pattern)))
  unfolding record_fits
  record_read = ap₂ both (ap (λ x. eqb x 0) (sym zero_is)) (fields_are s p (pattern_kind_of (pattern_kind s p)) ∙ ap₂ both (sym own_is) (tail_is (eqb r.kind list_with_tail_pattern) refl))

  pub tail_room : own_fields r m.children.count m.pool.count (pattern_kind_of r.kind) ≡ true → r.kind ≡ list_with_tail_pattern → (2 ≤ r.count) × (r.first + r.count ≤ children s)
  unfolding own_fields pattern_kind_of
  tail_room y k =
      let own_yes : both (leb 2 r.count) (plain_run r.a r.first r.count m.children.count) ≡ true = rw k at y in
      let a = both_true (leb 2 r.count) _ own_yes in
      let b = both_true (eqb r.a 0) (run_in r.first r.count m.children.count) a.1 in
      (leb-true _ _ a.0, omega (arith, (mapped s m e).of_children, (run_in_lem _ _ _ b.1).inside))

-- ---- each part makes the next ones safe
pub children_known : (s : List ℕ) → every (child_known s) 0 (children s) ≡ true → ChildrenKnown s
unfolding child_known
children_known s h = record { child_known_holds = λ j l. ltb-true _ _ (every_below (child_known s) (children s) h j l) }

pub roots_known : (s : List ℕ) → every (root_keeps_rules s) 0 (clauses s) ≡ true → RootsKnown s
unfolding root_keeps_rules
roots_known s h = record { root_known = λ c l. ltb-true _ _ (every_below (root_keeps_rules s) (clauses s) h c l) }

-- the run of children is the record's, or empty
children_inside : (s : List ℕ) (p : ℕ) → record_fits s p ≡ true → children_first s p + children_count s p ≤ children s
unfolding record_fits children_first children_count
children_inside s p h = go (has_children (pattern_kind_of (pattern_kind s p))) refl
  where
    go : (b : Bool) → has_children (pattern_kind_of (pattern_kind s p)) ≡ b → pick b (pattern_first s p) 0 + pick b (pattern_count s p) 0 ≤ children s
    go true x = (fields_run s p (both_true (eqb (pattern_zero s p) 0) (fields_fit s p (pattern_kind_of (pattern_kind s p))) h).1 x).inside
    go false x = omega arith

pub runs_inside : (s : List ℕ) → every (record_fits s) 0 (patterns s) ≡ true → RunsInside s
runs_inside s h = record { run_inside = λ p l. children_inside s p (every_below (record_fits s) (patterns s) h p l) }

-- ---- the parts together are refusal 8
every_both : (f g : ℕ → Bool) (i n : ℕ) → every (λ k. both (f k) (g k)) i n ≡ both (every f i n) (every g i n)
unfolding every
every_both f g i zero = refl
every_both f g i (suc n) =
    ap (both (both (f i) (g i))) (every_both f g (i + 1) n) ∙ interchange (f i) (g i) (every f (i + 1) n) (every g (i + 1) n)
  where
    interchange : (a b c d : Bool) → both (both a b) (both c d) ≡ both (both a c) (both b d)
    interchange true b c d = both_swap b c d
    interchange false b c d = refl

pub every_same : (f g : ℕ → Bool) (i n : ℕ) → ((k : ℕ) → i ≤ k → k < i + n → f k ≡ g k) → every f i n ≡ every g i n
unfolding every
every_same f g i zero h = refl
every_same f g i (suc n) h = ap₂ both (h i (omega arith) (omega arith)) (every_same f g (i + 1) n (λ k low high. h k (omega arith) (omega arith)))

above_is : (s : List ℕ) (p : ℕ) → children_above s p (pattern_kind_of (pattern_kind s p)) ≡ all_above s p
unfolding children_above all_above children_first children_count every
above_is s p = go (has_children (pattern_kind_of (pattern_kind s p)))
  where
    go : (b : Bool) → pick b (every (is_above s p) (pattern_first s p) (pattern_count s p)) true ≡ every (is_above s p) (pick b (pattern_first s p) 0) (pick b (pattern_count s p) 0)
    go true = refl
    go false = refl

pattern_keeps : (s : List ℕ) (p : ℕ) → pattern_keeps_rules s p ≡ both (record_fits s p) (both (all_above s p) (stands_once s p))
unfolding pattern_keeps_rules record_fits
pattern_keeps s p =
    sym (both_assoc (eqb (pattern_zero s p) 0) (fields_fit s p (pattern_kind_of (pattern_kind s p))) (both (children_above s p (pattern_kind_of (pattern_kind s p))) (stands_once s p)))
    ∙ ap (λ (x : Bool). both (both (eqb (pattern_zero s p) 0) (fields_fit s p (pattern_kind_of (pattern_kind s p)))) (both x (stands_once s p))) (above_is s p)

patterns_keep : (s : List ℕ) → every (pattern_keeps_rules s) 0 (patterns s)
    ≡ both (every (record_fits s) 0 (patterns s)) (both (every (all_above s) 0 (patterns s)) (every (stands_once s) 0 (patterns s)))
patterns_keep s =
    every_same (pattern_keeps_rules s) (λ p. both (record_fits s p) (both (all_above s p) (stands_once s p))) 0 (patterns s) (λ p low high. pattern_keeps s p)
    ∙ every_both (record_fits s) (λ p. both (all_above s p) (stands_once s p)) 0 (patterns s)
    ∙ ap (both (every (record_fits s) 0 (patterns s))) (every_both (all_above s) (stands_once s) 0 (patterns s))

children_keep : (s : List ℕ) → every (child_keeps_rules s) 0 (children s) ≡ both (every (child_known s) 0 (children s)) (every (listed_once s) 0 (children s))
unfolding child_keeps_rules child_known listed_once
children_keep s = every_both (child_known s) (listed_once s) 0 (children s)

in_order : (r a o k l t d : Bool) → both (both r (both a o)) (both (both k l) (both t d)) ≡ both t (both k (both r (both l (both a (both o d)))))
in_order r a o k l t d =
    same_truth _ _
    (λ h.
    let h1 = both_true (both r (both a o)) _ h in
    let h2 = both_true r (both a o) h1.0 in
    let h3 = both_true a o h2.1 in
    let h4 = both_true (both k l) (both t d) h1.1 in
    let h5 = both_true k l h4.0 in
    let h6 = both_true t d h4.1 in
    rw (h6.0, h5.0, h2.0, h5.1, h3.0, h3.1, h6.1))
    (λ h.
    let h1 = both_true t _ h in
    let h2 = both_true k _ h1.1 in
    let h3 = both_true r _ h2.1 in
    let h4 = both_true l _ h3.1 in
    let h5 = both_true a _ h4.1 in
    let h6 = both_true o d h5.1 in
    rw (h3.0, h5.0, h6.0, h2.0, h4.0, h1.0, h6.1))

pub shape_in_order : (s : List ℕ) → shape_fits s
    ≡ both (every (root_keeps_rules s) 0 (clauses s))
    (both (every (child_known s) 0 (children s))
    (both (every (record_fits s) 0 (patterns s))
    (both (every (listed_once s) 0 (children s))
    (both (every (all_above s) 0 (patterns s))
    (both (every (stands_once s) 0 (patterns s))
    (every (depth_fits s) 0 (clauses s)))))))
unfolding shape_fits
shape_in_order s =
    ap₂ (λ (x y : Bool). both x (both y (both (every (root_keeps_rules s) 0 (clauses s)) (every (depth_fits s) 0 (clauses s))))) (patterns_keep s) (children_keep s)
    ∙ in_order (every (record_fits s) 0 (patterns s)) (every (all_above s) 0 (patterns s)) (every (stands_once s) 0 (patterns s)) (every (child_known s) 0 (children s)) (every (listed_once s) 0 (children s)) (every (root_keeps_rules s) 0 (clauses s)) (every (depth_fits s) 0 (clauses s))

-- ---- how deep a pattern goes, by its children
pub within_none : (s : List ℕ) (p : ℕ) → within 0 s p ≡ false
unfolding within
within_none s p = refl

pub within_more : (deep : ℕ) (s : List ℕ) (p : ℕ) → within (suc deep) s p ≡ every (λ j. within deep s (child s j)) (children_first s p) (children_count s p)
unfolding within children_first children_count every
within_more deep s p = go (has_children (pattern_kind_of (pattern_kind s p)))
  where
    go : (b : Bool) → ◌≡◌ {A = Bool} (elim b [ true ↦ every (λ j. within deep s (child s j)) (pattern_first s p) (pattern_count s p) | false ↦ true ])
        (every (λ j. within deep s (child s j)) (pick b (pattern_first s p) 0) (pick b (pattern_count s p) 0))
    go true = refl
    go false = refl

-- ---- a tail
pub above_known : (s : List ℕ) → ChildrenKnown s → (p j : ℕ) {q : ℕ} → j < children s → q ≡ child s j → ltb p q ≡ is_above s p j
unfolding is_above
above_known s known p j h e = rw (e, lt-ltb (child s j) (patterns s) (known.child_known_holds j h)) (sym (both_end _))

-- ---- going over the children of a pattern
module _ (s : List ℕ) where
  pub every_of_children : (p : ℕ) (r : Run) → r ≡ children_of s p → (f : ℕ → Bool) → every f r.first r.count ≡ every f (children_first s p) (children_count s p)
  every_of_children p r e f = ap (λ (x : Run). every f x.first x.count) e

pub within_some : (deep : ℕ) (s : List ℕ) (p : ℕ) → (deep ≡ 0 → ⊥) → within deep s p ≡ every (λ j. within (deep - 1) s (child s j)) (children_first s p) (children_count s p)
within_some deep s p h =
    let e : deep ≡ suc (deep - 1) = omega arith in
    ap (λ (d : ℕ). within d s p) e ∙ within_more (deep - 1) s p
