-- What a sheet has that passed the tests of refusals 2 to 11: a record of facts for each stage, so that what has run only the first
-- tests can use the first records. Each is derived once, from the tests of spec_rules.
use Rattle.std.specs.Prelude.{◌≡◌, ◌⊎◌, Bool, List, eqb, ltb, length}
use Rattle.std.proofs.Math.Path.{refl}
use Rattle.std.proofs.Common.{sym, true≢false, eq-or-lt_of_le}
use Rattle.std.proofs.Math.Logic.{inl, inr, ⊎_elim}
use Rattle.std.proofs.Math.Bool.{true, false}
use Prim.Native.Nat.{ℕ, zero, suc, ◌+◌, ◌-◌, ◌*◌, ◌≤◌, ◌<◌}
use native.Mathlib.Omega.{arith}
use borrow.Author.Tests.{not-false, leb-true, leb-false, ltb-true, eqb-true, lt-ltb, le-leb, lt-leb, eq-eqb, ne_eqb}
use Rattle.std.proofs.Math.Dec.{leb}
use Rattle.base_words.specs.Words.{both}
use Rattle.base_words.specs.WordsLaws.{both_true, either_true}
use Rattle.spec_rules.specs.Limits.{type_size, constructor_size, entry_size, pattern_size, child_size, clause_size, sheet_trailer, sheet_most, types_most, constructors_most, entries_most, patterns_most, children_most, clauses_most, depth_most, text_most}
use Rattle.spec_rules.specs.Kinds.{bytes_type, list_type, pair_type, tuple_type, data_type, no_flag, both_flags, discard_pattern, variable_pattern, assign_pattern, integer_pattern, byte_string_pattern, list_pattern, list_with_tail_pattern, constructor_pattern, pair_pattern, tuple_pattern}
use Rattle.spec_rules.specs.RefusalNumbers.{length_refusal, layout_refusal, no_clause_refusal, count_refusal, types_refusal, transparent_refusal, shape_refusal, text_refusal, misfit_refusal, name_twice_refusal}
use Rattle.spec_rules.specs.Searching.{every, times}
use Rattle.spec_rules.specs.SearchingLaws.{every_true, times_some, times_found, times_one}
use Rattle.spec_rules.specs.SheetFile.{subject, sheet_length, types_at, constructors_at, entries_at, patterns_at, children_at, clauses_at, pool_at, pool_end, sheet_sizes, sheet_places, types, constructors, entries, patterns, children, clauses, pool_size, type_kind, type_flag, type_first, type_count, constructor_first, constructor_count, entry, pattern_kind, pattern_zero, pattern_a, pattern_first, pattern_count, child, root, pool_text, run_in}
use Rattle.spec_rules.specs.Patterns.{PatternKind, Discard, Variable, Assign, Integer, ByteString, ListOfAll, ListWithRest, Constructor, Pair, Tuple, Unknown, pattern_kind_of, constructor_of, clause_pattern, fits, names}
use Rattle.spec_rules.specs.Texts.{canonical, short_text}
use Rattle.spec_rules.specs.SheetRefusals.{length_fits, layout_fits, has_clause, counts_fit, type_parts, type_flags, type_keeps_rules, constructor_keeps_rules, entry_keeps_rules, types_fit, has_children, tail_fits, fields_fit, is_above, children_above, is_root, is_entry, stands_once, pattern_keeps_rules, lists, child_keeps_rules, root_keeps_rules, within, depth_fits, shape_fits, transparent, lowest_transparent, text_of_kind, bad_text, lowest_bad_text, misfit, lowest_misfit, repeats, name_twice, lowest_name_twice, accepted, readable_verdict, transparent_verdict, shape_verdict, clauses_verdict, verdict}
use Rattle.spec_rules.specs.SheetRefusalsLaws.{require_accepted, require_none_accepted, and_then_accepted}
use Rattle.spec_accepted.specs.KindsLaws.{pattern_number, pattern_number_lem, pattern_byte, pattern_unknown}
use Rattle.spec_accepted.specs.RunsLaws.{Run, run_in_lem, section_rises, section_fills, pool_fills, trailer_fills, every_below, none_below}

-- ---- 2 and 3: the sections stand back to back, each of whole records, and the trailer ends the file
pub record Laid (s : List ℕ) : Type 0 where
  pub length_least : sheet_trailer ≤ length s
  pub length_most : length s ≤ sheet_most
  pub length_told : sheet_length s ≡ length s
  pub types_start : types_at s ≡ 0
  pub types_end : types_at s + type_size * types s ≡ constructors_at s
  pub constructors_end : constructors_at s + constructor_size * constructors s ≡ entries_at s
  pub entries_end : entries_at s + entry_size * entries s ≡ patterns_at s
  pub patterns_end : patterns_at s + pattern_size * patterns s ≡ children_at s
  pub children_end : children_at s + child_size * children s ≡ clauses_at s
  pub clauses_end : clauses_at s + clause_size * clauses s ≡ pool_at s
  pub pool_end_holds : pool_at s + pool_size s ≡ pool_end s
  pub trailer_end : pool_end s + sheet_trailer ≡ length s

pub laid : (s : List ℕ) → length_fits s ≡ true → layout_fits s ≡ true → Laid s
unfolding length_fits layout_fits types constructors entries patterns children clauses pool_size pool_end
laid s long out =
    let l1 = both_true _ _ long in
    let l2 = both_true _ _ l1.1 in
    let s1 = both_true _ _ out in
    let fills = section_fills sheet_sizes (sheet_places s) s1.1 in
    let least : sheet_trailer ≤ length s = leb-true _ _ l1.0 in
    record {
      length_least = least;
      length_most = leb-true _ _ l2.0;
      length_told = eqb-true _ _ l2.1;
      types_start = eqb-true _ _ s1.0;
      types_end = fills 0 (omega arith);
      constructors_end = fills 1 (omega arith);
      entries_end = fills 2 (omega arith);
      patterns_end = fills 3 (omega arith);
      children_end = fills 4 (omega arith);
      clauses_end = fills 5 (omega arith);
      pool_end_holds = pool_fills (pool_at s) (pool_end s) (section_rises sheet_sizes (sheet_places s) s1.1 6 (omega arith));
      trailer_end = trailer_fills sheet_trailer (length s) least;
    }

-- where a record's bytes lie: all before the trailer
module _ {s : List ℕ} (l : Laid s) where
  pub type_inside : (t : ℕ) → t < types s → types_at s + type_size * t + type_size + sheet_trailer ≤ length s
  type_inside t h = omega arith

  pub constructor_inside : (c : ℕ) → c < constructors s → constructors_at s + constructor_size * c + constructor_size + sheet_trailer ≤ length s
  constructor_inside c h = omega arith

  pub entry_inside : (e : ℕ) → e < entries s → entries_at s + entry_size * e + entry_size + sheet_trailer ≤ length s
  entry_inside e h = omega arith

  pub clause_inside : (c : ℕ) → c < clauses s → clauses_at s + clause_size * c + clause_size + sheet_trailer ≤ length s
  clause_inside c h = omega arith

  pub text_inside : (first count : ℕ) → first + count ≤ pool_size s → pool_at s + first + count + sheet_trailer ≤ length s
  text_inside first count h = omega arith

-- ---- 4 and 5: a clause is there, and no section has too many records
pub record Counted (s : List ℕ) : Type 0 where
  pub some_clause : 1 ≤ clauses s
  pub types_most_holds : types s ≤ types_most
  pub constructors_most_holds : constructors s ≤ constructors_most
  pub entries_most_holds : entries s ≤ entries_most
  pub patterns_most_holds : patterns s ≤ patterns_most
  pub children_most_holds : children s ≤ children_most
  pub clauses_most_holds : clauses s ≤ clauses_most

pub counted : (s : List ℕ) → has_clause s ≡ true → counts_fit s ≡ true → Counted s
unfolding has_clause counts_fit
counted s there few =
    let c1 = both_true _ _ few in
    let c2 = both_true _ _ c1.1 in
    let c3 = both_true _ _ c2.1 in
    let c4 = both_true _ _ c3.1 in
    let c5 = both_true _ _ c4.1 in
    record {
      some_clause = ltb-true 0 (clauses s) there;
      types_most_holds = leb-true _ _ c1.0;
      constructors_most_holds = leb-true _ _ c2.0;
      entries_most_holds = leb-true _ _ c3.0;
      patterns_most_holds = leb-true _ _ c4.0;
      children_most_holds = leb-true _ _ c5.0;
      clauses_most_holds = leb-true _ _ c5.1;
    }

-- ---- 6: types, constructors, type entries and the subject
pub record Typed (s : List ℕ) : Type 0 where
  pub type_kind_holds : (t : ℕ) → t < types s → type_kind s t ≤ data_type
  pub plain_empty : (t : ℕ) → t < types s → type_kind s t ≤ bytes_type → (type_first s t ≡ 0) × (type_count s t ≡ 0)
  pub list_one : (t : ℕ) → t < types s → type_kind s t ≡ list_type → type_count s t ≡ 1
  pub pair_two : (t : ℕ) → t < types s → type_kind s t ≡ pair_type → type_count s t ≡ 2
  pub tuple_more : (t : ℕ) → t < types s → type_kind s t ≡ tuple_type → 2 ≤ type_count s t
  pub data_some : (t : ℕ) → t < types s → type_kind s t ≡ data_type → 1 ≤ type_count s t
  pub type_entries : (t : ℕ) → t < types s → type_kind s t ≤ tuple_type → type_first s t + type_count s t ≤ entries s
  pub type_constructors : (t : ℕ) → t < types s → type_kind s t ≡ data_type → type_first s t + type_count s t ≤ constructors s
  pub flag_most : (t : ℕ) → t < types s → type_flag s t ≤ both_flags
  pub flag_data : (t : ℕ) → t < types s → (type_kind s t ≡ data_type → ⊥) → type_flag s t ≡ no_flag
  pub constructor_entries : (c : ℕ) → c < constructors s → Run (constructor_first s c) (constructor_count s c) (entries s)
  pub entry_type : (e : ℕ) → e < entries s → entry s e < types s
  pub subject_type : subject s < types s

-- what the parts of one type say, kind by kind
module _ (s : List ℕ) (t : ℕ) (keeps : type_parts s t ≡ true) where
  parts_plain : type_kind s t ≤ bytes_type → (type_first s t ≡ 0) × (type_count s t ≡ 0)
  unfolding type_parts
  parts_plain h = let p = both_true _ _ (rw (le-leb (type_kind s t) bytes_type h) at keeps) in (eqb-true _ _ p.0, eqb-true _ _ p.1)

  parts_list : type_kind s t ≡ list_type → (type_count s t ≡ 1) × Run (type_first s t) (type_count s t) (entries s)
  unfolding type_parts
  parts_list e = let p = both_true _ _ (rw e at keeps) in (eqb-true _ _ p.0, run_in_lem _ _ _ p.1)

  parts_pair : type_kind s t ≡ pair_type → (type_count s t ≡ 2) × Run (type_first s t) (type_count s t) (entries s)
  unfolding type_parts
  parts_pair e = let p = both_true _ _ (rw e at keeps) in (eqb-true _ _ p.0, run_in_lem _ _ _ p.1)

  parts_tuple : type_kind s t ≡ tuple_type → (2 ≤ type_count s t) × Run (type_first s t) (type_count s t) (entries s)
  unfolding type_parts
  parts_tuple e = let p = both_true _ _ (rw e at keeps) in (leb-true _ _ p.0, run_in_lem _ _ _ p.1)

  parts_data : type_kind s t ≡ data_type → (1 ≤ type_count s t) × Run (type_first s t) (type_count s t) (constructors s)
  unfolding type_parts
  parts_data e = let p = both_true _ _ (rw e at keeps) in (leb-true _ _ p.0, run_in_lem _ _ _ p.1)

  parts_none : data_type < type_kind s t → false ≡ true
  unfolding type_parts
  parts_none h =
      rw (lt-leb (type_kind s t) bytes_type (omega arith), ne_eqb (type_kind s t) list_type (λ e. omega arith), ne_eqb (type_kind s t) pair_type (λ e. omega arith), ne_eqb (type_kind s t) tuple_type (λ e. omega arith), ne_eqb (type_kind s t) data_type (λ e. omega arith)) at keeps

  parts_kind : type_kind s t ≤ data_type
  parts_kind = go (leb (type_kind s t) data_type) refl
    where
      go : (b : Bool) → leb (type_kind s t) data_type ≡ b → type_kind s t ≤ data_type
      go true e = leb-true _ _ e
      go false e = absurd (true≢false (sym (parts_none (leb-false _ _ e))))

  parts_entries : type_kind s t ≤ tuple_type → type_first s t + type_count s t ≤ entries s
  parts_entries h = ⊎_elim (λ e. (parts_tuple e).1.inside) below_tuple (eq-or-lt_of_le h)
    where
      below_list : type_kind s t < list_type → type_first s t + type_count s t ≤ entries s
      below_list l = let p = parts_plain (omega arith) in omega arith

      below_pair : type_kind s t < pair_type → type_first s t + type_count s t ≤ entries s
      below_pair l = ⊎_elim (λ e. (parts_list e).1.inside) below_list (eq-or-lt_of_le {m = 2} (omega arith))

      below_tuple : type_kind s t < tuple_type → type_first s t + type_count s t ≤ entries s
      below_tuple l = ⊎_elim (λ e. (parts_pair e).1.inside) below_pair (eq-or-lt_of_le {m = 3} (omega arith))

module _ (s : List ℕ) (t : ℕ) (keeps : type_flags s t ≡ true) where
  flags_most : type_flag s t ≤ both_flags
  unfolding type_flags
  flags_most =
      ⊎_elim (λ e. let none = eqb-true (type_flag s t) no_flag e in omega arith) (λ e. leb-true (type_flag s t) both_flags (both_true (eqb (type_kind s t) data_type) (leb (type_flag s t) both_flags) e).1) (either_true _ _ keeps)

  flags_data : (type_kind s t ≡ data_type → ⊥) → type_flag s t ≡ no_flag
  unfolding type_flags
  flags_data other = ⊎_elim (λ e. eqb-true (type_flag s t) no_flag e) (λ e. absurd (other (eqb-true (type_kind s t) data_type (both_true (eqb (type_kind s t) data_type) (leb (type_flag s t) both_flags) e).0))) (either_true _ _ keeps)

pub typed : (s : List ℕ) → types_fit s ≡ true → Typed s
unfolding types_fit type_keeps_rules constructor_keeps_rules entry_keeps_rules
typed s keeps =
    let k1 = both_true _ _ keeps in
    let k2 = both_true _ _ k1.1 in
    let k3 = both_true _ _ k2.1 in
    record {
      type_kind_holds = λ t h. parts_kind s t (parts k1.0 t h);
      plain_empty = λ t h. parts_plain s t (parts k1.0 t h);
      list_one = λ t h e. (parts_list s t (parts k1.0 t h) e).0;
      pair_two = λ t h e. (parts_pair s t (parts k1.0 t h) e).0;
      tuple_more = λ t h e. (parts_tuple s t (parts k1.0 t h) e).0;
      data_some = λ t h e. (parts_data s t (parts k1.0 t h) e).0;
      type_entries = λ t h. parts_entries s t (parts k1.0 t h);
      type_constructors = λ t h e. (parts_data s t (parts k1.0 t h) e).1.inside;
      flag_most = λ t h. flags_most s t (flags k1.0 t h);
      flag_data = λ t h. flags_data s t (flags k1.0 t h);
      constructor_entries = λ c h. run_in_lem _ _ _ (every_below (constructor_keeps_rules s) (constructors s) k2.0 c h);
      entry_type = λ e h. ltb-true _ _ (every_below (entry_keeps_rules s) (entries s) k3.0 e h);
      subject_type = ltb-true _ _ k3.1;
    }
  where
    parts : every (type_keeps_rules s) 0 (types s) ≡ true → (t : ℕ) → t < types s → type_parts s t ≡ true
    parts all t h = (both_true (type_parts s t) (type_flags s t) (every_below (type_keeps_rules s) (types s) all t h)).0

    flags : every (type_keeps_rules s) 0 (types s) ≡ true → (t : ℕ) → t < types s → type_flags s t ≡ true
    flags all t h = (both_true (type_parts s t) (type_flags s t) (every_below (type_keeps_rules s) (types s) all t h)).1

-- the type numbers that a type's or a constructor's own run of entries holds, and the constructors of a Data type
module _ {s : List ℕ} (ty : Typed s) where
  pub its_constructor : (t a : ℕ) → t < types s → type_kind s t ≡ data_type → a < type_count s t → constructor_of s t a < constructors s
  unfolding constructor_of
  its_constructor t a h k l = omega (arith, ty.type_constructors t h k)

-- ---- 8: patterns, child entries and roots
-- p has its first and count in the child list
abbrev pub Parent : List ℕ → ℕ → Type 0
Parent s p = has_children (pattern_kind_of (pattern_kind s p)) ≡ true

-- entry j is in p's list
pub record Owns (s : List ℕ) (p j : ℕ) : Type 0 where
  pub parent : Parent s p
  pub from : pattern_first s p ≤ j
  pub to : j < pattern_first s p + pattern_count s p

pub record Shaped (s : List ℕ) : Type 0 where
  pub zero_byte : (p : ℕ) → p < patterns s → pattern_zero s p ≡ 0
  pub pattern_kind_holds : (p : ℕ) → p < patterns s → pattern_kind s p ≤ tuple_pattern
  pub a_unused : (p : ℕ) → p < patterns s → (pattern_kind s p ≡ variable_pattern → ⊥) → (pattern_kind s p ≡ assign_pattern → ⊥) → (pattern_kind s p ≡ constructor_pattern → ⊥) → pattern_a s p ≡ 0
  pub plain_empty : (p : ℕ) → p < patterns s → pattern_kind s p ≤ variable_pattern → (pattern_first s p ≡ 0) × (pattern_count s p ≡ 0)
  pub assign_one : (p : ℕ) → p < patterns s → pattern_kind s p ≡ assign_pattern → pattern_count s p ≡ 1
  pub tail_after_some : (p : ℕ) → p < patterns s → pattern_kind s p ≡ list_with_tail_pattern → 2 ≤ pattern_count s p
  pub tail_plain : (p : ℕ) → p < patterns s → pattern_kind s p ≡ list_with_tail_pattern → pattern_kind s (child s (pattern_first s p + (pattern_count s p - 1))) ≤ variable_pattern
  pub pair_two : (p : ℕ) → p < patterns s → pattern_kind s p ≡ pair_pattern → pattern_count s p ≡ 2
  pub text_run : (p : ℕ) → p < patterns s → integer_pattern ≤ pattern_kind s p → pattern_kind s p ≤ byte_string_pattern → Run (pattern_first s p) (pattern_count s p) (pool_size s)
  pub children_run : (p : ℕ) → p < patterns s → Parent s p → Run (pattern_first s p) (pattern_count s p) (children s)
  pub child_above : (p j : ℕ) → p < patterns s → Owns s p j → p < child s j
  pub child_pattern : (j : ℕ) → j < children s → child s j < patterns s
  pub owner : (j : ℕ) → j < children s → (p : ℕ) × (p < patterns s) × Owns s p j
  pub one_owner : (p q j : ℕ) → p < patterns s → q < patterns s → Owns s p j → Owns s q j → p ≡ q
  pub stands_once_holds : (p : ℕ) → p < patterns s → times (is_root s p) 0 (clauses s) + times (is_entry s p) 0 (children s) ≡ 1
  pub root_pattern : (c : ℕ) → c < clauses s → root s c < patterns s

-- what the fields of one pattern say, kind by kind
fields_a : (s : List ℕ) (p : ℕ) (kind : PatternKind) → fields_fit s p kind ≡ true → (kind ≡ Variable → ⊥) → (kind ≡ Assign → ⊥) → (kind ≡ Constructor → ⊥) → pattern_a s p ≡ 0
unfolding fields_fit
fields_a s p Discard fit v a c = eqb-true _ _ (both_true _ _ fit).0
fields_a s p Variable fit v a c = absurd (v refl)
fields_a s p Assign fit v a c = absurd (a refl)
fields_a s p Integer fit v a c = eqb-true _ _ (both_true _ _ fit).0
fields_a s p ByteString fit v a c = eqb-true _ _ (both_true _ _ fit).0
fields_a s p ListOfAll fit v a c = eqb-true _ _ (both_true _ _ fit).0
fields_a s p ListWithRest fit v a c = eqb-true _ _ (both_true _ _ fit).0
fields_a s p Constructor fit v a c = absurd (c refl)
fields_a s p Pair fit v a c = eqb-true _ _ (both_true _ _ fit).0
fields_a s p Tuple fit v a c = eqb-true _ _ (both_true _ _ fit).0
fields_a s p Unknown fit v a c = absurd (true≢false (sym fit))

fields_children : (s : List ℕ) (p : ℕ) (kind : PatternKind) → fields_fit s p kind ≡ true → has_children kind ≡ true → Run (pattern_first s p) (pattern_count s p) (children s)
unfolding fields_fit has_children
fields_children s p Discard fit has = absurd (true≢false (sym has))
fields_children s p Variable fit has = absurd (true≢false (sym has))
fields_children s p Assign fit has = run_in_lem _ _ _ (both_true (eqb (pattern_count s p) 1) _ fit).1
fields_children s p Integer fit has = absurd (true≢false (sym has))
fields_children s p ByteString fit has = absurd (true≢false (sym has))
fields_children s p ListOfAll fit has = run_in_lem _ _ _ (both_true (eqb (pattern_a s p) 0) _ fit).1
fields_children s p ListWithRest fit has =
    run_in_lem _ _ _ (both_true _ (tail_fits s p) (both_true (leb 2 (pattern_count s p)) _ (both_true (eqb (pattern_a s p) 0) _ fit).1).1).0
fields_children s p Constructor fit has = run_in_lem _ _ _ fit
fields_children s p Pair fit has = run_in_lem _ _ _ (both_true (eqb (pattern_count s p) 2) _ (both_true (eqb (pattern_a s p) 0) _ fit).1).1
fields_children s p Tuple fit has = run_in_lem _ _ _ (both_true (eqb (pattern_a s p) 0) _ fit).1
fields_children s p Unknown fit has = absurd (true≢false (sym fit))

-- one pattern that keeps the rules
module _ (s : List ℕ) (p : ℕ) (fit : fields_fit s p (pattern_kind_of (pattern_kind s p)) ≡ true) where
  of_kind : (kind : PatternKind) → pattern_kind_of (pattern_kind s p) ≡ kind → fields_fit s p kind ≡ true
  of_kind kind e = rw e at fit

  pub fields_kind : pattern_kind s p ≤ tuple_pattern
  unfolding fields_fit
  fields_kind = go (leb (pattern_kind s p) tuple_pattern) refl
    where
      go : (b : Bool) → leb (pattern_kind s p) tuple_pattern ≡ b → pattern_kind s p ≤ tuple_pattern
      go true e = leb-true _ _ e
      go false e = absurd (true≢false (sym (of_kind Unknown (pattern_unknown _ (leb-false _ _ e)))))

  pub fields_a_unused : (pattern_kind s p ≡ variable_pattern → ⊥) → (pattern_kind s p ≡ assign_pattern → ⊥) → (pattern_kind s p ≡ constructor_pattern → ⊥) → pattern_a s p ≡ 0
  fields_a_unused v a c =
      fields_a s p (pattern_kind_of (pattern_kind s p)) fit
      (λ e. v (pattern_byte _ Variable e (omega arith)))
      (λ e. a (pattern_byte _ Assign e (omega arith)))
      (λ e. c (pattern_byte _ Constructor e (omega arith)))

  pub fields_plain : pattern_kind s p ≤ variable_pattern → (pattern_first s p ≡ 0) × (pattern_count s p ≡ 0)
  unfolding fields_fit pattern_kind_of
  fields_plain h = ⊎_elim variable discard (eq-or-lt_of_le h)
    where
      variable : pattern_kind s p ≡ variable_pattern → (pattern_first s p ≡ 0) × (pattern_count s p ≡ 0)
      variable e =
          let f = both_true (eqb (pattern_first s p) 0) (eqb (pattern_count s p) 0) (of_kind Variable (rw e)) in
          (eqb-true _ _ f.0, eqb-true _ _ f.1)

      discard : pattern_kind s p < variable_pattern → (pattern_first s p ≡ 0) × (pattern_count s p ≡ 0)
      discard l =
          let e : pattern_kind s p ≡ discard_pattern = omega arith in
          let f = both_true (eqb (pattern_a s p) 0) _ (of_kind Discard (rw e)) in
          let g = both_true (eqb (pattern_first s p) 0) (eqb (pattern_count s p) 0) f.1 in
          (eqb-true _ _ g.0, eqb-true _ _ g.1)

  pub fields_assign : pattern_kind s p ≡ assign_pattern → pattern_count s p ≡ 1
  unfolding fields_fit pattern_kind_of
  fields_assign e = eqb-true _ _ (both_true (eqb (pattern_count s p) 1) (run_in (pattern_first s p) (pattern_count s p) (children s)) (of_kind Assign (rw e))).0

  pub fields_text : integer_pattern ≤ pattern_kind s p → pattern_kind s p ≤ byte_string_pattern → Run (pattern_first s p) (pattern_count s p) (pool_size s)
  unfolding fields_fit pattern_kind_of
  fields_text low high =
      ⊎_elim (λ e. run_in_lem _ _ _ (both_true (eqb (pattern_a s p) 0) _ (of_kind ByteString (rw e))).1)
      (λ l. let e : pattern_kind s p ≡ integer_pattern = omega arith in run_in_lem _ _ _ (both_true (eqb (pattern_a s p) 0) _ (of_kind Integer (rw e))).1)
      (eq-or-lt_of_le high)

  pub fields_tail : pattern_kind s p ≡ list_with_tail_pattern → (2 ≤ pattern_count s p) × (pattern_kind s (child s (pattern_first s p + (pattern_count s p - 1))) ≤ variable_pattern)
  unfolding fields_fit pattern_kind_of tail_fits
  fields_tail e =
      let f = both_true (eqb (pattern_a s p) 0) _ (of_kind ListWithRest (rw e)) in
      let g = both_true (leb 2 (pattern_count s p)) _ f.1 in
      let h = both_true (run_in (pattern_first s p) (pattern_count s p) (children s)) (tail_fits s p) g.1 in
      (leb-true _ _ g.0, leb-true _ _ h.1)

  pub fields_pair : pattern_kind s p ≡ pair_pattern → pattern_count s p ≡ 2
  unfolding fields_fit pattern_kind_of
  fields_pair e =
      let f = both_true (eqb (pattern_a s p) 0) _ (of_kind Pair (rw e)) in
      eqb-true _ _ (both_true (eqb (pattern_count s p) 2) (run_in (pattern_first s p) (pattern_count s p) (children s)) f.1).0

  pub fields_run : Parent s p → Run (pattern_first s p) (pattern_count s p) (children s)
  fields_run has = fields_children s p (pattern_kind_of (pattern_kind s p)) fit has

pub owns_listed : (s : List ℕ) (p j : ℕ) → lists s j p ≡ true → Owns s p j
unfolding lists
owns_listed s p j h =
    let f = both_true (has_children (pattern_kind_of (pattern_kind s p))) (both (leb (pattern_first s p) j) (ltb j (pattern_first s p + pattern_count s p))) h in
    let g = both_true (leb (pattern_first s p) j) (ltb j (pattern_first s p + pattern_count s p)) f.1 in
    record { parent = f.0; from = leb-true _ _ g.0; to = ltb-true _ _ g.1 }

pub listed_owns : (s : List ℕ) (p j : ℕ) → Owns s p j → lists s j p ≡ true
unfolding lists
listed_owns s p j o = rw (o.parent, le-leb (pattern_first s p) j o.from, lt-ltb j (pattern_first s p + pattern_count s p) o.to)

above_owned : (s : List ℕ) (p j : ℕ) → children_above s p (pattern_kind_of (pattern_kind s p)) ≡ true → Owns s p j → p < child s j
unfolding children_above is_above
above_owned s p j h o =
    let all = every_true (is_above s p) (pattern_first s p) (pattern_count s p) (rw o.parent at h) j o.from o.to in
    ltb-true p (child s j) (both_true (ltb p (child s j)) (ltb (child s j) (patterns s)) all).0

run_entry : (s : List ℕ) (p j : ℕ) → fields_fit s p (pattern_kind_of (pattern_kind s p)) ≡ true → Owns s p j → j < children s
run_entry s p j fit o = omega (arith, fields_run s p fit o.parent, o.to)

-- an entry that one pattern lists
module _ (s : List ℕ) (j : ℕ) (once : times (lists s j) 0 (patterns s) ≡ 1) where
  owner_found : (p : ℕ) × (p < patterns s) × Owns s p j
  owner_found = let w = times_found (lists s j) 0 (patterns s) (omega arith) in (w.0, omega (arith, w.2), owns_listed s w.0 j w.3)

  owner_one : (p q : ℕ) → p < patterns s → q < patterns s → Owns s p j → Owns s q j → p ≡ q
  owner_one p q hp hq op oq =
      times_one (lists s j) 0 (patterns s) p q (omega arith) (omega arith) (omega arith) (listed_owns s p j op) (omega arith) (omega arith) (listed_owns s q j oq)

-- the tests of one pattern and of one child entry, each by itself
record PatternRules (s : List ℕ) (p : ℕ) : Type 0 where
  zero_byte : pattern_zero s p ≡ 0
  fit : fields_fit s p (pattern_kind_of (pattern_kind s p)) ≡ true
  above : children_above s p (pattern_kind_of (pattern_kind s p)) ≡ true
  once : times (is_root s p) 0 (clauses s) + times (is_entry s p) 0 (children s) ≡ 1

pattern_rules : (s : List ℕ) (p : ℕ) → pattern_keeps_rules s p ≡ true → PatternRules s p
unfolding pattern_keeps_rules stands_once
pattern_rules s p keeps =
    let k1 = both_true _ _ keeps in
    let k2 = both_true _ _ k1.1 in
    let k3 = both_true _ _ k2.1 in
    record { zero_byte = eqb-true _ _ k1.0; fit = k2.0; above = k3.0; once = eqb-true _ _ k3.1 }

record EntryRules (s : List ℕ) (j : ℕ) : Type 0 where
  known : child s j < patterns s
  once : times (lists s j) 0 (patterns s) ≡ 1

entry_rules : (s : List ℕ) (j : ℕ) → child_keeps_rules s j ≡ true → EntryRules s j
unfolding child_keeps_rules
entry_rules s j keeps = let k = both_true _ _ keeps in record { known = ltb-true _ _ k.0; once = eqb-true _ _ k.1 }

-- from the rules of patterns, child entries and roots; the depth is asked after these
pub shaped_by_rules : (s : List ℕ) → every (pattern_keeps_rules s) 0 (patterns s) ≡ true → every (child_keeps_rules s) 0 (children s) ≡ true
    → every (root_keeps_rules s) 0 (clauses s) ≡ true → Shaped s
unfolding root_keeps_rules
shaped_by_rules s keep_patterns keep_children keep_roots = record {
  zero_byte = λ p h. (kept p h).zero_byte;
  pattern_kind_holds = λ p h. fields_kind s p (kept p h).fit;
  a_unused = λ p h. fields_a_unused s p (kept p h).fit;
  plain_empty = λ p h. fields_plain s p (kept p h).fit;
  assign_one = λ p h. fields_assign s p (kept p h).fit;
  tail_after_some = λ p h e. (fields_tail s p (kept p h).fit e).0;
  tail_plain = λ p h e. (fields_tail s p (kept p h).fit e).1;
  pair_two = λ p h. fields_pair s p (kept p h).fit;
  text_run = λ p h. fields_text s p (kept p h).fit;
  children_run = λ p h. fields_run s p (kept p h).fit;
  child_above = λ p j h. above_owned s p j (kept p h).above;
  child_pattern = λ j h. (listed j h).known;
  owner = λ j h. owner_found s j (listed j h).once;
  one_owner = λ p q j hp hq o. owner_one s j (listed j (run_entry s p j (kept p hp).fit o)).once p q hp hq o;
  stands_once_holds = λ p h. (kept p h).once;
  root_pattern = λ c h. ltb-true _ _ (every_below (root_keeps_rules s) (clauses s) keep_roots c h);
}
  where
    kept : (p : ℕ) → p < patterns s → PatternRules s p
    kept p h = pattern_rules s p (every_below (pattern_keeps_rules s) (patterns s) keep_patterns p h)

    listed : (j : ℕ) → j < children s → EntryRules s j
    listed j h = entry_rules s j (every_below (child_keeps_rules s) (children s) keep_children j h)

pub shaped : (s : List ℕ) → shape_fits s ≡ true → Shaped s
unfolding shape_fits
shaped s keeps =
    let k1 = both_true _ _ keeps in
    let k2 = both_true _ _ k1.1 in
    let k3 = both_true _ _ k2.1 in
    shaped_by_rules s k1.0 k2.0 k3.0

pub shape_depth : (s : List ℕ) → shape_fits s ≡ true → (c : ℕ) → c < clauses s → within depth_most s (root s c) ≡ true
unfolding shape_fits depth_fits
shape_depth s keeps =
    let k1 = both_true (every (pattern_keeps_rules s) 0 (patterns s)) _ keeps in
    let k2 = both_true (every (child_keeps_rules s) 0 (children s)) _ k1.1 in
    let k3 = both_true (every (root_keeps_rules s) 0 (clauses s)) _ k2.1 in
    every_below (depth_fits s) (clauses s) k3.1

-- which kinds have children: assign, and list to tuple
pub assign_parent : (s : List ℕ) (p : ℕ) → pattern_kind s p ≡ assign_pattern → Parent s p
unfolding has_children pattern_kind_of
assign_parent s p e = rw e

numbers_with_children : (kind : PatternKind) → list_pattern ≤ pattern_number kind → pattern_number kind ≤ tuple_pattern → has_children kind ≡ true
unfolding has_children
numbers_with_children Discard low high = absurd (omega arith)
numbers_with_children Variable low high = absurd (omega arith)
numbers_with_children Assign low high = absurd (omega arith)
numbers_with_children Integer low high = absurd (omega arith)
numbers_with_children ByteString low high = absurd (omega arith)
numbers_with_children ListOfAll low high = refl
numbers_with_children ListWithRest low high = refl
numbers_with_children Constructor low high = refl
numbers_with_children Pair low high = refl
numbers_with_children Tuple low high = refl
numbers_with_children Unknown low high = absurd (omega arith)

children_number : (kind : PatternKind) → has_children kind ≡ true → (pattern_number kind ≡ assign_pattern) ⊎ ((list_pattern ≤ pattern_number kind) × (pattern_number kind ≤ tuple_pattern))
unfolding has_children
children_number Discard h = absurd (true≢false (sym h))
children_number Variable h = absurd (true≢false (sym h))
children_number Assign h = inl refl
children_number Integer h = absurd (true≢false (sym h))
children_number ByteString h = absurd (true≢false (sym h))
children_number ListOfAll h = inr (omega arith, omega arith)
children_number ListWithRest h = inr (omega arith, omega arith)
children_number Constructor h = inr (omega arith, omega arith)
children_number Pair h = inr (omega arith, omega arith)
children_number Tuple h = inr (omega arith, omega arith)
children_number Unknown h = absurd (true≢false (sym h))

pub many_parent : (s : List ℕ) (p : ℕ) → list_pattern ≤ pattern_kind s p → pattern_kind s p ≤ tuple_pattern → Parent s p
many_parent s p low high =
    let e = pattern_number_lem (pattern_kind s p) in
    numbers_with_children (pattern_kind_of (pattern_kind s p)) (omega arith) (omega arith)

pub parent_kind : (s : List ℕ) (p : ℕ) → Parent s p → (pattern_kind s p ≡ assign_pattern) ⊎ ((list_pattern ≤ pattern_kind s p) × (pattern_kind s p ≤ tuple_pattern))
parent_kind s p has =
    let e = pattern_number_lem (pattern_kind s p) in
    ⊎_elim (λ n. inl (omega arith)) (λ n. inr (omega arith, omega arith)) (children_number (pattern_kind_of (pattern_kind s p)) has)

module _ {s : List ℕ} (sh : Shaped s) where
  -- what stands in a pattern's list
  pub owned_entry : (p j : ℕ) → p < patterns s → Owns s p j → j < children s
  owned_entry p j h o = omega (arith, sh.children_run p h o.parent, o.to)

  pub owned_pattern : (p j : ℕ) → p < patterns s → Owns s p j → child s j < patterns s
  owned_pattern p j h o = sh.child_pattern j (owned_entry p j h o)

  -- where a pattern stands
  once_root : (p : ℕ) → p < patterns s → times (is_root s p) 0 (clauses s) ≤ 1
  once_root p h = omega (arith, sh.stands_once_holds p h)

  once_entry : (p : ℕ) → p < patterns s → times (is_entry s p) 0 (children s) ≤ 1
  once_entry p h = omega (arith, sh.stands_once_holds p h)

  pub one_clause : (c d : ℕ) → c < clauses s → d < clauses s → root s c ≡ root s d → c ≡ d
  unfolding is_root
  one_clause c d hc hd e =
      times_one (is_root s (root s d)) 0 (clauses s) c d (once_root (root s d) (sh.root_pattern d hd))
      (omega arith) (omega arith) (eq-eqb _ _ e) (omega arith) (omega arith) (eq-eqb (root s d) (root s d) refl)

  pub one_entry : (i j : ℕ) → i < children s → j < children s → child s i ≡ child s j → i ≡ j
  unfolding is_entry
  one_entry i j hi hj e =
      times_one (is_entry s (child s j)) 0 (children s) i j (once_entry (child s j) (sh.child_pattern j hj))
      (omega arith) (omega arith) (eq-eqb _ _ e) (omega arith) (omega arith) (eq-eqb (child s j) (child s j) refl)

  pub entry_no_root : (j c : ℕ) → j < children s → c < clauses s → child s j ≡ root s c → ⊥
  unfolding is_root is_entry
  entry_no_root j c hj hc e =
      let r = times_some (is_root s (root s c)) 0 (clauses s) c (omega arith) (omega arith) (eq-eqb (root s c) (root s c) refl) in
      let n = times_some (is_entry s (root s c)) 0 (children s) j (omega arith) (omega arith) (eq-eqb _ _ e) in
      omega (arith, sh.stands_once_holds (root s c) (sh.root_pattern c hc))

  pub root_or_entry : (p : ℕ) → p < patterns s → ((c : ℕ) × (c < clauses s) × (root s c ≡ p)) ⊎ ((j : ℕ) × (j < children s) × (child s j ≡ p))
  unfolding is_root is_entry
  root_or_entry p h = go (times (is_root s p) 0 (clauses s)) refl
    where
      go : (n : ℕ) → times (is_root s p) 0 (clauses s) ≡ n → ((c : ℕ) × (c < clauses s) × (root s c ≡ p)) ⊎ ((j : ℕ) × (j < children s) × (child s j ≡ p))
      go zero e =
          let w = times_found (is_entry s p) 0 (children s) (omega (arith, sh.stands_once_holds p h)) in
          inr (w.0, omega (arith, w.2), eqb-true _ _ w.3)
      go (suc n) e =
          let w = times_found (is_root s p) 0 (clauses s) (omega arith) in
          inl (w.0, omega (arith, w.2), eqb-true _ _ w.3)

-- a child is one level deeper
pub within_child : (s : List ℕ) (deep p j : ℕ) → within (suc deep) s p ≡ true → Owns s p j → within deep s (child s j) ≡ true
unfolding within
within_child s deep p j h o =
    every_true (λ i. within deep s (child s i)) (pattern_first s p) (pattern_count s p) (rw (o.parent, within) at h) j o.from o.to

-- ---- 2 to 11: an accepted sheet
pub record Accepted (s : List ℕ) : Type 0 where
  pub is_laid : Laid s
  pub is_counted : Counted s
  pub is_typed : Typed s
  pub none_transparent : (t : ℕ) → t < types s → transparent s t ≡ false
  pub is_shaped : Shaped s
  pub root_depth : (c : ℕ) → c < clauses s → within depth_most s (root s c) ≡ true
  pub integer_canonical : (p : ℕ) → p < patterns s → pattern_kind s p ≡ integer_pattern → canonical (pool_text s (pattern_first s p) (pattern_count s p)) ≡ true
  pub text_short : (p : ℕ) → p < patterns s → integer_pattern ≤ pattern_kind s p → pattern_kind s p ≤ byte_string_pattern → pattern_count s p ≤ text_most
  pub clause_fits : (c : ℕ) → c < clauses s → fits (clause_pattern s c) s ≡ true
  pub names_once : (c : ℕ) → c < clauses s → repeats (names (clause_pattern s c)) ≡ false

module _ (s : List ℕ) (p : ℕ) (good : bad_text s p ≡ false) where
  good_of_kind : (kind : PatternKind) → pattern_kind_of (pattern_kind s p) ≡ kind → text_of_kind s p kind ≡ true
  unfolding bad_text
  good_of_kind kind e = rw e at (not-false (text_of_kind s p (pattern_kind_of (pattern_kind s p))) good)

  good_integer : pattern_kind s p ≡ integer_pattern → (short_text (pattern_count s p) ≡ true) × (canonical (pool_text s (pattern_first s p) (pattern_count s p)) ≡ true)
  unfolding text_of_kind pattern_kind_of
  good_integer e = both_true _ _ (good_of_kind Integer (rw e))

  good_short : integer_pattern ≤ pattern_kind s p → pattern_kind s p ≤ byte_string_pattern → pattern_count s p ≤ text_most
  unfolding text_of_kind pattern_kind_of short_text
  good_short low high =
      ⊎_elim (λ e. leb-true _ _ (good_of_kind ByteString (rw e))) (λ l. leb-true _ _ (good_integer (omega arith)).0) (eq-or-lt_of_le high)

-- ---- what each stage of the verdict gives
-- 2 to 6: the sections read, and the types keep their rules
pub record Readable (s : List ℕ) : Type 0 where
  pub is_laid : Laid s
  pub is_counted : Counted s
  pub is_typed : Typed s

pub readable : (s : List ℕ) → readable_verdict s ≡ accepted → Readable s
unfolding readable_verdict
readable s h =
    let v2 = require_accepted (length_fits s) length_refusal _ h in
    let v3 = require_accepted (layout_fits s) layout_refusal _ v2.1 in
    let v4 = require_accepted (has_clause s) no_clause_refusal _ v3.1 in
    let v5 = require_accepted (counts_fit s) count_refusal _ v4.1 in
    let v6 = require_accepted (types_fit s) types_refusal accepted v5.1 in
    record { is_laid = laid s v2.0 v3.0; is_counted = counted s v4.0 v5.0; is_typed = typed s v6.0 }

-- 7
pub no_transparent : (s : List ℕ) → transparent_verdict s ≡ accepted → (t : ℕ) → t < types s → transparent s t ≡ false
unfolding transparent_verdict lowest_transparent
no_transparent s h = none_below (transparent s) (types s) (require_none_accepted (lowest_transparent s) transparent_refusal accepted h).0

-- 8
pub in_shape : (s : List ℕ) → shape_verdict s ≡ accepted → shape_fits s ≡ true
unfolding shape_verdict
in_shape s h = (require_accepted (shape_fits s) shape_refusal accepted h).0

-- 9 to 11
pub record ClausesFit (s : List ℕ) : Type 0 where
  pub good_texts : (p : ℕ) → p < patterns s → bad_text s p ≡ false
  pub no_misfit : (c : ℕ) → c < clauses s → misfit s c ≡ false
  pub no_name_twice : (c : ℕ) → c < clauses s → name_twice s c ≡ false

pub clauses_fit : (s : List ℕ) → clauses_verdict s ≡ accepted → ClausesFit s
unfolding clauses_verdict lowest_bad_text lowest_misfit lowest_name_twice
clauses_fit s h =
    let v9 = require_none_accepted (lowest_bad_text s) text_refusal _ h in
    let v10 = require_none_accepted (lowest_misfit s) misfit_refusal _ v9.1 in
    let v11 = require_none_accepted (lowest_name_twice s) name_twice_refusal accepted v10.1 in
    record {
      good_texts = none_below (bad_text s) (patterns s) v9.0;
      no_misfit = none_below (misfit s) (clauses s) v10.0;
      no_name_twice = none_below (name_twice s) (clauses s) v11.0;
    }

pub accepted_sheet : (s : List ℕ) → verdict s ≡ accepted → Accepted s
unfolding verdict misfit name_twice
accepted_sheet s h =
    let (v6, after6) = and_then_accepted (readable_verdict s) _ h in
    let (v7, after7) = and_then_accepted (transparent_verdict s) _ after6 in
    let (v8, v11) = and_then_accepted (shape_verdict s) (clauses_verdict s) after7 in
    let reads = readable s v6 in
    let fit = in_shape s v8 in
    let each = clauses_fit s v11 in
    record {
      is_laid = reads.is_laid;
      is_counted = reads.is_counted;
      is_typed = reads.is_typed;
      none_transparent = no_transparent s v7;
      is_shaped = shaped s fit;
      root_depth = shape_depth s fit;
      integer_canonical = λ p l e. (good_integer s p (each.good_texts p l) e).1;
      text_short = λ p l. good_short s p (each.good_texts p l);
      clause_fits = λ c l. not-false _ (each.no_misfit c l);
      names_once = each.no_name_twice;
    }
