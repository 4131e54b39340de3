-- 01, "Refusal numbers, in the order they are tried": 2 to 11, of a sheet.
-- Each is a test of the sheet's bytes; `verdict` tries them in 01's order, in four stages that a call may take apart.
use Rattle.std.specs.Prelude.{ℕ, zero, suc, ◌+◌, ◌-◌, ◌%◌, Bool, true, false, not, List, [], ◌∷◌, length, eqb, leb, ltb}
use Rattle.std.proofs.Math.Option.{Option, none, some}
use Rattle.base_words.specs.Words.{both, either, pick}
use Rattle.spec_rules.specs.Limits.{sheet_trailer, sheet_most, types_most, constructors_most, entries_most, patterns_most, children_most, clauses_most, depth_most}
use Rattle.spec_rules.specs.Kinds.{bytes_type, list_type, pair_type, tuple_type, data_type, no_flag, opaque_flag, both_flags, variable_pattern}
use Rattle.spec_rules.specs.RefusalNumbers.{length_refusal, layout_refusal, no_clause_refusal, count_refusal, types_refusal, transparent_refusal, shape_refusal, text_refusal, misfit_refusal, name_twice_refusal}
use Rattle.spec_rules.specs.Searching.{every, lowest, times}
use Rattle.spec_rules.specs.SheetFile.{subject, sheet_length, types_at, constructors_at, entries_at, patterns_at, children_at, clauses_at, pool_at, pool_end, sheet_sizes, sheet_places, types, constructors, entries, patterns, children, clauses, pool_size, type_kind, type_flag, type_first, type_count, constructor_first, constructor_count, entry, pattern_kind, pattern_zero, pattern_a, pattern_first, pattern_count, child, root, pool_text, run_in}
use Rattle.spec_rules.specs.Patterns.{PatternKind, Discard, Variable, Assign, Integer, ByteString, ListOfAll, ListWithRest, Constructor, Pair, Tuple, Unknown, pattern_kind_of, clause_pattern, fits, names}
use Rattle.spec_rules.specs.Texts.{canonical, short_text}

-- ---- 2 Length: "sheet under 18 or over 8,192 bytes, or trailer length differs"
unfoldable pub length_fits : List ℕ → Bool
unfolding sheet_length
length_fits s = both (leb sheet_trailer (length s)) (both (leb (length s) sheet_most) (eqb (sheet_length s) (length s)))

-- ---- 3 Layout: "starts don't rise from 0 (equal allowed), pass the trailer, or cut a record"
-- from `from` to `to` there are whole records of `size` bytes
unfoldable pub whole_records : ℕ → ℕ → ℕ → Bool
whole_records size from to = both (leb from to) (eqb ((to - from) % size) 0)

-- the same from each of these places to the next, each by its own size
abbrev pub whole_between : List ℕ → List ℕ → Bool
whole_between [] places = true
whole_between (size ∷ sizes) [] = false
whole_between (size ∷ sizes) (from ∷ []) = false
whole_between (size ∷ []) (from ∷ to ∷ places) = whole_records size from to
whole_between (size ∷ next ∷ sizes) (from ∷ to ∷ places) = both (whole_records size from to) (whole_between (next ∷ sizes) (to ∷ places))

unfoldable pub layout_fits : List ℕ → Bool
unfolding types_at constructors_at entries_at patterns_at children_at clauses_at pool_at pool_end whole_records
layout_fits s = both (eqb (types_at s) 0) (whole_between sheet_sizes (sheet_places s))

-- ---- 4 No clause: "clause section empty"
unfoldable pub has_clause : List ℕ → Bool
unfolding clauses
has_clause s = ltb 0 (clauses s)

-- ---- 5 Count: "over 64 types, 128 constructors, 256 type entries, 192 patterns, 192 children or 32 clauses"
unfoldable pub counts_fit : List ℕ → Bool
unfolding types constructors entries patterns children clauses
counts_fit s =
    both (leb (types s) types_most)
    (both (leb (constructors s) constructors_most)
    (both (leb (entries s) entries_most)
    (both (leb (patterns s) patterns_most)
    (both (leb (children s) children_most)
    (leb (clauses s) clauses_most)))))

-- ---- 6 Types: "a type, constructor, type entry or the subject breaks the rules above"
-- "Kinds: 0 Int, 1 Bytes (first and count 0); 2 List (1 entry), 3 Pair (2), 4 Tuple (2 or more), all in the type list;
-- 5 Data (1 or more constructors)"
unfoldable pub type_parts : List ℕ → ℕ → Bool
unfolding types constructors entries type_kind type_first type_count run_in
type_parts s t =
    pick (leb (type_kind s t) bytes_type) (both (eqb (type_first s t) 0) (eqb (type_count s t) 0))
    (pick (eqb (type_kind s t) list_type) (both (eqb (type_count s t) 1) (run_in (type_first s t) (type_count s t) (entries s)))
    (pick (eqb (type_kind s t) pair_type) (both (eqb (type_count s t) 2) (run_in (type_first s t) (type_count s t) (entries s)))
    (pick (eqb (type_kind s t) tuple_type) (both (leb 2 (type_count s t)) (run_in (type_first s t) (type_count s t) (entries s)))
    (pick (eqb (type_kind s t) data_type) (both (leb 1 (type_count s t)) (run_in (type_first s t) (type_count s t) (constructors s)))
    false))))

-- "Flags, Data only: 1 opaque, 2 list-decorated, 3 both"
unfoldable pub type_flags : List ℕ → ℕ → Bool
unfolding type_kind type_flag
type_flags s t = either (eqb (type_flag s t) no_flag) (both (eqb (type_kind s t) data_type) (leb (type_flag s t) both_flags))

unfoldable pub type_keeps_rules : List ℕ → ℕ → Bool
unfolding type_parts type_flags
type_keeps_rules s t = both (type_parts s t) (type_flags s t)

-- "constructor, 4 bytes: first, count in the type list (count 0 allowed)"
unfoldable pub constructor_keeps_rules : List ℕ → ℕ → Bool
unfolding entries constructor_first constructor_count run_in
constructor_keeps_rules s c = run_in (constructor_first s c) (constructor_count s c) (entries s)

-- "type list: u16 type numbers"
unfoldable pub entry_keeps_rules : List ℕ → ℕ → Bool
unfolding types entry
entry_keeps_rules s e = ltb (entry s e) (types s)

unfoldable pub types_fit : List ℕ → Bool
unfolding every types constructors entries subject type_keeps_rules constructor_keeps_rules entry_keeps_rules
types_fit s =
    both (every (type_keeps_rules s) 0 (types s))
    (both (every (constructor_keeps_rules s) 0 (constructors s))
    (both (every (entry_keeps_rules s) 0 (entries s))
    (ltb (subject s) (types s))))

-- ---- 7 Transparent: "Data, opaque flag 1 only, one constructor with one field", the lowest type
unfoldable pub transparent : List ℕ → ℕ → Bool
unfolding type_kind type_flag type_first type_count constructor_count
transparent s t =
    both (eqb (type_kind s t) data_type)
    (both (eqb (type_flag s t) opaque_flag)
    (both (eqb (type_count s t) 1)
    (eqb (constructor_count s (type_first s t)) 1)))

unfoldable pub lowest_transparent : List ℕ → Option ℕ
unfolding lowest types transparent
lowest_transparent s = lowest (transparent s) 0 (types s)

-- ---- 8 Shape: "a pattern, child or root breaks the rules above; a tail that is not a variable or discard; a tail with no
-- element before it; depth 13"
-- which patterns have their first and count in the child list
unfoldable pub has_children : PatternKind → Bool
has_children Discard = false
has_children Variable = false
has_children Assign = true
has_children Integer = false
has_children ByteString = false
has_children ListOfAll = true
has_children ListWithRest = true
has_children Constructor = true
has_children Pair = true
has_children Tuple = true
has_children Unknown = false

-- the last child of a list with tail is a variable or discard
unfoldable pub tail_fits : List ℕ → ℕ → Bool
unfolding pattern_kind pattern_first pattern_count child
tail_fits s p = leb (pattern_kind s (child s (pattern_first s p + (pattern_count s p - 1)))) variable_pattern

-- a, first and count of a pattern, by its kind. "Unused fields are 0, and in any record first is 0 where count is 0"
unfoldable pub fields_fit : List ℕ → ℕ → PatternKind → Bool
unfolding children pool_size pattern_a pattern_first pattern_count run_in tail_fits
fields_fit s p Discard = both (eqb (pattern_a s p) 0) (both (eqb (pattern_first s p) 0) (eqb (pattern_count s p) 0))
fields_fit s p Variable = both (eqb (pattern_first s p) 0) (eqb (pattern_count s p) 0)
fields_fit s p Assign = both (eqb (pattern_count s p) 1) (run_in (pattern_first s p) (pattern_count s p) (children s))
fields_fit s p Integer = both (eqb (pattern_a s p) 0) (run_in (pattern_first s p) (pattern_count s p) (pool_size s))
fields_fit s p ByteString = both (eqb (pattern_a s p) 0) (run_in (pattern_first s p) (pattern_count s p) (pool_size s))
fields_fit s p ListOfAll = both (eqb (pattern_a s p) 0) (run_in (pattern_first s p) (pattern_count s p) (children s))
fields_fit s p ListWithRest =
    both (eqb (pattern_a s p) 0) (both (leb 2 (pattern_count s p)) (both (run_in (pattern_first s p) (pattern_count s p) (children s)) (tail_fits s p)))
fields_fit s p Constructor = run_in (pattern_first s p) (pattern_count s p) (children s)
fields_fit s p Pair = both (eqb (pattern_a s p) 0) (both (eqb (pattern_count s p) 2) (run_in (pattern_first s p) (pattern_count s p) (children s)))
fields_fit s p Tuple = both (eqb (pattern_a s p) 0) (run_in (pattern_first s p) (pattern_count s p) (children s))
fields_fit s p Unknown = false

-- "Every child has a larger number than its parent"
unfoldable pub is_above : List ℕ → ℕ → ℕ → Bool
unfolding child patterns
is_above s p j = both (ltb p (child s j)) (ltb (child s j) (patterns s))

unfoldable pub children_above : List ℕ → ℕ → PatternKind → Bool
unfolding every has_children is_above pattern_first pattern_count
children_above s p k = pick (has_children k) (every (is_above s p) (pattern_first s p) (pattern_count s p)) true

-- "each pattern is exactly one clause's root or exactly one entry"
unfoldable pub is_root : List ℕ → ℕ → ℕ → Bool
unfolding root
is_root s p c = eqb (root s c) p

unfoldable pub is_entry : List ℕ → ℕ → ℕ → Bool
unfolding child
is_entry s p j = eqb (child s j) p

unfoldable pub stands_once : List ℕ → ℕ → Bool
unfolding times clauses children is_root is_entry
stands_once s p = eqb (times (is_root s p) 0 (clauses s) + times (is_entry s p) 0 (children s)) 1

unfoldable pub pattern_keeps_rules : List ℕ → ℕ → Bool
unfolding pattern_kind pattern_zero pattern_kind_of fields_fit children_above stands_once
pattern_keeps_rules s p =
    both (eqb (pattern_zero s p) 0)
    (both (fields_fit s p (pattern_kind_of (pattern_kind s p)))
    (both (children_above s p (pattern_kind_of (pattern_kind s p)))
    (stands_once s p)))

-- "each entry is in one pattern's list"
unfoldable pub lists : List ℕ → ℕ → ℕ → Bool
unfolding pattern_kind pattern_kind_of has_children pattern_first pattern_count
lists s j p = both (has_children (pattern_kind_of (pattern_kind s p))) (both (leb (pattern_first s p) j) (ltb j (pattern_first s p + pattern_count s p)))

unfoldable pub child_keeps_rules : List ℕ → ℕ → Bool
unfolding times patterns child lists
child_keeps_rules s j = both (ltb (child s j) (patterns s)) (eqb (times (lists s j) 0 (patterns s)) 1)

unfoldable pub root_keeps_rules : List ℕ → ℕ → Bool
unfolding patterns root
root_keeps_rules s c = ltb (root s c) (patterns s)

-- "Depth counts from 1 at the root and is at most 12": pattern p and what is inside it reach no further than `deep` levels
unfoldable pub within : ℕ → List ℕ → ℕ → Bool
unfolding every pattern_kind pattern_kind_of has_children pattern_first pattern_count child
within zero s p = false
within (suc deep) s p =
    elim (has_children (pattern_kind_of (pattern_kind s p))) [
      | true ↦ every (λ j. within deep s (child s j)) (pattern_first s p) (pattern_count s p)
      | false ↦ true
    ]

unfoldable pub depth_fits : List ℕ → ℕ → Bool
unfolding within root
depth_fits s c = within depth_most s (root s c)

unfoldable pub shape_fits : List ℕ → Bool
unfolding every patterns children clauses pattern_keeps_rules child_keeps_rules root_keeps_rules depth_fits
shape_fits s =
    both (every (pattern_keeps_rules s) 0 (patterns s))
    (both (every (child_keeps_rules s) 0 (children s))
    (both (every (root_keeps_rules s) 0 (clauses s))
    (every (depth_fits s) 0 (clauses s))))

-- ---- 9 Text: "an integer not canonical, a text over 64 bytes", the lowest pattern
unfoldable pub text_of_kind : List ℕ → ℕ → PatternKind → Bool
unfolding pattern_first pattern_count pool_text canonical short_text
text_of_kind s p Discard = true
text_of_kind s p Variable = true
text_of_kind s p Assign = true
text_of_kind s p Integer = both (short_text (pattern_count s p)) (canonical (pool_text s (pattern_first s p) (pattern_count s p)))
text_of_kind s p ByteString = short_text (pattern_count s p)
text_of_kind s p ListOfAll = true
text_of_kind s p ListWithRest = true
text_of_kind s p Constructor = true
text_of_kind s p Pair = true
text_of_kind s p Tuple = true
text_of_kind s p Unknown = true

unfoldable pub bad_text : List ℕ → ℕ → Bool
unfolding pattern_kind pattern_kind_of text_of_kind
bad_text s p = not (text_of_kind s p (pattern_kind_of (pattern_kind s p)))

unfoldable pub lowest_bad_text : List ℕ → Option ℕ
unfolding lowest patterns bad_text
lowest_bad_text s = lowest (bad_text s) 0 (patterns s)

-- ---- 10 Misfit: "a pattern doesn't fit its type, argument counts included", the lowest clause
unfoldable pub misfit : List ℕ → ℕ → Bool
unfolding clause_pattern fits
misfit s c = not (fits (clause_pattern s c) s)

unfoldable pub lowest_misfit : List ℕ → Option ℕ
unfolding lowest clauses misfit
lowest_misfit s = lowest (misfit s) 0 (clauses s)

-- ---- 11 Name twice: "a clause binds one name twice", the lowest clause
unfoldable pub is_in : ℕ → List ℕ → Bool
is_in x [] = false
is_in x (y ∷ ys) = either (eqb x y) (is_in x ys)

unfoldable pub repeats : List ℕ → Bool
unfolding is_in
repeats [] = false
repeats (x ∷ xs) = either (is_in x xs) (repeats xs)

unfoldable pub name_twice : List ℕ → ℕ → Bool
unfolding clause_pattern names repeats
name_twice s c = repeats (names (clause_pattern s c))

unfoldable pub lowest_name_twice : List ℕ → Option ℕ
unfolding lowest clauses name_twice
lowest_name_twice s = lowest (name_twice s) 0 (clauses s)

-- ---- the verdict: the first refusal in 01's order, with its place
pub data Verdict : Type 0 where
  accepted : Verdict
  refused : ℕ → ℕ → Verdict

-- refusal `number` unless the test holds; its place is 0
abbrev pub require : Bool → ℕ → Verdict → Verdict
require true number v = v
require false number v = refused number 0

-- refusal `number` where something was found; its place is what was found
abbrev pub require_none : Option ℕ → ℕ → Verdict → Verdict
require_none none number v = v
require_none (some place) number v = refused number place

-- a verdict, and where it accepts the next
abbrev pub and_then : Verdict → Verdict → Verdict
and_then accepted w = w
and_then (refused number place) w = refused number place

-- 2 to 6: the sections read, and the types keep their rules
unfoldable pub readable_verdict : List ℕ → Verdict
unfolding length_fits layout_fits has_clause counts_fit types_fit
readable_verdict s =
    require (length_fits s) length_refusal
    (require (layout_fits s) layout_refusal
    (require (has_clause s) no_clause_refusal
    (require (counts_fit s) count_refusal
    (require (types_fit s) types_refusal
    accepted))))

-- 7: no type is transparent
unfoldable pub transparent_verdict : List ℕ → Verdict
unfolding lowest_transparent
transparent_verdict s = require_none (lowest_transparent s) transparent_refusal accepted

-- 8: the patterns keep their rules
unfoldable pub shape_verdict : List ℕ → Verdict
unfolding shape_fits
shape_verdict s = require (shape_fits s) shape_refusal accepted

-- 9 to 11: the texts are canonical and short, and each clause fits and binds no name twice
unfoldable pub clauses_verdict : List ℕ → Verdict
unfolding lowest_bad_text lowest_misfit lowest_name_twice
clauses_verdict s =
    require_none (lowest_bad_text s) text_refusal
    (require_none (lowest_misfit s) misfit_refusal
    (require_none (lowest_name_twice s) name_twice_refusal
    accepted))

-- all of them; SheetRefusalsLaws `verdict_in_order` has the ten as one list
unfoldable pub verdict : List ℕ → Verdict
unfolding readable_verdict transparent_verdict shape_verdict clauses_verdict
verdict s = and_then (readable_verdict s) (and_then (transparent_verdict s) (and_then (shape_verdict s) (clauses_verdict s)))
