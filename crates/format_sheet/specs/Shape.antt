-- Refusal 8 in the parts that the code asks, each safe after those before it; ShapeLaws has that together they are refusal 8.
use Rattle.std.specs.Prelude.{ℕ, ◌+◌, ◌≤◌, ◌<◌, Bool, false, List, eqb, leb, ltb}
use Rattle.base_words.specs.Words.{both, pick}
use Rattle.spec_rules.specs.Searching.{every, times}
use Rattle.spec_rules.specs.SheetFile.{patterns, children, clauses, pattern_kind, pattern_zero, pattern_first, pattern_count, child, root, run_in}
use Rattle.spec_rules.specs.Patterns.{PatternKind, Discard, Variable, Assign, Integer, ByteString, ListOfAll, ListWithRest, Constructor, Pair, Tuple, Unknown, pattern_kind_of}
use Rattle.spec_rules.specs.SheetRefusals.{has_children, fields_fit, is_above, lists}
use Rattle.format_sheet.specs.declared.records.PatternRecord.{PatternRecord}
use Rattle.format_sheet.specs.declared.records.Run.{Run}
use Rattle.format_sheet.specs.Records.{no_run}

-- the children of a pattern: a run in the child list, empty where its kind has none
unfoldable pub children_first : List ℕ → ℕ → ℕ
children_first s p = pick (has_children (pattern_kind_of (pattern_kind s p))) (pattern_first s p) 0

unfoldable pub children_count : List ℕ → ℕ → ℕ
children_count s p = pick (has_children (pattern_kind_of (pattern_kind s p))) (pattern_count s p) 0

abbrev pub children_of : List ℕ → ℕ → Run
children_of s p = record { first = children_first s p; count = children_count s p }

-- ---- a, first and count of a pattern over its record; what its tail is comes apart
abbrev pub plain_run : ℕ → ℕ → ℕ → ℕ → Bool
plain_run a first count n = both (eqb a 0) (run_in first count n)

unfoldable pub own_fields : PatternRecord → ℕ → ℕ → PatternKind → Bool
own_fields r inside pool Discard = both (eqb r.a 0) (no_run r.first r.count)
own_fields r inside pool Variable = no_run r.first r.count
own_fields r inside pool Assign = both (eqb r.count 1) (run_in r.first r.count inside)
own_fields r inside pool Integer = plain_run r.a r.first r.count pool
own_fields r inside pool ByteString = plain_run r.a r.first r.count pool
own_fields r inside pool ListOfAll = plain_run r.a r.first r.count inside
own_fields r inside pool ListWithRest = both (leb 2 r.count) (plain_run r.a r.first r.count inside)
own_fields r inside pool Constructor = run_in r.first r.count inside
own_fields r inside pool Pair = both (eqb r.count 2) (plain_run r.a r.first r.count inside)
own_fields r inside pool Tuple = plain_run r.a r.first r.count inside
own_fields r inside pool Unknown = false

-- the record of pattern p
unfoldable pub record_fits : List ℕ → ℕ → Bool
record_fits s p = both (eqb (pattern_zero s p) 0) (fields_fit s p (pattern_kind_of (pattern_kind s p)))

-- ---- child entries and roots are patterns
unfoldable pub child_known : List ℕ → ℕ → Bool
child_known s j = ltb (child s j) (patterns s)

pub record ChildrenKnown (s : List ℕ) : Type 0 where
  pub child_known_holds : (j : ℕ) → j < children s → child s j < patterns s

pub record RootsKnown (s : List ℕ) : Type 0 where
  pub root_known : (c : ℕ) → c < clauses s → root s c < patterns s

-- each pattern's children lie in the child list
pub record RunsInside (s : List ℕ) : Type 0 where
  pub run_inside : (p : ℕ) → p < patterns s → children_first s p + children_count s p ≤ children s

-- ---- each entry is in one list, each child above its parent
unfoldable pub listed_once : List ℕ → ℕ → Bool
listed_once s j = eqb (times (lists s j) 0 (patterns s)) 1

unfoldable pub all_above : List ℕ → ℕ → Bool
all_above s p = every (is_above s p) (children_first s p) (children_count s p)
