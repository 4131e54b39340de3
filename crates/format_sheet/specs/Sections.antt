-- Where the sections of a sheet are and how many records each has, as the check hands it on; refusal 5 over those numbers.
-- Rests on the definitions of spec_rules; SectionsLaws has that they agree.
use Rattle.std.specs.Prelude.{Bool, List, ℕ, leb}
use Rattle.base_words.specs.Words.{both}
use Rattle.spec_rules.specs.Limits.{types_most, constructors_most, entries_most, patterns_most, children_most, clauses_most}
use Rattle.spec_rules.specs.SheetFile.{subject, types_at, constructors_at, entries_at, patterns_at, children_at, clauses_at, pool_at, types, constructors, entries, patterns, children, clauses, pool_size}
use Rattle.format_sheet.specs.declared.SheetMap.{SheetMap}

abbrev pub map_of : List ℕ → SheetMap
map_of s = record {
  types = record { start = types_at s; count = types s };
  constructors = record { start = constructors_at s; count = constructors s };
  entries = record { start = entries_at s; count = entries s };
  patterns = record { start = patterns_at s; count = patterns s };
  children = record { start = children_at s; count = children s };
  clauses = record { start = clauses_at s; count = clauses s };
  pool = record { start = pool_at s; count = pool_size s };
  subject = subject s;
}

-- 5, of the counts of a map
unfoldable pub few_enough : SheetMap → Bool
few_enough m =
    both (leb m.types.count types_most)
    (both (leb m.constructors.count constructors_most)
    (both (leb m.entries.count entries_most)
    (both (leb m.patterns.count patterns_most)
    (both (leb m.children.count children_most)
    (leb m.clauses.count clauses_most)))))
