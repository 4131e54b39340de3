-- What the reader of a sheet is: the sheet's slice and its seven starts; and what an accepted sheet has at the number of a clause.
-- Rests on the definitions of spec_rules and on the records of the crate format_sheet.
use Rattle.std.specs.Prelude.{◌≡◌, Bool, true, false, List, ℕ, ltb, Option, Some, None}
use Rattle.std.specs.Borrow.{Bor}
use Rattle.spec_rules.specs.SheetFile.{clauses, root}
use Rattle.spec_accepted.specs.SheetFacts.{Laid}
use Rattle.format_sheet.specs.declared.SheetMap.{SheetMap}
use Rattle.format_sheet.specs.declared.records.PatternRecord.{PatternRecord}
use Rattle.format_sheet.specs.Sections.{map_of}
use Rattle.format_sheet.specs.Records.{pattern_of}
use Rattle.format_sheet_reader.specs.declared.Reader.{Reader}

-- the reader of a slice, with the starts of a map
abbrev pub opened : Bor (List ℕ) → SheetMap → Reader
opened sheet m = record {
  sheet = sheet;
  types = m.types.start;
  constructors = m.constructors.start;
  entries = m.entries.start;
  patterns = m.patterns.start;
  children = m.children.start;
  clauses = m.clauses.start;
  pool = m.pool.start;
}

-- a reader of a laid-out sheet at that sheet's own starts
pub record Opened (r : Reader) : Type 0 where
  pub is_laid : Laid r.sheet.now
  pub is_open : r ≡ opened r.sheet (map_of r.sheet.now)

-- ---- the fields of clause c's root pattern, where there is such a clause
abbrev pub if_there : Bool → PatternRecord → Option PatternRecord
if_there true x = Some x
if_there false x = None

abbrev pub clause_pattern_of : List ℕ → ℕ → Option PatternRecord
clause_pattern_of s c = if_there (ltb c (clauses s)) (pattern_of s (root s c))
