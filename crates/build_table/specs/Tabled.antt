-- What the table says: each field of each pattern is the definition of Standing, and each cell the test of its clause there.
-- And what holds while it is filled, from the first pattern on.
use Rattle.std.specs.Prelude.{◌≡◌, false, ◌⊎◌, List, map, ℕ, ◌+◌, ◌*◌, ◌≤◌, ◌<◌, length, get_or}
use Rattle.base_words.specs.Words.{text_at}
use Rattle.spec_rules.specs.Limits.{patterns_most, depth_most}
use Rattle.spec_rules.specs.Searching.{lowest}
use Rattle.spec_rules.specs.SheetFile.{entries, patterns, clauses, pattern_count}
use Rattle.spec_rules.specs.Columns.{step_index}
use Rattle.spec_accepted.specs.SheetFacts.{Parent}
use Rattle.format_sheet.specs.declared.SheetMap.{SheetMap}
use Rattle.format_sheet.specs.declared.records.PatternRecord.{PatternRecord}
use Rattle.format_sheet.specs.declared.records.TypeRecord.{TypeRecord}
use Rattle.format_sheet.specs.Check.{SheetAccepts}
use Rattle.format_sheet.specs.Records.{pattern_of, type_of as type_of_record}
use Rattle.build_table.specs.Standing.{clause_of, path_of, type_of, owner_of, parent_of, above_of, index_of, step_of, step_number, class_of, is_cell, one_more, cell_of}
use Rattle.build_table.specs.Table.{class_at, owner_at, above_at, type_at, step_at, index_at, depth_at, clause_at, indices_at, cells_at, table_size, above_in, same_step_in}

-- what its parent, or its clause, sets of pattern q
pub record Placed (s t : List ℕ) (q : ℕ) : Type 0 where
  pub owner : get_or t (owner_at + q) 0 ≡ owner_of s q
  pub above : get_or t (above_at + q) 0 ≡ above_of s q
  pub type : get_or t (type_at + q) 0 ≡ type_of s q
  pub step : get_or t (step_at + q) 0 ≡ step_number (step_of s q)
  pub index : get_or t (index_at + q) 0 ≡ index_of s q
  pub clause : get_or t (clause_at + q) 0 ≡ clause_of s q

-- what is found of q by what is known of lower patterns
pub record Classed (s t : List ℕ) (q : ℕ) : Type 0 where
  pub class : get_or t (class_at + q) 0 ≡ class_of s q
  pub depth : get_or t (depth_at + q) 0 ≡ length (path_of s q)

-- the indices of its steps
abbrev pub Indexed : List ℕ → List ℕ → ℕ → Type 0
Indexed s t q = text_at t (indices_at + depth_most * q) (length (path_of s q)) ≡ map step_index (path_of s q)

pub record Tabled (s t : List ℕ) : Type 0 where
  pub long : length t ≡ table_size
  pub placed : (q : ℕ) → q < patterns s → Placed s t q
  pub classed : (q : ℕ) → q < patterns s → Classed s t q
  pub indexed : (q : ℕ) → q < patterns s → Indexed s t q
  pub cell : (c class : ℕ) → c < clauses s → class < patterns_most → get_or t (cells_at + patterns_most * c + class) 0 ≡ cell_of s c class

-- the patterns below a have placed their children; those below b are classed, below i indexed, below d in their cells;
-- pattern 0, from which each root goes on, is classed from the start
pub record Filled (s t : List ℕ) (a b i d : ℕ) : Type 0 where
  pub long : length t ≡ table_size
  pub first : Classed s t 0
  pub placed : (q : ℕ) → q < patterns s → parent_of s q ≤ a → Placed s t q
  pub classed : (q : ℕ) → q < patterns s → q < b → Classed s t q
  pub indexed : (q : ℕ) → q < patterns s → q < i → Indexed s t q
  pub cell : (c class : ℕ) → c < clauses s → class < patterns_most → get_or t (cells_at + patterns_most * c + class) 0 ≡ one_more (lowest (is_cell s c class) 0 d)

-- ---- what the parts of filling ask
-- n children of p, with a type entry for each: the same at e for all, or one after the other from e on
pub record Parts (s : List ℕ) (p n e stride : ℕ) : Type 0 where
  pub known : p < patterns s
  pub has : Parent s p
  pub most : n ≤ pattern_count s p
  pub enough : ((stride ≡ 0) × (e < entries s)) ⊎ ((stride ≡ 1) × (e + n ≤ entries s))

-- what was read of pattern p: its record, its type's record, its owner
pub record Reading (s : List ℕ) (m : SheetMap) (t : List ℕ) (p : ℕ) (r : PatternRecord) (ty : TypeRecord) (owner : ℕ) : Type 0 where
  pub checked : SheetAccepts s m
  pub long : length t ≡ table_size
  pub known : p < patterns s
  pub is_pattern : r ≡ pattern_of s p
  pub is_type : ty ≡ type_of_record s (type_of s p)
  pub is_owner : owner ≡ owner_of s p

-- the patterns above those up to p are patterns, and the one above p has a path with room for a step more; the same step as to p leads to
-- no pattern below the class of the one above p
pub record Ranged (t : List ℕ) (p : ℕ) : Type 0 where
  pub long : length t ≡ table_size
  pub known : p < patterns_most
  pub above : (q : ℕ) → q ≤ p → above_in t q < patterns_most
  pub depth : get_or t (depth_at + above_in t p) 0 + 1 < depth_most
  pub class_below : get_or t (class_at + above_in t p) 0 ≤ p
  pub none_below : (q : ℕ) → q < get_or t (class_at + above_in t p) 0 → same_step_in t q p ≡ false

-- the pattern above p has a lower row of indices
pub record RowBelow (t : List ℕ) (p : ℕ) : Type 0 where
  pub ranged : Ranged t p
  pub lower : depth_most * above_in t p + get_or t (depth_at + above_in t p) 0 ≤ depth_most * p
