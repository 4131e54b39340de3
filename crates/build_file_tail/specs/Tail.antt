-- The tail of a tree file: path records, steps, the sheet's pool and the trailer, by the classes of the paths used; and what a writer leaves.
-- Rests on the tree file's definition and on where each pattern stands; a path is the path of its class, a pattern.
use Rattle.std.specs.Prelude.{◌≡◌, List, [], ◌∷◌, ◌++◌, map, ℕ, ◌+◌, ◌≤◌, ◌<◌, eqb, leb, length, get_or}
use Rattle.std.proofs.Math.Option.{Option, none, some}
use Rattle.base_words.specs.Words.{word_bytes, both, pick, text_at}
use Rattle.base_words.specs.Stored.{stored}
use Rattle.spec_rules.specs.Limits.{tree_trailer, tree_room}
use Rattle.spec_rules.specs.Kinds.{data_type, decorated_flag, constr_step}
use Rattle.spec_rules.specs.Sections.{words_of}
use Rattle.spec_rules.specs.SheetFile.{patterns, pool}
use Rattle.spec_rules.specs.Rows.{Step, Path, bit}
use Rattle.spec_rules.specs.Building.{Tree}
use Rattle.spec_rules.specs.Hoisting.{bindings_in}
use Rattle.spec_rules.specs.TreeFile.{first_of, nodes_from, cases_from, bindings_bytes, paths_bytes, steps_bytes}
use Rattle.format_sheet.specs.declared.SheetMap.{SheetMap}
use Rattle.format_sheet.specs.declared.records.TypeRecord.{TypeRecord}
use Rattle.build_table.specs.Standing.{path_of}
use Rattle.build_table.specs.Table.{depth_at}
use Rattle.format_sheet.specs.Check.{SheetAccepts}
use Rattle.build_table.specs.Tabled.{Tabled}

-- ---- what a writer leaves
-- bytes stored from `at` on, which end at `end`
pub record Puts (before after : List ℕ) (at end : ℕ) (bytes : List ℕ) : Type 0 where
  pub is_stored : after ≡ stored before at bytes
  pub is_end : end ≡ at + length bytes

-- a loop that puts a whole stands before the rest of it: the rest stored from here on is the whole stored from its start on
pub record Begun (before now : List ℕ) (from at : ℕ) (whole rest : List ℕ) : Type 0 where
  pub as_long : length now ≡ length before
  pub ends : at + length rest ≡ from + length whole
  pub goes_on : stored now at rest ≡ stored before from whole

-- ---- the paths used
-- the paths of n classes from the i-th on
abbrev pub used_paths : List ℕ → List ℕ → ℕ → ℕ → List Path
used_paths s classes i n = map (path_of s) (text_at classes i n)

-- n classes, each a pattern's number
pub record Used (patterns : ℕ) (classes : List ℕ) (n : ℕ) : Type 0 where
  pub inside : n ≤ length classes
  pub known : (i : ℕ) → i < n → get_or classes i 0 < patterns

-- how many steps the path of a class has, in the table; and together
abbrev pub count_in : List ℕ → ℕ → ℕ
count_in t class = get_or t (depth_at + class) 0

unfoldable pub together : List ℕ → ℕ
together [] = 0
together (n ∷ ns) = n + together ns

-- "Paths: first step, count": by how many steps each has, the first path's steps starting at `first`
abbrev pub path_record : ℕ → ℕ → List ℕ
path_record first count = word_bytes (first_of count first) ++ word_bytes count

unfoldable pub path_records : ℕ → List ℕ → List ℕ
unfolding first_of
path_records first [] = []
path_records first (n ∷ ns) = path_record first n ++ path_records (first + n) ns

-- ---- steps
-- the step by which a pattern is reached, if there is one, as a path of its own
unfoldable pub own_steps : Option Step → Path
own_steps none = []
own_steps (some step) = step ∷ []

-- a step's flag, by its number and its type's record: 1 for a field of a list-decorated one-constructor type
abbrev pub flag_of : ℕ → TypeRecord → ℕ
flag_of step ty = pick (eqb step constr_step) (bit (both (both (eqb ty.kind data_type) (eqb ty.count 1)) (leb decorated_flag ty.flag))) 0

-- ---- the trailer and the whole tail
-- "Trailer, 14 bytes: six starts, file length": the sections after the nodes start at these places, and the trailer at `end`
unfoldable pub trailer_bytes : ℕ → ℕ → ℕ → ℕ → ℕ → ℕ → List ℕ
trailer_bytes cases bindings paths steps pool end = words_of (0 ∷ cases ∷ bindings ∷ paths ∷ steps ∷ pool ∷ (end + tree_trailer) ∷ [])

-- what stands before the paths: nodes, cases and bindings
unfoldable pub front_bytes : List Path → Tree → List ℕ
unfolding nodes_from cases_from bindings_bytes bindings_in
front_bytes table a = nodes_from table 0 0 0 a ++ (cases_from 0 a ++ bindings_bytes table (bindings_in a))

-- what follows the bindings, which end at `at`
unfoldable pub tail_bytes : List ℕ → List Path → ℕ → ℕ → ℕ → List ℕ
unfolding paths_bytes steps_bytes trailer_bytes
tail_bytes pool table cases bindings at =
    paths_bytes 0 table
    ++ (steps_bytes table
    ++ (pool
    ++ trailer_bytes cases bindings at (at + length (paths_bytes 0 table)) (at + length (paths_bytes 0 table) + length (steps_bytes table))
    (at + length (paths_bytes 0 table) + length (steps_bytes table) + length pool)))

-- of a sheet, where so many classes are used
abbrev pub sheet_tail : List ℕ → List ℕ → ℕ → ℕ → ℕ → ℕ → List ℕ
sheet_tail s classes n cases bindings at = tail_bytes (pool s) (used_paths s classes 0 n) cases bindings at

-- what writing the tail asks: the sheet's table, the classes, where the sections before start, and room
pub record TailReady (s : List ℕ) (m : SheetMap) (t classes : List ℕ) (n : ℕ) (tree : List ℕ) (cases bindings at : ℕ) : Type 0 where
  pub checked : SheetAccepts s m
  pub tabled : Tabled s t
  pub used : Used (patterns s) classes n
  pub cases_first : cases ≤ bindings
  pub bindings_first : bindings ≤ at
  pub inside : at + length (sheet_tail s classes n cases bindings at) ≤ length tree
  pub small : at + length (sheet_tail s classes n cases bindings at) < tree_room
