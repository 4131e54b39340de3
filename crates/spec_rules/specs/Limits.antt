-- Document 01's numbers, each in this one place: sizes of records, limits and counts.
-- Every other file of the project names them from here.
use Rattle.std.specs.Prelude.{ℕ, ◌+◌, ◌*◌}

-- "Numbers are u16": a number of a file takes two bytes.
abbrev pub word_size : ℕ
word_size = 2

-- The sheet file: records and trailer, in bytes.
abbrev pub type_size : ℕ
type_size = 6

abbrev pub constructor_size : ℕ
constructor_size = 4

abbrev pub entry_size : ℕ
entry_size = 2

abbrev pub pattern_size : ℕ
pattern_size = 8

abbrev pub child_size : ℕ
child_size = 2

abbrev pub clause_size : ℕ
clause_size = 2

-- types, constructors, type list, patterns, child list, clauses, pool
abbrev pub sheet_starts : ℕ
sheet_starts = 7

-- the starts, the subject, the length: 18
abbrev pub sheet_trailer : ℕ
sheet_trailer = word_size * (sheet_starts + 2)

-- Refusal 2: the longest sheet.
abbrev pub sheet_most : ℕ
sheet_most = 8192

-- Refusal 5: the largest counts.
abbrev pub types_most : ℕ
types_most = 64

abbrev pub constructors_most : ℕ
constructors_most = 128

abbrev pub entries_most : ℕ
entries_most = 256

abbrev pub patterns_most : ℕ
patterns_most = 192

abbrev pub children_most : ℕ
children_most = 192

abbrev pub clauses_most : ℕ
clauses_most = 32

-- Refusals 8 and 9: the deepest pattern, the longest text.
abbrev pub depth_most : ℕ
depth_most = 12

abbrev pub text_most : ℕ
text_most = 64

-- Refusals 12 and 13.
abbrev pub nodes_most : ℕ
nodes_most = 1024

abbrev pub bindings_most : ℕ
bindings_most = 4096

-- Refusal 1: the least room of the tree, the work and the binding buffer (the last in u16).
abbrev pub tree_room : ℕ
tree_room = 65536

abbrev pub work_room : ℕ
work_room = 65536

abbrev pub bound_room : ℕ
bound_room = 576

-- The tree file: records and trailer, in bytes; the most bindings of a node.
abbrev pub node_size : ℕ
node_size = 12

abbrev pub case_size : ℕ
case_size = 8

abbrev pub binding_size : ℕ
binding_size = 4

abbrev pub path_size : ℕ
path_size = 4

abbrev pub step_size : ℕ
step_size = 6

-- nodes, cases, bindings, paths, steps, pool
abbrev pub tree_starts : ℕ
tree_starts = 6

-- the starts, the length: 14
abbrev pub tree_trailer : ℕ
tree_trailer = word_size * (tree_starts + 1)

abbrev pub node_bindings_most : ℕ
node_bindings_most = 192

-- The panel file: records and trailer, in bytes; refusals 21, 22 and 23.
abbrev pub record_size : ℕ
record_size = 8

abbrev pub part_size : ℕ
part_size = 2

-- records, children, pool
abbrev pub panel_starts : ℕ
panel_starts = 3

-- the starts, the length: 8
abbrev pub panel_trailer : ℕ
panel_trailer = word_size * (panel_starts + 1)

abbrev pub panel_most : ℕ
panel_most = 16384

abbrev pub records_most : ℕ
records_most = 512

abbrev pub panel_depth_most : ℕ
panel_depth_most = 32
