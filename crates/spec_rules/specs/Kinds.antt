-- Document 01's kinds, each in this one place: of types and their flags, of patterns, of panel records, of nodes, cases and steps; and
-- which of a node's words is what. Every other file of the project names them from here; the proved cases (Proved) write 01's bytes
-- out, and so hold these names to 01.
use Rattle.std.specs.Prelude.{ℕ}

-- Types: "0 Int, 1 Bytes ..; 2 List .., 3 Pair .., 4 Tuple ..; 5 Data".
abbrev pub int_type : ℕ
int_type = 0

abbrev pub bytes_type : ℕ
bytes_type = 1

abbrev pub list_type : ℕ
list_type = 2

abbrev pub pair_type : ℕ
pair_type = 3

abbrev pub tuple_type : ℕ
tuple_type = 4

abbrev pub data_type : ℕ
data_type = 5

-- "Flags, Data only: 1 opaque, 2 list-decorated, 3 both".
abbrev pub no_flag : ℕ
no_flag = 0

abbrev pub opaque_flag : ℕ
opaque_flag = 1

abbrev pub decorated_flag : ℕ
decorated_flag = 2

abbrev pub both_flags : ℕ
both_flags = 3

-- Patterns: "0 discard, 1 variable .., 2 assign .., 3 integer and 4 byte string .., 5 list, 6 list with tail .., 7 constructor ..,
-- 8 pair .., 9 tuple".
abbrev pub discard_pattern : ℕ
discard_pattern = 0

abbrev pub variable_pattern : ℕ
variable_pattern = 1

abbrev pub assign_pattern : ℕ
assign_pattern = 2

abbrev pub integer_pattern : ℕ
integer_pattern = 3

abbrev pub byte_string_pattern : ℕ
byte_string_pattern = 4

abbrev pub list_pattern : ℕ
list_pattern = 5

abbrev pub list_with_tail_pattern : ℕ
list_with_tail_pattern = 6

abbrev pub constructor_pattern : ℕ
constructor_pattern = 7

abbrev pub pair_pattern : ℕ
pair_pattern = 8

abbrev pub tuple_pattern : ℕ
tuple_pattern = 9

-- Panel records: "0 integer, 1 bytes, 2 list, 3 pair, 4 tuple, 5 constructor".
abbrev pub integer_record : ℕ
integer_record = 0

abbrev pub bytes_record : ℕ
bytes_record = 1

abbrev pub list_record : ℕ
list_record = 2

abbrev pub pair_record : ℕ
pair_record = 3

abbrev pub tuple_record : ℕ
tuple_record = 4

abbrev pub constructor_record : ℕ
constructor_record = 5

-- Nodes: "0 switch and 1 list switch .. 2 leaf .. 3 hoist".
abbrev pub switch_node : ℕ
switch_node = 0

abbrev pub list_switch_node : ℕ
list_switch_node = 1

abbrev pub leaf_node : ℕ
leaf_node = 2

abbrev pub hoist_node : ℕ
hoist_node = 3

-- The words of a switch and a list switch: "path, first case, cases, tail cases, default node + 1 or 0".
abbrev pub path_word : ℕ
path_word = 0

abbrev pub first_case_word : ℕ
first_case_word = 1

abbrev pub cases_word : ℕ
cases_word = 2

abbrev pub tail_cases_word : ℕ
tail_cases_word = 3

abbrev pub default_word : ℕ
default_word = 4

-- The words of a leaf and a hoist: "clause, first binding, count", and "child" of a hoist alone.
abbrev pub clause_word : ℕ
clause_word = 0

abbrev pub first_binding_word : ℕ
first_binding_word = 1

abbrev pub bindings_word : ℕ
bindings_word = 2

abbrev pub child_word : ℕ
child_word = 3

-- Cases: "0 Constr, 1 Int, 2 Bytes, 3 List, 4 ListWithTail".
abbrev pub constr_case : ℕ
constr_case = 0

abbrev pub int_case : ℕ
int_case = 1

abbrev pub bytes_case : ℕ
bytes_case = 2

abbrev pub list_case : ℕ
list_case = 3

abbrev pub list_with_tail_case : ℕ
list_with_tail_case = 4

-- Steps: "0 pair, 1 tuple, 2 constr, 3 list, 4 listtail".
abbrev pub pair_step : ℕ
pair_step = 0

abbrev pub tuple_step : ℕ
tuple_step = 1

abbrev pub constr_step : ℕ
constr_step = 2

abbrev pub list_step : ℕ
list_step = 3

abbrev pub listtail_step : ℕ
listtail_step = 4
