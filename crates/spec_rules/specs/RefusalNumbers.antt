-- Document 01's refusal numbers, each in this one place, "in the order they are tried".
-- Every other file of the project names them from here; the pages of statements (Theorems of spec_theorems, the demands) and the
-- proved cases keep 01's digits, and so hold these names to 01.
use Rattle.std.specs.Prelude.{ℕ}

-- Of any call's own buffers.
abbrev pub room_refusal : ℕ
room_refusal = 1

-- Of a sheet.
abbrev pub length_refusal : ℕ
length_refusal = 2

abbrev pub layout_refusal : ℕ
layout_refusal = 3

abbrev pub no_clause_refusal : ℕ
no_clause_refusal = 4

abbrev pub count_refusal : ℕ
count_refusal = 5

abbrev pub types_refusal : ℕ
types_refusal = 6

abbrev pub transparent_refusal : ℕ
transparent_refusal = 7

abbrev pub shape_refusal : ℕ
shape_refusal = 8

abbrev pub text_refusal : ℕ
text_refusal = 9

abbrev pub misfit_refusal : ℕ
misfit_refusal = 10

abbrev pub name_twice_refusal : ℕ
name_twice_refusal = 11

-- Of a sheet's tree.
abbrev pub nodes_refusal : ℕ
nodes_refusal = 12

abbrev pub bindings_refusal : ℕ
bindings_refusal = 13

abbrev pub idle_refusal : ℕ
idle_refusal = 14

-- Of a panel; the last of a panel beside a sheet.
abbrev pub panel_length_refusal : ℕ
panel_length_refusal = 21

abbrev pub panel_layout_refusal : ℕ
panel_layout_refusal = 22

abbrev pub panel_shape_refusal : ℕ
panel_shape_refusal = 23

abbrev pub panel_text_refusal : ℕ
panel_text_refusal = 24

abbrev pub panel_misfit_refusal : ℕ
panel_misfit_refusal = 25

-- Of a tree file, of a walk, of a position asked for its text.
abbrev pub tree_refusal : ℕ
tree_refusal = 31

abbrev pub stuck_refusal : ℕ
stuck_refusal = 32

abbrev pub no_text_refusal : ℕ
no_text_refusal = 33
