-- 01, "One listing, entire": the text of a tree file, and of a refused sheet, in ASCII.
-- "First line: nodes, bindings; then node number, kind, path (`.` if empty, steps joined by `.`) or clause, and the rest."
use Rattle.std.specs.Prelude.{ℕ, zero, suc, ◌+◌, ◌/◌, ◌%◌, Bool, true, false, List, [], ◌∷◌, ◌++◌, ltb}
use Rattle.base_words.specs.Words.{pick}
use Rattle.spec_rules.specs.Limits.{tree_room, work_room}
use Rattle.spec_rules.specs.Rows.{Step, pair, tuple, constr, list, listtail, Path}
use Rattle.spec_rules.specs.Splitting.{Test, Constr, Int, Bytes, ListOf, ListWithTail}
use Rattle.spec_rules.specs.TreeReader.{nodes, bindings, node_kind, node_path, node_first_case, node_cases, node_tail_cases, node_default, node_clause, node_first_binding, node_bindings, node_child, case_child, binding_name, binding_path, path_at, case_test, NodeKind, Switch, List_switch, Leaf, Hoist_node, Unknown_node, node_kind_of}
use Rattle.spec_rules.specs.Calls.{Answer, answers, refuses, Built, build_answer, sheet_tree_file}

-- ---- the words of a listing
-- tree
abbrev pub tree_word : List ℕ
tree_word = 116 ∷ 114 ∷ 101 ∷ 101 ∷ []

-- switch
abbrev pub switch_word : List ℕ
switch_word = 115 ∷ 119 ∷ 105 ∷ 116 ∷ 99 ∷ 104 ∷ []

-- listswitch
abbrev pub listswitch_word : List ℕ
listswitch_word = 108 ∷ 105 ∷ 115 ∷ 116 ∷ 115 ∷ 119 ∷ 105 ∷ 116 ∷ 99 ∷ 104 ∷ []

-- leaf
abbrev pub leaf_word : List ℕ
leaf_word = 108 ∷ 101 ∷ 97 ∷ 102 ∷ []

-- hoist
abbrev pub hoist_word : List ℕ
hoist_word = 104 ∷ 111 ∷ 105 ∷ 115 ∷ 116 ∷ []

-- then
abbrev pub then_word : List ℕ
then_word = 116 ∷ 104 ∷ 101 ∷ 110 ∷ []

-- else
abbrev pub else_word : List ℕ
else_word = 101 ∷ 108 ∷ 115 ∷ 101 ∷ []

-- refused
abbrev pub refused_word : List ℕ
refused_word = 114 ∷ 101 ∷ 102 ∷ 117 ∷ 115 ∷ 101 ∷ 100 ∷ []

-- pair_
abbrev pub pair_step_word : List ℕ
pair_step_word = 112 ∷ 97 ∷ 105 ∷ 114 ∷ 95 ∷ []

-- tuple_
abbrev pub tuple_step_word : List ℕ
tuple_step_word = 116 ∷ 117 ∷ 112 ∷ 108 ∷ 101 ∷ 95 ∷ []

-- constr_
abbrev pub constr_step_word : List ℕ
constr_step_word = 99 ∷ 111 ∷ 110 ∷ 115 ∷ 116 ∷ 114 ∷ 95 ∷ []

-- list_
abbrev pub list_step_word : List ℕ
list_step_word = 108 ∷ 105 ∷ 115 ∷ 116 ∷ 95 ∷ []

-- listtail_
abbrev pub listtail_step_word : List ℕ
listtail_step_word = 108 ∷ 105 ∷ 115 ∷ 116 ∷ 116 ∷ 97 ∷ 105 ∷ 108 ∷ 95 ∷ []

-- _true
abbrev pub true_flag : List ℕ
true_flag = 95 ∷ 116 ∷ 114 ∷ 117 ∷ 101 ∷ []

-- _false
abbrev pub false_flag : List ℕ
false_flag = 95 ∷ 102 ∷ 97 ∷ 108 ∷ 115 ∷ 101 ∷ []

-- Constr(
abbrev pub ConstrTest : List ℕ
ConstrTest = 67 ∷ 111 ∷ 110 ∷ 115 ∷ 116 ∷ 114 ∷ 40 ∷ []

-- Int(
abbrev pub IntTest : List ℕ
IntTest = 73 ∷ 110 ∷ 116 ∷ 40 ∷ []

-- Bytes(
abbrev pub BytesTest : List ℕ
BytesTest = 66 ∷ 121 ∷ 116 ∷ 101 ∷ 115 ∷ 40 ∷ []

-- List(
abbrev pub ListTest : List ℕ
ListTest = 76 ∷ 105 ∷ 115 ∷ 116 ∷ 40 ∷ []

-- ListWithTail(
abbrev pub ListWithTailTest : List ℕ
ListWithTailTest = 76 ∷ 105 ∷ 115 ∷ 116 ∷ 87 ∷ 105 ∷ 116 ∷ 104 ∷ 84 ∷ 97 ∷ 105 ∷ 108 ∷ 40 ∷ []

-- ---- numbers and texts
-- n in decimal, of at most `most` digits
unfoldable pub decimal_to : ℕ → ℕ → List ℕ
decimal_to zero n = []
decimal_to (suc most) n = pick (ltb n 10) ((48 + n) ∷ []) (decimal_to most (n / 10) ++ (48 + n % 10) ∷ [])

-- every number of a listing is a u16, or counts records of a file whose length is one: five digits are enough
unfoldable pub decimal : ℕ → List ℕ
unfolding decimal_to
decimal n = decimal_to 5 n

unfoldable pub hex_digit : ℕ → ℕ
hex_digit d = pick (ltb d 10) (48 + d) (87 + d)

-- "Byte tests print in lower-case hex"
unfoldable pub hex : List ℕ → List ℕ
unfolding hex_digit
hex [] = []
hex (b ∷ bs) = hex_digit (b / 16) ∷ hex_digit (b % 16) ∷ hex bs

-- ---- paths
unfoldable pub flag_text : Bool → List ℕ
flag_text true = true_flag
flag_text false = false_flag

unfoldable pub step_text : Step → List ℕ
unfolding decimal flag_text
step_text (pair i t) = pair_step_word ++ decimal i
step_text (tuple i t) = tuple_step_word ++ decimal i
step_text (constr i b t) = constr_step_word ++ (decimal i ++ flag_text b)
step_text (list i t) = list_step_word ++ decimal i
step_text (listtail i t) = listtail_step_word ++ decimal i

-- the steps after the first, each behind its `.`
unfoldable pub more_steps : Path → List ℕ
unfolding step_text
more_steps [] = []
more_steps (s ∷ ss) = 46 ∷ (step_text s ++ more_steps ss)

unfoldable pub path_text : Path → List ℕ
unfolding step_text more_steps
path_text [] = 46 ∷ []
path_text (s ∷ ss) = step_text s ++ more_steps ss

-- ---- cases and bindings
unfoldable pub test_text : Test → List ℕ
unfolding decimal hex
test_text (Constr a) = ConstrTest ++ (decimal a ++ 41 ∷ [])
test_text (Int w) = IntTest ++ (w ++ 41 ∷ [])
test_text (Bytes w) = BytesTest ++ (hex w ++ 41 ∷ [])
test_text (ListOf n) = ListTest ++ (decimal n ++ 41 ∷ [])
test_text (ListWithTail n) = ListWithTailTest ++ (decimal n ++ 41 ∷ [])

-- the n cases from i on: ` TEST:CHILD`
unfoldable pub cases_text : List ℕ → ℕ → ℕ → List ℕ
unfolding test_text case_test case_child decimal
cases_text t i zero = []
cases_text t i (suc n) = 32 ∷ (test_text (case_test t i) ++ (58 ∷ (decimal (case_child t i) ++ cases_text t (i + 1) n)))

-- the n bindings from b on: ` nNAME=PATH`
unfoldable pub bindings_text : List ℕ → ℕ → ℕ → List ℕ
unfolding binding_name binding_path path_at path_text decimal
bindings_text t b zero = []
bindings_text t b (suc n) = 32 ∷ 110 ∷ (decimal (binding_name t b) ++ (61 ∷ (path_text (path_at t (binding_path t b)) ++ bindings_text t (b + 1) n)))

-- "an absent default is omitted"
unfoldable pub default_text : ℕ → List ℕ
unfolding decimal
default_text zero = []
default_text (suc k) = 32 ∷ (else_word ++ (32 ∷ decimal k))

-- ---- lines
unfoldable pub switch_text : List ℕ → ℕ → List ℕ
unfolding node_path node_first_case node_cases node_tail_cases node_default path_at path_text cases_text default_text
switch_text t k =
    32 ∷ (path_text (path_at t (node_path t k))
    ++ (cases_text t (node_first_case t k) (node_cases t k + node_tail_cases t k)
    ++ default_text (node_default t k)))

unfoldable pub node_text : List ℕ → ℕ → NodeKind → List ℕ
unfolding switch_text node_clause node_first_binding node_bindings node_child bindings_text decimal
node_text t k Switch = switch_word ++ switch_text t k
node_text t k List_switch = listswitch_word ++ switch_text t k
node_text t k Leaf = leaf_word ++ (32 ∷ (decimal (node_clause t k) ++ bindings_text t (node_first_binding t k) (node_bindings t k)))
node_text t k Hoist_node =
    hoist_word
    ++ (32 ∷ (decimal (node_clause t k)
    ++ (32 ∷ (then_word
    ++ (32 ∷ (decimal (node_child t k)
    ++ bindings_text t (node_first_binding t k) (node_bindings t k)))))))
node_text t k Unknown_node = []

-- the lines of the n nodes from k on; a newline ends every line
unfoldable pub node_lines : List ℕ → ℕ → ℕ → List ℕ
unfolding decimal node_text node_kind_of node_kind
node_lines t k zero = []
node_lines t k (suc n) = decimal k ++ (32 ∷ (node_text t k (node_kind_of (node_kind t k)) ++ (10 ∷ node_lines t (k + 1) n)))

unfoldable pub first_line : List ℕ → List ℕ
unfolding decimal nodes bindings
first_line t = tree_word ++ (32 ∷ (decimal (nodes t) ++ (32 ∷ (decimal (bindings t) ++ 10 ∷ []))))

unfoldable pub listing : List ℕ → List ℕ
unfolding first_line node_lines nodes
listing t = first_line t ++ node_lines t 0 (nodes t)

-- "a refused sheet prints `refused NUMBER PLACE`"
unfoldable pub refused_line : ℕ → ℕ → List ℕ
unfolding decimal
refused_line number place = refused_word ++ (32 ∷ (decimal number ++ (32 ∷ (decimal place ++ 10 ∷ []))))

-- what the lister prints of a sheet
unfoldable pub printed : Answer Built → List ℕ → List ℕ
unfolding listing refused_line
printed (answers b) t = listing t
printed (refuses number place) t = refused_line number place

unfoldable pub sheet_listing : List ℕ → List ℕ
unfolding printed build_answer sheet_tree_file
sheet_listing s = printed (build_answer s tree_room work_room) (sheet_tree_file s)
