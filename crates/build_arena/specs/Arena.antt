-- The arena: the bytes of a tree's nodes, cases and bindings, each section at a fixed place of the work buffer, with room for as many
-- records as a tree may have. They are those of the tree file over another table of paths.
use Rattle.std.specs.Prelude.{ℕ, ◌+◌, ◌*◌, List}
use Rattle.spec_rules.specs.Limits.{nodes_most, bindings_most, node_size, case_size, binding_size}
use Rattle.spec_rules.specs.Rows.{Path}
use Rattle.spec_rules.specs.Building.{Tree, Cases}
use Rattle.spec_file.specs.TreeStands.{Starts, TreeStands, TreeStandsOf}
use Rattle.format_records.specs.declared.reading.Case.{Case}
use Rattle.format_records.specs.declared.reading.Binding.{Binding}
use Rattle.format_records.specs.Records.{kind_in, node_word_in, case_number_in, case_length_in, case_child_in, case_in, binding_in}

-- ---- the sections
-- each case has a node of its own, so that a tree has fewer cases than nodes
abbrev pub cases_most : ℕ
cases_most = nodes_most

abbrev pub nodes_start : ℕ
nodes_start = 0

abbrev pub cases_start : ℕ
cases_start = nodes_start + node_size * nodes_most

abbrev pub bindings_start : ℕ
bindings_start = cases_start + case_size * cases_most

abbrev pub arena_end : ℕ
arena_end = bindings_start + binding_size * bindings_most

abbrev pub arena_starts : Starts
arena_starts = record { nodes = nodes_start; cases = cases_start; bindings = bindings_start }

-- ---- records, each at its place
abbrev pub node_kind : List ℕ → ℕ → ℕ
node_kind w k = kind_in w (node_size * k)

abbrev pub node_word : List ℕ → ℕ → ℕ → ℕ
node_word w k i = node_word_in w (node_size * k) i

abbrev pub case_kind : List ℕ → ℕ → ℕ
case_kind w i = kind_in w (cases_start + case_size * i)

abbrev pub case_number : List ℕ → ℕ → ℕ
case_number w i = case_number_in w (cases_start + case_size * i)

abbrev pub case_length : List ℕ → ℕ → ℕ
case_length w i = case_length_in w (cases_start + case_size * i)

abbrev pub case_child : List ℕ → ℕ → ℕ
case_child w i = case_child_in w (cases_start + case_size * i)

abbrev pub case_of : List ℕ → ℕ → Case
case_of w i = case_in w (cases_start + case_size * i)

abbrev pub binding_of : List ℕ → ℕ → Binding
binding_of w b = binding_in w (bindings_start + binding_size * b)

abbrev pub binding_name : List ℕ → ℕ → ℕ
binding_name w b = (binding_of w b).name

abbrev pub binding_path : List ℕ → ℕ → ℕ
binding_path w b = (binding_of w b).path

-- ---- a tree in the arena
-- the records of the tree a, whose first node is k, first case c and first binding b; a path is its number in the table
abbrev pub Held : List ℕ → List Path → ℕ → ℕ → ℕ → Tree → Type 0
Held w table k c b a = TreeStands arena_starts w table k c b a

-- the records below the cases cs, alike
abbrev pub HeldOf : List ℕ → List Path → ℕ → ℕ → ℕ → Cases → Type 0
HeldOf w table k c b cs = TreeStandsOf arena_starts w table k c b cs
