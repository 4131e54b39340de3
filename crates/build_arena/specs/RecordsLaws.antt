-- The records of the arena read back: bytes of a record that stand at its place give its fields; the first of a run of records.
-- Rests on the laws of records at a place.
use Rattle.std.specs.Prelude.{List, ◌∷◌, ◌++◌, ℕ, ◌+◌, ◌*◌}
use Rattle.std.proofs.Common.{zero-add}
use Rattle.base_words.specs.Words.{word_bytes}
use Rattle.spec_rules.specs.Limits.{node_size, case_size, binding_size}
use Rattle.spec_rules.specs.Rows.{Path, Binding}
use Rattle.spec_rules.specs.Splitting.{Test}
use Rattle.spec_rules.specs.Building.{Tree, Cases, ccons}
use Rattle.spec_rules.specs.Hoisting.{nodes_in}
use Rattle.spec_rules.specs.TreeFile.{path_number, node_bytes, case_bytes, own_cases, bindings_bytes}
use Rattle.spec_file.specs.StandingLaws.{Stands, stands_left}
use Rattle.format_records.specs.RecordsLaws.{NodeIs, node_is, CaseIs, case_is, BindingIs, binding_is}
use Rattle.build_arena.specs.Arena.{nodes_start, cases_start, bindings_start}

-- nodes start at 0
pub node_held : {w : List ℕ} {kind a b c d e : ℕ} (k : ℕ) → Stands w (nodes_start + node_size * k) (node_bytes kind a b c d e) → NodeIs w (node_size * k) kind a b c d e
node_held k s = node_is (rw zero-add at s)

-- the first of the own cases of a switch
pub own_first : (w : List ℕ) (i k : ℕ) (u : Test) (start : ℕ) (a : Tree) (cs : Cases) → Stands w (cases_start + case_size * i) (own_cases k (ccons u start a cs))
    → CaseIs w (cases_start + case_size * i) u start k
unfolding own_cases
own_first w i k u start a cs h = case_is w (cases_start + case_size * i) u start k (stands_left (case_bytes u start k) (own_cases (k + nodes_in a) cs) h)

-- the first of a run of bindings
pub first_binding : (w : List ℕ) (table : List Path) (b : ℕ) (x : Binding) (xs : List Binding)
    → Stands w (bindings_start + binding_size * b) (bindings_bytes table (x ∷ xs)) → BindingIs w (bindings_start + binding_size * b) x.name (path_number table x.path)
unfolding bindings_bytes
first_binding w table b x xs s =
    binding_is w (bindings_start + binding_size * b) x.name (path_number table x.path)
    (stands_left (word_bytes x.name ++ word_bytes (path_number table x.path)) (bindings_bytes table xs) s)
