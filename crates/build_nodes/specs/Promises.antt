-- What the contracts say at length or more than once, in a word each. Those that begin with what is done take what lent
-- parameters hold before and after.
use Rattle.std.specs.Prelude.{Option, List, ℕ, ◌-◌}
use Rattle.base_words.specs.Words.{pick}
use Rattle.spec_rules.specs.Kinds.{list_switch_node, switch_node}
use Rattle.spec_rules.specs.Building.{Tree}
use Rattle.spec_rules.specs.TreeFile.{node_bytes}
use Rattle.build_table.specs.Standing.{sheet_paths}
use Rattle.format_records.specs.declared.reading.Test.{Test}
use Rattle.build_matrix.specs.Meant.{meant}
use Rattle.build_matrix.specs.Numbered.{Numbered}
use Rattle.build_cases.specs.declared.CasesMet.{CasesMet}
use Rattle.build_nodes.specs.declared.tops.Tops.{Tops}
use Rattle.build_nodes.specs.Built.{Put, Builds, BuildsCases}
use Rattle.build_nodes.specs.Steps.{case_list, case_tree, StillTested}

-- the tree of the case of a test as the arena has it, of the column of a class of the matrix M
abbrev pub test_tree : List ℕ → ℕ → Numbered → Test → Tree
test_tree s class M test = case_tree s class M (meant s test)

-- the tree a is put into the work buffer
abbrev pub PutsTree : List ℕ → List ℕ → List ℕ → Tree → Tops → Tops → Type 0
PutsTree sheet work work' a from to = Put (sheet_paths sheet) work work' a from to

-- the same, or it has too many nodes
abbrev pub BuildsTree : List ℕ → List ℕ → List ℕ → Tree → Tops → Option Tops → Type 0
BuildsTree sheet work work' a from r = Builds (sheet_paths sheet) work work' a from r

-- the cases of the column of a class of the matrix M are built, whose records stand from number `first` on, or they have too many nodes
abbrev pub BuildsColumn : List ℕ → List ℕ → List ℕ → ℕ → Numbered → ℕ → Tops → Option Tops → Type 0
BuildsColumn sheet work work' class M first from r =
    BuildsCases (sheet_paths sheet) (case_tree sheet class M) (case_list sheet class M) first work work' from r

-- the first `time` classes tested stay where they are
abbrev pub KeepsTested : ℕ → List ℕ → List ℕ → Type 0
KeepsTested time tested tested' = StillTested time tested tested'

-- the record of a switch on a class, whose cases were met from number `first` on
abbrev pub switch_record : ℕ → ℕ → CasesMet → ℕ → List ℕ
switch_record class first met default =
    node_bytes (pick met.list list_switch_node switch_node) class first (met.mid - first) (met.end - met.mid) default
