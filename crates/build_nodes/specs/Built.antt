-- What building a tree into the arena answers: how far its records reach and what holds of the work buffer after it; the same of the
-- cases of a switch that are built so far; and what is known where there are too many nodes.
use Rattle.std.specs.Prelude.{◌≡◌, Option, Some, None, Bool, List, [], ◌++◌, ℕ, ◌+◌, ◌*◌, ◌≤◌, ◌<◌, length, get_or}
use Rattle.base_words.specs.Words.{pick}
use Rattle.spec_rules.specs.Limits.{clauses_most, nodes_most, bindings_most, case_size}
use Rattle.spec_rules.specs.Rows.{Path, Binding}
use Rattle.spec_rules.specs.Splitting.{Test, Met}
use Rattle.spec_rules.specs.Building.{Tree}
use Rattle.spec_rules.specs.Hoisting.{nodes_in, nodes_in_of, bindings_in, bindings_in_of, has_leaf, has_leaf_of}
use Rattle.spec_rules.specs.TreeFile.{cases_in, cases_in_of, own_cases}
use Rattle.spec_file.specs.StandingLaws.{Stands}
use Rattle.spec_match.specs.Depth.{cases_on}
use Rattle.build_arena.specs.Arena.{cases_start, cases_most, arena_end, Held, HeldOf}
use Rattle.build_arena.specs.WritingLaws.{Kept}
use Rattle.build_leaves.specs.Bindings.{capped}
use Rattle.build_cases.specs.Passes.{case_records}
use Rattle.build_nodes.specs.declared.tops.Tops.{Tops}

-- ---- how far
-- n nodes, c cases, the bindings bs and leaves of the clauses that `has` says are there besides
pub record Counted (n c : ℕ) (bs : List Binding) (has : ℕ → Bool) (from to : Tops) : Type 0 where
  pub nodes : to.nodes ≡ from.nodes + n
  pub cases : to.cases ≡ from.cases + c
  pub bindings : to.bindings ≡ capped (from.bindings + length bs)
  pub leaves : (i : ℕ) → i < clauses_most → get_or to.leaves i 0 ≡ pick (has i) 1 (get_or from.leaves i 0)

-- the arena is there, and the tops are within it
pub record Roomy (w : List ℕ) (tops : Tops) : Type 0 where
  pub long : arena_end ≤ length w
  pub nodes_most_holds : tops.nodes ≤ nodes_most
  pub cases_most_holds : tops.cases < cases_most
  pub bindings_most_holds : tops.bindings ≤ bindings_most + 1
  pub leaves_long : length tops.leaves ≡ clauses_most

-- ---- a tree
-- the records of the tree a are there from the first tops on, if its bindings have room; and nothing below these was touched
pub record Put (table : List Path) (w w' : List ℕ) (a : Tree) (from to : Tops) : Type 0 where
  pub counted : Counted (nodes_in a) (cases_in a) (bindings_in a) (λ i. has_leaf i a) from to
  pub room : Roomy w' to
  pub kept : Kept from.nodes from.cases from.bindings w w'
  pub held : from.bindings + length (bindings_in a) ≤ bindings_most → Held w' table from.nodes from.cases from.bindings a

-- The tree has more nodes than there may be. Each case has a node of its own: so wherever there are no more cases so far than nodes so
-- far and nodes still to come elsewhere, all these together are too many.
abbrev pub TooMany : Tree → Tops → Type 0
TooMany a from = (pending : ℕ) → from.cases ≤ from.nodes + pending → nodes_most < from.nodes + pending + nodes_in a

pub record BuiltTo (table : List Path) (w w' : List ℕ) (a : Tree) (from to : Tops) : Type 0 where
  pub put : Put table w w' a from to
  pub fewer_cases : cases_in a < nodes_in a

abbrev pub Builds : List Path → List ℕ → List ℕ → Tree → Tops → Option Tops → Type 0
Builds table w w' a from (Some to) = BuiltTo table w w' a from to
Builds table w w' a from None = TooMany a from

-- ---- the cases of a switch, whose records stand from number `first` on
-- those of `done` are built, each with the tree that f gives its test; those of `rest` have their records, with no child
pub record CasesPut (table : List Path) (f : Test → Tree) (done rest : List Met) (first : ℕ) (w w' : List ℕ) (from to : Tops) : Type 0 where
  pub counted :
      Counted (nodes_in_of (cases_on f done)) (cases_in_of (cases_on f done)) (bindings_in_of (cases_on f done)) (λ i. has_leaf_of i (cases_on f done)) from to
  pub fewer_cases : length done + cases_in_of (cases_on f done) ≤ nodes_in_of (cases_on f done)
  pub room : Roomy w' to
  pub kept : Kept from.nodes first from.bindings w w'
  pub own : Stands w' (cases_start + case_size * first) (own_cases from.nodes (cases_on f done) ++ case_records rest)
  pub held :
      from.bindings + length (bindings_in_of (cases_on f done)) ≤ bindings_most
      → HeldOf w' table from.nodes from.cases from.bindings (cases_on f done)

-- i of the cases ms are built
pub record Partly (table : List Path) (f : Test → Tree) (ms : List Met) (first i : ℕ) (w w' : List ℕ) (from to : Tops) : Type 0 where
  pub done : List Met
  pub rest : List Met
  pub whole : ms ≡ done ++ rest
  pub so_far : length done ≡ i
  pub put : CasesPut table f done rest first w w' from to

-- the cases have too many nodes; the node of their switch, one below the first of theirs, is there
abbrev pub TooManyOf : (Test → Tree) → List Met → ℕ → Tops → Type 0
TooManyOf f ms first from = (pending : ℕ) → first + 1 ≤ from.nodes + pending → nodes_most < from.nodes + pending + nodes_in_of (cases_on f ms)

abbrev pub BuildsCases : List Path → (Test → Tree) → List Met → ℕ → List ℕ → List ℕ → Tops → Option Tops → Type 0
BuildsCases table f ms first w w' from (Some to) = CasesPut table f ms [] first w w' from to
BuildsCases table f ms first w w' from None = TooManyOf f ms first from

-- ---- what building the cases asks
pub record CasesOpen (ms : List Met) (first : ℕ) (w : List ℕ) (from : Tops) : Type 0 where
  pub room : Roomy w from
  pub written : Stands w (cases_start + case_size * first) (case_records ms)
  pub to_come : from.cases ≡ first + length ms
