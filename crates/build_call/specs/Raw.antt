-- What the code has of a sheet's tree on its way into the file: built before hoisting; then within refusals 12 and 13; then with its scopes.
-- Facts alone; RawLaws has what follows from them.
use Rattle.std.specs.Prelude.{◌≡◌, List, ℕ, ◌+◌, ◌≤◌, ◌<◌, min, length, get_or}
use Rattle.std.proofs.Math.Option.{none}
use Rattle.base_words.specs.Words.{pick}
use Rattle.spec_rules.specs.Limits.{nodes_most, bindings_most, clauses_most}
use Rattle.spec_rules.specs.SheetFile.{clauses}
use Rattle.spec_rules.specs.Hoisting.{has_leaf, nodes_in, bindings_in}
use Rattle.spec_rules.specs.TreeFile.{cases_in}
use Rattle.spec_rules.specs.Calls.{lowest_idle}
use Rattle.build_arena.specs.Arena.{arena_end, Held}
use Rattle.build_table.specs.Standing.{sheet_paths}
use Rattle.build_scopes.specs.declared.Scopes.{Scopes}
use Rattle.build_scopes.specs.Scoped.{Scoped}
use Rattle.build_call.specs.VerdictLaws.{raw_tree, hoists_of, hoist_bindings}

-- the tree before it is hoisted is in the arena, if its bindings have room; of bindings that have none it is known that they have not
pub record Raw (s w : List ℕ) (nodes cases bindings : ℕ) (leaves : List ℕ) : Type 0 where
  pub long : arena_end ≤ length w
  pub nodes_are : nodes ≡ nodes_in (raw_tree s)
  pub nodes_most_holds : nodes_in (raw_tree s) ≤ nodes_most
  pub cases_are : cases ≡ cases_in (raw_tree s)
  pub bindings_are : bindings ≡ min (length (bindings_in (raw_tree s))) (bindings_most + 1)
  pub leaves_are : (c : ℕ) → c < clauses_most → get_or leaves c 0 ≡ pick (has_leaf c (raw_tree s)) 1 0
  pub held : length (bindings_in (raw_tree s)) ≤ bindings_most → Held w (sheet_paths s) 0 0 0 (raw_tree s)

-- it is in the arena, with its hoists within 12, and its own bindings within 13
pub record Fitting (s w : List ℕ) (nodes cases bindings : ℕ) : Type 0 where
  pub long : arena_end ≤ length w
  pub nodes_are : nodes ≡ nodes_in (raw_tree s)
  pub nodes_fit : nodes_in (raw_tree s) + hoists_of s ≤ nodes_most
  pub cases_are : cases ≡ cases_in (raw_tree s)
  pub bindings_are : bindings ≡ length (bindings_in (raw_tree s))
  pub bindings_most_holds : length (bindings_in (raw_tree s)) ≤ bindings_most
  pub held : Held w (sheet_paths s) 0 0 0 (raw_tree s)

-- and its scopes are found
pub record Hoistable (s w : List ℕ) (nodes cases bindings : ℕ) (x : Scopes) : Type 0 where
  pub fitting : Fitting s w nodes cases bindings
  pub scoped : Scoped (raw_tree s) (clauses s) x

-- and none of 12 to 14 is given
pub record Whole (s w : List ℕ) (nodes cases : ℕ) (x : Scopes) : Type 0 where
  pub long : arena_end ≤ length w
  pub nodes_are : nodes ≡ nodes_in (raw_tree s)
  pub nodes_fit : nodes_in (raw_tree s) + hoists_of s ≤ nodes_most
  pub cases_are : cases ≡ cases_in (raw_tree s)
  pub bindings_fit : length (bindings_in (raw_tree s)) + hoist_bindings s ≤ bindings_most
  pub busy : lowest_idle (clauses s) (raw_tree s) ≡ none
  pub held : Held w (sheet_paths s) 0 0 0 (raw_tree s)
  pub scoped : Scoped (raw_tree s) (clauses s) x
