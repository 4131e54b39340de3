-- Positions as the code has them, beside the rules' own; and what the code asks of a tree and a panel that it walks on.
-- Rests on the rules' walk, and on what the two checks give.
use Rattle.std.specs.Prelude.{◌≡◌, Option as Taken, Some, None, List, ℕ, ◌+◌, ◌≤◌, ◌<◌, ltb, leb}
use Rattle.std.proofs.Math.Option.{Option, none, some}
use Rattle.base_words.specs.Words.{pick}
use Rattle.spec_rules.specs.Kinds.{list_record, pair_record, list_step}
use Rattle.spec_rules.specs.PanelFile.{records, record_count, part}
use Rattle.spec_rules.specs.TreeReader.{tree_bindings_at, tree_paths_at, tree_steps_at, paths, steps, bindings, binding_path, path_first, path_count}
use Rattle.spec_rules.specs.Rows.{Path}
use Rattle.spec_rules.specs.Walking.{Position as Place, panel_root, follow}
use Rattle.spec_rules.specs.WalkPlaces.{steps_taken}
use Rattle.spec_accepted.specs.TreeFacts.{TreeSound}
use Rattle.spec_accepted.specs.PanelFacts.{PanelShaped, PanelAccepted}
use Rattle.format_panel.specs.Opened.{Opened}
use Rattle.format_panel.specs.declared.PanelMap.{PanelMap}
use Rattle.format_panel.specs.declared.records.Record.{Record}
use Rattle.format_tree.specs.declared.layout.TreeMap.{TreeMap}
use Rattle.format_tree.specs.Reading.{BindingsLie, PathsLie, StepsLie, Mapped}
use Rattle.walk.specs.declared.follow.Position.{Position}
use Rattle.walk.specs.declared.follow.StuckAt.{StuckAt}
use Rattle.walk.specs.declared.follow.Found.{Found}
use Rattle.walk.specs.declared.follow.Found.TheVariants.{At, Stuck}

abbrev pub placed : Position → Place
placed p = record { place = p.«record»; dropped = p.dropped }

abbrev pub position_of : Place → Position
position_of x = record { «record» = x.place; dropped = x.dropped }

-- where one step leads
abbrev pub taken_of : Option Place → Taken Position
taken_of none = None
taken_of (some x) = Some (position_of x)

abbrev pub stuck_at : ℕ → StuckAt
stuck_at step = record { 0 = step }

-- where a path leads, or the number of the step that could not be taken
abbrev pub found_of : Option Place → ℕ → Found
found_of none step = Stuck (stuck_at step)
found_of (some x) step = At (position_of x)

-- where the path p leads from x after k steps
abbrev pub found_from : List ℕ → Path → Place → ℕ → Found
found_from v p x k = found_of (follow v p x) (k + steps_taken v p x)

abbrev pub found_by : List ℕ → Path → Found
found_by v p = found_of (follow v p panel_root) (steps_taken v p panel_root)

-- of a path that is stuck, where
abbrev pub stuck_of : Found → StuckAt
stuck_of (At p) = stuck_at 0
stuck_of (Stuck y) = y

-- ---- one step: the kind of record that it is taken from, and the part or the tail of a record that was read
abbrev pub left_by : ℕ → ℕ
left_by kind = pick (ltb kind list_step) (kind + pair_record) list_record

abbrev pub part_in : List ℕ → Record → ℕ → Option Place
part_in v x i = pick (ltb i x.count) (some (record { place = part v (x.first + i); dropped = 0 })) none

abbrev pub tail_in : Record → ℕ → ℕ → Option Place
tail_in x r i = pick (leb i x.count) (some (record { place = r; dropped = i })) none

-- a record of the panel, and no more dropped than it has
pub record Within (v : List ℕ) (x : Place) : Type 0 where
  pub place_in : x.place < records v
  pub dropped_in : x.dropped ≤ record_count v x.place

-- what following a path asks, and no more: that paths and steps lie in the file, that the steps of each path are of their section, and that
-- the panel is opened, with the parts of each record in theirs
pub record Followable (t v : List ℕ) (n : PanelMap) : Type 0 where
  pub paths_lie : PathsLie t
  pub steps_lie : StepsLie t
  pub path_steps : (p : ℕ) → p < paths t → path_first t p + path_count t p ≤ steps t
  pub opened : Opened v n
  pub shaped : PanelShaped v

-- and what writing bindings asks besides: that they lie in the file, that the map has the three starts that are read from, and that the path of
-- each binding is of its section
pub record Bindable (t : List ℕ) (m : TreeMap) (v : List ℕ) (n : PanelMap) : Type 0 where
  pub followable : Followable t v n
  pub bindings_lie : BindingsLie t
  pub bindings_start_holds : m.bindings.start ≡ tree_bindings_at t
  pub paths_start : m.paths.start ≡ tree_paths_at t
  pub steps_start : m.steps.start ≡ tree_steps_at t
  pub binding_path_holds : (b : ℕ) → b < bindings t → binding_path t b < paths t

-- an accepted tree and an accepted panel, each with its map
pub record ReadyToWalk (t : List ℕ) (m : TreeMap) (v : List ℕ) (n : PanelMap) : Type 0 where
  pub mapped : Mapped t m
  pub sound : TreeSound t
  pub opened : Opened v n
  pub panel : PanelAccepted v
