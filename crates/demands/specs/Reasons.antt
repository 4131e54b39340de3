-- Why a call refuses with a number and a place: 01's order of trying, for each call. What stands behind the numbers of a sheet, a tree
-- and a panel is in Demand1.
use Rattle.std.specs.Prelude.{◌≡◌, true, false, ◌⊎◌, List, ℕ, ◌≤◌, ◌<◌}
use Rattle.spec_rules.specs.Limits.{tree_room, work_room, bound_room}
use Rattle.spec_rules.specs.SheetFile.{clauses}
use Rattle.spec_rules.specs.SheetRefusals.{accepted, refused, verdict}
use Rattle.spec_rules.specs.PanelFile.{panel_verdict}
use Rattle.spec_rules.specs.TreeReader.{tree_fits, tree_of}
use Rattle.spec_rules.specs.Fitting.{panel_fits}
use Rattle.spec_rules.specs.Walking.{stuck, walk}
use Rattle.spec_rules.specs.WalkPlaces.{last_node, stuck_step}
use Rattle.spec_rules.specs.Calls.{sheet_tree, tree_verdict, has_text}

-- ---- the build: 1, then 2 to 11, then 12 to 14
pub data BuildRefuses (s : List ℕ) (n m number place : ℕ) : Type 0 where
  for_room : (n < tree_room) ⊎ (m < work_room) → number ≡ 1 → place ≡ 0 → BuildRefuses s n m number place
  for_sheet : tree_room ≤ n → work_room ≤ m → verdict s ≡ refused number place → BuildRefuses s n m number place
  for_tree : tree_room ≤ n → work_room ≤ m → verdict s ≡ accepted → tree_verdict (clauses s) (sheet_tree s) ≡ refused number place → BuildRefuses s n m number place

-- ---- the fit check: 2 to 11, then 21 to 24, then 25
pub data FitRefuses (s v : List ℕ) (number place : ℕ) : Type 0 where
  for_sheet : verdict s ≡ refused number place → FitRefuses s v number place
  for_panel : verdict s ≡ accepted → panel_verdict v ≡ refused number place → FitRefuses s v number place
  for_type : verdict s ≡ accepted → panel_verdict v ≡ accepted → panel_fits s v ≡ false → number ≡ 25 → place ≡ 0 → FitRefuses s v number place

-- ---- the walk: 1, then 31, then 21 to 24
pub data WalkRefuses (t v : List ℕ) (n number place : ℕ) : Type 0 where
  for_room : n < bound_room → number ≡ 1 → place ≡ 0 → WalkRefuses t v n number place
  for_tree : bound_room ≤ n → tree_fits t ≡ false → number ≡ 31 → place ≡ 0 → WalkRefuses t v n number place
  for_panel : bound_room ≤ n → tree_fits t ≡ true → panel_verdict v ≡ refused number place → WalkRefuses t v n number place

-- then 32, whose place is the last node that the walk comes to and the step at which that node sticks
pub record WalkSticks (t v : List ℕ) (n node step : ℕ) : Type 0 where
  pub room : bound_room ≤ n
  pub tree_fits_holds : tree_fits t ≡ true
  pub panel_fits_holds : panel_verdict v ≡ accepted
  pub is_stuck : walk (tree_of t) v ≡ stuck
  pub node_is : node ≡ last_node t v
  pub step_is : step ≡ stuck_step t v node

-- ---- the text call: 21 to 24, then 33
pub data TextRefuses (v : List ℕ) (at dropped number place : ℕ) : Type 0 where
  for_panel : panel_verdict v ≡ refused number place → TextRefuses v at dropped number place
  for_text : panel_verdict v ≡ accepted → has_text v at dropped ≡ false → number ≡ 33 → place ≡ 0 → TextRefuses v at dropped number place
