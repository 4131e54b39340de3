-- What is said of the panels that a sheet forgets, as statements: each is a type, and no proof of it stands here (ForgettingTheorems).
--   s a sheet's bytes, v a panel's bytes, x a value, n a node, ts tests, t a type
use Rattle.std.specs.Prelude.{ℕ, ◌≤◌, ◌<◌, ◌≡◌, ◌⊎◌, ◌↔◌, true, List, length}
use Rattle.base_words.specs.Words.{Bytes}
use Rattle.spec_rules.specs.SheetFile.{subject, types}
use Rattle.spec_rules.specs.SheetRefusals.{Verdict, accepted, verdict}
use Rattle.spec_rules.specs.PanelFile.{panel_verdict}
use Rattle.spec_rules.specs.Fitting.{panel_fits}
use Rattle.spec_rules.specs.TreeReader.{node_kind, node_default}
use Rattle.spec_rules.specs.Walking.{no_leaf, walk, Bound, reached}
use Rattle.spec_rules.specs.Calls.{Answer, sheet_tree, sheet_tree_file}
use Rattle.spec_forgotten.specs.Values.{Value, of_type, Passed, at_clause, without, walk_on}
use Rattle.spec_forgotten.specs.FileWays.{FileWay}
use Rattle.spec_forgotten.specs.PanelValues.{panel_value}
use Rattle.spec_forgotten.specs.Forgetting.{Forgotten, LowestForgotten, Covered, Hollow, Filled, LowestHollow, NoHollow, Report, ForgottenCall}

module _ (s : List ℕ) (h : verdict s ≡ accepted) where
  -- the walk of a value of the subject's type is not stuck: it ends at a leaf, or at a switch without one
  abbrev pub NeverStuck : Type 0
  NeverStuck = (x : Value) → of_type s (subject s) x ≡ true
      → ((c : ℕ) × (walk_on 0 (sheet_tree s) x ≡ at_clause c)) ⊎ ((n : ℕ) × ((ts : List Passed) × (walk_on 0 (sheet_tree s) x ≡ without n ts)))

  -- the tests are those of the way to the switch: two values that end there took the same
  abbrev pub OneWay : Type 0
  OneWay = (n : ℕ) (ts us : List Passed) → Forgotten s n ts → Forgotten s n us → ts ≡ us

  -- the switch is one without a default in the file that the build writes
  abbrev pub SwitchWithoutDefault : Type 0
  SwitchWithoutDefault = (n : ℕ) (ts : List Passed) → Forgotten s n ts → (node_kind (sheet_tree_file s) n ≤ 1) × (node_default (sheet_tree_file s) n ≡ 0)

  -- the tests are switches of that file, and each branch leads over hoists to the next one's node, the last to the reported switch
  abbrev pub WayInTheFile : Type 0
  WayInTheFile = (n : ℕ) (ts : List Passed) → Forgotten s n ts → FileWay (sheet_tree_file s) 0 n ts

  -- 384 words have room for the tests
  abbrev pub FewTests : Type 0
  FewTests = (n : ℕ) (ts : List Passed) → Forgotten s n ts → length ts ≤ 191

  -- with no hollow type one of the two is the case: the lowest is found, or there is none
  abbrev pub ForgottenOrCovered : Type 0
  ForgottenOrCovered = NoHollow s → ((n : ℕ) × ((ts : List Passed) × LowestForgotten s n ts)) ⊎ Covered s

-- ---- 15
-- a type of the sheet has a finite value or has none
abbrev pub HollowOrFilled : List ℕ → Type 0
HollowOrFilled s = (t : ℕ) → t < types s → Filled s t ⊎ Hollow s t

-- the lowest type with no finite value is found, or each type has one
abbrev pub HollowOrNone : List ℕ → Type 0
HollowOrNone s = ((t : ℕ) × LowestHollow s t) ⊎ NoHollow s

-- ---- panel files
module _ (s v : List ℕ) (h : verdict s ≡ accepted) (bytes : Bytes v) (p : panel_verdict v ≡ accepted) where
  -- a panel fits exactly if the value that it holds is of the type
  abbrev pub FitsByValue : Type 0
  FitsByValue = panel_fits s v ≡ of_type s (subject s) (panel_value v)

  -- of a panel that fits, the two walks end alike
  abbrev pub WalksAgree : Type 0
  WalksAgree = panel_fits s v ≡ true
      → ((walk (sheet_tree s) v ≡ no_leaf) ↔ ((n : ℕ) × ((ts : List Passed) × (walk_on 0 (sheet_tree s) (panel_value v) ≡ without n ts))))
      × ((c : ℕ) → ((xs : List Bound) × (walk (sheet_tree s) v ≡ reached c xs)) ↔ (walk_on 0 (sheet_tree s) (panel_value v) ≡ at_clause c))

  -- Covered: every panel file that fits ends at a leaf
  abbrev pub CoveredPanelsHaveALeaf : Type 0
  CoveredPanelsHaveALeaf = Covered s → panel_fits s v ≡ true → walk (sheet_tree s) v ≡ no_leaf → ⊥

-- ---- the call: two results that fit are equal
abbrev pub OneAnswer : Type 0
OneAnswer = (built : List ℕ → Verdict) (s : List ℕ) → Bytes s → (n m k : ℕ) (a b : Answer Report) (tree work report tree' work' report' : List ℕ)
    → ForgottenCall built s n m k a tree work report → ForgottenCall built s n m k b tree' work' report'
    → (a ≡ b) × ((tree ≡ tree') × ((work ≡ work') × (report ≡ report')))
