-- What is asked of a tree that is written as a file: `absent` only as a default, switches with cases of one kind, texts that are
-- parts of the pool, at most 192 bindings a node. Also numbers that two bytes hold, for the file to be bytes, and the counts that
-- bound its length.
use Rattle.std.specs.Prelude.{◌≡◌, Bool, true, false, List, [], ◌∷◌, ℕ, ◌+◌, ◌≤◌, ◌<◌, length}
use Rattle.base_words.specs.Words.{text_at}
use Rattle.spec_rules.specs.Limits.{node_bindings_most, patterns_most, depth_most, nodes_most, bindings_most, sheet_most}
use Rattle.spec_rules.specs.Kinds.{bytes_case, list_case, list_with_tail_case}
use Rattle.spec_rules.specs.Rows.{Step, pair, tuple, constr, list, listtail, Path, Binding}
use Rattle.spec_rules.specs.Splitting.{Test, Constr, Int, Bytes, ListOf, ListWithTail}
use Rattle.spec_rules.specs.Building.{Tree, Cases, absent, leaf, hoist, switch, listswitch, cnil, ccons}
use Rattle.spec_rules.specs.Hoisting.{how_many, nodes_in, bindings_in}
use Rattle.spec_rules.specs.TreeFile.{paths_used, is_among, path_table}
unfoldable pub use Rattle.spec_rules.specs.Walking.{test_kind}

unfoldable pub present : Tree → Bool
present absent = false
present (leaf c bs) = true
present (hoist c bs a) = true
present (switch p cs d) = true
present (listswitch p cs ts d) = true

-- the text w is the part of the pool from start on; an empty one starts at 0
pub record InPool (pool : List ℕ) (start : ℕ) (w : List ℕ) : Type 0 where
  pub inside : start + length w ≤ length pool
  pub text : text_at pool start (length w) ≡ w
  pub empty_first : length w ≡ 0 → start ≡ 0

-- a case's start: that of its text, 0 where it has none
unfoldable pub TextStarts : List ℕ → ℕ → Test → Type 0
TextStarts pool start (Constr a) = start ≡ 0
TextStarts pool start (Int w) = InPool pool start w
TextStarts pool start (Bytes w) = InPool pool start w
TextStarts pool start (ListOf n) = start ≡ 0
TextStarts pool start (ListWithTail n) = start ≡ 0

unfoldable pub AllOfKind : ℕ → Cases → Type 0
unfolding test_kind
AllOfKind kind cnil = Unit {0}
AllOfKind kind (ccons t start a cs) = (test_kind t ≡ kind) × AllOfKind kind cs

-- "a switch with a case, .. kinds 0 to 2 all alike"
unfoldable pub SwitchCases : Cases → Type 0
unfolding AllOfKind
SwitchCases cnil = ⊥
SwitchCases (ccons t start a cs) = (test_kind t ≤ bytes_case) × AllOfKind (test_kind t) cs

-- "a list switch with one of either, kind 3 in cases, 4 in tail cases"
pub record ListCases (cs ts : Cases) : Type 0 where
  pub some_case : 1 ≤ how_many cs + how_many ts
  pub exact : AllOfKind list_case cs
  pub tailed : AllOfKind list_with_tail_case ts

-- a tree that is absent, or that a file with this pool can say
unfoldable mutual
  unfolding present TextStarts SwitchCases

  pub Writable : List ℕ → Tree → Type 0
  Writable pool absent = Unit {0}
  Writable pool (leaf c bs) = length bs ≤ node_bindings_most
  Writable pool (hoist c bs a) = (length bs ≤ node_bindings_most) × (present a ≡ true) × Writable pool a
  Writable pool (switch p cs d) = SwitchCases cs × WritableOf pool cs × Writable pool d
  Writable pool (listswitch p cs ts d) = ListCases cs ts × WritableOf pool cs × WritableOf pool ts × Writable pool d

  pub WritableOf : List ℕ → Cases → Type 0
  WritableOf pool cnil = Unit {0}
  WritableOf pool (ccons t start a cs) = TextStarts pool start t × (present a ≡ true) × Writable pool a × WritableOf pool cs

-- ---- numbers that two bytes hold
unfoldable pub SmallStep : Step → Type 0
SmallStep (pair i t) = (i < 65536) × (t < 65536)
SmallStep (tuple i t) = (i < 65536) × (t < 65536)
SmallStep (constr i b t) = (i < 65536) × (t < 65536)
SmallStep (list i t) = (i < 65536) × (t < 65536)
SmallStep (listtail i t) = (i < 65536) × (t < 65536)

unfoldable pub SmallPath : Path → Type 0
unfolding SmallStep
SmallPath [] = Unit {0}
SmallPath (s ∷ ss) = SmallStep s × SmallPath ss

unfoldable pub SmallNames : List Binding → Type 0
SmallNames [] = Unit {0}
SmallNames (x ∷ xs) = (x.name < 65536) × SmallNames xs

unfoldable pub SmallTest : Test → Type 0
SmallTest (Constr a) = a < 65536
SmallTest (Int w) = Unit {0}
SmallTest (Bytes w) = Unit {0}
SmallTest (ListOf n) = n < 65536
SmallTest (ListWithTail n) = n < 65536

-- clauses, constructor numbers and list lengths
unfoldable mutual
  unfolding SmallTest

  pub SmallNumbers : Tree → Type 0
  SmallNumbers absent = Unit {0}
  SmallNumbers (leaf c bs) = c < 65536
  SmallNumbers (hoist c bs a) = (c < 65536) × SmallNumbers a
  SmallNumbers (switch p cs d) = SmallNumbersOf cs × SmallNumbers d
  SmallNumbers (listswitch p cs ts d) = SmallNumbersOf cs × SmallNumbersOf ts × SmallNumbers d

  pub SmallNumbersOf : Cases → Type 0
  SmallNumbersOf cnil = Unit {0}
  SmallNumbersOf (ccons t start a cs) = SmallTest t × SmallNumbers a × SmallNumbersOf cs

pub record InWords (a : Tree) : Type 0 where
  pub numbers : SmallNumbers a
  pub names : SmallNames (bindings_in a)
  pub paths : (p : Path) → is_among p (paths_used a) ≡ true → SmallPath p

-- ---- how large a tree is
-- how many steps the paths have together
unfoldable pub steps_in : List Path → ℕ
steps_in [] = 0
steps_in (p ∷ ps) = length p + steps_in ps

-- a pattern at depth 12 has a path of 11 steps
pub record Short (ps : List Path) : Type 0 where
  pub short : (p : Path) → is_among p ps ≡ true → length p < depth_most

-- what the counts of a tree are at most
pub record Bounded (pool : List ℕ) (a : Tree) : Type 0 where
  pub nodes_most_holds : nodes_in a ≤ nodes_most
  pub bindings_most_holds : length (bindings_in a) ≤ bindings_most
  pub paths_most : length (path_table a) ≤ patterns_most
  pub paths_short : Short (paths_used a)
  pub pool_most : length pool ≤ sheet_most
