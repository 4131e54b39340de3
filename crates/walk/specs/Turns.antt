-- Where a node leads, as the code has it, and what the walk from there on gives: for a switch or a list switch with whatever trees its
-- children stand for, and for a node of a tree file. Rests on the rules' walk.
use Rattle.std.specs.Prelude.{◌≡◌, Option as Chosen, Some, None, Result, Ok, Err, true, List, ◌++◌, ℕ, ◌+◌, ◌≤◌, ◌<◌}
use Rattle.std.proofs.Math.Option.{Option, none, some}
use Rattle.spec_rules.specs.Limits.{node_bindings_most}
use Rattle.spec_rules.specs.Found.{found}
use Rattle.spec_rules.specs.SheetRefusals.{is_in}
use Rattle.spec_rules.specs.Splitting.{Test, ListOf, ListWithTail}
use Rattle.spec_rules.specs.Building.{Tree, switch, listswitch}
use Rattle.spec_rules.specs.TreeReader.{nodes, bindings, case_children, default_child, path_at, bindings_from, cases_for, default_for, tree_below, tree_of}
use Rattle.spec_rules.specs.Walking.{panel_root, bound, Walked, no_leaf, stuck, at_leaf, at_tail, largest_tail, walk, walk_cases}
use Rattle.spec_rules.specs.WalkPlaces.{steps_taken, first_stuck, goes_on, last_from, last_node, stuck_step}
use Rattle.walk.specs.declared.follow.StuckAt.{StuckAt}
use Rattle.walk.specs.declared.nodes.ReachedLeaf.{ReachedLeaf}
use Rattle.walk.specs.declared.nodes.Next.{Next}
use Rattle.walk.specs.Choices.{first_case}

-- where the walk ends, and where a node leads
abbrev pub End : Type 0
End = Result (Chosen ReachedLeaf) StuckAt

abbrev pub Turn : Type 0
Turn = Result Next StuckAt

abbrev pub end_means : List ℕ → List ℕ → End → Walked
end_means t v (Ok (Some leaf)) = at_leaf leaf.clause (bound v (bindings_from t leaf.first leaf.count))
end_means t v (Ok None) = no_leaf
end_means t v (Err at) = stuck

-- f is the tree that a node stands for
abbrev pub next_means : List ℕ → List ℕ → (ℕ → Tree) → Turn → Walked
next_means t v f (Ok (Next.Node c)) = walk (f c) v
next_means t v f (Ok (Next.End leaf)) = end_means t v (Ok leaf)
next_means t v f (Err at) = stuck

-- ---- switches
-- the number of the step where a path sticks, or its length
abbrev pub steps_on : List ℕ → List ℕ → ℕ → ℕ
steps_on t v path = steps_taken v (path_at t path) panel_root

-- a node that is gone on to is one of the children cs, no leaf is reached, and it sticks at step s if it does
abbrev pub Leads : ℕ → List ℕ → Turn → Type 0
Leads s cs (Ok (Next.Node c)) = is_in c cs ≡ true
Leads s cs (Ok (Next.End (Some leaf))) = ⊥
Leads s cs (Ok (Next.End None)) = Unit {0}
Leads s cs (Err at) = at.0 ≡ s

pub record Turns (t v : List ℕ) (s : ℕ) (cs : List ℕ) (w : (ℕ → Tree) → Walked) (r : Turn) : Type 0 where
  pub means : (f : ℕ → Tree) → next_means t v f r ≡ w f
  pub leads : Leads s cs r

abbrev pub default_walk : List ℕ → ℕ → (ℕ → Tree) → Walked
default_walk v default f = walk (default_for f default) v

-- the cases of a run, else the default
abbrev pub cases_walk : List ℕ → List ℕ → Test → ℕ → ℕ → ℕ → (ℕ → Tree) → Walked
cases_walk t v x first cases default f = walk_cases (cases_for f t first cases) x v (λ u. walk (default_for f default) v)

-- where a choice leads, of whatever run of cases and whatever test it was made
abbrev pub TurnsBy : List ℕ → Chosen ℕ → ℕ → Turn → Type 0
TurnsBy t chosen default r =
    (v : List ℕ) (s : ℕ) (x : Test) (first cases : ℕ) → chosen ≡ found (first_case t x first cases)
    → Turns t v s (case_children t first cases ++ default_child default) (cases_walk t v x first cases default) r

abbrev pub switch_walk : List ℕ → List ℕ → ℕ → ℕ → ℕ → ℕ → (ℕ → Tree) → Walked
switch_walk t v path first cases default f = walk (switch (path_at t path) (cases_for f t first cases) (default_for f default)) v

abbrev pub list_walk : List ℕ → List ℕ → ℕ → ℕ → ℕ → ℕ → ℕ → (ℕ → Tree) → Walked
list_walk t v path first cases tails default f =
    walk (listswitch (path_at t path) (cases_for f t first cases) (cases_for f t (first + cases) tails) (default_for f default)) v

-- past the cases of the exact length
abbrev pub tails_walk : List ℕ → List ℕ → ℕ → ℕ → ℕ → ℕ → (ℕ → Tree) → Walked
tails_walk t v long first tails default f =
    at_tail (largest_tail long (cases_for f t first tails)) (λ k. cases_walk t v (ListWithTail k) first tails default f) (λ u. walk (default_for f default) v)

abbrev pub length_walk : List ℕ → List ℕ → ℕ → ℕ → ℕ → ℕ → ℕ → (ℕ → Tree) → Walked
length_walk t v long first cases tails default f =
    walk_cases (cases_for f t first cases) (ListOf long) v (λ u. tails_walk t v long (first + cases) tails default f)

-- ---- nodes of a tree file
-- a node that is gone on to comes after k; a leaf's clause is a word, its bindings are in their section, and few
abbrev pub Reaches : List ℕ → End → Type 0
Reaches t (Ok (Some leaf)) = (leaf.first + leaf.count ≤ bindings t) × (leaf.count ≤ node_bindings_most) × (leaf.clause < 65536)
Reaches t (Ok None) = Unit {0}
Reaches t (Err at) = Unit {0}

abbrev pub GoesOn : List ℕ → ℕ → Turn → Type 0
GoesOn t k (Ok (Next.Node c)) = (k < c) × (c < nodes t)
GoesOn t k (Ok (Next.End leaf)) = Reaches t (Ok leaf)
GoesOn t k (Err at) = Unit {0}

-- the node that is gone on to
abbrev pub next_node : Turn → Option ℕ
next_node (Ok (Next.Node c)) = some c
next_node (Ok (Next.End leaf)) = none
next_node (Err at) = none

-- s is the step at which an end is stuck, or at which the bindings of a leaf are where one of them is
abbrev pub SticksAt : List ℕ → List ℕ → ℕ → End → Type 0
SticksAt t v s (Ok (Some leaf)) = first_stuck v (bindings_from t leaf.first leaf.count) ≡ s
SticksAt t v s (Ok None) = Unit {0}
SticksAt t v s (Err at) = at.0 ≡ s

abbrev pub Sticks : List ℕ → List ℕ → ℕ → Turn → Type 0
Sticks t v s (Ok (Next.Node c)) = Unit {0}
Sticks t v s (Ok (Next.End leaf)) = SticksAt t v s (Ok leaf)
Sticks t v s (Err at) = at.0 ≡ s

pub record Steps (t v : List ℕ) (k : ℕ) (r : Turn) : Type 0 where
  pub means : next_means t v (tree_below (nodes t) t) r ≡ walk (tree_below (nodes t) t k) v
  pub goes : GoesOn t k r
  pub next : next_node r ≡ goes_on t v k
  pub sticks : Sticks t v (stuck_step t v k) r

-- node k is on the way of the walk: as many nodes more as there can be lead to its last node
pub record OnTheWay (t v : List ℕ) (k : ℕ) : Type 0 where
  pub deep : ℕ
  pub enough : nodes t ≤ deep + k
  pub last : last_from deep t v k ≡ last_node t v

-- the walk ends at this node with r
pub record Arrives (t v : List ℕ) (node : ℕ) (r : End) : Type 0 where
  pub means : end_means t v r ≡ walk (tree_of t) v
  pub holds : Reaches t r
  pub there : node < nodes t
  pub last : node ≡ last_node t v
  pub sticks : SticksAt t v (stuck_step t v node) r
