-- The leaves and hoists of an accepted sheet's tree: each is a clause's and binds what the clause's pattern binds, each name to the path
-- of the pattern that has it. That a clause has at most as many names as the sheet has patterns is in proofs/SheetLeaves.antt.
use Rattle.std.specs.Prelude.{ℕ, zero, suc, ◌+◌, ◌≤◌, ◌<◌, ◌≡◌, refl, List, [], ◌∷◌, ◌++◌, length}
use Rattle.std.proofs.Common.{arith, zero-add, sym, ap, ◌∙◌, subst, inl, inr}
use Rattle.std.proofs.Math.Option.{Option, some}
use Rattle.spec_rules.specs.Limits.{node_bindings_most}
use Rattle.spec_rules.specs.SheetFile.{clauses}
use Rattle.spec_rules.specs.Patterns.{Pat, clause_pattern, clause_patterns}
use Rattle.spec_rules.specs.Rows.{Binding}
use Rattle.spec_rules.specs.Building.{Tree, Cases, absent, leaf, hoist, switch, listswitch, cnil, ccons, plain_tree}
use Rattle.spec_rules.specs.Hoisting.{whole_tree}
use Rattle.spec_rules.specs.Calls.{sheet_patterns, sheet_tree}
use Rattle.spec_rules.specs.SplittingLaws.{All}
use Rattle.spec_accepted.specs.SheetFacts.{Accepted}
use Rattle.spec_hoist.specs.Trees.{unhoisted, unhoisted_of, EachHoist, EachHoistOf, Leaf, leaf_with, leaves_of, leaves_of_each, Among}
use Rattle.spec_hoist.specs.UnhoistedLaws.{hoist_all_unhoisted, plain_unhoisted}
use Rattle.spec_hoist.specs.BuiltLaws.{plain_tree_plain}
use Rattle.spec_hoist.proofs.WholeTreeLaws.{whole_tree_bind}
use Rattle.spec_match.specs.Lists.{all_append}
use Rattle.spec_match.specs.Leaves.{AllLeaves, AllLeavesOf, clause_at, LeafOf, leaves_bind}
use Rattle.spec_theorems.specs.Said.{OfClause}
use Rattle.spec_theorems.specs.Stands.{Used}
use Rattle.spec_theorems.specs.SheetPatterns.{FieldA}

-- ---- leaves: from a tree without hoists to the tree, from all leaves to one, from leaves to hoists
module _ (P : ℕ → List Binding → Type 0) where
  mutual
    unfolding AllLeaves unhoisted

    pub leaves_unhoisted : (a : Tree) → AllLeaves P (unhoisted a) → AllLeaves P a
    leaves_unhoisted absent h = tt
    leaves_unhoisted (leaf c bs) h = h
    leaves_unhoisted (hoist c bs a) h = leaves_unhoisted a h
    leaves_unhoisted (switch p cs d) h = (leaves_of_unhoisted cs h.0, leaves_unhoisted d h.1)
    leaves_unhoisted (listswitch p cs ts d) h = (leaves_of_unhoisted cs h.0, leaves_of_unhoisted ts h.1, leaves_unhoisted d h.2)

    leaves_of_unhoisted : (cs : Cases) → AllLeavesOf P (unhoisted_of cs) → AllLeavesOf P cs
    leaves_of_unhoisted cnil h = tt
    leaves_of_unhoisted (ccons t start a cs) h = (leaves_unhoisted a h.0, leaves_of_unhoisted cs h.1)

  abbrev OfLeaf : Leaf → Type 0
  OfLeaf x = P x.clause x.bindings

  mutual
    unfolding AllLeaves leaves_of

    leaves_all : (a : Tree) → AllLeaves P a → All OfLeaf (leaves_of a)
    leaves_all absent h = tt
    leaves_all (leaf c bs) h = (h, tt)
    leaves_all (hoist c bs a) h = leaves_all a h
    leaves_all (switch p cs d) h = all_append OfLeaf (leaves_of_each cs) (leaves_of d) (leaves_of_each_all cs h.0) (leaves_all d h.1)
    leaves_all (listswitch p cs ts d) h =
        all_append OfLeaf (leaves_of_each cs) (leaves_of_each ts ++ leaves_of d) (leaves_of_each_all cs h.0)
        (all_append OfLeaf (leaves_of_each ts) (leaves_of d) (leaves_of_each_all ts h.1) (leaves_all d h.2))

    leaves_of_each_all : (cs : Cases) → AllLeavesOf P cs → All OfLeaf (leaves_of_each cs)
    leaves_of_each_all cnil h = tt
    leaves_of_each_all (ccons t start a cs) h = all_append OfLeaf (leaves_of a) (leaves_of_each cs) (leaves_all a h.0) (leaves_of_each_all cs h.1)

  all_among : (xs : List Leaf) → All OfLeaf xs → (x : Leaf) → Among x xs → OfLeaf x
  all_among [] h x m = absurd m
  all_among (y ∷ xs) h x (inl e) = subst OfLeaf (sym e) h.0
  all_among (y ∷ xs) h x (inr m) = all_among xs h.1 x m

  pub each_leaf : (a : Tree) → AllLeaves P a → (x : Leaf) → Among x (leaves_of a) → P x.clause x.bindings
  each_leaf a h = all_among (leaves_of a) (leaves_all a h)

module _ (P Q : ℕ → List Binding → Type 0) (f : (c : ℕ) (bs : List Binding) → P c bs → Q c bs) where
  mutual
    unfolding AllLeaves

    pub leaves_map : (a : Tree) → AllLeaves P a → AllLeaves Q a
    leaves_map absent h = tt
    leaves_map (leaf c bs) h = f c bs h
    leaves_map (hoist c bs a) h = leaves_map a h
    leaves_map (switch p cs d) h = (leaves_of_map cs h.0, leaves_map d h.1)
    leaves_map (listswitch p cs ts d) h = (leaves_of_map cs h.0, leaves_of_map ts h.1, leaves_map d h.2)

    leaves_of_map : (cs : Cases) → AllLeavesOf P cs → AllLeavesOf Q cs
    leaves_of_map cnil h = tt
    leaves_of_map (ccons t start a cs) h = (leaves_map a h.0, leaves_of_map cs h.1)

  mutual
    unfolding EachHoist

    pub hoists_map : (a : Tree) → EachHoist P a → EachHoist Q a
    hoists_map absent h = tt
    hoists_map (leaf c bs) h = tt
    hoists_map (hoist c bs a) h = (f c bs h.0, hoists_map a h.1)
    hoists_map (switch p cs d) h = (hoists_of_map cs h.0, hoists_map d h.1)
    hoists_map (listswitch p cs ts d) h = (hoists_of_map cs h.0, hoists_of_map ts h.1, hoists_map d h.2)

    hoists_of_map : (cs : Cases) → EachHoistOf P cs → EachHoistOf Q cs
    hoists_of_map cnil h = tt
    hoists_of_map (ccons t start a cs) h = (hoists_map a h.0, hoists_of_map cs h.1)

-- without its hoists the whole tree is the tree that was built
pub whole_unhoisted : (qs : List Pat) → unhoisted (whole_tree qs) ≡ plain_tree qs
unfolding whole_tree
whole_unhoisted qs = hoist_all_unhoisted (length qs) (plain_tree qs) ∙ plain_unhoisted (plain_tree qs) (plain_tree_plain qs)

-- ---- the clauses of a sheet
pub length_clause_patterns : (s : List ℕ) (c n : ℕ) → length (clause_patterns s c n) ≡ n
unfolding clause_patterns
length_clause_patterns s c zero = refl
length_clause_patterns s c (suc n) = ap suc (length_clause_patterns s (c + 1) n)

pub length_sheet_patterns : (s : List ℕ) → length (sheet_patterns s) ≡ clauses s
unfolding sheet_patterns
length_sheet_patterns s = length_clause_patterns s 0 (clauses s)

clause_at_from : (s : List ℕ) (c n i : ℕ) → i < n → clause_at (clause_patterns s c n) i ≡ some (clause_pattern s (c + i))
unfolding clause_patterns clause_at
clause_at_from s c zero i h = absurd (omega arith)
clause_at_from s c (suc n) zero h = let e : c ≡ c + 0 = omega arith in ap (λ k. some (clause_pattern s k)) e
clause_at_from s c (suc n) (suc i) h =
    let e : c + 1 + i ≡ c + suc i = omega arith in
    clause_at_from s (c + 1) n i (omega arith) ∙ ap (λ k. some (clause_pattern s k)) e

pub clause_at_sheet : (s : List ℕ) (c : ℕ) → c < clauses s → clause_at (sheet_patterns s) c ≡ some (clause_pattern s c)
unfolding sheet_patterns
clause_at_sheet s c h = clause_at_from s 0 (clauses s) c h ∙ ap (λ k. some (clause_pattern s k)) (zero-add c)

-- ---- the bindings of a leaf or a hoist of a clause
leaf_of_clause : (s : List ℕ) (c : ℕ) (bs : List Binding) → LeafOf (sheet_patterns s) c bs → OfClause s c bs
leaf_of_clause s c bs l =
    let number : c < clauses s = omega (arith, length_sheet_patterns s, l.number) in
    let same : l.clause ≡ clause_pattern s c = one l.clause (clause_pattern s c) (sym l.its ∙ clause_at_sheet s c number) in
    record { clause = number; binds = rw same at l.binds; as_many = rw same at l.many }
  where
    one : (p q : Pat) → ◌≡◌ {A = Option Pat} (some p) (some q) → p ≡ q
    one p q e = cc

plain_leaves : (s : List ℕ) → AllLeaves (OfClause s) (plain_tree (sheet_patterns s))
plain_leaves s = leaves_map (LeafOf (sheet_patterns s)) (OfClause s) (leaf_of_clause s) (plain_tree (sheet_patterns s)) (leaves_bind (sheet_patterns s))

-- THEOREM: each leaf and each hoist is a clause's and binds what the clause's pattern binds
pub sheet_leaves : (s : List ℕ) → AllLeaves (OfClause s) (sheet_tree s)
unfolding sheet_tree
sheet_leaves s = leaves_unhoisted (OfClause s) (whole_tree (sheet_patterns s)) (rw (whole_unhoisted (sheet_patterns s)) (plain_leaves s))

pub sheet_hoists : (s : List ℕ) → EachHoist (OfClause s) (sheet_tree s)
unfolding sheet_tree
sheet_hoists s =
    hoists_map (λ c bs. Among (leaf_with c bs) (leaves_of (plain_tree (sheet_patterns s)))) (OfClause s)
    (λ c bs m. each_leaf (OfClause s) (plain_tree (sheet_patterns s)) (plain_leaves s) (leaf_with c bs) m) (whole_tree (sheet_patterns s))
    (whole_tree_bind (sheet_patterns s))

-- ---- names
-- a binding: a pattern stands at its path, and its name is a pattern's
pub record BindingOf (s : List ℕ) (b : Binding) : Type 0 where
  pub its_path : Used s b.path
  pub its_name : FieldA s b.name

module _ (s : List ℕ) (a : Accepted s) where
  pub record LeafFine (c : ℕ) (bs : List Binding) : Type 0 where
    pub few : length bs ≤ node_bindings_most
    pub each : All (BindingOf s) bs
