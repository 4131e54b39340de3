-- Where a tree's records are placed in a file, a way in the tree is a way in the file, by the same numbers: so the reported node is a switch
-- without default in the file that the build writes, and the reported tests lead there.
use Rattle.std.specs.Prelude.{ℕ, zero, suc, ◌+◌, ◌-◌, ◌*◌, ◌≤◌, ◌<◌, ◌≡◌, true, List, [], ◌∷◌}
use native.Mathlib.Omega.{arith}
use Rattle.std.proofs.Math.Path.{refl, ap}
use Rattle.std.proofs.Common.{sym, ◌∙◌, inl, inr}
use Rattle.std.proofs.lemmas.Bool.{false≢true}
use Rattle.std.proofs.Math.Option.{some}
use Rattle.std.proofs.Math.ListN.{length}
use Rattle.spec_rules.specs.Limits.{case_size}
use Rattle.spec_rules.specs.Rows.{Path}
use Rattle.spec_rules.specs.Building.{Tree, Cases, absent, leaf, hoist, switch, listswitch, cnil, ccons}
use Rattle.spec_rules.specs.Hoisting.{Fallback, Case, how_many, nodes_in, nodes_in_of, bindings_in, bindings_in_of}
use Rattle.spec_rules.specs.TreeFile.{first_of, cases_in, cases_in_of, default_field, own_cases}
use Rattle.spec_rules.specs.TreeReader.{tree_cases_at, node_kind, node_first_case, node_cases, node_tail_cases, node_default, node_child, case_child}
use Rattle.spec_file.specs.StandingLaws.{Stands}
use Rattle.spec_file.specs.TableLaws.{Tabled}
use Rattle.spec_file.specs.TreeStandsLaws.{own_rest}
use Rattle.spec_file.specs.PlacedLaws.{Placed, PlacedOf, hoist_placed, switch_placed, list_switch_placed, own_first, first_placed, rest_placed}
use Rattle.spec_hoist.specs.Trees.{is_present}
use Rattle.spec_match.specs.ColumnTypes.{retyped}
use Rattle.spec_forgotten.specs.Values.{Passed}
use Rattle.spec_forgotten.specs.Choosing.{Chosen, Node, node_of}
use Rattle.spec_forgotten.specs.ReachingLaws.{no_node_there}
use Rattle.spec_forgotten.specs.Shapes.{shape_of}
use Rattle.spec_forgotten.specs.FallingLaws.{Goes, goes_hoist, goes_out, goes_case, goes_on}
use Rattle.spec_forgotten.specs.ChildrenLaws.{CaseOf, case_within, ChildOf, chosen_child, node_chooses}
use Rattle.spec_forgotten.specs.FileWays.{FileWay, over_hoist, ends_here, by_case, by_default}

first_some : (n c : ℕ) → 0 < n → first_of n c ≡ c
unfolding first_of
first_some zero c l = absurd (omega arith)
first_some (suc n) c l = refl

default_there : (k : ℕ) (d : Tree) → is_present d ≡ true → default_field k d ≡ suc k
unfolding is_present default_field
default_there k absent h = absurd (false≢true h)
default_there k (leaf c bs) h = refl
default_there k (hoist c bs a) h = refl
default_there k (switch p cs d) h = refl
default_there k (listswitch p cs ts d) h = refl

default_absent : (k : ℕ) (d : Tree) → d ≡ absent → default_field k d ≡ 0
unfolding default_field
default_absent k d e = rw e

from_zero : (c i : ℕ) → c + i ≡ c + (i - 0)
from_zero c i = omega arith

module _ (t : List ℕ) (table : List Path) (tab : Tabled t table) where
  -- ---- the children of a switch in the file
  own_child : (x : Chosen) (cs : Cases) (i j at : ℕ) → CaseOf i j cs x → Stands t (tree_cases_at t + case_size * at) (own_cases j cs) → case_child t (at + (x.index - i)) ≡ x.node
  unfolding CaseOf
  own_child x cnil i j at h own = absurd h
  own_child x (ccons u start a cs) i j at (inl e) own = rw e (ap (case_child t) (same at) ∙ (own_first t at j u start a cs own).child_is)
    where
      same : (at : ℕ) → at + (i - i) ≡ at
      same at = omega arith
  own_child x (ccons u start a cs) i j at (inr h) own =
      let low = (case_within (i + 1) (j + nodes_in a) cs x h).number_from in
      ap (case_child t) (next x.index low) ∙ own_child x cs (i + 1) (j + nodes_in a) (at + 1) h (own_rest t (tree_cases_at t) at j u start a cs own)
    where
      next : (n : ℕ) → i + 1 ≤ n → at + (n - i) ≡ at + 1 + (n - (i + 1))
      next n l = omega arith

  record PlacedAt (x : Chosen) : Type 0 where
    its_case : ℕ
    its_binding : ℕ
    placed : Placed t table x.node its_case its_binding x.tree

  case_placed : (x : Chosen) (cs : Cases) (i j c b : ℕ) → CaseOf i j cs x → PlacedOf t table j c b cs → PlacedAt x
  unfolding CaseOf
  case_placed x cnil i j c b h p = absurd h
  case_placed x (ccons u start a cs) i j c b (inl e) p = rw e (record { its_case = c; its_binding = b; placed = first_placed t table j c b u start a cs p })
  case_placed x (ccons u start a cs) i j c b (inr h) p =
      case_placed x cs (i + 1) (j + nodes_in a) (c + cases_in a) (b + length (bindings_in a)) h (rest_placed t table j c b u start a cs p)

  -- ---- ways
  module _ (n : ℕ) (ts : List Passed) where
    child_way : (k c b : ℕ) (a : Tree) (x : Chosen) → ChildOf k a x → Placed t table k c b a → ((d e : ℕ) → Placed t table x.node d e x.tree → FileWay t x.node n ts)
        → FileWay t k n (record { node = k; branch = Case x.index } ∷ ts)
    unfolding ChildOf node_first_case node_cases node_tail_cases
    child_way k c b absent x h p ih = absurd h
    child_way k c b (leaf d bs) x h p ih = absurd h
    child_way k c b (hoist d bs a) x h p ih = absurd h
    child_way k c b (switch q cs d) x h p ih =
        let g = switch_placed t table tab k c b q cs d p in
        let r = case_within 0 (k + 1) cs x h in
        let at = case_placed x cs 0 (k + 1) (c + how_many cs) b h g.below in
        let first = g.node.word_1 ∙ first_some (how_many cs) c (omega (arith, r.number_to)) in
        let child : case_child t (node_first_case t k + x.index) ≡ x.node = ap (λ f. case_child t (f + x.index)) first ∙ ap (case_child t) (from_zero c x.index) ∙ own_child x cs 0 (k + 1) c h g.own in
        by_case k x.index n ts (omega (arith, g.node.kind_is)) (omega (arith, r.number_to, g.node.word_2)) (rw child (ih at.its_case at.its_binding at.placed))
    child_way k c b (listswitch q cs us d) x (inl h) p ih =
        let g = list_switch_placed t table tab k c b q cs us d p in
        let r = case_within 0 (k + 1) cs x h in
        let at = case_placed x cs 0 (k + 1) (c + how_many cs + how_many us) b h g.below in
        let first = g.node.word_1 ∙ first_some (how_many cs + how_many us) c (omega (arith, r.number_to)) in
        let child : case_child t (node_first_case t k + x.index) ≡ x.node = ap (λ f. case_child t (f + x.index)) first ∙ ap (case_child t) (from_zero c x.index) ∙ own_child x cs 0 (k + 1) c h g.own in
        by_case k x.index n ts (omega (arith, g.node.kind_is)) (omega (arith, r.number_to, g.node.word_2, g.node.word_3))
        (rw child (ih at.its_case at.its_binding at.placed))
    child_way k c b (listswitch q cs us d) x (inr h) p ih =
        let g = list_switch_placed t table tab k c b q cs us d p in
        let r = case_within (how_many cs) (k + 1 + nodes_in_of cs) us x h in
        let at = case_placed x us (how_many cs) (k + 1 + nodes_in_of cs) _ _ h g.below_tailed in
        let first = g.node.word_1 ∙ first_some (how_many cs + how_many us) c (omega (arith, r.number_to)) in
        let child : case_child t (node_first_case t k + x.index) ≡ x.node =
        ap (λ f. case_child t (f + x.index)) first ∙ ap (case_child t) (apart x.index (how_many cs) r.number_from) ∙ own_child x us (how_many cs) (k + 1 + nodes_in_of cs) (c + how_many cs) h g.own_tailed in
        by_case k x.index n ts (omega (arith, g.node.kind_is)) (omega (arith, r.number_to, g.node.word_2, g.node.word_3))
        (rw child (ih at.its_case at.its_binding at.placed))
      where
        apart : (i m : ℕ) → m ≤ i → c + i ≡ c + m + (i - m)
        apart i m l = omega arith

    default_way : (k c b : ℕ) (a : Tree) (w : Node) → node_of k a ≡ some w → is_present w.default ≡ true → Placed t table k c b a
        → ((d e : ℕ) → Placed t table w.next d e w.default → FileWay t w.next n ts) → FileWay t k n (record { node = k; branch = Fallback } ∷ ts)
    unfolding node_of node_default
    default_way k c b absent w e h p ih = absurd (no_node_there w e)
    default_way k c b (leaf d bs) w e h p ih = absurd (no_node_there w e)
    default_way k c b (hoist d bs a) w e h p ih = absurd (no_node_there w e)
    default_way k c b (switch q cs d) w e h p ih =
        let g = switch_placed t table tab k c b q cs d p in
        let same : w.default ≡ d = cc in
        let next : w.next ≡ k + 1 + nodes_in_of cs = cc in
        by_default k (k + 1 + nodes_in_of cs) n ts (omega (arith, g.node.kind_is)) (g.node.word_4 ∙ default_there (k + 1 + nodes_in_of cs) d (rw same at h))
        (rw next at (ih (c + how_many cs + cases_in_of cs) (b + length (bindings_in_of cs)) (rw (next, same) g.default)))
    default_way k c b (listswitch q cs us d) w e h p ih =
        let g = list_switch_placed t table tab k c b q cs us d p in
        let same : w.default ≡ d = cc in
        let next : w.next ≡ k + 1 + nodes_in_of cs + nodes_in_of us = cc in
        by_default k (k + 1 + nodes_in_of cs + nodes_in_of us) n ts (omega (arith, g.node.kind_is)) (g.node.word_4 ∙ default_there (k + 1 + nodes_in_of cs + nodes_in_of us) d (rw same at h))
        (rw next at (ih (c + how_many cs + how_many us + cases_in_of cs + cases_in_of us) (b + length (bindings_in_of cs) + length (bindings_in_of us)) (rw (next, same) g.default)))

  out_way : (k c b : ℕ) (a : Tree) (w : Node) → node_of k a ≡ some w → w.default ≡ absent → Placed t table k c b a → FileWay t k k []
  unfolding node_of node_default
  out_way k c b absent w e h p = absurd (no_node_there w e)
  out_way k c b (leaf d bs) w e h p = absurd (no_node_there w e)
  out_way k c b (hoist d bs a) w e h p = absurd (no_node_there w e)
  out_way k c b (switch q cs d) w e h p =
      let g = switch_placed t table tab k c b q cs d p in
      let same : d ≡ w.default = cc in
      ends_here k (omega (arith, g.node.kind_is)) (g.node.word_4 ∙ default_absent (k + 1 + nodes_in_of cs) d (same ∙ h))
  out_way k c b (listswitch q cs us d) w e h p =
      let g = list_switch_placed t table tab k c b q cs us d p in
      let same : d ≡ w.default = cc in
      ends_here k (omega (arith, g.node.kind_is)) (g.node.word_4 ∙ default_absent (k + 1 + nodes_in_of cs + nodes_in_of us) d (same ∙ h))

  node_present : (k : ℕ) (a : Tree) (w : Node) → node_of k a ≡ some w → is_present a ≡ true
  unfolding node_of is_present
  node_present k absent w e = absurd (no_node_there w e)
  node_present k (leaf d bs) w e = refl
  node_present k (hoist d bs a) w e = refl
  node_present k (switch q cs d) w e = refl
  node_present k (listswitch q cs us d) w e = refl

  module _ (s : List ℕ) where
    goes_present : (types : Path → ℕ) (k : ℕ) (a : Tree) (n : ℕ) (ts : List Passed) → Goes s (retyped s) types k a n ts → is_present a ≡ true
    goes_present types k a n ts (goes_hoist t1 k1 c bs b n1 ts1 g) = unfold is_present in refl
    goes_present types k a n ts (goes_out t1 k1 a1 w e x tx ch ab) = node_present k a w e
    goes_present types k a n ts (goes_case t1 k1 a1 w e x tx c ch n1 ts1 g) = node_present k a w e
    goes_present types k a n ts (goes_on t1 k1 a1 w e x tx ch n1 ts1 g) = node_present k a w e

    pub goes_file_way : (types : Path → ℕ) (k : ℕ) (a : Tree) (n : ℕ) (ts : List Passed) → Goes s (retyped s) types k a n ts → (c b : ℕ) → Placed t table k c b a → FileWay t k n ts
    unfolding node_child
    goes_file_way types k a n ts (goes_hoist t1 k1 d bs x n1 ts1 g) c b p =
        let r = hoist_placed t table tab k c b d bs x p in
        over_hoist k n ts r.node.kind_is (rw r.node.word_3 (goes_file_way types (k + 1) x n ts g c (b + length bs) r.below))
    goes_file_way types k a n ts (goes_out t1 k1 a1 w e x tx ch ab) c b p = out_way k c b a w e ab p
    goes_file_way types k a n ts (goes_case t1 k1 a1 w e x tx d ch n1 ts1 g) c b p =
        child_way n ts1 k c b a d (chosen_child k a (shape_of x) d (sym (node_chooses k a w e x) ∙ ch)) p
        (λ i j q. goes_file_way (retyped s types w.path d.test) d.node d.tree n ts1 g i j q)
    goes_file_way types k a n ts (goes_on t1 k1 a1 w e x tx ch n1 ts1 g) c b p =
        default_way n ts1 k c b a w e (goes_present types w.next w.default n ts1 g) p (λ i j q. goes_file_way types w.next w.default n ts1 g i j q)

-- the last node of a way is a switch without default
pub way_ends : (t : List ℕ) (k n : ℕ) (ts : List Passed) → FileWay t k n ts → (node_kind t n ≤ 1) × (node_default t n ≡ 0)
way_ends t k n ts (over_hoist k1 n1 ts1 e w) = way_ends t (node_child t k) n ts w
way_ends t k n ts (ends_here n1 h e) = (h, e)
way_ends t k n ts (by_case k1 i n1 ts1 h l w) = way_ends t (case_child t (node_first_case t k + i)) n ts1 w
way_ends t k n ts (by_default k1 d n1 ts1 h e w) = way_ends t d n ts1 w
