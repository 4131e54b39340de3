-- The whole tree of a sheet's clauses: each clause with a leaf is hoisted exactly once and above all its leaves, and nothing else is changed.
-- The theorems of the other files at the tree that is built.
use Rattle.std.specs.Prelude.{◌≡◌, true, List, ℕ, ◌+◌, ◌≤◌, ◌<◌, length}
use Rattle.std.proofs.Common.{◌∙◌}
use Rattle.std.proofs.Math.Option.{none}
use Rattle.spec_rules.specs.Patterns.{Pat}
use Rattle.spec_rules.specs.Rows.{bit}
use Rattle.spec_rules.specs.Searching.{times}
use Rattle.spec_rules.specs.Building.{plain_tree}
use Rattle.spec_rules.specs.Hoisting.{first_bindings, whole_tree, nodes_in, bindings_in, has_leaf}
use Rattle.spec_rules.specs.Calls.{lowest_idle}
use Rattle.spec_hoist.specs.Trees.{hoists_of, EachHoist, Above, leaf_with, leaves_of, Among, sum}
use Rattle.spec_hoist.specs.Descent.{hoist_by}
use Rattle.spec_hoist.specs.IdleLaws.{lowest_idle_none}
use Rattle.spec_hoist.proofs.OnceLaws.{hoists_of_hoist_all, hoisted_only, hoisted_once, nodes_in_hoist_all}
use Rattle.spec_hoist.proofs.AboveLaws.{hoisted_above}
use Rattle.spec_hoist.proofs.BindingsLaws.{hoists_bind, bindings_in_hoist_all}
use Rattle.spec_hoist.specs.BuiltLaws.{plain_tree_plain}
use Rattle.spec_hoist.proofs.DescentLaws.{hoist_all_by}
use Rattle.spec_hoist.specs.WholeTreeLaws.{whole_tree_has_leaf, HoistedOnce}

-- ---- the whole tree
module _ (qs : List Pat) where
  -- one hoist for each clause with a leaf, none for any other, above all leaves of the clause, with the bindings of one of them
  pub whole_tree_once : (c : ℕ) → c < length qs → hoists_of c (whole_tree qs) ≡ bit (has_leaf c (plain_tree qs))
  unfolding whole_tree
  whole_tree_once c l = hoists_of_hoist_all (length qs) (plain_tree qs) c (plain_tree_plain qs) l

  pub whole_tree_only : (c : ℕ) → length qs ≤ c → hoists_of c (whole_tree qs) ≡ 0
  unfolding whole_tree
  whole_tree_only c l = hoisted_only (length qs) (plain_tree qs) c (plain_tree_plain qs) l

  pub whole_tree_above : (c : ℕ) → c < length qs → Above c (whole_tree qs)
  unfolding whole_tree
  whole_tree_above c l = hoisted_above (length qs) (plain_tree qs) c l

  pub whole_tree_bind : EachHoist (λ c bs. Among (leaf_with c bs) (leaves_of (plain_tree qs))) (whole_tree qs)
  unfolding whole_tree
  whole_tree_bind = hoists_bind (length qs) (plain_tree qs) (plain_tree_plain qs)

  -- 12 and 13
  pub whole_tree_nodes : nodes_in (whole_tree qs) ≡ nodes_in (plain_tree qs) + times (λ c. has_leaf c (plain_tree qs)) 0 (length qs)
  unfolding whole_tree
  whole_tree_nodes = nodes_in_hoist_all (length qs) (plain_tree qs)

  pub whole_tree_bindings : length (bindings_in (whole_tree qs)) ≡ length (bindings_in (plain_tree qs)) + sum (λ c. length (first_bindings c (plain_tree qs))) 0 (length qs)
  unfolding whole_tree
  whole_tree_bindings = bindings_in_hoist_all (length qs) (plain_tree qs)

  pub whole_tree_hoisted : lowest_idle (length qs) (whole_tree qs) ≡ none → (c : ℕ) → c < length qs → HoistedOnce qs c
  unfolding whole_tree
  whole_tree_hoisted e c l =
      let h = lowest_idle_none (length qs) (plain_tree qs) e c l in
      record {
        leaf_there = whole_tree_has_leaf qs c ∙ h;
        once = hoisted_once (length qs) (plain_tree qs) c (plain_tree_plain qs) l h;
        above = whole_tree_above c l;
      }

  -- rule 7 by going down the tree once
  pub whole_tree_by : whole_tree qs ≡ hoist_by (λ c. first_bindings c (plain_tree qs)) (length qs) (λ c. true) (plain_tree qs)
  unfolding whole_tree
  whole_tree_by = hoist_all_by (length qs) (plain_tree qs)
