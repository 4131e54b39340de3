-- The tree of 01's listing before it is hoisted: where its three clauses are hoisted, and their first leaves.
-- And the clauses (1, 1), (1, 2), (2, 3), where a step-back note alone puts clause 1 above a switch.
use Rattle.std.specs.Prelude.{ℕ, ◌≡◌, refl, [], ◌∷◌}
use Rattle.spec_rules.specs.Rows.{tuple}
use Rattle.spec_rules.specs.Splitting.{Int}
use Rattle.spec_rules.specs.Building.{Tree, Cases, absent, leaf, switch, cnil, ccons, plain_tree}
use Rattle.spec_rules.specs.Hoisting.{first_bindings}
use Rattle.spec_rules.specs.Calls.{sheet_patterns, sheet_tree}
use Rattle.spec_rules.specs.Samples.{sheet1}
use Rattle.build_scopes.specs.Numbers.{scope_node, first_leaf_node, hoist_by_number}

-- the tree of the sheet's clauses, and its hoisting by numbers
abbrev listing : Tree
listing = plain_tree (sheet_patterns sheet1)

listing_scopes : (scope_node 0 listing ≡ 0) × (scope_node 1 listing ≡ 7) × (scope_node 2 listing ≡ 0)
unfolding plain_tree sheet_patterns scope_node
listing_scopes = (refl, refl, refl)

-- the default is built before the cases: clause 2 has node 12 for its first leaf, not node 3
listing_leaves : (first_leaf_node 0 listing ≡ 2) × (first_leaf_node 1 listing ≡ 7) × (first_leaf_node 2 listing ≡ 12)
unfolding plain_tree sheet_patterns first_leaf_node
listing_leaves = (refl, refl, refl)

listing_hoisted : hoist_by_number (λ c. scope_node c listing) (λ c. first_bindings c listing) 3 0 listing ≡ sheet_tree sheet1
unfolding plain_tree sheet_patterns scope_node first_bindings hoist_by_number sheet_tree
listing_hoisted = refl

-- the case of the one-digit text d
abbrev digit : ℕ → Tree → Cases → Cases
digit d a cs = ccons (Int (d ∷ [])) 0 a cs

abbrev stepped_back : Tree
stepped_back =
    switch (tuple 0 0 ∷ []) (
    digit 49 (switch (tuple 1 0 ∷ []) (digit 49 (leaf 0 []) (digit 50 (leaf 1 []) cnil)) absent)
    (digit 50 (switch (tuple 1 0 ∷ []) (digit 51 (leaf 2 []) cnil) absent) cnil)
    ) absent

stepped_back_scopes : (scope_node 0 stepped_back ≡ 2) × (scope_node 1 stepped_back ≡ 1) × (scope_node 2 stepped_back ≡ 0)
unfolding scope_node
stepped_back_scopes = (refl, refl, refl)
