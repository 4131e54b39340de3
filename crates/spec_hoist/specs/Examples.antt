-- The clauses (1, 1), (1, 2), (2, 3): the step-back notes put clause 1 above the switch on its second part, though it has one leaf.
-- Its hoisted tree by rule 7, and by going down once.
use Rattle.std.specs.Prelude.{ℕ, ◌≡◌, refl, true, [], ◌∷◌}
use Rattle.std.proofs.Math.Option.{some}
use Rattle.spec_rules.specs.Rows.{tuple, Path}
use Rattle.spec_rules.specs.Splitting.{Int}
use Rattle.spec_rules.specs.Building.{Tree, Cases, absent, leaf, hoist, switch, cnil, ccons}
use Rattle.spec_rules.specs.Hoisting.{Case, visits, scope, first_bindings, hoist_all}
use Rattle.spec_hoist.specs.Descent.{hoist_by}

abbrev first : Path
first = tuple 0 0 ∷ []

abbrev second : Path
second = tuple 1 0 ∷ []

-- the case of the one-digit text d
abbrev digit : ℕ → Tree → Cases → Cases
digit d a cs = ccons (Int (d ∷ [])) 0 a cs

abbrev plain : Tree
plain =
    switch first (
    digit 49 (switch second (digit 49 (leaf 0 []) (digit 50 (leaf 1 []) cnil)) absent)
    (digit 50 (switch second (digit 51 (leaf 2 []) cnil) absent) cnil)
    ) absent

abbrev whole : Tree
whole =
    hoist 2 [] (switch first (
    digit 49 (hoist 1 [] (switch second (digit 49 (hoist 0 [] (leaf 0 [])) (digit 50 (leaf 1 []) cnil)) absent))
    (digit 50 (switch second (digit 51 (leaf 2 []) cnil) absent) cnil)
    ) absent)

scope_of_1 : scope 1 (visits [] plain) ≡ some (Case 0 ∷ [])
unfolding visits scope
scope_of_1 = refl

whole_tree : hoist_all 3 plain ≡ whole
unfolding hoist_all
whole_tree = refl

whole_tree_by : hoist_by (λ c. first_bindings c plain) 3 (λ c. true) plain ≡ whole
unfolding hoist_by first_bindings
whole_tree_by = refl
