-- Pre-order, said of each node alone: its first child is the next node, each later child is where the subtree of the child before it
-- ends, and the subtree of node 0 ends where the nodes do. PreOrderLaws proves that this is the rules' condition.
use Rattle.std.specs.Prelude.{ℕ, zero, suc, ◌+◌, ◌-◌, ◌<◌, ◌≤◌, ◌≡◌, Bool, true, false, List, [], ◌∷◌, ◌++◌, eqb, ltb}
use Rattle.base_words.specs.Words.{both}
use Rattle.spec_rules.specs.Searching.{every}
use Rattle.spec_rules.specs.TreeReader.{nodes, node_children, case_child, case_children, default_child}
use Rattle.format_tree.specs.declared.layout.TreeMap.{TreeMap}
use Rattle.format_tree.specs.declared.order.Children.{Children}

-- the last of the children cs, and k where there is none
unfoldable pub last_from : ℕ → List ℕ → ℕ
last_from k [] = k
last_from k (c ∷ cs) = last_from c cs

unfoldable pub last_child : List ℕ → ℕ → ℕ
unfolding last_from
last_child t k = last_from k (node_children t k)

-- the number after the last node that last children lead to from k, as far as they rise and `deep` of them
unfoldable pub end_from : ℕ → List ℕ → ℕ → ℕ
unfolding last_child
end_from zero t k = k + 1
end_from (suc deep) t k = elim (ltb k (last_child t k)) [ true ↦ end_from deep t (last_child t k) | false ↦ k + 1 ]

-- where the subtree of k ends; they rise, so that the number of nodes is deep enough
unfoldable pub end_of : List ℕ → ℕ → ℕ
unfolding end_from
end_of t k = end_from (nodes t) t k

-- the first of the children cs is e, and each later one is where the one before it ends
unfoldable pub chained : List ℕ → ℕ → List ℕ → Bool
unfolding end_of
chained t e [] = true
chained t e (c ∷ cs) = both (eqb c e) (chained t (end_of t c) cs)

-- the child of case j is where the child of the case before it ends
unfoldable pub case_follows : List ℕ → ℕ → Bool
unfolding case_child end_of
case_follows t j = eqb (case_child t j) (end_of t (case_child t (j - 1)))

unfoldable pub children_follow : List ℕ → ℕ → Bool
unfolding chained
children_follow t k = chained t (k + 1) (node_children t k)

unfoldable pub all_follow : List ℕ → Bool
unfolding children_follow
all_follow t = both (ltb 0 (nodes t)) (both (every (children_follow t) 0 (nodes t)) (eqb (end_of t 0) (nodes t)))

-- every one of cs is below n
abbrev pub AllBelow : ℕ → List ℕ → Type 0
AllBelow n [] = Unit {0}
AllBelow n (c ∷ cs) = (c < n) × AllBelow n cs

-- the children of node k as the code has them; a run of cases has one, and lies in its section
abbrev pub ChildrenAre : List ℕ → TreeMap → ℕ → Children → Type 0
ChildrenAre t m k (Children.Cases first count default) =
    (node_children t k ≡ case_children t first count ++ default_child default) × (1 ≤ count) × (first + count ≤ m.cases.count)
ChildrenAre t m k (Children.One c) = node_children t k ≡ c ∷ []
ChildrenAre t m k Children.Nothing = node_children t k ≡ []
