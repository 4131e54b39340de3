-- A clause has at most as many names as the sheet has patterns; the bindings of each leaf and hoist of an accepted sheet's tree.
use Rattle.std.specs.Prelude.{ℕ, ◌≤◌, ◌<◌, ◌≡◌, List, [], ◌∷◌, length}
use Rattle.std.proofs.Common.{arith}
use Rattle.spec_rules.specs.SheetFile.{clauses, patterns, pattern_a}
use Rattle.spec_rules.specs.Patterns.{clause_pattern, names}
use Rattle.spec_rules.specs.Rows.{Binding}
use Rattle.spec_rules.specs.Calls.{sheet_tree}
use Rattle.spec_rules.specs.SplittingLaws.{All}
use Rattle.spec_accepted.specs.SheetFacts.{Accepted}
use Rattle.spec_hoist.specs.Trees.{EachHoist}
use Rattle.spec_match.specs.Bindings.{all_bindings}
use Rattle.spec_match.specs.Leaves.{AllLeaves, bound_names, all_bindings_names}
use Rattle.spec_theorems.specs.Said.{OfClause}
use Rattle.spec_theorems.specs.EachPattern.{all_bindings_everywhere}
use Rattle.spec_theorems.specs.SheetPatterns.{Facts}
use Rattle.spec_theorems.proofs.SheetPatterns.{clause_everywhere}
use Rattle.spec_theorems.specs.Counting.{distinct_most, same_bindings_all}
use Rattle.spec_theorems.specs.SheetLeaves.{leaves_map, hoists_map, sheet_leaves, sheet_hoists, BindingOf, LeafFine}

-- ---- names
module _ (s : List ℕ) (a : Accepted s) where
  clause_binds : (c : ℕ) → c < clauses s → All (BindingOf s) (all_bindings [] (clause_pattern s c))
  clause_binds c l =
      all_bindings_everywhere (Facts s) (BindingOf s) (λ p m x h. record { its_path = h.0; its_name = h.1 }) (λ p m x q h. record { its_path = h.0; its_name = h.1 })
      [] (clause_pattern s c) (clause_everywhere s a c l)

  all_names : (bs : List Binding) → All (BindingOf s) bs → All (λ x. (k : ℕ) × (k < patterns s) × (x ≡ pattern_a s k)) (bound_names bs)
  all_names [] h = tt
  all_names (b ∷ bs) h = let n = h.0.its_name in ((n.number, n.known, n.is), all_names bs h.1)

  -- THEOREM: a clause has at most as many names as the sheet has patterns
  pub names_most : (c : ℕ) → c < clauses s → length (names (clause_pattern s c)) ≤ patterns s
  names_most c l =
      distinct_most (pattern_a s) (patterns s) (names (clause_pattern s c)) (a.names_once c l)
      (rw (all_bindings_names [] (clause_pattern s c)) at (all_names (all_bindings [] (clause_pattern s c)) (clause_binds c l)))

  pub leaf_fine : (c : ℕ) (bs : List Binding) → OfClause s c bs → LeafFine s a c bs
  leaf_fine c bs o = record {
    few = omega (arith, o.as_many, names_most c o.clause, a.is_counted.patterns_most_holds);
    each = same_bindings_all (BindingOf s) bs (all_bindings [] (clause_pattern s c)) o.binds (clause_binds c o.clause);
  }

  pub leaves_fine : AllLeaves (LeafFine s a) (sheet_tree s)
  leaves_fine = leaves_map (OfClause s) (LeafFine s a) leaf_fine (sheet_tree s) (sheet_leaves s)

  pub hoists_fine : EachHoist (LeafFine s a) (sheet_tree s)
  hoists_fine = hoists_map (OfClause s) (LeafFine s a) leaf_fine (sheet_tree s) (sheet_hoists s)
