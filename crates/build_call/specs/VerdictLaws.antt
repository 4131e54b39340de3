-- Refusals 12, 13 and 14 from the tree before it is hoisted: its nodes and bindings, which clauses have a leaf in it, and the bindings of
-- each clause's first leaf. Rests on what hoisting adds to a tree.
use Rattle.std.specs.Prelude.{◌≡◌, true, List, ℕ, ◌+◌, ◌≤◌, ◌<◌, leb}
use Rattle.std.proofs.Math.Path.{ap}
use Rattle.std.proofs.Common.{◌∙◌, arith}
use Rattle.std.proofs.Math.Bool.{not}
use Rattle.std.proofs.Math.Option.{none, some}
use borrow.Author.Tests.{le-leb, lt-leb}
use Rattle.std.proofs.Math.ListN.{length}
use Rattle.spec_rules.specs.Limits.{nodes_most, bindings_most}
use Rattle.spec_rules.specs.RefusalNumbers.{nodes_refusal, bindings_refusal, idle_refusal}
use Rattle.spec_rules.specs.Searching.{lowest, times}
use Rattle.spec_hoist.specs.Trees.{sum}
use Rattle.spec_rules.specs.SheetFile.{clauses}
use Rattle.spec_rules.specs.SheetRefusals.{accepted, refused}
use Rattle.spec_rules.specs.Building.{Tree, plain_tree}
use Rattle.spec_rules.specs.Hoisting.{has_leaf, first_bindings, nodes_in, bindings_in}
use Rattle.spec_rules.specs.Calls.{sheet_patterns, sheet_tree, lowest_idle, tree_verdict}
use Rattle.spec_hoist.specs.WholeTreeLaws.{whole_tree_has_leaf}
use Rattle.spec_hoist.proofs.WholeTreeLaws.{whole_tree_nodes, whole_tree_bindings}
use Rattle.spec_theorems.specs.SheetLeaves.{length_sheet_patterns}

module _ (s : List ℕ) where
  -- the tree before it is hoisted
  abbrev pub raw_tree : Tree
  raw_tree = plain_tree (sheet_patterns s)

  -- how many hoists it gets, and how many bindings these have
  abbrev pub hoists_of : ℕ
  hoists_of = times (λ c. has_leaf c raw_tree) 0 (clauses s)

  abbrev pub hoist_bindings : ℕ
  hoist_bindings = sum (λ c. length (first_bindings c raw_tree)) 0 (clauses s)

  pub whole_nodes : nodes_in (sheet_tree s) ≡ nodes_in raw_tree + hoists_of
  unfolding sheet_tree
  whole_nodes = whole_tree_nodes (sheet_patterns s) ∙ ap (λ n. nodes_in raw_tree + times (λ c. has_leaf c raw_tree) 0 n) (length_sheet_patterns s)

  pub whole_bindings : length (bindings_in (sheet_tree s)) ≡ length (bindings_in raw_tree) + hoist_bindings
  unfolding sheet_tree
  whole_bindings =
      whole_tree_bindings (sheet_patterns s)
      ∙ ap (λ n. length (bindings_in raw_tree) + sum (λ c. length (first_bindings c raw_tree)) 0 n) (length_sheet_patterns s)

  pub whole_idle : (n : ℕ) → lowest_idle n (sheet_tree s) ≡ lowest_idle n raw_tree
  unfolding lowest_idle sheet_tree
  whole_idle n = ap (λ f. lowest f 0 n) (λ i c. not (whole_tree_has_leaf (sheet_patterns s) c i))

  pub refused_12 : nodes_most < nodes_in raw_tree + hoists_of → tree_verdict (clauses s) (sheet_tree s) ≡ refused nodes_refusal 0
  unfolding tree_verdict
  refused_12 l = rw (lt-leb (nodes_in (sheet_tree s)) nodes_most (omega (arith, whole_nodes)))

  -- what fits so far
  module _ (few : nodes_in raw_tree + hoists_of ≤ nodes_most) where
    nodes_fit : leb (nodes_in (sheet_tree s)) nodes_most ≡ true
    nodes_fit = le-leb (nodes_in (sheet_tree s)) nodes_most (omega (arith, whole_nodes))

    pub refused_13 : bindings_most < length (bindings_in raw_tree) + hoist_bindings → tree_verdict (clauses s) (sheet_tree s) ≡ refused bindings_refusal 0
    unfolding tree_verdict
    refused_13 l = rw (nodes_fit, lt-leb (length (bindings_in (sheet_tree s))) bindings_most (omega (arith, whole_bindings)))

    module _ (fit : length (bindings_in raw_tree) + hoist_bindings ≤ bindings_most) where
      bindings_fit : leb (length (bindings_in (sheet_tree s))) bindings_most ≡ true
      bindings_fit = le-leb (length (bindings_in (sheet_tree s))) bindings_most (omega (arith, whole_bindings))

      pub refused_14 : (c : ℕ) → lowest_idle (clauses s) raw_tree ≡ some c → tree_verdict (clauses s) (sheet_tree s) ≡ refused idle_refusal c
      unfolding tree_verdict
      refused_14 c e = rw (nodes_fit, bindings_fit, whole_idle (clauses s) ∙ e)

      pub none_refused : lowest_idle (clauses s) raw_tree ≡ none → tree_verdict (clauses s) (sheet_tree s) ≡ accepted
      unfolding tree_verdict
      none_refused e = rw (nodes_fit, bindings_fit, whole_idle (clauses s) ∙ e)
