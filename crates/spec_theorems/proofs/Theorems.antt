-- THE THEOREMS, those that stand above others of this crate: section 1 but for its first, and single ones of 2, 3, 5 and 6. The rest is in
-- specs/Theorems.antt, whose head says how to read them.
use Rattle.std.specs.Prelude.{ℕ, ◌-◌, ◌*◌, ◌≤◌, ◌<◌, ◌≡◌, ◌↔◌, true, List, ◌++◌, length}
use Rattle.std.proofs.Common.{arith, ◌∙◌}
use Rattle.std.proofs.Math.Path.{sym, ap}
use Rattle.base_words.specs.Words.{Bytes, zeros}
use Rattle.spec_rules.specs.Limits.{tree_room, bound_room}
use Rattle.spec_rules.specs.SheetFile.{clauses}
use Rattle.spec_rules.specs.Patterns.{clause_pattern, names}
use Rattle.spec_rules.specs.SheetRefusals.{accepted, verdict}
use Rattle.spec_rules.specs.Rows.{bit}
use Rattle.spec_rules.specs.Building.{Tree}
use Rattle.spec_rules.specs.Hoisting.{has_leaf}
use Rattle.spec_rules.specs.TreeReader.{tree_fits, tree_of}
use Rattle.spec_rules.specs.PanelFile.{panel_verdict}
use Rattle.spec_rules.specs.Walking.{Bound, reached, no_leaf, stuck, walk}
use Rattle.spec_rules.specs.Calls.{answers, sheet_patterns, sheet_tree, sheet_tree_file, tree_verdict, Built, built_of, build_answer, leaf_of, without_leaf, walk_answer, bound_words, walk_call, meaning}
use Rattle.spec_rules.specs.SplittingLaws.{All}
use Rattle.spec_accepted.specs.SheetFacts.{accepted_sheet}
use Rattle.spec_accepted.specs.PanelFacts.{accepted_panel}
use Rattle.spec_hoist.specs.Trees.{hoists_of}
use Rattle.spec_hoist.specs.WholeTreeLaws.{whole_tree_has_leaf, whole_tree_walk}
use Rattle.spec_hoist.proofs.WholeTreeLaws.{whole_tree_once}
use Rattle.spec_match.specs.Answers.{SameAnswer}
use Rattle.spec_match.specs.Typing.{sheet_first_match}
use Rattle.spec_theorems.specs.Said.{Builds, Fits, FirstMatch, NoMatch, EndsAt, InPanel, TellsTheFile, Passes14}
use Rattle.spec_theorems.specs.SheetLeaves.{length_sheet_patterns}
use Rattle.spec_theorems.proofs.SheetFileLaws.{sheet_file_fits, sheet_file_read, sheet_file_nodes, sheet_file_bindings, sheet_file_small, sheet_file_bytes}
use Rattle.spec_theorems.specs.Refusals.{tree_accepted}
use Rattle.spec_theorems.proofs.Positions.{walk_in_panel}
use Rattle.spec_theorems.specs.FirstMatches.{ends_at, ends_without}
use Rattle.spec_theorems.specs.CallsLaws.{build_answers_only, walk_reached, walk_without, walk_writes}

-- ======== 1. First match: a sheet that builds, a panel that fits it, the walk of the tree file
module _ (s v : List ℕ) (b : Builds s) (f : Fits s v) where
  -- the walk answers what the sheet means on the panel: the first clause that matches, with what its pattern gives each of its names, in
  -- whatever order, or No leaf where none matches
  pub the_walk_is_the_meaning : SameAnswer (walk (tree_of (sheet_tree_file s)) v) (meaning s v)
  unfolding meaning sheet_tree
  the_walk_is_the_meaning =
      rw (sheet_file_read s b.sheet, whole_tree_walk (sheet_patterns s) v) (sheet_first_match s v b.sheet f.type)

  -- 32 is not given
  pub the_walk_is_not_stuck : walk (tree_of (sheet_tree_file s)) v ≡ stuck → ⊥
  the_walk_is_not_stuck e = rw e at the_walk_is_the_meaning

  -- it ends at a leaf of the first clause that matches, with exactly its names, each once, each at the position that the pattern gives it
  pub the_walk_ends_at_the_first_match : (c : ℕ) → FirstMatch s v c → EndsAt s v c (walk (tree_of (sheet_tree_file s)) v)
  the_walk_ends_at_the_first_match c l =
      ends_at s v (accepted_sheet s b.sheet) (walk (tree_of (sheet_tree_file s)) v) c l the_walk_is_the_meaning

  -- if no clause matches, it ends without a leaf
  pub the_walk_ends_without_leaf : NoMatch s v → walk (tree_of (sheet_tree_file s)) v ≡ no_leaf
  the_walk_ends_without_leaf none =
      ends_without s v (accepted_sheet s b.sheet) (walk (tree_of (sheet_tree_file s)) v) none the_walk_is_the_meaning

  -- the same of the call
  module _ (n : ℕ) (room : bound_room ≤ n) where
    pub the_call_answers_the_first_match : (c : ℕ) → FirstMatch s v c
        → walk_answer (sheet_tree_file s) v n ≡ answers (leaf_of c (length (names (clause_pattern s c))))
    the_call_answers_the_first_match c l =
        let e = the_walk_ends_at_the_first_match c l in
        walk_reached (sheet_tree_file s) v n room (sheet_file_fits s b.sheet) f.panel c e.bounds e.at_leaf
        ∙ ap (λ k. answers (leaf_of c k)) e.as_many

    pub the_call_answers_without_leaf : NoMatch s v → walk_answer (sheet_tree_file s) v n ≡ answers without_leaf
    the_call_answers_without_leaf none =
        walk_without (sheet_tree_file s) v n room (sheet_file_fits s b.sheet) f.panel (the_walk_ends_without_leaf none)

    -- "(name, record, dropped) for each binding", and zeros after them
    pub the_call_writes_the_first_match : (c : ℕ) (l : FirstMatch s v c)
        → (walk_call (sheet_tree_file s) v n).bound ≡ bound_words (the_walk_ends_at_the_first_match c l).bounds ++ zeros (n - 3 * length (names (clause_pattern s c)))
    the_call_writes_the_first_match c l =
        let e = the_walk_ends_at_the_first_match c l in
        walk_writes (sheet_tree_file s) v n room (sheet_file_fits s b.sheet) f.panel c e.bounds e.at_leaf
        ∙ ap (λ k. bound_words e.bounds ++ zeros (n - 3 * k)) e.as_many

-- ======== 2. Hoisting
module _ (s : List ℕ) (b : Builds s) (c : ℕ) (l : c < clauses s) where
  pub each_clause_has_a_leaf : has_leaf c (sheet_tree s) ≡ true
  each_clause_has_a_leaf = ((tree_accepted (clauses s) (sheet_tree s)).0 b.tree).1 c l

  -- each clause of such a sheet is hoisted exactly once
  pub each_clause_is_hoisted_once : hoists_of c (sheet_tree s) ≡ 1
  unfolding sheet_tree bit
  each_clause_is_hoisted_once =
      whole_tree_once (sheet_patterns s) c (omega (arith, length_sheet_patterns s))
      ∙ ap bit (sym (whole_tree_has_leaf (sheet_patterns s) c) ∙ each_clause_has_a_leaf)

-- ======== 3. The file says the tree
module _ (s : List ℕ) (h : verdict s ≡ accepted) where
  -- the written file passes the reader's conditions: 31 is not given
  pub the_file_fits : tree_fits (sheet_tree_file s) ≡ true
  the_file_fits = sheet_file_fits s h

  -- reading it gives the tree back: node for node, cases, bindings, paths
  pub the_file_says_the_tree : tree_of (sheet_tree_file s) ≡ sheet_tree s
  the_file_says_the_tree = sheet_file_read s h

module _ (s : List ℕ) (b : Builds s) where
  -- it is under 65,536 bytes long, so that the least room of the tree buffer is enough
  pub the_file_is_small : length (sheet_tree_file s) < tree_room
  the_file_is_small = sheet_file_small s b

  -- it is bytes if the sheet is
  pub the_file_is_bytes : Bytes s → Bytes (sheet_tree_file s)
  the_file_is_bytes = sheet_file_bytes s b

-- what the build answers is the file's length and the records written
module _ (s : List ℕ) (n m : ℕ) (x : Built) (e : build_answer s n m ≡ answers x) where
  pub the_answer_tells_the_file : TellsTheFile s x
  unfolding built_of
  the_answer_tells_the_file =
      let o = build_answers_only s n m x e in
      record {
        bytes_told = ap (λ (y : Built). y.bytes) o.is;
        bytes_few = omega (arith, ap (λ (y : Built). y.bytes) o.is, sheet_file_small s o.builds);
        nodes_told = ap (λ (y : Built). y.nodes) o.is ∙ sym (sheet_file_nodes s);
        bindings_told = ap (λ (y : Built). y.bindings) o.is ∙ sym (sheet_file_bindings s);
      }

-- ======== 5. Refusals are exclusive and exact
-- of a tree of n clauses; 14 is `idle_exactly`
module _ (n : ℕ) (a : Tree) where
  pub tree_accepted_exactly : (tree_verdict n a ≡ accepted) ↔ Passes14 n a
  tree_accepted_exactly = tree_accepted n a

-- ======== 6. The walk reads only what fits: any tree and any panel that their readers accept
module _ (t v : List ℕ) (panel : panel_verdict v ≡ accepted) where
  -- every position that the walk answers is one of the panel
  pub each_position_is_in_the_panel : (c : ℕ) (xs : List Bound) → walk (tree_of t) v ≡ reached c xs → All (λ b. InPanel v b.position) xs
  each_position_is_in_the_panel = walk_in_panel v (accepted_panel v panel) (tree_of t)
