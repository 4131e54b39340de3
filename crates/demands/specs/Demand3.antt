-- DEMAND 3. For every accepted sheet and every panel of its subject type, the walk ends at a leaf of the first clause whose pattern
-- matches, each name bound to the part that the pattern gives it; if none matches, without a leaf. Each clause's body is hoisted exactly
-- once, above all its leaves.
--
-- The three calls as a controller makes them: the build answered a tree, the fit check answered that the panel fits, and the walk is given the
-- tree's bytes, the first of the tree buffer. Matching, and what a pattern gives each of its names, are definitions of the patterns alone
-- (crate spec_rules, Meaning): they know of no tree.
use Rattle.std.specs.Prelude.{◌≡◌, ◌⊎◌, Some, None, Ok, List, ◌++◌, ℕ, ◌-◌, ◌*◌, ◌<◌, ◌≤◌, length}
use Rattle.std.proofs.Math.Path.{sym, ap}
use Rattle.std.proofs.Common.{◌∙◌, inl, inr, arith}
use Rattle.base_words.specs.Words.{text_at, zeros}
use Rattle.spec_rules.specs.Limits.{bound_room}
use Rattle.spec_rules.specs.Rows.{bit}
use Rattle.spec_rules.specs.SheetFile.{clauses}
use Rattle.spec_rules.specs.SheetRefusals.{is_in}
use Rattle.spec_rules.specs.Patterns.{clause_pattern, names}
use Rattle.spec_rules.specs.Positions.{panel_root}
use Rattle.spec_rules.specs.TreeReader.{tree_of}
use Rattle.spec_rules.specs.Walking.{Bound}
use Rattle.spec_rules.specs.Meaning.{gives}
use Rattle.spec_rules.specs.Calls.{answers, Built, BuildCall, build_answer, build_call, WalkCall, walk_answer, walk_call, bound_words, walked_words, sheet_tree_file}
use Rattle.spec_hoist.specs.Trees.{hoists_of, Above}
use Rattle.spec_match.specs.Bindings.{SameUpToOrder}
use Rattle.spec_theorems.specs.Said.{Builds, Fits, FirstMatch, NoMatch, times_bound}
use Rattle.spec_theorems.specs.CallsLaws.{build_answers_only, fit_accepts_only, build_file}
use Rattle.spec_theorems.specs.Theorems.{a_clause_matches_or_none, each_clause_is_hoisted_above_its_leaves}
use Rattle.spec_theorems.proofs.Theorems.{the_walk_ends_at_the_first_match, the_walk_ends_without_leaf, the_call_answers_the_first_match, the_call_answers_without_leaf, the_call_writes_the_first_match, the_file_says_the_tree, each_clause_is_hoisted_once}
use Rattle.walk.specs.declared.Leaf.{Leaf}
use Rattle.walk.specs.Answers.{Walked, answer_of}
use Rattle.build_call.specs.declared.BuiltTree.{BuiltTree}
use Rattle.dewmycel.specs.Promises.{BuildFits, FitFits, WalkFits}
use Rattle.demands.specs.OneAnswer.{walk_known}

-- the answer at a leaf of clause c, with what its pattern names
abbrev pub leaf_taken : List ℕ → ℕ → Leaf
leaf_taken s c = record { clause = c; count = length (names (clause_pattern s c)) }

-- the walk took clause c: so many names, and for each of them (name, record, dropped) in the buffer, each name once, each at the position
-- that the clause's pattern gives it; zeros after them
pub record TakesClause (s v : List ℕ) (c k : ℕ) (r : Walked) (bound : List ℕ) : Type 0 where
  pub bounds : List Bound
  pub answer : r ≡ Ok (Some (leaf_taken s c))
  pub words : bound ≡ bound_words bounds ++ zeros (k - 3 * length (names (clause_pattern s c)))
  pub as_given : SameUpToOrder bounds (gives (clause_pattern s c) v panel_root)
  pub each_name_once : (x : ℕ) → times_bound x bounds ≡ bit (is_in x (names (clause_pattern s c)))

module _ (s v : List ℕ) (n m : ℕ) (a : BuiltTree) (tree work : List ℕ) (built : BuildFits s n m (Ok a) tree work)
    (fit : FitFits s v (Ok tt)) (k : ℕ) (room : bound_room ≤ k) (r : Walked) (bound : List ℕ) (walked : WalkFits (text_at tree 0 a.length) v k r bound) where
  abbrev answered : Built
  answered = record { bytes = a.length; nodes = a.nodes; bindings = a.bindings }

  build_answer_lem : build_answer s n m ≡ answers answered
  unfolding build_call
  build_answer_lem = sym (ap (λ (x : BuildCall). x.answer) built)

  builds : Builds s
  builds = (build_answers_only s n m answered build_answer_lem).builds

  fits : Fits s v
  fits = (fit_accepts_only s v (sym fit)).1

  the_file : text_at tree 0 a.length ≡ sheet_tree_file s
  the_file = ap (λ (x : BuildCall). text_at x.tree 0 a.length) built ∙ build_file s n m answered build_answer_lem

  of_file : WalkFits (sheet_tree_file s) v k r bound
  of_file = walked ∙ ap (λ t. walk_call t v k) the_file

  walk_answer_lem : answer_of r ≡ walk_answer (sheet_tree_file s) v k
  unfolding walk_call
  walk_answer_lem = ap (λ (x : WalkCall). x.answer) of_file

  -- the first clause that matches is taken, with what its pattern gives
  pub the_first_match_is_taken : (c : ℕ) → FirstMatch s v c → TakesClause s v c k r bound
  the_first_match_is_taken c l =
      let e = the_walk_ends_at_the_first_match s v builds fits c l in
      record {
        bounds = e.bounds;
        answer = walk_known r (Ok (Some (leaf_taken s c))) (walk_answer_lem ∙ the_call_answers_the_first_match s v builds fits k room c l);
        words = ap (λ (x : WalkCall). x.bound) of_file ∙ the_call_writes_the_first_match s v builds fits k room c l;
        as_given = e.as_given;
        each_name_once = e.each_name_once;
      }

  no_words : zeros (k - 0) ≡ zeros k
  no_words = let e : k - 0 ≡ k = omega arith in ap zeros e

  -- if none matches, the walk ends without a leaf, and nothing is bound
  pub without_a_match_there_is_no_leaf : NoMatch s v → (r ≡ Ok None) × (bound ≡ zeros k)
  unfolding walk_call walked_words
  without_a_match_there_is_no_leaf none =
      let ends = the_call_answers_without_leaf s v builds fits k room none in (
        walk_known r (Ok None) (walk_answer_lem ∙ ends),
        ap (λ (x : WalkCall). x.bound) of_file ∙ rw (ends, the_walk_ends_without_leaf s v builds fits none) no_words,
      )

  -- one of the two is the case
  pub one_of_the_two : ((c : ℕ) × FirstMatch s v c × TakesClause s v c k r bound) ⊎ (NoMatch s v × (r ≡ Ok None) × (bound ≡ zeros k))
  one_of_the_two = go (a_clause_matches_or_none s v)
    where
      go : ((c : ℕ) × FirstMatch s v c) ⊎ NoMatch s v → ((c : ℕ) × FirstMatch s v c × TakesClause s v c k r bound) ⊎ (NoMatch s v × (r ≡ Ok None) × (bound ≡ zeros k))
      go (inl (c, l)) = inl (c, l, the_first_match_is_taken c l)
      go (inr none) = let w = without_a_match_there_is_no_leaf none in inr (none, w.0, w.1)

-- in the tree that was written each clause of the sheet is hoisted exactly once, and going down from the root no leaf of it is met before
-- its hoist
pub each_clause_is_hoisted : (s : List ℕ) (n m : ℕ) (a : BuiltTree) (tree work : List ℕ) → BuildFits s n m (Ok a) tree work
    → (c : ℕ) → c < clauses s → (hoists_of c (tree_of (text_at tree 0 a.length)) ≡ 1) × Above c (tree_of (text_at tree 0 a.length))
unfolding build_call
each_clause_is_hoisted s n m a tree work built c l =
    let x : Built = record { bytes = a.length; nodes = a.nodes; bindings = a.bindings } in
    let e : build_answer s n m ≡ answers x = sym (ap (λ (y : BuildCall). y.answer) built) in
    let b = (build_answers_only s n m x e).builds in
    let file : text_at tree 0 a.length ≡ sheet_tree_file s = ap (λ (y : BuildCall). text_at y.tree 0 a.length) built ∙ build_file s n m x e in
    rw (file, the_file_says_the_tree s b.sheet) (each_clause_is_hoisted_once s b c l, each_clause_is_hoisted_above_its_leaves s b c l)
