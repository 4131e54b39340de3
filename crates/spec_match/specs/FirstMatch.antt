-- THEOREM: where each clause's pattern suits the panel, the walk of the built tree answers the first clause that matches, with what
-- its pattern gives each of its names, in whatever order, or No leaf where none matches; and it is never stuck:
--
--     first-match : (v : List ℕ) (qs : List Pat) → All (λ q. Suits q v panel_root) qs → SameAnswer (walk (plain_tree qs) v) (first_match 0 qs v)
use Rattle.std.specs.Prelude.{ℕ, ◌+◌, ◌≡◌, Bool}
use Rattle.std.proofs.Math.Path.{refl}
use Rattle.std.proofs.Common.{sym, ap, ◌∙◌}
use Rattle.std.proofs.Math.Bool.{true, false}
use Rattle.std.proofs.lemmas.Bool.{false≢true}
use mathlib.Core.List.{List, [], ◌∷◌}
use Rattle.std.proofs.Math.Option.{Option, none, some}
use Rattle.spec_rules.specs.Patterns.{Pat}
use Rattle.spec_rules.specs.Rows.{Path, Row, clause_row, clause_rows}
use Rattle.spec_rules.specs.Columns.{columns, without, test_at, choice}
use Rattle.spec_rules.specs.Splitting.{Test, column, is_met, cases_of, default_rows, case_rows}
use Rattle.spec_rules.specs.SplittingLaws.{All}
use Rattle.spec_rules.specs.Building.{Tree, leaf_of, plain_tree}
use Rattle.spec_rules.specs.Walking.{panel_root, follow, bound, Walked, reached, no_leaf, stuck, at_leaf, walk}
use Rattle.spec_rules.specs.Meaning.{matches, gives, first_match}
use Rattle.spec_match.specs.Tests.{TestRow, cell, take_test, taken_has, clause_rows_test}
use Rattle.spec_match.specs.Depth.{node_on, case_columns, choice_nothing, choice_first, matrix_tree, plain_tree_matrix, tree_induction}
use Rattle.spec_match.specs.Apart.{Neat, case_neat, default_neat, clause_rows_neat, no_tests}
use Rattle.spec_match.specs.Bindings.{all_bindings, row_bindings, clause_bindings, collected}
use Rattle.spec_match.specs.Suits.{Suits, hold_all, hold_none, Good, columns_read, gives_bound}
use Rattle.spec_match.specs.Answers.{SameAnswer, Alike, alike_trans, alike_leaves, first_row, first_yes, first_no, GoodRow, case_first, default_first, column_suited, default_good}
use Rattle.spec_match.specs.Switches.{at_node}

module _ (v : List ℕ) where
  -- ---- the tree of a matrix leads to its first row that holds
  abbrev Leads : List Path → List Row → Tree → Type 0
  Leads ps rs a = All (GoodRow v) rs → All (Neat ps) rs → Alike (walk a v) (first_row v rs)

  walk_leaf : (r : Row) (rs : List Row) → walk (leaf_of (r ∷ rs)) v ≡ at_leaf r.clause (bound v r.bindings)
  unfolding leaf_of walk
  walk_leaf r rs = refl

  leads_leaf : (ps : List Path) (rs : List Row) → choice ps rs ≡ none → Leads ps rs (leaf_of rs)
  leads_leaf ps [] e g n = unfold leaf_of walk first_row in tt
  leads_leaf ps (r ∷ rs) e g n =
      let t : r.tests ≡ [] = no_tests ps r rs e n.0.1 in
      rw (walk_leaf r rs, first_yes v r rs (ap (hold_all v) t ∙ hold_none v))
      (alike_leaves v r.clause r.clause r.bindings (row_bindings r) refl (collected r t))

  first_of_column : (p : Path) (r : Row) (rs : List Row) (q : Pat) → test_at p r.tests ≡ some q → column p (r ∷ rs) ≡ q ∷ column p rs
  unfolding column
  first_of_column p r rs q e = rw (e, column)

  -- a switch, where the first row has q in the column at p
  leads_node : (ps : List Path) (rs : List Row) (p : Path) → All TestRow rs → choice ps rs ≡ some p
      → ((t : Test) → is_met t (cases_of (column p rs)) ≡ true → Leads (case_columns p t ps rs) (case_rows p t rs) (matrix_tree (case_columns p t ps rs) (case_rows p t rs)))
      → Leads (without p ps) (default_rows p rs) (matrix_tree (without p ps) (default_rows p rs))
      → Leads ps rs (node_on p (column p rs) (λ t. matrix_tree (case_columns p t ps rs) (case_rows p t rs)) (matrix_tree (without p ps) (default_rows p rs)))
  leads_node ps [] p h e cases other g n = absurd (nothing (sym (choice_nothing ps) ∙ e))
    where
      nothing : ◌≡◌ {A = Option Path} none (some p) → ⊥
      nothing z = let y : false ≡ true = cc in false≢true y
  leads_node ps (r ∷ rs) p h e cases other g n = at (choice_first ps r rs p e)
    where
      sub : Test → Tree
      sub t = matrix_tree (case_columns p t ps (r ∷ rs)) (case_rows p t (r ∷ rs))

      at : (q : Pat) × (test_at p r.tests ≡ some q)
          → Alike (walk (node_on p (column p (r ∷ rs)) sub (matrix_tree (without p ps) (default_rows p (r ∷ rs)))) v) (first_row v (r ∷ rs))
      at (q, x) =
          rw col
          (at_node v p c.position c.found (first_row v (r ∷ rs)) sub (matrix_tree (without p ps) (default_rows p (r ∷ rs))) q (column p rs)
          (rw col at (column_suited v p c.position c.found (r ∷ rs) g))
          (λ t s k.
          let (a, b) = case_first v p c.position c.found t (r ∷ rs) g (rw col k) in
          alike_trans (walk (sub t) v) (first_row v (case_rows p t (r ∷ rs))) (first_row v (r ∷ rs)) (cases t (rw col s) b (case_neat p t ps (r ∷ rs) n)) a)
          (λ k.
          alike_trans (walk (matrix_tree (without p ps) (default_rows p (r ∷ rs))) v) (first_row v (default_rows p (r ∷ rs))) (first_row v (r ∷ rs))
          (other (default_good v p (r ∷ rs) g) (default_neat p ps (r ∷ rs) n))
          (default_first v p c.position c.found (r ∷ rs) g (rw col k))))
        where
          col : column p (r ∷ rs) ≡ q ∷ column p rs
          col = first_of_column p r rs q x

          c : Good v (cell p q)
          c = taken_has (Good v) p q r.tests (take_test p r.tests q x) g.0

  pub matrix_leads : (ps : List Path) (rs : List Row) → All TestRow rs → Leads ps rs (matrix_tree ps rs)
  matrix_leads = tree_induction Leads leads_leaf leads_node

  -- ---- the rows of clauses
  at_root : follow v [] panel_root ≡ some panel_root
  unfolding follow
  at_root = refl

  clause_rows_good : (c : ℕ) (qs : List Pat) → All (λ q. Suits q v panel_root) qs → All (GoodRow v) (clause_rows c qs)
  unfolding clause_rows
  clause_rows_good c [] s = tt
  clause_rows_good c (q ∷ qs) s = ((columns_read v [] q panel_root at_root s.0).1, clause_rows_good (c + 1) qs s.1)

  row_holds : (c : ℕ) (q : Pat) → Suits q v panel_root → hold_all v (clause_row c q).tests ≡ matches q v panel_root
  unfolding clause_row
  row_holds c q s = (columns_read v [] q panel_root at_root s).0

  row_answer : (c : ℕ) (q : Pat) → Suits q v panel_root → matches q v panel_root ≡ true → Alike (at_leaf c (bound v (row_bindings (clause_row c q)))) (reached c (gives q v panel_root))
  unfolding at_leaf
  row_answer c q s e = rw (gives_bound v [] q panel_root at_root s e) at (alike_leaves v c c (row_bindings (clause_row c q)) (all_bindings [] q) refl (clause_bindings c q))

  rows_first : (c : ℕ) (qs : List Pat) → All (λ q. Suits q v panel_root) qs → Alike (first_row v (clause_rows c qs)) (first_match c qs v)
  unfolding clause_rows first_match
  rows_first c [] s = unfold first_row in tt
  rows_first c (q ∷ qs) s = go (matches q v panel_root) refl (rows_first (c + 1) qs s.1)
    where
      go : (b : Bool) → matches q v panel_root ≡ b → Alike (first_row v (clause_rows (c + 1) qs)) (first_match (c + 1) qs v)
          → Alike (first_row v (clause_rows c (q ∷ qs))) (first_match c (q ∷ qs) v)
      go true e ih = rw (first_yes v (clause_row c q) (clause_rows (c + 1) qs) (row_holds c q s.0 ∙ e), e, first_match) (row_answer c q s.0 e)
      go false e ih = rw (first_no v (clause_row c q) (clause_rows (c + 1) qs) (row_holds c q s.0 ∙ e), e, first_match) ih

  -- ---- the first match is never stuck
  abbrev Free : Walked → Type 0
  Free (reached c xs) = Unit {0}
  Free no_leaf = Unit {0}
  Free stuck = ⊥

  first_free : (c : ℕ) (qs : List Pat) → Free (first_match c qs v)
  unfolding first_match
  first_free c [] = tt
  first_free c (q ∷ qs) = go (matches q v panel_root) refl (first_free (c + 1) qs)
    where
      go : (b : Bool) → matches q v panel_root ≡ b → Free (first_match (c + 1) qs v) → Free (first_match c (q ∷ qs) v)
      go true e ih = rw (e, first_match) tt
      go false e ih = rw (e, first_match) ih

  alike_free : (a b : Walked) → Alike a b → Free b → SameAnswer a b
  alike_free (reached c xs) (reached d ys) h k = h
  alike_free (reached c xs) no_leaf h k = h
  alike_free (reached c xs) stuck h k = h
  alike_free no_leaf (reached d ys) h k = h
  alike_free no_leaf no_leaf h k = h
  alike_free no_leaf stuck h k = h
  alike_free stuck (reached d ys) h k = h
  alike_free stuck no_leaf h k = h
  alike_free stuck stuck h k = k

  -- THEOREM
  pub first_match_lem : (qs : List Pat) → All (λ q. Suits q v panel_root) qs → SameAnswer (walk (plain_tree qs) v) (first_match 0 qs v)
  first_match_lem qs s =
      rw plain_tree_matrix
      (alike_free (walk (matrix_tree (columns (clause_rows 0 qs)) (clause_rows 0 qs)) v) (first_match 0 qs v)
      (alike_trans (walk (matrix_tree (columns (clause_rows 0 qs)) (clause_rows 0 qs)) v) (first_row v (clause_rows 0 qs)) (first_match 0 qs v)
      (matrix_leads (columns (clause_rows 0 qs)) (clause_rows 0 qs) (clause_rows_test 0 qs) (clause_rows_good 0 qs s) (clause_rows_neat 0 qs))
      (rows_first 0 qs s))
      (first_free 0 qs))
