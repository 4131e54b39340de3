-- Every leaf is a clause's, and binds what that clause's pattern binds, each name to the same path, wherever the leaf stands in the
-- tree: two leaves of a clause differ only in the order of their bindings, and have as many as the pattern has names.
use Rattle.std.specs.Prelude.{ℕ, zero, suc, ◌+◌, ◌<◌, ◌≡◌, Bool, length}
use Rattle.std.proofs.Common.{add-zero, zero-add, arith, sym, ap, ap₂, ◌∙◌}
use Rattle.std.proofs.Math.Path.{refl}
use Rattle.std.proofs.Math.Bool.{true, false}
use Rattle.std.proofs.lemmas.Bool.{false≢true}
use mathlib.Core.List.{List, [], ◌∷◌, ◌++◌, map}
use Rattle.std.proofs.Math.Option.{Option, none, some}
use Rattle.spec_rules.specs.Patterns.{Pat, Pats, discard, variable, assign, integer, bytestring, listed, tailed, constructor, opened, pnil, pcons, many, names, names_of}
use Rattle.spec_rules.specs.Rows.{Step, constr, list, listtail, Path, into, opening, Binding, Row, clause_row, clause_rows}
use Rattle.spec_rules.specs.Columns.{columns, without, test_at, choice}
use Rattle.spec_rules.specs.Splitting.{Test, open_row, column, Met, is_met, cases_of, default_rows, case_rows}
use Rattle.spec_rules.specs.SplittingLaws.{All}
use Rattle.spec_rules.specs.Building.{Tree, Cases, absent, leaf, hoist, switch, listswitch, cnil, ccons, leaf_of, has_list, plain_tree}
use Rattle.spec_match.specs.Lists.{all_both}
use Rattle.spec_match.specs.Tests.{TestRow, default_all, case_all, clause_rows_test}
use Rattle.spec_match.specs.Depth.{cases_on, is_tail, is_exact, only, node_on, case_columns, met_here, met_there, only_met, matrix_tree, plain_tree_matrix, tree_induction}
use Rattle.spec_match.specs.Apart.{Neat, case_neat, default_neat, clause_rows_neat, no_tests}
use Rattle.spec_match.specs.Bindings.{SameUpToOrder, same_length, all_bindings, all_bindings_of_each, row_bindings, open_bindings, clause_bindings, collected}

-- ---- P of each leaf's clause and bindings
unfoldable mutual
  pub AllLeaves : (ℕ → List Binding → Type 0) → Tree → Type 0
  AllLeaves P absent = Unit {0}
  AllLeaves P (leaf c bs) = P c bs
  AllLeaves P (hoist c bs a) = AllLeaves P a
  AllLeaves P (switch p cs d) = AllLeavesOf P cs × AllLeaves P d
  AllLeaves P (listswitch p cs ts d) = AllLeavesOf P cs × AllLeavesOf P ts × AllLeaves P d

  pub AllLeavesOf : (ℕ → List Binding → Type 0) → Cases → Type 0
  AllLeavesOf P cnil = Unit {0}
  AllLeavesOf P (ccons t at a cs) = AllLeaves P a × AllLeavesOf P cs

module _ (P : ℕ → List Binding → Type 0) (reordered : (c : ℕ) (bs cs : List Binding) → SameUpToOrder bs cs → P c cs → P c bs) where
  abbrev RowP : Row → Type 0
  RowP r = P r.clause (row_bindings r)

  cases_on_leaves : (f : Test → Tree) (ms : List Met) → ((t : Test) → is_met t ms ≡ true → AllLeaves P (f t)) → AllLeavesOf P (cases_on f ms)
  unfolding cases_on AllLeaves
  cases_on_leaves f [] h = tt
  cases_on_leaves f (m ∷ ms) h = (h m.test (met_here m ms), cases_on_leaves f ms (λ t e. h t (met_there t m ms e)))

  node_on_leaves : (p : Path) (qs : List Pat) (f : Test → Tree) (d : Tree) → ((t : Test) → is_met t (cases_of qs) ≡ true → AllLeaves P (f t)) → AllLeaves P d
      → AllLeaves P (node_on p qs f d)
  unfolding node_on AllLeaves
  node_on_leaves p qs f d h k = go (has_list qs) refl
    where
      go : (b : Bool) → has_list qs ≡ b → AllLeaves P (node_on p qs f d)
      go true x =
          rw (x, node_on) (
            cases_on_leaves f (only is_exact (cases_of qs)) (λ t s. h t (only_met is_exact t (cases_of qs) s)),
            cases_on_leaves f (only is_tail (cases_of qs)) (λ t s. h t (only_met is_tail t (cases_of qs) s)),
            k,
          )
      go false x = rw (x, node_on) (cases_on_leaves f (cases_of qs) h, k)

  abbrev Leads : List Path → List Row → Tree → Type 0
  Leads ps rs a = All (Neat ps) rs → All RowP rs → AllLeaves P a

  leaf_of_leaves : (ps : List Path) (rs : List Row) → choice ps rs ≡ none → Leads ps rs (leaf_of rs)
  unfolding leaf_of AllLeaves
  leaf_of_leaves ps [] x n h = tt
  leaf_of_leaves ps (r ∷ rs) x n h = reordered r.clause r.bindings (row_bindings r) (collected r (no_tests ps r rs x n.0.1)) h.0

  open_leaves : (p : Path) (q : Pat) (r : Row) → test_at p r.tests ≡ some q → TestRow r → RowP r → RowP (open_row p q r)
  unfolding open_row
  open_leaves p q r x g h = reordered r.clause (row_bindings (open_row p q r)) (row_bindings r) (open_bindings p q r x g) h

  case_leaves : (p : Path) (t : Test) (rs : List Row) → All TestRow rs → All RowP rs → All RowP (case_rows p t rs)
  case_leaves p t rs g h =
      case_all (λ r. TestRow r × RowP r) RowP p (λ r x k. k.1) t (λ r q x y k. open_leaves p q r x k.0 k.1) rs
      (all_both TestRow RowP (λ r. TestRow r × RowP r) (λ r a b. (a, b)) rs g h)

  pub tree_leaves : (ps : List Path) (rs : List Row) → All TestRow rs → Leads ps rs (matrix_tree ps rs)
  tree_leaves =
      tree_induction Leads leaf_of_leaves
      (λ ps rs p g x cases other n h.
      node_on_leaves p (column p rs) (λ t. matrix_tree (case_columns p t ps rs) (case_rows p t rs)) (matrix_tree (without p ps) (default_rows p rs))
      (λ t s. cases t s (case_neat p t ps rs n) (case_leaves p t rs g h))
      (other (default_neat p ps rs n) (default_all RowP RowP p (λ r x k. k) rs h)))

-- ---- the clauses
unfoldable pub clause_at : List Pat → ℕ → Option Pat
clause_at [] c = none
clause_at (q ∷ qs) zero = some q
clause_at (q ∷ qs) (suc c) = clause_at qs c

-- what a leaf of clause c with the bindings bs has to do with the clauses
pub record LeafOf (qs : List Pat) (c : ℕ) (bs : List Binding) : Type 0 where
  pub number : c < length qs
  pub clause : Pat
  pub its : clause_at qs c ≡ some clause
  pub binds : SameUpToOrder bs (all_bindings [] clause)
  pub many : length bs ≡ length (names clause)

-- a pattern binds its names, from left to right
abbrev pub bound_names : List Binding → List ℕ
bound_names bs = map (λ b. b.name) bs

bound_names_append : (bs cs : List Binding) → bound_names (bs ++ cs) ≡ bound_names bs ++ bound_names cs
bound_names_append [] cs = refl
bound_names_append (b ∷ bs) cs = ap (λ z. b.name ∷ z) (bound_names_append bs cs)

mutual
  unfolding all_bindings names

  pub all_bindings_names : (p : Path) (q : Pat) → bound_names (all_bindings p q) ≡ names q
  all_bindings_names p (discard m) = refl
  all_bindings_names p (variable m x) = refl
  all_bindings_names p (assign m x q) = ap (λ z. x ∷ z) (all_bindings_names p q)
  all_bindings_names p (integer m at w) = refl
  all_bindings_names p (bytestring m at w) = refl
  all_bindings_names p (listed m qs) = all_bindings_of_each_names p (λ i. list i m.type) 0 qs
  all_bindings_names p (tailed m qs q) =
      bound_names_append (all_bindings_of_each p (λ i. list i m.type) 0 qs) (all_bindings (into p (listtail (many qs) m.type)) q)
      ∙ ap₂ ◌++◌ (all_bindings_of_each_names p (λ i. list i m.type) 0 qs) (all_bindings_names (into p (listtail (many qs) m.type)) q)
  all_bindings_names p (constructor m a qs) = all_bindings_of_each_names p (λ i. constr i false m.type) 0 qs
  all_bindings_names p (opened m o qs) = all_bindings_of_each_names p (opening o m.type) 0 qs

  all_bindings_of_each_names : (p : Path) (step : ℕ → Step) (i : ℕ) (qs : Pats) → bound_names (all_bindings_of_each p step i qs) ≡ names_of qs
  all_bindings_of_each_names p step i pnil = refl
  all_bindings_of_each_names p step i (pcons q qs) =
      bound_names_append (all_bindings (into p (step i)) q) (all_bindings_of_each p step (i + 1) qs)
      ∙ ap₂ ◌++◌ (all_bindings_names (into p (step i)) q) (all_bindings_of_each_names p step (i + 1) qs)

length_names : (bs : List Binding) → length (bound_names bs) ≡ length bs
length_names [] = refl
length_names (b ∷ bs) = ap suc (length_names bs)

clause_at_number : (qs : List Pat) (c : ℕ) (q : Pat) → clause_at qs c ≡ some q → c < length qs
unfolding clause_at
clause_at_number [] c q e = absurd (no_none e)
  where
    no_none : ◌≡◌ {A = Option Pat} none (some q) → ⊥
    no_none z = let y : false ≡ true = cc in false≢true y
clause_at_number (z ∷ qs) zero q e = omega arith
clause_at_number (z ∷ qs) (suc c) q e = let ih = clause_at_number qs c q e in omega arith

leaf_of_lem : (qs : List Pat) (c : ℕ) (q : Pat) (bs : List Binding) → clause_at qs c ≡ some q → SameUpToOrder bs (all_bindings [] q) → LeafOf qs c bs
leaf_of_lem qs c q bs e s =
    record {
      number = clause_at_number qs c q e;
      clause = q;
      its = e;
      binds = s;
      many = same_length bs (all_bindings [] q) s ∙ sym (length_names (all_bindings [] q)) ∙ ap length (all_bindings_names [] q);
    }

-- rows c, c + 1, .. of the clauses qs, which stand among all of them
rows_leaf : (all : List Pat) (c : ℕ) (qs : List Pat) → ((i : ℕ) → clause_at all (c + i) ≡ clause_at qs i)
    → All (λ r. LeafOf all r.clause (row_bindings r)) (clause_rows c qs)
unfolding clause_rows clause_at
rows_leaf all c [] h = tt
rows_leaf all c (q ∷ qs) h = (
  leaf_of_lem all c q (row_bindings (clause_row c q)) (rw add-zero at (h 0)) (clause_bindings c q),
  rows_leaf all (c + 1) qs (λ i. ap (clause_at all) (next i) ∙ h (suc i)),
)
  where
    next : (i : ℕ) → c + 1 + i ≡ c + suc i
    next i = omega arith

-- THEOREM: each leaf of the tree is a clause's and binds what the clause's pattern binds
pub leaves_bind : (qs : List Pat) → AllLeaves (LeafOf qs) (plain_tree qs)
leaves_bind qs =
    rw plain_tree_matrix
    (tree_leaves (LeafOf qs) (λ c bs cs s l. leaf_of_lem qs c l.clause bs l.its (λ f. s f ∙ l.binds f)) (columns (clause_rows 0 qs)) (clause_rows 0 qs) (clause_rows_test 0 qs) (clause_rows_neat 0 qs)
    (rows_leaf qs 0 qs (λ i. ap (clause_at qs) (zero-add i))))
