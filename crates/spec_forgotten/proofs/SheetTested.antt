-- The tree of an accepted sheet is `Tested`, so some value falls out of a switch exactly if each branch on the way there can be taken
-- (`only_goes`, `goes_out_there`). Said of every well-made tree that is the sheet's once its hoists are taken out (specs/SheetTested.antt).
use Prim.Native.Nat.{ℕ, ◌<◌}
use Rattle.std.proofs.Common.{le_refl, ◌∙◌}
use Rattle.std.specs.Prelude.{◌≡◌, List}
use Rattle.std.proofs.Math.Bool.{true}
use Rattle.base_words.specs.Words.{Bytes}
use Rattle.spec_rules.specs.SheetFile.{subject, types}
use Rattle.spec_rules.specs.Rows.{clause_rows}
use Rattle.spec_rules.specs.Building.{Tree}
use Rattle.spec_rules.specs.Hoisting.{nodes_in}
use Rattle.spec_rules.specs.Calls.{sheet_patterns}
use Rattle.spec_accepted.specs.SheetFacts.{Accepted}
use Rattle.spec_match.specs.Lists.{all_map}
use Rattle.spec_match.specs.Tests.{clause_rows_test}
use Rattle.spec_match.specs.Depth.{plain_tree_matrix}
use Rattle.spec_match.specs.ColumnTypes.{retyped}
use Rattle.spec_match.specs.SheetColumns.{sheet_resolved}
use Rattle.spec_forgotten.specs.Values.{Value, of_type, Passed, without, walk_on}
use Rattle.spec_forgotten.specs.KnownTypes.{after_known}
use Rattle.spec_forgotten.specs.MatrixLaws.{Good, Open, root_columns_lem, good_root}
use Rattle.spec_forgotten.specs.FallingLaws.{Tested, Goes, falls_only}
use Rattle.spec_forgotten.proofs.FallingLaws.{falls_out}
use Rattle.spec_forgotten.proofs.BuiltTested.{Known, matrix_tested}
use Rattle.spec_forgotten.specs.SheetTested.{OfSheet, sheet_kept, root_types, root_columns, root_has}

module _ (s : List ℕ) (a : Accepted s) (bytes : Bytes s) where
  -- ---- the root
  sheet_good : Good s (root_types s a bytes) (root_columns s a bytes) (clause_rows 0 (sheet_patterns s))
  sheet_good = good_root s (subject s) (sheet_patterns s) (sheet_resolved s a) (sheet_kept s a bytes)

  root_known : Known s a.is_typed 0 (root_types s a bytes) (root_columns s a bytes)
  root_known =
      all_map (Open s (subject s)) (λ z. root_types s a bytes z < types s) (λ z (l, b). after_known s a.is_typed z (subject s) a.is_typed.subject_type l b)
      (root_columns s a bytes) (root_columns_lem s (subject s) (sheet_patterns s) (sheet_resolved s a) (sheet_kept s a bytes))

  -- ---- a tree that is the sheet's once its hoists are taken out
  module _ (b : Tree) (is : OfSheet s b) where
    -- THEOREM: it is tested
    pub tree_tested : Tested s (retyped s) (nodes_in b) (root_types s a bytes) (root_columns s a bytes) 0 b
    tree_tested =
        matrix_tested s a.is_typed is.most (root_columns s a bytes) (clause_rows 0 (sheet_patterns s)) (clause_rows_test 0 (sheet_patterns s)) (root_types s a bytes) sheet_good root_known
        b (is.same ∙ plain_tree_matrix (sheet_patterns s)) is.made 0 (nodes_in b) (le_refl (nodes_in b))

    -- THEOREM: a value that ends at a switch took only branches that some part takes
    pub only_goes : (v : Value) → of_type s (subject s) v ≡ true → (n : ℕ) (ts : List Passed) → walk_on 0 b v ≡ without n ts → Goes s (retyped s) (root_types s a bytes) 0 b n ts
    only_goes v h n ts e = falls_only s (retyped s) (nodes_in b) (root_types s a bytes) (root_columns s a bytes) 0 b tree_tested v h (root_has s a bytes v h) n ts e

    -- THEOREM: where each branch can be taken, some value takes them all
    pub goes_out_there : (v : Value) → of_type s (subject s) v ≡ true → (n : ℕ) (ts : List Passed) → Goes s (retyped s) (root_types s a bytes) 0 b n ts
        → (x : Value) × (of_type s (subject s) x ≡ true) × (walk_on 0 b x ≡ without n ts)
    goes_out_there v h n ts g =
        let r = falls_out s (retyped s) (nodes_in b) (root_types s a bytes) (root_columns s a bytes) 0 b n ts g tree_tested v h (root_has s a bytes v h) in
        (r.value, r.typed, r.ends)
