-- The bindings of a row are those of the numbers that it binds, in the same order, and a leaf has those of its first row.
-- Rests on the states of rows, and on what crate build_table shows of the bindings of a pattern.
use Rattle.std.specs.Prelude.{◌≡◌, ℕ, ◌+◌, ◌<◌, Some, None}
use Rattle.std.proofs.Math.Path.{refl, sym, ap₂}
use Rattle.std.proofs.Common.{ap, ◌∙◌}
use mathlib.Core.List.{List, [], ◌∷◌, ◌++◌, map, map-append}
use Rattle.spec_rules.specs.SheetFile.{clauses, root}
use Rattle.spec_rules.specs.SplittingLaws.{All}
use Rattle.spec_rules.specs.Building.{leaf, leaf_of}
use Rattle.spec_accepted.specs.SheetFacts.{Accepted}
use Rattle.build_table.specs.Standing.{path_of}
use Rattle.build_table.specs.Seen.{binds_of, binding_at}
use Rattle.build_table.specs.Meets.{clause_bindings_meet, opened_bindings_meet}
use Rattle.build_matrix.specs.Columns.{Held}
use Rattle.build_matrix.specs.RowStates.{row_of, row_of_clause}
use Rattle.build_matrix.specs.Live.{opened_test, bindings_held, bound_by, State}
use Rattle.build_matrix.specs.LiveLaws.{opened_test_lem}
use Rattle.build_matrix.specs.Matrices.{rows_at, Rising}
use Rattle.build_matrix.specs.Numbered.{Numbered, SoundOf}
use Rattle.build_matrix.specs.Bound.{numbers_held, opened_numbers, leaf_numbers, clause_leaf}

module _ {s : List ℕ} (ok : Accepted s) where
  module _ (opened : List ℕ) (c : ℕ) where
    held_bindings : (time class : ℕ) (h : Held) → opened_test s opened c time class ≡ h → bindings_held s h ≡ map (binding_at s) (numbers_held s h)
    held_bindings time class (Some p) e =
        let t = (opened_test_lem s opened c time class p e).test_of in
        opened_bindings_meet ok.is_shaped ok.is_counted p t.known t.test
    held_bindings time class None e = refl

    opened_bindings : (time : ℕ) (classes : List ℕ) → bound_by s opened c time classes ≡ map (binding_at s) (opened_numbers s opened c time classes)
    unfolding bound_by opened_numbers
    opened_bindings time [] = refl
    opened_bindings time (k ∷ classes) =
        let h = opened_test s opened c time k in
        ap₂ ◌++◌ (held_bindings time k h refl) (opened_bindings (time + 1) classes)
        ∙ sym (map-append (binding_at s) (numbers_held s h) (opened_numbers s opened c (time + 1) classes))

    -- the clause's row after these columns were tested
    bound_row : (tested : List ℕ) → c < clauses s → State s tested opened c
        → (row_of s (map (path_of s) tested) c).bindings ≡ map (binding_at s) (leaf_numbers s opened tested c)
    bound_row tested h st =
        st.bindings
        ∙ ap₂ ◌++◌ (clause_bindings_meet ok.is_shaped ok.is_counted c h) (opened_bindings 0 tested)
        ∙ sym (map-append (binding_at s) (binds_of s (root s c)) (opened_numbers s opened c 0 tested))

  -- "a leaf of the first row, with its bindings in the order they were collected"
  leaf_first : (tested rows : List ℕ) (c : ℕ) (cs : List ℕ) → rows ≡ c ∷ cs
      → leaf_of (rows_at s tested rows) ≡ leaf c (row_of s (map (path_of s) tested) c).bindings
  unfolding leaf_of
  leaf_first tested rows c cs e = rw e (ap (λ (n : ℕ). leaf n (row_of s (map (path_of s) tested) c).bindings) (row_of_clause s (map (path_of s) tested) c))

  module _ (M : Numbered) (sound : SoundOf s M) (c : ℕ) (cs : List ℕ) (e : M.rows ≡ c ∷ cs) where
    first_state : State s M.tested M.opened c
    first_state = let states : All (State s M.tested M.opened) (c ∷ cs) = rw e at sound.states in states.0

    first_clause : c < clauses s
    first_clause = let rising : Rising (clauses s) 0 (c ∷ cs) = rw e at sound.rising in rising.1

    pub leaf_numbers_lem : leaf_of (rows_at s M.tested M.rows) ≡ clause_leaf s M.opened M.tested c
    leaf_numbers_lem = leaf_first M.tested M.rows c cs e ∙ ap (leaf c) (bound_row M.opened c M.tested first_clause first_state)
