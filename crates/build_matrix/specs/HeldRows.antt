-- A column by what each row has in it, a test by its number or a wildcard: rules 3 and 4 count and filter a list of clauses.
-- `held` says what a clause's row has; each law asks that it is told so of the rows at hand. Rests on RowStates and the rules alone.
use Rattle.std.specs.Prelude.{◌≡◌, Bool, Some, None}
use Rattle.std.proofs.Math.Path.{refl}
use Rattle.std.proofs.Common.{sym, ap, ap₂, ◌∙◌}
use Rattle.std.proofs.Math.Bool.{true, false}
use mathlib.Core.List.{List, [], ◌∷◌, ◌++◌, map}
use Rattle.std.proofs.Math.Option.{Option, none, some}
use Prim.Native.Nat.{ℕ, suc}
use Rattle.std.proofs.Math.Dec.{ltb}
use Rattle.base_words.specs.Words.{pick}
use Rattle.spec_rules.specs.Patterns.{Pat}
use Rattle.spec_rules.specs.Rows.{Path, Cell, Row, opened_columns}
use Rattle.spec_rules.specs.Columns.{count, better}
use Rattle.spec_rules.specs.Splitting.{Test, column, covers, default_rows, case_rows, case_opens}
use Rattle.spec_rules.specs.SplittingLaws.{All}
use Rattle.build_table.specs.Standing.{path_of, pattern_of}
use Rattle.build_matrix.specs.Columns.{Held, Choice}
use Rattle.build_matrix.specs.RowStates.{rows_of, held_by, row_of_wild, row_of_test}
use Rattle.build_matrix.specs.Live.{pattern_held}

-- rule 3: the rows before the first wildcard
unfoldable pub count_of : (ℕ → Held) → List ℕ → ℕ
count_of held [] = 0
count_of held (c ∷ cs) = elim (held c) [ Some p ↦ suc (count_of held cs) | None ↦ 0 ]

-- the highest count, and of equal ones the leftmost: so far it is `chosen`, with n
unfoldable pub best_of : (ℕ → ℕ) → Choice → ℕ → List ℕ → Choice
best_of counts chosen n [] = chosen
best_of counts chosen n (k ∷ ks) = pick (ltb n (counts k)) (best_of counts (Some k) (counts k) ks) (best_of counts chosen n ks)

abbrev pub path_chosen : List ℕ → Choice → Option Path
path_chosen s (Some k) = some (path_of s k)
path_chosen s None = none

-- the tests of the column, top down
unfoldable pub held_tests : (ℕ → Held) → List ℕ → List ℕ
held_tests held [] = []
held_tests held (c ∷ cs) = elim (held c) [ Some p ↦ p ∷ held_tests held cs | None ↦ held_tests held cs ]

-- rule 4: the rows with a wildcard
unfoldable pub wild_of : (ℕ → Held) → List ℕ → List ℕ
wild_of held [] = []
wild_of held (c ∷ cs) = elim (held c) [ Some p ↦ wild_of held cs | None ↦ c ∷ wild_of held cs ]

-- the rows of a case, which `joins` of a test's number, and the tests that they open
unfoldable pub join_of : (ℕ → Bool) → (ℕ → Held) → List ℕ → List ℕ
join_of joins held [] = []
join_of joins held (c ∷ cs) = elim (held c) [ Some p ↦ pick (joins p) (c ∷ join_of joins held cs) (join_of joins held cs) | None ↦ c ∷ join_of joins held cs ]

unfoldable pub opens_of : (ℕ → Bool) → (ℕ → Held) → List ℕ → List ℕ
opens_of joins held [] = []
opens_of joins held (c ∷ cs) = elim (held c) [ Some p ↦ pick (joins p) (p ∷ opens_of joins held cs) (opens_of joins held cs) | None ↦ opens_of joins held cs ]

-- the test of pattern p belongs to the case
unfoldable pub joins_case : List ℕ → Test → ℕ → Bool
joins_case s t p = covers (pattern_of s p) t

-- what tests of the column at a path open
unfoldable pub opened_at : List ℕ → Path → List ℕ → List Cell
opened_at s path [] = []
opened_at s path (p ∷ ps) = opened_columns path (pattern_of s p) ++ opened_at s path ps

-- ---- the rows of clauses of which each has in the column at p what `held` says
module _ (s : List ℕ) (ps : List Path) (p : Path) (held : ℕ → Held) where
  abbrev pub Told : ℕ → Type 0
  Told c = held_by s ps p c ≡ pattern_held s (held c)

  -- told of what is known
  told : (c : ℕ) (h : Held) → held c ≡ h → Told c → held_by s ps p c ≡ pattern_held s h
  told c h e t = t ∙ ap (pattern_held s) e

  pub count_states : (cs : List ℕ) → All Told cs → count p (rows_of s ps cs) ≡ count_of held cs
  unfolding count count_of
  count_states [] h = refl
  count_states (c ∷ cs) h = go (held c) refl (count_states cs h.1)
    where
      go : (o : Held) → held c ≡ o → count p (rows_of s ps cs) ≡ count_of held cs → count p (rows_of s ps (c ∷ cs)) ≡ count_of held (c ∷ cs)
      go (Some q) e ih = rw (told c (Some q) e h.0, count, e, count_of) (ap suc ih)
      go None e ih = rw (told c None e h.0, count, e, count_of)

  pub column_states : (cs : List ℕ) → All Told cs → column p (rows_of s ps cs) ≡ map (pattern_of s) (held_tests held cs)
  unfolding column held_tests
  column_states [] h = refl
  column_states (c ∷ cs) h = go (held c) refl (column_states cs h.1)
    where
      go : (o : Held) → held c ≡ o → column p (rows_of s ps cs) ≡ map (pattern_of s) (held_tests held cs)
          → column p (rows_of s ps (c ∷ cs)) ≡ map (pattern_of s) (held_tests held (c ∷ cs))
      go (Some q) e ih = rw (told c (Some q) e h.0, column, e, held_tests) (ap (λ (qs : List Pat). pattern_of s q ∷ qs) ih)
      go None e ih = rw (told c None e h.0, column, e, held_tests) ih

  -- the default's rows have a wildcard, and stay as they are
  pub default_states : (cs : List ℕ) → All Told cs → default_rows p (rows_of s ps cs) ≡ rows_of s (ps ++ p ∷ []) (wild_of held cs)
  unfolding default_rows wild_of
  default_states [] h = refl
  default_states (c ∷ cs) h = go (held c) refl (default_states cs h.1)
    where
      go : (o : Held) → held c ≡ o → default_rows p (rows_of s ps cs) ≡ rows_of s (ps ++ p ∷ []) (wild_of held cs)
          → default_rows p (rows_of s ps (c ∷ cs)) ≡ rows_of s (ps ++ p ∷ []) (wild_of held (c ∷ cs))
      go (Some q) e ih = rw (told c (Some q) e h.0, default_rows, e, wild_of) ih
      go None e ih =
          let x = told c None e h.0 in
          rw (x, default_rows, e, wild_of) (ap₂ (λ (r : Row) (rs : List Row). r ∷ rs) (sym (row_of_wild s ps p c x)) ih)

  -- a case's rows have a wildcard, or a test that it opened
  module _ (t : Test) where
    pub case_states : (cs : List ℕ) → All Told cs → case_rows p t (rows_of s ps cs) ≡ rows_of s (ps ++ p ∷ []) (join_of (joins_case s t) held cs)
    unfolding case_rows join_of joins_case
    case_states [] h = refl
    case_states (c ∷ cs) h = go (held c) refl (case_states cs h.1)
      where
        tested : (q : ℕ) → held c ≡ Some q → (b : Bool) → covers (pattern_of s q) t ≡ b
            → case_rows p t (rows_of s ps cs) ≡ rows_of s (ps ++ p ∷ []) (join_of (joins_case s t) held cs)
            → case_rows p t (rows_of s ps (c ∷ cs)) ≡ rows_of s (ps ++ p ∷ []) (join_of (joins_case s t) held (c ∷ cs))
        tested q e true x ih =
            let y = told c (Some q) e h.0 in
            rw (y, case_rows, e, join_of, x) (ap₂ (λ (r : Row) (rs : List Row). r ∷ rs) (sym (row_of_test s ps p c (pattern_of s q) y)) ih)
        tested q e false x ih = rw (told c (Some q) e h.0, case_rows, e, join_of, x) ih

        go : (o : Held) → held c ≡ o → case_rows p t (rows_of s ps cs) ≡ rows_of s (ps ++ p ∷ []) (join_of (joins_case s t) held cs)
            → case_rows p t (rows_of s ps (c ∷ cs)) ≡ rows_of s (ps ++ p ∷ []) (join_of (joins_case s t) held (c ∷ cs))
        go (Some q) e ih = tested q e (covers (pattern_of s q) t) refl ih
        go None e ih =
            let x = told c None e h.0 in
            rw (x, case_rows, e, join_of) (ap₂ (λ (r : Row) (rs : List Row). r ∷ rs) (sym (row_of_wild s ps p c x)) ih)

    pub opens_states : (cs : List ℕ) → All Told cs → case_opens p t (rows_of s ps cs) ≡ opened_at s p (opens_of (joins_case s t) held cs)
    unfolding case_opens opens_of joins_case opened_at
    opens_states [] h = refl
    opens_states (c ∷ cs) h = go (held c) refl (opens_states cs h.1)
      where
        tested : (q : ℕ) → held c ≡ Some q → (b : Bool) → covers (pattern_of s q) t ≡ b
            → case_opens p t (rows_of s ps cs) ≡ opened_at s p (opens_of (joins_case s t) held cs)
            → case_opens p t (rows_of s ps (c ∷ cs)) ≡ opened_at s p (opens_of (joins_case s t) held (c ∷ cs))
        tested q e true x ih = rw (told c (Some q) e h.0, case_opens, e, opens_of, x) (ap (λ (ds : List Cell). opened_columns p (pattern_of s q) ++ ds) ih)
        tested q e false x ih = rw (told c (Some q) e h.0, case_opens, e, opens_of, x) ih

        go : (o : Held) → held c ≡ o → case_opens p t (rows_of s ps cs) ≡ opened_at s p (opens_of (joins_case s t) held cs)
            → case_opens p t (rows_of s ps (c ∷ cs)) ≡ opened_at s p (opens_of (joins_case s t) held (c ∷ cs))
        go (Some q) e ih = tested q e (covers (pattern_of s q) t) refl ih
        go None e ih = rw (told c None e h.0, case_opens, e, opens_of) ih

-- ---- the column chosen, by counts that are the rows'
module _ (s : List ℕ) (rs : List Row) (counts : ℕ → ℕ) where
  pub best_is : (chosen : Choice) (n : ℕ) (ks : List ℕ) → All (λ k. count (path_of s k) rs ≡ counts k) ks
      → better (path_chosen s chosen) n (map (path_of s) ks) rs ≡ path_chosen s (best_of counts chosen n ks)
  unfolding better best_of
  best_is chosen n [] h = refl
  best_is chosen n (k ∷ ks) h = go (ltb n (counts k)) refl (best_is (Some k) (counts k) ks h.1) (best_is chosen n ks h.1)
    where
      go : (b : Bool) → ltb n (counts k) ≡ b
          → better (some (path_of s k)) (counts k) (map (path_of s) ks) rs ≡ path_chosen s (best_of counts (Some k) (counts k) ks)
          → better (path_chosen s chosen) n (map (path_of s) ks) rs ≡ path_chosen s (best_of counts chosen n ks)
          → better (path_chosen s chosen) n (map (path_of s) (k ∷ ks)) rs ≡ path_chosen s (best_of counts chosen n (k ∷ ks))
      go true e new old = rw (better, h.0, e) (rw h.0 new)
      go false e new old = rw (better, h.0, e) old
