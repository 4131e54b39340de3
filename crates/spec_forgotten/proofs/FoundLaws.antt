-- What the search answers for a sheet: the lowest forgotten switch with the tests of its way, or that the sheet is covered; the walk of a
-- value of the subject's type ends at a leaf or at such a switch; and two values that end at one switch took the same tests. Said of every
-- well-made tree that is the sheet's once its hoists are taken out, and then of `sheet_tree`.
use Rattle.std.specs.Prelude.{ℕ, ◌<◌, ◌≡◌, ◌⊎◌, List}
use Rattle.std.proofs.Math.Path.{refl, sym, ap}
use Rattle.std.proofs.Common.{◌∙◌, inl, inr}
use Rattle.std.proofs.Math.Bool.{true, true≢false}
use Rattle.std.proofs.lemmas.Bool.{false≢true}
use Rattle.std.proofs.Math.Option.{Option, none, some}
use Rattle.base_words.specs.Words.{Bytes}
use Rattle.spec_rules.specs.SearchingLaws.{lowest_some, lowest_none}
use Rattle.spec_rules.specs.SheetFile.{subject}
use Rattle.spec_rules.specs.Building.{Tree}
use Rattle.spec_rules.specs.Hoisting.{nodes_in}
use Rattle.spec_accepted.specs.SheetFacts.{Accepted}
use Rattle.spec_match.specs.ColumnTypes.{type_after}
use Rattle.spec_forgotten.specs.Values.{Value, of_type, Passed, Ended, at_clause, without, stuck_on, no_node, walk_on}
use Rattle.spec_forgotten.specs.Forgetting.{NoHollow}
use Rattle.spec_forgotten.specs.SheetTested.{OfSheet, root_columns, root_has}
use Rattle.spec_forgotten.proofs.SheetTested.{tree_tested, only_goes, goes_out_there}
use Rattle.spec_forgotten.proofs.SomewhereLaws.{walk_somewhere}
use Rattle.spec_forgotten.specs.NeverStuckLaws.{walk_not_stuck}
use Rattle.spec_forgotten.specs.Search.{Came, reach, falls_out, lowest_gap, way_of, way_to}
use Rattle.spec_forgotten.proofs.SearchLaws.{Finds, goes_reached, reached_goes}

module _ (s : List ℕ) (a : Accepted s) (bytes : Bytes s) where
  module _ (b : Tree) (is : OfSheet s b) where
    -- some value of the subject's type ends at switch n of the tree, after the tests ts
    abbrev pub FallsAt : ℕ → List Passed → Type 0
    FallsAt n ts = (v : Value) × (of_type s (subject s) v ≡ true) × (walk_on 0 b v ≡ without n ts)

    finds : (n : ℕ) (ts : List Passed) → FallsAt n ts → Finds s (type_after s (subject s)) 0 b n ts
    finds n ts (v, h, e) =
        goes_reached s (type_after s (subject s)) 0 b n ts (only_goes s a bytes b is v h n ts e) (nodes_in b) (root_columns s a bytes) (tree_tested s a bytes b is)

    -- THEOREM: the tests are those of the way to the switch
    pub tree_one_way : (n : ℕ) (ts : List Passed) → FallsAt n ts → ts ≡ way_to s b n
    unfolding way_to way_of
    tree_one_way n ts f = let r = finds n ts f in sym r.way ∙ ap way_of (sym r.reached)

    -- THEOREM: where the search finds none, no value falls out
    pub search_covers : lowest_gap s b ≡ none → (n : ℕ) (ts : List Passed) → FallsAt n ts → ⊥
    unfolding lowest_gap
    search_covers h n ts f =
        let r = finds n ts f in
        let z = lowest_none (λ n. falls_out s n (reach b s (type_after s (subject s)) 0 n)) 0 (nodes_in b) h n r.from r.to in
        true≢false (sym r.falls ∙ ap (falls_out s n) (sym r.reached) ∙ z)

    -- THEOREM: no value falls out of a lower switch than the search finds
    pub search_lowest : (n : ℕ) → lowest_gap s b ≡ some n → (k : ℕ) → k < n → (us : List Passed) → FallsAt k us → ⊥
    unfolding lowest_gap
    search_lowest n h k l us f =
        let r = finds k us f in
        let z = (lowest_some (λ n. falls_out s n (reach b s (type_after s (subject s)) 0 n)) 0 (nodes_in b) n h).none_below k r.from l in
        true≢false (sym r.falls ∙ ap (falls_out s k) (sym r.reached) ∙ z)

    -- THEOREM: some value falls out of the switch that the search finds, after the tests that it reports
    pub search_sound : NoHollow s → (n : ℕ) → lowest_gap s b ≡ some n → FallsAt n (way_to s b n)
    unfolding lowest_gap
    search_sound filled n h =
        go (reach b s (type_after s (subject s)) 0 n) refl (lowest_some (λ n. falls_out s n (reach b s (type_after s (subject s)) 0 n)) 0 (nodes_in b) n h).has
      where
        go : (o : Option Came) → reach b s (type_after s (subject s)) 0 n ≡ o → falls_out s n (reach b s (type_after s (subject s)) 0 n) ≡ true → FallsAt n (way_to s b n)
        go none e f = absurd (none_falls (rw e at f))
          where
            none_falls : falls_out s n none ≡ true → ⊥
            none_falls f = unfold falls_out in (false≢true f)
        go (some c) e f =
            let g = reached_goes s a.is_typed filled b (type_after s (subject s)) 0 (nodes_in b) (root_columns s a bytes) (tree_tested s a bytes b is) n c e (rw e at f) in
            let way : way_to s b n ≡ c.way = unfold way_to way_of in (ap way_of e) in
            let (v, h) = filled (subject s) a.is_typed.subject_type in
            rw way (goes_out_there s a bytes b is v h n c.way g)

    -- THEOREM: the walk of a value of the subject's type ends at a leaf, or at a switch without one
    pub tree_never_stuck : (v : Value) → of_type s (subject s) v ≡ true
        → ((c : ℕ) × (walk_on 0 b v ≡ at_clause c)) ⊎ ((n : ℕ) × ((ts : List Passed) × (walk_on 0 b v ≡ without n ts)))
    tree_never_stuck v h = go (walk_on 0 b v) refl
      where
        go : (e : Ended) → walk_on 0 b v ≡ e → ((c : ℕ) × (walk_on 0 b v ≡ at_clause c)) ⊎ ((n : ℕ) × ((ts : List Passed) × (walk_on 0 b v ≡ without n ts)))
        go (at_clause c) e = inl (c, e)
        go (without n ts) e = inr (n, (ts, e))
        go stuck_on e = absurd (walk_not_stuck s (nodes_in b) (type_after s (subject s)) (root_columns s a bytes) 0 b (tree_tested s a bytes b is) v h (root_has s a bytes v h) e)
        go no_node e = absurd (walk_somewhere is.most b is.made is.there 0 v e)
