-- Where a pattern stands, opened one level: a root by its clause, a child by its parent, and by these each fact of all patterns.
-- Rests on the shape of the sheet: each pattern is one clause's root or one entry, and a child's number is larger than its parent's.
use Rattle.std.specs.Prelude.{◌≡◌, refl, Bool, true, false, List, [], ℕ, zero, suc, ◌+◌, ◌-◌, ◌≤◌, ◌<◌}
use Rattle.std.proofs.Common.{sym, ◌∙◌, ⊎_elim, true≢false, arith}
use Rattle.std.proofs.Math.Path.{ap}
use Rattle.std.proofs.Math.Option.{Option, none, some}
use borrow.Author.Tests.{eqb-true, eq-eqb, ne_eqb}
use Rattle.base_words.specs.Words.{pick}
use Rattle.base_words.specs.WordsLaws.{pick_true, pick_false}
use Rattle.spec_rules.specs.Limits.{patterns_most}
use Rattle.spec_rules.specs.Searching.{lowest}
use Rattle.spec_rules.specs.SearchingLaws.{lowest_some, lowest_none, lowest_make_none}
use Rattle.spec_rules.specs.SheetFile.{subject, patterns, children, clauses, pattern_first, child, root}
use Rattle.spec_rules.specs.SheetRefusals.{is_root, is_entry, lists}
use Rattle.spec_accepted.specs.SheetFacts.{Counted, Owns, Shaped, owns_listed, listed_owns, owned_entry, owned_pattern, one_clause, one_entry, entry_no_root, root_or_entry}
use Rattle.build_table.specs.Standing.{Standing, kind_of, step_to, type_to, follows, root_standing, child_standing, entry_of, holder_of, standing_to, standing, clause_of, path_of, type_of, owner_of, is_test, parent_of, above_of, index_of, step_of}

-- the answer of a search that only one number can be
pub only_lowest : (f : ℕ → Bool) (n k : ℕ) → k < n → f k ≡ true → ((j : ℕ) → j < n → f j ≡ true → j ≡ k) → lowest f 0 n ≡ some k
only_lowest f n k h e one = go (lowest f 0 n) refl
  where
    go : (found : Option ℕ) → lowest f 0 n ≡ found → lowest f 0 n ≡ some k
    go none x = let y = lowest_none f 0 n x k (omega arith) (omega arith) in absurd (true≢false (sym e ∙ y))
    go (some j) x =
        let l = lowest_some f 0 n j x in
        x ∙ ap some (one j (omega (arith, l.to)) l.has)

-- a pattern is a clause's root, or a child of a lower pattern
pub data Place (s : List ℕ) (p : ℕ) : Type 0 where
  as_root : (c : ℕ) → c < clauses s → root s c ≡ p → Place s p
  as_child : (q j : ℕ) → q < patterns s → q < p → Owns s q j → child s j ≡ p → Place s p

-- a pattern is inside no test, or inside a lower one of its own clause
pub data Owner (s : List ℕ) (p : ℕ) : Type 0 where
  inside_none : owner_of s p ≡ 0 → Owner s p
  inside_test : (q : ℕ) → owner_of s p ≡ q + 1 → q < p → is_test s q ≡ true → clause_of s q ≡ clause_of s p → Owner s p

module _ {s : List ℕ} (sh : Shaped s) where
  -- ---- the searches that find a pattern's clause, its entry, and the pattern that lists an entry
  pub root_found : (c : ℕ) → c < clauses s → lowest (is_root s (root s c)) 0 (clauses s) ≡ some c
  unfolding is_root
  root_found c h =
      only_lowest (is_root s (root s c)) (clauses s) c h (eq-eqb (root s c) (root s c) refl)
      (λ d l e. one_clause sh d c l h (eqb-true (root s d) (root s c) e))

  pub no_root_found : (j : ℕ) → j < children s → lowest (is_root s (child s j)) 0 (clauses s) ≡ none
  unfolding is_root
  no_root_found j h =
      lowest_make_none (is_root s (child s j)) 0 (clauses s)
      (λ c low high. ne_eqb (root s c) (child s j) (λ e. entry_no_root sh j c h (omega arith) (sym e)))

  pub entry_of_child : (j : ℕ) → j < children s → entry_of s (child s j) ≡ j
  unfolding entry_of is_entry
  entry_of_child j h =
      rw (only_lowest (is_entry s (child s j)) (children s) j h (eq-eqb (child s j) (child s j) refl)
      (λ i l e. one_entry sh i j l h (eqb-true (child s i) (child s j) e)))

  pub holder_of_owned : (p j : ℕ) → p < patterns s → Owns s p j → holder_of s j ≡ p
  unfolding holder_of
  holder_of_owned p j h o =
      rw (only_lowest (lists s j) (patterns s) p h (listed_owns s p j o) (λ q l e. sh.one_owner q p j l h (owns_listed s q j e) o))

  -- ---- one level
  standing_to_root : (deep c : ℕ) → c < clauses s → standing_to (suc deep) s (root s c) ≡ root_standing s c
  unfolding standing_to
  standing_to_root deep c h = rw (root_found c h, standing_to)

  standing_to_child : (deep p j : ℕ) → p < patterns s → Owns s p j
      → standing_to (suc deep) s (child s j) ≡ child_standing s p (standing_to deep s p) (j - pattern_first s p)
  unfolding standing_to
  standing_to_child deep p j h o =
      let l = owned_entry sh p j h o in
      rw (no_root_found j l, standing_to, entry_of_child j l, holder_of_owned p j h o)

  pub place : (p : ℕ) → p < patterns s → Place s p
  place p h = ⊎_elim (λ w. as_root w.0 w.1 w.2) child_of (root_or_entry sh p h)
    where
      child_of : (j : ℕ) × (j < children s) × (child s j ≡ p) → Place s p
      child_of (j, l, e) =
          let w = sh.owner j l in
          let above = sh.child_above w.0 j w.1 w.2 in
          as_child w.0 j w.1 (omega arith) w.2 e

  -- what holds of roots, and of a child if it holds of its parent, holds of each pattern
  module _ (P : ℕ → Type 0) (at_root : (c : ℕ) → c < clauses s → P (root s c))
      (at_child : (p j : ℕ) → p < patterns s → Owns s p j → P p → P (child s j)) where
    by_standing_to : (deep p : ℕ) → p < deep → p < patterns s → P p
    by_standing_to zero p d h = absurd (omega arith)
    by_standing_to (suc deep) p d h = go (place p h) (by_standing_to deep)
      where
        go : Place s p → ((q : ℕ) → q < deep → q < patterns s → P q) → P p
        go (as_root c l e) ih = rw e at (at_root c l)
        go (as_child q j l b o e) ih = rw e at (at_child q j l o (ih q (omega arith) l))

    pub by_standing : (p : ℕ) → p < patterns s → P p
    by_standing p h = by_standing_to (suc p) p (omega arith) h

  -- what holds of a pattern if it holds of its children, holds of each pattern
  module _ (P : ℕ → Type 0) (at_parent : (p : ℕ) → p < patterns s → ((j : ℕ) → Owns s p j → P (child s j)) → P p) where
    by_children_to : (deep p : ℕ) → p < patterns s → patterns s ≤ deep + p → P p
    by_children_to zero p h d = absurd (omega arith)
    by_children_to (suc deep) p h d =
        at_parent p h
        (λ j o.
        let above = sh.child_above p j h o in
        by_children_to deep (child s j) (owned_pattern sh p j h o) (omega arith))

    pub by_children : (p : ℕ) → p < patterns s → P p
    by_children p h = by_children_to (patterns s) p h (omega arith)

  -- depths past the pattern's number are the same
  standing_to_enough : (k l p : ℕ) → p < k → p < l → p < patterns s → standing_to k s p ≡ standing_to l s p
  standing_to_enough zero l p a b h = absurd (omega arith)
  standing_to_enough (suc k) zero p a b h = absurd (omega arith)
  standing_to_enough (suc k) (suc l) p a b h = go (place p h) (standing_to_enough k l)
    where
      go : Place s p → ((q : ℕ) → q < k → q < l → q < patterns s → standing_to k s q ≡ standing_to l s q)
          → standing_to (suc k) s p ≡ standing_to (suc l) s p
      go (as_root c x e) ih = rw (← e) (standing_to_root k c x ∙ sym (standing_to_root l c x))
      go (as_child q j x y o e) ih =
          rw (← e)
          (standing_to_child k q j x o
          ∙ ap (λ (z : Standing). child_standing s q z (j - pattern_first s q)) (ih q (omega arith) (omega arith) x)
          ∙ sym (standing_to_child l q j x o))

  pub standing_root : (c : ℕ) → c < clauses s → standing s (root s c) ≡ root_standing s c
  unfolding standing
  standing_root c h = standing_to_root (patterns_most - 1) c h

  module _ (few : Counted s) where
    pub standing_child : (p j : ℕ) → p < patterns s → Owns s p j → standing s (child s j) ≡ child_standing s p (standing s p) (j - pattern_first s p)
    unfolding standing
    standing_child p j h o =
        let above = sh.child_above p j h o in
        let known = owned_pattern sh p j h o in
        let most = few.patterns_most_holds in
        standing_to_child (patterns_most - 1) p j h o
        ∙ ap (λ (x : Standing). child_standing s p x (j - pattern_first s p)) (standing_to_enough (patterns_most - 1) patterns_most p (omega arith) (omega arith) h)

  -- ---- a root's clause, path, type and owner, and how it is reached
  module _ (c : ℕ) (h : c < clauses s) where
    pub root_clause : clause_of s (root s c) ≡ c
    unfolding root_standing
    root_clause = ap (λ (x : Standing). x.clause) (standing_root c h)

    pub root_path : path_of s (root s c) ≡ []
    unfolding root_standing
    root_path = ap (λ (x : Standing). x.path) (standing_root c h)

    pub root_type : type_of s (root s c) ≡ subject s
    unfolding root_standing
    root_type = ap (λ (x : Standing). x.type) (standing_root c h)

    pub root_owner : owner_of s (root s c) ≡ 0
    unfolding root_standing
    root_owner = ap (λ (x : Standing). x.owner) (standing_root c h)

    pub root_parent : parent_of s (root s c) ≡ 0
    unfolding parent_of
    root_parent = rw (root_found c h, parent_of)

    pub root_above : above_of s (root s c) ≡ 0
    unfolding above_of
    root_above = rw (root_parent)

    pub root_index : index_of s (root s c) ≡ 0
    unfolding index_of
    root_index = rw (root_found c h, index_of)

    pub root_step : step_of s (root s c) ≡ none
    unfolding step_of
    root_step = rw (root_found c h, step_of)

  -- ---- those of a child, by its parent's
  module _ (p j : ℕ) (h : p < patterns s) (o : Owns s p j) where
    pub child_parent : parent_of s (child s j) ≡ p + 1
    unfolding parent_of
    child_parent =
        let l = owned_entry sh p j h o in
        rw (no_root_found j l, parent_of, entry_of_child j l, holder_of_owned p j h o)

    pub child_above : above_of s (child s j) ≡ p
    unfolding above_of
    child_above = rw (child_parent) (omega arith)

    pub child_index : index_of s (child s j) ≡ j - pattern_first s p
    unfolding index_of
    child_index =
        let l = owned_entry sh p j h o in
        rw (no_root_found j l, index_of, entry_of_child j l, holder_of_owned p j h o)

    pub child_step : step_of s (child s j) ≡ step_to s p (type_of s p) (kind_of s p) (j - pattern_first s p)
    unfolding step_of
    child_step = rw (no_root_found j (owned_entry sh p j h o), step_of, child_above, child_index)

    module _ (few : Counted s) where
      pub child_clause : clause_of s (child s j) ≡ clause_of s p
      unfolding child_standing
      child_clause = ap (λ (x : Standing). x.clause) (standing_child few p j h o)

      pub child_path : path_of s (child s j) ≡ follows (path_of s p) (step_to s p (type_of s p) (kind_of s p) (j - pattern_first s p))
      unfolding child_standing
      child_path = ap (λ (x : Standing). x.path) (standing_child few p j h o)

      pub child_type : type_of s (child s j) ≡ type_to s p (type_of s p) (kind_of s p) (j - pattern_first s p)
      unfolding child_standing
      child_type = ap (λ (x : Standing). x.type) (standing_child few p j h o)

      pub child_owner : owner_of s (child s j) ≡ pick (is_test s p) (p + 1) (owner_of s p)
      unfolding child_standing is_test
      child_owner = ap (λ (x : Standing). x.owner) (standing_child few p j h o)

  -- ---- of every pattern
  module _ (few : Counted s) where
    pub clause_known : (p : ℕ) → p < patterns s → clause_of s p < clauses s
    clause_known =
        by_standing (λ p. clause_of s p < clauses s)
        (λ c h. rw (root_clause c h) h)
        (λ p j h o ih. rw (child_clause p j h o few) ih)

    pub owner : (p : ℕ) → p < patterns s → Owner s p
    owner = by_standing (Owner s) (λ c h. inside_none (root_owner c h)) at_child
      where
        at_child : (p j : ℕ) → p < patterns s → Owns s p j → Owner s p → Owner s (child s j)
        at_child p j h o ih = go (is_test s p) refl ih
          where
            later : p < child s j
            later = sh.child_above p j h o

            go : (test : Bool) → is_test s p ≡ test → Owner s p → Owner s (child s j)
            go true e w = inside_test p (child_owner p j h o few ∙ pick_true (is_test s p) (p + 1) (owner_of s p) e) later e (sym (child_clause p j h o few))
            go false e (inside_none a) = inside_none (child_owner p j h o few ∙ pick_false (is_test s p) (p + 1) (owner_of s p) e ∙ a)
            go false e (inside_test q a b c d) =
                inside_test q (child_owner p j h o few ∙ pick_false (is_test s p) (p + 1) (owner_of s p) e ∙ a) (omega (arith, later)) c (d ∙ sym (child_clause p j h o few))

    pub owner_below : (p : ℕ) → p < patterns s → owner_of s p ≤ p
    owner_below p h = go (owner p h)
      where
        go : Owner s p → owner_of s p ≤ p
        go (inside_none e) = omega arith
        go (inside_test q e l t c) = omega arith

  -- ---- the pattern above
  pub parent_below : (p : ℕ) → p < patterns s → parent_of s p ≤ p
  parent_below =
      by_standing (λ p. parent_of s p ≤ p) (λ c h. omega (arith, root_parent c h))
      (λ p j h o ih. omega (arith, child_parent p j h o, sh.child_above p j h o))

  pub above_below : (p : ℕ) → p < patterns s → above_of s p ≤ p
  unfolding above_of
  above_below p h = omega (arith, parent_below p h)

  -- pattern 0 is nobody's child
  pub first_is_root : 0 < patterns s → (c : ℕ) × (c < clauses s) × (root s c ≡ 0)
  first_is_root h = go (place 0 h)
    where
      go : Place s 0 → (c : ℕ) × (c < clauses s) × (root s c ≡ 0)
      go (as_root c l e) = (c, l, e)
      go (as_child q j l b o e) = absurd (omega arith)

  pub first_path : 0 < patterns s → path_of s 0 ≡ []
  first_path h = let w = first_is_root h in rw w.2 at (root_path w.0 w.1)

  -- a pattern's path goes on from the one above by its step
  pub path_above : Counted s → (p : ℕ) → p < patterns s → path_of s p ≡ follows (path_of s (above_of s p)) (step_of s p)
  unfolding follows
  path_above few =
      by_standing (λ p. path_of s p ≡ follows (path_of s (above_of s p)) (step_of s p)) at_root
      (λ p j h o ih. child_path p j h o few ∙ rw (child_above p j h o, child_step p j h o))
    where
      at_root : (c : ℕ) → c < clauses s → path_of s (root s c) ≡ follows (path_of s (above_of s (root s c))) (step_of s (root s c))
      at_root c h =
          let known = sh.root_pattern c h in
          root_path c h ∙ rw (root_step c h, root_above c h) (sym (first_path (omega arith)))
