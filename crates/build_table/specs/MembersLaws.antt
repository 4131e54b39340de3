-- Which patterns are seen where: those seen at a pattern are of its clause and inside the same test; those seen inside a test are inside
-- that test; and each pattern is seen at its clause's root if it is inside no test, else inside its own. So for tests and bindings.
-- Rests on SeenLaws and StandingLaws.
use Rattle.std.specs.Prelude.{◌≡◌, ◌⊎◌, Bool, true, false, List, [], ◌∷◌, ◌++◌, ℕ, zero, suc, ◌+◌, ◌≤◌, ◌<◌, eqb}
use Rattle.std.proofs.Math.Path.{refl}
use Rattle.std.proofs.Common.{sym, ap, ◌∙◌, inl, inr, ⊎_elim, true≢false, arith, eqb-true, eq-eqb}
use Rattle.base_words.specs.Words.{pick}
use Rattle.base_words.specs.WordsLaws.{either_true, either_first_true, either_second_true, pick_true, pick_false}
use Rattle.spec_rules.specs.SearchingLaws.{first_or_rest}
use Rattle.spec_rules.specs.SheetFile.{patterns, clauses, pattern_first, pattern_count, child, root}
use Rattle.spec_rules.specs.SheetRefusals.{has_children, is_in}
use Rattle.spec_accepted.specs.SheetFacts.{Counted, Owns, Shaped, owned_pattern}
use Rattle.spec_accepted.specs.TreeFacts.{is_in_left, is_in_right}
use Rattle.build_table.specs.Standing.{kind_of, clause_of, owner_of, is_test}
use Rattle.build_table.specs.StandingLaws.{by_standing, by_children, clause_known, root_clause, root_owner, child_clause, child_owner, Owner, inside_none, inside_test, owner}
use Rattle.build_table.specs.Seen.{each_of, inside_of, seen, those, tests_of, opened_tests}
use Rattle.build_table.specs.SeenLaws.{inside_of_parent, inside_of_childless, seen_test, seen_parts, those_has, those_lacks}

-- ---- a number among numbers
pub is_in_head : (x : ℕ) (xs : List ℕ) → is_in x (x ∷ xs) ≡ true
unfolding is_in
is_in_head x xs = either_first_true (eqb x x) (is_in x xs) (eq-eqb x x refl)

pub is_in_tail : (x y : ℕ) (xs : List ℕ) → is_in x xs ≡ true → is_in x (y ∷ xs) ≡ true
unfolding is_in
is_in_tail x y xs h = either_second_true (eqb x y) (is_in x xs) h

pub is_in_cons : (x y : ℕ) (xs : List ℕ) → is_in x (y ∷ xs) ≡ true → (x ≡ y) ⊎ (is_in x xs ≡ true)
unfolding is_in
is_in_cons x y xs h = ⊎_elim (λ e. inl (eqb-true x y e)) inr (either_true (eqb x y) (is_in x xs) h)

pub is_in_nil : (x : ℕ) → is_in x [] ≡ true → ⊥
unfolding is_in
is_in_nil x h = true≢false (sym h)

pub is_in_one : (x y : ℕ) → is_in x (y ∷ []) ≡ true → x ≡ y
is_in_one x y h = ⊎_elim (λ e. e) (λ e. absurd (is_in_nil x e)) (is_in_cons x y [] h)

pub is_in_append : (x : ℕ) (xs ys : List ℕ) → is_in x (xs ++ ys) ≡ true → (is_in x xs ≡ true) ⊎ (is_in x ys ≡ true)
is_in_append x [] ys h = inr h
is_in_append x (y ∷ xs) ys h =
    ⊎_elim (λ e. inl (rw e (is_in_head y xs))) (λ e. ⊎_elim (λ f. inl (is_in_tail x y xs f)) inr (is_in_append x xs ys e)) (is_in_cons x y (xs ++ ys) h)

-- among those of which f holds
pub is_in_those : (f : ℕ → Bool) (x : ℕ) (xs : List ℕ) → is_in x (those f xs) ≡ true → (f x ≡ true) × (is_in x xs ≡ true)
unfolding those
is_in_those f x [] h = absurd (is_in_nil x h)
is_in_those f x (y ∷ xs) h = go (f y) refl (is_in_those f x xs)
  where
    go : (b : Bool) → f y ≡ b → (is_in x (those f xs) ≡ true → (f x ≡ true) × (is_in x xs ≡ true)) → (f x ≡ true) × (is_in x (y ∷ xs) ≡ true)
    go true e ih =
        ⊎_elim (λ d. (ap f d ∙ e, rw d (is_in_head y xs))) (λ d. let w = ih d in (w.0, is_in_tail x y xs w.1))
        (is_in_cons x y (those f xs) (ap (is_in x) (sym (those_has f y xs e)) ∙ h))
    go false e ih = let w = ih (ap (is_in x) (sym (those_lacks f y xs e)) ∙ h) in (w.0, is_in_tail x y xs w.1)

pub those_is_in : (f : ℕ → Bool) (x : ℕ) (xs : List ℕ) → f x ≡ true → is_in x xs ≡ true → is_in x (those f xs) ≡ true
those_is_in f x [] t h = absurd (is_in_nil x h)
those_is_in f x (y ∷ xs) t h = go (f y) refl (is_in_cons x y xs h) (those_is_in f x xs t)
  where
    go : (b : Bool) → f y ≡ b → (x ≡ y) ⊎ (is_in x xs ≡ true) → (is_in x xs ≡ true → is_in x (those f xs) ≡ true) → is_in x (those f (y ∷ xs)) ≡ true
    go true e (inl d) ih = ap (is_in x) (those_has f y xs e) ∙ rw d (is_in_head y (those f xs))
    go true e (inr i) ih = ap (is_in x) (those_has f y xs e) ∙ is_in_tail x y (those f xs) (ih i)
    go false e (inl d) ih = absurd (true≢false (sym t ∙ ap f d ∙ e))
    go false e (inr i) ih = ap (is_in x) (those_lacks f y xs e) ∙ ih i

-- among what f gives of the children of a pattern
each_of_is_in : (f : ℕ → List ℕ) (s : List ℕ) (x i j n : ℕ) → j ≤ i → i < j + n → is_in x (f (child s i)) ≡ true → is_in x (each_of f s j n) ≡ true
unfolding each_of
each_of_is_in f s x i j zero low high h = absurd (omega arith)
each_of_is_in f s x i j (suc n) low high h =
    ⊎_elim (λ e. is_in_left x (f (child s j)) (each_of f s (j + 1) n) (rw e at h))
    (λ w. is_in_right x (f (child s j)) (each_of f s (j + 1) n) (each_of_is_in f s x i (j + 1) n w.0 w.1 h))
    (first_or_rest j i n low high)

pub is_in_each_of : (f : ℕ → List ℕ) (s : List ℕ) (x j n : ℕ) → is_in x (each_of f s j n) ≡ true → (i : ℕ) × (j ≤ i) × (i < j + n) × (is_in x (f (child s i)) ≡ true)
unfolding each_of
is_in_each_of f s x j zero h = absurd (is_in_nil x h)
is_in_each_of f s x j (suc n) h = go (is_in_append x (f (child s j)) (each_of f s (j + 1) n) h) (is_in_each_of f s x (j + 1) n)
  where
    go : (is_in x (f (child s j)) ≡ true) ⊎ (is_in x (each_of f s (j + 1) n) ≡ true)
        → (is_in x (each_of f s (j + 1) n) ≡ true → (i : ℕ) × (j + 1 ≤ i) × (i < j + 1 + n) × (is_in x (f (child s i)) ≡ true))
        → (i : ℕ) × (j ≤ i) × (i < j + suc n) × (is_in x (f (child s i)) ≡ true)
    go (inl e) ih = (j, omega arith, omega arith, e)
    go (inr e) ih = let w = ih e in (w.0, omega (arith, w.1), omega (arith, w.2), w.3)

pub inside_of_is_in : (f : ℕ → List ℕ) (s : List ℕ) (p x j : ℕ) → Owns s p j → is_in x (f (child s j)) ≡ true → is_in x (inside_of f s p) ≡ true
inside_of_is_in f s p x j o h =
    ap (is_in x) (inside_of_parent f s p o.parent) ∙ each_of_is_in f s x j (pattern_first s p) (pattern_count s p) o.from o.to h

pub is_in_inside_of : (f : ℕ → List ℕ) (s : List ℕ) (p x : ℕ) → is_in x (inside_of f s p) ≡ true → (j : ℕ) × Owns s p j × (is_in x (f (child s j)) ≡ true)
unfolding kind_of
is_in_inside_of f s p x h = go (has_children (kind_of s p)) refl
  where
    go : (b : Bool) → has_children (kind_of s p) ≡ b → (j : ℕ) × Owns s p j × (is_in x (f (child s j)) ≡ true)
    go true e =
        let w = is_in_each_of f s x (pattern_first s p) (pattern_count s p) (ap (is_in x) (sym (inside_of_parent f s p e)) ∙ h) in
        (w.0, record { parent = e; from = w.1; to = w.2 }, w.3)
    go false e = absurd (is_in_nil x (ap (is_in x) (sym (inside_of_childless f s p e)) ∙ h))

-- ---- what is seen at a pattern
pub record SeenAt (s : List ℕ) (p q : ℕ) : Type 0 where
  pub known : q < patterns s
  pub from : p ≤ q
  pub same_clause : clause_of s q ≡ clause_of s p
  pub same_owner : owner_of s q ≡ owner_of s p

-- what is seen inside a test
pub record SeenInside (s : List ℕ) (p q : ℕ) : Type 0 where
  pub known : q < patterns s
  pub from : p < q
  pub same_clause : clause_of s q ≡ clause_of s p
  pub owned : owner_of s q ≡ p + 1

-- where a pattern is seen: at its clause's root, or inside its own test
pub record Seen (s : List ℕ) (q : ℕ) : Type 0 where
  pub at_root : owner_of s q ≡ 0 → is_in q (seen s (root s (clause_of s q))) ≡ true
  pub in_test : (o : ℕ) → owner_of s q ≡ o + 1 → is_in q (inside_of (seen s) s o) ≡ true

module _ {s : List ℕ} (sh : Shaped s) (few : Counted s) where
  pub seen_at : (p : ℕ) → p < patterns s → (q : ℕ) → is_in q (seen s p) ≡ true → SeenAt s p q
  seen_at = by_children sh (λ p. (q : ℕ) → is_in q (seen s p) ≡ true → SeenAt s p q) at_parent
    where
      itself : (p q : ℕ) → p < patterns s → q ≡ p → SeenAt s p q
      itself p q h e = rw e (record { known = h; from = omega arith; same_clause = refl; same_owner = refl })

      at_parent : (p : ℕ) → p < patterns s → ((j : ℕ) → Owns s p j → (q : ℕ) → is_in q (seen s (child s j)) ≡ true → SeenAt s (child s j) q)
          → (q : ℕ) → is_in q (seen s p) ≡ true → SeenAt s p q
      at_parent p h ih q i = go (is_test s p) refl
        where
          below : is_test s p ≡ false → (j : ℕ) × Owns s p j × (is_in q (seen s (child s j)) ≡ true) → SeenAt s p q
          below e (j, o, k) =
              let w = ih j o q k in
              record {
                known = w.known;
                from = omega (arith, w.from, sh.child_above p j h o);
                same_clause = w.same_clause ∙ child_clause sh p j h o few;
                same_owner = w.same_owner ∙ child_owner sh p j h o few ∙ pick_false (is_test s p) (p + 1) (owner_of s p) e;
              }

          go : (test : Bool) → is_test s p ≡ test → SeenAt s p q
          go true e = itself p q h (is_in_one q p (ap (is_in q) (sym (seen_test sh few p h e)) ∙ i))
          go false e =
              ⊎_elim (itself p q h) (λ k. below e (is_in_inside_of (seen s) s p q k))
              (is_in_cons q p (inside_of (seen s) s p) (ap (is_in q) (sym (seen_parts sh few p h e)) ∙ i))

  pub seen_inside : (p : ℕ) → p < patterns s → is_test s p ≡ true → (q : ℕ) → is_in q (inside_of (seen s) s p) ≡ true → SeenInside s p q
  seen_inside p h test q i = below (is_in_inside_of (seen s) s p q i)
    where
      below : (j : ℕ) × Owns s p j × (is_in q (seen s (child s j)) ≡ true) → SeenInside s p q
      below (j, o, k) =
          let w = seen_at (child s j) (owned_pattern sh p j h o) q k in
          record {
            known = w.known;
            from = omega (arith, w.from, sh.child_above p j h o);
            same_clause = w.same_clause ∙ child_clause sh p j h o few;
            owned = w.same_owner ∙ child_owner sh p j h o few ∙ pick_true (is_test s p) (p + 1) (owner_of s p) test;
          }

  -- ---- where a pattern is seen
  pub seen_itself : (p : ℕ) → p < patterns s → is_in p (seen s p) ≡ true
  seen_itself p h = go (is_test s p) refl
    where
      go : (test : Bool) → is_test s p ≡ test → is_in p (seen s p) ≡ true
      go true e = ap (is_in p) (seen_test sh few p h e) ∙ is_in_head p []
      go false e = ap (is_in p) (seen_parts sh few p h e) ∙ is_in_head p (inside_of (seen s) s p)

  -- what is seen at a pattern that is seen, is seen
  seen_through : (p : ℕ) → p < patterns s → (q r : ℕ) → is_in q (seen s p) ≡ true → is_in r (seen s q) ≡ true → is_in r (seen s p) ≡ true
  seen_through = by_children sh (λ p. (q r : ℕ) → is_in q (seen s p) ≡ true → is_in r (seen s q) ≡ true → is_in r (seen s p) ≡ true) at_parent
    where
      at_parent : (p : ℕ) → p < patterns s
          → ((j : ℕ) → Owns s p j → (q r : ℕ) → is_in q (seen s (child s j)) ≡ true → is_in r (seen s q) ≡ true → is_in r (seen s (child s j)) ≡ true)
          → (q r : ℕ) → is_in q (seen s p) ≡ true → is_in r (seen s q) ≡ true → is_in r (seen s p) ≡ true
      at_parent p h ih q r i k = go (is_test s p) refl
        where
          below : is_test s p ≡ false → (j : ℕ) × Owns s p j × (is_in q (seen s (child s j)) ≡ true) → is_in r (seen s p) ≡ true
          below e (j, o, w) =
              ap (is_in r) (seen_parts sh few p h e)
              ∙ is_in_tail r p (inside_of (seen s) s p) (inside_of_is_in (seen s) s p r j o (ih j o q r w k))

          go : (test : Bool) → is_test s p ≡ test → is_in r (seen s p) ≡ true
          go true e = rw (is_in_one q p (ap (is_in q) (sym (seen_test sh few p h e)) ∙ i)) at k
          go false e =
              ⊎_elim (λ d. rw d at k) (λ w. below e (is_in_inside_of (seen s) s p q w))
              (is_in_cons q p (inside_of (seen s) s p) (ap (is_in q) (sym (seen_parts sh few p h e)) ∙ i))

  -- a child of a pattern that is no test is seen there
  child_seen : (p j : ℕ) → p < patterns s → Owns s p j → is_test s p ≡ false → is_in (child s j) (seen s p) ≡ true
  child_seen p j h o e =
      ap (is_in (child s j)) (seen_parts sh few p h e)
      ∙ is_in_tail (child s j) p (inside_of (seen s) s p) (inside_of_is_in (seen s) s p (child s j) j o (seen_itself (child s j) (owned_pattern sh p j h o)))

  pub is_seen : (q : ℕ) → q < patterns s → Seen s q
  is_seen = by_standing sh (Seen s) of_root of_child
    where
      of_root : (c : ℕ) → c < clauses s → Seen s (root s c)
      of_root c h = record {
        at_root = λ e. rw (root_clause sh c h) (seen_itself (root s c) (sh.root_pattern c h));
        in_test = λ o e. absurd (omega (arith, root_owner sh c h));
      }

      of_child : (p j : ℕ) → p < patterns s → Owns s p j → Seen s p → Seen s (child s j)
      of_child p j h o w = go (is_test s p) refl
        where
          owned : (test : Bool) → is_test s p ≡ test → owner_of s (child s j) ≡ pick test (p + 1) (owner_of s p)
          owned test e = child_owner sh p j h o few ∙ ap (λ (b : Bool). pick b (p + 1) (owner_of s p)) e

          known : child s j < patterns s
          known = owned_pattern sh p j h o

          inside : (u : ℕ) → u < patterns s → is_test s p ≡ false → (i : ℕ) × Owns s u i × (is_in p (seen s (child s i)) ≡ true) → is_in (child s j) (inside_of (seen s) s u) ≡ true
          inside u l e (i, v, k) =
              inside_of_is_in (seen s) s u (child s j) i v (seen_through (child s i) (owned_pattern sh u i l v) p (child s j) k (child_seen p j h o e))

          go : (test : Bool) → is_test s p ≡ test → Seen s (child s j)
          go true e = record {
            at_root = λ z. absurd (omega (arith, owned true e));
            in_test = λ u z.
                let same : u ≡ p = omega (arith, owned true e) in
                rw same (inside_of_is_in (seen s) s p (child s j) j o (seen_itself (child s j) known));
          }
          go false e = record {
            at_root = λ z.
                rw (child_clause sh p j h o few)
                (seen_through (root s (clause_of s p)) (sh.root_pattern (clause_of s p) (clause_known sh few p h)) p (child s j) (w.at_root (sym (owned false e) ∙ z)) (child_seen p j h o e));
            in_test = λ u z. inside u (owner_inside u (owner sh few p h) (sym (owned false e) ∙ z)) e (is_in_inside_of (seen s) s u p (w.in_test u (sym (owned false e) ∙ z)));
          }
            where
              owner_inside : (u : ℕ) → Owner s p → owner_of s p ≡ u + 1 → u < patterns s
              owner_inside u (inside_none a) z = absurd (omega arith)
              owner_inside u (inside_test q a b c d) z = omega arith

  -- ---- those of the patterns seen of which f holds
  module _ (f : ℕ → Bool) (of : ℕ → List ℕ) (are : (p : ℕ) → of p ≡ those f (seen s p)) where
    of_seen : (p q : ℕ) → is_in q (of p) ≡ true → (f q ≡ true) × (is_in q (seen s p) ≡ true)
    of_seen p q i = is_in_those f q (seen s p) (ap (is_in q) (sym (are p)) ∙ i)

    seen_of : (p q : ℕ) → f q ≡ true → is_in q (seen s p) ≡ true → is_in q (of p) ≡ true
    seen_of p q e i = ap (is_in q) (are p) ∙ those_is_in f q (seen s p) e i

    those_at : (p q : ℕ) → p < patterns s → is_in q (of p) ≡ true → (f q ≡ true) × SeenAt s p q
    those_at p q h i = let w = of_seen p q i in (w.0, seen_at p h q w.1)

    those_inside : (p q : ℕ) → p < patterns s → is_test s p ≡ true → is_in q (inside_of of s p) ≡ true → (f q ≡ true) × SeenInside s p q
    those_inside p q h test i = below (is_in_inside_of of s p q i)
      where
        below : (j : ℕ) × Owns s p j × (is_in q (of (child s j)) ≡ true) → (f q ≡ true) × SeenInside s p q
        below (j, o, k) = let w = of_seen (child s j) q k in (w.0, seen_inside p h test q (inside_of_is_in (seen s) s p q j o w.1))

    at_root_those : (q : ℕ) → q < patterns s → f q ≡ true → owner_of s q ≡ 0 → is_in q (of (root s (clause_of s q))) ≡ true
    at_root_those q h e z = seen_of (root s (clause_of s q)) q e ((is_seen q h).at_root z)

    in_test_those : (q o : ℕ) → q < patterns s → f q ≡ true → owner_of s q ≡ o + 1 → is_in q (inside_of of s o) ≡ true
    in_test_those q o h e z = below (is_in_inside_of (seen s) s o q ((is_seen q h).in_test o z))
      where
        below : (j : ℕ) × Owns s o j × (is_in q (seen s (child s j)) ≡ true) → is_in q (inside_of of s o) ≡ true
        below (j, v, k) = inside_of_is_in of s o q j v (seen_of (child s j) q e k)

  -- ---- tests
  tests_of_are : (p : ℕ) → tests_of s p ≡ those (is_test s) (seen s p)
  unfolding tests_of
  tests_of_are p = refl

  -- a test among those of p is inside the test that p is inside of; one among those that a test opens is inside that
  pub test_at : (p q : ℕ) → p < patterns s → is_in q (tests_of s p) ≡ true → (is_test s q ≡ true) × SeenAt s p q
  test_at = those_at (is_test s) (tests_of s) tests_of_are

  pub test_inside : (p q : ℕ) → p < patterns s → is_test s p ≡ true → is_in q (opened_tests s p) ≡ true → (is_test s q ≡ true) × SeenInside s p q
  test_inside = those_inside (is_test s) (tests_of s) tests_of_are

  -- each test is among those of its clause's root or among those that its owner opens
  pub at_root_test : (q : ℕ) → q < patterns s → is_test s q ≡ true → owner_of s q ≡ 0 → is_in q (tests_of s (root s (clause_of s q))) ≡ true
  at_root_test = at_root_those (is_test s) (tests_of s) tests_of_are

  pub in_test_test : (q o : ℕ) → q < patterns s → is_test s q ≡ true → owner_of s q ≡ o + 1 → is_in q (opened_tests s o) ≡ true
  in_test_test = in_test_those (is_test s) (tests_of s) tests_of_are
