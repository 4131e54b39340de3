-- No pattern is seen twice: the numbers of tests and bindings that a pattern gives, or a test opens to, are all different.
-- Rests on ApartLaws (children of one pattern stand at different paths) and MembersLaws.
use Rattle.std.specs.Prelude.{◌≡◌, Bool, List, [], ◌∷◌, ◌++◌, eqb}
use Rattle.std.proofs.Math.Path.{refl, ap}
use Rattle.std.proofs.Common.{sym, ◌∙◌, ⊎_elim, true≢false, append-nil, append_assoc, arith, eqb-true}
use Rattle.std.proofs.Math.Bool.{true, false}
use Prim.Native.Nat.{ℕ, zero, suc, ◌+◌, ◌-◌, ◌≤◌, ◌<◌}
use Rattle.std.proofs.lemmas.Bool.{eqb-false}
use Rattle.base_words.specs.WordsLaws.{either_false, either_make_false}
use Rattle.spec_rules.specs.Kinds.{assign_pattern}
use Rattle.spec_rules.specs.SheetFile.{patterns, pattern_kind, pattern_first, pattern_count, child}
use Rattle.spec_rules.specs.SheetRefusals.{has_children, is_in, repeats}
use Rattle.spec_rules.specs.Rows.{Step, Path, into}
use Rattle.spec_rules.specs.Columns.{step_index}
use Rattle.spec_rules.specs.SplittingLaws.{not_true_false}
use Rattle.spec_accepted.specs.SheetFacts.{Counted, Owns, Shaped, owned_pattern}
use Rattle.build_table.specs.Standing.{kind_of, path_of, is_test}
use Rattle.build_table.specs.StandingLaws.{by_children}
use Rattle.build_table.specs.Seen.{each_of, inside_of, seen, those, tests_of, opened_tests}
use Rattle.build_table.specs.SeenLaws.{inside_of_parent, inside_of_childless, seen_test, seen_parts, those_has, those_lacks, those_inside_of}
use Rattle.build_table.specs.MembersLaws.{is_in_nil, is_in_head, is_in_tail, is_in_cons, is_in_one, is_in_append, is_in_those, is_in_each_of, is_in_inside_of, seen_at}
use Rattle.build_table.specs.ApartLaws.{assign_child, inside_assign, inside_other}

-- ---- numbers that are all different
repeats_cons : (x : ℕ) (xs : List ℕ) → (is_in x xs ≡ true → ⊥) → repeats xs ≡ false → repeats (x ∷ xs) ≡ false
unfolding repeats
repeats_cons x xs new rest = either_make_false (is_in x xs) (repeats xs) (not_true_false (is_in x xs) new) rest

repeats_rest : (x : ℕ) (xs : List ℕ) → repeats (x ∷ xs) ≡ false → (is_in x xs ≡ true → ⊥) × (repeats xs ≡ false)
unfolding repeats
repeats_rest x xs h = let w = either_false (is_in x xs) (repeats xs) h in ((λ e. true≢false (sym e ∙ w.0)), w.1)

repeats_append : (xs ys : List ℕ) → repeats xs ≡ false → repeats ys ≡ false → ((x : ℕ) → is_in x xs ≡ true → is_in x ys ≡ true → ⊥) → repeats (xs ++ ys) ≡ false
repeats_append [] ys a b apart = b
repeats_append (x ∷ xs) ys a b apart =
    let w = repeats_rest x xs a in
    repeats_cons x (xs ++ ys) (λ i. ⊎_elim w.0 (apart x (is_in_head x xs)) (is_in_append x xs ys i))
    (repeats_append xs ys w.1 b (λ y i k. apart y (is_in_tail y x xs i) k))

repeats_those : (f : ℕ → Bool) (xs : List ℕ) → repeats xs ≡ false → repeats (those f xs) ≡ false
unfolding those
repeats_those f [] h = h
repeats_those f (x ∷ xs) h = go (f x) refl (repeats_those f xs)
  where
    go : (b : Bool) → f x ≡ b → (repeats xs ≡ false → repeats (those f xs) ≡ false) → repeats (those f (x ∷ xs)) ≡ false
    go true e ih =
        let w = repeats_rest x xs h in
        ap repeats (those_has f x xs e) ∙ repeats_cons x (those f xs) (λ i. w.0 (is_in_those f x xs i).1) (ih w.1)
    go false e ih = ap repeats (those_lacks f x xs e) ∙ ih (repeats_rest x xs h).1

-- the steps where two paths part
same_next : (p : Path) (x y : Step) (xs ys : Path) → p ++ x ∷ xs ≡ p ++ y ∷ ys → x ≡ y
same_next [] x y xs ys e = cc
same_next (z ∷ p) x y xs ys e = let d : p ++ x ∷ xs ≡ p ++ y ∷ ys = cc in same_next p x y xs ys d

into_more : (p : Path) (x : Step) (xs : Path) → into p x ++ xs ≡ p ++ x ∷ xs
unfolding into
into_more p x xs = append_assoc p (x ∷ []) xs

module _ {s : List ℕ} (sh : Shaped s) (few : Counted s) where
  -- what is seen at a pattern stands at its path or below
  seen_below : (p : ℕ) → p < patterns s → (q : ℕ) → is_in q (seen s p) ≡ true → (x : Path) × (path_of s q ≡ path_of s p ++ x)
  seen_below = by_children sh (λ p. (q : ℕ) → is_in q (seen s p) ≡ true → (x : Path) × (path_of s q ≡ path_of s p ++ x)) at_parent
    where
      itself : (p q : ℕ) → q ≡ p → (x : Path) × (path_of s q ≡ path_of s p ++ x)
      itself p q e = ([], ap (path_of s) e ∙ sym (append-nil (path_of s p)))

      at_parent : (p : ℕ) → p < patterns s → ((j : ℕ) → Owns s p j → (q : ℕ) → is_in q (seen s (child s j)) ≡ true → (x : Path) × (path_of s q ≡ path_of s (child s j) ++ x))
          → (q : ℕ) → is_in q (seen s p) ≡ true → (x : Path) × (path_of s q ≡ path_of s p ++ x)
      at_parent p h ih q i = go (is_test s p) refl
        where
          below : (j : ℕ) × Owns s p j × (is_in q (seen s (child s j)) ≡ true) → (x : Path) × (path_of s q ≡ path_of s p ++ x)
          below (j, o, k) = by_kind (eqb (pattern_kind s p) assign_pattern) refl (ih j o q k)
            where
              by_kind : (b : Bool) → eqb (pattern_kind s p) assign_pattern ≡ b → (x : Path) × (path_of s q ≡ path_of s (child s j) ++ x) → (x : Path) × (path_of s q ≡ path_of s p ++ x)
              by_kind true e (x, path) = (x, path ∙ ap (λ (z : Path). z ++ x) (inside_assign sh few p j h o (eqb-true _ _ e)))
              by_kind false e (x, path) =
                  let w = inside_other sh few p j h o (eqb-false _ _ e) in
                  (w.0 ∷ x, path ∙ ap (λ (z : Path). z ++ x) w.1 ∙ into_more (path_of s p) w.0 x)

          go : (test : Bool) → is_test s p ≡ test → (x : Path) × (path_of s q ≡ path_of s p ++ x)
          go true e = itself p q (is_in_one q p (ap (is_in q) (sym (seen_test sh few p h e)) ∙ i))
          go false e =
              ⊎_elim (itself p q) (λ k. below (is_in_inside_of (seen s) s p q k))
              (is_in_cons q p (inside_of (seen s) s p) (ap (is_in q) (sym (seen_parts sh few p h e)) ∙ i))

  -- nothing is seen at two children of one pattern
  children_apart : (p i j q : ℕ) → p < patterns s → Owns s p i → Owns s p j → is_in q (seen s (child s i)) ≡ true → is_in q (seen s (child s j)) ≡ true → i ≡ j
  children_apart p i j q h o v a b = go (eqb (pattern_kind s p) assign_pattern) refl
    where
      go : (test : Bool) → eqb (pattern_kind s p) assign_pattern ≡ test → i ≡ j
      go true e = assign_child sh few p i h o (eqb-true _ _ e) ∙ sym (assign_child sh few p j h v (eqb-true _ _ e))
      go false e =
          let x = inside_other sh few p i h o (eqb-false _ _ e) in
          let y = inside_other sh few p j h v (eqb-false _ _ e) in
          let u = seen_below (child s i) (owned_pattern sh p i h o) q a in
          let w = seen_below (child s j) (owned_pattern sh p j h v) q b in
          let left : path_of s q ≡ path_of s p ++ x.0 ∷ u.0 = u.1 ∙ ap (λ (z : Path). z ++ u.0) x.1 ∙ into_more (path_of s p) x.0 u.0 in
          let right : path_of s q ≡ path_of s p ++ y.0 ∷ w.0 = w.1 ∙ ap (λ (z : Path). z ++ w.0) y.1 ∙ into_more (path_of s p) y.0 w.0 in
          let step = same_next (path_of s p) x.0 y.0 u.0 w.0 (sym left ∙ right) in
          let index : i - pattern_first s p ≡ j - pattern_first s p = sym x.2 ∙ ap step_index step ∙ y.2 in
          omega (arith, o.from, v.from)

  -- of children that are all of one pattern
  each_once : (p j n : ℕ) → p < patterns s → ((i : ℕ) → j ≤ i → i < j + n → Owns s p i) → ((i : ℕ) → Owns s p i → repeats (seen s (child s i)) ≡ false)
      → repeats (each_of (seen s) s j n) ≡ false
  unfolding each_of repeats
  each_once p j zero h own ih = refl
  each_once p j (suc n) h own ih =
      let o = own j (omega arith) (omega arith) in
      repeats_append (seen s (child s j)) (each_of (seen s) s (j + 1) n) (ih j o)
      (each_once p (j + 1) n h (λ i low high. own i (omega arith) (omega arith)) ih) apart
    where
      apart : (q : ℕ) → is_in q (seen s (child s j)) ≡ true → is_in q (each_of (seen s) s (j + 1) n) ≡ true → ⊥
      apart q a b =
          let w = is_in_each_of (seen s) s q (j + 1) n b in
          let same = children_apart p j w.0 q h (own j (omega arith) (omega arith)) (own w.0 (omega (arith, w.1)) (omega (arith, w.2))) a w.3 in
          omega (arith, w.1)

  inside_once : (p : ℕ) → p < patterns s → ((j : ℕ) → Owns s p j → repeats (seen s (child s j)) ≡ false) → repeats (inside_of (seen s) s p) ≡ false
  unfolding kind_of repeats
  inside_once p h ih = go (has_children (kind_of s p)) refl
    where
      go : (b : Bool) → has_children (kind_of s p) ≡ b → repeats (inside_of (seen s) s p) ≡ false
      go true e =
          ap repeats (inside_of_parent (seen s) s p e)
          ∙ each_once p (pattern_first s p) (pattern_count s p) h (λ i low high. record { parent = e; from = low; to = high }) ih
      go false e = ap repeats (inside_of_childless (seen s) s p e)

  pub seen_once : (p : ℕ) → p < patterns s → repeats (seen s p) ≡ false
  seen_once = by_children sh (λ p. repeats (seen s p) ≡ false) at_parent
    where
      at_parent : (p : ℕ) → p < patterns s → ((j : ℕ) → Owns s p j → repeats (seen s (child s j)) ≡ false) → repeats (seen s p) ≡ false
      at_parent p h ih = go (is_test s p) refl
        where
          above : (j : ℕ) × Owns s p j × (is_in p (seen s (child s j)) ≡ true) → ⊥
          above (j, o, k) = omega (arith, (seen_at sh few (child s j) (owned_pattern sh p j h o) p k).from, sh.child_above p j h o)

          go : (test : Bool) → is_test s p ≡ test → repeats (seen s p) ≡ false
          go true e = ap repeats (seen_test sh few p h e) ∙ repeats_cons p [] (is_in_nil p) nothing
            where
              nothing : repeats [] ≡ false
              nothing = unfold repeats in refl
          go false e =
              ap repeats (seen_parts sh few p h e) ∙ repeats_cons p (inside_of (seen s) s p) (λ i. above (is_in_inside_of (seen s) s p p i)) (inside_once p h ih)

  opened_once : (p : ℕ) → p < patterns s → repeats (inside_of (seen s) s p) ≡ false
  opened_once p h = inside_once p h (λ j o. seen_once (child s j) (owned_pattern sh p j h o))

  pub tests_once : (p : ℕ) → p < patterns s → repeats (tests_of s p) ≡ false
  unfolding tests_of
  tests_once p h = repeats_those (is_test s) (seen s p) (seen_once p h)

  pub opened_tests_once : (p : ℕ) → p < patterns s → repeats (opened_tests s p) ≡ false
  unfolding tests_of
  opened_tests_once p h = ap repeats (sym (those_inside_of (is_test s) (seen s) s p)) ∙ repeats_those (is_test s) (inside_of (seen s) s p) (opened_once p h)
