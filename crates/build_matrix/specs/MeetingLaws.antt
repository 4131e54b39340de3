-- Structure meets numbers, each test once: the tests of a clause's row are those inside no test, what a test opens to are those directly
-- inside it, each number standing there once; and a clause has one test with a path. Rests on what crate build_table shows of the tests seen.
use Rattle.std.specs.Prelude.{◌≡◌, refl, Bool, false, List, [], ◌∷◌, map, ℕ, zero, suc, ◌+◌, ◌≤◌, ◌<◌, eqb, ltb}
use Rattle.std.proofs.Common.{sym, ap, ◌∙◌, true≢false, arith, ltb-true, lt-ltb, eqb-true, eq-eqb}
use Rattle.std.proofs.Math.Bool.{true}
use Rattle.std.proofs.lemmas.Bool.{false≢true}
use Rattle.base_words.specs.Words.{both}
use Rattle.base_words.specs.WordsLaws.{both_true, both_make, either_false}
use Rattle.spec_rules.specs.SheetFile.{patterns, clauses, root}
use Rattle.spec_rules.specs.SheetRefusals.{is_in, repeats}
use Rattle.spec_rules.specs.Patterns.{clause_pattern}
use Rattle.spec_rules.specs.Rows.{bit, columns_of, opened_columns}
use Rattle.spec_accepted.specs.SheetFacts.{Counted, Shaped, Accepted}
use Rattle.build_table.specs.Standing.{clause_of, path_of, owner_of, pattern_of, is_test, class_of}
use Rattle.build_table.specs.StandingLaws.{root_clause, root_owner}
use Rattle.build_table.specs.Seen.{tests_of, opened_tests, cell_at}
use Rattle.build_table.specs.MembersLaws.{is_in_nil, test_at, test_inside, at_root_test, in_test_test}
use Rattle.build_table.specs.OnceLaws.{tests_once, opened_tests_once}
use Rattle.build_table.specs.ApartLaws.{same_test}
use Rattle.build_table.specs.Meets.{opened_columns_meet, clause_columns_meet}
use Rattle.build_matrix.specs.Numbers.{copies}
use Rattle.build_matrix.specs.Live.{is_test_of, is_inside}

pub record Meeting (s : List ℕ) : Type 0 where
  pub root_cells : (c : ℕ) → c < clauses s → columns_of [] (clause_pattern s c) ≡ map (cell_at s) (tests_of s (root s c))
  pub opened_cells : (p : ℕ) → p < patterns s → is_test s p ≡ true → opened_columns (path_of s p) (pattern_of s p) ≡ map (cell_at s) (opened_tests s p)
  pub root_once : (c q : ℕ) → c < clauses s → copies q (tests_of s (root s c)) ≡ bit (both (is_test_of s c q) (eqb (owner_of s q) 0))
  pub opened_once : (p q : ℕ) → p < patterns s → is_test s p ≡ true → copies q (opened_tests s p) ≡ bit (is_inside s p q)
  pub one_test : (p q : ℕ) → p < patterns s → q < patterns s → is_test s p ≡ true → is_test s q ≡ true → clause_of s p ≡ clause_of s q → class_of s p ≡ class_of s q → p ≡ q

-- ---- copies and standing in a list
pub copies_in : (q : ℕ) (xs : List ℕ) → 1 ≤ copies q xs → is_in q xs ≡ true
unfolding copies is_in bit
copies_in q [] h = absurd (omega arith)
copies_in q (x ∷ xs) h = go (eqb q x) refl (copies_in q xs)
  where
    go : (b : Bool) → eqb q x ≡ b → (1 ≤ copies q xs → is_in q xs ≡ true) → is_in q (x ∷ xs) ≡ true
    go true e ih = rw e
    go false e ih = let l : 1 ≤ bit false + copies q xs = rw e at h in rw e (ih (omega arith))

pub in_copies : (q : ℕ) (xs : List ℕ) → is_in q xs ≡ true → 1 ≤ copies q xs
unfolding copies is_in bit
in_copies q [] h = absurd (is_in_nil q h)
in_copies q (x ∷ xs) h = go (eqb q x) refl (in_copies q xs)
  where
    go : (b : Bool) → eqb q x ≡ b → (is_in q xs ≡ true → 1 ≤ copies q xs) → 1 ≤ copies q (x ∷ xs)
    go true e ih = rw e (omega arith)
    go false e ih = let i : is_in q xs ≡ true = rw e at h in rw e (omega (arith, ih i))

copies_none : (q : ℕ) (xs : List ℕ) → (is_in q xs ≡ true → ⊥) → copies q xs ≡ 0
copies_none q xs n = go (copies q xs) refl
  where
    go : (k : ℕ) → copies q xs ≡ k → copies q xs ≡ 0
    go zero e = e
    go (suc k) e = absurd (n (copies_in q xs (omega arith)))

-- in a list with none twice
no_repeat : (q : ℕ) (xs : List ℕ) → repeats xs ≡ false → copies q xs ≤ 1
unfolding copies repeats bit
no_repeat q [] h = omega arith
no_repeat q (x ∷ xs) h = let w = either_false (is_in x xs) (repeats xs) h in go (eqb q x) refl w.0 (no_repeat q xs w.1)
  where
    go : (b : Bool) → eqb q x ≡ b → is_in x xs ≡ false → copies q xs ≤ 1 → copies q (x ∷ xs) ≤ 1
    go true e a most =
        let d = eqb-true q x e in
        let none_left = copies_none q xs (λ i. true≢false (sym i ∙ ap (λ (y : ℕ). is_in y xs) d ∙ a)) in
        rw e (omega arith)
    go false e a most = rw e (omega arith)

-- at most once, and exactly where the test holds
counted_once : (b : Bool) (q : ℕ) (xs : List ℕ) → copies q xs ≤ 1 → (is_in q xs ≡ true → b ≡ true) → (b ≡ true → is_in q xs ≡ true) → copies q xs ≡ bit b
unfolding bit
counted_once true q xs most there back = omega (arith, in_copies q xs (back refl))
counted_once false q xs most there back = copies_none q xs (λ i. false≢true (there i))

module _ {s : List ℕ} (sh : Shaped s) (few : Counted s) where
  root_bits : (c q : ℕ) → c < clauses s → copies q (tests_of s (root s c)) ≡ bit (both (is_test_of s c q) (eqb (owner_of s q) 0))
  unfolding is_test_of
  root_bits c q h =
      counted_once (both (is_test_of s c q) (eqb (owner_of s q) 0)) q (tests_of s (root s c))
      (no_repeat q (tests_of s (root s c)) (tests_once sh few (root s c) r)) there back
    where
      r : root s c < patterns s
      r = sh.root_pattern c h

      there : is_in q (tests_of s (root s c)) ≡ true → both (is_test_of s c q) (eqb (owner_of s q) 0) ≡ true
      there i =
          let w = test_at sh few (root s c) q r i in
          both_make (is_test_of s c q) (eqb (owner_of s q) 0)
          (both_make (ltb q (patterns s)) (both (is_test s q) (eqb (clause_of s q) c)) (lt-ltb q (patterns s) w.1.known)
          (both_make (is_test s q) (eqb (clause_of s q) c) w.0 (eq-eqb (clause_of s q) c (w.1.same_clause ∙ root_clause sh c h))))
          (eq-eqb (owner_of s q) 0 (w.1.same_owner ∙ root_owner sh c h))

      back : both (is_test_of s c q) (eqb (owner_of s q) 0) ≡ true → is_in q (tests_of s (root s c)) ≡ true
      back e =
          let a = both_true (is_test_of s c q) (eqb (owner_of s q) 0) e in
          let b = both_true (ltb q (patterns s)) (both (is_test s q) (eqb (clause_of s q) c)) a.0 in
          let d = both_true (is_test s q) (eqb (clause_of s q) c) b.1 in
          rw (eqb-true (clause_of s q) c d.1) at (at_root_test sh few q (ltb-true q (patterns s) b.0) d.0 (eqb-true (owner_of s q) 0 a.1))

  inside_bits : (p q : ℕ) → p < patterns s → is_test s p ≡ true → copies q (opened_tests s p) ≡ bit (is_inside s p q)
  unfolding is_inside
  inside_bits p q h test =
      counted_once (is_inside s p q) q (opened_tests s p)
      (no_repeat q (opened_tests s p) (opened_tests_once sh few p h)) there back
    where
      there : is_in q (opened_tests s p) ≡ true → is_inside s p q ≡ true
      there i =
          let w = test_inside sh few p q h test i in
          both_make (ltb q (patterns s)) (both (is_test s q) (eqb (owner_of s q) (p + 1))) (lt-ltb q (patterns s) w.1.known)
          (both_make (is_test s q) (eqb (owner_of s q) (p + 1)) w.0 (eq-eqb (owner_of s q) (p + 1) w.1.owned))

      back : is_inside s p q ≡ true → is_in q (opened_tests s p) ≡ true
      back e =
          let b = both_true (ltb q (patterns s)) (both (is_test s q) (eqb (owner_of s q) (p + 1))) e in
          let d = both_true (is_test s q) (eqb (owner_of s q) (p + 1)) b.1 in
          in_test_test sh few q p (ltb-true q (patterns s) b.0) d.0 (eqb-true (owner_of s q) (p + 1) d.1)

pub meeting : {s : List ℕ} → Accepted s → Meeting s
meeting {s} ok =
    let sh = ok.is_shaped in
    let few = ok.is_counted in
    record {
      root_cells = clause_columns_meet sh few;
      opened_cells = opened_columns_meet sh few;
      root_once = root_bits sh few;
      opened_once = inside_bits sh few;
      one_test = same_test sh few;
    }
