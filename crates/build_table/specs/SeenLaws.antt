-- What is seen at a pattern, opened one level in the form that a recursion over kinds and children has; and which patterns are seen
-- where: those of the same clause inside the same test, and each pattern at its clause's root or inside its own test.
-- Rests on StandingLaws and on the shape of the sheet.
use Rattle.std.specs.Prelude.{◌≡◌, ◌⊎◌, Bool, not, leb}
use Rattle.std.proofs.Math.Path.{refl, ap}
use Rattle.std.proofs.Common.{sym, ap₂, ◌∙◌, true≢false, arith, add-zero, add-one, leb-true, leb-false}
use Rattle.std.proofs.Math.Logic.{inl, inr, ⊎_elim}
use Rattle.std.proofs.Math.Bool.{true, false}
use mathlib.Core.List.{List, [], ◌∷◌, ◌++◌, append-nil, append_assoc}
use Prim.Native.Nat.{ℕ, zero, suc, ◌+◌, ◌-◌, ◌≤◌, ◌<◌, min}
use Rattle.spec_rules.specs.Limits.{patterns_most}
use Rattle.spec_rules.specs.Kinds.{discard_pattern, variable_pattern, assign_pattern, integer_pattern, byte_string_pattern, list_with_tail_pattern, constructor_pattern, pair_pattern, tuple_pattern}
use Rattle.spec_rules.specs.SheetFile.{patterns, pattern_kind, pattern_first, pattern_count, child}
use Rattle.spec_rules.specs.Patterns.{PatternKind, Discard, Variable, Assign, Integer, ByteString, ListOfAll, ListWithRest, Constructor, Pair, Tuple, Unknown, one_constructor}
use Rattle.spec_rules.specs.SheetRefusals.{has_children}
use Rattle.spec_accepted.specs.KindsLaws.{pattern_number, pattern_number_lem, byte_pattern}
use Rattle.spec_accepted.specs.SheetFacts.{Counted, Parent, Owns, Shaped, assign_parent, many_parent, parent_kind, owned_pattern}
use Rattle.build_table.specs.Standing.{test_of_kind, kind_of, type_of, is_test}
use Rattle.build_table.specs.Seen.{each_of, inside_of, seen_to, seen, those, binds_kind, binds, tests_of, tests_of_each, binds_of, binds_of_each, opened_tests, opened_binds}

-- ---- children along the child list
module _ (f : ℕ → List ℕ) (s : List ℕ) where
  pub each_of_none : (j : ℕ) → each_of f s j 0 ≡ []
  unfolding each_of
  each_of_none j = refl

  pub each_of_more : (j n : ℕ) → each_of f s j (n + 1) ≡ f (child s j) ++ each_of f s (j + 1) n
  unfolding each_of
  each_of_more j n = rw (add-one n)

  pub each_of_some : (j n : ℕ) → (n ≡ 0 → ⊥) → each_of f s j n ≡ f (child s j) ++ each_of f s (j + 1) (n - 1)
  each_of_some j n h =
      let q : n ≡ n - 1 + 1 = omega arith in
      ap (each_of f s j) q ∙ each_of_more j (n - 1)

  pub each_of_one : (j : ℕ) → each_of f s j 1 ≡ f (child s j)
  each_of_one j = each_of_more j 0 ∙ ap (λ (l : List ℕ). f (child s j) ++ l) (each_of_none (j + 1)) ∙ append-nil (f (child s j))

-- the last one apart
pub each_of_last : (f : ℕ → List ℕ) (s : List ℕ) (j n : ℕ) → each_of f s j (n + 1) ≡ each_of f s j n ++ f (child s (j + n))
each_of_last f s j zero = each_of_one f s j ∙ rw (each_of_none f s j, add-zero)
each_of_last f s j (suc n) =
    let one : suc n ≡ n + 1 = omega arith in
    let at : j + suc n ≡ j + 1 + n = omega arith in
    each_of_more f s j (suc n)
    ∙ ap (λ (l : List ℕ). f (child s j) ++ l) (ap (each_of f s (j + 1)) one ∙ each_of_last f s (j + 1) n)
    ∙ sym (append_assoc (f (child s j)) (each_of f s (j + 1) n) (f (child s (j + 1 + n))))
    ∙ ap₂ ◌++◌ (sym (ap (each_of f s j) one ∙ each_of_more f s j n)) (ap (λ (k : ℕ). f (child s k)) (sym at))

pub each_of_same : (f g : ℕ → List ℕ) (s : List ℕ) (j n : ℕ) → ((i : ℕ) → j ≤ i → i < j + n → f (child s i) ≡ g (child s i)) → each_of f s j n ≡ each_of g s j n
unfolding each_of
each_of_same f g s j zero h = refl
each_of_same f g s j (suc n) h =
    ap₂ ◌++◌ (h j (omega arith) (omega arith)) (each_of_same f g s (j + 1) n (λ i low high. h i (omega arith) (omega arith)))

-- ---- all children of a pattern
module _ (f : ℕ → List ℕ) (s : List ℕ) (p : ℕ) where
  pub inside_of_parent : Parent s p → inside_of f s p ≡ each_of f s (pattern_first s p) (pattern_count s p)
  unfolding inside_of kind_of
  inside_of_parent h = rw (h, inside_of)

  pub inside_of_childless : has_children (kind_of s p) ≡ false → inside_of f s p ≡ []
  unfolding inside_of
  inside_of_childless h = rw (h, inside_of)

pub inside_of_same : (f g : ℕ → List ℕ) (s : List ℕ) (p : ℕ) → ((j : ℕ) → Owns s p j → f (child s j) ≡ g (child s j)) → inside_of f s p ≡ inside_of g s p
unfolding kind_of
inside_of_same f g s p h = go (has_children (kind_of s p)) refl
  where
    go : (b : Bool) → has_children (kind_of s p) ≡ b → inside_of f s p ≡ inside_of g s p
    go true e =
        inside_of_parent f s p e
        ∙ each_of_same f g s (pattern_first s p) (pattern_count s p) (λ i low high. h i (record { parent = e; from = low; to = high }))
        ∙ sym (inside_of_parent g s p e)
    go false e = inside_of_childless f s p e ∙ sym (inside_of_childless g s p e)

-- ---- what is seen, one level
module _ {s : List ℕ} (sh : Shaped s) where
  seen_to_test : (deep p : ℕ) → is_test s p ≡ true → seen_to (suc deep) s p ≡ p ∷ []
  unfolding seen_to
  seen_to_test deep p e = rw (e, seen_to)

  seen_to_parts : (deep p : ℕ) → is_test s p ≡ false → seen_to (suc deep) s p ≡ p ∷ inside_of (seen_to deep s) s p
  unfolding seen_to
  seen_to_parts deep p e = rw (e, seen_to)

  seen_to_enough : (k l p : ℕ) → p < patterns s → patterns s ≤ k + p → patterns s ≤ l + p → seen_to k s p ≡ seen_to l s p
  seen_to_enough zero l p h a b = absurd (omega arith)
  seen_to_enough (suc k) zero p h a b = absurd (omega arith)
  seen_to_enough (suc k) (suc l) p h a b =
      go (is_test s p) refl
      (λ j o.
      let above = sh.child_above p j h o in
      seen_to_enough k l (child s j) (owned_pattern sh p j h o) (omega arith) (omega arith))
    where
      go : (test : Bool) → is_test s p ≡ test → ((j : ℕ) → Owns s p j → seen_to k s (child s j) ≡ seen_to l s (child s j)) → seen_to (suc k) s p ≡ seen_to (suc l) s p
      go true e ih = seen_to_test k p e ∙ sym (seen_to_test l p e)
      go false e ih = seen_to_parts k p e ∙ ap (λ (qs : List ℕ). p ∷ qs) (inside_of_same (seen_to k s) (seen_to l s) s p ih) ∙ sym (seen_to_parts l p e)

  module _ (few : Counted s) (p : ℕ) (h : p < patterns s) where
    pub seen_test : is_test s p ≡ true → seen s p ≡ p ∷ []
    unfolding seen
    seen_test e = seen_to_test (patterns_most - 1) p e

    pub seen_parts : is_test s p ≡ false → seen s p ≡ p ∷ inside_of (seen s) s p
    unfolding seen
    seen_parts e =
        seen_to_parts (patterns_most - 1) p e
        ∙ ap (λ (qs : List ℕ). p ∷ qs)
        (inside_of_same (seen_to (patterns_most - 1) s) (seen_to patterns_most s) s p
        (λ j o.
        let above = sh.child_above p j h o in
        let most = few.patterns_most_holds in
        seen_to_enough (patterns_most - 1) patterns_most (child s j) (owned_pattern sh p j h o) (omega arith) (omega arith)))

-- ---- those of which f holds
module _ (f : ℕ → Bool) where
  pub those_has : (x : ℕ) (xs : List ℕ) → f x ≡ true → those f (x ∷ xs) ≡ x ∷ those f xs
  unfolding those
  those_has x xs e = rw (e, those)

  pub those_lacks : (x : ℕ) (xs : List ℕ) → f x ≡ false → those f (x ∷ xs) ≡ those f xs
  unfolding those
  those_lacks x xs e = rw (e, those)

  pub those_append : (xs ys : List ℕ) → those f (xs ++ ys) ≡ those f xs ++ those f ys
  unfolding those
  those_append [] ys = refl
  those_append (x ∷ xs) ys = go (f x) (those_append xs ys)
    where
      go : (b : Bool) → those f (xs ++ ys) ≡ those f xs ++ those f ys
          → elim b as (λ y. List ℕ) [ true ↦ x ∷ those f (xs ++ ys) | false ↦ those f (xs ++ ys) ]
          ≡ (elim b as (λ y. List ℕ) [ true ↦ x ∷ those f xs | false ↦ those f xs ]) ++ those f ys
      go true ih = ap (λ (l : List ℕ). x ∷ l) ih
      go false ih = ih

  those_each_of : (g : ℕ → List ℕ) (s : List ℕ) (j n : ℕ) → those f (each_of g s j n) ≡ each_of (λ q. those f (g q)) s j n
  unfolding each_of those
  those_each_of g s j zero = refl
  those_each_of g s j (suc n) = those_append (g (child s j)) (each_of g s (j + 1) n) ∙ ap (λ (l : List ℕ). those f (g (child s j)) ++ l) (those_each_of g s (j + 1) n)

  pub those_inside_of : (g : ℕ → List ℕ) (s : List ℕ) (p : ℕ) → those f (inside_of g s p) ≡ inside_of (λ q. those f (g q)) s p
  unfolding inside_of those
  those_inside_of g s p = go (has_children (kind_of s p))
    where
      go : (b : Bool) → those f (elim b as (λ y. List ℕ) [ true ↦ each_of g s (pattern_first s p) (pattern_count s p) | false ↦ [] ])
          ≡ (elim b as (λ y. List ℕ) [ true ↦ each_of (λ q. those f (g q)) s (pattern_first s p) (pattern_count s p) | false ↦ [] ])
      go true = those_each_of g s (pattern_first s p) (pattern_count s p)
      go false = refl

-- ---- which kinds test, and which bind
tests_number : (s : List ℕ) (t : ℕ) (kind : PatternKind) → integer_pattern ≤ pattern_number kind → pattern_number kind ≤ list_with_tail_pattern → test_of_kind s t kind ≡ true
unfolding test_of_kind
tests_number s t Discard low high = absurd (omega arith)
tests_number s t Variable low high = absurd (omega arith)
tests_number s t Assign low high = absurd (omega arith)
tests_number s t Integer low high = refl
tests_number s t ByteString low high = refl
tests_number s t ListOfAll low high = refl
tests_number s t ListWithRest low high = refl
tests_number s t Constructor low high = absurd (omega arith)
tests_number s t Pair low high = absurd (omega arith)
tests_number s t Tuple low high = absurd (omega arith)
tests_number s t Unknown low high = absurd (omega arith)

opens_number : (s : List ℕ) (t : ℕ) (kind : PatternKind) → (pattern_number kind ≤ assign_pattern) ⊎ (pair_pattern ≤ pattern_number kind) → test_of_kind s t kind ≡ false
unfolding test_of_kind
opens_number s t Discard h = refl
opens_number s t Variable h = refl
opens_number s t Assign h = refl
opens_number s t Integer h = absurd (⊎_elim (λ l. omega arith) (λ l. omega arith) h)
opens_number s t ByteString h = absurd (⊎_elim (λ l. omega arith) (λ l. omega arith) h)
opens_number s t ListOfAll h = absurd (⊎_elim (λ l. omega arith) (λ l. omega arith) h)
opens_number s t ListWithRest h = absurd (⊎_elim (λ l. omega arith) (λ l. omega arith) h)
opens_number s t Constructor h = absurd (⊎_elim (λ l. omega arith) (λ l. omega arith) h)
opens_number s t Pair h = refl
opens_number s t Tuple h = refl
opens_number s t Unknown h = refl

binds_number : (kind : PatternKind) → variable_pattern ≤ pattern_number kind → pattern_number kind ≤ assign_pattern → binds_kind kind ≡ true
unfolding binds_kind
binds_number Discard low high = absurd (omega arith)
binds_number Variable low high = refl
binds_number Assign low high = refl
binds_number Integer low high = absurd (omega arith)
binds_number ByteString low high = absurd (omega arith)
binds_number ListOfAll low high = absurd (omega arith)
binds_number ListWithRest low high = absurd (omega arith)
binds_number Constructor low high = absurd (omega arith)
binds_number Pair low high = absurd (omega arith)
binds_number Tuple low high = absurd (omega arith)
binds_number Unknown low high = absurd (omega arith)

silent_number : (kind : PatternKind) → (pattern_number kind ≡ discard_pattern) ⊎ (integer_pattern ≤ pattern_number kind) → binds_kind kind ≡ false
unfolding binds_kind
silent_number Discard h = refl
silent_number Variable h = absurd (⊎_elim (λ l. omega arith) (λ l. omega arith) h)
silent_number Assign h = absurd (⊎_elim (λ l. omega arith) (λ l. omega arith) h)
silent_number Integer h = refl
silent_number ByteString h = refl
silent_number ListOfAll h = refl
silent_number ListWithRest h = refl
silent_number Constructor h = refl
silent_number Pair h = refl
silent_number Tuple h = refl
silent_number Unknown h = refl

-- by the kind byte, as a match over it has it
module _ (s : List ℕ) (p : ℕ) where
  the_number : pattern_number (kind_of s p) ≡ min (pattern_kind s p) (suc tuple_pattern)
  unfolding kind_of
  the_number = pattern_number_lem (pattern_kind s p)

  pub test_of_text_or_list : integer_pattern ≤ pattern_kind s p → pattern_kind s p ≤ list_with_tail_pattern → is_test s p ≡ true
  unfolding is_test
  test_of_text_or_list low high = let e = the_number in tests_number s (type_of s p) (kind_of s p) (omega arith) (omega arith)

  pub no_test_of_plain : pattern_kind s p ≤ assign_pattern → is_test s p ≡ false
  unfolding is_test
  no_test_of_plain h = let e = the_number in opens_number s (type_of s p) (kind_of s p) (inl (omega arith))

  pub no_test_of_pair : pair_pattern ≤ pattern_kind s p → is_test s p ≡ false
  unfolding is_test
  no_test_of_pair h = let e = the_number in opens_number s (type_of s p) (kind_of s p) (inr (omega arith))

  pub test_of_constructor : pattern_kind s p ≡ constructor_pattern → is_test s p ≡ not (one_constructor s (type_of s p))
  unfolding is_test kind_of test_of_kind
  test_of_constructor e = ap (test_of_kind s (type_of s p)) (byte_pattern (pattern_kind s p) Constructor e)

  pub binds_a_name : variable_pattern ≤ pattern_kind s p → pattern_kind s p ≤ assign_pattern → binds s p ≡ true
  unfolding binds
  binds_a_name low high = let e = the_number in binds_number (kind_of s p) (omega arith) (omega arith)

  pub binds_no_name : (pattern_kind s p ≡ discard_pattern) ⊎ (integer_pattern ≤ pattern_kind s p) → binds s p ≡ false
  unfolding binds
  binds_no_name h =
      let e = the_number in
      silent_number (kind_of s p) (⊎_elim (λ l. inl (omega arith)) (λ l. inr (omega arith)) h)

  pub test_kind : is_test s p ≡ true → integer_pattern ≤ pattern_kind s p
  test_kind e = go (leb (pattern_kind s p) assign_pattern) refl
    where
      go : (b : Bool) → leb (pattern_kind s p) assign_pattern ≡ b → integer_pattern ≤ pattern_kind s p
      go true x = absurd (true≢false (sym e ∙ no_test_of_plain (leb-true _ _ x)))
      go false x = leb-false _ _ x

  pub test_kind_most : is_test s p ≡ true → pattern_kind s p ≤ constructor_pattern
  test_kind_most e = go (leb (pattern_kind s p) constructor_pattern) refl
    where
      go : (b : Bool) → leb (pattern_kind s p) constructor_pattern ≡ b → pattern_kind s p ≤ constructor_pattern
      go true x = leb-true _ _ x
      go false x = absurd (true≢false (sym e ∙ no_test_of_pair (leb-false _ _ x)))

  childless : (pattern_kind s p ≤ variable_pattern) ⊎ ((integer_pattern ≤ pattern_kind s p) × (pattern_kind s p ≤ byte_string_pattern)) → has_children (kind_of s p) ≡ false
  unfolding kind_of
  childless h = go (has_children (kind_of s p)) refl
    where
      go : (b : Bool) → has_children (kind_of s p) ≡ b → has_children (kind_of s p) ≡ false
      go true x = absurd (⊎_elim (λ e. ⊎_elim (λ l. omega arith) (λ l. omega arith) h) (λ e. ⊎_elim (λ l. omega arith) (λ l. omega arith) h) (parent_kind s p x))
      go false x = x

-- ---- tests and bindings, one level
module _ {s : List ℕ} (sh : Shaped s) (few : Counted s) (p : ℕ) (h : p < patterns s) where
  pub tests_of_test : is_test s p ≡ true → tests_of s p ≡ p ∷ []
  unfolding tests_of
  tests_of_test e = ap (those (is_test s)) (seen_test sh few p h e) ∙ those_has (is_test s) p [] e

  pub tests_of_parts : is_test s p ≡ false → tests_of s p ≡ opened_tests s p
  unfolding tests_of
  tests_of_parts e =
      ap (those (is_test s)) (seen_parts sh few p h e) ∙ those_lacks (is_test s) p (inside_of (seen s) s p) e ∙ those_inside_of (is_test s) (seen s) s p

  pub binds_of_test : is_test s p ≡ true → binds_of s p ≡ []
  unfolding binds_of
  binds_of_test e =
      ap (those (binds s)) (seen_test sh few p h e)
      ∙ those_lacks (binds s) p [] (binds_no_name s p (inr (test_kind s p e)))

  pub binds_of_name : is_test s p ≡ false → binds s p ≡ true → binds_of s p ≡ p ∷ opened_binds s p
  unfolding binds_of
  binds_of_name e b =
      ap (those (binds s)) (seen_parts sh few p h e)
      ∙ those_has (binds s) p (inside_of (seen s) s p) b
      ∙ ap (λ (l : List ℕ). p ∷ l) (those_inside_of (binds s) (seen s) s p)

  pub binds_of_parts : is_test s p ≡ false → binds s p ≡ false → binds_of s p ≡ opened_binds s p
  unfolding binds_of
  binds_of_parts e b =
      ap (those (binds s)) (seen_parts sh few p h e)
      ∙ those_lacks (binds s) p (inside_of (seen s) s p) b
      ∙ those_inside_of (binds s) (seen s) s p

  -- ---- the same by the kind byte
  pub opened_tests_none : (pattern_kind s p ≤ variable_pattern) ⊎ ((integer_pattern ≤ pattern_kind s p) × (pattern_kind s p ≤ byte_string_pattern)) → opened_tests s p ≡ []
  opened_tests_none k = inside_of_childless (tests_of s) s p (childless s p k)

  pub opened_binds_none : (pattern_kind s p ≤ variable_pattern) ⊎ ((integer_pattern ≤ pattern_kind s p) × (pattern_kind s p ≤ byte_string_pattern)) → opened_binds s p ≡ []
  opened_binds_none k = inside_of_childless (binds_of s) s p (childless s p k)

  pub opened_tests_each : Parent s p → opened_tests s p ≡ tests_of_each s (pattern_first s p) (pattern_count s p)
  opened_tests_each k = inside_of_parent (tests_of s) s p k

  pub opened_binds_each : Parent s p → opened_binds s p ≡ binds_of_each s (pattern_first s p) (pattern_count s p)
  opened_binds_each k = inside_of_parent (binds_of s) s p k

  opened_assign : (f : ℕ → List ℕ) → pattern_kind s p ≡ assign_pattern → inside_of f s p ≡ f (child s (pattern_first s p))
  opened_assign f k =
      inside_of_parent f s p (assign_parent s p k)
      ∙ ap (each_of f s (pattern_first s p)) (sh.assign_one p h k)
      ∙ each_of_one f s (pattern_first s p)

  pub tests_plain : pattern_kind s p ≤ variable_pattern → tests_of s p ≡ []
  tests_plain k = tests_of_parts (no_test_of_plain s p (omega arith)) ∙ opened_tests_none (inl k)

  pub tests_assign : pattern_kind s p ≡ assign_pattern → tests_of s p ≡ tests_of s (child s (pattern_first s p))
  tests_assign k = tests_of_parts (no_test_of_plain s p (omega arith)) ∙ opened_assign (tests_of s) k

  pub tests_text_or_list : integer_pattern ≤ pattern_kind s p → pattern_kind s p ≤ list_with_tail_pattern → tests_of s p ≡ p ∷ []
  tests_text_or_list low high = tests_of_test (test_of_text_or_list s p low high)

  pub tests_several : pattern_kind s p ≡ constructor_pattern → one_constructor s (type_of s p) ≡ false → tests_of s p ≡ p ∷ []
  tests_several k one = tests_of_test (test_of_constructor s p k ∙ ap not one)

  pub tests_only : pattern_kind s p ≡ constructor_pattern → one_constructor s (type_of s p) ≡ true → tests_of s p ≡ tests_of_each s (pattern_first s p) (pattern_count s p)
  tests_only k one = tests_of_parts (test_of_constructor s p k ∙ ap not one) ∙ opened_tests_each (many_parent s p (omega arith) (omega arith))

  pub tests_pair : pair_pattern ≤ pattern_kind s p → pattern_kind s p ≤ tuple_pattern → tests_of s p ≡ tests_of_each s (pattern_first s p) (pattern_count s p)
  tests_pair low high = tests_of_parts (no_test_of_pair s p low) ∙ opened_tests_each (many_parent s p (omega arith) high)

  pub binds_discard : pattern_kind s p ≡ discard_pattern → binds_of s p ≡ []
  binds_discard k = binds_of_parts (no_test_of_plain s p (omega arith)) (binds_no_name s p (inl k)) ∙ opened_binds_none (inl (omega arith))

  pub binds_variable : pattern_kind s p ≡ variable_pattern → binds_of s p ≡ p ∷ []
  binds_variable k =
      binds_of_name (no_test_of_plain s p (omega arith)) (binds_a_name s p (omega arith) (omega arith)) ∙ ap (λ (l : List ℕ). p ∷ l) (opened_binds_none (inl (omega arith)))

  pub binds_assign : pattern_kind s p ≡ assign_pattern → binds_of s p ≡ p ∷ binds_of s (child s (pattern_first s p))
  binds_assign k =
      binds_of_name (no_test_of_plain s p (omega arith)) (binds_a_name s p (omega arith) (omega arith)) ∙ ap (λ (l : List ℕ). p ∷ l) (opened_assign (binds_of s) k)

  pub binds_text_or_list : integer_pattern ≤ pattern_kind s p → pattern_kind s p ≤ list_with_tail_pattern → binds_of s p ≡ []
  binds_text_or_list low high = binds_of_test (test_of_text_or_list s p low high)

  pub binds_several : pattern_kind s p ≡ constructor_pattern → one_constructor s (type_of s p) ≡ false → binds_of s p ≡ []
  binds_several k one = binds_of_test (test_of_constructor s p k ∙ ap not one)

  pub binds_only : pattern_kind s p ≡ constructor_pattern → one_constructor s (type_of s p) ≡ true → binds_of s p ≡ binds_of_each s (pattern_first s p) (pattern_count s p)
  binds_only k one =
      binds_of_parts (test_of_constructor s p k ∙ ap not one) (binds_no_name s p (inr (omega arith))) ∙ opened_binds_each (many_parent s p (omega arith) (omega arith))

  pub binds_pair : pair_pattern ≤ pattern_kind s p → pattern_kind s p ≤ tuple_pattern → binds_of s p ≡ binds_of_each s (pattern_first s p) (pattern_count s p)
  binds_pair low high =
      binds_of_parts (no_test_of_pair s p low) (binds_no_name s p (inr (omega arith))) ∙ opened_binds_each (many_parent s p (omega arith) high)

-- of n children from entry j on
module _ (s : List ℕ) (j : ℕ) where
  pub tests_each_none : tests_of_each s j 0 ≡ []
  tests_each_none = each_of_none (tests_of s) s j

  pub tests_each_some : (n : ℕ) → (n ≡ 0 → ⊥) → tests_of_each s j n ≡ tests_of s (child s j) ++ tests_of_each s (j + 1) (n - 1)
  tests_each_some n h = each_of_some (tests_of s) s j n h

  pub binds_each_none : binds_of_each s j 0 ≡ []
  binds_each_none = each_of_none (binds_of s) s j

  pub binds_each_some : (n : ℕ) → (n ≡ 0 → ⊥) → binds_of_each s j n ≡ binds_of s (child s j) ++ binds_of_each s (j + 1) (n - 1)
  binds_each_some n h = each_of_some (binds_of s) s j n h
