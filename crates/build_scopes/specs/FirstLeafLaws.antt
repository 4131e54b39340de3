-- Rule 5 by numbers: the first leaf of a clause in building order has the bindings of the clause's hoist, where all leaves of the
-- clause bind as many names. Rests on the way down: it ends at a leaf of the clause.
use Rattle.std.specs.Prelude.{◌≡◌, refl, Bool, List, [], ◌∷◌, ◌++◌, ℕ, ◌+◌, length, get_or, eqb}
use Rattle.std.proofs.Common.{sym, ap₂, ◌∙◌, inl, inr, true≢false, arith, eqb-true}
use Rattle.std.proofs.Math.Path.{ap}
use Rattle.std.proofs.Math.Bool.{true, false}
use Rattle.std.proofs.lemmas.Bool.{false≢true}
use Rattle.base_words.specs.Words.{either, pick}
use Rattle.spec_rules.specs.Rows.{Binding}
use Rattle.spec_rules.specs.SplittingLaws.{either_assoc}
use Rattle.spec_rules.specs.Building.{Tree, Cases, absent, leaf, hoist, switch, listswitch, cnil, ccons}
use Rattle.spec_rules.specs.Hoisting.{or_else, first_bindings, first_bindings_of, nodes_in, nodes_in_of, has_leaf, has_leaf_of}
use Rattle.spec_hoist.specs.Trees.{Plain, PlainOf, Leaf, leaf_with, leaves_of, leaves_of_each, Among, EachLeaf}
use Rattle.build_arena.specs.Numbered.{subtrees, subtrees_of, subtree_at, Within}
use Rattle.build_arena.specs.NumberedLaws.{within_all, within_left, within_right, within_first, length_subtrees, length_subtrees_of}
use Rattle.build_scopes.specs.Numbers.{descent, descent_of, never, first_number, BindCounts, BindCountsOf}
use Rattle.build_scopes.specs.NumbersLaws.{descent_of_pick, either_turn}

-- ---- as many bindings at each leaf, from what is said of each leaf
among_left : (x : Leaf) (xs ys : List Leaf) → Among x xs → Among x (xs ++ ys)
among_left x [] ys h = absurd h
among_left x (y ∷ xs) ys (inl e) = inl e
among_left x (y ∷ xs) ys (inr h) = inr (among_left x xs ys h)

among_right : (x : Leaf) (xs ys : List Leaf) → Among x ys → Among x (xs ++ ys)
among_right x [] ys h = h
among_right x (y ∷ xs) ys h = inr (among_right x xs ys h)

module _ (f : ℕ → ℕ) where
  abbrev EachOf : List Leaf → Type 0
  EachOf xs = (x : Leaf) → Among x xs → length x.bindings ≡ f x.clause

  mutual
    unfolding BindCounts leaves_of

    pub counts_each : (a : Tree) → EachLeaf (λ c bs. length bs ≡ f c) a → BindCounts f a
    counts_each absent h = tt
    counts_each (leaf c bs) h = h (leaf_with c bs) (inl refl)
    counts_each (hoist c bs a) h = counts_each a h
    counts_each (switch p cs d) h =
        (counts_each_of cs (λ x m. h x (among_left x (leaves_of_each cs) (leaves_of d) m)), counts_each d (λ x m. h x (among_right x (leaves_of_each cs) (leaves_of d) m)))
    counts_each (listswitch p cs ts d) h = (
      counts_each_of cs (λ x m. h x (among_left x (leaves_of_each cs) (leaves_of_each ts ++ leaves_of d) m)),
      counts_each_of ts (λ x m. h x (among_right x (leaves_of_each cs) (leaves_of_each ts ++ leaves_of d) (among_left x (leaves_of_each ts) (leaves_of d) m))),
      counts_each d (λ x m. h x (among_right x (leaves_of_each cs) (leaves_of_each ts ++ leaves_of d) (among_right x (leaves_of_each ts) (leaves_of d) m))),
    )

    counts_each_of : (cs : Cases) → EachOf (leaves_of_each cs) → BindCountsOf f cs
    counts_each_of cnil h = tt
    counts_each_of (ccons t at a cs) h =
        (counts_each a (λ x m. h x (among_left x (leaves_of a) (leaves_of_each cs) m)), counts_each_of cs (λ x m. h x (among_right x (leaves_of a) (leaves_of_each cs) m)))

-- ---- no bindings anywhere, or some at each leaf
-- the bindings of a part that has a leaf of the clause (as b says): as many as the clause has; else none
Counted : ℕ → Bool → List Binding → Type 0
Counted n b bs = (b ≡ true → length bs ≡ n) × (b ≡ false → bs ≡ [])

no_length : (bs : List Binding) → length bs ≡ 0 → bs ≡ []
no_length [] e = refl
no_length (b ∷ bs) e = absurd (omega arith)

counted_none : (n : ℕ) (b : Bool) (bs : List Binding) → n ≡ 0 → Counted n b bs → bs ≡ []
unfolding Counted
counted_none n true bs e h = no_length bs (h.0 refl ∙ e)
counted_none n false bs e h = h.1 refl

-- of two parts: the first if it has a leaf, else the second
or_else_first : (n : ℕ) (p q : Bool) (bs cs : List Binding) → Counted n p bs → Counted n q cs → p ≡ true → or_else bs cs ≡ bs
unfolding Counted or_else
or_else_first n p q [] cs h g e = counted_none n q cs (sym (h.0 e)) g
or_else_first n p q (x ∷ bs) cs h g e = refl

or_else_second : (n : ℕ) (p q : Bool) (bs cs : List Binding) → Counted n p bs → p ≡ false → or_else bs cs ≡ cs
unfolding Counted or_else
or_else_second n p q bs cs h e = rw (h.1 e)

counted_or_else : (n : ℕ) (p q : Bool) (bs cs : List Binding) → Counted n p bs → Counted n q cs → Counted n (either p q) (or_else bs cs)
unfolding Counted
counted_or_else n true q bs cs h g = (λ e. ap length (or_else_first n true q bs cs h g refl) ∙ h.0 refl, λ e. absurd (true≢false e))
counted_or_else n false q bs cs h g = rw (or_else_second n false q bs cs h refl) g

module _ (f : ℕ → ℕ) (c : ℕ) where
  leaf_counted : (k : ℕ) (bs : List Binding) (b : Bool) → (b ≡ true → c ≡ k) → length bs ≡ f k → Counted (f c) b (elim b [ true ↦ bs | false ↦ [] ])
  unfolding Counted
  leaf_counted k bs true h e = (λ x. e ∙ ap f (sym (h refl)), λ x. absurd (true≢false x))
  leaf_counted k bs false h e = (λ x. absurd (false≢true x), λ x. refl)

  counted_turn : (p q : Bool) (bs : List Binding) → Counted (f c) (either p q) bs → Counted (f c) (either q p) bs
  counted_turn p q bs h = rw (either_turn q p) h

  counted_round : (p q r : Bool) (bs : List Binding) → Counted (f c) (either p (either q r)) bs → Counted (f c) (either q (either r p)) bs
  counted_round p q r bs h = rw (← either_assoc q r p, either_turn (either q r) p) h

  mutual
    unfolding first_bindings has_leaf BindCounts Counted

    counted : (a : Tree) → BindCounts f a → Counted (f c) (has_leaf c a) (first_bindings c a)
    counted absent h = (λ e. absurd (false≢true e), λ e. refl)
    counted (leaf k bs) h = leaf_counted k bs (eqb c k) (eqb-true c k) h
    counted (hoist k bs a) h = counted a h
    counted (switch p cs d) h =
        counted_turn (has_leaf c d) (has_leaf_of c cs) (or_else (first_bindings c d) (first_bindings_of c cs))
        (counted_or_else (f c) (has_leaf c d) (has_leaf_of c cs) (first_bindings c d) (first_bindings_of c cs) (counted d h.1) (counted_of cs h.0))
    counted (listswitch p cs ts d) h =
        let both_runs = or_else (first_bindings_of c cs) (first_bindings_of c ts) in
        counted_round (has_leaf c d) (has_leaf_of c cs) (has_leaf_of c ts) (or_else (first_bindings c d) both_runs)
        (counted_or_else (f c) (has_leaf c d) (either (has_leaf_of c cs) (has_leaf_of c ts)) (first_bindings c d) both_runs (counted d h.2)
        (counted_or_else (f c) (has_leaf_of c cs) (has_leaf_of c ts) (first_bindings_of c cs) (first_bindings_of c ts) (counted_of cs h.0) (counted_of ts h.1)))

    counted_of : (cs : Cases) → BindCountsOf f cs → Counted (f c) (has_leaf_of c cs) (first_bindings_of c cs)
    counted_of cnil h = (λ e. absurd (false≢true e), λ e. refl)
    counted_of (ccons t at a cs) h =
        counted_or_else (f c) (has_leaf c a) (has_leaf_of c cs) (first_bindings c a) (first_bindings_of c cs) (counted a h.0) (counted_of cs h.1)

  -- ---- where the way down ends
  module _ (all : List Tree) where
    -- of two parts, each with a leaf of c where its own number says
    part_leaf : (p q : Bool) (x y : ℕ) (bs cs : List Binding) → Counted (f c) p bs → Counted (f c) q cs → either p q ≡ true
        → (p ≡ true → get_or all x absent ≡ leaf c bs) → (q ≡ true → get_or all y absent ≡ leaf c cs) → get_or all (pick p x y) absent ≡ leaf c (or_else bs cs)
    part_leaf true q x y bs cs h g e k l = k refl ∙ ap (leaf c) (sym (or_else_first (f c) true q bs cs h g refl))
    part_leaf false q x y bs cs h g e k l = l e ∙ ap (leaf c) (sym (or_else_second (f c) false q bs cs h refl))

    mutual
      unfolding descent has_leaf first_bindings subtrees nodes_in BindCounts Plain

      first_there : (a : Tree) (k : ℕ) → Plain a → BindCounts f a → Within all k (subtrees a) → has_leaf c a ≡ true
          → get_or all (descent never c k a) absent ≡ leaf c (first_bindings c a)
      first_there absent k pl n w h = absurd (false≢true h)
      first_there (leaf d bs) k pl n w h =
          within_first all k (leaf d bs) (omega arith) w ∙ ap₂ leaf (sym (eqb-true c d h)) (sym (ap (λ b. elim b as (λ x. List Binding) [ true ↦ bs | false ↦ [] ]) h))
      first_there (hoist d bs a) k pl n w h = absurd pl
      first_there (switch p cs d) k pl n w h =
          let k₂ = k + 1 + nodes_in_of cs in
          let below = within_right all k (k + 1) (switch p cs d ∷ []) (subtrees_of cs ++ subtrees d) refl w in
          part_leaf (has_leaf c d) (has_leaf_of c cs) (descent never c k₂ d) (descent_of never c (k + 1) cs k) (first_bindings c d) (first_bindings_of c cs)
          (counted d n.1) (counted_of cs n.0) (either_turn (has_leaf c d) (has_leaf_of c cs) ∙ h)
          (λ x. first_there d k₂ pl.1 n.1 (within_right all (k + 1) k₂ (subtrees_of cs) (subtrees d) (omega (arith, length_subtrees_of cs)) below) x)
          (λ x. first_there_of cs (k + 1) k pl.0 n.0 (within_left all (k + 1) (subtrees_of cs) (subtrees d) below) x)
      first_there (listswitch p cs ts d) k pl n w h =
          let k₂ = k + 1 + nodes_in_of cs in
          let k₃ = k₂ + nodes_in_of ts in
          let below = within_right all k (k + 1) (listswitch p cs ts d ∷ []) (subtrees_of cs ++ (subtrees_of ts ++ subtrees d)) refl w in
          let after = within_right all (k + 1) k₂ (subtrees_of cs) (subtrees_of ts ++ subtrees d) (omega (arith, length_subtrees_of cs)) below in
          let z = descent_of never c k₂ ts k in
          part_leaf (has_leaf c d) (either (has_leaf_of c cs) (has_leaf_of c ts)) (descent never c k₃ d) (descent_of never c (k + 1) cs z)
          (first_bindings c d) (or_else (first_bindings_of c cs) (first_bindings_of c ts))
          (counted d n.2)
          (counted_or_else (f c) (has_leaf_of c cs) (has_leaf_of c ts) (first_bindings_of c cs) (first_bindings_of c ts) (counted_of cs n.0) (counted_of ts n.1))
          (either_turn (has_leaf c d) (either (has_leaf_of c cs) (has_leaf_of c ts)) ∙ either_assoc (has_leaf_of c cs) (has_leaf_of c ts) (has_leaf c d) ∙ h)
          (λ x. first_there d k₃ pl.2 n.2 (within_right all k₂ k₃ (subtrees_of ts) (subtrees d) (omega (arith, length_subtrees_of ts)) after) x)
          (λ e.
          rw (descent_of_pick never c (k + 1) cs z)
          (part_leaf (has_leaf_of c cs) (has_leaf_of c ts) (descent_of never c (k + 1) cs 0) z (first_bindings_of c cs) (first_bindings_of c ts)
          (counted_of cs n.0) (counted_of ts n.1) e
          (λ x. first_there_of cs (k + 1) 0 pl.0 n.0 (within_left all (k + 1) (subtrees_of cs) (subtrees_of ts ++ subtrees d) below) x)
          (λ x. first_there_of ts k₂ k pl.1 n.1 (within_left all k₂ (subtrees_of ts) (subtrees d) after) x)))

      first_there_of : (cs : Cases) (k z : ℕ) → PlainOf cs → BindCountsOf f cs → Within all k (subtrees_of cs) → has_leaf_of c cs ≡ true
          → get_or all (descent_of never c k cs z) absent ≡ leaf c (first_bindings_of c cs)
      first_there_of cnil k z pl n w h = absurd (false≢true h)
      first_there_of (ccons t at a cs) k z pl n w h =
          let k₂ = k + nodes_in a in
          part_leaf (has_leaf c a) (has_leaf_of c cs) (descent never c k a) (descent_of never c k₂ cs z) (first_bindings c a) (first_bindings_of c cs)
          (counted a n.0) (counted_of cs n.1) h
          (λ x. first_there a k pl.0 n.0 (within_left all k (subtrees a) (subtrees_of cs) w) x)
          (λ x. first_there_of cs k₂ z pl.1 n.1 (within_right all k k₂ (subtrees a) (subtrees_of cs) (omega (arith, length_subtrees a)) w) x)

-- THEOREM: the first leaf in building order is a leaf of the clause with the bindings of its hoist
pub first_leaf : (f : ℕ → ℕ) (c : ℕ) (a : Tree) → Plain a → BindCounts f a → has_leaf c a ≡ true → subtree_at a (first_number c 0 a) ≡ leaf c (first_bindings c a)
unfolding subtree_at first_number
first_leaf f c a pl n h = first_there f c (subtrees a) a 0 pl n (within_all a) h
