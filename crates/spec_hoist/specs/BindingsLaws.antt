-- Rule 5: a clause's hoist has the bindings of one of its leaves. What that says of all hoists, and of the bindings that 13 counts, is in
-- proofs/BindingsLaws.antt.
use Rattle.std.specs.Prelude.{◌≡◌, ◌⊎◌, Bool, length, eqb}
use Rattle.std.proofs.Math.Path.{refl}
use Rattle.std.proofs.Common.{sym, ap, ◌∙◌, subst, inl, inr, ⊎_elim, true≢false, arith, eqb-true, eq-eqb}
use Rattle.std.proofs.Math.Bool.{true, false}
use Rattle.std.proofs.lemmas.Bool.{false≢true}
use mathlib.Core.List.{List, [], ◌∷◌, ◌++◌}
use Prim.Native.Nat.{ℕ}
use Rattle.base_words.specs.Words.{either}
use Rattle.spec_rules.specs.Rows.{Binding}
use Rattle.spec_rules.specs.Building.{Tree, Cases, absent, leaf, hoist, switch, listswitch, cnil, ccons}
use Rattle.spec_rules.specs.Hoisting.{or_else, first_bindings, first_bindings_of, has_leaf, has_leaf_of}
use Rattle.spec_hoist.specs.Trees.{Leaf, leaf_with, leaves_of, leaves_of_each, Among, EachLeaf, total, SameBindings}

-- ---- leaves of one part or another
among_left : (x : Leaf) (xs ys : List Leaf) → Among x xs → Among x (xs ++ ys)
among_left x [] ys h = absurd h
among_left x (y ∷ xs) ys (inl e) = inl e
among_left x (y ∷ xs) ys (inr h) = inr (among_left x xs ys h)

among_right : (x : Leaf) (xs ys : List Leaf) → Among x ys → Among x (xs ++ ys)
among_right x [] ys h = h
among_right x (y ∷ xs) ys h = inr (among_right x xs ys h)

among_split : (x : Leaf) (xs ys : List Leaf) → Among x (xs ++ ys) → Among x xs ⊎ Among x ys
among_split x [] ys h = inr h
among_split x (y ∷ xs) ys (inl e) = inl (inl e)
among_split x (y ∷ xs) ys (inr h) = ⊎_elim (λ k. inl (inr k)) (λ k. inr k) (among_split x xs ys h)

-- ---- the first leaf that binds something
no_bindings : (b : Binding) (bs : List Binding) → b ∷ bs ≡ [] → ⊥
no_bindings b bs e = let z : ◌≡◌ {A = ℕ} 0 1 = cc in omega arith

or_else_both : (xs ys : List Binding) → or_else xs ys ≡ [] → (xs ≡ []) × (ys ≡ [])
unfolding or_else
or_else_both [] ys e = (refl, e)
or_else_both (x ∷ xs) ys e = absurd (no_bindings x xs e)

-- the bindings bs are those of a leaf of c in the list, if there is one (as b says), and else none
First : ℕ → Bool → List Binding → List Leaf → Type 0
First c b bs xs = (b ≡ true → Among (leaf_with c bs) xs) × (b ≡ false → bs ≡ [])

first_more : (c : ℕ) (b : Bool) (bs : List Binding) (xs ys : List Leaf) → ((x : Leaf) → Among x xs → Among x ys) → First c b bs xs → First c b bs ys
unfolding First
first_more c b bs xs ys f h = (λ e. f (leaf_with c bs) (h.0 e), h.1)

-- of two parts the first is asked first
first_or_else : (c : ℕ) (a b : Bool) (bs cs : List Binding) (xs : List Leaf) → First c a bs xs → First c b cs xs → First c (either a b) (or_else bs cs) xs
unfolding First or_else
first_or_else c true b [] cs xs h k = (λ e. go b refl, λ e. absurd (true≢false e))
  where
    go : (z : Bool) → b ≡ z → Among (leaf_with c cs) xs
    go true e = k.0 e
    go false e = subst (λ z. Among (leaf_with c z) xs) (sym (k.1 e)) (h.0 refl)
first_or_else c true b (x ∷ bs) cs xs h k = (λ e. h.0 refl, λ e. absurd (true≢false e))
first_or_else c false b [] cs xs h k = k
first_or_else c false b (x ∷ bs) cs xs h k = absurd (no_bindings x bs (h.1 refl))

first_leaf : (c k : ℕ) (bs : List Binding) (b : Bool) → (b ≡ true → c ≡ k) → First c b (elim b [ true ↦ bs | false ↦ [] ]) (leaf_with k bs ∷ [])
unfolding First
first_leaf c k bs true h = (λ e. inl (λ i. leaf_with (h refl i) bs), λ e. absurd (true≢false e))
first_leaf c k bs false h = (λ e. absurd (false≢true e), λ e. refl)

first_none : (c : ℕ) → First c false [] []
unfolding First
first_none c = (λ e. false≢true e, λ e. refl)

-- the default is built first and listed last
first_two : (c : ℕ) (b d : Bool) (bs ds : List Binding) (xs ys : List Leaf) → First c b bs xs → First c d ds ys → First c (either b d) (or_else ds bs) (xs ++ ys)
first_two c b d bs ds xs ys h k =
    subst (λ z. First c z (or_else ds bs) (xs ++ ys)) (turn d b)
    (first_or_else c d b ds bs (xs ++ ys) (first_more c d ds ys (xs ++ ys) (λ x. among_right x xs ys) k) (first_more c b bs xs (xs ++ ys) (λ x. among_left x xs ys) h))
  where
    turn : (x y : Bool) → either x y ≡ either y x
    turn true true = refl
    turn true false = refl
    turn false true = refl
    turn false false = refl

first_three : (c : ℕ) (b t d : Bool) (bs ts ds : List Binding) (xs ys zs : List Leaf) → First c b bs xs → First c t ts ys → First c d ds zs
    → First c (either b (either t d)) (or_else ds (or_else bs ts)) (xs ++ (ys ++ zs))
first_three c b t d bs ts ds xs ys zs f g h =
    subst (λ z. First c z (or_else ds (or_else bs ts)) (xs ++ (ys ++ zs))) (turn d b t)
    (first_or_else c d (either b t) ds (or_else bs ts) (xs ++ (ys ++ zs))
    (first_more c d ds zs (xs ++ (ys ++ zs)) (λ x m. among_right x xs (ys ++ zs) (among_right x ys zs m)) h)
    (first_or_else c b t bs ts (xs ++ (ys ++ zs))
    (first_more c b bs xs (xs ++ (ys ++ zs)) (λ x. among_left x xs (ys ++ zs)) f)
    (first_more c t ts ys (xs ++ (ys ++ zs)) (λ x m. among_right x xs (ys ++ zs) (among_left x ys zs m)) g)))
  where
    turn : (x y z : Bool) → either x (either y z) ≡ either y (either z x)
    turn true true z = refl
    turn true false true = refl
    turn true false false = refl
    turn false true z = refl
    turn false false true = refl
    turn false false false = refl

mutual
  unfolding first_bindings has_leaf leaves_of

  -- the first bindings of c in a tree are those of one of its leaves, or none where it has no leaf
  first_in : (c : ℕ) (a : Tree) → First c (has_leaf c a) (first_bindings c a) (leaves_of a)
  first_in c absent = first_none c
  first_in c (leaf k bs) = first_leaf c k bs (eqb c k) (eqb-true c k)
  first_in c (hoist k bs a) = first_in c a
  first_in c (switch p cs d) =
      first_two c (has_leaf_of c cs) (has_leaf c d) (first_bindings_of c cs) (first_bindings c d) (leaves_of_each cs) (leaves_of d) (first_in_of c cs) (first_in c d)
  first_in c (listswitch p cs ts d) =
      first_three c (has_leaf_of c cs) (has_leaf_of c ts) (has_leaf c d) (first_bindings_of c cs) (first_bindings_of c ts) (first_bindings c d)
      (leaves_of_each cs) (leaves_of_each ts) (leaves_of d) (first_in_of c cs) (first_in_of c ts) (first_in c d)

  first_in_of : (c : ℕ) (cs : Cases) → First c (has_leaf_of c cs) (first_bindings_of c cs) (leaves_of_each cs)
  first_in_of c cnil = first_none c
  first_in_of c (ccons t at a cs) =
      first_or_else c (has_leaf c a) (has_leaf_of c cs) (first_bindings c a) (first_bindings_of c cs) (leaves_of a ++ leaves_of_each cs)
      (first_more c (has_leaf c a) (first_bindings c a) (leaves_of a) (leaves_of a ++ leaves_of_each cs) (λ x. among_left x (leaves_of a) (leaves_of_each cs)) (first_in c a))
      (first_more c (has_leaf_of c cs) (first_bindings_of c cs) (leaves_of_each cs) (leaves_of a ++ leaves_of_each cs) (λ x. among_right x (leaves_of a) (leaves_of_each cs)) (first_in_of c cs))

-- THEOREM: the bindings of a clause's hoist are those of one of its leaves
pub first_bindings_leaf : (c : ℕ) (a : Tree) → has_leaf c a ≡ true → Among (leaf_with c (first_bindings c a)) (leaves_of a)
unfolding First
first_bindings_leaf c a h = (first_in c a).0 h

pub first_bindings_idle : (c : ℕ) (a : Tree) → has_leaf c a ≡ false → first_bindings c a ≡ []
unfolding First
first_bindings_idle c a h = (first_in c a).1 h

-- what holds of each leaf's bindings holds of the hoist's, and so up to order
pub first_bindings_as : (P : ℕ → List Binding → Type 0) (c : ℕ) (a : Tree) → EachLeaf P a → has_leaf c a ≡ true → P c (first_bindings c a)
first_bindings_as P c a f h = f (leaf_with c (first_bindings c a)) (first_bindings_leaf c a h)

-- ---- nothing, where each leaf of the clause binds nothing
one_empty : (c k : ℕ) (bs : List Binding) → ◌≡◌ {A = List Binding} (elim (eqb c k) [ true ↦ bs | false ↦ [] ]) [] → (x : Leaf) → (x ≡ leaf_with k bs) → c ≡ x.clause → x.bindings ≡ []
one_empty c k bs e x z y =
    let f : eqb c k ≡ true = eq-eqb c k (y ∙ ap (λ w. w.clause) z) in
    ap (λ w. w.bindings) z ∙ (rw f at e)

mutual
  unfolding first_bindings leaves_of

  -- THEOREM: it binds nothing only if each leaf of the clause binds nothing
  pub first_bindings_empty : (c : ℕ) (a : Tree) → first_bindings c a ≡ [] → (x : Leaf) → Among x (leaves_of a) → c ≡ x.clause → x.bindings ≡ []
  first_bindings_empty c absent e x m y = absurd m
  first_bindings_empty c (leaf k bs) e x m y = ⊎_elim (λ z. one_empty c k bs e x z y) (λ z. absurd z) m
  first_bindings_empty c (hoist k bs a) e x m y = first_bindings_empty c a e x m y
  first_bindings_empty c (switch p cs d) e x m y =
      let z = or_else_both (first_bindings c d) (first_bindings_of c cs) e in
      ⊎_elim (λ w. first_bindings_of_empty c cs z.1 x w y) (λ w. first_bindings_empty c d z.0 x w y) (among_split x (leaves_of_each cs) (leaves_of d) m)
  first_bindings_empty c (listswitch p cs ts d) e x m y =
      let z = or_else_both (first_bindings c d) (or_else (first_bindings_of c cs) (first_bindings_of c ts)) e in
      let v = or_else_both (first_bindings_of c cs) (first_bindings_of c ts) z.1 in
      ⊎_elim (λ w. first_bindings_of_empty c cs v.0 x w y)
      (λ u. ⊎_elim (λ w. first_bindings_of_empty c ts v.1 x w y) (λ w. first_bindings_empty c d z.0 x w y) (among_split x (leaves_of_each ts) (leaves_of d) u))
      (among_split x (leaves_of_each cs) (leaves_of_each ts ++ leaves_of d) m)

  first_bindings_of_empty : (c : ℕ) (cs : Cases) → first_bindings_of c cs ≡ [] → (x : Leaf) → Among x (leaves_of_each cs) → c ≡ x.clause → x.bindings ≡ []
  first_bindings_of_empty c cnil e x m y = absurd m
  first_bindings_of_empty c (ccons t at a cs) e x m y =
      let z = or_else_both (first_bindings c a) (first_bindings_of c cs) e in
      ⊎_elim (λ w. first_bindings_empty c a z.0 x w y) (λ w. first_bindings_of_empty c cs z.1 x w y) (among_split x (leaves_of a) (leaves_of_each cs) m)

-- ---- 13
-- THEOREM: hoisting adds the bindings of each clause's hoist
total_ones : (bs : List Binding) → total (λ b. 1) bs ≡ length bs
unfolding total
total_ones [] = refl
total_ones (b ∷ bs) = omega (arith, total_ones bs)

-- bindings that are the same in whatever order are as many
pub same_length : (bs cs : List Binding) → SameBindings bs cs → length bs ≡ length cs
same_length bs cs h = sym (total_ones bs) ∙ h (λ b. 1) ∙ total_ones cs
