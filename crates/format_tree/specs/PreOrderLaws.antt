-- The rules' pre-order, which reads the nodes against a list of awaited children, is the pre-order of PreOrder, which has no list;
-- and what a loop that looks for the end of a subtree, or compares neighbouring children, uses.
use Rattle.std.specs.Prelude.{◌≡◌, Bool, false, ◌⊎◌, eqb, ltb}
use Rattle.std.proofs.Math.Path.{refl, sym, ap}
use Rattle.std.proofs.Common.{◌∙◌, inl, inr, ⊎_elim}
use Rattle.std.proofs.Math.Bool.{true}
use mathlib.Core.List.{List, [], ◌∷◌, ◌++◌}
use Prim.Native.Nat.{ℕ, zero, suc, ◌+◌, ◌-◌, ◌≤◌, ◌<◌}
use native.Mathlib.Omega.{arith}
use borrow.Author.Tests.{eqb-true, eq-eqb, ltb-true, lt-ltb, le-ltb}
use Rattle.base_words.specs.Words.{both}
use Rattle.base_words.specs.WordsLaws.{both_true, both_make}
use Rattle.spec_rules.specs.Searching.{every}
use Rattle.spec_rules.specs.SearchingLaws.{every_true, every_make}
use Rattle.spec_rules.specs.TreeReader.{nodes, node_children, in_pre_order, nodes_in_pre_order}
use Rattle.format_tree.specs.PreOrder.{last_from, last_child, end_from, end_of, chained, children_follow, all_follow, AllBelow}

false_not_true : false ≡ true → ⊥
false_not_true e = let z : ◌≡◌ {A = ℕ} 0 1 = cc in omega arith

-- k is less than n, or it is not
less_or_not : (k n : ℕ) → (k < n) ⊎ (n ≤ k)
less_or_not k n = go (n - k) refl
  where
    go : (d : ℕ) → n - k ≡ d → (k < n) ⊎ (n ≤ k)
    go zero e = inr (omega arith)
    go (suc d) e = inl (omega arith)

last_from_in : (n c : ℕ) (cs : List ℕ) → c < n → AllBelow n cs → last_from c cs < n
unfolding last_from
last_from_in n c [] h below = h
last_from_in n c (d ∷ ds) h below = last_from_in n d ds below.0 below.1

-- the last child opens one level of an end
end_step : ℕ → List ℕ → ℕ → Bool → ℕ
end_step deep t k b = elim b [ true ↦ end_from deep t (last_child t k) | false ↦ k + 1 ]

end_next : (deep : ℕ) (t : List ℕ) (k : ℕ) → end_from (suc deep) t k ≡ end_step deep t k (ltb k (last_child t k))
unfolding end_from end_step
end_next deep t k = refl

end_higher : (deep : ℕ) (t : List ℕ) (k : ℕ) → k < last_child t k → end_from (suc deep) t k ≡ end_from deep t (last_child t k)
unfolding end_step
end_higher deep t k h = end_next deep t k ∙ ap (end_step deep t k) (lt-ltb k (last_child t k) h)

end_here : (deep : ℕ) (t : List ℕ) (k : ℕ) → last_child t k ≤ k → end_from deep t k ≡ k + 1
unfolding end_step end_from
end_here zero t k h = refl
end_here (suc deep) t k h = end_next deep t k ∙ ap (end_step deep t k) (le-ltb k (last_child t k) h)

pub end_at_leaf : (t : List ℕ) (k : ℕ) → last_child t k ≤ k → end_of t k ≡ k + 1
unfolding end_of
end_at_leaf t k h = end_here (nodes t) t k h

module _ (t : List ℕ) (inside : (k : ℕ) → k < nodes t → AllBelow (nodes t) (node_children t k)) where
  pub last_in : (k : ℕ) → k < nodes t → last_child t k < nodes t
  unfolding last_child
  last_in k h = last_from_in (nodes t) k (node_children t k) h (inside k h)

  -- ---- ends
  -- enough depth is enough
  end_deep : (d e k : ℕ) → k < nodes t → nodes t ≤ k + d → nodes t ≤ k + e → end_from d t k ≡ end_from e t k
  end_deep zero e k h hd he = absurd (omega arith)
  end_deep (suc d) zero k h hd he = absurd (omega arith)
  end_deep (suc d) (suc e) k h hd he =
      ⊎_elim
      (λ l. end_higher d t k l ∙ end_deep d e (last_child t k) (last_in k h) (omega arith) (omega arith) ∙ sym (end_higher e t k l))
      (λ g. end_here (suc d) t k g ∙ sym (end_here (suc e) t k g))
      (less_or_not k (last_child t k))

  pub end_of_last : (k : ℕ) → k < nodes t → k < last_child t k → end_of t k ≡ end_of t (last_child t k)
  unfolding end_of
  end_of_last k h l = go (nodes t) refl
    where
      go : (n : ℕ) → nodes t ≡ n → end_from (nodes t) t k ≡ end_from (nodes t) t (last_child t k)
      go zero e = absurd (omega arith)
      go (suc n) e =
          ap (λ (d : ℕ). end_from d t k) e ∙ end_higher n t k l ∙ end_deep n (nodes t) (last_child t k) (last_in k h) (omega arith) (omega arith)

  end_bounds : (n k : ℕ) → k < nodes t → nodes t ≤ k + n → (k < end_of t k) × (end_of t k ≤ nodes t)
  end_bounds zero k h hn = absurd (omega arith)
  end_bounds (suc n) k h hn =
      ⊎_elim
      (λ l.
      let e = end_of_last k h l in
      let b = end_bounds n (last_child t k) (last_in k h) (omega arith) in
      (omega (arith, b.0), omega (arith, b.1)))
      (λ g. let e = end_at_leaf t k g in (omega arith, omega arith))
      (less_or_not k (last_child t k))

  pub end_above : (k : ℕ) → k < nodes t → k < end_of t k
  end_above k h = (end_bounds (nodes t) k h (omega arith)).0

  pub end_in : (k : ℕ) → k < nodes t → end_of t k ≤ nodes t
  end_in k h = (end_bounds (nodes t) k h (omega arith)).1

  -- ---- children, each where the one before it ends
  -- where the last of cs ends; e where there is none
  end_after : ℕ → List ℕ → ℕ
  end_after e [] = e
  end_after e (c ∷ cs) = end_after (end_of t c) cs

  end_after_last : (c : ℕ) (cs : List ℕ) → end_after (end_of t c) cs ≡ end_of t (last_from c cs)
  unfolding end_after last_from
  end_after_last c [] = refl
  end_after_last c (d ∷ ds) = end_after_last d ds

  chained_cons : (e c : ℕ) (cs : List ℕ) → chained t e (c ∷ cs) ≡ true → (c ≡ e) × (chained t (end_of t c) cs ≡ true)
  unfolding chained
  chained_cons e c cs h = let p = both_true (eqb c e) (chained t (end_of t c) cs) h in (eqb-true c e p.0, p.1)

  -- chained children rise
  last_rises : (c : ℕ) (cs : List ℕ) → c < nodes t → AllBelow (nodes t) cs → chained t (end_of t c) cs ≡ true → c ≤ last_from c cs
  unfolding last_from
  last_rises c [] h below x = omega arith
  last_rises c (d ∷ ds) h below x =
      let p = chained_cons (end_of t c) d ds x in
      omega (arith, p.0, end_above c h, last_rises d ds below.0 below.1 p.1)

  -- a node ends where its children do
  children_end : (k : ℕ) (cs : List ℕ) → node_children t k ≡ cs → k < nodes t → AllBelow (nodes t) cs → chained t (k + 1) cs ≡ true
      → end_after (k + 1) cs ≡ end_of t k
  unfolding end_after last_child last_from
  children_end k [] e h below x = sym (end_at_leaf t k (rw e (omega arith)))
  children_end k (c ∷ cs) e h below x =
      let p = chained_cons (k + 1) c cs x in
      let l : last_child t k ≡ last_from c cs = rw e in
      let r = last_rises c cs below.0 below.1 p.1 in
      end_after_last c cs ∙ ap (end_of t) (sym l) ∙ sym (end_of_last k h (omega (arith, p.0)))

  -- ---- reading against awaited children
  read_one : (k : ℕ) (cs : List ℕ) → k < nodes t
      → in_pre_order t k (nodes t - k) (k ∷ cs) ≡ in_pre_order t (k + 1) (nodes t - (k + 1)) (node_children t k ++ cs)
  unfolding in_pre_order
  read_one k cs h =
      let d : nodes t - k ≡ suc (nodes t - (k + 1)) = omega arith in
      rw (d, in_pre_order, eq-eqb k k refl)

  -- where every node's children follow, a subtree is read up to its end
  forest_read : (k : ℕ)
      → ((c : ℕ) → k < c → c < nodes t → (cs : List ℕ) → in_pre_order t c (nodes t - c) (c ∷ cs) ≡ in_pre_order t (end_of t c) (nodes t - end_of t c) cs)
      → (ds : List ℕ) (e : ℕ) → k < e → AllBelow (nodes t) ds → chained t e ds ≡ true → (cs : List ℕ)
      → in_pre_order t e (nodes t - e) (ds ++ cs) ≡ in_pre_order t (end_after e ds) (nodes t - end_after e ds) cs
  unfolding end_after
  forest_read k ih [] e h below x cs = refl
  forest_read k ih (d ∷ ds) e h below x cs =
      let p = chained_cons e d ds x in
      let f = p.0 in
      ap (λ (i : ℕ). in_pre_order t i (nodes t - i) (d ∷ ds ++ cs)) (sym f)
      ∙ ih d (omega arith) below.0 (ds ++ cs)
      ∙ forest_read k ih ds (end_of t d) (omega (arith, end_above d below.0)) below.1 p.1 cs

  subtree_read : (n : ℕ) → ((j : ℕ) → j < nodes t → children_follow t j ≡ true) → (k : ℕ) → k < nodes t → nodes t ≤ k + n → (cs : List ℕ)
      → in_pre_order t k (nodes t - k) (k ∷ cs) ≡ in_pre_order t (end_of t k) (nodes t - end_of t k) cs
  unfolding children_follow
  subtree_read zero good k h hn cs = absurd (omega arith)
  subtree_read (suc n) good k h hn cs =
      let e = children_end k (node_children t k) refl h (inside k h) (good k h) in
      read_one k cs h
      ∙ forest_read k (λ c l q. subtree_read n good c q (omega arith)) (node_children t k) (k + 1) (omega arith) (inside k h) (good k h) cs
      ∙ ap (λ (i : ℕ). in_pre_order t i (nodes t - i) cs) e

  -- a subtree that is read has the children of each of its nodes follow
  abbrev FollowFrom : ℕ → ℕ → Type 0
  FollowFrom i e = (j : ℕ) → i ≤ j → j < e → children_follow t j ≡ true

  follow_join : (i m e : ℕ) → FollowFrom i m → FollowFrom m e → FollowFrom i e
  follow_join i m e f g j low high = ⊎_elim (λ l. f j low l) (λ l. g j l high) (less_or_not j m)

  read_first : (e c : ℕ) (cs : List ℕ) → in_pre_order t e (nodes t - e) (c ∷ cs) ≡ true → (e < nodes t) × (c ≡ e)
  unfolding in_pre_order
  read_first e c cs h = go (nodes t - e) refl
    where
      go : (n : ℕ) → nodes t - e ≡ n → (e < nodes t) × (c ≡ e)
      go zero d = absurd (false_not_true (rw d at h))
      go (suc n) d =
          let x : both (eqb c e) (in_pre_order t (e + 1) n (node_children t e ++ cs)) ≡ true = rw d at h in
          (omega arith, eqb-true c e (both_true (eqb c e) (in_pre_order t (e + 1) n (node_children t e ++ cs)) x).0)

  -- what reading the children ds from e on, and then cs, shows
  abbrev Forest : ℕ → List ℕ → List ℕ → Type 0
  Forest e ds cs = (chained t e ds ≡ true) × FollowFrom e (end_after e ds) × (in_pre_order t (end_after e ds) (nodes t - end_after e ds) cs ≡ true)

  abbrev Subtree : ℕ → List ℕ → Type 0
  Subtree k cs = FollowFrom k (end_of t k) × (in_pre_order t (end_of t k) (nodes t - end_of t k) cs ≡ true)

  forest_follows : (k : ℕ)
      → ((c : ℕ) → k < c → c < nodes t → (cs : List ℕ) → in_pre_order t c (nodes t - c) (c ∷ cs) ≡ true → Subtree c cs)
      → (ds : List ℕ) (e : ℕ) → k < e → (cs : List ℕ) → in_pre_order t e (nodes t - e) (ds ++ cs) ≡ true → Forest e ds cs
  unfolding end_after chained
  forest_follows k ih [] e h cs x = (refl, λ j low high. absurd (omega arith), x)
  forest_follows k ih (d ∷ ds) e h cs x =
      let p = read_first e d (ds ++ cs) x in
      let q = p.1 in
      let y : in_pre_order t d (nodes t - d) (d ∷ ds ++ cs) ≡ true = ap (λ (i : ℕ). in_pre_order t i (nodes t - i) (d ∷ ds ++ cs)) q ∙ x in
      let in_nodes : d < nodes t = omega (arith, p.0) in
      let s = ih d (omega arith) in_nodes (ds ++ cs) y in
      let r = forest_follows k ih ds (end_of t d) (omega (arith, end_above d in_nodes)) cs s.1 in (
        both_make (eqb d e) (chained t (end_of t d) ds) (eq-eqb d e q) r.0,
        follow_join e (end_of t d) (end_after (end_of t d) ds) (λ j low high. s.0 j (omega arith) high) r.1,
        r.2,
      )

  subtree_follows : (n k : ℕ) → k < nodes t → nodes t ≤ k + n → (cs : List ℕ) → in_pre_order t k (nodes t - k) (k ∷ cs) ≡ true → Subtree k cs
  unfolding children_follow
  subtree_follows zero k h hn cs x = absurd (omega arith)
  subtree_follows (suc n) k h hn cs x =
      let r = forest_follows k (λ c l q ds y. subtree_follows n c q (omega arith) ds y) (node_children t k) (k + 1) (omega arith) cs (sym (read_one k cs h) ∙ x) in
      let e = children_end k (node_children t k) refl h (inside k h) r.0 in (
        follow_join k (k + 1) (end_of t k) (λ j low high. let d : j ≡ k = omega arith in rw d r.0) (λ j low high. r.1 j low (omega arith)),
        ap (λ (i : ℕ). in_pre_order t i (nodes t - i) cs) (sym e) ∙ r.2,
      )

  -- ---- the two say the same
  follow_reads : all_follow t ≡ true → nodes_in_pre_order t ≡ true
  unfolding all_follow nodes_in_pre_order in_pre_order
  follow_reads x =
      let p = both_true (ltb 0 (nodes t)) (both (every (children_follow t) 0 (nodes t)) (eqb (end_of t 0) (nodes t))) x in
      let q = both_true (every (children_follow t) 0 (nodes t)) (eqb (end_of t 0) (nodes t)) p.1 in
      let some = ltb-true 0 (nodes t) p.0 in
      let end = eqb-true (end_of t 0) (nodes t) q.1 in
      let s = subtree_read (nodes t) (λ j h. every_true (children_follow t) 0 (nodes t) q.0 j (omega arith) (omega arith)) 0 some (omega arith) [] in
      let d : nodes t - 0 ≡ nodes t = omega arith in
      let z : nodes t - end_of t 0 ≡ 0 = omega arith in
      ap (λ (n : ℕ). in_pre_order t 0 n (0 ∷ [])) (sym d) ∙ s ∙ ap (λ (n : ℕ). in_pre_order t (end_of t 0) n []) z

  nothing_left : (e n : ℕ) → in_pre_order t e n [] ≡ true → n ≡ 0
  unfolding in_pre_order
  nothing_left e zero h = refl
  nothing_left e (suc n) h = absurd (false_not_true h)

  reads_follow : nodes_in_pre_order t ≡ true → all_follow t ≡ true
  unfolding all_follow nodes_in_pre_order
  reads_follow x =
      let d : nodes t - 0 ≡ nodes t = omega arith in
      let y : in_pre_order t 0 (nodes t - 0) (0 ∷ []) ≡ true = ap (λ (n : ℕ). in_pre_order t 0 n (0 ∷ [])) d ∙ x in
      let some = (read_first 0 0 [] y).0 in
      let s = subtree_follows (nodes t) 0 some (omega arith) [] y in
      let z = nothing_left (end_of t 0) (nodes t - end_of t 0) s.1 in
      let end : end_of t 0 ≡ nodes t = omega (arith, end_in 0 some) in
      both_make (ltb 0 (nodes t)) (both (every (children_follow t) 0 (nodes t)) (eqb (end_of t 0) (nodes t))) (lt-ltb 0 (nodes t) some)
      (both_make (every (children_follow t) 0 (nodes t)) (eqb (end_of t 0) (nodes t))
      (every_make (children_follow t) 0 (nodes t) (λ j low high. s.0 j low (omega arith)))
      (eq-eqb (end_of t 0) (nodes t) end))

  pub pre_order_is : nodes_in_pre_order t ≡ all_follow t
  pre_order_is = go (nodes_in_pre_order t) (all_follow t) refl refl
    where
      go : (a b : Bool) → nodes_in_pre_order t ≡ a → all_follow t ≡ b → nodes_in_pre_order t ≡ all_follow t
      go true b x y = x ∙ sym (reads_follow x)
      go false true x y = follow_reads y ∙ sym y
      go false false x y = x ∙ sym y
