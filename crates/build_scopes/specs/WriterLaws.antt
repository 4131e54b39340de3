-- What whoever writes the hoisted tree needs: the whole tree by the numbers that were found, the leaf with a hoist's bindings, and
-- where each node of the arena comes to stand among the nodes of the hoisted tree.
use Rattle.std.specs.Prelude.{◌≡◌, refl, Bool, true, false, List, ℕ, zero, suc, ◌+◌, ◌≤◌, ◌<◌, length, get_or}
use Rattle.std.proofs.Common.{sym, ap, ◌∙◌, arith, add-zero}
use Rattle.std.proofs.Math.Dec.{eqb, ltb}
use borrow.Author.Tests.{lt-ltb, le-ltb, eqb-true, eqb-false, ltb-true, ltb-false}
use Rattle.base_words.specs.WordsLaws.{pick_true}
use Rattle.spec_rules.specs.Limits.{clauses_most, nodes_most, bindings_most}
use Rattle.spec_rules.specs.Rows.{Path, Binding, bit}
use Rattle.spec_rules.specs.Searching.{times}
use Rattle.spec_rules.specs.Building.{Tree, Cases, absent, leaf, hoist, switch, listswitch, cnil, ccons}
use Rattle.spec_rules.specs.Hoisting.{first_bindings, hoist_all, nodes_in, nodes_in_of, bindings_in, has_leaf}
use Rattle.spec_hoist.specs.Trees.{Plain, PlainOf, is_present, WellMade, WellMadeOf}
use Rattle.spec_hoist.specs.Descent.{wrap_by}
use Rattle.spec_hoist.proofs.DescentLaws.{nodes_in_wrap_by}
use Rattle.spec_hoist.specs.WholeTreeLaws.{cases_in_less}
use Rattle.build_arena.specs.Arena.{arena_end, Held}
use Rattle.build_arena.specs.Numbered.{subtree_at}
use Rattle.build_arena.specs.NumberedLaws.{nodes_held}
use Rattle.build_scopes.specs.declared.Scopes.{Scopes}
use Rattle.build_scopes.specs.Numbers.{first_number, first_leaf_node, hoist_by_number, hoist_by_number_of, BindCounts}
use Rattle.build_scopes.specs.NumbersLaws.{hoist_all_number}
use Rattle.build_scopes.specs.FirstLeafLaws.{first_leaf}
use Rattle.build_scopes.specs.Marks.{ReadyTree}
use Rattle.build_scopes.specs.Scoped.{Scoped}

-- ---- a tree that is ready
mutual
  unfolding WellMade

  made_more : (m n : ℕ) (a : Tree) → m ≤ n → WellMade m a → WellMade n a
  made_more m n absent l h = tt
  made_more m n (leaf c bs) l h = omega (arith, h)
  made_more m n (hoist c bs a) l h = (omega (arith, h.0), h.1, made_more m n a l h.2)
  made_more m n (switch p cs d) l h = (h.0, made_more_of m n cs l h.1, made_more m n d l h.2)
  made_more m n (listswitch p cs ts d) l h = (h.0, made_more_of m n cs l h.1, made_more_of m n ts l h.2, made_more m n d l h.3)

  made_more_of : (m n : ℕ) (cs : Cases) → m ≤ n → WellMadeOf m cs → WellMadeOf n cs
  made_more_of m n cnil l h = tt
  made_more_of m n (ccons t at a cs) l h = (h.0, made_more m n a l h.1, made_more_of m n cs l h.2)

-- a plain, well made tree of at most 32 clauses, held in the arena within its room
pub ready_held : (w : List ℕ) (table : List Path) (a : Tree) (n : ℕ) → Held w table 0 0 0 a → arena_end ≤ length w → nodes_in a ≤ nodes_most → length (bindings_in a) ≤ bindings_most
    → Plain a → WellMade n a → n ≤ clauses_most → is_present a ≡ true → ReadyTree w a
ready_held w table a n h room nodes bindings plain made few there =
    record {
      table = table;
      nodes = nodes_held w table a h room nodes (omega (arith, cases_in_less n a made there)) bindings;
      plain = plain;
      made = made_more n clauses_most a few made;
      there = there;
    }

-- ---- the whole tree by the answer
-- THEOREM: hoisting each clause above the node that was found is rule 7
pub scoped_hoisted : (w : List ℕ) (a : Tree) (n : ℕ) (x : Scopes) → ReadyTree w a → Scoped a n x
    → hoist_all n a ≡ hoist_by_number (λ c. get_or x.node c 0) (λ c. first_bindings c a) n 0 a
scoped_hoisted w a n x r s =
    hoist_all_number (λ c. get_or x.node c 0) (λ c. first_bindings c a) n a r.plain r.nodes.nodes_most_holds s.node (λ c l. refl)

-- THEOREM: the bindings of a clause's hoist are those of the leaf that was found
pub scoped_leaf : (w : List ℕ) (f : ℕ → ℕ) (a : Tree) (n : ℕ) (x : Scopes) → ReadyTree w a → BindCounts f a → Scoped a n x → (c : ℕ) → c < n → has_leaf c a ≡ true
    → subtree_at a (get_or x.leaf c 0) ≡ leaf c (first_bindings c a)
unfolding first_leaf_node
scoped_leaf w f a n x r b s c l h =
    ap (subtree_at a) (s.leaf c l ∙ pick_true (has_leaf c a) (first_number c 0 a) nodes_most h) ∙ first_leaf f c a r.plain b h

-- ---- where nodes come to stand
-- how many of n clauses are hoisted above a node before k
unfoldable pub hoists_before : (ℕ → ℕ) → ℕ → ℕ → ℕ
unfolding times
hoists_before node n k = times (λ c. ltb (node c) k) 0 n

-- how many are hoisted above node k itself
unfoldable pub hoists_at : (ℕ → ℕ) → ℕ → ℕ → ℕ
unfolding times
hoists_at node n k = times (λ c. eqb (node c) k) 0 n

-- the number at which node k comes to stand, its hoists first
unfoldable pub stands_at : (ℕ → ℕ) → ℕ → ℕ → ℕ
unfolding hoists_before
stands_at node n k = k + hoists_before node n k

times_next : (f : ℕ → Bool) (i n : ℕ) → times f i (suc n) ≡ bit (f i) + times f (i + 1) n
unfolding times bit
times_next f i n = go (f i) refl
  where
    go : (b : Bool) → f i ≡ b → times f i (suc n) ≡ bit (f i) + times f (i + 1) n
    go true e = rw (times, e) (omega arith)
    go false e = rw (times, e) (omega arith)

times_split : (f g h : ℕ → Bool) (i n : ℕ) → ((c : ℕ) → bit (f c) ≡ bit (g c) + bit (h c)) → times f i n ≡ times g i n + times h i n
unfolding times
times_split f g h i zero e = refl
times_split f g h i (suc n) e =
    omega (arith, times_next f i n, times_next g i n, times_next h i n, e i, times_split f g h (i + 1) n e)

times_never : (f : ℕ → Bool) (i n : ℕ) → ((c : ℕ) → f c ≡ false) → times f i n ≡ 0
unfolding times
times_never f i zero e = refl
times_never f i (suc n) e = rw (times, e i) (times_never f (i + 1) n e)

-- a number below k + 1 is below k, or k
below_or_at : (x k : ℕ) → bit (ltb x (k + 1)) ≡ bit (ltb x k) + bit (eqb x k)
unfolding bit
below_or_at x k = go (ltb x k) refl (eqb x k) refl
  where
    go : (a : Bool) → ltb x k ≡ a → (b : Bool) → eqb x k ≡ b → bit (ltb x (k + 1)) ≡ bit (ltb x k) + bit (eqb x k)
    go true l true e = absurd (omega (arith, ltb-true x k l, eqb-true x k e))
    go true l false e = let y = ltb-true x k l in rw (l, e, lt-ltb x (k + 1) (omega arith))
    go false l true e = let y = eqb-true x k e in rw (l, e, lt-ltb x (k + 1) (omega arith))
    go false l false e =
        let y = ltb-false x k l in
        let z : k + 1 ≤ x = omega (arith, eqb-false x k e) in
        rw (l, e, le-ltb x (k + 1) z)

module _ (node : ℕ → ℕ) (n : ℕ) where
  pub stands_first : stands_at node n 0 ≡ 0
  unfolding stands_at hoists_before
  stands_first = omega (arith, times_never (λ c. ltb (node c) 0) 0 n (λ c. le-ltb (node c) 0 (omega arith)))

  -- the next node stands behind this one, which stands behind its hoists
  pub stands_next : (k : ℕ) → stands_at node n (k + 1) ≡ stands_at node n k + hoists_at node n k + 1
  unfolding stands_at hoists_before hoists_at
  stands_next k =
      omega (arith, times_split (λ c. ltb (node c) (k + 1)) (λ c. ltb (node c) k) (λ c. eqb (node c) k) 0 n (λ c. below_or_at (node c) k))

  module _ (bs : ℕ → List Binding) where
    -- behind the hoists of node k and what is below them
    behind : (k m : ℕ) (a : Tree) → stands_at node n (k + 1) + m ≡ stands_at node n k + hoists_at node n k + nodes_in a
        → stands_at node n k + nodes_in (wrap_by (λ c. eqb (node c) k) bs 0 n a) ≡ stands_at node n (k + 1) + m
    unfolding hoists_at
    behind k m a e = omega (arith, nodes_in_wrap_by (λ c. eqb (node c) k) bs a 0 n)

    mutual
      unfolding hoist_by_number nodes_in Plain

      -- THEOREM: what follows a tree stands behind the hoisted tree
      pub hoisted_nodes : (k : ℕ) (a : Tree) → Plain a → stands_at node n k + nodes_in (hoist_by_number node bs n k a) ≡ stands_at node n (k + nodes_in a)
      hoisted_nodes k absent p = rw (add-zero (stands_at node n k), add-zero k)
      hoisted_nodes k (leaf c xs) p = behind k 0 (leaf c xs) (omega (arith, stands_next k)) ∙ add-zero (stands_at node n (k + 1))
      hoisted_nodes k (hoist c xs a) p = absurd p
      hoisted_nodes k (switch path cs d) p =
          let k₂ = k + 1 + nodes_in_of cs in
          let cs₂ = hoist_by_number_of node bs n (k + 1) cs in
          let d₂ = hoist_by_number node bs n k₂ d in
          let e : k + suc (nodes_in_of cs + nodes_in d) ≡ k₂ + nodes_in d = omega arith in
          behind k (nodes_in_of cs₂ + nodes_in d₂) (switch path cs₂ d₂) (omega (arith, stands_next k))
          ∙ omega (arith, hoisted_nodes_of (k + 1) cs p.0, hoisted_nodes k₂ d p.1)
          ∙ ap (stands_at node n) (sym e)
      hoisted_nodes k (listswitch path cs ts d) p =
          let k₂ = k + 1 + nodes_in_of cs in
          let k₃ = k₂ + nodes_in_of ts in
          let cs₂ = hoist_by_number_of node bs n (k + 1) cs in
          let ts₂ = hoist_by_number_of node bs n k₂ ts in
          let d₂ = hoist_by_number node bs n k₃ d in
          let e : k + suc (nodes_in_of cs + (nodes_in_of ts + nodes_in d)) ≡ k₃ + nodes_in d = omega arith in
          behind k (nodes_in_of cs₂ + (nodes_in_of ts₂ + nodes_in d₂)) (listswitch path cs₂ ts₂ d₂) (omega (arith, stands_next k))
          ∙ omega (arith, hoisted_nodes_of (k + 1) cs p.0, hoisted_nodes_of k₂ ts p.1, hoisted_nodes k₃ d p.2)
          ∙ ap (stands_at node n) (sym e)

      pub hoisted_nodes_of : (k : ℕ) (cs : Cases) → PlainOf cs → stands_at node n k + nodes_in_of (hoist_by_number_of node bs n k cs) ≡ stands_at node n (k + nodes_in_of cs)
      hoisted_nodes_of k cnil p = rw (add-zero (stands_at node n k), add-zero k)
      hoisted_nodes_of k (ccons t at a cs) p =
          let e : k + (nodes_in a + nodes_in_of cs) ≡ k + nodes_in a + nodes_in_of cs = omega arith in
          omega (arith, hoisted_nodes k a p.0, hoisted_nodes_of (k + nodes_in a) cs p.1) ∙ ap (stands_at node n) (sym e)
