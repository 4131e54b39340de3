-- A tree held in the arena is there node by node: each node's record is its subtree's, and a child's number is where the child is.
-- Rests on the laws of a tree held, opened one level.
use Rattle.std.specs.Prelude.{◌≡◌, refl, true, List, [], ◌∷◌, ◌++◌, ℕ, zero, suc, ◌+◌, ◌-◌, ◌*◌, ◌≤◌, ◌<◌, length, get_or}
use Rattle.std.proofs.Common.{sym, ap, ◌∙◌, subst, append_assoc, arith, add-zero, zero-add, length-append, get_or-append-add}
use Rattle.std.proofs.lemmas.Bool.{false≢true}
use Rattle.std.proofs.Math.ListN.{get_or-append}
use Rattle.spec_rules.specs.Limits.{nodes_most, bindings_most, case_size, binding_size}
use Rattle.spec_rules.specs.Kinds.{first_case_word, default_word, first_binding_word}
use Rattle.spec_rules.specs.Rows.{Path, Binding}
use Rattle.spec_rules.specs.Building.{Tree, Cases, absent, leaf, hoist, switch, listswitch, cnil, ccons}
use Rattle.spec_rules.specs.Hoisting.{how_many, nodes_in, nodes_in_of, bindings_in, bindings_in_of}
use Rattle.spec_rules.specs.TreeFile.{first_of, cases_in, cases_in_of, default_field, case_bytes, own_cases, bindings_bytes}
use Rattle.spec_file.specs.StandingLaws.{Stands}
use Rattle.spec_file.specs.TreeStands.{TreeStands}
use Rattle.spec_file.specs.TreeStandsLaws.{own_rest}
use Rattle.build_arena.specs.Arena.{cases_start, cases_most, bindings_start, arena_end, node_word, case_child, Held, HeldOf}
use Rattle.build_arena.specs.RecordsLaws.{node_held, own_first}
use Rattle.build_arena.specs.WritingLaws.{stands_nothing}
use Rattle.build_arena.specs.Numbered.{subtrees, subtrees_of, subtree_at, Within, Each, joined, is_switch, cases_under, default_under, case_at, nodes_before, AllThere, HeldAt, LeafNode, SwitchNode, ChildNode, Nodes}

-- ---- as many subtrees as nodes
mutual
  unfolding subtrees nodes_in

  pub length_subtrees : (a : Tree) → length (subtrees a) ≡ nodes_in a
  length_subtrees absent = refl
  length_subtrees (leaf c bs) = refl
  length_subtrees (hoist c bs a) = ap suc (length_subtrees a)
  length_subtrees (switch p cs d) = omega (arith, length-append (subtrees_of cs) (subtrees d), length_subtrees_of cs, length_subtrees d)
  length_subtrees (listswitch p cs ts d) =
      omega (
        arith,
        length-append (subtrees_of cs) (subtrees_of ts ++ subtrees d),
        length-append (subtrees_of ts) (subtrees d),
        length_subtrees_of cs,
        length_subtrees_of ts,
        length_subtrees d,
      )

  pub length_subtrees_of : (cs : Cases) → length (subtrees_of cs) ≡ nodes_in_of cs
  length_subtrees_of cnil = refl
  length_subtrees_of (ccons t at a cs) = omega (arith, length-append (subtrees a) (subtrees_of cs), length_subtrees a, length_subtrees_of cs)

-- a tree is its own first subtree
pub subtree_first : (a : Tree) → get_or (subtrees a) 0 absent ≡ a
unfolding subtrees
subtree_first absent = refl
subtree_first (leaf c bs) = refl
subtree_first (hoist c bs a) = refl
subtree_first (switch p cs d) = refl
subtree_first (listswitch p cs ts d) = refl

pub subtree_at_root : (a : Tree) → subtree_at a 0 ≡ a
unfolding subtree_at
subtree_at_root a = subtree_first a

-- ---- P of each
module _ (P : ℕ → Tree → Type 0) where
  pub each_append : (k j : ℕ) (xs ys : List Tree) → k + length xs ≡ j → Each P k xs → Each P j ys → Each P k (xs ++ ys)
  each_append k j [] ys e h g = let d : j ≡ k = omega arith in subst (λ z. Each P z ys) d g
  each_append k j (x ∷ xs) ys e h g = (h.0, each_append (k + 1) j xs ys (omega arith) h.1 g)

  pub each_at : (k : ℕ) (xs : List Tree) → Each P k xs → (j : ℕ) → j < length xs → P (k + j) (get_or xs j absent)
  each_at k [] h j l = absurd (omega arith)
  each_at k (x ∷ xs) h zero l = rw add-zero h.0
  each_at k (x ∷ xs) h (suc j) l =
      let e : k + 1 + j ≡ k + suc j = omega arith in
      subst (λ z. P z (get_or xs j absent)) e (each_at (k + 1) xs h.1 j (omega arith))

-- ---- parts of the subtrees
module _ (all : List Tree) where
  pub within_left : (j : ℕ) (xs ys : List Tree) → Within all j (xs ++ ys) → Within all j xs
  within_left j xs ys h =
      let l = length-append xs ys in
      record {
        inside = omega (arith, h.inside);
        same = λ i q. h.same i (omega arith) ∙ get_or-append xs ys absent i q;
      }

  pub within_right : (j k : ℕ) (xs ys : List Tree) → j + length xs ≡ k → Within all j (xs ++ ys) → Within all k ys
  within_right j k xs ys e h =
      let l = length-append xs ys in
      record {
        inside = omega (arith, h.inside);
        same = λ i q.
            let f : k + i ≡ j + (length xs + i) = omega arith in
            ap (λ z. get_or all z absent) f ∙ h.same (length xs + i) (omega arith) ∙ get_or-append-add xs ys i absent;
      }

  within_rest : (j : ℕ) (x : Tree) (xs : List Tree) → Within all j (x ∷ xs) → Within all (j + 1) xs
  within_rest j x xs h = within_right j (j + 1) (x ∷ []) xs refl h

  -- a tree that is there is where its subtrees begin
  pub within_first : (j : ℕ) (a : Tree) → 1 ≤ nodes_in a → Within all j (subtrees a) → get_or all j absent ≡ a
  within_first j a l h =
      ap (λ z. get_or all z absent) (sym (add-zero j)) ∙ h.same 0 (omega (arith, length_subtrees a)) ∙ subtree_first a

  pub within_inside : (j : ℕ) (a : Tree) → Within all j (subtrees a) → j + nodes_in a ≤ length all
  within_inside j a h = omega (arith, h.inside, length_subtrees a)

  abbrev Part : ℕ → Tree → Type 0
  Part j s = Within all j (subtrees s)

  mutual
    unfolding subtrees

    within_each : (a : Tree) (k : ℕ) → Within all k (subtrees a) → Each Part k (subtrees a)
    within_each absent k h = tt
    within_each (leaf c bs) k h = (h, tt)
    within_each (hoist c bs a) k h = (h, within_each a (k + 1) (within_rest k (hoist c bs a) (subtrees a) h))
    within_each (switch p cs d) k h =
        let r = within_rest k (switch p cs d) (subtrees_of cs ++ subtrees d) h in
        let k₂ = k + 1 + length (subtrees_of cs) in (
          h,
          each_append Part (k + 1) k₂ (subtrees_of cs) (subtrees d) refl (within_of_each cs (k + 1) (within_left (k + 1) (subtrees_of cs) (subtrees d) r))
              (within_each d k₂ (within_right (k + 1) k₂ (subtrees_of cs) (subtrees d) refl r)),
        )
    within_each (listswitch p cs ts d) k h =
        let rest = subtrees_of ts ++ subtrees d in
        let r = within_rest k (listswitch p cs ts d) (subtrees_of cs ++ rest) h in
        let k₂ = k + 1 + length (subtrees_of cs) in
        let k₃ = k₂ + length (subtrees_of ts) in
        let r₂ = within_right (k + 1) k₂ (subtrees_of cs) rest refl r in (
          h,
          each_append Part (k + 1) k₂ (subtrees_of cs) rest refl (within_of_each cs (k + 1) (within_left (k + 1) (subtrees_of cs) rest r))
              (each_append Part k₂ k₃ (subtrees_of ts) (subtrees d) refl (within_of_each ts k₂ (within_left k₂ (subtrees_of ts) (subtrees d) r₂))
              (within_each d k₃ (within_right k₂ k₃ (subtrees_of ts) (subtrees d) refl r₂))),
        )

    within_of_each : (cs : Cases) (k : ℕ) → Within all k (subtrees_of cs) → Each Part k (subtrees_of cs)
    within_of_each cnil k h = tt
    within_of_each (ccons t at a cs) k h =
        let k₂ = k + length (subtrees a) in
        each_append Part k k₂ (subtrees a) (subtrees_of cs) refl (within_each a k (within_left k (subtrees a) (subtrees_of cs) h))
        (within_of_each cs k₂ (within_right k k₂ (subtrees a) (subtrees_of cs) refl h))

pub within_all : (a : Tree) → Within (subtrees a) 0 (subtrees a)
within_all a = record { inside = omega arith; same = λ i q. ap (λ z. get_or (subtrees a) z absent) (zero-add i) }

-- the subtrees of the subtree at node j are those of the tree from j on
pub within_at : (a : Tree) (j : ℕ) → j < nodes_in a → Within (subtrees a) j (subtrees (subtree_at a j))
unfolding subtree_at
within_at a j l =
    subst (λ z. Within (subtrees a) z (subtrees (get_or (subtrees a) j absent))) (zero-add j)
    (each_at (Part (subtrees a)) 0 (subtrees a) (within_each (subtrees a) a 0 (within_all a)) j (omega (arith, length_subtrees a)))

-- ---- each node is held
module _ (w : List ℕ) (table : List Path) (cases bindings : ℕ) where
  abbrev At : ℕ → Tree → Type 0
  At j s = HeldAt w table cases bindings j s

  -- a tree or cases with these numbers for their first case and binding, and after the last
  abbrev Among : ℕ → ℕ → ℕ → ℕ → Type 0
  Among c m b n = (c + m ≤ cases) × (b + n ≤ bindings)

  at_node : (k c b : ℕ) (s : Tree) → Among c (cases_in s) b (length (bindings_in s)) → Held w table k c b s → At k s
  at_node k c b s i h = record { first_case = c; first_binding = b; cases_inside = i.0; bindings_inside = i.1; held = h }

  mutual
    unfolding subtrees cases_in bindings_in nodes_in TreeStands

    held_each : (a : Tree) (k c b : ℕ) → Among c (cases_in a) b (length (bindings_in a)) → Held w table k c b a → Each At k (subtrees a)
    held_each absent k c b i h = tt
    held_each (leaf x bs) k c b i h = (at_node k c b (leaf x bs) i h, tt)
    held_each (hoist x bs a) k c b i h =
        let l = length-append bs (bindings_in a) in
        (at_node k c b (hoist x bs a) i h, held_each a (k + 1) c (b + length bs) (omega (arith, i.0), omega (arith, i.1)) h.2)
    held_each (switch p cs d) k c b i h =
        let l = length-append (bindings_in_of cs) (bindings_in d) in
        let k₂ = k + 1 + nodes_in_of cs in (
          at_node k c b (switch p cs d) i h,
          each_append At (k + 1) k₂ (subtrees_of cs) (subtrees d) (omega (arith, length_subtrees_of cs))
              (held_of_each cs (k + 1) (c + how_many cs) b (omega (arith, i.0), omega (arith, i.1)) h.2)
              (held_each d k₂ (c + how_many cs + cases_in_of cs) (b + length (bindings_in_of cs)) (omega (arith, i.0), omega (arith, i.1)) h.3),
        )
    held_each (listswitch p cs ts d) k c b i h =
        let l = length-append (bindings_in_of cs) (bindings_in_of ts ++ bindings_in d) in
        let m = length-append (bindings_in_of ts) (bindings_in d) in
        let c₁ = c + how_many cs + how_many ts in
        let k₂ = k + 1 + nodes_in_of cs in
        let c₂ = c₁ + cases_in_of cs in
        let b₂ = b + length (bindings_in_of cs) in
        let k₃ = k₂ + nodes_in_of ts in (
          at_node k c b (listswitch p cs ts d) i h,
          each_append At (k + 1) k₂ (subtrees_of cs) (subtrees_of ts ++ subtrees d) (omega (arith, length_subtrees_of cs))
              (held_of_each cs (k + 1) c₁ b (omega (arith, i.0), omega (arith, i.1)) h.2)
              (each_append At k₂ k₃ (subtrees_of ts) (subtrees d) (omega (arith, length_subtrees_of ts))
              (held_of_each ts k₂ c₂ b₂ (omega (arith, i.0), omega (arith, i.1)) h.3)
              (held_each d k₃ (c₂ + cases_in_of ts) (b₂ + length (bindings_in_of ts)) (omega (arith, i.0), omega (arith, i.1)) h.4)),
        )

    held_of_each : (cs : Cases) (k c b : ℕ) → Among c (cases_in_of cs) b (length (bindings_in_of cs)) → HeldOf w table k c b cs → Each At k (subtrees_of cs)
    held_of_each cnil k c b i h = tt
    held_of_each (ccons t at a cs) k c b i h =
        let l = length-append (bindings_in a) (bindings_in_of cs) in
        each_append At k (k + nodes_in a) (subtrees a) (subtrees_of cs) (omega (arith, length_subtrees a))
        (held_each a k c b (omega (arith, i.0), omega (arith, i.1)) h.0)
        (held_of_each cs (k + nodes_in a) (c + cases_in a) (b + length (bindings_in a)) (omega (arith, i.0), omega (arith, i.1)) h.1)

-- THEOREM: a tree held from node 0 on is there node by node
pub nodes_held : (w : List ℕ) (table : List Path) (a : Tree) → Held w table 0 0 0 a → arena_end ≤ length w → nodes_in a ≤ nodes_most → cases_in a ≤ cases_most
    → length (bindings_in a) ≤ bindings_most → Nodes w table a
unfolding subtree_at
nodes_held w table a h r n c b =
    record {
      room = r;
      nodes_most_holds = n;
      cases_most_holds = c;
      bindings_most_holds = b;
      node = λ j l.
          subst (λ z. HeldAt w table (cases_in a) (length (bindings_in a)) z (get_or (subtrees a) j absent)) (zero-add j)
          (each_at (At w table (cases_in a) (length (bindings_in a))) 0 (subtrees a)
          (held_each w table (cases_in a) (length (bindings_in a)) a 0 0 0 (omega arith, omega arith) h) j (omega (arith, length_subtrees a)));
      within = within_at a;
    }

-- ---- cases with tail cases after them
pub how_many_joined : (cs ts : Cases) → how_many (joined cs ts) ≡ how_many cs + how_many ts
unfolding joined how_many
how_many_joined cnil ts = omega arith
how_many_joined (ccons t at a cs) ts = omega (arith, how_many_joined cs ts)

pub nodes_in_of_joined : (cs ts : Cases) → nodes_in_of (joined cs ts) ≡ nodes_in_of cs + nodes_in_of ts
unfolding joined nodes_in_of
nodes_in_of_joined cnil ts = omega arith
nodes_in_of_joined (ccons t at a cs) ts = omega (arith, nodes_in_of_joined cs ts)

subtrees_of_joined : (cs ts : Cases) → subtrees_of (joined cs ts) ≡ subtrees_of cs ++ subtrees_of ts
unfolding joined subtrees_of
subtrees_of_joined cnil ts = refl
subtrees_of_joined (ccons t at a cs) ts =
    ap (λ z. subtrees a ++ z) (subtrees_of_joined cs ts) ∙ sym (append_assoc (subtrees a) (subtrees_of cs) (subtrees_of ts))

own_cases_joined : (k j : ℕ) (cs ts : Cases) → k + nodes_in_of cs ≡ j → own_cases k (joined cs ts) ≡ own_cases k cs ++ own_cases j ts
unfolding joined own_cases nodes_in_of
own_cases_joined k j cnil ts e = let d : k ≡ j = omega arith in ap (λ z. own_cases z ts) d
own_cases_joined k j (ccons t at a cs) ts e =
    ap (λ z. case_bytes t at k ++ z) (own_cases_joined (k + nodes_in a) j cs ts (omega arith))
    ∙ sym (append_assoc (case_bytes t at k) (own_cases (k + nodes_in a) cs) (own_cases j ts))

pub all_there_joined : (cs ts : Cases) → AllThere cs → AllThere ts → AllThere (joined cs ts)
unfolding joined AllThere
all_there_joined cnil ts h g = g
all_there_joined (ccons t at a cs) ts h g = (h.0, all_there_joined cs ts h.1 g)

-- ---- "first 0 at count 0": an empty run stands anywhere
run_start : (w xs : List ℕ) (start size n first f : ℕ) → f ≡ first_of n first → (n ≡ 0 → xs ≡ []) → start ≤ length w → Stands w (start + size * first) xs
    → Stands w (start + size * f) xs
unfolding first_of
run_start w xs start size zero first f e z l s =
    let y : start + size * f ≡ start = rw e (omega arith) in
    rw (y, z refl) (stands_nothing w start l)
run_start w xs start size (suc n) first f e z l s = rw e s

no_bindings : (table : List Path) (bs : List Binding) → length bs ≡ 0 → bindings_bytes table bs ≡ []
unfolding bindings_bytes
no_bindings table [] e = refl
no_bindings table (b ∷ bs) e = absurd (omega arith)

no_cases : (k : ℕ) (cs : Cases) → how_many cs ≡ 0 → own_cases k cs ≡ []
unfolding own_cases how_many
no_cases k cnil e = refl
no_cases k (ccons t at a cs) e = absurd (omega arith)

first_inside : (n first f most more : ℕ) → f ≡ first_of n first → first + more ≤ most → n ≤ more → f + n ≤ most
unfolding first_of
first_inside zero first f most more e h l = omega arith
first_inside (suc n) first f most more e h l = omega arith

-- ---- a node as a leaf or a switch
pub leaf_node_lem : (w : List ℕ) (table : List Path) (cases bindings j x : ℕ) (bs : List Binding) → arena_end ≤ length w
    → HeldAt w table cases bindings j (leaf x bs) → LeafNode w table bindings j x bs
unfolding TreeStands bindings_in
leaf_node_lem w table cases bindings j x bs r h =
    let n = node_held j h.held.0 in
    record {
      kind_is = n.kind_is;
      clause_is = n.word_0;
      count_is = n.word_2;
      inside = first_inside (length bs) h.first_binding (node_word w j first_binding_word) bindings (length bs) n.word_1 h.bindings_inside (omega arith);
      bound =
          run_start w (bindings_bytes table bs) bindings_start binding_size (length bs) h.first_binding (node_word w j first_binding_word) n.word_1 (no_bindings table bs)
          (omega arith) h.held.1;
    }

pub switch_node : (w : List ℕ) (table : List Path) (cases bindings j : ℕ) (s : Tree) → is_switch s ≡ true → arena_end ≤ length w
    → HeldAt w table cases bindings j s → SwitchNode w cases j s
unfolding is_switch cases_under default_under cases_in TreeStands
switch_node w table cases bindings j absent e r h = absurd (false≢true e)
switch_node w table cases bindings j (leaf c bs) e r h = absurd (false≢true e)
switch_node w table cases bindings j (hoist c bs a) e r h = absurd (false≢true e)
switch_node w table cases bindings j (switch p cs d) e r h =
    let n = node_held j h.held.0 in
    record {
      kind_is = omega (arith, n.kind_is);
      count_is = omega (arith, n.word_2, n.word_3);
      inside = first_inside (how_many cs) h.first_case (node_word w j first_case_word) cases (cases_in (switch p cs d)) n.word_1 h.cases_inside (omega arith);
      own = run_start w (own_cases (j + 1) cs) cases_start case_size (how_many cs) h.first_case (node_word w j first_case_word) n.word_1 (no_cases (j + 1) cs) (omega arith) h.held.1;
      default_is = n.word_4;
    }
switch_node w table cases bindings j (listswitch p cs ts d) e r h =
    let n = node_held j h.held.0 in
    let m = how_many_joined cs ts in
    let first : node_word w j first_case_word ≡ first_of (how_many (joined cs ts)) h.first_case = n.word_1 ∙ ap (λ z. first_of z h.first_case) (sym m) in
    let own : Stands w (cases_start + case_size * h.first_case) (own_cases (j + 1) (joined cs ts)) = rw (own_cases_joined (j + 1) (j + 1 + nodes_in_of cs) cs ts refl) h.held.1 in
    let after : j + 1 + nodes_in_of cs + nodes_in_of ts ≡ j + 1 + nodes_in_of (joined cs ts) = omega (arith, nodes_in_of_joined cs ts) in
    record {
      kind_is = omega (arith, n.kind_is);
      count_is = omega (arith, n.word_2, n.word_3);
      inside = first_inside (how_many (joined cs ts)) h.first_case (node_word w j first_case_word) cases (cases_in (listswitch p cs ts d)) first h.cases_inside (omega arith);
      own = run_start w (own_cases (j + 1) (joined cs ts)) cases_start case_size (how_many (joined cs ts)) h.first_case (node_word w j first_case_word) first (no_cases (j + 1) (joined cs ts))
          (omega arith) own;
      default_is = n.word_4 ∙ ap (λ z. default_field z d) after;
    }

-- ---- the children of a switch
pub nodes_in_switch : (s : Tree) → is_switch s ≡ true → nodes_in s ≡ suc (nodes_in_of (cases_under s) + nodes_in (default_under s))
unfolding is_switch cases_under default_under nodes_in
nodes_in_switch absent e = absurd (false≢true e)
nodes_in_switch (leaf c bs) e = absurd (false≢true e)
nodes_in_switch (hoist c bs a) e = absurd (false≢true e)
nodes_in_switch (switch p cs d) e = refl
nodes_in_switch (listswitch p cs ts d) e = omega (arith, nodes_in_of_joined cs ts)

subtrees_switch : (s : Tree) → is_switch s ≡ true → subtrees s ≡ s ∷ (subtrees_of (cases_under s) ++ subtrees (default_under s))
unfolding is_switch cases_under default_under subtrees
subtrees_switch absent e = absurd (false≢true e)
subtrees_switch (leaf c bs) e = absurd (false≢true e)
subtrees_switch (hoist c bs a) e = absurd (false≢true e)
subtrees_switch (switch p cs d) e = refl
subtrees_switch (listswitch p cs ts d) e =
    ap (λ z. listswitch p cs ts d ∷ z) (sym (append_assoc (subtrees_of cs) (subtrees_of ts) (subtrees d)) ∙ ap (λ z. z ++ subtrees d) (sym (subtrees_of_joined cs ts)))

module _ (all : List Tree) (j : ℕ) (s : Tree) (e : is_switch s ≡ true) (h : Within all j (subtrees s)) where
  below_within : Within all (j + 1) (subtrees_of (cases_under s) ++ subtrees (default_under s))
  below_within = within_rest all j s (subtrees_of (cases_under s) ++ subtrees (default_under s)) (rw (subtrees_switch s e) at h)

  pub cases_within : Within all (j + 1) (subtrees_of (cases_under s))
  cases_within = within_left all (j + 1) (subtrees_of (cases_under s)) (subtrees (default_under s)) below_within

  pub default_within : Within all (j + 1 + nodes_in_of (cases_under s)) (subtrees (default_under s))
  default_within =
      within_right all (j + 1) (j + 1 + nodes_in_of (cases_under s)) (subtrees_of (cases_under s)) (subtrees (default_under s)) (omega (arith, length_subtrees_of (cases_under s))) below_within

-- the first case's subtree, and those of the rest
pub first_within : (all : List Tree) (j : ℕ) (a : Tree) (rest : List Tree) → Within all j (subtrees a ++ rest) → Within all j (subtrees a)
first_within all j a rest h = within_left all j (subtrees a) rest h

pub rest_within : (all : List Tree) (j : ℕ) (a : Tree) (rest : List Tree) → Within all j (subtrees a ++ rest) → Within all (j + nodes_in a) rest
rest_within all j a rest h = within_right all j (j + nodes_in a) (subtrees a) rest (omega (arith, length_subtrees a)) h

-- case i of a run of cases whose first child is node k
case_at_within : (all : List Tree) (cs : Cases) (k i : ℕ) → i < how_many cs → Within all k (subtrees_of cs) → Within all (k + nodes_before cs i) (subtrees (case_at cs i))
unfolding subtrees_of how_many case_at nodes_before
case_at_within all cnil k i l h = absurd (omega arith)
case_at_within all (ccons t at a cs) k zero l h = rw add-zero (first_within all k a (subtrees_of cs) h)
case_at_within all (ccons t at a cs) k (suc i) l h =
    let d : k + nodes_in a + nodes_before cs i ≡ k + (nodes_in a + nodes_before cs i) = omega arith in
    subst (λ z. Within all z (subtrees (case_at cs i))) d (case_at_within all cs (k + nodes_in a) i (omega arith) (rest_within all k a (subtrees_of cs) h))

case_at_child : (w : List ℕ) (cs : Cases) (f k i : ℕ) → i < how_many cs → Stands w (cases_start + case_size * f) (own_cases k cs) → case_child w (f + i) ≡ k + nodes_before cs i
unfolding how_many nodes_before
case_at_child w cnil f k i l h = absurd (omega arith)
case_at_child w (ccons t at a cs) f k zero l h = rw (add-zero f, add-zero k) (own_first w f k t at a cs h).child_is
case_at_child w (ccons t at a cs) f k (suc i) l h =
    let d : f + suc i ≡ f + 1 + i = omega arith in
    rw d (case_at_child w cs (f + 1) (k + nodes_in a) i (omega arith) (own_rest w cases_start f k t at a cs h) ∙ omega arith)

case_at_there : (cs : Cases) (i : ℕ) → i < how_many cs → AllThere cs → 1 ≤ nodes_in (case_at cs i)
unfolding how_many case_at AllThere
case_at_there cnil i l h = absurd (omega arith)
case_at_there (ccons t at a cs) zero l h = h.0
case_at_there (ccons t at a cs) (suc i) l h = case_at_there cs i (omega arith) h.1

-- a default that is there, and one that is not
pub default_field_some : (k : ℕ) (d : Tree) → 0 < default_field k d → (default_field k d ≡ suc k) × (1 ≤ nodes_in d)
unfolding default_field nodes_in
default_field_some k absent h = absurd (omega arith)
default_field_some k (leaf c bs) h = (refl, omega arith)
default_field_some k (hoist c bs a) h = (refl, omega arith)
default_field_some k (switch p cs d) h = (refl, omega arith)
default_field_some k (listswitch p cs ts d) h = (refl, omega arith)

default_field_none : (k : ℕ) (d : Tree) → default_field k d ≡ 0 → d ≡ absent
unfolding default_field
default_field_none k absent h = refl
default_field_none k (leaf c bs) h = absurd (omega arith)
default_field_none k (hoist c bs a) h = absurd (omega arith)
default_field_none k (switch p cs d) h = absurd (omega arith)
default_field_none k (listswitch p cs ts d) h = absurd (omega arith)

module _ (w : List ℕ) (table : List Path) (a : Tree) (nodes : Nodes w table a) (j : ℕ) (l : j < nodes_in a) (e : is_switch (subtree_at a j) ≡ true) where
  child_node : (n : ℕ) (s : Tree) → 1 ≤ nodes_in s → j < n → Within (subtrees a) n (subtrees s) → ChildNode a j n s
  unfolding subtree_at
  child_node n s m above h =
      record { above = above; inside = omega (arith, within_inside (subtrees a) n s h, length_subtrees a); there = within_first (subtrees a) n s m h }

  pub switch_shown : SwitchNode w (cases_in a) j (subtree_at a j)
  switch_shown = switch_node w table (cases_in a) (length (bindings_in a)) j (subtree_at a j) e nodes.room (nodes.node j l)

  -- THEOREM: the child field of case i is the number of its subtree
  pub case_node : (i : ℕ) → i < how_many (cases_under (subtree_at a j)) → AllThere (cases_under (subtree_at a j))
      → ChildNode a j (case_child w (node_word w j first_case_word + i)) (case_at (cases_under (subtree_at a j)) i)
  case_node i m t =
      let cs = cases_under (subtree_at a j) in
      let n = j + 1 + nodes_before cs i in
      subst (λ z. ChildNode a j z (case_at cs i)) (sym (case_at_child w cs (node_word w j first_case_word) (j + 1) i m switch_shown.own))
      (child_node n (case_at cs i) (case_at_there cs i m t) (omega arith)
      (case_at_within (subtrees a) cs (j + 1) i m (cases_within (subtrees a) j (subtree_at a j) e (nodes.within j l))))

  -- THEOREM: the default field is one more than the number of the default, or 0 where there is none
  pub default_node : 0 < node_word w j default_word → ChildNode a j (node_word w j default_word - 1) (default_under (subtree_at a j))
  default_node h =
      let d = default_under (subtree_at a j) in
      let k = j + 1 + nodes_in_of (cases_under (subtree_at a j)) in
      let f = default_field_some k d (rw switch_shown.default_is at h) in
      let n : node_word w j default_word - 1 ≡ k = omega (arith, switch_shown.default_is, f.0) in
      subst (λ z. ChildNode a j z d) (sym n) (child_node k d f.1 (omega arith) (default_within (subtrees a) j (subtree_at a j) e (nodes.within j l)))

  pub default_none : node_word w j default_word ≡ 0 → default_under (subtree_at a j) ≡ absent
  default_none h = default_field_none (j + 1 + nodes_in_of (cases_under (subtree_at a j))) (default_under (subtree_at a j)) (sym switch_shown.default_is ∙ h)
