-- The writer's theorem: from a tree held in the arena and its scopes, the loop over the nodes writes the first three sections of the
-- hoisted tree's file. Rests on the pieces of the nodes and on what the arena has of each node.
use Rattle.std.specs.Prelude.{◌≡◌, Bool, ℕ, zero, suc, ◌+◌, ◌*◌, ◌≤◌, ◌<◌, get_or, replicate, eqb}
use Rattle.std.proofs.Math.Path.{refl, sym, ap, subst}
use Rattle.std.proofs.Common.{ap₂, ◌∙◌, add-zero}
use Rattle.std.proofs.Math.Logic.{⊎_elim}
use Rattle.std.proofs.Math.Bool.{true, false}
use Rattle.std.proofs.lemmas.Bool.{false≢true}
use mathlib.Core.List.{List, [], ◌∷◌, ◌++◌, append-nil, map}
use native.Mathlib.Omega.{arith}
use Rattle.std.proofs.Math.Nat.{zero-add}
use Rattle.std.proofs.Math.ListN.{length, length-replicate, get_or-replicate}
use Rattle.base_words.specs.Words.{pick}
use Rattle.base_words.specs.WordsLaws.{pick_true, pick_false}
use Rattle.base_words.specs.Stored.{stored}
use Rattle.base_words.specs.StoredLaws.{stored_append}
use Rattle.spec_rules.specs.Limits.{patterns_most, nodes_most, bindings_most, tree_room, node_size, case_size, binding_size}
use Rattle.spec_rules.specs.Kinds.{leaf_node, path_word, first_binding_word}
use Rattle.spec_rules.specs.Rows.{Path, Binding}
use Rattle.spec_rules.specs.Building.{Tree, Cases, absent, leaf, hoist, switch, listswitch, cnil, ccons}
use Rattle.spec_rules.specs.Hoisting.{how_many, first_bindings, hoist_all, nodes_in, nodes_in_of, bindings_in, has_leaf}
use Rattle.spec_rules.specs.TreeFile.{binding_paths, paths_used, paths_used_of, path_table, first_uses, cases_in, cases_in_of, nodes_from, cases_from, bindings_bytes}
use Rattle.spec_file.specs.StandingLaws.{Stands}
use Rattle.spec_file.specs.TreeStands.{TreeStands}
use Rattle.spec_file.specs.TreeStandsLaws.{rest_bindings}
use Rattle.spec_file.specs.LengthLaws.{length_nodes_from, length_cases_from}
use Rattle.spec_file.specs.PathsLaws.{Covers, covers_first, covers_rest, covers_left, covers_right}
use Rattle.spec_file.specs.BoundLaws.{table_used}
use Rattle.spec_hoist.specs.Descent.{wrap_by, is_scope}
use Rattle.spec_hoist.proofs.OnceLaws.{nodes_in_hoist_all}
use Rattle.build_arena.specs.Arena.{cases_most, bindings_start, arena_end, node_kind, node_word, binding_path}
use Rattle.build_arena.specs.RecordsLaws.{node_held, first_binding}
use Rattle.build_arena.specs.Numbered.{subtrees, subtrees_of, subtree_at, is_switch, cases_under, default_under, Each, HeldAt, LeafNode}
use Rattle.build_arena.specs.NumberedLaws.{length_subtrees, each_append, each_at, how_many_joined, leaf_node_lem, switch_node}
use Rattle.build_scopes.specs.declared.Scopes.{Scopes}
use Rattle.build_scopes.specs.Numbers.{never, first_number, scope_number, first_leaf_node, scope_node, hoist_by_number, hoist_by_number_of}
use Rattle.build_scopes.specs.NumbersLaws.{descent_in}
use Rattle.build_scopes.specs.Marks.{LeafThere, SwitchThere}
use Rattle.build_scopes.specs.ReadyLaws.{node_there, node_inside}
use Rattle.build_scopes.specs.WriterLaws.{scoped_hoisted, scoped_leaf, stands_first}
use Rattle.build_file_nodes.specs.declared.Tops.{Tops}
use Rattle.build_file_nodes.specs.Pieces.{Piece, tree_piece, over_piece}
use Rattle.build_file_nodes.specs.PiecesLaws.{how_many_hoisted, hoisted_piece}
use Rattle.build_file_nodes.specs.Uses.{uses_of, with_classes, class_numbers, Stand}
use Rattle.build_file_nodes.specs.UsesLaws.{class_small, stand_withs, stand_count, unused, stand_unused, paths_of_classes, list_inside, list_known}
use Rattle.build_file_nodes.specs.Model.{Places, places_of, Reach, reach_of, clause_node, out_of, nodes_out, LeafSound, SwitchSound, Within, ShiftAsked, Shifted, ArenaSound, NodesAsked}
use Rattle.build_file_nodes.specs.RunLaws.{HoistLeaf, Own, after, Fitting, over_covers, nodes_after}
use Rattle.build_file_nodes.specs.Written.{WritingAsked, Written}

-- ---- the paths of each node are covered
module _ (all : List Path) where
  abbrev Covered : ℕ → Tree → Type 0
  Covered k s = Covers all (paths_used s)

  mutual
    unfolding subtrees paths_used

    each_covered : (a : Tree) (k : ℕ) → Covers all (paths_used a) → Each Covered k (subtrees a)
    each_covered absent k v = tt
    each_covered (leaf c bs) k v = (v, tt)
    each_covered (hoist c bs a) k v = (v, each_covered a (k + 1) (covers_right all (binding_paths bs) (paths_used a) v))
    each_covered (switch p cs d) k v =
        let r = covers_rest all p (paths_used_of cs ++ paths_used d) v in
        let k₂ = k + 1 + length (subtrees_of cs) in (
          v,
          each_append Covered (k + 1) k₂ (subtrees_of cs) (subtrees d) refl (each_covered_of cs (k + 1) (covers_left all (paths_used_of cs) (paths_used d) r))
              (each_covered d k₂ (covers_right all (paths_used_of cs) (paths_used d) r)),
        )
    each_covered (listswitch p cs ts d) k v =
        let rest = paths_used_of ts ++ paths_used d in
        let r = covers_rest all p (paths_used_of cs ++ rest) v in
        let r₂ = covers_right all (paths_used_of cs) rest r in
        let k₂ = k + 1 + length (subtrees_of cs) in
        let k₃ = k₂ + length (subtrees_of ts) in (
          v,
          each_append Covered (k + 1) k₂ (subtrees_of cs) (subtrees_of ts ++ subtrees d) refl (each_covered_of cs (k + 1) (covers_left all (paths_used_of cs) rest r))
              (each_append Covered k₂ k₃ (subtrees_of ts) (subtrees d) refl (each_covered_of ts k₂ (covers_left all (paths_used_of ts) (paths_used d) r₂))
              (each_covered d k₃ (covers_right all (paths_used_of ts) (paths_used d) r₂))),
        )

    each_covered_of : (cs : Cases) (k : ℕ) → Covers all (paths_used_of cs) → Each Covered k (subtrees_of cs)
    each_covered_of cnil k v = tt
    each_covered_of (ccons t at a cs) k v =
        let k₂ = k + length (subtrees a) in
        each_append Covered k k₂ (subtrees a) (subtrees_of cs) refl (each_covered a k (covers_left all (paths_used a) (paths_used_of cs) v))
        (each_covered_of cs k₂ (covers_right all (paths_used a) (paths_used_of cs) v))

  covered_at : (a : Tree) → Covers all (paths_used a) → (j : ℕ) → j < nodes_in a → Covers all (paths_used (subtree_at a j))
  unfolding subtree_at
  covered_at a v j l = each_at Covered 0 (subtrees a) (each_covered a 0 v) j (omega (arith, length_subtrees a))

-- P of each, from P at each number
each_from : (P : ℕ → Tree → Type 0) (k : ℕ) (xs : List Tree) → ((j : ℕ) → j < length xs → P (k + j) (get_or xs j absent)) → Each P k xs
each_from P k [] h = tt
each_from P k (x ∷ xs) h =
    let z = add-zero k in (
      (rw z at (h 0 (omega arith))),
      each_from P (k + 1) xs (λ j l. let e : k + suc j ≡ k + 1 + j = omega arith in rw e at (h (suc j) (omega arith))),
    )

-- ---- cases are neither made nor lost by hoisting
cases_wrapped : (f : ℕ → Bool) (bs : ℕ → List Binding) (i n : ℕ) (a : Tree) → cases_in (wrap_by f bs i n a) ≡ cases_in a
unfolding wrap_by cases_in
cases_wrapped f bs i zero a = refl
cases_wrapped f bs i (suc n) a = go (f i) refl (cases_wrapped f bs (i + 1) n a)
  where
    go : (t : Bool) → f i ≡ t → cases_in (wrap_by f bs (i + 1) n a) ≡ cases_in a → cases_in (wrap_by f bs i (suc n) a) ≡ cases_in a
    go true e ih = rw (wrap_by, e) ih
    go false e ih = rw (wrap_by, e) ih

module _ (node : ℕ → ℕ) (bs : ℕ → List Binding) (n : ℕ) where
  mutual
    unfolding hoist_by_number cases_in

    cases_in_hoisted : (k : ℕ) (a : Tree) → cases_in (hoist_by_number node bs n k a) ≡ cases_in a
    cases_in_hoisted k absent = refl
    cases_in_hoisted k (leaf c xs) = cases_wrapped (λ x. eqb (node x) k) bs 0 n (leaf c xs)
    cases_in_hoisted k (hoist c xs a) = cases_in_hoisted (k + 1) a
    cases_in_hoisted k (switch p cs d) =
        let k₂ = k + 1 + nodes_in_of cs in
        cases_wrapped (λ x. eqb (node x) k) bs 0 n (switch p (hoist_by_number_of node bs n (k + 1) cs) (hoist_by_number node bs n k₂ d))
        ∙ omega (arith, how_many_hoisted node bs n (k + 1) cs, cases_in_hoisted_of (k + 1) cs, cases_in_hoisted k₂ d)
    cases_in_hoisted k (listswitch p cs ts d) =
        let k₂ = k + 1 + nodes_in_of cs in
        let k₃ = k₂ + nodes_in_of ts in
        cases_wrapped (λ x. eqb (node x) k) bs 0 n (listswitch p (hoist_by_number_of node bs n (k + 1) cs) (hoist_by_number_of node bs n k₂ ts) (hoist_by_number node bs n k₃ d))
        ∙ omega (arith, how_many_hoisted node bs n (k + 1) cs, how_many_hoisted node bs n k₂ ts, cases_in_hoisted_of (k + 1) cs, cases_in_hoisted_of k₂ ts, cases_in_hoisted k₃ d)

    cases_in_hoisted_of : (k : ℕ) (cs : Cases) → cases_in_of (hoist_by_number_of node bs n k cs) ≡ cases_in_of cs
    cases_in_hoisted_of k cnil = refl
    cases_in_hoisted_of k (ccons t at a cs) = omega (arith, cases_in_hoisted k a, cases_in_hoisted_of (k + nodes_in a) cs)

-- ---- what the arena has of a node
switch_own_facts : (w : List ℕ) (all : List Path) (cases bindings j : ℕ) (s : Tree) → is_switch s ≡ true → 0 < how_many (cases_under s) → arena_end ≤ length w
    → HeldAt w all cases bindings j s → Covers all (paths_used s) → Own w all bindings j s
unfolding is_switch cases_under default_under paths_used Own TreeStands
switch_own_facts w all cases bindings j absent e m r h v = absurd (false≢true e)
switch_own_facts w all cases bindings j (leaf c bs) e m r h v = absurd (false≢true e)
switch_own_facts w all cases bindings j (hoist c bs a) e m r h v = absurd (false≢true e)
switch_own_facts w all cases bindings j (switch p cs d) e m r h v =
    let n = node_held j h.held.0 in
    let g = switch_node w all cases bindings j (switch p cs d) e r h in
    record {
      kind_is = n.kind_is;
      kind_small = omega arith;
      path_is = n.word_0;
      cases_are = n.word_2;
      tails_are = n.word_3;
      default_is = g.default_is;
      own = g.own;
      count = sym (add-zero (how_many cs));
      some_case = m;
      among = covers_first all p (paths_used_of cs ++ paths_used d) v;
    }
switch_own_facts w all cases bindings j (listswitch p cs ts d) e m r h v =
    let n = node_held j h.held.0 in
    let g = switch_node w all cases bindings j (listswitch p cs ts d) e r h in
    record {
      kind_is = n.kind_is;
      kind_small = omega arith;
      path_is = n.word_0;
      cases_are = n.word_2;
      tails_are = n.word_3;
      default_is = g.default_is;
      own = g.own;
      count = how_many_joined cs ts;
      some_case = m;
      among = covers_first all p (paths_used_of cs ++ (paths_used_of ts ++ paths_used d)) v;
    }

-- the classes of a leaf's bindings are below 192
bound_classes : (w : List ℕ) (all : List Path) → length all ≤ patterns_most → (bs : List Binding) (i : ℕ) → Stands w (bindings_start + binding_size * i) (bindings_bytes all bs)
    → Covers all (binding_paths bs) → (j : ℕ) → j < length bs → binding_path w (i + j) < patterns_most
unfolding binding_paths
bound_classes w all short [] i s v j l = absurd (omega arith)
bound_classes w all short (x ∷ bs) i s v zero l =
    let e = (first_binding w all i x bs s).path_is in
    rw (add-zero i) (omega (arith, e, class_small all short x.path (covers_first all x.path (binding_paths bs) v)))
bound_classes w all short (x ∷ bs) i s v (suc j) l =
    let e : i + suc j ≡ i + 1 + j = omega arith in
    rw e (bound_classes w all short bs (i + 1) (rest_bindings w all bindings_start i x bs s) (covers_rest all x.path (binding_paths bs) v) j (omega arith))

leaf_sound : (w : List ℕ) (all : List Path) (most j x : ℕ) (bs : List Binding) → length all ≤ patterns_most → arena_end ≤ length w → j < nodes_most → most ≤ bindings_most
    → LeafNode w all most j x bs → Covers all (binding_paths bs) → LeafSound w j
leaf_sound w all most j x bs short r l m h v =
    record {
      room = r;
      node = l;
      bindings = record {
        room = r;
        inside = omega (arith, h.inside, h.count_is);
        classes = λ i q. bound_classes w all short bs (node_word w j first_binding_word) h.bound v i (omega (arith, h.count_is));
      };
    }

own_path : (w : List ℕ) (all : List Path) (most k : ℕ) (s : Tree) → length all ≤ patterns_most → is_switch s ≡ true → Own w all most k s → node_word w k path_word < patterns_most
unfolding is_switch Own
own_path w all most k absent short e h = absurd h
own_path w all most k (leaf c bs) short e h = absurd (false≢true e)
own_path w all most k (hoist c bs a) short e h = absurd h
own_path w all most k (switch p cs d) short e h = omega (arith, h.path_is, class_small all short p h.among)
own_path w all most k (listswitch p cs ts d) short e h = omega (arith, h.path_is, class_small all short p h.among)

-- ---- the whole tree
abbrev nothing_yet : List ℕ → Reach
nothing_yet l = record { nodes = 0; cases = 0; bindings = 0; uses = unused l }

module _ {w : List ℕ} {nodes cases : ℕ} {x : Scopes} {clauses : ℕ} (h : WritingAsked w nodes cases x clauses) (list : List ℕ) (long : length list ≡ patterns_most) where
  abbrev places : Places
  places = places_of x.node x.leaf

  abbrev all : List Path
  all = h.ready.table

  abbrev a : Tree
  a = h.tree

  abbrev most : ℕ
  most = length (bindings_in a)

  abbrev bound : ℕ → List Binding
  bound c = first_bindings c a

  abbrev whole : Tree
  whole = hoist_all clauses a

  abbrev table : List Path
  table = path_table whole

  abbrev cases_at : ℕ
  cases_at = node_size * (nodes + x.hoists)

  abbrev bindings_at : ℕ
  bindings_at = cases_at + case_size * cases

  leaf_facts : (j c : ℕ) (bs : List Binding) → j < nodes_in a → subtree_at a j ≡ leaf c bs → LeafNode w all most j c bs × Covers all (binding_paths bs)
  unfolding paths_used
  leaf_facts j c bs l e = (
    leaf_node_lem w all (cases_in a) most j c bs h.ready.nodes.room (subst (λ z. HeldAt w all (cases_in a) most j z) e (h.ready.nodes.node j l)),
    subst (λ z. Covers all (paths_used z)) e (covered_at all a h.covered j l),
  )

  own_at : (j : ℕ) → j < nodes_in a → Own w all most j (subtree_at a j)
  unfolding Own
  own_at j l =
      ⊎_elim (λ (t : LeafThere w a j). subst (Own w all most j) (sym t.is) (leaf_facts j t.clause t.bindings l t.is))
      (λ (t : SwitchThere w a j).
      switch_own_facts w all (cases_in a) most j (subtree_at a j) t.is t.some_case h.ready.nodes.room (h.ready.nodes.node j l) (covered_at all a h.covered j l))
      (node_there w a h.ready j l)

  hoisted_has : (c : ℕ) → c < clauses → clause_node places c < nodes_in a → has_leaf c a ≡ true
  unfolding scope_node
  hoisted_has c l q = go (has_leaf c a) refl
    where
      go : (b : Bool) → has_leaf c a ≡ b → has_leaf c a ≡ true
      go true e = e
      go false e =
          absurd (omega (arith, q, h.ready.nodes.nodes_most_holds, h.scoped.node c l, pick_false (has_leaf c a) (scope_number c 0 a) nodes_most e))

  leaf_inside : (c : ℕ) → c < clauses → has_leaf c a ≡ true → get_or x.leaf c 0 < nodes_in a
  unfolding first_leaf_node first_number
  leaf_inside c l e =
      omega (arith, h.scoped.leaf c l, pick_true (has_leaf c a) (first_number c 0 a) nodes_most e, (descent_in never c 0 a e h.ready.plain).1)

  hoist_leaf : (c : ℕ) → c < clauses → clause_node places c < nodes_in a → HoistLeaf w all places most bound c
  hoist_leaf c l q =
      let e = hoisted_has c l q in
      let f = leaf_facts (get_or x.leaf c 0) c (bound c) (leaf_inside c l e) (scoped_leaf w h.bound a clauses x h.ready h.bind_counts h.scoped c l e) in
      record { node = f.0; covers = f.1 }

  small : (j : ℕ) → j < nodes_in a → j < nodes_most
  small j l = omega (arith, h.ready.nodes.nodes_most_holds)

  sound_leaf : (k : ℕ) → k < nodes_in a → node_kind w k ≡ leaf_node → LeafSound w k
  sound_leaf k l e =
      ⊎_elim
      (λ (t : LeafThere w a k).
      let f = leaf_facts k t.clause t.bindings l t.is in
      leaf_sound w all most k t.clause t.bindings h.short h.ready.nodes.room (small k l) h.ready.nodes.bindings_most_holds f.0 f.1)
      (λ (t : SwitchThere w a k). absurd (omega (arith, t.shown.kind_is)))
      (node_there w a h.ready k l)

  sound_switch : (k : ℕ) → k < nodes_in a → (node_kind w k ≡ leaf_node → ⊥) → SwitchSound w k
  sound_switch k l e =
      let i = (node_inside w a h.ready k l nodes_most h.ready.nodes.nodes_most_holds).switch e in
      record {
        room = h.ready.nodes.room;
        node = small k l;
        path =
            ⊎_elim (λ (t : LeafThere w a k). absurd (e t.kind_is)) (λ (t : SwitchThere w a k). own_path w all most k (subtree_at a k) h.short t.is (own_at k l))
            (node_there w a h.ready k l);
        cases = record { room = i.cases.room; inside = i.cases.inside; children = i.cases.children };
        default = i.default;
      }

  arena_sound : ArenaSound w nodes places clauses
  arena_sound =
      record {
        room = h.ready.nodes.room;
        most = omega (arith, h.ready.nodes.nodes_most_holds, h.node_count);
        few = h.few;
        leaf = λ k l e. sound_leaf k (omega (arith, h.node_count)) e;
        switch = λ k l e. sound_switch k (omega (arith, h.node_count)) e;
        below = λ k l e. (node_inside w a h.ready k (omega (arith, h.node_count)) nodes (omega (arith, h.node_count))).switch e;
        hoist = λ c l q.
            let m : clause_node places c < nodes_in a = omega (arith, h.node_count) in
            let g = hoist_leaf c l m in
            leaf_sound w all most (get_or x.leaf c 0) c (bound c) h.short h.ready.nodes.room (small (get_or x.leaf c 0) (leaf_inside c l (hoisted_has c l m)))
            h.ready.nodes.bindings_most_holds g.node g.covers;
      }

  -- ---- the loop's pieces are the hoisted tree
  abbrev pieces : Piece
  pieces = over_piece table (clause_node places) clauses bound 0 0 0 (subtrees a)

  abbrev by_number : Tree
  by_number = hoist_by_number (clause_node places) bound clauses 0 a

  whole_number : whole ≡ by_number
  whole_number = scoped_hoisted w a clauses x h.ready h.scoped

  whole_piece : tree_piece table 0 0 0 whole ≡ pieces
  whole_piece =
      ap (tree_piece table 0 0 0) whole_number
      ∙ ap (λ z. tree_piece table z 0 0 by_number) (sym (stands_first (clause_node places) clauses))
      ∙ hoisted_piece table (clause_node places) clauses bound 0 0 0 a h.ready.plain

  whole_nodes : nodes_in whole ≡ nodes + x.hoists
  whole_nodes = nodes_in_hoist_all clauses a ∙ ap₂ (λ y z. y + z) h.node_count (sym h.scoped.hoists)

  whole_cases : cases_in whole ≡ cases
  whole_cases = ap cases_in whole_number ∙ cases_in_hoisted (clause_node places) bound clauses 0 a ∙ h.case_count

  each_own : Each (Own w all most) 0 (subtrees a)
  unfolding subtree_at
  each_own = each_from (Own w all most) 0 (subtrees a) (λ j l. rw (zero-add j) (own_at j (omega (arith, length_subtrees a))))

  pieces_fit : Fitting all table cases_at bindings_at (nothing_yet list) pieces
  unfolding tree_piece
  pieces_fit =
      let n : nodes_in whole ≡ pieces.nodes = ap (λ z. z.nodes) whole_piece in
      let c : cases_in whole ≡ pieces.cases = ap (λ z. z.cases) whole_piece in
      record { nodes_room = omega (arith, whole_nodes); cases_room = omega (arith, whole_cases) }

  -- every path used is in the table that they are numbered by
  table_is : table ≡ first_uses [] (pieces.paths ++ [])
  unfolding path_table tree_piece
  table_is = ap (first_uses []) (ap (λ z. z.paths) whole_piece ∙ sym (append-nil pieces.paths))

  whole_covers : Covers all (paths_used whole)
  unfolding tree_piece
  whole_covers =
      subst (λ z. Covers all z.paths) (sym whole_piece)
      (over_covers all table cases_at bindings_at w h.short places clauses most (nodes_in a) bound hoist_leaf (subtrees a) 0 0 0 (omega (arith, length_subtrees a)) each_own)

  run : (t : List ℕ) → nodes_out w cases_at bindings_at places clauses 0 nodes (out_of t (nothing_yet list)) ≡ after all table cases_at bindings_at (out_of t (nothing_yet list)) (tree_piece table 0 0 0 whole)
  run t =
      let n : nodes ≡ length (subtrees a) = omega (arith, h.node_count, length_subtrees a) in
      ap (λ z. nodes_out w cases_at bindings_at places clauses 0 z (out_of t (nothing_yet list))) n
      ∙ nodes_after all table cases_at bindings_at w h.short places clauses most (nodes_in a) bound hoist_leaf (subtrees a) 0 (out_of t (nothing_yet list)) [] [] (omega (arith, length_subtrees a)) each_own
      (sym (stands_first (clause_node places) clauses)) (stand_unused all h.short list long) table_is pieces_fit
      ∙ ap (after all table cases_at bindings_at (out_of t (nothing_yet list))) (sym whole_piece)

  -- THEOREM: what the loop asks
  pub nodes_asked : (t shift : List ℕ) → tree_room ≤ length t → Shifted (clause_node places) clauses nodes shift
      → NodesAsked w nodes places clauses shift cases_at bindings_at t (nothing_yet list)
  unfolding after tree_piece
  nodes_asked t shift room moved =
      record {
        sound = arena_sound;
        shifted = moved;
        file = record {
          tree_room_holds = room;
          cases_start_holds = omega (arith, whole_nodes, h.nodes_most_holds);
          bindings_start_holds = omega (arith, whole_nodes, h.nodes_most_holds, h.case_count, h.ready.nodes.cases_most_holds);
        };
        counted = (stand_unused all h.short list long).counted;
        within =
            subst (λ z. Within z.tops) (sym (run t))
            (record {
              nodes_most_holds = omega (arith, h.nodes_most_holds);
              cases_most_holds = omega (arith, whole_cases, h.case_count, h.ready.nodes.cases_most_holds);
              bindings_most_holds = omega (arith, h.bindings_most_holds);
            });
      }

  -- a table of zeros takes the hoists
  pub shift_asked : ShiftAsked (clause_node places) clauses (replicate (suc nodes_most) 0)
  unfolding scope_node scope_number
  shift_asked =
      record {
        few = h.few;
        scopes = λ c l. omega (arith, h.scoped.node c l, scope_most c);
        long = length-replicate {A = ℕ} (suc nodes_most) 0;
        none_yet = λ k l. get_or-replicate (suc nodes_most) k 0 0 (omega arith);
      }
    where
      scope_most : (c : ℕ) → scope_node c a ≤ nodes_most
      scope_most c = go (has_leaf c a) refl
        where
          go : (b : Bool) → has_leaf c a ≡ b → pick (has_leaf c a) (scope_number c 0 a) nodes_most ≤ nodes_most
          go true e = rw e (omega (arith, (descent_in (is_scope c) c 0 a e h.ready.plain).1, h.ready.nodes.nodes_most_holds))
          go false e = rw e (omega arith)

  -- the three sections as one store
  sections : (t : List ℕ) → (after all table cases_at bindings_at (out_of t (nothing_yet list)) (tree_piece table 0 0 0 whole)).tree
      ≡ stored t 0 (nodes_from table 0 0 0 whole ++ (cases_from 0 whole ++ bindings_bytes table (bindings_in whole)))
  unfolding after tree_piece
  sections t =
      let ns = nodes_from table 0 0 0 whole in
      let cs = cases_from 0 whole in
      let bs = bindings_bytes table (bindings_in whole) in
      let i : node_size * 0 ≡ 0 = omega arith in
      let j : 0 + length ns ≡ cases_at + case_size * 0 = omega (arith, length_nodes_from table 0 0 0 whole, whole_nodes) in
      let k : cases_at + case_size * 0 + length cs ≡ bindings_at + binding_size * 0 = omega (arith, length_cases_from 0 whole, whole_cases) in
      ap (λ z. stored (stored (stored t z ns) (cases_at + case_size * 0) cs) (bindings_at + binding_size * 0) bs) i
      ∙ stored_append (stored t 0 ns) (cases_at + case_size * 0) (bindings_at + binding_size * 0) cs bs k
      ∙ stored_append t 0 (cases_at + case_size * 0) ns (cs ++ bs) j

  whole_stand : Stand all (with_classes (unused list) (class_numbers all (paths_used whole))) table
  unfolding path_table
  whole_stand = stand_withs all h.short (paths_used whole) (unused list) [] (stand_unused all h.short list long) whole_covers

  table_covered : Covers all table
  table_covered = record { among = λ p q. whole_covers.among p ((table_used whole).among p q) }

  -- THEOREM: the sections of the hoisted tree's file
  pub written : {t t₂ number classes : List ℕ} {r : Tops} → out_of t₂ (reach_of number classes r) ≡ nodes_out w cases_at bindings_at places clauses 0 nodes (out_of t (nothing_yet list)) → Written all whole t t₂ classes r
  unfolding after tree_piece
  written {t = t} {number = number} {classes = classes} {r = r} e =
      let q = e ∙ run t in
      let u = uses_of number classes r.paths in
      let s : Stand all u table = subst (λ z. Stand all z.tops.uses table) (sym q) whole_stand in
      record {
        bytes_are = ap (λ z. z.tree) q ∙ sections t;
        nodes_are = ap (λ z. z.tops.nodes) q ∙ zero-add (nodes_in whole);
        cases_are = ap (λ z. z.tops.cases) q ∙ zero-add (cases_in whole);
        bindings_are = ap (λ z. z.tops.bindings) q ∙ zero-add (length (bindings_in whole));
        paths_count = stand_count all h.short u table s;
        list_long = s.counted.list_long;
        classes_inside = list_inside all h.short u table s table_covered;
        classes_known = list_known all h.short u table s table_covered;
        paths_are = λ path f. ap (map path) s.classes ∙ paths_of_classes all path f table table_covered;
      }

  pub sizes : (nodes + x.hoists ≤ nodes_most) × (cases ≤ cases_most)
  sizes = (omega (arith, whole_nodes, h.nodes_most_holds), omega (arith, h.case_count, h.ready.nodes.cases_most_holds))
