-- A way has few tests: no path is tested twice on it, so there are no more switches on a way than paths in the tree's table.
use Prim.Native.Nat.{ℕ, suc, ◌+◌, ◌≤◌}
use Rattle.std.proofs.Common.{arith, sym, ◌∙◌, inl, inr, length-append}
use Rattle.std.specs.Prelude.{◌≡◌, true, false, length}
use Rattle.std.proofs.Math.Path.{refl, ap}
use Rattle.std.proofs.Math.Logic.{⊎_elim}
use Rattle.std.proofs.Math.Bool.{false≢true}
use mathlib.Core.List.{List, [], ◌∷◌, ◌++◌}
use Rattle.std.proofs.Math.Option.{some}
use Rattle.base_words.specs.WordsLaws.{either_make_false}
use Rattle.spec_rules.specs.Rows.{Step, Path, same_path, Binding}
use Rattle.spec_rules.specs.Columns.{step_index}
use Rattle.spec_rules.specs.SplittingLaws.{All, not_true_false}
use Rattle.spec_rules.specs.Building.{Tree, Cases, absent, leaf, hoist, switch, listswitch, cnil, ccons}
use Rattle.spec_rules.specs.Hoisting.{how_many, nodes_in, nodes_in_of}
use Rattle.spec_rules.specs.TreeFile.{binding_paths, is_among, paths_used, paths_used_of, path_table}
use Rattle.spec_file.specs.PathsLaws.{is_among_left, is_among_right, is_among_first, is_among_rest, is_among_cases, table_covers}
use Rattle.spec_file.specs.BoundLaws.{Distinct, distinct_fewer}
use Rattle.spec_match.specs.Paths.{same_path_sound}
use Rattle.spec_match.specs.ColumnTypes.{retyped}
use Rattle.spec_forgotten.specs.Values.{Passed}
use Rattle.spec_forgotten.specs.PuttingLaws.{Parting, here, further}
use Rattle.spec_forgotten.specs.Choosing.{Chosen, Node, node_of}
use Rattle.spec_forgotten.specs.ReachingLaws.{no_node_there}
use Rattle.spec_forgotten.specs.FallingLaws.{all_in, Off, apart, above, Tested, Child, child, Rest, rest, Goes, goes_hoist, goes_out, goes_case, goes_on, node_tested, hoist_tested}
use Rattle.spec_forgotten.specs.Shapes.{shape_of}
use Rattle.spec_forgotten.specs.ChildrenLaws.{CaseOf, ChildOf, chosen_child, node_chooses}

-- ---- a path that is off another is not it
parting_differs : (z q : Path) → Parting z q → z ≡ q → ⊥
parting_differs z q (here s u a b n d) e = d (ap step_index (first s u a b e))
  where
    first : (s u : Step) (a b : Path) → ◌≡◌ {A = Path} (s ∷ a) (u ∷ b) → s ≡ u
    first s u a b e = cc
parting_differs z q (further s a b n h) e = parting_differs a b h (after a b e)
  where
    after : (a b : Path) → ◌≡◌ {A = Path} (s ∷ a) (s ∷ b) → a ≡ b
    after a b e = cc

longer_differs : (q : Path) (u : Step) (x : Path) → q ≡ q ++ u ∷ x → ⊥
longer_differs q u x e = let l = ap (λ (z : Path). length z) e in omega (arith, l, length-append q (u ∷ x))

module _ (s : List ℕ) where
  off_differs : (q z : Path) → Off s q z → q ≡ z → ⊥
  off_differs q z (apart r h) e = parting_differs z q h (sym e)
  off_differs q z (above u x) e = longer_differs q u x e

  off_not_among : (q : Path) (zs : List Path) → All (Off s q) zs → is_among q zs ≡ false
  unfolding is_among
  off_not_among q [] h = refl
  off_not_among q (z ∷ zs) h =
      either_make_false (same_path q z) (is_among q zs) (not_true_false (same_path q z) (λ e. off_differs q z h.0 (same_path_sound q z e))) (off_not_among q zs h.1)

  -- ---- the paths of a tree's switches are used in it
  case_used : (p : Path) (i j : ℕ) (cs : Cases) (c : Chosen) → CaseOf i j cs c → is_among p (paths_used c.tree) ≡ true → is_among p (paths_used_of cs) ≡ true
  unfolding CaseOf paths_used
  case_used p i j cnil c h k = absurd h
  case_used p i j (ccons u at a cs) c (inl e) k = is_among_left p (paths_used a) (paths_used_of cs) (rw e at k)
  case_used p i j (ccons u at a cs) c (inr h) k = is_among_right p (paths_used a) (paths_used_of cs) (case_used p (i + 1) (j + nodes_in a) cs c h k)

  child_used : (p : Path) (k : ℕ) (a : Tree) (c : Chosen) → ChildOf k a c → is_among p (paths_used c.tree) ≡ true → is_among p (paths_used a) ≡ true
  unfolding ChildOf paths_used
  child_used p k absent c h e = absurd h
  child_used p k (leaf d bs) c h e = absurd h
  child_used p k (hoist d bs a) c h e = absurd h
  child_used p k (switch q cs d) c h e = is_among_rest p q (paths_used_of cs ++ paths_used d) (is_among_left p (paths_used_of cs) (paths_used d) (case_used p 0 (k + 1) cs c h e))
  child_used p k (listswitch q cs ts d) c (inl h) e =
      is_among_rest p q (paths_used_of cs ++ (paths_used_of ts ++ paths_used d)) (is_among_left p (paths_used_of cs) (paths_used_of ts ++ paths_used d) (case_used p 0 (k + 1) cs c h e))
  child_used p k (listswitch q cs ts d) c (inr h) e =
      is_among_rest p q (paths_used_of cs ++ (paths_used_of ts ++ paths_used d))
      (is_among_right p (paths_used_of cs) (paths_used_of ts ++ paths_used d) (is_among_left p (paths_used_of ts) (paths_used d) (case_used p (how_many cs) (k + 1 + nodes_in_of cs) ts c h e)))

  default_used : (p : Path) (k : ℕ) (a : Tree) (w : Node) → node_of k a ≡ some w → is_among p (paths_used w.default) ≡ true → is_among p (paths_used a) ≡ true
  unfolding node_of paths_used
  default_used p k absent w e h = absurd (no_node_there w e)
  default_used p k (leaf c bs) w e h = absurd (no_node_there w e)
  default_used p k (hoist c bs a) w e h = absurd (no_node_there w e)
  default_used p k (switch q cs d) w e h =
      let z : w.default ≡ d = cc in
      is_among_rest p q (paths_used_of cs ++ paths_used d) (is_among_right p (paths_used_of cs) (paths_used d) (rw z at h))
  default_used p k (listswitch q cs ts d) w e h =
      let z : w.default ≡ d = cc in
      is_among_rest p q (paths_used_of cs ++ (paths_used_of ts ++ paths_used d))
      (is_among_right p (paths_used_of cs) (paths_used_of ts ++ paths_used d) (is_among_right p (paths_used_of ts) (paths_used d) (rw z at h)))

  path_used : (k : ℕ) (a : Tree) (w : Node) → node_of k a ≡ some w → is_among w.path (paths_used a) ≡ true
  unfolding node_of paths_used
  path_used k absent w e = absurd (no_node_there w e)
  path_used k (leaf c bs) w e = absurd (no_node_there w e)
  path_used k (hoist c bs a) w e = absurd (no_node_there w e)
  path_used k (switch q cs d) w e = let z : w.path ≡ q = cc in rw z (is_among_first q (paths_used_of cs ++ paths_used d))
  path_used k (listswitch q cs ts d) w e = let z : w.path ≡ q = cc in rw z (is_among_first q (paths_used_of cs ++ (paths_used_of ts ++ paths_used d)))

  none_among : (p : Path) → is_among p [] ≡ true → ⊥
  unfolding is_among
  none_among p h = false≢true h

  -- ---- the paths that are tested on a way, the reported switch's among them
  pub record Tests (ps : List Path) (a : Tree) (ts : List Passed) : Type 0 where
    pub paths : List Path
    pub as_many : length paths ≡ suc (length ts)
    pub distinct : Distinct paths
    pub off : (q : Path) → All (Off s q) ps → All (Off s q) paths
    pub used : (p : Path) → is_among p paths ≡ true → is_among p (paths_used a) ≡ true

  tests_hoist : (ps : List Path) (c : ℕ) (bs : List Binding) (a : Tree) (ts : List Passed) → Tests ps a ts → Tests ps (hoist c bs a) ts
  unfolding paths_used
  tests_hoist ps c bs a ts r =
      record { paths = r.paths; as_many = r.as_many; distinct = r.distinct; off = r.off; used = λ p h. is_among_right p (binding_paths bs) (paths_used a) (r.used p h) }

  -- a further test before those of a way below
  tests_more : (ps zs : List Path) (k : ℕ) (a : Tree) (w : Node) → node_of k a ≡ some w → (t : Passed) (ts : List Passed) (b : Tree)
      → ((q : Path) → All (Off s q) ps → Off s q w.path) → ((q : Path) → All (Off s q) ps → All (Off s q) zs) → All (Off s w.path) zs
      → ((p : Path) → is_among p (paths_used b) ≡ true → is_among p (paths_used a) ≡ true) → Tests zs b ts → Tests ps a (t ∷ ts)
  unfolding Distinct
  tests_more ps zs k a w e t ts b own kept self below r =
      record {
        paths = w.path ∷ r.paths;
        as_many = ap suc r.as_many;
        distinct = (off_not_among w.path r.paths (r.off w.path self), r.distinct);
        off = λ q h. (own q h, r.off q (kept q h));
        used = λ p h. ⊎_elim (λ x. rw x (path_used k a w e)) (λ x. below p (r.used p x)) (is_among_cases p w.path r.paths h);
      }

  by_child : (less : ℕ) (types : Path → ℕ) (ps : List Path) (k : ℕ) (a : Tree) (w : Node) → node_of k a ≡ some w → (c : Chosen) → ChildOf k a c
      → ((q : Path) → All (Off s q) ps → Off s q w.path) → Child s (retyped s) less types ps w c → (t : Passed) (ts : List Passed)
      → ((zs : List Path) → Tested s (retyped s) less (retyped s types w.path c.test) zs c.node c.tree → Tests zs c.tree ts) → Tests ps a (t ∷ ts)
  by_child less types ps k a w e c is own (child d2 t2 ps2 w2 c2 zs o h) t ts ih =
      tests_more ps zs k a w e t ts c.tree own o.off_kept o.off_self (λ p x. child_used p k a c is x) (ih zs h)

  by_rest : (less : ℕ) (types : Path → ℕ) (ps : List Path) (k : ℕ) (a : Tree) (w : Node) → node_of k a ≡ some w
      → ((q : Path) → All (Off s q) ps → Off s q w.path) → Rest s (retyped s) less types ps w → (t : Passed) (ts : List Passed)
      → ((zs : List Path) → Tested s (retyped s) less types zs w.next w.default → Tests zs w.default ts) → Tests ps a (t ∷ ts)
  by_rest less types ps k a w e own (rest d2 t2 ps2 w2 zs o h only) t ts ih =
      tests_more ps zs k a w e t ts w.default own o.off_kept o.off_self (λ p x. default_used p k a w e x) (ih zs h)

  tests_on_the_way : (types : Path → ℕ) (k : ℕ) (a : Tree) (n : ℕ) (ts : List Passed) → Goes s (retyped s) types k a n ts → (deep : ℕ) (ps : List Path) → Tested s (retyped s) deep types ps k a
      → Tests ps a ts
  unfolding Distinct
  tests_on_the_way types k a n ts (goes_hoist t1 k1 c bs b n1 ts1 g) deep ps h =
      let (less, l) = hoist_tested s (retyped s) deep types ps k c bs b (hoist c bs b) refl h in
      tests_hoist ps c bs b ts (tests_on_the_way types (k + 1) b n ts g less ps l)
  tests_on_the_way types k a n ts (goes_out t1 k1 a1 w e x tx ch ab) deep ps h =
      let d = node_tested s (retyped s) deep types ps k a w e h in
      record {
        paths = w.path ∷ [];
        as_many = refl;
        distinct = (unfold is_among in refl, tt);
        off = λ q f. (all_in (Off s q) w.path ps f d.among, tt);
        used = λ p f. ⊎_elim (λ z. rw z (path_used k a w e)) (λ z. absurd (none_among p z)) (is_among_cases p w.path [] f);
      }
  tests_on_the_way types k a n ts (goes_case t1 k1 a1 w e x tx c ch n1 ts1 g) deep ps h =
      let d = node_tested s (retyped s) deep types ps k a w e h in
      by_child d.less types ps k a w e c (chosen_child k a (shape_of x) c (sym (node_chooses k a w e x) ∙ ch))
      (λ q f. all_in (Off s q) w.path ps f d.among) (d.children c x tx ch) (record { node = k; branch = suc c.index }) ts1
      (λ zs l. tests_on_the_way (retyped s types w.path c.test) c.node c.tree n ts1 g d.less zs l)
  tests_on_the_way types k a n ts (goes_on t1 k1 a1 w e x tx ch n1 ts1 g) deep ps h =
      let d = node_tested s (retyped s) deep types ps k a w e h in
      by_rest d.less types ps k a w e (λ q f. all_in (Off s q) w.path ps f d.among) d.others (record { node = k; branch = 0 }) ts1
      (λ zs l. tests_on_the_way types w.next w.default n ts1 g d.less zs l)

  -- LEMMA: with the reported switch there are at most as many tests on a way as the tree's table has paths
  pub few_on_the_way : (types : Path → ℕ) (k : ℕ) (a : Tree) (n : ℕ) (ts : List Passed) → Goes s (retyped s) types k a n ts → (deep : ℕ) (ps : List Path) → Tested s (retyped s) deep types ps k a
      → suc (length ts) ≤ length (path_table a)
  few_on_the_way types k a n ts g deep ps h =
      let r = tests_on_the_way types k a n ts g deep ps h in
      let l = distinct_fewer r.paths (path_table a) r.distinct (record { among = λ p e. unfold path_table in ((table_covers (paths_used a)).among p (r.used p e)) }) in
      omega (arith, r.as_many, l)
