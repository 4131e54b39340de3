-- The tree of an accepted sheet is `Tested`: its tests stand at paths apart from each other, and below each other only as their cases
-- open. Said of every well-made tree that is the built one once its hoists are taken out (`built-tested`).
use Prim.Native.Nat.{ℕ, zero, suc, ◌+◌, ◌≤◌, ◌<◌}
use Rattle.std.proofs.Common.{arith, sym, ◌∙◌, true≢false, eqb-true}
use Rattle.std.proofs.Math.Path.{◌≡◌, refl, ap, ap₂}
use Rattle.std.specs.Prelude.{◌⊎◌, Bool, true, false, eqb}
use Rattle.std.proofs.Math.Logic.{inl, inr, ⊎_elim}
use Rattle.std.proofs.lemmas.Bool.{false≢true}
use mathlib.Core.List.{List, [], ◌∷◌, ◌++◌, append_assoc}
use Rattle.std.proofs.Math.Option.{Option, none, some}
use Rattle.base_words.specs.Words.{both}
use Rattle.base_words.specs.WordsLaws.{both_true, either_true, either_false}
use Rattle.spec_rules.specs.SheetFile.{subject, types as count, type_kind}
use Rattle.spec_rules.specs.Patterns.{Pat, discard, variable, assign, integer, bytestring, listed, tailed, constructor, opened, many, takes_arguments, fits, fit_all}
use Rattle.spec_rules.specs.Rows.{Step, Path, same_path, Row}
use Rattle.spec_rules.specs.Columns.{union, without, test_at, choice}
use Rattle.spec_rules.specs.Splitting.{Test, Constr, Int, Bytes, ListOf, ListWithTail, column, Met, is_met, cases_of, covers, case_rows, case_opens, default_rows}
use Rattle.spec_rules.specs.SplittingLaws.{All, any_covers, same_test_sound}
use Rattle.spec_rules.proofs.SplittingLaws.{case_covered}
use Rattle.spec_rules.specs.Building.{Tree, Cases, absent, leaf, hoist, switch, listswitch, leaf_of, is_list, has_list}
use Rattle.spec_rules.specs.Hoisting.{how_many, nodes_in, nodes_in_of}
use Rattle.spec_accepted.specs.SheetFacts.{Typed}
use Rattle.spec_hoist.specs.Trees.{is_present, WellMade, unhoisted, unhoisted_of}
use Rattle.spec_match.specs.Lists.{all_append, all_map, all_both}
use Rattle.spec_match.specs.Paths.{same_path_sound}
use Rattle.spec_match.specs.Tests.{TestRow}
use Rattle.spec_match.specs.Depth.{cases_on, only, is_tail, is_exact, node_on, case_columns, matrix_tree, only_met, tree_induction}
use Rattle.spec_match.specs.Apart.{Apart, apart_sym, is_column, all_column}
use Rattle.spec_match.specs.Order.{SameOrApart, column_apart, without_apart, choice_in}
use Rattle.spec_match.specs.Typing.{takes}
use Rattle.spec_match.specs.ColumnTypes.{Resolved, TypedBy, case_step, case_part, type_after, retyped, retyped_apart, retyped_new, column_typed}
use Rattle.spec_forgotten.specs.Values.{Value, step_into, part_along, shows, length_of, of_type, no_node, walk_on}
use Rattle.spec_forgotten.specs.PuttingLaws.{NoTails, Parting, here, further, on_shows, and_on, along_step}
use Rattle.spec_forgotten.specs.TypedPartsLaws.{part_type, type_along, part_typed}
use Rattle.spec_forgotten.specs.Choosing.{Chosen, by_test, by_length, Node, node_of}
use Rattle.spec_forgotten.specs.OpenedParts.{stands_under, led_typed, legal_there, Takes, case_plain, case_there}
use Rattle.spec_forgotten.specs.KnownTypes.{after_known, TestOf, case_known}
use Rattle.spec_forgotten.proofs.SomewhereLaws.{walk_somewhere}
use Rattle.spec_forgotten.specs.CasesFound.{lookup_found, each_met, shows_takes, by_test_lem, ByLength, exactly, at_least, by_length_lem}
use Rattle.spec_forgotten.specs.NodesFit.{MayShow, NodeFits}
use Rattle.spec_forgotten.specs.MatrixLaws.{texts_fit, all_without, Kept, Good, NewIn, new_columns, good_case, good_default, column_kept}
use Rattle.spec_forgotten.specs.FallingLaws.{In, first, later, type_on, type_step, There, Off, apart, above, Opens, Tested, at_absent, at_leaf, at_hoist, at_node, child, rest}

-- ---- paths
parting_longer : (z q : Path) → Parting z q → (x : Path) → Parting (z ++ x) q
parting_longer z q (here s u a b n d) x = here s u (a ++ x) b n d
parting_longer z q (further s a b n h) x = further s (a ++ x) b n (parting_longer a b h x)

parting_of : (y z : Path) → Apart y z → NoTails z → Parting y z
parting_of y z a n = rw (a.left, a.right) (go a.shared (rw a.right at n))
  where
    go : (p : Path) → NoTails (p ++ a.two ∷ a.end_two) → Parting (p ++ a.one ∷ a.end_one) (p ++ a.two ∷ a.end_two)
    go [] n = here a.one a.two a.end_one a.end_two n.0 a.differ
    go (u ∷ p) n = further u (p ++ a.one ∷ a.end_one) (p ++ a.two ∷ a.end_two) n.0 (go p n.1)

column_in : (p : Path) (ps : List Path) → is_column p ps ≡ true → In p ps
unfolding is_column
column_in p [] e = absurd (false≢true e)
column_in p (q ∷ ps) e = go (either_true (same_path p q) (is_column p ps) e) (column_in p ps)
  where
    go : (same_path p q ≡ true) ⊎ (is_column p ps ≡ true) → (is_column p ps ≡ true → In p ps) → In p (q ∷ ps)
    go (inl x) ih = rw (← same_path_sound p q x) (first ps)
    go (inr x) ih = later q ps (ih x)

-- ---- the part that a path leads to, from where its start leads
module _ (s : List ℕ) where
  no_part : (y : Value) → ◌≡◌ {A = Option Value} none (some y) → ⊥
  no_part y e = let z : ◌≡◌ {A = ℕ} 0 1 = cc in absurd (omega arith)

  part_append : (p x : Path) (v y : Value) → part_along p v ≡ some y → part_along (p ++ x) v ≡ part_along x y
  unfolding part_along and_on
  part_append [] x v y e = let w : v ≡ y = cc in ap (part_along x) w
  part_append (u ∷ p) x v y e = along_step u (p ++ x) v ∙ go (step_into u v) (sym (along_step u p v) ∙ e) (part_append p x)
    where
      go : (o : Option Value) → and_on p o ≡ some y → ((w y : Value) → part_along p w ≡ some y → part_along (p ++ x) w ≡ part_along x y) → and_on (p ++ x) o ≡ part_along x y
      go none h ih = absurd (no_part y h)
      go (some w) h ih = ih w y h

  type_append : (p x : Path) (t : ℕ) (v y : Value) → part_along p v ≡ some y → type_along s t (p ++ x) v ≡ type_along s (type_along s t p v) x y
  unfolding type_along part_along and_on type_on
  type_append [] x t v y e = let w : v ≡ y = cc in ap (type_along s t x) w
  type_append (u ∷ p) x t v y e =
      type_step s t u (p ++ x) v
      ∙ go (step_into u v) (sym (along_step u p v) ∙ e) (type_append p x (part_type s t u v))
      ∙ ap (λ m. type_along s m x y) (sym (type_step s t u p v))
    where
      go : (o : Option Value) → and_on p o ≡ some y → ((w y : Value) → part_along p w ≡ some y → type_along s (part_type s t u v) (p ++ x) w ≡ type_along s (type_along s (part_type s t u v) p w) x y)
          → type_on s t (part_type s t u v) (p ++ x) o ≡ type_along s (type_on s t (part_type s t u v) p o) x y
      go none h ih = absurd (no_part y h)
      go (some w) h ih = ih w y h

module _ (s : List ℕ) where
  -- ---- the tests of a column are such as a part of its type shows
  abbrev Of : ℕ → Pat → Type 0
  Of t q = Resolved s q t × Kept s q

  column_of : (types : Path → ℕ) (p : Path) (rs : List Row) → All (λ r. All (TypedBy s types) r.tests) rs → All (λ r. All (λ c. Kept s c.pattern) r.tests) rs
      → All (Of (types p)) (column p rs)
  unfolding column
  column_of types p [] h k = tt
  column_of types p (r ∷ rs) h k = go (test_at p r.tests) refl (column_of types p rs h.1 k.1)
    where
      go : (o : Option Pat) → test_at p r.tests ≡ o → All (Of (types p)) (column p rs) → All (Of (types p)) (column p (r ∷ rs))
      go none x ih = rw (x, column) ih
      go (some q) x ih = rw (x, column) ((column_typed s types p r q x h.0, column_kept s p r q x k.0), ih)

  covered_shows : (t : ℕ) (q : Pat) (u : Test) → Of t q → is_list q ≡ false → covers q u ≡ true → MayShow s t u
  unfolding Resolved fits texts_fit is_list covers MayShow
  covered_shows t (discard m) u h l c = absurd (false≢true c)
  covered_shows t (variable m x) u h l c = absurd (false≢true c)
  covered_shows t (assign m x q) u h l c = absurd (false≢true c)
  covered_shows t (integer m at w) u (r, (f, x)) l c = rw (same_test_sound u (Int w) c) (rw r.0 at (eqb-true (type_kind s m.type) 0 f), x)
  covered_shows t (bytestring m at w) u (r, (f, x)) l c = rw (same_test_sound u (Bytes w) c) (rw r.0 at (eqb-true (type_kind s m.type) 1 f), x)
  covered_shows t (listed m qs) u h l c = absurd (true≢false l)
  covered_shows t (tailed m qs q) u h l c = absurd (true≢false l)
  covered_shows t (constructor m a qs) u (r, (f, x)) l c =
      let d = (both_true (takes_arguments s m.type a (many qs)) (fit_all qs s) f).0 in
      let (k, n, e) = takes s [] t a (many qs) (rw r.0 at d) in
      rw (same_test_sound u (Constr a) c) (k, n)
  covered_shows t (opened m o qs) u h l c = absurd (false≢true c)

  list_of : (t : ℕ) (q : Pat) → Of t q → is_list q ≡ true → type_kind s t ≡ 2
  unfolding Resolved fits is_list
  list_of t (discard m) h l = absurd (false≢true l)
  list_of t (variable m x) h l = absurd (false≢true l)
  list_of t (assign m x q) h l = absurd (false≢true l)
  list_of t (integer m at w) h l = absurd (false≢true l)
  list_of t (bytestring m at w) h l = absurd (false≢true l)
  list_of t (listed m qs) (r, (f, x)) l = rw r.0 at (eqb-true (type_kind s m.type) 2 (both_true (eqb (type_kind s m.type) 2) (fit_all qs s) f).0)
  list_of t (tailed m qs q) (r, (f, x)) l = rw r.0 at (eqb-true (type_kind s m.type) 2 (both_true (eqb (type_kind s m.type) 2) (both (fit_all qs s) (fits q s)) f).0)
  list_of t (constructor m a qs) h l = absurd (false≢true l)
  list_of t (opened m o qs) h l = absurd (false≢true l)

  met_shows : (t : ℕ) (qs : List Pat) → All (Of t) qs → has_list qs ≡ false → (u : Test) → any_covers u qs ≡ true → MayShow s t u
  unfolding has_list any_covers
  met_shows t [] h l u c = absurd (false≢true c)
  met_shows t (q ∷ qs) h l u c =
      let (a, b) = either_false (is_list q) (has_list qs) l in
      ⊎_elim (λ x. covered_shows t q u h.0 a x) (λ x. met_shows t qs h.1 b u x) (either_true (covers q u) (any_covers u qs) c)

  lists_of : (t : ℕ) (qs : List Pat) → All (Of t) qs → has_list qs ≡ true → type_kind s t ≡ 2
  unfolding has_list
  lists_of t [] h l = absurd (false≢true l)
  lists_of t (q ∷ qs) h l = ⊎_elim (λ x. list_of t q h.0 x) (λ x. lists_of t qs h.1 x) (either_true (is_list q) (has_list qs) l)

  -- ---- columns of a case that a value has
  kept_there : (types : Path → ℕ) (p : Path) (u : Test) (v : Value) (z : Path) → Apart p z → There s types v z → There s (retyped s types p u) v z
  kept_there types p u v z a (y, t) = (y, t ∙ sym (retyped_apart s types p u z a))

  new_there : (types : Path → ℕ) (p : Path) (u : Test) (v y : Value) → NoTails p → of_type s (subject s) v ≡ true → part_along p v ≡ some y
      → type_along s (subject s) p v ≡ types p → Takes s u y → (z : Path) → NewIn s p u (types p) z → There s (retyped s types p u) v z
  new_there types p u v y n tv part type k z (i, x, e, l, legal, bounded) =
      let t = types p in
      let ty : of_type s t y ≡ true = rw type at (part_typed s p (subject s) v y n tv part) in
      let led = case_there s u t y ty k i l in
      let below = legal_there s x (case_part s u t i) led.part (led_typed s t (case_step u t i) y (case_part s u t i) led (case_plain s u t i) ty) legal bounded in
      let at = stands_under s t (case_step u t i) x y (case_part s u t i) (type_after s (case_part s u t i) x) led below in
      rw e (
        (at.part, part_append s p (case_step u t i ∷ x) v y part ∙ at.there),
        type_append s p (case_step u t i ∷ x) (subject s) v y part ∙ ap (λ a. type_along s a (case_step u t i ∷ x) y) type ∙ at.type ∙ sym (retyped_new s types p u i x),
      )

  off_longer : (q z : Path) (u : Step) (x : Path) → Off s q z → Off s q (z ++ u ∷ x)
  off_longer q z u x (apart r h) = apart (z ++ u ∷ x) (parting_longer z q h (u ∷ x))
  off_longer q z u x (above w y) = rw (append_assoc q (w ∷ y) (u ∷ x)) (above w (y ++ u ∷ x))

  module _ (types : Path → ℕ) (ps : List Path) (rs : List Row) (g : Good s types ps rs) (p : Path) (col : is_column p ps ≡ true)
      (ch : Option Test → Option ℕ → Option (Option Chosen)) (nx : ℕ) (d : Tree) where
    abbrev node : Node
    node = record { path = p; choose = ch; next = nx; default = d }

    plain_path : NoTails p
    plain_path = all_column NoTails p ps g.plain col

    others_apart : All (Apart p) (without p ps)
    others_apart = (without_apart p ps g.apart col).0

    others_off : All (Off s p) (without p ps)
    others_off = all_map (Apart p) (Off s p) (λ z a. apart z (parting_of z p (apart_sym a) plain_path)) (without p ps) others_apart

    opens_case : (c : Chosen) → ((y : Value) → ch (shows y) (length_of y) ≡ some (some c) → Takes s c.test y)
        → Opens s node types ps (some c) (retyped s types p c.test) (case_columns p c.test ps rs)
    unfolding case_columns
    opens_case c taken =
        record {
          has = λ v tv hv e.
              let ((y, part), type) = all_column (There s types v) p ps hv col in
              let chosen : ch (shows y) (length_of y) ≡ some (some c) = ap₂ ch (ap (on_shows shows) (sym part)) (ap (on_shows length_of) (sym part)) ∙ e in
              all_append (There s (retyped s types p c.test) v) (union (case_opens p c.test rs)) (without p ps)
              (all_map (NewIn s p c.test (types p)) (There s (retyped s types p c.test) v)
              (new_there types p c.test v y plain_path tv part type (taken y chosen)) (union (case_opens p c.test rs)) new)
              (all_both (Apart p) (There s types v) (There s (retyped s types p c.test) v) (kept_there types p c.test v) (without p ps) others_apart
              (all_without (There s types v) p ps hv));
          off_kept = λ q off.
              all_append (Off s q) (union (case_opens p c.test rs)) (without p ps)
              (all_map (NewIn s p c.test (types p)) (Off s q)
              (λ z (i, x, e, l, a, b). rw e (off_longer q p (case_step c.test (types p) i) x (all_column (Off s q) p ps off col))) (union (case_opens p c.test rs)) new)
              (all_without (Off s q) p ps off);
          off_self = all_append (Off s p) (union (case_opens p c.test rs)) (without p ps)
              (all_map (NewIn s p c.test (types p)) (Off s p) (λ z (i, x, e, l, a, b). rw e (above (case_step c.test (types p) i) x)) (union (case_opens p c.test rs)) new)
              others_off;
        }
      where
        new : All (NewIn s p c.test (types p)) (union (case_opens p c.test rs))
        new = new_columns s types ps rs p c.test g

    opens_rest : Opens s node types ps none types (without p ps)
    opens_rest =
        record {
          has = λ v tv hv e. all_without (There s types v) p ps hv;
          off_kept = λ q off. all_without (Off s q) p ps off;
          off_self = others_off;
        }

  -- ---- the tree of a matrix, hoisted in any way
  module _ (ty : Typed s) (m : ℕ) where
    -- the types of columns are types of the sheet
    abbrev pub Known : (Path → ℕ) → List Path → Type 0
    Known types ps = All (λ z. types z < count s) ps

    abbrev Built : List Path → List Row → Tree → Type 0
    Built ps rs a = (types : Path → ℕ) → Good s types ps rs → Known types ps → (b : Tree) → unhoisted b ≡ a → WellMade m b → (k deep : ℕ) → nodes_in b ≤ deep → Tested s (retyped s) deep types ps k b

    is_hoist : Tree → Bool
    is_hoist absent = false
    is_hoist (leaf c bs) = false
    is_hoist (hoist c bs a) = true
    is_hoist (switch p cs d) = false
    is_hoist (listswitch p cs ts d) = false

    -- the hoists above a node are passed over
    peel : (types : Path → ℕ) (ps : List Path) (a : Tree)
        → ((b : Tree) → is_hoist b ≡ false → unhoisted b ≡ a → WellMade m b → (k deep : ℕ) → nodes_in b ≤ deep → Tested s (retyped s) deep types ps k b)
        → (b : Tree) → unhoisted b ≡ a → WellMade m b → (k deep : ℕ) → nodes_in b ≤ deep → Tested s (retyped s) deep types ps k b
    unfolding unhoisted WellMade nodes_in is_hoist
    peel types ps a h absent e w k deep l = h absent refl e w k deep l
    peel types ps a h (leaf c bs) e w k deep l = h (leaf c bs) refl e w k deep l
    peel types ps a h (hoist c bs b) e w k zero l = absurd (omega arith)
    peel types ps a h (hoist c bs b) e w k (suc deep) l =
        at_hoist (suc deep) deep refl types ps k c bs b (peel types ps a h b e w.2 (k + 1) deep (omega arith))
    peel types ps a h (switch p cs d) e w k deep l = h (switch p cs d) refl e w k deep l
    peel types ps a h (listswitch p cs ts d) e w k deep l = h (listswitch p cs ts d) refl e w k deep l

    absent_or : (nx : ℕ) (d : Tree) → WellMade m d → (d ≡ absent) ⊎ ((v : Value) → walk_on nx d v ≡ no_node → ⊥)
    unfolding is_present
    absent_or nx absent w = inl refl
    absent_or nx (leaf c bs) w = inr (λ v. walk_somewhere m (leaf c bs) w refl nx v)
    absent_or nx (hoist c bs a) w = inr (λ v. walk_somewhere m (hoist c bs a) w refl nx v)
    absent_or nx (switch p cs d) w = inr (λ v. walk_somewhere m (switch p cs d) w refl nx v)
    absent_or nx (listswitch p cs ts d) w = inr (λ v. walk_somewhere m (listswitch p cs ts d) w refl nx v)

    leaf_built : (ps : List Path) (rs : List Row) → choice ps rs ≡ none → Built ps rs (leaf_of rs)
    unfolding unhoisted is_hoist
    leaf_built ps rs x types g n b e w k deep l = peel types ps (leaf_of rs) plain b e w k deep l
      where
        no_switch : (rs : List Row) (p : Path) (cs : Cases) (d : Tree) → ◌≡◌ {A = Tree} (switch p cs d) (leaf_of rs) → ⊥
        no_switch [] p cs d e = unfold leaf_of in (let z : ◌≡◌ {A = ℕ} 0 1 = cc in absurd (omega arith))
        no_switch (r ∷ rs) p cs d e = unfold leaf_of in (let z : ◌≡◌ {A = ℕ} 0 1 = cc in absurd (omega arith))

        no_list : (rs : List Row) (p : Path) (cs ts : Cases) (d : Tree) → ◌≡◌ {A = Tree} (listswitch p cs ts d) (leaf_of rs) → ⊥
        no_list [] p cs ts d e = unfold leaf_of in (let z : ◌≡◌ {A = ℕ} 0 1 = cc in absurd (omega arith))
        no_list (r ∷ rs) p cs ts d e = unfold leaf_of in (let z : ◌≡◌ {A = ℕ} 0 1 = cc in absurd (omega arith))

        plain : (b : Tree) → is_hoist b ≡ false → unhoisted b ≡ leaf_of rs → WellMade m b → (k deep : ℕ) → nodes_in b ≤ deep → Tested s (retyped s) deep types ps k b
        plain absent i e w k deep l = at_absent deep types ps k
        plain (leaf c bs) i e w k deep l = at_leaf deep types ps k c bs
        plain (hoist c bs a) i e w k deep l = absurd (true≢false i)
        plain (switch p cs d) i e w k deep l = absurd (no_switch rs p (unhoisted_of cs) (unhoisted d) e)
        plain (listswitch p cs ts d) i e w k deep l = absurd (no_list rs p (unhoisted_of cs) (unhoisted_of ts) (unhoisted d) e)

    shown_kind : (t : ℕ) (u : Test) → MayShow s t u → TestOf s ty t u
    unfolding MayShow
    shown_kind t (Constr a) h = h
    shown_kind t (Int w) h = tt
    shown_kind t (Bytes w) h = tt
    shown_kind t (ListOf n) h = absurd h
    shown_kind t (ListWithTail n) h = absurd h

    -- a chosen child is the tree of its case
    record Chose (f : Test → Tree) (ms : List Met) (less t : ℕ) (c : Chosen) (y : Value) : Type 0 where
      met : is_met c.test ms ≡ true
      tree : unhoisted c.tree ≡ f c.test
      made : WellMade m c.tree
      fewer : nodes_in c.tree ≤ less
      taken : Takes s c.test y
      kind : TestOf s ty t c.test

    known_case : (types : Path → ℕ) (ps : List Path) (rs : List Row) (p : Path) (u : Test) → is_column p ps ≡ true → Good s types ps rs → TestOf s ty (types p) u
        → Known types ps → Known (retyped s types p u) (case_columns p u ps rs)
    unfolding case_columns
    known_case types ps rs p u col g k n =
        all_append (λ z. retyped s types p u z < count s) (union (case_opens p u rs)) (without p ps)
        (all_map (NewIn s p u (types p)) (λ z. retyped s types p u z < count s)
        (λ z (i, x, e, l, legal, bounded). rw (e, retyped_new s types p u i x)
        (after_known s ty x (case_part s u (types p) i) (case_known s ty u (types p) i (all_column (λ z. types z < count s) p ps n col) k l) legal bounded))
        (union (case_opens p u rs)) (new_columns s types ps rs p u g))
        (all_both (Apart p) (λ z. types z < count s) (λ z. retyped s types p u z < count s) (λ z a h. rw (retyped_apart s types p u z a) h) (without p ps)
        (without_apart p ps g.apart col).0 (all_without (λ z. types z < count s) p ps n))

    module _ (ps : List Path) (rs : List Row) (p : Path) (x : choice ps rs ≡ some p) (f : Test → Tree) (f0 : Tree)
        (cases : (u : Test) → is_met u (cases_of (column p rs)) ≡ true → Built (case_columns p u ps rs) (case_rows p u rs) (f u))
        (default : Built (without p ps) (default_rows p rs) f0) where
      col : is_column p ps ≡ true
      col = choice_in ps rs p x

      node_built : (types : Path → ℕ) (g : Good s types ps rs) → Known types ps → (k less : ℕ) (a : Tree) (ch : Option Test → Option ℕ → Option (Option Chosen)) (nx : ℕ) (d : Tree)
          → node_of k a ≡ some (record { path = p; choose = ch; next = nx; default = d }) → NodeFits s (types p) a
          → ((c : Chosen) (y : Value) → ch (shows y) (length_of y) ≡ some (some c) → Chose f (cases_of (column p rs)) less (types p) c y)
          → unhoisted d ≡ f0 → WellMade m d → nodes_in d ≤ less → Tested s (retyped s) (suc less) types ps k a
      node_built types g kn k less a ch nx d e fit found ed wd ld =
          at_node (suc less) less refl types ps k a (record { path = p; choose = ch; next = nx; default = d }) e n (column_in p ps col)
          (all_both NoTails (SameOrApart p) (λ z. (z ≡ p) ⊎ Parting p z) (λ z t. ⊎_elim (λ q. inl (sym q)) (λ q. inr (parting_of p z q t))) ps g.plain (column_apart p ps g.apart col))
          (λ c y ty h.
          let r = found c y h in
          child less types ps (record { path = p; choose = ch; next = nx; default = d }) c (case_columns p c.test ps rs)
          (opens_case types ps rs g p col ch nx d c (λ z q. (found c z q).taken))
          (cases c.test r.met (retyped s types p c.test) (good_case s types ps rs p c.test col n g) (known_case types ps rs p c.test col g r.kind kn) c.tree r.tree r.made c.node less r.fewer))
          (rest less types ps (record { path = p; choose = ch; next = nx; default = d }) (without p ps) (opens_rest types ps rs g p col ch nx d)
          (default types (good_default s types ps rs p col g) (all_without (λ z. types z < count s) p ps kn) d ed wd nx less ld) (absent_or nx d wd))
          fit
        where
          n : NoTails p
          n = plain_path types ps rs g p col ch nx d

      switch_built : (types : Path → ℕ) (g : Good s types ps rs) → Known types ps → has_list (column p rs) ≡ false → (cs : Cases) (d : Tree)
          → unhoisted_of cs ≡ cases_on f (cases_of (column p rs)) → unhoisted d ≡ f0 → WellMade m (switch p cs d)
          → (k less : ℕ) → nodes_in (switch p cs d) ≤ suc less → Tested s (retyped s) (suc less) types ps k (switch p cs d)
      unfolding node_of nodes_in WellMade NodeFits
      switch_built types g kn l cs d ec ed w k less most =
          node_built types g kn k less (switch p cs d) (λ t n. by_test k cs t) (k + 1 + nodes_in_of cs) d refl (
            here_known,
            w.0,
            each_met (MayShow s (types p)) f cs (cases_of (column p rs)) ec
                (λ u h. met_shows (types p) (column p rs) (column_of types p rs g.typed g.kept) l u (case_covered u (column p rs) h)),
          )
          found ed w.2 (omega arith)
        where
          here_known : types p < count s
          here_known = all_column (λ z. types z < count s) p ps kn col

          found : (c : Chosen) (y : Value) → by_test k cs (shows y) ≡ some (some c) → Chose f (cases_of (column p rs)) less (types p) c y
          found c y h =
              let (t, e, q) = by_test_lem k cs (shows y) c h in
              let r = lookup_found f m 0 (k + 1) cs (cases_of (column p rs)) ec w.1 t c q in
              record {
                met = r.met;
                tree = r.tree;
                made = r.made;
                fewer = omega (arith, r.fewer, most);
                taken = shows_takes s c.test y (e ∙ ap some r.same);
                kind = shown_kind (types p) c.test
                    (met_shows (types p) (column p rs) (column_of types p rs g.typed g.kept) l c.test (case_covered c.test (column p rs) r.met));
              }

      list_built : (types : Path → ℕ) (g : Good s types ps rs) → Known types ps → has_list (column p rs) ≡ true → (cs ts : Cases) (d : Tree)
          → unhoisted_of cs ≡ cases_on f (only is_exact (cases_of (column p rs))) → unhoisted_of ts ≡ cases_on f (only is_tail (cases_of (column p rs)))
          → unhoisted d ≡ f0 → WellMade m (listswitch p cs ts d)
          → (k less : ℕ) → nodes_in (listswitch p cs ts d) ≤ suc less → Tested s (retyped s) (suc less) types ps k (listswitch p cs ts d)
      unfolding node_of nodes_in WellMade NodeFits
      list_built types g kn l cs ts d ec et ed w k less most =
          node_built types g kn k less (listswitch p cs ts d) (λ t n. by_length k cs ts n) (k + 1 + nodes_in_of cs + nodes_in_of ts) d refl
          (here_known, a_list)
          found ed w.3 (omega arith)
        where
          here_known : types p < count s
          here_known = all_column (λ z. types z < count s) p ps kn col

          a_list : type_kind s (types p) ≡ 2
          a_list = lists_of (types p) (column p rs) (column_of types p rs g.typed g.kept) l

          found : (c : Chosen) (y : Value) → by_length k cs ts (length_of y) ≡ some (some c) → Chose f (cases_of (column p rs)) less (types p) c y
          found c y h = let (n, e, q) = by_length_lem k cs ts (length_of y) c h in go n e q
            where
              go : (n : ℕ) → length_of y ≡ some n → ByLength k cs ts n c → Chose f (cases_of (column p rs)) less (types p) c y
              go n e (exactly q) =
                  let r = lookup_found f m 0 (k + 1) cs (only is_exact (cases_of (column p rs))) ec w.1 (ListOf n) c q in
                  record {
                    met = only_met is_exact c.test (cases_of (column p rs)) r.met;
                    tree = r.tree;
                    made = r.made;
                    fewer = omega (arith, r.fewer, most);
                    taken = rw (← r.same) e;
                    kind = rw (← r.same) a_list;
                  }
              go n e (at_least j le q) =
                  let r = lookup_found f m (how_many cs) (k + 1 + nodes_in_of cs) ts (only is_tail (cases_of (column p rs))) et w.2 (ListWithTail j) c q in
                  record {
                    met = only_met is_tail c.test (cases_of (column p rs)) r.met;
                    tree = r.tree;
                    made = r.made;
                    fewer = omega (arith, r.fewer, most);
                    taken = rw (← r.same) (n, e, le);
                    kind = rw (← r.same) a_list;
                  }

      node_on_list : has_list (column p rs) ≡ true
          → node_on p (column p rs) f f0 ≡ listswitch p (cases_on f (only is_exact (cases_of (column p rs)))) (cases_on f (only is_tail (cases_of (column p rs)))) f0
      unfolding node_on
      node_on_list e = rw (e, node_on)

      node_on_switch : has_list (column p rs) ≡ false → node_on p (column p rs) f f0 ≡ switch p (cases_on f (cases_of (column p rs))) f0
      unfolding node_on
      node_on_switch e = rw (e, node_on)

      -- by what the node is
      by_list : (types : Path → ℕ) → Good s types ps rs → Known types ps → has_list (column p rs) ≡ true → (b : Tree) → is_hoist b ≡ false
          → unhoisted b ≡ listswitch p (cases_on f (only is_exact (cases_of (column p rs)))) (cases_on f (only is_tail (cases_of (column p rs)))) f0
          → WellMade m b → (k deep : ℕ) → nodes_in b ≤ deep → Tested s (retyped s) deep types ps k b
      unfolding unhoisted is_hoist
      by_list types g kn l absent i e w k deep most = let z : ◌≡◌ {A = ℕ} 0 1 = cc in absurd (omega arith)
      by_list types g kn l (leaf c bs) i e w k deep most = let z : ◌≡◌ {A = ℕ} 0 1 = cc in absurd (omega arith)
      by_list types g kn l (hoist c bs a) i e w k deep most = absurd (true≢false i)
      by_list types g kn l (switch q cs d) i e w k deep most = let z : ◌≡◌ {A = ℕ} 0 1 = cc in absurd (omega arith)
      by_list types g kn l (listswitch q cs ts d) i e w k zero most = absurd (none_fit most)
        where
          none_fit : nodes_in (listswitch q cs ts d) ≤ 0 → ⊥
          none_fit h = unfold nodes_in in (omega arith)
      by_list types g kn l (listswitch q cs ts d) i e w k (suc less) most =
          let path : q ≡ p = cc in
          let exact : unhoisted_of cs ≡ cases_on f (only is_exact (cases_of (column p rs))) = cc in
          let tails : unhoisted_of ts ≡ cases_on f (only is_tail (cases_of (column p rs))) = cc in
          let other : unhoisted d ≡ f0 = cc in
          rw path (list_built types g kn l cs ts d exact tails other (rw path at w) k less (rw path at most))

      by_switch : (types : Path → ℕ) → Good s types ps rs → Known types ps → has_list (column p rs) ≡ false → (b : Tree) → is_hoist b ≡ false
          → unhoisted b ≡ switch p (cases_on f (cases_of (column p rs))) f0
          → WellMade m b → (k deep : ℕ) → nodes_in b ≤ deep → Tested s (retyped s) deep types ps k b
      unfolding unhoisted is_hoist
      by_switch types g kn l absent i e w k deep most = let z : ◌≡◌ {A = ℕ} 0 1 = cc in absurd (omega arith)
      by_switch types g kn l (leaf c bs) i e w k deep most = let z : ◌≡◌ {A = ℕ} 0 1 = cc in absurd (omega arith)
      by_switch types g kn l (hoist c bs a) i e w k deep most = absurd (true≢false i)
      by_switch types g kn l (switch q cs d) i e w k zero most = absurd (none_fit most)
        where
          none_fit : nodes_in (switch q cs d) ≤ 0 → ⊥
          none_fit h = unfold nodes_in in (omega arith)
      by_switch types g kn l (switch q cs d) i e w k (suc less) most =
          let path : q ≡ p = cc in
          let all : unhoisted_of cs ≡ cases_on f (cases_of (column p rs)) = cc in
          let other : unhoisted d ≡ f0 = cc in
          rw path (switch_built types g kn l cs d all other (rw path at w) k less (rw path at most))
      by_switch types g kn l (listswitch q cs ts d) i e w k deep most = let z : ◌≡◌ {A = ℕ} 0 1 = cc in absurd (omega arith)

      nodes_built : Built ps rs (node_on p (column p rs) f f0)
      nodes_built types g kn b e w k deep most = go (has_list (column p rs)) refl
        where
          go : (h : Bool) → has_list (column p rs) ≡ h → Tested s (retyped s) deep types ps k b
          go true l =
              peel types ps (listswitch p (cases_on f (only is_exact (cases_of (column p rs)))) (cases_on f (only is_tail (cases_of (column p rs)))) f0)
              (by_list types g kn l) b (e ∙ node_on_list l) w k deep most
          go false l = peel types ps (switch p (cases_on f (cases_of (column p rs))) f0) (by_switch types g kn l) b (e ∙ node_on_switch l) w k deep most

    -- THEOREM: the tree of a matrix is tested, hoisted in any way
    pub matrix_tested : (ps : List Path) (rs : List Row) → All TestRow rs → (types : Path → ℕ) → Good s types ps rs → Known types ps
        → (b : Tree) → unhoisted b ≡ matrix_tree ps rs → WellMade m b → (k deep : ℕ) → nodes_in b ≤ deep → Tested s (retyped s) deep types ps k b
    matrix_tested ps rs h =
        tree_induction Built leaf_built
        (λ ps rs p tests x cases default.
        nodes_built ps rs p x (λ t. matrix_tree (case_columns p t ps rs) (case_rows p t rs)) (matrix_tree (without p ps) (default_rows p rs)) cases default) ps rs h
