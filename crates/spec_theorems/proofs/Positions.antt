-- Every position that a walk answers is one of the panel, whatever the tree: the root is one, and each step leads from one to another.
use Prim.Native.Nat.{ℕ, ◌+◌, ◌≤◌, ◌<◌}
use Rattle.std.proofs.Common.{arith, eqb-true, leb-true, ltb-true}
use Rattle.std.specs.Prelude.{◌≡◌, Bool, leb, ltb}
use Rattle.std.proofs.Math.Path.{refl, subst}
use Rattle.std.proofs.Math.Bool.{true, false}
use Rattle.std.proofs.lemmas.Bool.{false≢true}
use mathlib.Core.List.{List, [], ◌∷◌}
use Rattle.std.proofs.Math.Option.{Option, none, some}
use Rattle.std.proofs.Math.Dec.{eqb}
use Rattle.base_words.specs.Words.{both, pick}
use Rattle.base_words.specs.WordsLaws.{both_true}
use Rattle.spec_rules.specs.Kinds.{list_record}
use Rattle.spec_rules.specs.PanelFile.{records, record_kind, record_first, record_count, part}
use Rattle.spec_rules.specs.Rows.{Step, pair, tuple, constr, list, listtail, Path, Binding}
use Rattle.spec_rules.specs.SplittingLaws.{All}
use Rattle.spec_rules.specs.Building.{Tree, Cases, absent, leaf, hoist, switch, listswitch, cnil, ccons}
use Rattle.spec_rules.specs.Walking.{Position, panel_root, part_of, tail_of, take_step, follow, Bound, bound, reached, walk}
use Rattle.spec_accepted.specs.PanelFacts.{Holds, kind_holder, held_record, PanelAccepted}
use Rattle.spec_match.specs.Leaves.{AllLeaves, AllLeavesOf}
use Rattle.spec_theorems.specs.Said.{InPanel}
use Rattle.spec_theorems.specs.Positions.{root_in_panel, bounds_same, walk_from}

-- ---- following a path
module _ (v : List ℕ) (a : PanelAccepted v) where
  some_same : (x y : Position) → ◌≡◌ {A = Option Position} (some x) (some y) → x ≡ y
  some_same x y e = cc

  no_position : (y : Position) → ◌≡◌ {A = Option Position} none (some y) → ⊥
  no_position y e = let z : false ≡ true = cc in false≢true z

  part_in_panel : (kind r i : ℕ) (y : Position) → 2 ≤ kind → kind ≤ 5 → r < records v → part_of v kind r i ≡ some y → InPanel v y
  unfolding part_of
  part_in_panel kind r i y low high there e = go (both (eqb (record_kind v r) kind) (ltb i (record_count v r))) refl e
    where
      here : Position
      here = record { place = part v (record_first v r + i); dropped = 0 }

      inside : both (eqb (record_kind v r) kind) (ltb i (record_count v r)) ≡ true → InPanel v here
      inside f =
          let (k, l) = both_true (eqb (record_kind v r) kind) (ltb i (record_count v r)) f in
          let is : record_kind v r ≡ kind = eqb-true (record_kind v r) kind k in
          let holds : Holds v r (record_first v r + i) =
          record { holder = kind_holder v r (omega arith) (omega arith); from = omega arith; to = omega (arith, ltb-true i (record_count v r) l) } in
          record { there = held_record a.is_shaped r (record_first v r + i) there holds; most = omega arith; of_list = λ n. refl }

      go : (b : Bool) → both (eqb (record_kind v r) kind) (ltb i (record_count v r)) ≡ b → ◌≡◌ {A = Option Position} (pick b (some here) none) (some y) → InPanel v y
      go true f g = subst (InPanel v) (some_same here y g) (inside f)
      go false f g = absurd (no_position y g)

  tail_in_panel : (r i : ℕ) (y : Position) → r < records v → tail_of v r i ≡ some y → InPanel v y
  unfolding tail_of
  tail_in_panel r i y there e = go (both (eqb (record_kind v r) list_record) (leb i (record_count v r))) refl e
    where
      here : Position
      here = record { place = r; dropped = i }

      inside : both (eqb (record_kind v r) list_record) (leb i (record_count v r)) ≡ true → InPanel v here
      inside f =
          let (k, l) = both_true (eqb (record_kind v r) list_record) (leb i (record_count v r)) f in
          record { there = there; most = leb-true i (record_count v r) l; of_list = λ n. absurd (n (eqb-true (record_kind v r) list_record k)) }

      go : (b : Bool) → both (eqb (record_kind v r) list_record) (leb i (record_count v r)) ≡ b → ◌≡◌ {A = Option Position} (pick b (some here) none) (some y) → InPanel v y
      go true f g = subst (InPanel v) (some_same here y g) (inside f)
      go false f g = absurd (no_position y g)

  step_in_panel : (u : Step) (x y : Position) → InPanel v x → take_step v u x ≡ some y → InPanel v y
  unfolding take_step
  step_in_panel (pair i t) x y h e = part_in_panel 3 x.place i y (omega arith) (omega arith) h.there e
  step_in_panel (tuple i t) x y h e = part_in_panel 4 x.place i y (omega arith) (omega arith) h.there e
  step_in_panel (constr i b t) x y h e = part_in_panel 5 x.place i y (omega arith) (omega arith) h.there e
  step_in_panel (list i t) x y h e = part_in_panel 2 x.place (x.dropped + i) y (omega arith) (omega arith) h.there e
  step_in_panel (listtail i t) x y h e = tail_in_panel x.place (x.dropped + i) y h.there e

  pub follow_in_panel : (p : Path) (x y : Position) → InPanel v x → follow v p x ≡ some y → InPanel v y
  unfolding follow
  follow_in_panel [] x y h e = subst (InPanel v) (some_same x y e) h
  follow_in_panel (u ∷ p) x y h e = go (take_step v u x) refl (λ z. follow_in_panel p z y)
    where
      go : (o : Option Position) → take_step v u x ≡ o → ((z : Position) → InPanel v z → follow v p z ≡ some y → InPanel v y) → InPanel v y
      go none f ih = absurd (no_position y (rw (f, follow) at e))
      go (some z) f ih = ih z (step_in_panel u x z h f) (rw (f, follow) at e)

  -- ---- the positions at a leaf
  abbrev BoundIn : Bound → Type 0
  BoundIn b = InPanel v b.position

  no_bounds : (ys : List Bound) → ◌≡◌ {A = Option (List Bound)} none (some ys) → ⊥
  no_bounds ys e = let z : false ≡ true = cc in false≢true z

  pub bound_in_panel : (bs : List Binding) (xs : List Bound) → bound v bs ≡ some xs → All BoundIn xs
  unfolding bound
  bound_in_panel [] xs e = subst (All BoundIn) (bounds_same v a [] xs e) tt
  bound_in_panel (b ∷ bs) xs e = go (follow v b.path panel_root) refl (bound v bs) refl (bound_in_panel bs)
    where
      go : (o : Option Position) → follow v b.path panel_root ≡ o → (r : Option (List Bound)) → bound v bs ≡ r
          → ((ys : List Bound) → bound v bs ≡ some ys → All BoundIn ys) → All BoundIn xs
      go none f r g ih = absurd (no_bounds xs (rw (f, bound) at e))
      go (some x) f none g ih = absurd (no_bounds xs (rw (f, g, bound) at e))
      go (some x) f (some ys) g ih =
          subst (All BoundIn) (bounds_same v a (record { name = b.name; position = x } ∷ ys) xs (rw (f, g, bound) at e))
          (follow_in_panel b.path panel_root x (root_in_panel v a) f, ih ys g)

-- ---- a walk that reaches a leaf reaches one of the tree's
-- every leaf is a leaf
mutual
  unfolding AllLeaves

  any_leaves : (a : Tree) → AllLeaves (λ c bs. Unit {0}) a
  any_leaves absent = tt
  any_leaves (leaf c bs) = tt
  any_leaves (hoist c bs a) = any_leaves a
  any_leaves (switch p cs d) = (any_leaves_of cs, any_leaves d)
  any_leaves (listswitch p cs ts d) = (any_leaves_of cs, any_leaves_of ts, any_leaves d)

  any_leaves_of : (cs : Cases) → AllLeavesOf (λ c bs. Unit {0}) cs
  any_leaves_of cnil = tt
  any_leaves_of (ccons t start a cs) = (any_leaves a, any_leaves_of cs)

-- LEMMA: the positions that a walk answers, whatever the tree
pub walk_in_panel : (v : List ℕ) → PanelAccepted v → (a : Tree) (c : ℕ) (xs : List Bound) → walk a v ≡ reached c xs → All (λ b. InPanel v b.position) xs
walk_in_panel v p a c xs e =
    let o = walk_from (λ c bs. Unit {0}) v a (any_leaves a) c xs e in
    bound_in_panel v p o.bindings xs o.read
