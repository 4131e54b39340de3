-- Which switches some value falls out of. In a tree that is `Tested`, tests stand at paths apart from each other, and below each other
-- only as their cases open. Then a value of the subject's type ends at a switch without a leaf exactly if every branch on the way
-- there is one that some part of the tested type takes, each asked alone (`Goes`): `falls_out` of proofs/FallingLaws.antt
-- and `falls_only`.
use Rattle.std.specs.Prelude.{ℕ, zero, suc, ◌+◌, ◌⊎◌, true}
use Rattle.std.proofs.Common.{arith, ◌∙◌}
use Rattle.std.proofs.Math.Path.{◌≡◌, refl, sym, ap, ap₂}
use Rattle.std.proofs.Math.Logic.{inl, inr}
use mathlib.Core.List.{List, [], ◌∷◌, ◌++◌}
use Rattle.std.proofs.Math.Option.{Option, none, some}
use Rattle.spec_rules.specs.SheetFile.{subject}
use Rattle.spec_rules.specs.Rows.{Step, Path, Binding}
use Rattle.spec_rules.specs.Splitting.{Test}
use Rattle.spec_rules.specs.Building.{Tree, absent, leaf, hoist}
use Rattle.spec_rules.specs.Hoisting.{Fallback, Case}
use Rattle.spec_rules.specs.SplittingLaws.{All}
use Rattle.spec_forgotten.specs.Values.{Value, step_into, part_along, shows, length_of, of_type, Passed, Ended, at_clause, without, stuck_on, no_node, took, fell, walk_on}
use Rattle.spec_forgotten.specs.PuttingLaws.{NoTails, Parting, on_shows}
use Rattle.spec_forgotten.specs.TypedPartsLaws.{part_type, type_along, part_typed}
use Rattle.spec_forgotten.specs.NodesFit.{NodeFits}
use Rattle.spec_forgotten.specs.Choosing.{Chosen, Node, node_of}
use Rattle.spec_forgotten.specs.ReachingLaws.{no_node_there, choose_at, go_on, walk_node}

-- ---- one of a list
module _ {A : Type 0} where
  pub data In (x : A) : List A → Type 0 where
    first : (xs : List A) → In x (x ∷ xs)
    later : (y : A) (xs : List A) → In x xs → In x (y ∷ xs)

  pub all_in : (P : A → Type 0) (x : A) (xs : List A) → All P xs → In x xs → P x
  all_in P x xs h (first ys) = h.0
  all_in P x xs h (later y ys i) = all_in P x ys h.1 i

-- ---- ways to end that are no `without`
not_clause : (c n : ℕ) (ts : List Passed) → ◌≡◌ {A = Ended} (at_clause c) (without n ts) → ⊥
not_clause c n ts e = let z : ◌≡◌ {A = ℕ} 0 1 = cc in absurd (omega arith)

not_stuck : (n : ℕ) (ts : List Passed) → ◌≡◌ {A = Ended} stuck_on (without n ts) → ⊥
not_stuck n ts e = let z : ◌≡◌ {A = ℕ} 0 1 = cc in absurd (omega arith)

not_none : (n : ℕ) (ts : List Passed) → ◌≡◌ {A = Ended} no_node (without n ts) → ⊥
not_none n ts e = let z : ◌≡◌ {A = ℕ} 0 1 = cc in absurd (omega arith)

same_node : (w x : Node) (o : Option Node) → o ≡ some w → o ≡ some x → w ≡ x
same_node w x o e f = let z : ◌≡◌ {A = Option Node} (some w) (some x) = sym e ∙ f in cc

pub walk_hoist : (k c : ℕ) (bs : List Binding) (a : Tree) (v : Value) → walk_on k (hoist c bs a) v ≡ walk_on (k + 1) a v
unfolding walk_on
walk_hoist k c bs a v = refl

pub walk_absent : (k : ℕ) (v : Value) → walk_on k absent v ≡ no_node
unfolding walk_on
walk_absent k v = refl

pub walk_leaf : (k c : ℕ) (bs : List Binding) (v : Value) → walk_on k (leaf c bs) v ≡ at_clause c
unfolding walk_on
walk_leaf k c bs v = refl

module _ (s : List ℕ) where
  -- ---- the type at a path does not change with a part put there, or apart from it
  unfoldable pub type_on : ℕ → ℕ → Path → Option Value → ℕ
  unfolding type_along
  type_on d t p none = d
  type_on d t p (some x) = type_along s t p x

  pub type_step : (t : ℕ) (u : Step) (p : Path) (v : Value) → type_along s t (u ∷ p) v ≡ type_on t (part_type s t u v) p (step_into u v)
  unfolding type_along type_on
  type_step t u p v = go (step_into u v)
    where
      go : (o : Option Value) → elim o as (λ z. ℕ) [ none ↦ t | some x ↦ type_along s (part_type s t u v) p x ] ≡ type_on t (part_type s t u v) p o
      go none = refl
      go (some x) = refl

  -- ---- columns that a value has: at each path a part, of the path's type
  abbrev pub There : (Path → ℕ) → Value → Path → Type 0
  There types v z = ((y : Value) × (part_along z v ≡ some y)) × (type_along s (subject s) z v ≡ types z)

  abbrev pub Has : (Path → ℕ) → List Path → Value → Type 0
  Has types ps v = All (There types v) ps

  -- ---- a path that no change at z shows at: z is apart from it, or goes on from it
  pub data Off (q : Path) : Path → Type 0 where
    apart : (z : Path) → Parting z q → Off q z
    above : (u : Step) (x : Path) → Off q (q ++ u ∷ x)

  pub record SameAt (q : Path) (v w : Value) : Type 0 where
    pub same_shows : on_shows shows (part_along q v) ≡ on_shows shows (part_along q w)
    pub same_length : on_shows length_of (part_along q v) ≡ on_shows length_of (part_along q w)

  -- ---- what a branch of a node opens: columns that every value has which takes it; they show neither at the node's own path nor where
  -- the columns before did not
  pub record Opens (w : Node) (types : Path → ℕ) (ps : List Path) (o : Option Chosen) (types' : Path → ℕ) (ps' : List Path) : Type 0 where
    pub has : (v : Value) → of_type s (subject s) v ≡ true → Has types ps v → choose_at w v ≡ some o → Has types' ps' v
    pub off_kept : (q : Path) → All (Off q) ps → All (Off q) ps'
    pub off_self : All (Off w.path) ps'

  -- types below a path that is tested are given by the test
  module _ (below : (Path → ℕ) → Path → Test → Path → ℕ) where
    -- `deep` bounds how many nodes follow one another
    mutual
      pub data Tested : ℕ → (Path → ℕ) → List Path → ℕ → Tree → Type 0 where
        at_absent : (deep : ℕ) (types : Path → ℕ) (ps : List Path) (k : ℕ) → Tested deep types ps k absent
        at_leaf : (deep : ℕ) (types : Path → ℕ) (ps : List Path) (k c : ℕ) (bs : List Binding) → Tested deep types ps k (leaf c bs)
        at_hoist : (deep less : ℕ) → deep ≡ suc less → (types : Path → ℕ) (ps : List Path) (k c : ℕ) (bs : List Binding) (a : Tree)
            → Tested less types ps (k + 1) a → Tested deep types ps k (hoist c bs a)
        at_node : (deep less : ℕ) → deep ≡ suc less → (types : Path → ℕ) (ps : List Path) (k : ℕ) (a : Tree) (w : Node) → node_of k a ≡ some w
            → NoTails w.path → In w.path ps → All (λ z. (z ≡ w.path) ⊎ Parting w.path z) ps
            → ((c : Chosen) (x : Value) → of_type s (types w.path) x ≡ true → w.choose (shows x) (length_of x) ≡ some (some c) → Child less types ps w c)
            → Rest less types ps w → NodeFits s (types w.path) a
            → Tested deep types ps k a

      pub data Child : ℕ → (Path → ℕ) → List Path → Node → Chosen → Type 0 where
        child : (deep : ℕ) (types : Path → ℕ) (ps : List Path) (w : Node) (c : Chosen) (ps' : List Path) → Opens w types ps (some c) (below types w.path c.test) ps'
            → Tested deep (below types w.path c.test) ps' c.node c.tree → Child deep types ps w c

      -- only a default is absent
      pub data Rest : ℕ → (Path → ℕ) → List Path → Node → Type 0 where
        rest : (deep : ℕ) (types : Path → ℕ) (ps : List Path) (w : Node) (ps' : List Path) → Opens w types ps none types ps'
            → Tested deep types ps' w.next w.default
            → (w.default ≡ absent) ⊎ ((v : Value) → walk_on w.next w.default v ≡ no_node → ⊥) → Rest deep types ps w

    -- ---- every branch on the way to switch n, and the missing default there, is one that some part of the tested type takes
    pub data Goes : (Path → ℕ) → ℕ → Tree → ℕ → List Passed → Type 0 where
      goes_hoist : (types : Path → ℕ) (k c : ℕ) (bs : List Binding) (a : Tree) (n : ℕ) (ts : List Passed) → Goes types (k + 1) a n ts → Goes types k (hoist c bs a) n ts
      goes_out : (types : Path → ℕ) (k : ℕ) (a : Tree) (w : Node) → node_of k a ≡ some w → (x : Value) → of_type s (types w.path) x ≡ true
          → w.choose (shows x) (length_of x) ≡ some none → w.default ≡ absent → Goes types k a k []
      goes_case : (types : Path → ℕ) (k : ℕ) (a : Tree) (w : Node) → node_of k a ≡ some w → (x : Value) → of_type s (types w.path) x ≡ true
          → (c : Chosen) → w.choose (shows x) (length_of x) ≡ some (some c) → (n : ℕ) (ts : List Passed)
          → Goes (below types w.path c.test) c.node c.tree n ts → Goes types k a n (record { node = k; branch = Case c.index } ∷ ts)
      goes_on : (types : Path → ℕ) (k : ℕ) (a : Tree) (w : Node) → node_of k a ≡ some w → (x : Value) → of_type s (types w.path) x ≡ true
          → w.choose (shows x) (length_of x) ≡ some none → (n : ℕ) (ts : List Passed)
          → Goes types w.next w.default n ts → Goes types k a n (record { node = k; branch = Fallback } ∷ ts)

    -- ---- a value that ends there
    pub record FallsOut (ps : List Path) (k : ℕ) (a : Tree) (n : ℕ) (ts : List Passed) (v : Value) : Type 0 where
      pub value : Value
      pub typed : of_type s (subject s) value ≡ true
      pub ends : walk_on k a value ≡ without n ts
      pub same : (q : Path) → NoTails q → All (Off q) ps → SameAt q value v

    -- ---- what a tested tree has at a node, and below a hoist
    pub record AtNode (types : Path → ℕ) (ps : List Path) (a : Tree) (w : Node) : Type 0 where
      pub less : ℕ
      pub no_tails : NoTails w.path
      pub among : In w.path ps
      pub apartness : All (λ z. (z ≡ w.path) ⊎ Parting w.path z) ps
      pub children : (c : Chosen) (x : Value) → of_type s (types w.path) x ≡ true → w.choose (shows x) (length_of x) ≡ some (some c) → Child less types ps w c
      pub others : Rest less types ps w
      pub fits : NodeFits s (types w.path) a

    pub node_tested : (deep : ℕ) (types : Path → ℕ) (ps : List Path) (k : ℕ) (a : Tree) (w : Node) → node_of k a ≡ some w → Tested deep types ps k a → AtNode types ps a w
    node_tested deep types ps k a w e (at_absent d2 t2 ps2 k2) = absurd (no_node_there w (unfold node_of in e))
    node_tested deep types ps k a w e (at_leaf d2 t2 ps2 k2 c bs) = absurd (no_node_there w (unfold node_of in e))
    node_tested deep types ps k a w e (at_hoist d2 less l t2 ps2 k2 c bs b h) = absurd (no_node_there w (unfold node_of in e))
    node_tested deep types ps k a w e (at_node d2 less l t2 ps2 k2 a2 x f m i z cs d nf) =
        rw (same_node w x (node_of k a) e f) (record { less = less; no_tails = m; among = i; apartness = z; children = cs; others = d; fits = nf })

    absent_hoist : (c : ℕ) (bs : List Binding) (a : Tree) → ◌≡◌ {A = Tree} absent (hoist c bs a) → ⊥
    absent_hoist c bs a e = let z : ◌≡◌ {A = ℕ} 0 1 = cc in absurd (omega arith)

    leaf_hoist : (c2 : ℕ) (bs2 : List Binding) (c : ℕ) (bs : List Binding) (a : Tree) → ◌≡◌ {A = Tree} (leaf c2 bs2) (hoist c bs a) → ⊥
    leaf_hoist c2 bs2 c bs a e = let z : ◌≡◌ {A = ℕ} 0 1 = cc in absurd (omega arith)

    pub hoist_tested : (deep : ℕ) (types : Path → ℕ) (ps : List Path) (k c : ℕ) (bs : List Binding) (a b : Tree) → b ≡ hoist c bs a → Tested deep types ps k b
        → (less : ℕ) × Tested less types ps (k + 1) a
    hoist_tested deep types ps k c bs a b e (at_absent d2 t2 ps2 k2) = absurd (absent_hoist c bs a e)
    hoist_tested deep types ps k c bs a b e (at_leaf d2 t2 ps2 k2 c2 bs2) = absurd (leaf_hoist c2 bs2 c bs a e)
    hoist_tested deep types ps k c bs a b e (at_hoist d2 less l t2 ps2 k2 c2 bs2 b2 h) = let x : b2 ≡ a = cc in (less, rw (← x) h)
    hoist_tested deep types ps k c bs a b e (at_node d2 less l t2 ps2 k2 a2 w f m i z cs d nf) = absurd (no_node_there w (unfold node_of in (rw e at f)))

    -- ---- and every value that ends there took only such branches
    -- how the walk went on
    took_without : (k b n : ℕ) (ts : List Passed) (e : Ended) → took k b e ≡ without n ts
        → (us : List Passed) × (e ≡ without n us) × (ts ≡ record { node = k; branch = b } ∷ us)
    unfolding took
    took_without k b n ts (at_clause c) h = absurd (not_clause c n ts h)
    took_without k b n ts (without m us) h =
        let x : m ≡ n = cc in
        let y : ◌≡◌ {A = List Passed} (record { node = k; branch = b } ∷ us) ts = cc in
        (us, ap (λ j. without j us) x, sym y)
    took_without k b n ts stuck_on h = absurd (not_stuck n ts h)
    took_without k b n ts no_node h = absurd (not_none n ts h)

    fell_without : (k n : ℕ) (ts : List Passed) (e : Ended) → fell k e ≡ without n ts
        → ((e ≡ no_node) × (n ≡ k) × (ts ≡ [])) ⊎ ((us : List Passed) × (e ≡ without n us) × (ts ≡ record { node = k; branch = Fallback } ∷ us))
    unfolding fell
    fell_without k n ts (at_clause c) h = absurd (not_clause c n ts h)
    fell_without k n ts (without m us) h = inr (took_without k Fallback n ts (without m us) h)
    fell_without k n ts stuck_on h = absurd (not_stuck n ts h)
    fell_without k n ts no_node h = let x : k ≡ n = cc in let y : ◌≡◌ {A = List Passed} [] ts = cc in inl (refl, sym x, sym y)

    absent_default : (deep : ℕ) (types : Path → ℕ) (ps : List Path) (w : Node) → Rest deep types ps w → (v : Value) → walk_on w.next w.default v ≡ no_node → w.default ≡ absent
    absent_default deep types ps w (rest d2 t2 ps2 w2 ps' o h (inl e)) v q = e
    absent_default deep types ps w (rest d2 t2 ps2 w2 ps' o h (inr e)) v q = absurd (e v q)

    -- at node w, whose tested part is y: by what it chose
    only_at : (types : Path → ℕ) (k : ℕ) (a : Tree) (w : Node) → node_of k a ≡ some w → (v y : Value) → of_type s (types w.path) y ≡ true
        → w.choose (shows y) (length_of y) ≡ choose_at w v → (n : ℕ) (ts : List Passed) (o : Option (Option Chosen)) → choose_at w v ≡ o → go_on k w v o ≡ without n ts
        → ((c : Chosen) → choose_at w v ≡ some (some c) → (us : List Passed) → walk_on c.node c.tree v ≡ without n us → Goes (below types w.path c.test) c.node c.tree n us)
        → (choose_at w v ≡ some none → (us : List Passed) → walk_on w.next w.default v ≡ without n us → Goes types w.next w.default n us)
        → (walk_on w.next w.default v ≡ no_node → w.default ≡ absent) → Goes types k a n ts
    only_at types k a w f v y ty ch n ts none q e case on none_is = absurd (not_stuck n ts e)
    only_at types k a w f v y ty ch n ts (some (some c)) q e case on none_is =
        let (us, x, z) = took_without k (Case c.index) n ts (walk_on c.node c.tree v) e in
        rw z (goes_case types k a w f y ty c (ch ∙ q) n us (case c q us x))
    only_at types k a w f v y ty ch n ts (some none) q e case on none_is = go (fell_without k n ts (walk_on w.next w.default v) e)
      where
        go : ((walk_on w.next w.default v ≡ no_node) × (n ≡ k) × (ts ≡ []))
            ⊎ ((us : List Passed) × (walk_on w.next w.default v ≡ without n us) × (ts ≡ record { node = k; branch = Fallback } ∷ us)) → Goes types k a n ts
        go (inl (x, m, z)) = rw (m, z) (goes_out types k a w f y ty (ch ∙ q) (none_is x))
        go (inr (us, x, z)) = rw z (goes_on types k a w f y ty (ch ∙ q) n us (on q us x))

    -- what holds of every tree no deeper than `deep`
    abbrev Only : ℕ → Type 0
    Only deep = (types : Path → ℕ) (ps : List Path) (k : ℕ) (a : Tree) → Tested deep types ps k a → (v : Value) → of_type s (subject s) v ≡ true → Has types ps v
        → (n : ℕ) (ts : List Passed) → walk_on k a v ≡ without n ts → Goes types k a n ts

    only_child : (less : ℕ) → Only less → (types : Path → ℕ) (ps : List Path) (w : Node) (c : Chosen) → Child less types ps w c
        → (v : Value) → of_type s (subject s) v ≡ true → Has types ps v → choose_at w v ≡ some (some c) → (n : ℕ) (us : List Passed)
        → walk_on c.node c.tree v ≡ without n us → Goes (below types w.path c.test) c.node c.tree n us
    only_child less ih types ps w c (child d2 t2 ps2 w2 c2 ps' o h) v tv hv q n us e =
        ih (below types w.path c.test) ps' c.node c.tree h v tv (o.has v tv hv q) n us e

    only_rest : (less : ℕ) → Only less → (types : Path → ℕ) (ps : List Path) (w : Node) → Rest less types ps w
        → (v : Value) → of_type s (subject s) v ≡ true → Has types ps v → choose_at w v ≡ some none → (n : ℕ) (us : List Passed)
        → walk_on w.next w.default v ≡ without n us → Goes types w.next w.default n us
    only_rest less ih types ps w (rest d2 t2 ps2 w2 ps' o h only) v tv hv q n us e = ih types ps' w.next w.default h v tv (o.has v tv hv q) n us e

    only_step : (deep : ℕ) → ((less : ℕ) → deep ≡ suc less → Only less) → Only deep
    only_step deep ih types ps k a (at_absent d2 t2 ps2 k2) v tv hv n ts e = absurd (not_none n ts (sym (walk_absent k v) ∙ e))
    only_step deep ih types ps k a (at_leaf d2 t2 ps2 k2 c bs) v tv hv n ts e = absurd (not_clause c n ts (sym (walk_leaf k c bs v) ∙ e))
    only_step deep ih types ps k a (at_hoist d2 less l t2 ps2 k2 c bs b h) v tv hv n ts e =
        goes_hoist types k c bs b n ts (ih less l types ps (k + 1) b h v tv hv n ts (sym (walk_hoist k c bs b v) ∙ e))
    only_step deep ih types ps k a (at_node d2 less l t2 ps2 k2 a2 w f m i z cs d nf) v tv hv n ts e =
        let ((y, part), type) = all_in (There types v) w.path ps hv i in
        let ty : of_type s (types w.path) y ≡ true = rw type at (part_typed s w.path (subject s) v y m tv part) in
        let ch : w.choose (shows y) (length_of y) ≡ choose_at w v = ap₂ w.choose (ap (on_shows shows) (sym part)) (ap (on_shows length_of) (sym part)) in
        only_at types k a w f v y ty ch n ts (choose_at w v) refl (sym (walk_node k v a w f) ∙ e)
        (λ c q us h. only_child less (ih less l) types ps w c (cs c y ty (ch ∙ q)) v tv hv q n us h)
        (λ q us h. only_rest less (ih less l) types ps w d v tv hv q n us h)
        (absent_default less types ps w d v)

    pub falls_only : (deep : ℕ) → Only deep
    falls_only zero = only_step zero (λ less l. absurd (none_less less l))
      where
        none_less : (less : ℕ) → ◌≡◌ {A = ℕ} 0 (suc less) → ⊥
        none_less less l = omega arith
    falls_only (suc deep) = only_step (suc deep) (λ less l. let e : deep ≡ less = omega arith in rw (← e) (falls_only deep))
