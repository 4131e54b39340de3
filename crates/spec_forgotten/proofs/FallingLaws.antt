-- If every branch on the way to a switch without a default is one that some part takes, some value ends there: `falls_out`, the other way
-- round than `falls_only` of specs/FallingLaws.antt.
use Rattle.std.specs.Prelude.{ℕ, ◌+◌, ◌⊎◌, true, false}
use Rattle.std.proofs.Common.{◌∙◌}
use Rattle.std.proofs.Math.Path.{◌≡◌, refl, sym, ap, ap₂}
use Rattle.std.proofs.Math.Logic.{inl, inr}
use mathlib.Core.List.{List, [], ◌∷◌}
use Rattle.std.proofs.Math.Option.{Option, none, some}
use Rattle.spec_rules.specs.SheetFile.{subject}
use Rattle.spec_rules.specs.Rows.{Step, Path}
use Rattle.spec_rules.specs.Splitting.{Test}
use Rattle.spec_rules.specs.Building.{Tree, hoist}
use Rattle.spec_rules.specs.Hoisting.{Fallback, Case}
use Rattle.spec_rules.specs.SplittingLaws.{All}
use Rattle.spec_match.specs.Lists.{all_both}
use Rattle.spec_forgotten.specs.Values.{Value, an_integer, a_byte_string, whole, is_tail, step_into, part_along, shows, length_of, of_type, Passed, without, no_node, took, fell, walk_on}
use Rattle.spec_forgotten.specs.PuttingLaws.{change_part, put_at, NoTails, put_there, Parting, here, further, put_apart, on_shows, put_above, shows_same, length_same, step_changed, step_other, on_some}
use Rattle.spec_forgotten.specs.TypedPartsLaws.{part_type, type_along, put_typed}
use Rattle.spec_forgotten.specs.Choosing.{Chosen, Node, node_of}
use Rattle.spec_forgotten.specs.ReachingLaws.{choose_at, go_on, walk_node}
use Rattle.spec_forgotten.specs.FallingLaws.{In, all_in, walk_hoist, walk_absent, type_on, type_step, There, Has, Off, SameAt, Tested, Child, Rest, Goes, FallsOut, node_tested, hoist_tested, apart, above, child, rest, goes_hoist, goes_out, goes_case, goes_on}

-- ---- ways to end that are no `without`
fell_none : (k : ℕ) → fell k no_node ≡ without k []
unfolding fell
fell_none k = refl

module _ (s : List ℕ) where
  -- ---- the type at a path does not change with a part put there, or apart from it
  part_type_same : (t : ℕ) (u w : Step) (f : Value → Value) (v : Value) → part_type s t u (change_part w f v) ≡ part_type s t u v
  unfolding part_type change_part
  part_type_same t u w f (an_integer x) = refl
  part_type_same t u w f (a_byte_string x) = refl
  part_type_same t u w f (whole k vs) = refl

  type_changed : (t : ℕ) (u : Step) (p : Path) (f : Value → Value) (v : Value) → is_tail u ≡ false
      → type_along s t (u ∷ p) (change_part u f v) ≡ type_on s t (part_type s t u v) p (on_some f (step_into u v))
  type_changed t u p f v n =
      type_step s t u p (change_part u f v) ∙ ap₂ (λ q o. type_on s t q p o) (part_type_same t u u f v) (step_changed u f v n)

  type_there : (p : Path) (t : ℕ) (x v : Value) → NoTails p → type_along s t p (put_at p x v) ≡ type_along s t p v
  unfolding type_along put_at type_on
  type_there [] t x v n = refl
  type_there (u ∷ p) t x v n =
      type_changed t u p (put_at p x) v n.0 ∙ go (step_into u v) (λ w. type_there p (part_type s t u v) x w n.1) ∙ sym (type_step s t u p v)
    where
      go : (o : Option Value) → ((w : Value) → type_along s (part_type s t u v) p (put_at p x w) ≡ type_along s (part_type s t u v) p w)
          → type_on s t (part_type s t u v) p (on_some (put_at p x) o) ≡ type_on s t (part_type s t u v) p o
      go none ih = refl
      go (some w) ih = ih w

  type_apart : (p q : Path) (t : ℕ) (x v : Value) → Parting p q → type_along s t q (put_at p x v) ≡ type_along s t q v
  unfolding put_at type_on
  type_apart p q t x v (here r u a b n d) =
      type_step s t u b (change_part r (put_at a x) v)
      ∙ ap₂ (λ y o. type_on s t y b o) (part_type_same t u r (put_at a x) v) (step_other r u (put_at a x) v n d)
      ∙ sym (type_step s t u b v)
  type_apart p q t x v (further r a b n h) =
      type_changed t r b (put_at a x) v n ∙ go (step_into r v) (λ w. type_apart a b (part_type s t r v) x w h) ∙ sym (type_step s t r b v)
    where
      go : (o : Option Value) → ((w : Value) → type_along s (part_type s t r v) b (put_at a x w) ≡ type_along s (part_type s t r v) b w)
          → type_on s t (part_type s t r v) b (on_some (put_at a x) o) ≡ type_on s t (part_type s t r v) b o
      go none ih = refl
      go (some w) ih = ih w

  -- ---- a path that no change at z shows at: z is apart from it, or goes on from it
  same_trans : (q : Path) (u v w : Value) → SameAt s q u v → SameAt s q v w → SameAt s q u w
  same_trans q u v w a b = record { same_shows = a.same_shows ∙ b.same_shows; same_length = a.same_length ∙ b.same_length }

  put_off : (q z : Path) → NoTails q → Off s q z → (x v : Value) → SameAt s q (put_at z x v) v
  put_off q z n (apart r h) x v = record { same_shows = ap (on_shows shows) (put_apart r q x v h); same_length = ap (on_shows length_of) (put_apart r q x v h) }
  put_off q z n (above u r) x v = record { same_shows = put_above shows shows_same q u r x v n; same_length = put_above length_of length_same q u r x v n }

  choose_same : (w : Node) (u v : Value) → SameAt s w.path u v → choose_at w u ≡ choose_at w v
  choose_same w u v a = ap₂ w.choose a.same_shows a.same_length

  -- types below a path that is tested are given by the test
  module _ (below : (Path → ℕ) → Path → Test → Path → ℕ) where
    -- ---- the value with a part x put where node w tests
    record Ready (types : Path → ℕ) (ps : List Path) (w : Node) (o : Option Chosen) (v u : Value) : Type 0 where
      typed : of_type s (subject s) u ≡ true
      has : Has s types ps u
      takes : choose_at w u ≡ some o
      same : (q : Path) → NoTails q → All (Off s q) ps → SameAt s q u v

    ready : (types : Path → ℕ) (ps : List Path) (w : Node) → NoTails w.path → In w.path ps → All (λ z. (z ≡ w.path) ⊎ Parting w.path z) ps
        → (x : Value) → of_type s (types w.path) x ≡ true → (o : Option Chosen) → w.choose (shows x) (length_of x) ≡ some o
        → (v : Value) → of_type s (subject s) v ≡ true → Has s types ps v → Ready types ps w o v (put_at w.path x v)
    ready types ps w n i apartness x tx o e v tv h =
        let ((y, part), type) = all_in (There s types v) w.path ps h i in
        let put = put_there w.path x v y n part in
        record {
          typed = put_typed s w.path (subject s) x v y n tv part (rw type tx);
          has = all_both (There s types v) (λ z. (z ≡ w.path) ⊎ Parting w.path z) (There s types (put_at w.path x v)) (keep put) ps h apartness;
          takes = ap₂ w.choose (ap (on_shows shows) put) (ap (on_shows length_of) put) ∙ e;
          same = λ q m off. put_off q w.path m (all_in (Off s q) w.path ps off i) x v;
        }
      where
        keep : part_along w.path (put_at w.path x v) ≡ some x → (z : Path) → There s types v z → (z ≡ w.path) ⊎ Parting w.path z → There s types (put_at w.path x v) z
        keep put z (p, t) (inl m) = rw m ((x, put), type_there w.path (subject s) x v n ∙ rw m at t)
        keep put z ((y, p), t) (inr m) = ((y, put_apart w.path z x v m ∙ p), type_apart w.path z (subject s) x v m ∙ t)

    -- ---- if every branch can be taken, a value takes them all
    by_child : (deep : ℕ) (types : Path → ℕ) (ps : List Path) (k : ℕ) (a : Tree) (w : Node) → node_of k a ≡ some w → NoTails w.path → (c : Chosen) (n : ℕ) (ts : List Passed) (v u : Value)
        → Ready types ps w (some c) v u → Child s below deep types ps w c
        → ((ps' : List Path) → Tested s below deep (below types w.path c.test) ps' c.node c.tree → Has s (below types w.path c.test) ps' u → FallsOut s below ps' c.node c.tree n ts u)
        → FallsOut s below ps k a n (record { node = k; branch = Case c.index } ∷ ts) v
    unfolding took
    by_child deep types ps k a w e m c n ts v u r (child d2 t2 ps2 w2 c2 ps' o h) ih =
        let f = ih ps' h (o.has u r.typed r.has r.takes) in
        record {
          value = f.value;
          typed = f.typed;
          ends = walk_node k f.value a w e
              ∙ ap (go_on k w f.value) (choose_same w f.value u (f.same w.path m o.off_self) ∙ r.takes)
              ∙ ap (took k (Case c.index)) f.ends;
          same = λ q l off. same_trans q f.value u v (f.same q l (o.off_kept q off)) (r.same q l off);
        }

    by_rest : (deep : ℕ) (types : Path → ℕ) (ps : List Path) (k : ℕ) (a : Tree) (w : Node) → node_of k a ≡ some w → NoTails w.path → (n : ℕ) (ts : List Passed) (v u : Value)
        → Ready types ps w none v u → Rest s below deep types ps w
        → ((ps' : List Path) → Tested s below deep types ps' w.next w.default → Has s types ps' u → FallsOut s below ps' w.next w.default n ts u)
        → FallsOut s below ps k a n (record { node = k; branch = Fallback } ∷ ts) v
    unfolding fell took
    by_rest deep types ps k a w e m n ts v u r (rest d2 t2 ps2 w2 ps' o h only) ih =
        let f = ih ps' h (o.has u r.typed r.has r.takes) in
        record {
          value = f.value;
          typed = f.typed;
          ends = walk_node k f.value a w e
              ∙ ap (go_on k w f.value) (choose_same w f.value u (f.same w.path m o.off_self) ∙ r.takes)
              ∙ ap (fell k) f.ends;
          same = λ q l off. same_trans q f.value u v (f.same q l (o.off_kept q off)) (r.same q l off);
        }

    pub falls_out : (deep : ℕ) (types : Path → ℕ) (ps : List Path) (k : ℕ) (a : Tree) (n : ℕ) (ts : List Passed) → Goes s below types k a n ts → Tested s below deep types ps k a
        → (v : Value) → of_type s (subject s) v ≡ true → Has s types ps v → FallsOut s below ps k a n ts v
    falls_out deep types ps k a n ts (goes_hoist t1 k1 c bs b n1 ts1 g) h v tv hv =
        let (less, l) = hoist_tested s below deep types ps k c bs b (hoist c bs b) refl h in
        let r = falls_out less types ps (k + 1) b n ts g l v tv hv in
        record { value = r.value; typed = r.typed; ends = walk_hoist k c bs b r.value ∙ r.ends; same = r.same }
    falls_out deep types ps k a n ts (goes_out t1 k1 a1 w e x tx ch ab) h v tv hv =
        let d = node_tested s below deep types ps k a w e h in
        let r = ready types ps w d.no_tails d.among d.apartness x tx none ch v tv hv in
        let u = put_at w.path x v in
        let end : walk_on w.next w.default u ≡ no_node = ap (λ b. walk_on w.next b u) ab ∙ walk_absent w.next u in
        record {
          value = u;
          typed = r.typed;
          ends = walk_node k u a w e ∙ ap (go_on k w u) r.takes ∙ ap (fell k) end ∙ fell_none k;
          same = r.same;
        }
    falls_out deep types ps k a n ts (goes_case t1 k1 a1 w e x tx c ch n1 ts1 g) h v tv hv =
        let d = node_tested s below deep types ps k a w e h in
        let r = ready types ps w d.no_tails d.among d.apartness x tx (some c) ch v tv hv in
        by_child d.less types ps k a w e d.no_tails c n ts1 v (put_at w.path x v) r (d.children c x tx ch)
        (λ ps' l hu. falls_out d.less (below types w.path c.test) ps' c.node c.tree n ts1 g l (put_at w.path x v) r.typed hu)
    falls_out deep types ps k a n ts (goes_on t1 k1 a1 w e x tx ch n1 ts1 g) h v tv hv =
        let d = node_tested s below deep types ps k a w e h in
        let r = ready types ps w d.no_tails d.among d.apartness x tx none ch v tv hv in
        by_rest d.less types ps k a w e d.no_tails n ts1 v (put_at w.path x v) r d.others
        (λ ps' l hu. falls_out d.less types ps' w.next w.default n ts1 g l (put_at w.path x v) r.typed hu)
