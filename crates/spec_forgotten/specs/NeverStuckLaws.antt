-- The walk of a value of the subject's type is never stuck: in a tested tree each switch finds a part at its path, of the type that its
-- tests are of, and goes on by a case or by its default.
use Rattle.std.specs.Prelude.{ℕ, zero, suc, ◌+◌, ◌≡◌, refl, true, List}
use Rattle.std.proofs.Common.{arith, sym, ap, ap₂, ◌∙◌}
use Rattle.std.proofs.Math.Option.{Option, none, some}
use Rattle.spec_rules.specs.SheetFile.{subject}
use Rattle.spec_rules.specs.Rows.{Path}
use Rattle.spec_rules.specs.Building.{Tree}
use Rattle.spec_rules.specs.Hoisting.{Case}
use Rattle.spec_match.specs.ColumnTypes.{retyped}
use Rattle.spec_forgotten.specs.Values.{Value, shows, length_of, of_type, Ended, at_clause, without, stuck_on, no_node, took, fell, walk_on}
use Rattle.spec_forgotten.specs.PuttingLaws.{on_shows}
use Rattle.spec_forgotten.specs.TypedPartsLaws.{part_typed}
use Rattle.spec_forgotten.specs.Choosing.{Chosen, Node}
use Rattle.spec_forgotten.specs.ReachingLaws.{choose_at, go_on, walk_node}
use Rattle.spec_forgotten.specs.NodesFit.{goes_on_somewhere}
use Rattle.spec_forgotten.specs.FallingLaws.{all_in, There, Has, Tested, at_absent, at_leaf, at_hoist, at_node, Child, child, Rest, rest, walk_absent, walk_leaf, walk_hoist}

not_stuck_clause : (c : ℕ) → ◌≡◌ {A = Ended} (at_clause c) stuck_on → ⊥
not_stuck_clause c e = let z : ◌≡◌ {A = ℕ} 0 1 = cc in absurd (omega arith)

not_stuck_none : ◌≡◌ {A = Ended} no_node stuck_on → ⊥
not_stuck_none e = let z : ◌≡◌ {A = ℕ} 0 1 = cc in absurd (omega arith)

took_stuck : (k b : ℕ) (e : Ended) → took k b e ≡ stuck_on → e ≡ stuck_on
unfolding took
took_stuck k b (at_clause c) h = h
took_stuck k b (without n ts) h = let z : ◌≡◌ {A = ℕ} 0 1 = cc in absurd (omega arith)
took_stuck k b stuck_on h = refl
took_stuck k b no_node h = h

fell_stuck : (k : ℕ) (e : Ended) → fell k e ≡ stuck_on → e ≡ stuck_on
unfolding fell took
fell_stuck k (at_clause c) h = h
fell_stuck k (without n ts) h = let z : ◌≡◌ {A = ℕ} 0 1 = cc in absurd (omega arith)
fell_stuck k stuck_on h = refl
fell_stuck k no_node h = let z : ◌≡◌ {A = ℕ} 0 1 = cc in absurd (omega arith)

module _ (s : List ℕ) where
  abbrev Never : ℕ → Type 0
  Never deep = (types : Path → ℕ) (ps : List Path) (k : ℕ) (a : Tree) → Tested s (retyped s) deep types ps k a → (v : Value) → of_type s (subject s) v ≡ true → Has s types ps v
      → walk_on k a v ≡ stuck_on → ⊥

  by_child : (less : ℕ) → Never less → (types : Path → ℕ) (ps : List Path) (w : Node) (c : Chosen) → Child s (retyped s) less types ps w c
      → (v : Value) → of_type s (subject s) v ≡ true → Has s types ps v → choose_at w v ≡ some (some c) → walk_on c.node c.tree v ≡ stuck_on → ⊥
  by_child less ih types ps w c (child d2 t2 ps2 w2 c2 zs o h) v tv hv q e = ih (retyped s types w.path c.test) zs c.node c.tree h v tv (o.has v tv hv q) e

  by_rest : (less : ℕ) → Never less → (types : Path → ℕ) (ps : List Path) (w : Node) → Rest s (retyped s) less types ps w
      → (v : Value) → of_type s (subject s) v ≡ true → Has s types ps v → choose_at w v ≡ some none → walk_on w.next w.default v ≡ stuck_on → ⊥
  by_rest less ih types ps w (rest d2 t2 ps2 w2 zs o h only) v tv hv q e = ih types zs w.next w.default h v tv (o.has v tv hv q) e

  step : (deep : ℕ) → ((less : ℕ) → deep ≡ suc less → Never less) → Never deep
  step deep ih types ps k a (at_absent d2 t2 ps2 k2) v tv hv e = not_stuck_none (sym (walk_absent k v) ∙ e)
  step deep ih types ps k a (at_leaf d2 t2 ps2 k2 c bs) v tv hv e = not_stuck_clause c (sym (walk_leaf k c bs v) ∙ e)
  step deep ih types ps k a (at_hoist d2 less l t2 ps2 k2 c bs b h) v tv hv e = ih less l types ps (k + 1) b h v tv hv (sym (walk_hoist k c bs b v) ∙ e)
  step deep ih types ps k a (at_node d2 less l t2 ps2 k2 a2 w f m i z cs d nf) v tv hv e =
      let ((y, part), type) = all_in (There s types v) w.path ps hv i in
      let ty : of_type s (types w.path) y ≡ true = rw type at (part_typed s w.path (subject s) v y m tv part) in
      let ch : w.choose (shows y) (length_of y) ≡ choose_at w v = ap₂ w.choose (ap (on_shows shows) (sym part)) (ap (on_shows length_of) (sym part)) in
      let (o, q) = goes_on_somewhere s k (types w.path) a w f nf y ty in
      go y ty ch o (sym ch ∙ q) (sym (walk_node k v a w f) ∙ e)
    where
      go : (y : Value) → of_type s (types w.path) y ≡ true → w.choose (shows y) (length_of y) ≡ choose_at w v → (o : Option Chosen) → choose_at w v ≡ some o → go_on k w v (choose_at w v) ≡ stuck_on → ⊥
      go y ty ch none q h =
          by_rest less (ih less l) types ps w d v tv hv q (fell_stuck k (walk_on w.next w.default v) (ap (go_on k w v) (sym q) ∙ h))
      go y ty ch (some c) q h =
          by_child less (ih less l) types ps w c (cs c y ty (ch ∙ q)) v tv hv q (took_stuck k (Case c.index) (walk_on c.node c.tree v) (ap (go_on k w v) (sym q) ∙ h))

  -- LEMMA: the walk in a tested tree is not stuck
  pub walk_not_stuck : (deep : ℕ) → Never deep
  walk_not_stuck zero = step zero (λ less l. absurd (none_less less l))
    where
      none_less : (less : ℕ) → ◌≡◌ {A = ℕ} 0 (suc less) → ⊥
      none_less less l = omega arith
  walk_not_stuck (suc deep) = step (suc deep) (λ less l. let e : deep ≡ less = omega arith in rw (← e) (walk_not_stuck deep))
