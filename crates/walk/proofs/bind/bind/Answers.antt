-- `walk::bind::bind` meets its contract: the loop's invariant is that the bindings left, written after those before, give the words that all of them give.
-- Records and dropped elements of a panel fit a word.
use mathlib.Core.List.{List}
use Rattle.format_records.specs.declared.reading.Binding.{Binding}
use Rattle.std.specs.Prelude.{Err}
use Rattle.walk.specs.BindingsLaws.{left, bindings_start, binding_stuck, given_stuck, given_on, words_on, given_end, words_end}
use Rattle.walk.specs.FollowLaws.{found_some, found_none, found_within, binding_followed, dropped_small}
use Rattle.walk.specs.Bindings.{given_by, words_after}
use Rattle.walk.specs.Positions.{placed, stuck_at}
use Rattle.spec_rules.specs.Rows.{Binding as BindingTo}
use Rattle.spec_rules.specs.Walking.{panel_root, follow, bound as bound_all}
use Rattle.spec_rules.specs.WalkPlaces.{steps_taken}
use Rattle.spec_rules.specs.TreeReader.{path_at}
use Prim.Native.Nat.{ℕ, ◌+◌, ◌*◌}
use native.Mathlib.Omega.{arith}
use mathlib.Core.Path.{refl, sym, ap, ◌∙◌}
use Rattle.walk.proofs.bind.bind.Goals as goal

pub loop-i-init : goal.loop-i-init
loop-i-init c =
    let a = c.args in
    let e = bindings_start a.tree.now a.panel.now a.first a.count in
    (refl, ap (given_by a.panel.now) e, ap (λ (bs : List BindingTo). words_after a.bound.now 0 (bound_all a.panel.now bs)) e)

pub overflow_add-first : goal.overflow_add-first
overflow_add-first c =
    omega (arith, c.requires.1, c.requires.0.bindings_lie)

pub binding_from-b-requires : goal.binding_from-b-requires
binding_from-b-requires c =
    (c.requires.0.bindings_lie, c.requires.0.bindings_start_holds, omega (arith, c.requires.1, c.loop-i-test.true))

pub follow-found-requires : goal.follow-found-requires
follow-found-requires c =
    binding_followed c.requires.0 (c.args.first + c.loop-i.i) c.binding_from-b.result (omega (arith, c.requires.1, c.loop-i-test.true)) c.binding_from-b.ensures

pub shape_of-bound-in_default : goal.shape_of-bound-in_default
shape_of-bound-in_default c =
    c.zero_words.auto.words ∙ c.loop-i.invariant.0

pub returns-in_default : goal.returns-in_default
returns-in_default c =
    let a = c.args in
    let l = c.loop-i in
    let b = c.binding_from-b.result in
    let path = ap (λ (x : Binding). x.path) c.binding_from-b.ensures in
    let lost = found_none a.panel.now (path_at a.tree.now b.path) c.follow-found.result c.in_default.field-0 c.stuck.result c.follow-found.ensures c.in_default.is c.stuck.ensures in
    let h = c.loop-i-test.true in
    let nowhere = ap (λ (k : ℕ). follow a.panel.now (path_at a.tree.now k) panel_root) (sym path) ∙ lost.0 in
    let s = binding_stuck a.tree.now a.panel.now a.first a.count l.i h nowhere in
    let g = given_stuck a.tree.now a.panel.now a.first a.count l.i h nowhere in
    record {
      answer = ap (λ (k : ℕ). Err (stuck_at k)) (lost.1 ∙ ap (λ (k : ℕ). steps_taken a.panel.now (path_at a.tree.now k) panel_root) path) ∙ sym g ∙ l.invariant.1;
      words = c.zero_words.ensures ∙ sym (ap (words_after l.bound (3 * l.i)) s) ∙ l.invariant.2;
    }

pub overflow_mul-i : goal.overflow_mul-i
overflow_mul-i c =
    omega (arith, c.requires.1, c.requires.0.bindings_lie)

pub overflow_cast-p : goal.overflow_cast-p
overflow_cast-p c =
    let a = c.args in
    let w = c.requires.0.followable in
    let b = c.binding_from-b.result in
    let found = found_some a.panel.now (path_at a.tree.now b.path) c.in-At.p (sym c.follow-found.ensures ∙ c.in-At.is) in
    let within = found_within w b.path c.in-At.p found in
    omega (arith, within.place_in, w.opened.laid.records_most_holds)

pub overflow_cast-p-in-loop-i : goal.overflow_cast-p-in-loop-i
overflow_cast-p-in-loop-i c =
    let a = c.args in
    let w = c.requires.0.followable in
    let b = c.binding_from-b.result in
    let found = found_some a.panel.now (path_at a.tree.now b.path) c.in-At.p (sym c.follow-found.ensures ∙ c.in-At.is) in
    let within = found_within w b.path c.in-At.p found in
    omega (arith, dropped_small w.opened.laid w.shaped (placed c.in-At.p) within)

pub put_bound-requires : goal.put_bound-requires
put_bound-requires c =
    omega (arith, c.requires.2, c.loop-i.invariant.0, c.loop-i-test.true)

pub loop-i-preserved : goal.loop-i-preserved
loop-i-preserved c =
    let a = c.args in
    let l = c.loop-i in
    let b = c.binding_from-b.result in
    let found = found_some a.panel.now (path_at a.tree.now b.path) c.in-At.p (sym c.follow-found.ensures ∙ c.in-At.is) in
    let path = ap (λ (x : Binding). x.path) c.binding_from-b.ensures in
    let name = ap (λ (x : Binding). x.name) c.binding_from-b.ensures in
    let there = ap (λ (k : ℕ). follow a.panel.now (path_at a.tree.now k) panel_root) (sym path) ∙ found in
    let h = c.loop-i-test.true in
    let stores = c.put_bound.ensures in (
      c.put_bound.auto.bound ∙ l.invariant.0,
      given_on a.tree.now a.panel.now a.first a.count l.i (placed c.in-At.p) h there ∙ l.invariant.1,
      ap (λ (x : List ℕ). words_after x (3 * (l.i + 1)) (left a.tree.now a.panel.now a.first a.count (l.i + 1))) stores
          ∙ words_on a.tree.now a.panel.now a.first a.count l.bound l.i b.name (placed c.in-At.p) h there name
          ∙ l.invariant.2,
    )

pub shape_of-bound : goal.shape_of-bound
shape_of-bound c = c.loop-i.invariant.0

pub returns : goal.returns
returns c =
    let a = c.args in
    let l = c.loop-i in
    record {
      answer = given_end a.tree.now a.panel.now a.first a.count l.i c.loop-i-test.false ∙ l.invariant.1;
      words = words_end a.tree.now a.panel.now a.first a.count l.bound l.i c.loop-i-test.false ∙ l.invariant.2;
    }
