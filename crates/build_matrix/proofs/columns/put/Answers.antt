-- `columns::put`: those passed come before the class, so that putting it goes on behind them.
use mathlib.Core.Path.{◌≡◌, sym, ap, ap₂, ◌∙◌}
use mathlib.Core.List.{List, ◌∷◌, ◌++◌}
use Prim.Native.Nat.{ℕ}
use native.Mathlib.Omega.{arith}
use lib.ListN.{length, get_or, take}
use lib.Seq.{slice}
use Rattle.build_matrix.specs.ListsLaws.{holds_same}
use Rattle.build_matrix.specs.Reading.{first_in, Ranked}
use Rattle.build_matrix.specs.ReadingLaws.{all_at}
use Rattle.build_matrix.specs.PuttingLaws.{put_there, put_before, put_behind, put_last, insert_room}
use Rattle.build_matrix.proofs.columns.put.Goals as goal

pub returns-then-other-class : goal.returns-then-other-class
returns-then-other-class c =
    let a = c.args in
    let l = c.loop-i in
    let seen = c.from-other in
    let other : seen.result ≡ get_or a.list.now l.i 0 = seen.ensures ∙ ap (λ (x : List ℕ). get_or x l.i 0) l.invariant.0 in
    rw l.invariant.0 (holds_same c.requires.whole (sym (put_there (first_in a.table.now) a.class a.list.now a.count l.i (omega (arith, c.requires.whole.long, c.requires.whole.most)) l.invariant.1 c.loop-i-test.true (sym other ∙ c.if-other-class.true))))

pub before-requires : goal.before-requires
before-requires c =
    let a = c.args in
    let l = c.loop-i in
    let seen = c.from-other in
    let other : seen.result ≡ get_or a.list.now l.i 0 = seen.ensures ∙ ap (λ (x : List ℕ). get_or x l.i 0) l.invariant.0 in
    let ranked : Ranked a.table.now seen.result = rw other (all_at (Ranked a.table.now) a.list.now a.count l.i c.loop-i-test.true (omega (arith, c.requires.whole.long, c.requires.whole.most)) c.requires.each) in record { table_len = (c.requires.long, c.requires.ranked.known, ranked.known); p_bound = (c.requires.ranked.depth, ranked.depth) }

pub insert-requires : goal.insert-requires
insert-requires c =
    let a = c.args in
    let l = c.loop-i in
    let seen = c.from-other in
    let other : seen.result ≡ get_or a.list.now l.i 0 = seen.ensures ∙ ap (λ (x : List ℕ). get_or x l.i 0) l.invariant.0 in
    let less = c.before-in-loop-i in
    let told : first_in a.table.now a.class (get_or a.list.now l.i 0) ≡ less.result = ap (first_in a.table.now a.class) (sym other) ∙ sym less.ensures in
    let e = put_before (first_in a.table.now) a.class a.list.now a.count l.i (omega (arith, c.requires.whole.long, c.requires.whole.most)) l.invariant.1 c.loop-i-test.true (λ x. c.if-other-class.false (other ∙ x)) (told ∙ c.if-before.true) in
    (rw l.invariant.0 c.requires.whole, l.auto.i-end, omega (arith, insert_room a.list.now a.count l.i a.class l.auto.i-end (omega (arith, c.requires.whole.long, c.requires.whole.most)), ap length e, c.requires.room), c.requires.ranked.known)

pub returns-then-before : goal.returns-then-before
returns-then-before c =
    let a = c.args in
    let l = c.loop-i in
    let seen = c.from-other in
    let other : seen.result ≡ get_or a.list.now l.i 0 = seen.ensures ∙ ap (λ (x : List ℕ). get_or x l.i 0) l.invariant.0 in
    let less = c.before-in-loop-i in
    let told : first_in a.table.now a.class (get_or a.list.now l.i 0) ≡ less.result = ap (first_in a.table.now a.class) (sym other) ∙ sym less.ensures in
    holds_same c.insert.ensures (ap (λ (x : List ℕ). take l.i x ++ a.class ∷ slice l.i a.count x) l.invariant.0 ∙ sym (put_before (first_in a.table.now) a.class a.list.now a.count l.i (omega (arith, c.requires.whole.long, c.requires.whole.most)) l.invariant.1 c.loop-i-test.true (λ x. c.if-other-class.false (other ∙ x)) (told ∙ c.if-before.true)))

pub loop-i-preserved : goal.loop-i-preserved
loop-i-preserved c =
    let a = c.args in
    let l = c.loop-i in
    let seen = c.from-other in
    let other : seen.result ≡ get_or a.list.now l.i 0 = seen.ensures ∙ ap (λ (x : List ℕ). get_or x l.i 0) l.invariant.0 in
    let less = c.before-in-loop-i in
    let told : first_in a.table.now a.class (get_or a.list.now l.i 0) ≡ less.result = ap (first_in a.table.now a.class) (sym other) ∙ sym less.ensures in
    (l.invariant.0, put_behind (first_in a.table.now) a.class a.list.now a.count l.i (omega (arith, c.requires.whole.long, c.requires.whole.most)) l.invariant.1 c.loop-i-test.true (λ x. c.if-other-class.false (other ∙ x)) (told ∙ c.if-before.false))

pub insert-requires-2 : goal.insert-requires-2
insert-requires-2 c =
    let a = c.args in
    let l = c.loop-i in
    let e = put_last (first_in a.table.now) a.class a.list.now a.count l.i (omega (arith, c.requires.whole.long, c.requires.whole.most)) l.invariant.1 (omega (arith, l.auto.i-end, c.loop-i-test.false)) in
    (rw l.invariant.0 c.requires.whole, omega arith, omega (arith, insert_room a.list.now a.count l.i a.class l.auto.i-end (omega (arith, c.requires.whole.long, c.requires.whole.most)), ap length e, c.requires.room), c.requires.ranked.known)

pub returns : goal.returns
returns c =
    let a = c.args in
    let l = c.loop-i in
    let all : l.i ≡ a.count = omega (arith, l.auto.i-end, c.loop-i-test.false) in
    holds_same c.insert-2.ensures (ap₂ (λ (i : ℕ) (x : List ℕ). take i x ++ a.class ∷ slice i a.count x) (sym all) l.invariant.0 ∙ sym (put_last (first_in a.table.now) a.class a.list.now a.count l.i (omega (arith, c.requires.whole.long, c.requires.whole.most)) l.invariant.1 all))
