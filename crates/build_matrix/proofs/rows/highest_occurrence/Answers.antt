-- `rows::highest_occurrence`: the best so far goes on through the columns that are left to the best of all.
use mathlib.Core.Path.{sym, ap, ◌∙◌}
use Prim.Native.Nat.{ℕ, ◌+◌}
use lib.ListN.{get_or, take}
use lib.Seq.{slice}
use Rattle.build_matrix.specs.HeldRows.{count_of, best_of}
use Rattle.build_matrix.specs.Reading.{held_in, bettered}
use Rattle.build_matrix.specs.ReadingLaws.{best_more, best_end, left_on, left_end}
use Rattle.build_matrix.proofs.rows.highest_occurrence.Goals as goal

pub loop-column-preserved : goal.loop-column-preserved
loop-column-preserved c =
    let a = c.args in
    let l = c.loop-column in
    let counts : ℕ → ℕ = λ k. count_of (held_in a.table.now a.opened.now k) (take a.height a.rows.now) in
    let k = get_or (take a.width a.columns.now) l.column-index 0 in
    let class = c.from-class in
    let amount = c.occurrence in
    best_more counts l.best c.better_of-best.result k amount.result (slice (l.column-index + 1) a.width a.columns.now)
    (amount.ensures ∙ ap counts class.ensures) (c.better_of-best.ensures ∙ ap (λ (x : ℕ). bettered l.best x amount.result) class.ensures)
    ∙ ap (best_of counts l.best.choice l.best.amount) (sym (left_on a.columns.now a.width l.column-index c.loop-column-test.true)) ∙ l.invariant

pub returns : goal.returns
returns c =
    let a = c.args in
    let l = c.loop-column in
    best_end (λ k. count_of (held_in a.table.now a.opened.now k) (take a.height a.rows.now)) l.best (slice l.column-index a.width a.columns.now) (left_end a.columns.now a.width l.column-index c.loop-column-test.false) ∙ l.invariant
