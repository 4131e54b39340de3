-- `rows::test_at`: one law for each way out.
use borrow.Author.Tests.{eq-eqb, ne_eqb}
use Rattle.std.proofs.Common.{◌≡◌, ◌∙◌, ◌-◌, eqb, not, get_or}
use Rattle.base_words.specs.Words.{either}
use Rattle.build_matrix.specs.ReadingLaws.{held_none, held_opened, held_owned}
use Rattle.build_matrix.proofs.rows.test_at.Goals.{then-owner-eq0, else-owner-eq0}
use Rattle.build_matrix.proofs.rows.test_at.Goals as goal

pub returns-then-cell-eq0 : goal.returns-then-cell-eq0
returns-then-cell-eq0 c = let a = c.args in held_none a.table.now a.opened.now a.class a.c c.at-cell.result c.at-cell.ensures c.if-cell-eq0.true

pub returns-then-opened-p-ne0 : goal.returns-then-opened-p-ne0
returns-then-opened-p-ne0 c =
    let a = c.args in
    let at = c.at-cell in
    held_opened a.table.now a.opened.now a.class a.c at.result at.ensures c.if-cell-eq0.false c.if-opened-p-ne0.true

pub returns : goal.returns
returns c =
    let a = c.args in
    let at = c.at-cell in
    let owner = c.at-owner in
    let o = get_or a.opened.now (owner.result - 1) 0 in
    let live : c.if-owner-eq0.then_some ≡ either (eqb owner.result 0) (not (eqb o 0)) =
    elim c.if-owner-eq0.branch [
      | then-owner-eq0 w ↦ w.then_some-is ∙ rw (eq-eqb owner.result 0 w.if-owner-eq0.true)
      | else-owner-eq0 w ↦ w.then_some-is ∙ rw (ne_eqb owner.result 0 w.if-owner-eq0.false)
    ]
    in
    c.then_some.ensures ∙ held_owned a.table.now a.opened.now a.class a.c at.result at.ensures c.if-cell-eq0.false c.if-opened-p-ne0.false owner.result owner.ensures c.if-owner-eq0.then_some live
