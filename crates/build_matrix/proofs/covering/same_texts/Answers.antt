-- `covering::same_texts`: texts of different lengths differ, and the others are compared byte by byte.
use borrow.Author.Tests.{ne_eqb}
use Rattle.build_matrix.specs.MeantLaws.{texts_not, texts_are}
use Rattle.build_matrix.proofs.covering.same_texts.Goals as goal

pub returns-then-count-size : goal.returns-then-count-size
returns-then-count-size c =
    let a = c.args in
    texts_are a.sheet.now a.map c.requires.0 a.start a.count a.other a.size c.same_text.result c.if-count-size.true c.same_text.ensures

pub returns-else-count-size : goal.returns-else-count-size
returns-else-count-size c =
    let a = c.args in
    rw (ne_eqb a.count a.size c.if-count-size.false) (texts_not a.sheet.now a.map c.requires.0 a.start a.count a.other a.size c.requires.1 c.requires.2 c.if-count-size.false)
