-- `walk::choose::is_text` meets its contract: the text of a case lies in the pool.
use Rattle.format_tree.specs.ReadingLaws.{cases_count, pool_start, pool_count}
use Rattle.spec_rules.specs.TreeReader.{case_text}
use native.Mathlib.Omega.{arith}
use mathlib.Core.Path.{◌∙◌}
use Rattle.walk.proofs.choose.is_text.Goals as goal

pub texts_same-requires : goal.texts_same-requires
texts_same-requires c =
    let w = c.requires.0 in
    let text = w.rules.case_text c.args.j (omega (arith, c.requires.1, cases_count w.mapped)) c.requires.2 c.requires.3 in
    let number = c.case_number-start.ensures in
    let many = c.case_length-len.ensures in
    (c.requires.4, omega (arith, number, many, text.inside, pool_count w.mapped, w.mapped.pool_end_holds))

pub returns : goal.returns
unfolding case_text
returns c =
    let w = c.requires.0 in
    let start = pool_start w.mapped in
    let number = c.case_number-start.ensures in
    let many = c.case_length-len.ensures in
    c.texts_same.ensures ∙ rw (start, number, many)
