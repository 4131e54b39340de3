-- `covering::covers`: each arm is its part of the definition by the record, which is what rules says of the pattern.
use borrow.Author.Rules.{rules}
use mathlib.Core.Path.{◌≡◌, sym, ap, ◌∙◌}
use Rattle.format_records.specs.declared.reading.Test.{Test}
use Rattle.build_matrix.specs.Meant.{covers_read}
use Rattle.build_matrix.specs.MeantLaws.{covers_by}
use Rattle.build_matrix.proofs.covering.covers.Goals as goal

pub returns-in-Constr : goal.returns-in-Constr
returns-in-Constr c =
    let a = c.args in
    let r = c.pattern_at-r in
    let e : a.test ≡ Test.Constr c.in-Constr.number = search rules in
    covers_by c.requires.0.ok a.p c.requires.1 r.result r.ensures a.test c.covers_constructor.result (c.covers_constructor.ensures ∙ ap (covers_read a.sheet.now r.result) (sym e))

pub returns-in-Text : goal.returns-in-Text
returns-in-Text c =
    let a = c.args in
    let r = c.pattern_at-r in
    let e : a.test ≡ Test.Text c.in-Text.kind c.in-Text.start c.in-Text.count = search rules in
    covers_by c.requires.0.ok a.p c.requires.1 r.result r.ensures a.test c.covers_text.result (c.covers_text.ensures ∙ ap (covers_read a.sheet.now r.result) (sym e))

pub returns-in-List : goal.returns-in-List
returns-in-List c =
    let a = c.args in
    let r = c.pattern_at-r in
    let e : a.test ≡ Test.List c.in-List.n = search rules in
    covers_by c.requires.0.ok a.p c.requires.1 r.result r.ensures a.test c.covers_list.result (c.covers_list.ensures ∙ ap (covers_read a.sheet.now r.result) (sym e))

pub returns-in-Tailed : goal.returns-in-Tailed
returns-in-Tailed c =
    let a = c.args in
    let r = c.pattern_at-r in
    let e : a.test ≡ Test.Tailed c.in-Tailed.n = search rules in
    covers_by c.requires.0.ok a.p c.requires.1 r.result r.ensures a.test c.covers_tailed.result (c.covers_tailed.ensures ∙ ap (covers_read a.sheet.now r.result) (sym e))
