use Rattle.std.proofs.Common.{sym, ap, subst, ◌∙◌}
use Rattle.app_listing.specs.Records.{TestInside, test_read}
use Rattle.app_listing.specs.WritingLaws.{writes_as}
use Rattle.app_listing.specs.RecordsLaws.{text_inside, text_read}
use Rattle.app_listing.proofs.parts.put_test.Goals as goal

pub slice_bounds-put_text_test-end : goal.slice_bounds-put_text_test-end
slice_bounds-put_text_test-end c =
    text_inside c.requires.0 c.in-Text.start c.in-Text.count (subst (TestInside c.args.map) c.in-Text.is c.requires.1)

pub returns-in-Constr : goal.returns-in-Constr
returns-in-Constr c = writes_as c.put_number_test.ensures (ap (test_read c.args.tree.now) (sym c.in-Constr.is))

pub returns-in-Text : goal.returns-in-Text
returns-in-Text c =
    writes_as c.put_text_test.ensures (text_read c.requires.0 c.in-Text.start c.in-Text.count c.in-Text.kind ∙ ap (test_read c.args.tree.now) (sym c.in-Text.is))

pub returns-in-List : goal.returns-in-List
returns-in-List c = writes_as c.put_number_test-in-List.ensures (ap (test_read c.args.tree.now) (sym c.in-List.is))

pub returns-in-Tailed : goal.returns-in-Tailed
returns-in-Tailed c = writes_as c.put_number_test-in-Tailed.ensures (ap (test_read c.args.tree.now) (sym c.in-Tailed.is))
