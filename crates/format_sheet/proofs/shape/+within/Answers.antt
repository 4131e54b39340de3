use mathlib.Core.Path.{◌∙◌, sym, ap}
use Prim.Native.Nat.{◌-◌, ℕ}
use Rattle.spec_rules.specs.SheetFile.{child}
use Rattle.spec_rules.specs.SheetRefusals.{within as Within}
use Rattle.format_sheet.specs.ShapeLaws.{every_of_children, within_none, within_some}
use Rattle.format_sheet.specs.TestsLaws.{passed, stopped}
use Rattle.format_sheet.specs.LoopsLaws.{from_goes_on, from_stops, from_ends}
use mathlib.Core.Bool.{not}
use Rattle.format_sheet.proofs.shape.+within.Goals as goal

pub returns-then-deep-eq0 : goal.returns-then-deep-eq0
returns-then-deep-eq0 t c = sym (ap (λ (d : ℕ). Within d c.args.sheet.now c.args.p) c.if-deep-eq0.true ∙ within_none c.args.sheet.now c.args.p)

pub returns-then-not-within : goal.returns-then-not-within
returns-then-not-within t c =
    from_stops (λ j. Within (c.args.deep - 1) c.args.sheet.now (child c.args.sheet.now j)) c.children_in-run.result.count c.children_in-run.result.first c.loop-k.k c.loop-k-test.true c.loop-k.invariant
    (stopped (c.within.ensures ∙ ap (Within (c.args.deep - 1) c.args.sheet.now) c.child_in-child.ensures) (ap not c.if-not-within.true))
    ∙ every_of_children c.args.sheet.now c.args.p c.children_in-run.result c.children_in-run.ensures (λ j. Within (c.args.deep - 1) c.args.sheet.now (child c.args.sheet.now j))
    ∙ sym (within_some c.args.deep c.args.sheet.now c.args.p c.if-deep-eq0.false)

pub loop-k-preserved : goal.loop-k-preserved
loop-k-preserved t c = from_goes_on (λ j. Within (c.args.deep - 1) c.args.sheet.now (child c.args.sheet.now j)) c.children_in-run.result.count c.children_in-run.result.first c.loop-k.k c.loop-k-test.true c.loop-k.invariant
    (passed (c.within.ensures ∙ ap (Within (c.args.deep - 1) c.args.sheet.now) c.child_in-child.ensures) (ap not c.if-not-within.false))

pub returns : goal.returns
returns t c =
    from_ends (λ j. Within (c.args.deep - 1) c.args.sheet.now (child c.args.sheet.now j)) c.children_in-run.result.count c.children_in-run.result.first c.loop-k.k c.loop-k-test.false c.loop-k.invariant
    ∙ every_of_children c.args.sheet.now c.args.p c.children_in-run.result c.children_in-run.ensures (λ j. Within (c.args.deep - 1) c.args.sheet.now (child c.args.sheet.now j))
    ∙ sym (within_some c.args.deep c.args.sheet.now c.args.p c.if-deep-eq0.false)
