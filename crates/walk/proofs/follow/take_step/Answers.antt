-- `walk::follow::take_step` meets its contract: a step of each kind is taken from its kind of record.
-- No more is dropped than a record has, so that the sums do not wrap.
use Rattle.walk.specs.FollowLaws.{dropped_small, left_has_parts, parts_in, step_wrong_kind, step_part, step_list, step_listtail}
use Rattle.walk.specs.Positions.{placed, taken_of}
use native.Mathlib.Omega.{arith}
use mathlib.Core.Path.{sym, ap, ◌∙◌}
use Rattle.walk.proofs.follow.take_step.Goals as goal

pub returns-then-x-left_by : goal.returns-then-x-left_by
returns-then-x-left_by c =
    let a = c.args in
    ap taken_of
    (step_wrong_kind a.panel.now a.s a.p c.record_at-x.result c.record_at-x.ensures (λ e. c.if-x-left_by.true (e ∙ sym c.left_by.ensures)))

pub part_in-requires : goal.part_in-requires
part_in-requires c =
    let a = c.args in
    let kind = c.if-x-left_by.false ∙ c.left_by.ensures in
    (c.requires.0, parts_in a.panel.now a.p.record c.record_at-x.result c.record_at-x.ensures c.requires.1 c.requires.2.place_in (omega (arith, kind, left_has_parts a.s.kind)))

pub returns-then-kind-lt-LIST : goal.returns-then-kind-lt-LIST
returns-then-kind-lt-LIST c =
    let a = c.args in
    let kind = c.if-x-left_by.false ∙ c.left_by.ensures in
    c.part_in.ensures ∙ ap taken_of (step_part a.panel.now a.s a.p c.record_at-x.result c.record_at-x.ensures kind c.if-kind-lt-LIST.true)

pub overflow_add-dropped : goal.overflow_add-dropped
overflow_add-dropped c =
    omega (arith, dropped_small c.requires.0.laid c.requires.1 (placed c.args.p) c.requires.2)

pub part_in-requires-then-kind-eq-LIST : goal.part_in-requires-then-kind-eq-LIST
part_in-requires-then-kind-eq-LIST c =
    let a = c.args in
    let kind = c.if-x-left_by.false ∙ c.left_by.ensures in
    (c.requires.0, parts_in a.panel.now a.p.record c.record_at-x.result c.record_at-x.ensures c.requires.1 c.requires.2.place_in (omega (arith, kind, left_has_parts a.s.kind)))

pub returns-then-kind-eq-LIST : goal.returns-then-kind-eq-LIST
returns-then-kind-eq-LIST c =
    let a = c.args in
    let kind = c.if-x-left_by.false ∙ c.left_by.ensures in
    c.part_in-then-kind-eq-LIST.ensures ∙ ap taken_of (step_list a.panel.now a.s a.p c.record_at-x.result c.record_at-x.ensures kind c.if-kind-eq-LIST.true)

pub overflow_add-dropped-2 : goal.overflow_add-dropped-2
overflow_add-dropped-2 c =
    omega (arith, dropped_small c.requires.0.laid c.requires.1 (placed c.args.p) c.requires.2)

pub returns : goal.returns
returns c =
    let a = c.args in
    let kind = c.if-x-left_by.false ∙ c.left_by.ensures in
    c.tail_in.ensures
    ∙ ap taken_of
    (step_listtail a.panel.now a.s a.p c.record_at-x.result c.record_at-x.ensures kind (omega (arith, c.if-kind-lt-LIST.false, c.if-kind-eq-LIST.false)))
