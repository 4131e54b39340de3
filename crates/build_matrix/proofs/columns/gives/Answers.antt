-- `columns::gives`: one law for each arm of the kinds.
use native.Mathlib.Omega.{arith}
use Rattle.build_matrix.specs.PuttingLaws.{gives_none, gives_assigned, gives_parts, gives_itself, gives_by_test}
use Rattle.build_matrix.proofs.columns.gives.Goals as goal

pub returns-in-7 : goal.returns-in-7
returns-in-7 c =
    let r = c.pattern_at-r in
    let class = c.at-class in
    gives_by_test c.requires.0 c.args.p c.requires.1 r.result r.ensures class.result class.ensures c.in-7.is
    c.is_test.result c.is_test.ensures c.itself_or_inside.result c.itself_or_inside.ensures

pub returns-in-0 : goal.returns-in-0
returns-in-0 c =
    let r = c.pattern_at-r in
    gives_none c.requires.0 c.args.p c.requires.1 r.result r.ensures (omega (arith, c.in-0.if-kind-lt2-own.true))

pub returns-in-3 : goal.returns-in-3
returns-in-3 c =
    let r = c.pattern_at-r in
    let class = c.at-class in
    gives_itself c.requires.0 c.args.p c.requires.1 r.result r.ensures class.result class.ensures (omega (arith, c.in-3.if-kind-lt2-own.false)) (omega (arith, c.in-3.if-kind-lt7-own.true))

pub returns-in-2 : goal.returns-in-2
returns-in-2 c =
    let r = c.pattern_at-r in
    gives_assigned c.requires.0 c.args.p c.requires.1 r.result r.ensures c.in-2.is

pub returns-in-2-2 : goal.returns-in-2-2
returns-in-2-2 c =
    let r = c.pattern_at-r in
    gives_parts c.requires.0 c.args.p c.requires.1 r.result r.ensures (omega (arith, c.in-2.if-kind-lt7-own.false)) (omega (arith, c.in-2.if-kind-lt10-own.true))
