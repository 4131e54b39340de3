use mathlib.Core.Logic.{inl}
use Rattle.build_leaves.specs.PuttingLaws.{variable_gives, assign_gives, parts_here, others_give}
use native.Mathlib.Omega.{arith}
use Rattle.build_leaves.proofs.gives.Goals as goal

pub parts_given-requires : goal.parts_given-requires
parts_given-requires c =
    let r = c.pattern_in-r in
    (c.requires.0.ok, c.requires.0.tabled, c.requires.0.from_children, parts_here c.args.sheet.now c.requires.0.ok c.args.p c.requires.1 r.result r.ensures (omega arith) (omega arith))

pub returns-in-1 : goal.returns-in-1
returns-in-1 c =
    let r = c.pattern_in-r in
    variable_gives c.args.sheet.now c.requires.0.ok c.args.p c.requires.1 r.result r.ensures c.in-1.is

pub returns-in-2 : goal.returns-in-2
returns-in-2 c =
    let r = c.pattern_in-r in
    assign_gives c.args.sheet.now c.requires.0.ok c.args.p c.requires.1 r.result r.ensures c.in-2.is

pub returns-in_default : goal.returns-in_default
returns-in_default c =
    let r = c.pattern_in-r in
    others_give c.args.sheet.now c.requires.0.ok c.args.p c.requires.1 r.result r.ensures (λ e. omega arith) (λ e. omega arith) (inl (omega arith))
