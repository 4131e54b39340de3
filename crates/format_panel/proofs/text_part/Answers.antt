-- `format_panel::text_part` meets its contract: the part that was found, which lies in the panel, or nothing.
use Rattle.std.proofs.Common.{rules, ◌≡◌, ℕ, ◌+◌, ◌-◌, ap, ◌∙◌, take, drop, arith}
use Rattle.format_panel.specs.AnswersLaws.{part_none, part_some, part_inside}
use Rattle.format_panel.proofs.text_part.Goals as goal

pub returns-in_default : goal.returns-in_default
returns-in_default c = search (rules, part_none)

pub overflow_add-result : goal.overflow_add-result
overflow_add-result c = omega (arith, part_inside c.args.v.now c.args.r c.args.dropped c.in-Ok.ensures, c.well_formed)

pub slice_bounds-result-end-2 : goal.slice_bounds-result-end-2
slice_bounds-result-end-2 c = omega (arith, part_inside c.args.v.now c.args.r c.args.dropped c.in-Ok.ensures)

pub returns : goal.returns
returns c =
    let f : c.in-Ok.part.start + c.in-Ok.part.count - c.in-Ok.part.start ≡ c.in-Ok.part.count = omega arith in
    ap (λ (n : ℕ). take n (drop c.in-Ok.part.start c.args.v.now)) f ∙ part_some c.args.v.now c.args.r c.args.dropped c.in-Ok.ensures
