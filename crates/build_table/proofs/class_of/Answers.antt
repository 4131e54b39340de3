use Rattle.std.proofs.Common.{rules, ℕ, ◌-◌, ◌∙◌}
use Rattle.std.proofs.Math.Path.{refl, ap}
use native.Mathlib.Omega.{arith}
use Rattle.std.specs.Prelude.{Option}
use Rattle.std.specs.Option.{unwrap_or}
use Rattle.spec_rules.proofs.Ranges.{find_from}
use Rattle.build_table.specs.Table.{same_step_in}
use Rattle.build_table.specs.ClassingLaws.{class_from}
use Rattle.build_table.proofs.class_of.Goals as goal

pub returns : goal.returns
returns c =
    let a = c.args in
    let low = c.requires.from_le_p in
    let first = find_from (λ k. same_step_in a.table.now k a.p) _ a.from (a.p - a.from) c.find.ensures.ran refl (omega (arith, low.0)) (λ x b q e. search rules) in
    c.unwrap_or.ensures ∙ ap (λ (r : Option ℕ). unwrap_or r a.p) first ∙ class_from a.table.now a.p a.from low.0 low.1
