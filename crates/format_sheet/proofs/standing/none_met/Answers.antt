use Rattle.std.proofs.Common.{rules}
use Rattle.std.proofs.Math.Path.{refl}
use Rattle.std.specs.Prelude.{eqb, get_or}
use Rattle.spec_rules.proofs.Ranges.{all_from}
use Rattle.format_sheet.specs.Meeting.{none_met}
use Rattle.format_sheet.proofs.standing.none_met.Goals as goal

pub returns : goal.returns
unfolding none_met
returns c =
    let a = c.args in
    all_from (λ k. eqb (get_or a.times.now k 0) 0) a.first a.count c.all.ensures.ran refl refl (λ x b q e. search rules)
