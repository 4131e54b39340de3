use Rattle.std.proofs.Common.{rules}
use Rattle.std.proofs.Math.Path.{refl}
use Rattle.std.specs.Prelude.{eqb, get_or}
use Rattle.spec_rules.proofs.Ranges.{all_below}
use Rattle.format_sheet.specs.Meeting.{met_once}
use Rattle.format_sheet.proofs.standing.all_met_once.Goals as goal

pub returns : goal.returns
unfolding met_once
returns c =
    let a = c.args in
    all_below (λ k. eqb (get_or a.times.now k 0) 1) a.n c.all.ensures.ran refl refl (λ x b q e. search rules)
