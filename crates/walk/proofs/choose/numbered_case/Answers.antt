-- `walk::choose::numbered_case` meets its contract: its search is that of the first case of the number.
use Rattle.std.proofs.Common.{rules}
use Rattle.std.proofs.Math.Path.{refl}
use Rattle.std.specs.Prelude.{eqb}
use Rattle.spec_rules.specs.TreeReader.{case_number}
use Rattle.spec_rules.proofs.Ranges.{find_from}
use Rattle.walk.proofs.choose.numbered_case.Goals as goal

pub returns : goal.returns
returns c =
    let a = c.args in
    find_from (λ j. eqb a.number (case_number a.tree.now j)) _ a.i a.n c.find.ensures.ran refl refl (λ x b q e. search rules)
