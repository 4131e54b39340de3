-- `columns::insert`: those from the place on are moved up by one, and the class is stored there.
use native.Mathlib.Omega.{arith}
use Rattle.std.proofs.Common.{◌∙◌, ◌+◌, ap, length-set, take, set}
use Rattle.build_matrix.specs.ListsLaws.{moved_up}
use Rattle.build_matrix.proofs.columns.insert.Goals as goal

pub returns : goal.returns
returns c =
    let a = c.args in
    let moved = c.copy_within in
    record {
      long = length-set moved.new.self a.place a.class ∙ moved.ensures.len ∙ c.requires.0.long;
      most = omega (arith, c.requires);
      are = ap (λ x. take (a.count + 1) (set x a.place a.class)) moved.ensures.after ∙ moved_up a.list.now a.count a.place a.class (omega (arith, c.requires)) c.requires.1;
    }
