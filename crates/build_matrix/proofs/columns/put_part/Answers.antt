-- `columns::put_part`: the part is copied behind those in the list.
use native.Mathlib.Omega.{arith}
use Rattle.std.proofs.Common.{◌∙◌, ◌≡◌, refl, ap, length, take, ◌++◌, ◌+◌, ◌-◌}
use Rattle.std.proofs.Math.Seq.{slice, length-slice}
use Rattle.std.proofs.lemmas.Slice.{take-put_mid, put_mid-paste}
use Rattle.std.proofs.lemmas.List.Edits.{length-paste}
use Rattle.build_matrix.specs.ListsLaws.{cut}
use Rattle.build_matrix.proofs.columns.put_part.Goals as goal

pub returns : goal.returns
returns c =
    let a = c.args in
    let part = c.copy_from_slice in
    let n = a.count + (a.to - a.from) - a.count in
    let is : part.new.self ≡ slice a.from a.to a.cs.now = part.ensures.after ∙ cut a.cs.now a.from a.to c.requires.from_le_to.0 in
    let long : length part.new.self ≡ a.to - a.from = ap length is ∙ length-slice a.from a.to a.cs.now (omega (arith, c.requires)) in
    record {
      long = ap length (put_mid-paste a.count n a.list.now part.new.self part.new.self n refl refl (omega (arith, long))) ∙ length-paste a.list.now a.count part.new.self n (omega (arith, c.requires)) (omega (arith, long)) ∙ c.requires.whole.0.long;
      most = omega (arith, c.requires);
      are = take-put_mid a.count n a.list.now part.new.self (a.count + (a.to - a.from)) (omega (arith, long)) (omega (arith, c.requires)) ∙ ap (λ x. take a.count a.list.now ++ x) is;
    }
