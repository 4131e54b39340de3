-- `splitting::default_matrix`: a matrix is what its parts hold.
use mathlib.Core.Path.{refl}
use Prim.Native.Nat.{◌+◌}
use Rattle.build_matrix.specs.InNumbers.{in_numbers, matrix_of, default_read}
use Rattle.build_matrix.specs.InNumbersLaws.{stands_for}
use Rattle.build_matrix.proofs.splitting.default_matrix.Goals as goal

pub returns : goal.returns
unfolding default_read
returns c =
    let a = c.args in
    let rows = c.wild_rows-count in
    let columns = c.put_rest-rest in
    let tested = c.push in
    stands_for
    (matrix_of rows.new.list columns.new.list tested.new.list a.opened.now (record { rows = rows.result; columns = columns.result; tested = a.sizes.tested + 1 }))
    (default_read a.table.now a.class (in_numbers (matrix_of a.rows.now a.columns.now a.tested.now a.opened.now a.sizes)))
    rows.ensures columns.ensures tested.ensures refl c.requires.splits.whole.long_opened
