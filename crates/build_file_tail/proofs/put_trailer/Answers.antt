-- `build_file_tail::put_trailer` meets its contract: seven words one behind the other.
use Rattle.build_file_tail.specs.StoringLaws.{trailer_put}
use Rattle.build_file_tail.proofs.put_trailer.Goals as goal

pub returns : goal.returns
returns c =
    let a = c.args in
    trailer_put a.tree.now a.at a.starts.cases a.starts.bindings a.starts.paths a.steps a.pool
    c.put_number.ensures
    c.put_number-2.ensures
    c.put_number-3.ensures
    c.put_number-4.ensures
    c.put_number-5.ensures
    c.put_number-6.ensures
    c.put_number-7.ensures
