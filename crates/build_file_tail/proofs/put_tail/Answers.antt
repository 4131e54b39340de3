-- `build_file_tail::put_tail` meets its contract: each part has its room in the tail's, and the parts one behind the other are the tail.
use Rattle.build_file_tail.specs.TailLaws.{paths_asked, steps_asked, pool_asked, trailer_asked, tail_put}
use native.Mathlib.Omega.{arith}
use Rattle.build_file_tail.proofs.put_tail.Goals as goal

pub put_paths-steps-requires : goal.put_paths-steps-requires
put_paths-steps-requires c =
    let asked = paths_asked c.requires in record { table_len = asked.0; count_bound = asked.1 }

pub put_all_steps-pool-requires-clause-count_in_bounds : goal.put_all_steps-pool-requires-clause-count_in_bounds
put_all_steps-pool-requires-clause-count_in_bounds c = steps_asked c.requires c.put_paths-steps.ensures

pub copy_pool-end-requires : goal.copy_pool-end-requires
copy_pool-end-requires c =
    let r = c.requires in
    (r.checked, pool_asked r c.put_paths-steps.ensures c.put_all_steps-pool.ensures)

pub put_trailer-requires : goal.put_trailer-requires
put_trailer-requires c =
    let asked = trailer_asked c.requires c.put_paths-steps.ensures c.put_all_steps-pool.ensures c.copy_pool-end.ensures in
    record { tree_trailer_in_bounds = asked.0; cases_le_bindings = asked.1 }

pub overflow_add-result : goal.overflow_add-result
overflow_add-result c = omega (arith, trailer_asked c.requires c.put_paths-steps.ensures c.put_all_steps-pool.ensures c.copy_pool-end.ensures)

pub returns : goal.returns
returns c = tail_put c.requires c.put_paths-steps.ensures c.put_all_steps-pool.ensures c.copy_pool-end.ensures c.put_trailer.ensures
