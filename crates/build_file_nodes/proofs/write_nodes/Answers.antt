-- `build_file_nodes::write_nodes` meets its contract: the loop over the nodes, from a file with nothing in it yet.
use Rattle.std.proofs.Common.{arith}
use Rattle.build_file_nodes.specs.WrittenLaws.{sizes, shift_asked, nodes_asked, written}
use Rattle.build_file_nodes.proofs.write_nodes.Goals as goal

pub overflow_add-second : goal.overflow_add-second
overflow_add-second c = omega (arith, sizes c.requires.0 _ c.requires.2)

pub overflow_mul-second : goal.overflow_mul-second
overflow_mul-second c = omega (arith, sizes c.requires.0 _ c.requires.2)

pub overflow_add-third : goal.overflow_add-third
overflow_add-third c = omega (arith, sizes c.requires.0 _ c.requires.2)

pub find_shift-requires : goal.find_shift-requires
find_shift-requires c = (shift_asked c.requires.0 _ c.requires.2, omega (arith, (sizes c.requires.0 _ c.requires.2).0))

pub put_nodes-requires : goal.put_nodes-requires
put_nodes-requires c = nodes_asked c.requires.0 _ c.requires.2 c.args.tree.now c.find_shift.new.shift c.requires.1 c.find_shift.ensures

pub returns : goal.returns
returns c = λ h. written h _ c.requires.2 c.put_nodes.ensures
