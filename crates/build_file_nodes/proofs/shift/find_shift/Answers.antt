-- `build_file_nodes::shift::find_shift` meets its contract: the sums of the counts are the hoists before each node.
use Rattle.build_file_nodes.specs.ShiftLaws.{sums_asked, shifted_by}
use Rattle.build_file_nodes.proofs.shift.find_shift.Goals as goal

pub sum_up-requires : goal.sum_up-requires
sum_up-requires c = sums_asked c.count_hoists.ensures c.args.nodes c.requires.1 c.requires.0.few

pub returns : goal.returns
returns c = shifted_by c.count_hoists.ensures c.requires.1 c.sum_up.ensures
