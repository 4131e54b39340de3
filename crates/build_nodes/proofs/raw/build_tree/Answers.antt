use Rattle.build_nodes.specs.RawLaws.{raw_asked, raw_builds}
use Rattle.build_nodes.proofs.raw.build_tree.Goals as goal

pub do_build_tree-requires : goal.do_build_tree-requires
do_build_tree-requires c = raw_asked c.requires.0 c.first_matrix-first.result c.first_matrix-first.ensures c.args.work.now c.requires.1

pub returns : goal.returns
returns c = raw_builds c.requires.0 c.first_matrix-first.result c.first_matrix-first.ensures c.args.work.now c.requires.1 c.do_build_tree.new.work c.do_build_tree.result c.do_build_tree.ensures.0
