-- `build_file_nodes::nodes::put_nodes` meets its contract. The loop's invariant: the nodes from k on bring the file to the state after all.
use Rattle.build_file_nodes.specs.ModelLaws.{node_asked, nodes_next, nodes_end}
use Rattle.build_file_nodes.proofs.nodes.put_nodes.Goals as goal

pub put_one-next-requires : goal.put_one-next-requires
put_one-next-requires c = node_asked c.requires c.loop-k.invariant c.loop-k-test.true

pub loop-k-preserved : goal.loop-k-preserved
loop-k-preserved c = nodes_next c.requires c.loop-k.invariant c.loop-k-test.true c.put_one-next.auto.tree c.put_one-next.ensures

pub returns : goal.returns
returns c = nodes_end c.loop-k.invariant c.loop-k-test.false
