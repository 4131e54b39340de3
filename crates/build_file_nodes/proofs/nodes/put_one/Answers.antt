-- `build_file_nodes::nodes::put_one` meets its contract: the hoists above the node, then the node.
use Rattle.std.proofs.Common.{ap, ◌∙◌}
use Rattle.build_scopes.specs.WriterLaws.{stands_at}
use Rattle.build_file_nodes.specs.Model.{node_in, reach_of, out_of, own_out, node_out}
use Rattle.build_file_nodes.specs.ModelLaws.{hoists_asked, own_asked, own_moved}
use Rattle.build_file_nodes.proofs.nodes.put_one.Goals as goal

pub put_hoists-next-requires : goal.put_hoists-next-requires
put_hoists-next-requires c = hoists_asked c.requires

pub put_own-requires : goal.put_own-requires
put_own-requires c = own_asked c.requires c.put_hoists-next.auto.tree c.put_hoists-next.ensures

pub returns : goal.returns
unfolding node_out
returns c =
    let a = c.args in
    let up = c.put_hoists-next in
    let stand = stands_at (node_in a.node.now) a.clauses in
    let lifted = out_of up.new.tree (reach_of up.new.number up.new.list up.result) in
    c.put_own.ensures
    ∙ own_moved a.work.now a.starts.cases a.starts.bindings (node_in a.node.now) a.clauses c.requires.nodes a.k a.shift.now lifted c.requires.shifted (c.requires.sound.below a.k c.requires.inside)
    ∙ ap (own_out a.work.now a.starts.cases a.starts.bindings stand a.k) up.ensures
