use Rattle.build_nodes.proofs.build.put_switch.Goals as goal

pub returns : goal.returns
returns c = rw (← c.switch_kind-kind.ensures) c.put_node.ensures
