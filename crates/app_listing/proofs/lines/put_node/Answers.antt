use Rattle.std.proofs.Common.{sym, ap, subst}
use Rattle.app_listing.specs.WritingLaws.{writes_then, writes_as}
use Rattle.app_listing.specs.Records.{node_read, NodeInside}
use Rattle.app_listing.proofs.lines.put_node.Goals as goal

pub put_switch-requires : goal.put_switch-requires
put_switch-requires c =
    let i = subst (NodeInside c.args.map) c.in-Switch.is c.requires.1 in
    (c.requires.0, i.0, i.1)

pub put_switch-requires-in-ListSwitch : goal.put_switch-requires-in-ListSwitch
put_switch-requires-in-ListSwitch c =
    let i = subst (NodeInside c.args.map) c.in-ListSwitch.is c.requires.1 in
    (c.requires.0, i.0, i.1)

pub put_leaf-requires : goal.put_leaf-requires
put_leaf-requires c = (c.requires.0, subst (NodeInside c.args.map) c.in-Leaf.is c.requires.1)

pub put_hoist-requires : goal.put_hoist-requires
put_hoist-requires c = (c.requires.0, subst (NodeInside c.args.map) c.in-Hoist.is c.requires.1)

pub returns-in-Switch : goal.returns-in-Switch
returns-in-Switch c = writes_as (writes_then c.put_text-end.ensures c.put_switch.ensures) (ap (node_read c.args.tree.now) (sym c.in-Switch.is))

pub returns-in-ListSwitch : goal.returns-in-ListSwitch
returns-in-ListSwitch c =
    writes_as (writes_then c.put_text-end-in-ListSwitch.ensures c.put_switch-in-ListSwitch.ensures) (ap (node_read c.args.tree.now) (sym c.in-ListSwitch.is))

pub returns-in-Leaf : goal.returns-in-Leaf
returns-in-Leaf c = writes_as c.put_leaf.ensures (ap (node_read c.args.tree.now) (sym c.in-Leaf.is))

pub returns-in-Hoist : goal.returns-in-Hoist
returns-in-Hoist c = writes_as c.put_hoist.ensures (ap (node_read c.args.tree.now) (sym c.in-Hoist.is))
