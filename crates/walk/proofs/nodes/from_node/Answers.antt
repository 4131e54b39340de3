-- `walk::nodes::from_node` meets its contract: one law of the walk at a node for each kind.
-- Rests on what a node that was read says of its file.
use Rattle.format_tree.specs.ReadingLaws.{cases_count, paths_count}
use Rattle.walk.specs.TurnsLaws.{steps_switch, steps_list_switch, steps_leaf, steps_hoist}
use Rattle.walk.specs.FollowLaws.{ready_ruled}
use Rattle.format_tree.specs.NodesLaws.{switch_node_lem, list_switch_node_lem, leaf_node_lem, hoist_node_lem, switch_node_run, switch_node_path, switch_node_kind, switch_node_alike, list_switch_node_run, list_switch_node_cases, list_switch_node_tails, list_switch_node_path}
use Rattle.format_tree.specs.OrderLaws.{in_nodes, node_kind_known}
use Rattle.format_tree.specs.declared.reading.Node.{Node}
use native.Mathlib.Omega.{arith}
use mathlib.Core.Path.{◌≡◌, sym, ◌∙◌}
use Rattle.walk.proofs.nodes.from_node.Goals as goal

pub node_at-requires : goal.node_at-requires
node_at-requires c = (ready_ruled c.requires.0, c.requires.1)

pub from_switch-requires : goal.from_switch-requires
from_switch-requires c =
    let a = c.args in
    let ready = c.requires.0 in
    let ruled = ready_ruled ready in
    let h = in_nodes ruled a.k c.requires.1 in
    let e : c.node_at.result ≡ Node.Switch c.in-Switch.path c.in-Switch.first c.in-Switch.cases c.in-Switch.default c.in-Switch.test = c.in-Switch.is in
    let w = switch_node_lem a.tree.now a.k c.in-Switch.path c.in-Switch.first c.in-Switch.cases c.in-Switch.default c.in-Switch.test (sym c.node_at.ensures ∙ e) in
    let run = switch_node_run ruled.rules a.k h c.in-Switch.path c.in-Switch.first c.in-Switch.cases c.in-Switch.default c.in-Switch.test w in
    let path = switch_node_path ruled.rules a.k h c.in-Switch.path c.in-Switch.first c.in-Switch.cases c.in-Switch.default c.in-Switch.test w in
    let kind = switch_node_kind ruled.rules a.k h c.in-Switch.path c.in-Switch.first c.in-Switch.cases c.in-Switch.default c.in-Switch.test w in
    let alike = switch_node_alike ruled.rules a.k h c.in-Switch.path c.in-Switch.first c.in-Switch.cases c.in-Switch.default c.in-Switch.test w in
    (ready, omega (arith, path, paths_count ready.mapped), run.0, omega (arith, run.1, cases_count ready.mapped), kind, alike, w.test_is)

pub from_list_switch-requires : goal.from_list_switch-requires
from_list_switch-requires c =
    let a = c.args in
    let ready = c.requires.0 in
    let ruled = ready_ruled ready in
    let h = in_nodes ruled a.k c.requires.1 in
    let e : c.node_at.result ≡ Node.ListSwitch c.in-ListSwitch.path c.in-ListSwitch.first c.in-ListSwitch.cases c.in-ListSwitch.tails c.in-ListSwitch.default = c.in-ListSwitch.is in
    let w =
    list_switch_node_lem a.tree.now a.k c.in-ListSwitch.path c.in-ListSwitch.first c.in-ListSwitch.cases c.in-ListSwitch.tails c.in-ListSwitch.default
    (sym c.node_at.ensures ∙ e) in
    let run = list_switch_node_run ruled.rules a.k h c.in-ListSwitch.path c.in-ListSwitch.first c.in-ListSwitch.cases c.in-ListSwitch.tails c.in-ListSwitch.default w in
    let path = list_switch_node_path ruled.rules a.k h c.in-ListSwitch.path c.in-ListSwitch.first c.in-ListSwitch.cases c.in-ListSwitch.tails c.in-ListSwitch.default w in
    let lists = list_switch_node_cases ruled.rules a.k h c.in-ListSwitch.path c.in-ListSwitch.first c.in-ListSwitch.cases c.in-ListSwitch.tails c.in-ListSwitch.default w in
    let tails = list_switch_node_tails ruled.rules a.k h c.in-ListSwitch.path c.in-ListSwitch.first c.in-ListSwitch.cases c.in-ListSwitch.tails c.in-ListSwitch.default w in
    (ready, omega (arith, path, paths_count ready.mapped), omega (arith, run.1, cases_count ready.mapped), lists, tails)

pub returns-in-Switch : goal.returns-in-Switch
returns-in-Switch c =
    let a = c.args in
    let ready = c.requires.0 in
    let ruled = ready_ruled ready in
    let h = in_nodes ruled a.k c.requires.1 in
    let e : c.node_at.result ≡ Node.Switch c.in-Switch.path c.in-Switch.first c.in-Switch.cases c.in-Switch.default c.in-Switch.test = c.in-Switch.is in
    let w = switch_node_lem a.tree.now a.k c.in-Switch.path c.in-Switch.first c.in-Switch.cases c.in-Switch.default c.in-Switch.test (sym c.node_at.ensures ∙ e) in
    steps_switch a.tree.now a.panel.now ready.sound a.k h c.in-Switch.path c.in-Switch.first c.in-Switch.cases c.in-Switch.default c.in-Switch.test c.from_switch.result w
    c.from_switch.ensures

pub returns-in-ListSwitch : goal.returns-in-ListSwitch
returns-in-ListSwitch c =
    let a = c.args in
    let ready = c.requires.0 in
    let ruled = ready_ruled ready in
    let h = in_nodes ruled a.k c.requires.1 in
    let e : c.node_at.result ≡ Node.ListSwitch c.in-ListSwitch.path c.in-ListSwitch.first c.in-ListSwitch.cases c.in-ListSwitch.tails c.in-ListSwitch.default = c.in-ListSwitch.is in
    let w =
    list_switch_node_lem a.tree.now a.k c.in-ListSwitch.path c.in-ListSwitch.first c.in-ListSwitch.cases c.in-ListSwitch.tails c.in-ListSwitch.default
    (sym c.node_at.ensures ∙ e) in
    steps_list_switch a.tree.now a.panel.now ready.sound a.k h c.in-ListSwitch.path c.in-ListSwitch.first c.in-ListSwitch.cases c.in-ListSwitch.tails c.in-ListSwitch.default
    c.from_list_switch.result w c.from_list_switch.ensures

pub returns-in-Leaf : goal.returns-in-Leaf
returns-in-Leaf c =
    let a = c.args in
    let ready = c.requires.0 in
    let ruled = ready_ruled ready in
    let h = in_nodes ruled a.k c.requires.1 in
    let e : c.node_at.result ≡ Node.Leaf c.in-Leaf.clause c.in-Leaf.first c.in-Leaf.count = c.in-Leaf.is in
    let w = leaf_node_lem a.tree.now a.k c.in-Leaf.clause c.in-Leaf.first c.in-Leaf.count (sym c.node_at.ensures ∙ e) in
    steps_leaf a.tree.now a.panel.now ready.sound a.k h c.in-Leaf.clause c.in-Leaf.first c.in-Leaf.count w (omega arith)

pub returns-in-Hoist : goal.returns-in-Hoist
returns-in-Hoist c =
    let a = c.args in
    let ready = c.requires.0 in
    let ruled = ready_ruled ready in
    let h = in_nodes ruled a.k c.requires.1 in
    let e : c.node_at.result ≡ Node.Hoist c.in-Hoist.clause c.in-Hoist.first c.in-Hoist.count c.in-Hoist.child = c.in-Hoist.is in
    let w =
    hoist_node_lem a.tree.now a.k c.in-Hoist.clause c.in-Hoist.first c.in-Hoist.count c.in-Hoist.child (node_kind_known ruled a.k c.requires.1)
    (sym c.node_at.ensures ∙ e) in
    steps_hoist a.tree.now a.panel.now ready.sound a.k h c.in-Hoist.child w
