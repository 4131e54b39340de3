-- `format_tree::order::last_child` meets its contract: the last of the node's children, wherever they stand.
use Rattle.format_tree.specs.OrderLaws.{last_child_is, last_child_leaf, last_child_hoist}
use Rattle.format_tree.specs.PreOrder.{ChildrenAre}
use Rattle.format_tree.specs.declared.order.Children.{Children}
use mathlib.Core.Path.{◌≡◌, ◌∙◌, subst}
use Rattle.format_tree.proofs.order.last_child.Goals as goal

pub last_of_switch-requires : goal.last_of_switch-requires
last_of_switch-requires c =
    let e : c.children_of-children.result ≡ Children.Cases c.in-Cases.first c.in-Cases.count c.in-Cases.default = c.in-Cases.is in
    let r = subst (ChildrenAre c.args.tree.now c.args.map c.args.k) e c.children_of-children.ensures in
    (c.requires.0.mapped, r.1, r.2)

pub returns-in-Cases : goal.returns-in-Cases
returns-in-Cases c =
    let e : c.children_of-children.result ≡ Children.Cases c.in-Cases.first c.in-Cases.count c.in-Cases.default = c.in-Cases.is in
    let r = subst (ChildrenAre c.args.tree.now c.args.map c.args.k) e c.children_of-children.ensures in
    c.last_of_switch.ensures c.args.k ∙ last_child_is c.args.tree.now c.args.k _ r.0

pub returns-in-One : goal.returns-in-One
returns-in-One c =
    let e : c.children_of-children.result ≡ Children.One c.in-One.child = c.in-One.is in
    last_child_hoist c.args.tree.now c.args.k c.in-One.child
    (subst (ChildrenAre c.args.tree.now c.args.map c.args.k) e c.children_of-children.ensures)

pub returns-in-Nothing : goal.returns-in-Nothing
returns-in-Nothing c =
    let e : c.children_of-children.result ≡ Children.Nothing = c.in-Nothing.is in
    last_child_leaf c.args.tree.now c.args.k
    (subst (ChildrenAre c.args.tree.now c.args.map c.args.k) e c.children_of-children.ensures)
