-- `format_tree::order::children_follow` meets its contract: the node's children are chained, wherever they stand.
use Rattle.format_tree.specs.OrderLaws.{children_follow_is, children_follow_leaf, children_follow_hoist}
use Rattle.format_tree.specs.PreOrder.{ChildrenAre}
use Rattle.format_tree.specs.declared.order.Children.{Children}
use mathlib.Core.Path.{◌≡◌, ◌∙◌, subst}
use Rattle.format_tree.proofs.order.children_follow.Goals as goal

pub switch_follows-requires : goal.switch_follows-requires
switch_follows-requires c =
    let e : c.children_of-children.result ≡ Children.Cases c.in-Cases.first c.in-Cases.count c.in-Cases.default = c.in-Cases.is in
    let r = subst (ChildrenAre c.args.tree.now c.args.map c.args.k) e c.children_of-children.ensures in
    (c.requires.0, c.requires.1, r.1, r.2)

pub returns-in-Cases : goal.returns-in-Cases
returns-in-Cases c =
    let e : c.children_of-children.result ≡ Children.Cases c.in-Cases.first c.in-Cases.count c.in-Cases.default = c.in-Cases.is in
    let r = subst (ChildrenAre c.args.tree.now c.args.map c.args.k) e c.children_of-children.ensures in
    c.switch_follows.ensures ∙ children_follow_is c.args.tree.now c.args.k _ r.0

pub returns-in-One : goal.returns-in-One
returns-in-One c =
    let e : c.children_of-children.result ≡ Children.One c.in-One.child = c.in-One.is in
    children_follow_hoist c.args.tree.now c.args.k c.in-One.child
    (subst (ChildrenAre c.args.tree.now c.args.map c.args.k) e c.children_of-children.ensures)

pub returns-in-Nothing : goal.returns-in-Nothing
returns-in-Nothing c =
    let e : c.children_of-children.result ≡ Children.Nothing = c.in-Nothing.is in
    children_follow_leaf c.args.tree.now c.args.k
    (subst (ChildrenAre c.args.tree.now c.args.map c.args.k) e c.children_of-children.ensures)
