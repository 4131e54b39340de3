-- `walk::walk_both` meets its contract: one law of the answer for each way out. A node is one of a file whose length is a word.
use Rattle.std.proofs.Common.{rules, ◌≡◌}
use Rattle.std.specs.Prelude.{Ok, Err, Some}
use Rattle.walk.specs.declared.WalkError.TheVariants.{Stuck}
use Rattle.walk.specs.AnswersLaws.{gives_no_leaf, gives_stuck, gives_unbound, gives_leaf}
use Rattle.walk.specs.Turns.{Arrives}
use Rattle.walk.proofs.Mapped.{ok_before, err_before}
use Rattle.walk.proofs.walk_both.Goals as goal

pub returns-in_err-leaf : goal.returns-in_err-leaf
returns-in_err-leaf c =
    let a = c.args in
    let reached = c.reach-node in
    let error = c.in_err-leaf.field-0.0 in
    let w = err_before _ reached.result.end c.map_err.result c.map_err.ensures.cases error c.in_err-leaf.was in
    let told : c.from_residual.result ≡ Err error = search rules in
    let is : error ≡ Stuck reached.result.node w.0.0 = search rules in
    rw (told, is) (gives_stuck a.tree.now a.panel.now a.bound.now c.requires.2 reached.result.node w.0.0 (rw w.1 at reached.ensures))

pub returns-in_default : goal.returns-in_default
returns-in_default c =
    let a = c.args in
    let reached = c.reach-node in
    let w = ok_before _ reached.result.end c.map_err.result c.map_err.ensures.cases c.in_ok-leaf.field-0 c.in_ok-leaf.was in
    gives_no_leaf a.tree.now a.panel.now a.bound.now c.requires.2 reached.result.node (rw (w, c.in_default.is) at reached.ensures)

pub returns-in_err-map_err : goal.returns-in_err-map_err
returns-in_err-map_err c =
    let a = c.args in
    let reached = c.reach-node in
    let leaf = c.in-Some.leaf in
    let w = ok_before _ reached.result.end c.map_err.result c.map_err.ensures.cases c.in_ok-leaf.field-0 c.in_ok-leaf.was in
    let there : Arrives a.tree.now a.panel.now reached.result.node (Ok (Some leaf)) = rw (w, c.in-Some.is) at reached.ensures in
    let error = c.in_err-map_err.field-0.0 in
    let u = err_before _ c.bind.result c.map_err-2.result c.map_err-2.ensures.cases error c.in_err-map_err.was in
    let told : c.from_residual-in_err-map_err.result ≡ Err error = search rules in
    let is : error ≡ Stuck reached.result.node u.0.0 = search rules in
    rw (told, is) (gives_unbound a.tree.now a.panel.now a.bound.now c.requires.2 reached.result.node leaf c.bind.new.bound there u.0.0 (rw u.1 at c.bind.ensures))

pub returns : goal.returns
returns c =
    let a = c.args in
    let reached = c.reach-node in
    let leaf = c.in-Some.leaf in
    let w = ok_before _ reached.result.end c.map_err.result c.map_err.ensures.cases c.in_ok-leaf.field-0 c.in_ok-leaf.was in
    let there : Arrives a.tree.now a.panel.now reached.result.node (Ok (Some leaf)) = rw (w, c.in-Some.is) at reached.ensures in
    let u = ok_before _ c.bind.result c.map_err-2.result c.map_err-2.ensures.cases c.in_ok-map_err.field-0 c.in_ok-map_err.was in
    gives_leaf a.tree.now a.panel.now a.bound.now c.requires.2 reached.result.node leaf c.bind.new.bound there c.requires.1 (rw u at c.bind.ensures)
