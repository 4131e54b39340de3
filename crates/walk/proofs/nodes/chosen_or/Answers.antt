-- `walk::nodes::chosen_or` meets its contract: one law of the walk of a run of cases for each way out.
use Rattle.walk.specs.TurnsLaws.{turns_case, turns_past}
use Rattle.walk.specs.Turns.{default_walk}
use Rattle.std.specs.Prelude.{Some, None, Ok}
use Rattle.spec_rules.specs.TreeReader.{default_child}
use mathlib.Core.Path.{◌≡◌, sym, ◌∙◌}
use Rattle.walk.proofs.nodes.chosen_or.Goals as goal

pub child_of-requires : goal.child_of-requires
child_of-requires c =
    (c.requires.0, c.requires.1 c.in-Some.place c.in-Some.is)

pub returns-in-Some : goal.returns-in-Some
returns-in-Some c =
    let a = c.args in
    let told : a.chosen ≡ Some c.in-Some.place = c.in-Some.is in
    λ v s x first cases e.
    turns_case a.tree.now v s x first cases (default_child a.default) (default_walk v a.default) c.in-Some.place c.child_of.result (sym e ∙ told) c.child_of.ensures

pub returns-in-None : goal.returns-in-None
returns-in-None c =
    let a = c.args in
    let told : a.chosen ≡ None = c.in-None.is in
    λ v s x first cases e.
    turns_past a.tree.now v s x first cases (default_child a.default) (default_walk v a.default) (Ok c.default_of.result) (sym e ∙ told) (c.default_of.ensures a.tree.now v s)
