-- `walk::nodes::from_length` meets its contract: one law of the walk at a length for each way out.
use Rattle.walk.specs.TurnsLaws.{turns_length, turns_no_length}
use Rattle.walk.specs.ChoicesLaws.{numbered_list, found_in}
use Rattle.std.specs.Prelude.{Ok}
use Rattle.spec_rules.specs.Found.{found}
use native.Mathlib.Omega.{arith}
use mathlib.Core.Path.{sym, ap, ◌∙◌}
use Rattle.walk.proofs.nodes.from_length.Goals as goal

pub numbered_case-requires : goal.numbered_case-requires
numbered_case-requires c = (c.requires.0, omega (arith, c.requires.1))

pub child_of-requires : goal.child_of-requires
child_of-requires c =
    let a = c.args in
    let inside = found_in _ a.first a.cases a.map.cases.count c.numbered_case.result (omega (arith, c.requires.1)) c.numbered_case.ensures in
    (c.requires.0, inside c.in-Some.exact c.in-Some.is)

pub returns-in-Some : goal.returns-in-Some
returns-in-Some c =
    let a = c.args in
    let chosen = c.numbered_case.ensures ∙ ap found (numbered_list a.tree.now a.first a.cases a.length c.requires.2) in
    λ v s. turns_length a.tree.now v s a.length a.first a.cases a.tails a.default c.in-Some.exact c.child_of.result (sym chosen ∙ c.in-Some.is) c.child_of.ensures

pub overflow_add-first : goal.overflow_add-first
overflow_add-first c =
    omega (arith, c.requires.0, c.requires.1)

pub from_tails-requires : goal.from_tails-requires
from_tails-requires c =
    (c.requires.0, omega (arith, c.requires.1), c.requires.3)

pub returns-in-None : goal.returns-in-None
returns-in-None c =
    let a = c.args in
    let chosen = c.numbered_case.ensures ∙ ap found (numbered_list a.tree.now a.first a.cases a.length c.requires.2) in
    λ v s. turns_no_length a.tree.now v s a.length a.first a.cases a.tails a.default (Ok c.from_tails.result)
    (sym chosen ∙ c.in-None.is) (c.from_tails.ensures v s)
