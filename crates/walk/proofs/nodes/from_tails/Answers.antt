-- `walk::nodes::from_tails` meets its contract: one law of the walk past the exact lengths for each way out.
use Rattle.walk.specs.TurnsLaws.{turns_no_tail, turns_tail}
use Rattle.walk.specs.ChoicesLaws.{numbered_tail, found_in}
use Rattle.std.specs.Prelude.{Ok}
use Rattle.spec_rules.specs.Found.{found}
use Rattle.spec_rules.specs.Splitting.{ListWithTail}
use Prim.Native.Nat.{◌-◌}
use mathlib.Core.Path.{ap, ◌∙◌}
use Rattle.walk.proofs.nodes.from_tails.Goals as goal

pub returns-then-k-eq0 : goal.returns-then-k-eq0
returns-then-k-eq0 c =
    let a = c.args in
    let k = c.largest_tail-k.result in
    λ v s. turns_no_tail a.tree.now v s a.length a.first a.tails a.default (Ok c.default_of.result) k
    c.largest_tail-k.ensures c.if-k-eq0.true (c.default_of.ensures a.tree.now v s)

pub chosen_or-requires : goal.chosen_or-requires
chosen_or-requires c =
    let a = c.args in
    (c.requires.0, found_in _ a.first a.tails _ c.numbered_case-chosen.result c.requires.1 c.numbered_case-chosen.ensures)

pub returns : goal.returns
returns c =
    let a = c.args in
    let k = c.largest_tail-k.result in
    let chosen = c.numbered_case-chosen.ensures ∙ ap found (numbered_tail a.tree.now a.first a.tails (k - 1) c.requires.2) in
    λ v s. turns_tail a.tree.now v s a.length a.first a.tails a.default (Ok c.chosen_or.result) k c.largest_tail-k.ensures
    c.if-k-eq0.false (c.chosen_or.ensures v s (ListWithTail (k - 1)) a.first a.tails chosen)
