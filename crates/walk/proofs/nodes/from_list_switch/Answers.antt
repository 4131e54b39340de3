-- `walk::nodes::from_list_switch` meets its contract: one law of the walk at a list switch for each way out.
use Rattle.format_panel.specs.declared.records.Record.{Record}
use Rattle.walk.specs.TurnsLaws.{list_no_part, list_wrong_kind, list_turns}
use Rattle.walk.specs.Turns.{steps_on}
use Rattle.walk.specs.FollowLaws.{found_some, found_none, found_within, followable, ready_path}
use Rattle.walk.specs.Positions.{placed}
use Rattle.walk.specs.declared.follow.Position.{Position}
use Rattle.spec_rules.specs.TreeReader.{path_at}
use Rattle.std.specs.Prelude.{Ok}
use native.Mathlib.Omega.{arith}
use mathlib.Core.Path.{sym, ap, ◌∙◌}
use Rattle.walk.proofs.nodes.from_list_switch.Goals as goal

pub follow-found-requires : goal.follow-found-requires
follow-found-requires c = ready_path c.requires.0 _ c.requires.1

pub returns-in_default : goal.returns-in_default
returns-in_default c =
    let a = c.args in
    let lost = found_none a.panel.now (path_at a.tree.now a.path) c.follow-found.result c.in_default.field-0 c.stuck.result c.follow-found.ensures c.in_default.is c.stuck.ensures in
    list_no_part a.tree.now a.panel.now a.path a.first a.cases a.tails a.default c.stuck.result.0 lost.1 lost.0

pub record_at-x-requires : goal.record_at-x-requires
record_at-x-requires c =
    let place : Position = c.in-At.p in
    let found = found_some c.args.panel.now (path_at c.args.tree.now c.args.path) place (sym c.follow-found.ensures ∙ c.in-At.is) in
    let ready = c.requires.0 in
    (ready.opened.laid, (found_within (followable ready) c.args.path place found).place_in)

pub path_length-requires : goal.path_length-requires
path_length-requires c = (c.requires.0.mapped, c.requires.1)

pub returns-then-x-ne-LIST : goal.returns-then-x-ne-LIST
returns-then-x-ne-LIST c =
    let place : Position = c.in-At.p in
    let found = found_some c.args.panel.now (path_at c.args.tree.now c.args.path) place (sym c.follow-found.ensures ∙ c.in-At.is) in
    let a = c.args in
    list_wrong_kind a.tree.now a.panel.now a.path a.first a.cases a.tails a.default c.path_length.result c.path_length.ensures
    (placed place) c.record_at-x.result found c.record_at-x.ensures c.if-x-ne-LIST.true

pub overflow_sub-x : goal.overflow_sub-x
overflow_sub-x c =
    let place : Position = c.in-At.p in
    let found = found_some c.args.panel.now (path_at c.args.tree.now c.args.path) place (sym c.follow-found.ensures ∙ c.in-At.is) in
    let within = found_within (followable c.requires.0) c.args.path place found in
    omega (arith, within.dropped_in, ap (λ (x : Record). x.count) c.record_at-x.ensures)

pub from_length-requires : goal.from_length-requires
from_length-requires c =
    let pre = c.requires in
    (pre.0.mapped, pre.2, pre.3, pre.4)

pub returns : goal.returns
returns c =
    let place : Position = c.in-At.p in
    let found = found_some c.args.panel.now (path_at c.args.tree.now c.args.path) place (sym c.follow-found.ensures ∙ c.in-At.is) in
    let a = c.args in
    list_turns a.tree.now a.panel.now a.path a.first a.cases a.tails a.default (placed place) c.record_at-x.result
    (Ok c.from_length.result) found c.record_at-x.ensures c.if-x-ne-LIST.false (c.from_length.ensures a.panel.now (steps_on a.tree.now a.panel.now a.path))
