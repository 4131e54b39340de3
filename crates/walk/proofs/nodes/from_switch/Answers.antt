-- `walk::nodes::from_switch` meets its contract: one law of the walk at a switch for each way out.
use Rattle.walk.specs.TurnsLaws.{switch_no_part, switch_wrong_kind, switch_constr, switch_text}
use Rattle.walk.specs.ChoicesLaws.{texts_asked, text_inside, found_in}
use Rattle.walk.specs.Choices.{asked_by, AllText}
use Rattle.walk.specs.FollowLaws.{found_some, found_none, found_within, followable, ready_path, ready_ruled}
use Rattle.walk.specs.Positions.{placed}
use Rattle.walk.specs.declared.follow.Position.{Position}
use Rattle.format_tree.specs.Reading.{test_of}
use Rattle.spec_rules.specs.TreeReader.{path_at}
use Rattle.spec_rules.specs.Kinds.{bytes_record}
use Prim.Native.Nat.{◌+◌, ◌≤◌}
use lib.ListN.{length}
use Rattle.std.specs.Prelude.{Ok}
use native.Mathlib.Omega.{arith}
use mathlib.Core.Path.{◌≡◌, sym, ap, ◌∙◌}
use Rattle.walk.proofs.nodes.from_switch.Goals as goal

pub follow-found-requires : goal.follow-found-requires
follow-found-requires c = ready_path c.requires.0 _ c.requires.1

pub returns-in_default : goal.returns-in_default
returns-in_default c =
    let a = c.args in
    let lost = found_none a.panel.now (path_at a.tree.now a.path) c.follow-found.result c.in_default.field-0 c.stuck.result c.follow-found.ensures c.in_default.is c.stuck.ensures in
    switch_no_part a.tree.now a.panel.now a.path a.first a.cases a.default c.stuck.result.0 lost.1 lost.0

pub record_at-x-requires : goal.record_at-x-requires
record_at-x-requires c =
    let place : Position = c.in-At.p in
    let found = found_some c.args.panel.now (path_at c.args.tree.now c.args.path) place (sym c.follow-found.ensures ∙ c.in-At.is) in
    let ready = c.requires.0 in
    (ready.opened.laid, (found_within (followable ready) c.args.path place found).place_in)

pub path_length-requires : goal.path_length-requires
path_length-requires c = (c.requires.0.mapped, c.requires.1)

pub returns-then-x-asked : goal.returns-then-x-asked
returns-then-x-asked c =
    let place : Position = c.in-At.p in
    let found = found_some c.args.panel.now (path_at c.args.tree.now c.args.path) place (sym c.follow-found.ensures ∙ c.in-At.is) in
    let asked : c.asked_by-asked.result ≡ asked_by (test_of c.args.tree.now c.args.first) = c.asked_by-asked.ensures ∙ ap asked_by c.requires.6 in
    let a = c.args in
    switch_wrong_kind a.tree.now a.panel.now a.path a.first a.cases a.default c.requires.2 c.requires.4 (placed place) found
    c.record_at-x.result c.record_at-x.ensures c.path_length.result c.path_length.ensures (λ e. c.if-x-asked.true (e ∙ sym asked))

pub numbered_case-chosen-requires : goal.numbered_case-chosen-requires
numbered_case-chosen-requires c = (c.requires.0.mapped, c.requires.3)

pub chosen_or-requires : goal.chosen_or-requires
chosen_or-requires c =
    let a = c.args in
    (c.requires.0.mapped, found_in _ a.first a.cases _ c.numbered_case-chosen.result c.requires.3 c.numbered_case-chosen.ensures)

pub returns-then-asked-eq-CONSTRUCTOR : goal.returns-then-asked-eq-CONSTRUCTOR
returns-then-asked-eq-CONSTRUCTOR c =
    let place : Position = c.in-At.p in
    let found = found_some c.args.panel.now (path_at c.args.tree.now c.args.path) place (sym c.follow-found.ensures ∙ c.in-At.is) in
    let asked : c.asked_by-asked.result ≡ asked_by (test_of c.args.tree.now c.args.first) = c.asked_by-asked.ensures ∙ ap asked_by c.requires.6 in
    let a = c.args in
    switch_constr a.tree.now a.panel.now a.path a.first a.cases a.default c.requires.2 c.requires.4 (placed place) found
    c.record_at-x.result c.record_at-x.ensures (c.if-x-asked.false ∙ asked) c.requires.5 c.numbered_case-chosen.result
    (Ok c.chosen_or.result) c.chosen_or.ensures (sym asked ∙ c.if-asked-eq-CONSTRUCTOR.true) c.numbered_case-chosen.ensures

pub overflow_add-start : goal.overflow_add-start
overflow_add-start c =
    let place : Position = c.in-At.p in
    let found = found_some c.args.panel.now (path_at c.args.tree.now c.args.path) place (sym c.follow-found.ensures ∙ c.in-At.is) in
    let asked : c.asked_by-asked.result ≡ asked_by (test_of c.args.tree.now c.args.first) = c.asked_by-asked.ensures ∙ ap asked_by c.requires.6 in
    let texts : (asked_by (test_of c.args.tree.now c.args.first) ≤ bytes_record) × AllText c.args.tree.now c.args.first c.args.cases =
    let a = c.args in
    texts_asked a.tree.now a.first c.requires.4 (λ e. c.if-asked-eq-CONSTRUCTOR.false (asked ∙ e)) a.cases c.requires.5 in
    let text_in : c.args.places.pool.start + c.record_at-x.result.first + c.record_at-x.result.count ≤ length c.args.panel.now =
    let a = c.args in
    let ready = c.requires.0 in
    let read = c.record_at-x in
    text_inside a.panel.now (placed place) read.result read.ensures a.places ready.opened ready.panel.is_shaped
    (found_within (followable ready) a.path place found).place_in (omega (arith, c.if-x-asked.false, asked, texts.0)) in
    omega (arith, text_in, c.requires.0.opened.laid.length_most)

pub text_case-chosen-requires : goal.text_case-chosen-requires
text_case-chosen-requires c =
    let asked : c.asked_by-asked.result ≡ asked_by (test_of c.args.tree.now c.args.first) = c.asked_by-asked.ensures ∙ ap asked_by c.requires.6 in
    let texts : (asked_by (test_of c.args.tree.now c.args.first) ≤ bytes_record) × AllText c.args.tree.now c.args.first c.args.cases =
    let a = c.args in
    texts_asked a.tree.now a.first c.requires.4 (λ e. c.if-asked-eq-CONSTRUCTOR.false (asked ∙ e)) a.cases c.requires.5 in
    let place : Position = c.in-At.p in
    let found = found_some c.args.panel.now (path_at c.args.tree.now c.args.path) place (sym c.follow-found.ensures ∙ c.in-At.is) in
    let text_in : c.args.places.pool.start + c.record_at-x.result.first + c.record_at-x.result.count ≤ length c.args.panel.now =
    let a = c.args in
    let ready = c.requires.0 in
    let read = c.record_at-x in
    text_inside a.panel.now (placed place) read.result read.ensures a.places ready.opened ready.panel.is_shaped
    (found_within (followable ready) a.path place found).place_in (omega (arith, c.if-x-asked.false, asked, texts.0)) in
    (ready_ruled c.requires.0, c.requires.3, texts.1, text_in)

pub chosen_or-requires-2 : goal.chosen_or-requires-2
chosen_or-requires-2 c =
    let a = c.args in
    (c.requires.0.mapped, found_in _ a.first a.cases _ c.text_case-chosen.result c.requires.3 c.text_case-chosen.ensures)

pub returns : goal.returns
returns c =
    let place : Position = c.in-At.p in
    let found = found_some c.args.panel.now (path_at c.args.tree.now c.args.path) place (sym c.follow-found.ensures ∙ c.in-At.is) in
    let asked : c.asked_by-asked.result ≡ asked_by (test_of c.args.tree.now c.args.first) = c.asked_by-asked.ensures ∙ ap asked_by c.requires.6 in
    let a = c.args in
    let read = c.record_at-x in
    switch_text a.tree.now a.panel.now a.path a.first a.cases a.default c.requires.2 c.requires.4 (placed place) found
    read.result read.ensures (c.if-x-asked.false ∙ asked) c.requires.5 c.text_case-chosen.result
    (Ok c.chosen_or-2.result) c.chosen_or-2.ensures a.places c.requires.0.opened (λ e. c.if-asked-eq-CONSTRUCTOR.false (asked ∙ e)) c.text_case-chosen.ensures
