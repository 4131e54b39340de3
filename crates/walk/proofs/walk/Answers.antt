-- `walk::walk` meets its contract: one law of the call for each way out; the buffer is zero from the start on.
use Rattle.std.proofs.Common.{rules, ◌∙◌, sym, ap}
use Rattle.base_words.specs.Words.{zeros}
use Rattle.base_words.specs.WordsLaws.{bytes_of_fits}
use Rattle.format_parts.specs.RefusalsLaws.{passes}
use Rattle.format_panel.specs.AnswersLaws.{accepts}
use Rattle.format_tree.specs.CheckLaws.{accepted_is}
use Rattle.spec_rules.specs.Calls.{walk_room}
use Rattle.walk.specs.AnswersLaws.{ready, call_no_room, call_no_tree, call_no_panel, call_walks}
use Rattle.walk.proofs.walk.Goals as goal

pub returns-in_err-require : goal.returns-in_err-require
unfolding walk_room
returns-in_err-require c =
    let clear = c.zero_words.ensures ∙ ap zeros (sym c.zero_words.auto.words) in
    search (rules, call_no_room c.args.tree.now c.args.panel.now c.zero_words.new.words clear _ c.zero_words.auto.words)

pub returns-in_err-map : goal.returns-in_err-map
unfolding walk_room
returns-in_err-map c =
    let clear = c.zero_words.ensures ∙ ap zeros (sym c.zero_words.auto.words) in
    search (rules, call_no_tree c.args.tree.now c.args.panel.now c.zero_words.new.words clear _ c.zero_words.auto.words)

pub returns-in_err-places : goal.returns-in_err-places
unfolding walk_room
returns-in_err-places c =
    let clear = c.zero_words.ensures ∙ ap zeros (sym c.zero_words.auto.words) in
    search (rules, call_no_panel c.args.tree.now c.args.panel.now c.zero_words.new.words clear _ c.zero_words.auto.words)

pub walk_both-requires : goal.walk_both-requires
walk_both-requires c =
    let a = c.args in
    let clear = c.zero_words.ensures ∙ ap zeros (sym c.zero_words.auto.words) in
    let tree = accepted_is a.tree.now c.in_ok-map.map (search (rules, bytes_of_fits)) c.in_ok-map.ensures.verdict c.in_ok-map.ensures.map in
    (ready tree (accepts c.in_ok-places.ensures.verdict c.in_ok-places.ensures.map), search (rules, passes), clear)

pub returns : goal.returns
unfolding walk_room
returns c =
    let a = c.args in
    let clear = c.zero_words.ensures ∙ ap zeros (sym c.zero_words.auto.words) in
    call_walks a.tree.now a.panel.now c.zero_words.new.words clear _ c.zero_words.auto.words (search rules) c.in_ok-map.ensures.verdict c.in_ok-places.ensures.verdict c.walk_both.new.bound c.walk_both.result c.walk_both.ensures
