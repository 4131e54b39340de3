-- `format_panel::text` meets its contract: the refusal of the check, or 33, or where the text stands in an accepted panel.
use Rattle.std.proofs.Common.{rules, ◌≡◌, true, arith}
use Rattle.format_parts.specs.RefusalsLaws.{passes}
use Rattle.format_panel.specs.AnswersLaws.{panel_refused, accepts, accepts_opened, text_refused, text_record, text_within, text_found}
use Rattle.spec_rules.specs.Calls.{has_text}
use Rattle.format_panel.proofs.text.Goals as goal

pub returns-in_err-map : goal.returns-in_err-map
returns-in_err-map c = search (rules, panel_refused)

pub has_text-requires : goal.has_text-requires
has_text-requires c = search (rules, accepts_opened, accepts)

pub returns-in_err-require : goal.returns-in_err-require
returns-in_err-require c = search (rules, text_refused)

pub record_at-x-requires : goal.record_at-x-requires
record_at-x-requires c =
    let a = c.args in
    let has : has_text a.panel.now a.r a.dropped ≡ true = search (rules, passes) in
    (search (rules, accepts_opened, accepts), text_record a.panel.now a.r a.dropped c.in_ok-map.ensures.verdict has)

pub overflow_add-result : goal.overflow_add-result
overflow_add-result c =
    let a = c.args in
    let has : has_text a.panel.now a.r a.dropped ≡ true = search (rules, passes) in
    let x = c.record_at-x in
    omega (arith, text_within a.panel.now a.r a.dropped c.in_ok-map.ensures.verdict has c.in_ok-map.map c.in_ok-map.ensures.map x.result x.ensures)

pub returns : goal.returns
returns c = search (rules, text_found, passes)
