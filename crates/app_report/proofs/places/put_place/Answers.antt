-- `app_report::places::put_place` meets its contract: an accepted panel has its map, and with it the number of its records.
use Rattle.std.proofs.Common.{rules, arith}
use Rattle.format_panel.specs.AnswersLaws.{accepts, accepts_opened}
use Rattle.app_listing.specs.WritingLaws.{writes_nothing, writes_as}
use Rattle.app_report.specs.PlacesLaws.{no_panel, no_record, record_there}
use Rattle.app_report.proofs.places.put_place.Goals as goal

pub returns-in_default : goal.returns-in_default
returns-in_default c = writes_as (writes_nothing _ _) (search (rules, no_panel c.args.panel.now c.args.r c.args.dropped))

pub returns-then-map-i : goal.returns-then-map-i
returns-then-map-i c =
    let is_open = accepts_opened _ _ (accepts c.in-Ok.ensures.verdict c.in-Ok.ensures.map) in
    let a = c.args in
    writes_as (writes_nothing _ _)
    (no_record a.panel.now a.r a.dropped c.in-Ok.ensures.verdict (omega (arith, is_open.records_are, c.if-map-i.true)))

pub record_at-x-requires : goal.record_at-x-requires
record_at-x-requires c =
    let is_open = accepts_opened _ _ (accepts c.in-Ok.ensures.verdict c.in-Ok.ensures.map) in
    (is_open.laid, omega (arith, is_open.records_are, c.if-map-i.false))

pub returns : goal.returns
returns c =
    let is_open = accepts_opened _ _ (accepts c.in-Ok.ensures.verdict c.in-Ok.ensures.map) in
    let a = c.args in
    writes_as c.put_record.ensures
    (record_there a.panel.now a.r a.dropped c.in-Ok.ensures.verdict (omega (arith, is_open.records_are, c.if-map-i.false)))
