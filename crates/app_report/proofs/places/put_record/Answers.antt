-- `app_report::places::put_record` meets its contract: each arm is the text of its kind; a number of a record is a word.
use Rattle.std.proofs.Common.{rules, arith}
use Rattle.base_words.specs.WordsLaws.{bytes_of_fits}
use Rattle.app_listing.specs.WritingLaws.{writes_nothing, writes_as}
use Rattle.app_report.specs.PlacesLaws.{int_is, bytes_is, list_is, pair_is, tuple_is, constr_is, unknown_is, count_small, a_small}
use Rattle.app_report.proofs.places.put_record.Goals as goal

pub overflow_cast-x : goal.overflow_cast-x
overflow_cast-x c =
    omega (arith, count_small c.args.panel.now c.args.r c.args.dropped c.args.x c.requires (bytes_of_fits c.args.panel.now (search rules)))

pub overflow_cast-x-in-4 : goal.overflow_cast-x-in-4
overflow_cast-x-in-4 c =
    omega (arith, count_small c.args.panel.now c.args.r c.args.dropped c.args.x c.requires (bytes_of_fits c.args.panel.now (search rules)))

pub overflow_cast-x-in-5 : goal.overflow_cast-x-in-5
overflow_cast-x-in-5 c =
    omega (arith, a_small c.args.panel.now c.args.r c.args.dropped c.args.x c.requires (bytes_of_fits c.args.panel.now (search rules)))

pub returns-in-0 : goal.returns-in-0
returns-in-0 c =
    writes_as c.put_int.ensures (int_is c.args.panel.now c.args.r c.args.dropped c.args.x c.requires c.in-0.is)

pub returns-in-1 : goal.returns-in-1
returns-in-1 c =
    writes_as c.put_bytes.ensures (bytes_is c.args.panel.now c.args.r c.args.dropped c.args.x c.requires c.in-1.is)

pub returns-in-2 : goal.returns-in-2
returns-in-2 c =
    writes_as c.put_list.ensures (list_is c.args.panel.now c.args.r c.args.dropped c.args.x c.requires c.in-2.is)

pub returns-in-3 : goal.returns-in-3
returns-in-3 c =
    writes_as c.put_text.ensures (pair_is c.args.panel.now c.args.r c.args.dropped c.args.x c.requires c.in-3.is)

pub returns-in-4 : goal.returns-in-4
returns-in-4 c =
    writes_as c.put_numbered.ensures (tuple_is c.args.panel.now c.args.r c.args.dropped c.args.x c.requires c.in-4.is)

pub returns-in-5 : goal.returns-in-5
returns-in-5 c =
    writes_as c.put_numbered-in-5.ensures (constr_is c.args.panel.now c.args.r c.args.dropped c.args.x c.requires c.in-5.is)

pub returns-in_default : goal.returns-in_default
returns-in_default c =
    writes_as (writes_nothing _ _)
    (unknown_is c.args.panel.now c.args.r c.args.dropped c.args.x c.requires
    (omega arith))
