-- `build_cases::rows::meet_test` meets its contract: by the pattern's kind it meets rising cases, none, or one.
use native.Mathlib.Omega.{arith}
use Rattle.base_words.specs.WordsLaws.{bytes_of_fits}
use Rattle.build_cases.specs.RowsLaws.{longest_small, record_small, row_elements, row_fit, row_rises, row_meets, row_meets_none}
use Rattle.build_cases.proofs.rows.meet_test.Goals as goal

pub overflow_sub-least : goal.overflow_sub-least
overflow_sub-least c =
    omega (arith, row_elements c.requires.sheet_accepts.0 c.args.p c.requires.sheet_accepts.1 c.pattern_at-r.result c.pattern_at-r.ensures c.if-r-eq-LIST_WITH_TAIL.true)

pub meet_rising-requires : goal.meet_rising-requires
meet_rising-requires c = record { laid = (c.requires.sheet_accepts.0.ok.is_laid, c.requires.sheet_accepts.0.is_map, longest_small c.args.pass.longest c.args.pass.tail c.longest_with-end.result c.longest_with-end.ensures c.requires.sheet_accepts.2 c.requires.sheet_accepts.3); begun = c.requires.begun }

pub returns-then-r-eq-LIST_WITH_TAIL : goal.returns-then-r-eq-LIST_WITH_TAIL
returns-then-r-eq-LIST_WITH_TAIL c =
    row_rises c.requires.sheet_accepts.0 c.args.p c.requires.sheet_accepts.1 c.pattern_at-r.result c.pattern_at-r.ensures c.args.pass.tail c.args.pass.longest c.if-r-eq-LIST_WITH_TAIL.true
    c.longest_with-end.result c.longest_with-end.ensures c.meet_rising.ensures

pub returns-then-pass : goal.returns-then-pass
returns-then-pass c =
    row_meets_none c.requires.sheet_accepts.0 c.args.p c.requires.sheet_accepts.1 c.pattern_at-r.result c.pattern_at-r.ensures c.args.pass.tail c.args.pass.longest c.if-r-eq-LIST_WITH_TAIL.false c.if-pass.true

pub test_of-requires : goal.test_of-requires
test_of-requires c =
    record_small (bytes_of_fits c.args.sheet.now c.type_inv.sheet) c.args.p c.pattern_at-r.result c.pattern_at-r.ensures

pub meet-requires : goal.meet-requires
meet-requires c = record { laid = (c.requires.sheet_accepts.0.ok.is_laid, c.requires.sheet_accepts.0.is_map, row_fit c.requires.sheet_accepts.0 c.args.p c.requires.sheet_accepts.1 c.pattern_at-r.result c.pattern_at-r.ensures c.if-r-eq-LIST_WITH_TAIL.false c.test_of.result c.test_of.ensures); begun = c.requires.begun }

pub returns : goal.returns
returns c =
    row_meets c.requires.sheet_accepts.0 c.args.p c.requires.sheet_accepts.1 c.pattern_at-r.result c.pattern_at-r.ensures c.args.pass.tail c.args.pass.longest c.if-r-eq-LIST_WITH_TAIL.false c.if-pass.false
    c.test_of.result c.test_of.ensures c.meet.ensures
