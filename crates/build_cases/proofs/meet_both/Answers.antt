-- `build_cases::meet_both` meets its contract: two passes, and their records one behind the other.
use native.Mathlib.Omega.{arith}
use mathlib.Core.Path.{refl}
use Rattle.base_words.specs.WordsLaws.{bytes_of_fits}
use Rattle.build_cases.specs.ColumnLaws.{longest_few}
use Rattle.build_cases.specs.MadeLaws.{pass_begins, second_begins, passes_past, passes_made}
use Rattle.build_cases.proofs.meet_both.Goals as goal

pub meet_rows-mid-requires : goal.meet_rows-mid-requires
meet_rows-mid-requires c =
    let a = c.args in
    let l = c.longest_of-longest in
    let few = longest_few (bytes_of_fits a.sheet.now c.type_inv.sheet) c.requires.tests_asked.0.ok a.tests.now c.requires.tests_asked.1 l.result l.ensures in record { pass_asked = (c.requires.tests_asked.0, c.requires.tests_asked.1, few.0, few.1); begun = pass_begins a.sheet.now a.work.now a.first c.requires.arena_end_in_bounds.0 c.requires.arena_end_in_bounds.1 }

pub meet_rows-end-requires : goal.meet_rows-end-requires
meet_rows-end-requires c =
    let a = c.args in
    let l = c.longest_of-longest in
    let few = longest_few (bytes_of_fits a.sheet.now c.type_inv.sheet) c.requires.tests_asked.0.ok a.tests.now c.requires.tests_asked.1 l.result l.ensures in record { pass_asked = (c.requires.tests_asked.0, c.requires.tests_asked.1, few.0, few.1); begun = second_begins a.tests.now l.result l.ensures c.requires.arena_end_in_bounds.0 c.requires.arena_end_in_bounds.1 c.meet_rows-mid.ensures }

pub returns-then-end-eq-CASES_MOST : goal.returns-then-end-eq-CASES_MOST
returns-then-end-eq-CASES_MOST c =
    let a = c.args in
    let l = c.longest_of-longest in
    passes_past a.tests.now l.result l.ensures c.requires.arena_end_in_bounds.0 c.requires.arena_end_in_bounds.1 c.meet_rows-mid.ensures c.meet_rows-end.ensures c.if-end-eq-CASES_MOST.true

pub overflow_add-result : goal.overflow_add-result
overflow_add-result c =
    let a = c.args in
    let l = c.longest_of-longest in
    let few = longest_few (bytes_of_fits a.sheet.now c.type_inv.sheet) c.requires.tests_asked.0.ok a.tests.now c.requires.tests_asked.1 l.result l.ensures in
    omega (arith, few.0, few.1)

pub returns : goal.returns
returns c =
    let a = c.args in
    let l = c.longest_of-longest in
    passes_made a.tests.now l.result l.ensures c.requires.arena_end_in_bounds.0 c.requires.arena_end_in_bounds.1 c.meet_rows-mid.ensures c.meet_rows-end.ensures c.if-end-eq-CASES_MOST.false _ refl
