-- `fit::fitting::record_fits` meets its contract: the loop's invariant is that the parts left have their types, and fit where all of them do.
-- It ends, since a part's record has a larger number than its owner.
use Rattle.std.proofs.Common.{sym, ◌∙◌, arith}
use Rattle.fit.specs.FitLaws.{fits_alone, fits_parts, run_below, parts_start, part_entry, part_type_entry, part_above, part_record, part_type, part_step, parts_stop, parts_on, parts_end}
use Rattle.fit.proofs.fitting.+record_fits.Goals as goal

pub loop-k-init : goal.loop-k-init
loop-k-init t c =
    let a = c.args in
    let p = c.in-Parts in
    let run = run_below a.sheet.now a.map a.panel.now a.places c.requires.0 a.r a.t c.requires.1 c.requires.2 p.first p.count p.entry p.step (sym p.ensures) in
    parts_start a.sheet.now a.map a.panel.now a.places c.requires.0 p.first p.count p.step a.r p.entry run

pub overflow_add-first : goal.overflow_add-first
overflow_add-first t c =
    let a = c.args in
    let p = c.in-Parts in
    let l = c.loop-k in
    omega (arith, part_entry a.sheet.now a.map a.panel.now a.places c.requires.0 p.first p.count p.step a.r l.e l.k c.loop-k-test.true l.invariant.0, c.requires.0.is_open.laid)

pub part_at-part-requires : goal.part_at-part-requires
part_at-part-requires t c =
    let a = c.args in
    let p = c.in-Parts in
    let l = c.loop-k in
    (c.requires.0.is_open, part_entry a.sheet.now a.map a.panel.now a.places c.requires.0 p.first p.count p.step a.r l.e l.k c.loop-k-test.true l.invariant.0)

pub entry_at-of-requires : goal.entry_at-of-requires
entry_at-of-requires t c =
    let a = c.args in
    let p = c.in-Parts in
    let l = c.loop-k in
    (c.requires.0.sheet_laid, c.requires.0.sheet_map, part_type_entry a.sheet.now a.map a.panel.now a.places c.requires.0 p.first p.count p.step a.r l.e l.k c.loop-k-test.true l.invariant.0)

pub record_fits-requires : goal.record_fits-requires
record_fits-requires t c =
    let a = c.args in
    let p = c.in-Parts in
    let l = c.loop-k in
    let above = part_above a.sheet.now a.map a.panel.now a.places c.requires.0 p.first p.count p.step a.r l.e l.k c.loop-k-test.true l.invariant.0 in
    let below = part_record a.sheet.now a.map a.panel.now a.places c.requires.0 p.first p.count p.step a.r l.e l.k c.loop-k-test.true l.invariant.0 in
    let typed = part_type a.sheet.now a.map a.panel.now a.places c.requires.0 p.first p.count p.step a.r l.e l.k c.loop-k-test.true l.invariant.0 in
    (omega (arith, c.decreases, c.part_at-part.ensures, c.requires.0.is_open.laid.records_most_holds), (c.requires.0, omega (arith, c.part_at-part.ensures), omega (arith, c.entry_at-of.ensures)))

pub returns-then-not-record_fits : goal.returns-then-not-record_fits
returns-then-not-record_fits t c =
    let a = c.args in
    let p = c.in-Parts in
    let l = c.loop-k in
    let stop = parts_stop a.sheet.now a.map a.panel.now a.places c.requires.0 p.first p.count p.step a.r l.e l.k c.loop-k-test.true l.invariant.0 c.part_at-part.result c.entry_at-of.result c.part_at-part.ensures c.entry_at-of.ensures c.record_fits.result c.record_fits.ensures c.if-not-record_fits.true in
    fits_parts a.sheet.now a.map a.panel.now a.places c.requires.0 a.r a.t c.requires.1 _ p.first p.count p.entry p.step (sym p.ensures) (stop ∙ l.invariant.1)

pub overflow_add-e : goal.overflow_add-e
overflow_add-e t c =
    let a = c.args in
    let p = c.in-Parts in
    let l = c.loop-k in
    omega (arith, part_step a.sheet.now a.map a.panel.now a.places c.requires.0 p.first p.count p.step a.r l.e l.k c.loop-k-test.true l.invariant.0, c.requires.0.sheet_laid)

pub loop-k-preserved : goal.loop-k-preserved
loop-k-preserved t c =
    let a = c.args in
    let p = c.in-Parts in
    let l = c.loop-k in
    let on = parts_on a.sheet.now a.map a.panel.now a.places c.requires.0 p.first p.count p.step a.r l.e l.k c.loop-k-test.true l.invariant.0 c.part_at-part.result c.entry_at-of.result c.part_at-part.ensures c.entry_at-of.ensures c.record_fits.result c.record_fits.ensures c.if-not-record_fits.false in
    (on.0, on.1 ∙ l.invariant.1)

pub returns-in-Alone : goal.returns-in-Alone
returns-in-Alone t c =
    let a = c.args in
    fits_alone a.sheet.now a.map a.panel.now a.places c.requires.0 a.r a.t c.requires.1 c.in-Alone.fits (sym c.in-Alone.ensures)

pub returns-after-loop-k : goal.returns-after-loop-k
returns-after-loop-k t c =
    let a = c.args in
    let p = c.in-Parts in
    let l = c.loop-k in
    let done = parts_end a.sheet.now a.map a.panel.now a.places c.requires.0 p.first p.count p.step l.e l.k c.loop-k-test.false in
    fits_parts a.sheet.now a.map a.panel.now a.places c.requires.0 a.r a.t c.requires.1 _ p.first p.count p.entry p.step (sym p.ensures) (done ∙ l.invariant.1)
