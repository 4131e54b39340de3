-- `fit::fitting::fits` meets its contract: it fits the root to the subject's type.
use native.Mathlib.Omega.{arith}
use Rattle.fit.specs.FitLaws.{subject_read, root_fits}
use Rattle.fit.proofs.fitting.fits.Goals as goal

pub record_fits-requires : goal.record_fits-requires
record_fits-requires c =
    let a = c.args in
    let ready = c.requires in
    (ready, omega (arith, ready.is_open.laid.some_record), omega (arith, subject_read a.sheet.now a.map a.panel.now a.places ready, ready.is_typed.subject_type))

pub returns : goal.returns
returns c = let a = c.args in root_fits a.sheet.now a.map a.panel.now a.places c.requires c.record_fits.result c.record_fits.ensures
