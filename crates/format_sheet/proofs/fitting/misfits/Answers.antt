use Rattle.format_sheet.specs.FittingLaws.{misfit_is}
use Rattle.format_sheet.proofs.fitting.misfits.Goals as goal

pub returns : goal.returns
returns c = misfit_is c.args.sheet.now c.args.map c.requires.0.is_map c.args.c c.root_at.result c.root_at.ensures c.fits.ensures
