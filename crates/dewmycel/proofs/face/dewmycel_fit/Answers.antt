-- `dewmycel::face::dewmycel_fit` meets its contract: each way out is packed.
use Rattle.dewmycel.specs.AnswersLaws.{fits_packed, unfit_packed}
use Rattle.dewmycel.proofs.face.dewmycel_fit.Goals as goal

pub returns-in-Ok : goal.returns-in-Ok
returns-in-Ok c = fits_packed c.in-Ok.ensures

pub returns-in-Err : goal.returns-in-Err
returns-in-Err c = unfit_packed c.in-Err.refusal c.pack_refusal.result c.in-Err.ensures c.pack_refusal.ensures
