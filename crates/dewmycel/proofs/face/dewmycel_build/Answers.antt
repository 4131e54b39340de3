-- `dewmycel::face::dewmycel_build` meets its contract: each way out is packed, and the buffers are what the build leaves.
use Rattle.dewmycel.specs.AnswersLaws.{tree_packed, unbuilt_packed}
use Rattle.dewmycel.proofs.face.dewmycel_build.Goals as goal

pub returns-in-Ok : goal.returns-in-Ok
returns-in-Ok c = tree_packed c.in-Ok.built c.pack.result c.in-Ok.ensures c.pack.ensures

pub returns-in-Err : goal.returns-in-Err
returns-in-Err c = unbuilt_packed c.in-Err.refusal c.pack_refusal.result c.in-Err.ensures c.pack_refusal.ensures
