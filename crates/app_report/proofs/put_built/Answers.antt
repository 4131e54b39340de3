-- The file that the build wrote is walked, and its refusal is told.
use Rattle.app_listing.specs.WritingLaws.{writes_as}
use Rattle.app_report.specs.AnswersLaws.{built_tree, built_refused}
use Rattle.app_report.proofs.put_built.Goals as goal

pub put_walked-requires : goal.put_walked-requires
put_walked-requires c =
    let t =
    built_tree c.args.sheet.now c.args.panel.now _ _ c.build.result _ _ c.build.ensures c.large_buffer-tree.ensures c.large_buffer-work.ensures
    c.requires c.in-Ok.built c.in-Ok.is in
    (t.tree_fits_holds, t.panel_fits_holds)

pub returns-in-Ok : goal.returns-in-Ok
returns-in-Ok c =
    let t =
    built_tree c.args.sheet.now c.args.panel.now _ _ c.build.result _ _ c.build.ensures c.large_buffer-tree.ensures c.large_buffer-work.ensures
    c.requires c.in-Ok.built c.in-Ok.is in
    writes_as c.put_walked.ensures t.text

pub returns-in-Err : goal.returns-in-Err
returns-in-Err c =
    writes_as (rw c.number.ensures at c.put_refused.ensures)
    (built_refused c.args.sheet.now c.args.panel.now _ _ c.build.result _ _ c.build.ensures c.large_buffer-tree.ensures c.large_buffer-work.ensures
    c.requires c.in-Err.refusal c.in-Err.is)
