-- The file that the build wrote is listed, and its refusal is told.
use Rattle.app_io.specs.ShownLaws.{sheet_listed, sheet_refused}
use Rattle.app_io.proofs.list.Goals as goal

pub returns-in-Ok : goal.returns-in-Ok
returns-in-Ok c =
    sheet_listed _ _ _ c.build.result _ _ c.build.ensures c.large_buffer-tree.ensures c.large_buffer-work.ensures _ _ _
    c.in-Ok.built c.in-Ok.is c.list_tree.ensures

pub returns-in-Err : goal.returns-in-Err
returns-in-Err c =
    sheet_refused _ _ _ c.build.result _ _ c.build.ensures c.large_buffer-tree.ensures c.large_buffer-work.ensures _ _ _
    c.in-Err.refusal c.in-Err.is (rw c.number.ensures at c.refused_line.ensures)
