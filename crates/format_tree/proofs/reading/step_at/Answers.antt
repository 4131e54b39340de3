-- `format_tree::reading::step_at` meets its contract: the map's start of the steps is the file's.
use native.Mathlib.Omega.{arith}
use mathlib.Core.Path.{sym}
use Rattle.format_tree.specs.ReadingLaws.{steps_lie, steps_start, steps_count}
use Rattle.format_tree.proofs.reading.step_at.Goals as goal

pub step_from-requires : goal.step_from-requires
step_from-requires c =
    let w = c.requires.0 in
    let h = c.requires.1 in
    (steps_lie w, sym (steps_start w), omega (arith, h, steps_count w))
