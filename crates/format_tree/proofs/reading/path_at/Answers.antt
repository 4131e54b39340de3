-- `format_tree::reading::path_at` meets its contract: the map's start of the paths is the file's.
use native.Mathlib.Omega.{arith}
use mathlib.Core.Path.{sym}
use Rattle.format_tree.specs.ReadingLaws.{paths_lie, paths_start, paths_count}
use Rattle.format_tree.proofs.reading.path_at.Goals as goal

pub path_from-requires : goal.path_from-requires
path_from-requires c =
    let w = c.requires.0 in
    let h = c.requires.1 in
    (paths_lie w, sym (paths_start w), omega (arith, h, paths_count w))
