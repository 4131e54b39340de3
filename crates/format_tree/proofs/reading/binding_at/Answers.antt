-- `format_tree::reading::binding_at` meets its contract: the map's start of the bindings is the file's.
use native.Mathlib.Omega.{arith}
use mathlib.Core.Path.{sym}
use Rattle.format_tree.specs.ReadingLaws.{bindings_lie, bindings_start, bindings_count}
use Rattle.format_tree.proofs.reading.binding_at.Goals as goal

pub binding_from-requires : goal.binding_from-requires
binding_from-requires c =
    let w = c.requires.0 in
    let h = c.requires.1 in
    (bindings_lie w, sym (bindings_start w), omega (arith, h, bindings_count w))
