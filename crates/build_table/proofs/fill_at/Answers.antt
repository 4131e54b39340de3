use Prim.Native.Nat.{ℕ}
use mathlib.Core.List.{List}
use mathlib.Core.Path.{◌≡◌}
use native.Mathlib.Omega.{arith}
use Rattle.build_table.specs.Tabled.{Filled}
use Rattle.build_table.specs.FilledLaws.{placed_here, ranged, row_below, class_filled, indices_filled, test_filled}
use Rattle.build_table.specs.ChildrenLaws.{children_filled}
use Rattle.build_table.proofs.fill_at.Goals as goal

filled_as : {s t u : List ℕ} {a b i d : ℕ} → u ≡ t → Filled s t a b i d → Filled s u a b i d
filled_as e f = rw e f

pub put_class-requires : goal.put_class-requires
put_class-requires c = let pre = c.requires in ranged pre.0.ok pre.1 pre.2 (omega arith)

pub put_indices-requires : goal.put_indices-requires
put_indices-requires c =
    let pre = c.requires in
    row_below pre.0.ok pre.1 (filled_as c.put_class.ensures (class_filled pre.0.ok pre.1 pre.2)) (omega arith)

pub put_test-requires : goal.put_test-requires
put_test-requires c =
    let pre = c.requires in
    let classed = filled_as c.put_class.ensures (class_filled pre.0.ok pre.1 pre.2) in
    let filled = filled_as c.put_indices.ensures (indices_filled pre.0.ok pre.1 classed) in
    (pre.0, filled.long, pre.1, placed_here pre.0.ok pre.1 filled (omega arith), filled.classed c.args.p pre.1 (omega arith))

pub place_children-requires : goal.place_children-requires
place_children-requires c =
    let pre = c.requires in
    let classed = filled_as c.put_class.ensures (class_filled pre.0.ok pre.1 pre.2) in
    let indexed = filled_as c.put_indices.ensures (indices_filled pre.0.ok pre.1 classed) in
    let filled = filled_as c.put_test.ensures (test_filled pre.0.ok pre.1 indexed) in
    (pre.0, filled.long, pre.1, placed_here pre.0.ok pre.1 filled (omega arith))

pub returns : goal.returns
returns c =
    let pre = c.requires in
    let classed = filled_as c.put_class.ensures (class_filled pre.0.ok pre.1 pre.2) in
    let indexed = filled_as c.put_indices.ensures (indices_filled pre.0.ok pre.1 classed) in
    let filled = filled_as c.put_test.ensures (test_filled pre.0.ok pre.1 indexed) in
    filled_as c.place_children.ensures (children_filled pre.0.ok pre.1 filled (placed_here pre.0.ok pre.1 filled (omega arith)))
