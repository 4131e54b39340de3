-- `build_call::trees::write_tree` meets its contract: what is written is the file of the sheet's tree.
use mathlib.Core.Path.{refl}
use Prim.Native.Nat.{◌≤◌}
use native.Mathlib.Omega.{arith}
use Rattle.spec_rules.specs.Limits.{nodes_most, bindings_most}
use Rattle.spec_rules.specs.Calls.{sheet_tree}
use Rattle.build_table.specs.Standing.{sheet_paths}
use Rattle.build_file_nodes.specs.Written.{Written}
use Rattle.format_sheet.specs.SectionsLaws.{mapped}
use Rattle.build_call.specs.RawLaws.{asked_at, written_at, nodes_written, cases_written, bindings_written, tail_is_ready, end_small, file_written}
use Rattle.build_call.proofs.trees.write_tree.Goals.{After-write_nodes-written}
use Rattle.build_call.proofs.trees.write_tree.Goals as goal

pub write_nodes-written-requires : goal.write_nodes-written-requires
write_nodes-written-requires c =
    let a = c.requires.sheet_accepts in
    (asked_at a.0.ok _ _ _ _ a.2 _ (mapped c.args.sheet.now c.args.map a.0.is_map).of_clauses, c.requires.clear_tree.0, refl)

file : (c : After-write_nodes-written) → Written (sheet_paths c.args.sheet.now) (sheet_tree c.args.sheet.now) c.args.tree.now c.write_nodes-written.new.tree c.write_nodes-written.new.classes c.write_nodes-written.result
file c =
    let a = c.requires.sheet_accepts in
    written_at a.0.ok _ _ _ _ a.2 _ (mapped c.args.sheet.now c.args.map a.0.is_map).of_clauses _ _ _ _ c.write_nodes-written.ensures

-- 12 and 13 bound what is written
few : (c : After-write_nodes-written) → (c.write_nodes-written.result.nodes ≤ nodes_most) × (c.write_nodes-written.result.cases ≤ nodes_most) × (c.write_nodes-written.result.bindings ≤ bindings_most)
few c =
    let a = c.requires.sheet_accepts in (
      nodes_written a.0.ok _ _ _ _ a.2 a.0.verdict _ _ _ _ (file c),
      cases_written a.0.ok _ _ _ _ a.2 a.0.verdict _ _ _ _ (file c),
      bindings_written a.0.ok _ _ _ _ a.2 a.0.verdict _ _ _ _ (file c),
    )

pub overflow_mul-cases : goal.overflow_mul-cases
overflow_mul-cases c = omega (arith, few (goal.at.overflow_mul-cases c).After-write_nodes-written)

pub overflow_mul-bindings : goal.overflow_mul-bindings
overflow_mul-bindings c = omega (arith, few (goal.at.overflow_mul-bindings c).After-write_nodes-written)

pub overflow_add-bindings : goal.overflow_add-bindings
overflow_add-bindings c = omega (arith, few (goal.at.overflow_add-bindings c).After-write_nodes-written)

pub overflow_mul-paths : goal.overflow_mul-paths
overflow_mul-paths c = omega (arith, few (goal.at.overflow_mul-paths c).After-write_nodes-written)

pub overflow_add-paths : goal.overflow_add-paths
overflow_add-paths c = omega (arith, few (goal.at.overflow_add-paths c).After-write_nodes-written)

pub put_tail-end-requires : goal.put_tail-end-requires
put_tail-end-requires c =
    let a = c.requires.sheet_accepts in
    tail_is_ready a.0.ok _ _ _ _ a.2 a.0.verdict _ _ _ _ (file (goal.at.put_tail-end-requires c).After-write_nodes-written) c.args.map c.args.table.now a.0 a.1
    (omega (arith, c.requires.clear_tree.0, c.write_nodes-written.auto.tree))

pub overflow_cast-result : goal.overflow_cast-result
overflow_cast-result c =
    let a = c.requires.sheet_accepts in
    let e = end_small a.0.ok _ _ _ _ a.2 a.0.verdict _ _ _ _ (file (goal.at.overflow_cast-result c).After-write_nodes-written) _ _ c.put_tail-end.ensures in
    omega (arith, e)

pub overflow_cast-result-2 : goal.overflow_cast-result-2
overflow_cast-result-2 c = omega (arith, few (goal.at.overflow_cast-result-2 c).After-write_nodes-written)

pub overflow_cast-result-3 : goal.overflow_cast-result-3
overflow_cast-result-3 c = omega (arith, few (goal.at.overflow_cast-result-3 c).After-write_nodes-written)

pub returns : goal.returns
returns c =
    let a = c.requires.sheet_accepts in
    file_written a.0.ok _ _ _ _ a.2 a.0.verdict _ _ _ _ (file (goal.at.returns c).After-write_nodes-written) _ _ c.requires.clear_tree.1 c.requires.clear_tree.0 c.put_tail-end.ensures
