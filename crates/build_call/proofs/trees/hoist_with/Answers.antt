-- `build_call::trees::hoist_with` meets its contract: the scopes that are found are those of the tree in the arena.
use native.Mathlib.Omega.{arith}
use Rattle.format_sheet.specs.SectionsLaws.{mapped}
use Rattle.build_call.specs.RawLaws.{scopes_asked, hoistable}
use Rattle.build_call.proofs.trees.hoist_with.Goals as goal

pub get_hoist_paths-scopes-requires : goal.get_hoist_paths-scopes-requires
get_hoist_paths-scopes-requires c =
    let a = c.requires.sheet_accepts in
    (scopes_asked a.0.ok _ _ _ _ a.2, omega (arith, (mapped c.args.sheet.now c.args.map a.0.is_map).of_clauses, a.0.ok.is_counted.clauses_most_holds), a.3)

pub write_hoisted-requires-clause-sheet_accepts : goal.write_hoisted-requires-clause-sheet_accepts
write_hoisted-requires-clause-sheet_accepts c =
    let a = c.requires.sheet_accepts in
    let found = c.get_hoist_paths-scopes in
    (a.0, a.1, hoistable a.0.ok _ _ _ _ a.2 found.result _ _ (mapped c.args.sheet.now c.args.map a.0.is_map).of_clauses found.ensures)
