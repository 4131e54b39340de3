use Rattle.std.proofs.Common.{arith}
use Rattle.format_sheet.specs.CheckLaws.{sheet_accepts}
use Rattle.format_sheet.specs.SectionsLaws.{mapped}
use Rattle.format_sheet_reader.proofs.clause_pattern.Goals as goal

pub root_pattern-requires : goal.root_pattern-requires
root_pattern-requires c =
    let told = c.in_ok-map.ensures in
    let accepts = sheet_accepts c.args.sheet.now c.in_ok-map.map told.verdict told.map in
    (accepts.ok, accepts.is_map, omega (arith, (mapped c.args.sheet.now c.in_ok-map.map told.map).of_clauses))
