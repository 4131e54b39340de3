-- `build_cases::meet::meet` meets its contract: no room, found, or new.
use native.Mathlib.Omega.{arith}
use mathlib.Core.Path.{ap}
use Prim.Native.Nat.{◌-◌}
use Rattle.format_sheet.specs.declared.SheetMap.{SheetMap}
use Rattle.build_cases.specs.FieldsLaws.{fields_fit, fields_searched}
use Rattle.build_cases.specs.SoFarLaws.{begun_rises, begun_most, begun_room, begun_readable, meets_full, meets_found, meets_new}
use Rattle.build_cases.proofs.meet.meet.Goals as goal

pub returns-then-to-eq-CASES_MOST : goal.returns-then-to-eq-CASES_MOST
returns-then-to-eq-CASES_MOST c = meets_full c.args.test c.if-to-eq-CASES_MOST.true

pub same_case-requires : goal.same_case-requires
same_case-requires c = record { laid = (c.requires.laid.0, ap (λ (m : SheetMap). m.pool.start) c.requires.laid.1, fields_fit c.args.test c.from.result c.from.ensures c.requires.laid.2); arena_end_in_bounds = (begun_room c.requires.begun, begun_rises c.requires.begun, begun_most c.requires.begun, begun_readable c.requires.begun) }

pub returns-then-same_case-to : goal.returns-then-same_case-to
returns-then-same_case-to c =
    let is = fields_searched c.args.test c.from.result c.from.ensures c.args.sheet.now c.args.work.now c.args.from (c.args.to - c.args.from) c.same_case.result c.same_case.ensures in
    meets_found c.args.test c.same_case.result is c.if-same_case-to.true

pub returns : goal.returns
returns c =
    let is = fields_searched c.args.test c.from.result c.from.ensures c.args.sheet.now c.args.work.now c.args.from (c.args.to - c.args.from) c.same_case.result c.same_case.ensures in
    meets_new c.args.test c.same_case.result is c.requires.laid.0 c.requires.laid.2 (omega arith) (omega (arith, begun_most c.requires.begun)) _ c.put_case.ensures
