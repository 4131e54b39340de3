-- `splitting::first_columns`: the columns of the clauses from one on, the last first.
use mathlib.Core.Path.{◌≡◌, refl, sym, ap, ◌∙◌}
use mathlib.Core.List.{[]}
use Prim.Native.Nat.{◌≤◌}
use native.Mathlib.Omega.{arith}
use Rattle.base_words.specs.Words.{zeros}
use Rattle.spec_rules.specs.SheetFile.{clauses}
use Rattle.format_sheet.specs.declared.SheetMap.{SheetMap}
use Rattle.build_matrix.specs.Lists.{as_classes, Holds}
use Rattle.build_matrix.specs.ListsLaws.{whole, holds_same}
use Rattle.build_matrix.specs.SplitLaws.{columns_from, columns_none, root_known, root_room, next_listed, next_columns}
use Rattle.build_matrix.proofs.splitting.first_columns.Goals as goal

pub loop-c-init : goal.loop-c-init
loop-c-init c =
    let h : Holds (as_classes (zeros 192) 0) [] = record { long = refl; most = omega arith; are = refl } in
    let e : c.args.map.clauses.count ≡ clauses c.args.sheet.now = ap (λ (m : SheetMap). m.clauses.count) c.requires.checked.is_map in (
      record { whole = whole h; each = tt },
      holds_same h (sym (ap (columns_from c.args.sheet.now) e ∙ columns_none c.args.sheet.now)),
    )

pub map_pattern_to_row-count-requires : goal.map_pattern_to_row-count-requires
map_pattern_to_row-count-requires c =
    let l = c.loop-c in
    let high : l.c ≤ clauses c.args.sheet.now = omega (arith, ap (λ (m : SheetMap). m.clauses.count) c.requires.checked.is_map) in
    let r = c.root_at in
    (c.requires, l.invariant.0, root_known c.requires l.c c.loop-c-test.true high r.result r.ensures (as_classes l.list l.count) l.invariant.0 l.invariant.1, root_room c.requires l.c c.loop-c-test.true high r.result r.ensures (as_classes l.list l.count) l.invariant.0 l.invariant.1)

pub loop-c-preserved : goal.loop-c-preserved
loop-c-preserved c =
    let l = c.loop-c in
    let high : l.c ≤ clauses c.args.sheet.now = omega (arith, ap (λ (m : SheetMap). m.clauses.count) c.requires.checked.is_map) in
    let r = c.root_at in (
      next_listed c.requires l.c c.loop-c-test.true high r.result r.ensures (as_classes l.list l.count) l.invariant.0 l.invariant.1 c.map_pattern_to_row-count.ensures,
      next_columns c.requires l.c c.loop-c-test.true high r.result r.ensures (as_classes l.list l.count) l.invariant.0 l.invariant.1 c.map_pattern_to_row-count.ensures,
    )
