use mathlib.Core.Path.{refl, ap, ◌∙◌}
use mathlib.Core.List.{List}
use Prim.Native.Nat.{ℕ}
use native.Mathlib.Omega.{arith}
use Rattle.format_sheet.specs.declared.SheetMap.{SheetMap}
use Rattle.format_sheet.specs.Sections.{map_of}
use Rattle.format_sheet.specs.Fitting.{ReadySheet}
use Rattle.format_sheet.specs.Names.{in_buffer}
use Rattle.format_sheet.specs.CollectLaws.{clause_room, clause_held}
use Rattle.format_sheet.proofs.names.name_twice.Goals as goal

-- a sheet is ready with its own map
of_map : {s : List ℕ} {m : SheetMap} → ReadySheet s m → ReadySheet s (map_of s)
of_map h = record { is_map = refl; is_laid = h.is_laid; is_counted = h.is_counted; is_typed = h.is_typed; is_shaped = h.is_shaped }

pub collect-count-requires : goal.collect-count-requires
collect-count-requires c =
    let r = c.root_at in record { ready_sheet = (of_map c.requires.0, ap (λ (m : SheetMap). m.patterns.start) c.requires.0.is_map, ap (λ (m : SheetMap). m.children.start) c.requires.0.is_map, omega (arith, r.ensures, c.requires.0.is_shaped.root_pattern c.args.c c.requires.1)); found_len = (c.requires.2, clause_room c.args.sheet.now c.args.map c.requires.0 c.args.c r.result c.requires.1 r.ensures) }

pub returns : goal.returns
returns c =
    let r = c.root_at in
    c.repeats.ensures
    ∙ (clause_held c.args.sheet.now c.args.map c.requires.0 c.args.c r.result c.requires.1 r.ensures c.args.found.now c.requires.2 (in_buffer c.collect-count.new.found c.collect-count.result) c.collect-count.ensures).2
