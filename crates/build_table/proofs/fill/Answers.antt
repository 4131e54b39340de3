use Prim.Native.Nat.{ℕ}
use mathlib.Core.List.{List}
use mathlib.Core.Path.{ap, ◌∙◌}
use native.Mathlib.Omega.{arith}
use Rattle.spec_rules.specs.SheetFile.{clauses}
use Rattle.format_sheet.specs.SectionsLaws.{mapped}
use Rattle.build_table.specs.Table.{rooted_each}
use Rattle.build_table.specs.RootsLaws.{roots_filled, all_filled}
use Rattle.build_table.proofs.fill.Goals as goal

pub loop-p-init : goal.loop-p-init
loop-p-init c =
    let ok = c.requires.0.ok in
    let zero = ap (λ (t : List ℕ). rooted_each c.args.sheet.now t 0 (clauses c.args.sheet.now)) c.requires.1 in
    rw (c.put_roots.ensures ∙ zero) (roots_filled ok)

pub returns : goal.returns
returns c =
    let l = c.loop-p in
    all_filled c.requires.0.ok l.table l.p (omega (arith, (mapped c.args.sheet.now c.args.map c.requires.0.is_map).of_patterns)) l.invariant
