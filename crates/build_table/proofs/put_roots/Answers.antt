use mathlib.Core.Path.{sym, ◌∙◌}
use native.Mathlib.Omega.{arith}
use Rattle.spec_rules.specs.SheetFile.{clauses}
use Rattle.format_sheet.specs.SectionsLaws.{mapped}
use Rattle.build_table.specs.ClassingLaws.{rooted_each_on, rooted_each_end}
use Rattle.build_table.proofs.put_roots.Goals as goal

pub loop-c-preserved : goal.loop-c-preserved
loop-c-preserved c =
    let s = c.args.sheet.now in
    let its = mapped s c.args.map c.requires.0.is_map in
    rooted_each_on s (clauses s) c.loop-c.table _ c.loop-c.c _ _ (omega (arith, its.of_clauses)) c.root_at.ensures its.of_subject c.put_root.ensures ∙ c.loop-c.invariant

pub returns : goal.returns
returns c =
    let s = c.args.sheet.now in
    sym (rooted_each_end s (clauses s) c.loop-c.table c.loop-c.c (omega (arith, (mapped s c.args.map c.requires.0.is_map).of_clauses))) ∙ c.loop-c.invariant
