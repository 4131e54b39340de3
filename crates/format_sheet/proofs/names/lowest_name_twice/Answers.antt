use mathlib.Core.Path.{sym, ◌∙◌}
use native.Mathlib.Omega.{arith}
use Rattle.spec_rules.specs.SheetRefusals.{name_twice, lowest_name_twice}
use Rattle.spec_rules.specs.SheetFile.{clauses}
use Rattle.format_sheet.specs.SectionsLaws.{mapped}
use Rattle.format_sheet.specs.LoopsLaws.{lowest_goes_on, lowest_stops, lowest_ends}
use Rattle.format_sheet.proofs.names.lowest_name_twice.Goals as goal

pub returns-then-name_twice : goal.returns-then-name_twice
unfolding lowest_name_twice
returns-then-name_twice c =
    let s = c.args.sheet.now in
    let l = c.loop-c in
    lowest_stops (name_twice s) (clauses s) l.c (omega (arith, c.loop-c-test.true, (mapped s c.args.map c.requires.is_map).of_clauses)) l.invariant.1 (sym c.name_twice.ensures ∙ c.if-name_twice.true)

pub loop-c-preserved : goal.loop-c-preserved
loop-c-preserved c =
    let s = c.args.sheet.now in
    let l = c.loop-c in
    let more = (mapped s c.args.map c.requires.is_map).of_clauses in (omega (arith, c.name_twice.auto.found, l.invariant.0), lowest_goes_on (name_twice s) (clauses s) l.c (omega (arith, c.loop-c-test.true, more)) l.invariant.1 (sym c.name_twice.ensures ∙ c.if-name_twice.false))

pub returns : goal.returns
unfolding lowest_name_twice
returns c =
    let s = c.args.sheet.now in
    let l = c.loop-c in
    lowest_ends (name_twice s) (clauses s) l.c (omega (arith, c.loop-c-test.false, (mapped s c.args.map c.requires.is_map).of_clauses)) l.invariant.1
