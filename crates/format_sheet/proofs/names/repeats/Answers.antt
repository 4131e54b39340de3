use native.Mathlib.Omega.{arith}
use Rattle.format_sheet.specs.NamesLaws.{repeats_found, repeats_go_on, repeats_end}
use Rattle.format_sheet.proofs.names.repeats.Goals as goal

pub returns-then-again : goal.returns-then-again
returns-then-again c =
    repeats_found c.args.found.now c.args.count c.loop-i.i (omega (arith, c.requires)) c.loop-i-test.true c.loop-i.invariant c.again.ensures c.if-again.true

pub loop-i-preserved : goal.loop-i-preserved
loop-i-preserved c =
    repeats_go_on c.args.found.now c.args.count c.loop-i.i (omega (arith, c.requires)) c.loop-i-test.true c.loop-i.invariant c.again.ensures c.if-again.false

pub returns : goal.returns
returns c = repeats_end c.args.found.now c.args.count c.loop-i.i c.loop-i-test.false c.loop-i.invariant
