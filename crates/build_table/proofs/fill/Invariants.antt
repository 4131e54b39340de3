use Rattle.build_table.specs.Tabled.{Filled}
use Rattle.build_table.proofs.fill.Given as goal

abbrev pub invariant-loop-p : goal.invariant-loop-p
invariant-loop-p l = Filled l.sheet l.table l.p l.p l.p l.p
