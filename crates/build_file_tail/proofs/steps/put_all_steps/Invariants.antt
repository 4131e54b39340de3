-- `build_file_tail::steps::put_all_steps` meets its contract. The loop's invariant: the steps of the first i paths are there, and the rest stored behind them is the whole.
use Rattle.build_file_tail.specs.TailLaws.{Stepped}
use Rattle.build_file_tail.proofs.steps.put_all_steps.Given as goal

abbrev pub invariant-loop-i : goal.invariant-loop-i
invariant-loop-i l = Stepped l.sheet l.classes l.initial.tree l.at l.count l.tree l.end l.i
