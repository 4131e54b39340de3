-- `app_report::lines::put_bindings` meets its contract: the loop stands before the lines of the bindings that are left.
use Rattle.std.specs.Prelude.{◌-◌, ◌*◌}
use Rattle.app_listing.specs.Writing.{Begun}
use Rattle.app_report.specs.Lines.{word_lines}
use Rattle.app_report.proofs.lines.put_bindings.Given as goal

abbrev pub invariant-loop-k : goal.invariant-loop-k
invariant-loop-k l = Begun l.initial.out l.out l.at l.end (word_lines l.panel l.bound 0 l.n) (word_lines l.panel l.bound (3 * l.k) (l.n - l.k))
