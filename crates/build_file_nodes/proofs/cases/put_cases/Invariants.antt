-- `build_file_nodes::cases::put_cases` meets its contract. The loop's invariant: with the cases from first + i on the whole is stored.
use Rattle.build_file_nodes.specs.Model.{moved_by}
use Rattle.build_file_nodes.specs.ModelLaws.{CasesLeft}
use Rattle.build_file_nodes.proofs.cases.put_cases.Given as goal

abbrev pub invariant-loop-i : goal.invariant-loop-i
invariant-loop-i l = CasesLeft l.work (moved_by l.shift) l.first l.count l.at l.initial.tree l.tree l.i
