-- `build_file_tail::records::put_paths` meets its contract. The loop's invariant: the records of the first i paths are there, and `first` is how many steps they have.
use Rattle.build_file_tail.specs.RecordsLaws.{Recorded}
use Rattle.build_file_tail.proofs.records.put_paths.Given as goal

abbrev pub invariant-loop-i : goal.invariant-loop-i
invariant-loop-i l = Recorded l.table l.classes l.initial.tree l.at l.count l.tree l.first l.i
