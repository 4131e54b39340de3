-- One column more is tested at each call of the cycle. The loop's invariant: the cases before i are built, and the classes tested are as they were.
use Rattle.build_table.specs.Standing.{sheet_paths}
use Rattle.build_matrix.specs.InNumbers.{in_numbers, matrix_of}
use Rattle.build_nodes.specs.Built.{Partly}
use Rattle.build_nodes.specs.Steps.{StillTested, case_list, case_tree}
use Prim.Native.Nat.{◌+◌, ◌-◌, ◌*◌}
use Rattle.build_nodes.proofs.build.+build_case_build_cases_build_switch_do_build_tree.Given as goal

abbrev pub decreases-build_case : goal.decreases-build_case
decreases-build_case l = 4 * (192 - l.sizes.tested)

abbrev pub decreases-build_cases : goal.decreases-build_cases
decreases-build_cases l = 4 * (192 - l.sizes.tested) + 1

abbrev pub decreases-build_switch : goal.decreases-build_switch
decreases-build_switch l = 4 * (192 - l.sizes.tested) + 2

abbrev pub decreases-do_build_tree : goal.decreases-do_build_tree
decreases-do_build_tree l = 4 * (192 - l.sizes.tested) + 3

abbrev pub invariant-build_cases-loop-i : goal.invariant-build_cases-loop-i
invariant-build_cases-loop-i l =
    let M = in_numbers (matrix_of l.rows l.columns l.initial.tested l.opened l.sizes) in
    StillTested l.sizes.tested l.initial.tested l.tested
    × Partly (sheet_paths l.sheet) (case_tree l.sheet l.class M) (case_list l.sheet l.class M) l.first (l.i - l.first) l.initial.work l.work l.initial.tops l.tops
