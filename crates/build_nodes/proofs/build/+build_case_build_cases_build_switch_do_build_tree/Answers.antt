-- The building cycle meets its contracts: each call hands on what its matrix asks, and its tree is built or has too many nodes.
use native.Mathlib.Omega.{arith}
use mathlib.Core.Path.{refl, ap}
use Rattle.format_records.specs.declared.reading.Case.{Case}
use Rattle.build_matrix.specs.Meant.{meant}
use Rattle.build_matrix.specs.InNumbers.{matrix_of}
use Rattle.build_nodes.specs.TestedLaws.{still, still_on, still_fewer, still_column, still_default}
use Rattle.build_nodes.specs.ColumnLaws.{tested_room, rows_known, column_in, column_splits, column_known, case_more, case_still, default_more, default_still}
use Rattle.build_nodes.specs.LeafLaws.{asked_readable, asked_chosen, node_left, clause_asked, leaf_builds, full_builds}
use Rattle.build_nodes.specs.LoopLaws.{case_asked, case_tree_is, turn_at, turn_asked, turn_done, turn_over, loop_begin, loop_end}
use Rattle.build_nodes.specs.ChosenLaws.{opened, cased, no_room, switch_open, switch_cases_over, switch_node_asked, switch_asked, switch_done, switch_default}
use Prim.Native.Nat.{◌+◌}
use Rattle.build_nodes.proofs.build.+build_case_build_cases_build_switch_do_build_tree.Goals as goal

-- ---- a case
pub build_case-case_matrix-case_sizes-requires-clause-case_asked : goal.build_case-case_matrix-case_sizes-requires-clause-case_asked
build_case-case_matrix-case_sizes-requires-clause-case_asked t c =
    let r = c.requires in (r.col.ready, r.col.there.whole, r.col.there.sound, column_in r.col, r.pool)

pub build_case-do_build_tree-requires : goal.build_case-do_build_tree-requires
build_case-do_build_tree-requires t c =
    let m = c.case_matrix-case_sizes in
    let y = matrix_of m.new.new_rows m.new.new_columns m.new.tested m.new.opened m.result in
    (omega (arith, c.decreases, tested_room c.requires.col, case_more c.requires.col y (meant c.args.sheet.now c.args.test) m.ensures.whole m.ensures.are), case_asked c.requires y m.ensures)

pub build_case-returns : goal.build_case-returns
build_case-returns t c =
    let m = c.case_matrix-case_sizes in
    let y = matrix_of m.new.new_rows m.new.new_columns m.new.tested m.new.opened m.result in
    let test = meant c.args.sheet.now c.args.test in
    let built = c.do_build_tree in (
      case_tree_is c.requires y m.ensures built.new.work built.result built.ensures.0,
      still_on (case_still c.requires.col y test m.ensures.whole m.ensures.are)
          (still_fewer (case_more c.requires.col y test m.ensures.whole m.ensures.are) built.ensures.1),
    )

-- ---- the cases
pub build_cases-loop-i-init : goal.build_cases-loop-i-init
build_cases-loop-i-init t c = (still c.requires.asked_column.there.whole.whole_tested.long, loop_begin c.requires.asked_column c.requires.asked_cases)

pub build_cases-build_case-requires : goal.build_cases-build_case-requires
build_cases-build_case-requires t c =
    let l = c.loop-i in
    let turn = turn_at l.i c.requires.asked_column c.requires.asked_cases l.invariant.1 (omega arith) c.loop-i-test.true l.invariant.0 in
    let test_is = ap (λ (z : Case). z.test) c.case_at-test.ensures in
    (omega (arith, c.decreases), turn_asked turn c.case_at-test.result.test test_is c.put_child.new.work c.put_child.ensures)

pub build_cases-returns-in_err-tops : goal.build_cases-returns-in_err-tops
build_cases-returns-in_err-tops t c =
    let l = c.loop-i in
    let turn = turn_at l.i c.requires.asked_column c.requires.asked_cases l.invariant.1 (omega arith) c.loop-i-test.true l.invariant.0 in
    let test_is = ap (λ (z : Case). z.test) c.case_at-test.ensures in
    rw c.from_residual.ensures
    (turn_over turn c.case_at-test.result.test test_is c.put_child.new.work c.put_child.ensures c.in_err-tops.ensures.0, still_on l.invariant.0 c.in_err-tops.ensures.1)

pub build_cases-loop-i-preserved : goal.build_cases-loop-i-preserved
build_cases-loop-i-preserved t c =
    let l = c.loop-i in
    let turn = turn_at l.i c.requires.asked_column c.requires.asked_cases l.invariant.1 (omega arith) c.loop-i-test.true l.invariant.0 in
    let test_is = ap (λ (z : Case). z.test) c.case_at-test.ensures in
    let built = c.in_ok-tops.ensures in
    (still_on l.invariant.0 built.1, turn_done turn c.case_at-test.result.test test_is c.put_child.new.work c.put_child.ensures c.build_case.new.work c.in_ok-tops.tops built.0)

pub build_cases-returns : goal.build_cases-returns
build_cases-returns t c =
    let l = c.loop-i in
    (loop_end c.requires.asked_column c.requires.asked_cases l.i l.work l.tops l.invariant.1 (omega arith), l.invariant.0)

-- ---- a switch
pub build_switch-meet_cases-requires-clause-ready_table : goal.build_switch-meet_cases-requires-clause-ready_table
build_switch-meet_cases-requires-clause-ready_table t c = let col = c.requires.0 in (col.ready, col.there.whole.whole_rows, rows_known col, column_known col)

pub build_switch-returns-in_err-met : goal.build_switch-returns-in_err-met
build_switch-returns-in_err-met t c =
    let col = c.requires.0 in
    rw c.from_residual.ensures (no_room col c.args.tops c.args.work.now c.meet_cases.new.work c.meet_cases.result c.in_err-met.was c.meet_cases.ensures, still col.there.whole.whole_tested.long)

pub build_switch-build_cases-requires : goal.build_switch-build_cases-requires
build_switch-build_cases-requires t c =
    let begun = opened c.requires.0 c.requires.1 c.requires.2 c.meet_cases.result c.in_ok-met.met c.in_ok-met.was c.meet_cases.ensures in
    (omega (arith, c.decreases), (c.requires.0, switch_open begun))

pub build_switch-returns-in_err-next : goal.build_switch-returns-in_err-next
build_switch-returns-in_err-next t c =
    let begun = opened c.requires.0 c.requires.1 c.requires.2 c.meet_cases.result c.in_ok-met.met c.in_ok-met.was c.meet_cases.ensures in
    rw c.from_residual-in_err-next.ensures (switch_cases_over begun c.in_err-next.ensures.0, c.in_err-next.ensures.1)

pub build_switch-default_matrix-default_sizes-requires-clause-splits : goal.build_switch-default_matrix-default_sizes-requires-clause-splits
build_switch-default_matrix-default_sizes-requires-clause-splits t c = column_splits (still_column c.requires.0 c.build_cases.ensures.1)

pub build_switch-put_switch-requires-clause-arena_end_in_bounds : goal.build_switch-put_switch-requires-clause-arena_end_in_bounds
build_switch-put_switch-requires-clause-arena_end_in_bounds t c =
    let begun = opened c.requires.0 c.requires.1 c.requires.2 c.meet_cases.result c.in_ok-met.met c.in_ok-met.was c.meet_cases.ensures in
    let done = cased begun c.in_ok-next.ensures.0 (still_default c.requires.0 c.in_ok-next.ensures.1 c.default_matrix-default_sizes.ensures) in
    let a = switch_node_asked done in (a.0, a.1, a.2, omega arith)

pub build_switch-returns-then-default_sizes-eq0 : goal.build_switch-returns-then-default_sizes-eq0
build_switch-returns-then-default_sizes-eq0 t c =
    let begun = opened c.requires.0 c.requires.1 c.requires.2 c.meet_cases.result c.in_ok-met.met c.in_ok-met.was c.meet_cases.ensures in
    let m = c.default_matrix-default_sizes in
    let y = matrix_of m.new.new_rows m.new.new_columns m.new.tested c.args.opened.now m.result in
    let col = still_column c.requires.0 c.in_ok-next.ensures.1 in
    let done = cased begun c.in_ok-next.ensures.0 (still_default c.requires.0 c.in_ok-next.ensures.1 m.ensures) in
    (switch_done done c.put_switch.new.work 0 c.put_switch.ensures c.if-default_sizes-eq0.true refl, still_on c.in_ok-next.ensures.1 (default_still col y m.ensures))

pub build_switch-put_switch-requires-2-clause-arena_end_in_bounds : goal.build_switch-put_switch-requires-2-clause-arena_end_in_bounds
build_switch-put_switch-requires-2-clause-arena_end_in_bounds t c =
    let begun = opened c.requires.0 c.requires.1 c.requires.2 c.meet_cases.result c.in_ok-met.met c.in_ok-met.was c.meet_cases.ensures in
    let done = cased begun c.in_ok-next.ensures.0 (still_default c.requires.0 c.in_ok-next.ensures.1 c.default_matrix-default_sizes.ensures) in
    let a = switch_node_asked done in (a.0, a.1, a.2, a.3)

pub build_switch-do_build_tree-requires : goal.build_switch-do_build_tree-requires
build_switch-do_build_tree-requires t c =
    let begun = opened c.requires.0 c.requires.1 c.requires.2 c.meet_cases.result c.in_ok-met.met c.in_ok-met.was c.meet_cases.ensures in
    let m = c.default_matrix-default_sizes in
    let y = matrix_of m.new.new_rows m.new.new_columns m.new.tested c.args.opened.now m.result in
    let col = still_column c.requires.0 c.in_ok-next.ensures.1 in
    let done = cased begun c.in_ok-next.ensures.0 (still_default c.requires.0 c.in_ok-next.ensures.1 m.ensures) in (
      omega (arith, c.decreases, tested_room c.requires.0, default_more col y m.ensures),
      switch_asked done c.put_switch-2.new.work (c.in_ok-next.next.nodes + 1) c.put_switch-2.ensures c.if-default_sizes-eq0.false,
    )

pub build_switch-returns : goal.build_switch-returns
build_switch-returns t c =
    let begun = opened c.requires.0 c.requires.1 c.requires.2 c.meet_cases.result c.in_ok-met.met c.in_ok-met.was c.meet_cases.ensures in
    let m = c.default_matrix-default_sizes in
    let y = matrix_of m.new.new_rows m.new.new_columns m.new.tested c.args.opened.now m.result in
    let col = still_column c.requires.0 c.in_ok-next.ensures.1 in
    let done = cased begun c.in_ok-next.ensures.0 (still_default c.requires.0 c.in_ok-next.ensures.1 m.ensures) in
    let built = c.do_build_tree in (
      switch_default done c.put_switch-2.new.work (c.in_ok-next.next.nodes + 1) c.put_switch-2.ensures built.new.work built.result c.if-default_sizes-eq0.false refl built.ensures.0,
      still_on (still_on c.in_ok-next.ensures.1 (default_still col y m.ensures)) (still_fewer (default_more col y m.ensures) built.ensures.1),
    )

-- ---- a matrix
pub do_build_tree-returns-then-tops-eq-NODES_MOST : goal.do_build_tree-returns-then-tops-eq-NODES_MOST
do_build_tree-returns-then-tops-eq-NODES_MOST t c =
    let there = c.requires.there in
    (full_builds c.requires.ready.checked.ok there c.args.tops c.if-tops-eq-NODES_MOST.true, still there.whole.whole_tested.long)

pub do_build_tree-highest_occurrence-requires : goal.do_build_tree-highest_occurrence-requires
do_build_tree-highest_occurrence-requires t c = let r = asked_readable c.requires in (r.whole.whole_rows, r.whole.whole_columns, r.cells)

pub do_build_tree-build_switch-requires : goal.do_build_tree-build_switch-requires
do_build_tree-build_switch-requires t c =
    let best = c.highest_occurrence in (
      omega (arith, c.decreases),
      (
        record { ready = c.requires.ready; there = c.requires.there; chosen = asked_chosen c.requires best.result best.ensures c.in-Some.is },
        c.requires.room,
        node_left c.requires.room.nodes_most_holds c.if-tops-eq-NODES_MOST.false,
      ),
    )

pub do_build_tree-put_leaf-requires : goal.do_build_tree-put_leaf-requires
do_build_tree-put_leaf-requires t c =
    let r = c.requires in
    (r.ready, clause_asked r.ready.checked.ok r.there c.from-clause.result c.from-clause.ensures, r.room, node_left r.room.nodes_most_holds c.if-tops-eq-NODES_MOST.false)

pub do_build_tree-returns-in-None : goal.do_build_tree-returns-in-None
do_build_tree-returns-in-None t c =
    let r = c.requires in
    let best = c.highest_occurrence in
    let put = c.put_leaf in (
      leaf_builds r.ready.checked.ok r.there c.args.work.now put.new.work c.args.tops put.result c.from-clause.result
          (asked_chosen r best.result best.ensures c.in-None.is) c.from-clause.ensures put.ensures,
      still r.there.whole.whole_tested.long,
    )
