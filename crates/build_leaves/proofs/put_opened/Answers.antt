use Prim.Native.Nat.{◌+◌}
use mathlib.Core.Path.{◌≡◌, ◌∙◌}
use native.Mathlib.Omega.{arith}
use Rattle.build_table.specs.Seen.{binds_of_each}
use Rattle.build_leaves.specs.Bindings.{bound}
use Rattle.build_leaves.specs.PuttingLaws.{put_run, put_nothing, started, run_entries, run_opened, run_empty, empty_cell, cell_known, other_time, same_time}
use Rattle.build_leaves.proofs.put_opened.Goals as goal

pub returns-in_default : goal.returns-in_default
returns-in_default c =
    let a = c.args in
    let q = c.requires in
    put_nothing a.sheet.now (bound a.work.now a.top) _
    (empty_cell a.sheet.now a.table.now q.0.tabled a.c a.class q.1 q.2 c.at.result c.at.ensures a.opened.now a.time (omega (arith, c.in_default.ensures)))

pub bounds-opened-p : goal.bounds-opened-p
bounds-opened-p c =
    let a = c.args in
    let q = c.requires in
    let some : c.at.result ≡ c.in-Some.p + 1 = omega (arith, c.in-Some.ensures) in
    omega (arith, cell_known a.sheet.now a.table.now q.0.tabled a.c a.class q.1 q.2 c.at.result c.at.ensures c.in-Some.p some, q.0.checked.ok.is_counted.patterns_most_holds)

pub returns-then-from-time : goal.returns-then-from-time
returns-then-from-time c =
    let a = c.args in
    let q = c.requires in
    let some : c.at.result ≡ c.in-Some.p + 1 = omega (arith, c.in-Some.ensures) in
    put_nothing a.sheet.now (bound a.work.now a.top) _
    (other_time a.sheet.now a.table.now q.0.tabled a.c a.class q.1 q.2 c.at.result c.at.ensures c.in-Some.p some a.opened.now a.time c.from.result c.from.ensures c.if-from-time.true)

pub children_of-run-requires : goal.children_of-run-requires
children_of-run-requires c =
    let a = c.args in
    let q = c.requires in
    let some : c.at.result ≡ c.in-Some.p + 1 = omega (arith, c.in-Some.ensures) in
    (q.0.checked.ok.is_laid, q.0.checked.is_map, cell_known a.sheet.now a.table.now q.0.tabled a.c a.class q.1 q.2 c.at.result c.at.ensures c.in-Some.p some)

pub returns-then-run-eq0 : goal.returns-then-run-eq0
returns-then-run-eq0 c =
    let a = c.args in
    let q = c.requires in
    let some : c.at.result ≡ c.in-Some.p + 1 = omega (arith, c.in-Some.ensures) in
    let known = cell_known a.sheet.now a.table.now q.0.tabled a.c a.class q.1 q.2 c.at.result c.at.ensures c.in-Some.p some in
    let held = same_time a.sheet.now a.table.now q.0.tabled a.c a.class q.1 q.2 c.at.result c.at.ensures c.in-Some.p some a.opened.now a.time c.from.result c.from.ensures c.if-from-time.false in
    put_nothing a.sheet.now (bound a.work.now a.top) _ (held ∙ run_empty a.sheet.now c.in-Some.p known c.children_of-run.result c.children_of-run.ensures c.if-run-eq0.true)

pub put_all_bindings-requires : goal.put_all_bindings-requires
put_all_bindings-requires c =
    let a = c.args in
    let q = c.requires in
    let some : c.at.result ≡ c.in-Some.p + 1 = omega (arith, c.in-Some.ensures) in
    let known = cell_known a.sheet.now a.table.now q.0.tabled a.c a.class q.1 q.2 c.at.result c.at.ensures c.in-Some.p some in
    (started q.0, run_entries a.sheet.now c.in-Some.p known c.children_of-run.result c.children_of-run.ensures, q.4)

pub returns : goal.returns
returns c =
    let a = c.args in
    let q = c.requires in
    let run = c.children_of-run in
    let put = c.put_all_bindings in
    let some : c.at.result ≡ c.in-Some.p + 1 = omega (arith, c.in-Some.ensures) in
    let known = cell_known a.sheet.now a.table.now q.0.tabled a.c a.class q.1 q.2 c.at.result c.at.ensures c.in-Some.p some in
    let held = same_time a.sheet.now a.table.now q.0.tabled a.c a.class q.1 q.2 c.at.result c.at.ensures c.in-Some.p some a.opened.now a.time c.from.result c.from.ensures c.if-from-time.false in
    put_run a.sheet.now (bound a.work.now a.top) (bound put.new.work put.result) (binds_of_each a.sheet.now run.result.first run.result.count) _
    (held ∙ run_opened a.sheet.now c.in-Some.p known run.result run.ensures) put.ensures
