use native.Mathlib.Omega.{arith}
use Rattle.spec_accepted.specs.SheetFacts.{owned_entry}
use Rattle.format_sheet.specs.Sections.{map_of}
use Rattle.format_sheet.specs.Names.{in_buffer}
use Rattle.format_sheet.specs.CollectLaws.{run_owned, own_room, child_known, collect_room, collect_goes_on, collect_ends}
use Prim.Native.Nat.{◌+◌}
use Rattle.format_sheet.proofs.names.+collect.Goals as goal

pub add_own-next-requires : goal.add_own-next-requires
add_own-next-requires t c = record { laid = (c.requires.ready_sheet.0.is_laid, c.requires.ready_sheet.1, c.requires.ready_sheet.3); found_len = (c.requires.found_len.0, own_room c.args.sheet.now (map_of c.args.sheet.now) c.requires.ready_sheet.0 c.args.p c.requires.ready_sheet.3 c.args.count c.requires.found_len.1) }

pub overflow_add-run : goal.overflow_add-run
overflow_add-run t c =
    let r = c.children_in-run in
    let known = owned_entry c.requires.ready_sheet.0.is_shaped c.args.p (r.result.first + c.loop-k.k) c.requires.ready_sheet.3 (run_owned c.args.sheet.now c.args.p r.result r.ensures c.loop-k.k c.loop-k-test.true) in
    omega (arith, known, c.requires.ready_sheet.0.is_counted.children_most_holds)

pub child_in-requires : goal.child_in-requires
child_in-requires t c =
    let r = c.children_in-run in
    (c.requires.ready_sheet.0.is_laid, c.requires.ready_sheet.2, owned_entry c.requires.ready_sheet.0.is_shaped c.args.p (r.result.first + c.loop-k.k) c.requires.ready_sheet.3 (run_owned c.args.sheet.now c.args.p r.result r.ensures c.loop-k.k c.loop-k-test.true))

pub collect-next-requires : goal.collect-next-requires
collect-next-requires t c =
    let ok = c.requires.ready_sheet.0 in
    let r = c.children_in-run in
    let own = c.add_own-next in
    let l = c.loop-k in
    let q = c.child_in in
    let names = in_buffer c.args.found.now c.args.count in
    let start = in_buffer own.new.found own.result in
    let next = in_buffer l.found l.next in
    let known = child_known c.args.sheet.now (map_of c.args.sheet.now) ok c.args.p c.requires.ready_sheet.3 r.result r.ensures names start next l.k q.result c.loop-k-test.true q.ensures l.invariant in (
      omega (arith, c.decreases, known, ok.is_counted.patterns_most_holds),
      (
        (ok, c.requires.ready_sheet.1, c.requires.ready_sheet.2, known.1),
        collect_room c.args.sheet.now (map_of c.args.sheet.now) ok c.args.p c.requires.ready_sheet.3 r.result r.ensures names start next l.k q.result c.loop-k-test.true q.ensures l.invariant c.requires.found_len.0 c.requires.found_len.1 own.ensures,
      ),
    )

pub loop-k-preserved : goal.loop-k-preserved
loop-k-preserved t c =
    let r = c.children_in-run in
    let own = c.add_own-next in
    let l = c.loop-k in
    let q = c.child_in in
    let more = c.collect-next in
    collect_goes_on c.args.sheet.now (map_of c.args.sheet.now) c.requires.ready_sheet.0 c.args.p c.requires.ready_sheet.3 r.result r.ensures (in_buffer c.args.found.now c.args.count) (in_buffer own.new.found own.result) (in_buffer l.found l.next) l.k q.result c.loop-k-test.true q.ensures l.invariant (in_buffer more.new.found more.result) more.ensures

pub returns : goal.returns
returns t c =
    let r = c.children_in-run in
    let own = c.add_own-next in
    let l = c.loop-k in
    collect_ends c.args.sheet.now (map_of c.args.sheet.now) c.requires.ready_sheet.0 c.args.p c.requires.ready_sheet.3 r.result r.ensures (in_buffer c.args.found.now c.args.count) (in_buffer own.new.found own.result) (in_buffer l.found l.next) l.k c.loop-k-test.false own.ensures l.invariant
