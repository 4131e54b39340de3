use borrow.Author.Rules.{rules}
use native.Mathlib.Omega.{arith}
use Rattle.format_sheet.specs.FittingLaws.{settled_is, inside_there, inside_is, each_room, each_is, room_few, all_none, all_stop, all_go_on}
use mathlib.Core.Bool.{not}
use mathlib.Core.Path.{ap}
use Rattle.format_sheet.proofs.fitting.+fits_fits_all.Goals as goal

pub fits-fits-requires : goal.fits-fits-requires
fits-fits-requires t c =
    let w = inside_there c.args.sheet.now c.args.map c.requires.0 c.args.p c.args.t c.requires.1 c.requires.2 c.asks-left.result c.asks-left.ensures {q = c.in-Inside.q} (search rules) in
    (omega (arith, c.decreases, w, c.requires.0.is_counted.patterns_most_holds), (c.requires.0, w.1, c.requires.2))

pub fits-fits_all-requires : goal.fits-fits_all-requires
fits-fits_all-requires t c =
    let r = each_room c.args.sheet.now c.args.map c.requires.0 c.args.p c.args.t c.requires.1 c.requires.2 c.asks-left.result c.asks-left.ensures {j = c.in-Each.first} {n = c.in-Each.count} {e = c.in-Each.entry} {step = c.in-Each.step} (search rules) in
    let few = room_few c.args.sheet.now c.args.map c.requires.0 c.args.p c.in-Each.first c.in-Each.count c.in-Each.entry c.in-Each.step r in
    (omega (arith, c.decreases, few, c.requires.1, c.requires.0.is_counted.patterns_most_holds), (c.requires.0, r))

pub fits-returns-in-Settled : goal.fits-returns-in-Settled
fits-returns-in-Settled t c = settled_is c.args.sheet.now c.args.map c.requires.0 c.args.p c.args.t c.requires.1 c.requires.2 c.asks-left.result c.asks-left.ensures (search rules)

pub fits-returns-in-Inside : goal.fits-returns-in-Inside
fits-returns-in-Inside t c = inside_is c.args.sheet.now c.args.map c.requires.0 c.args.p c.args.t c.requires.1 c.requires.2 c.asks-left.result c.asks-left.ensures {q = c.in-Inside.q} (search rules) c.fits.ensures

pub fits-returns-in-Each : goal.fits-returns-in-Each
fits-returns-in-Each t c = each_is c.args.sheet.now c.args.map c.requires.0 c.args.p c.args.t c.requires.1 c.requires.2 c.asks-left.result c.asks-left.ensures {j = c.in-Each.first} {n = c.in-Each.count} {e = c.in-Each.entry} {step = c.in-Each.step} (search rules) c.fits_all.ensures

pub fits_all-returns-then-n-eq0 : goal.fits_all-returns-then-n-eq0
fits_all-returns-then-n-eq0 t c = all_none c.args.sheet.now c.args.j c.args.n c.args.e c.args.step c.if-n-eq0.true

pub fits_all-returns-then-not-fits : goal.fits_all-returns-then-not-fits
fits_all-returns-then-not-fits t c = all_stop c.args.sheet.now c.args.j c.args.n c.args.e c.args.step c.if-n-eq0.false c.child_at.result c.entry_at.result c.child_at.ensures c.entry_at.ensures c.fits.ensures (ap not c.if-not-fits.true)

pub fits_all-returns : goal.fits_all-returns
fits_all-returns t c = all_go_on c.args.sheet.now c.args.j c.args.n c.args.e c.args.step c.if-n-eq0.false c.child_at.result c.entry_at.result c.child_at.ensures c.entry_at.ensures c.fits.ensures (ap not c.if-not-fits.false) c.fits_all.ensures
