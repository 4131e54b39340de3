-- `dewmycel::face::dewmycel_text` meets its contract: each way out is packed, and a word holds where a text stands.
use Rattle.std.proofs.Common.{sym, arith}
use Rattle.spec_rules.specs.Calls.{Span}
use Rattle.dewmycel.specs.AnswersLaws.{text_within, text_packed, no_text_packed}
use Rattle.dewmycel.proofs.face.dewmycel_text.Goals as goal

pub overflow_cast-part : goal.overflow_cast-part
overflow_cast-part c =
    let x : Span = record { start = c.in-Ok.part.start; count = c.in-Ok.part.count } in
    omega (arith, text_within c.args.panel.now c.args.record c.args.dropped x (sym c.in-Ok.ensures))

pub overflow_cast-part-in-Ok : goal.overflow_cast-part-in-Ok
overflow_cast-part-in-Ok c =
    let x : Span = record { start = c.in-Ok.part.start; count = c.in-Ok.part.count } in
    omega (arith, text_within c.args.panel.now c.args.record c.args.dropped x (sym c.in-Ok.ensures))

pub returns-in-Ok : goal.returns-in-Ok
returns-in-Ok c = text_packed (record { start = c.in-Ok.part.start; count = c.in-Ok.part.count }) c.pack.result c.in-Ok.ensures c.pack.ensures

pub returns-in-Err : goal.returns-in-Err
returns-in-Err c = no_text_packed c.in-Err.refusal c.pack_refusal.result c.in-Err.ensures c.pack_refusal.ensures
