use Rattle.app_listing.specs.WritingLaws.{writes_then, writes_as}
use Rattle.app_listing.specs.Records.{text_test}
use mathlib.Core.Path.{ap, sym}
use mathlib.Core.Bool.{Bool}
use Rattle.app_listing.proofs.parts.put_text_test.Goals as goal

pub returns-then-integer : goal.returns-then-integer
returns-then-integer c = writes_as (writes_then c.put_text-open.ensures (writes_then c.put_text-end.ensures c.put.ensures))
    (ap (λ (b : Bool). text_test b c.args.text.now) (sym c.if-integer.true))

pub returns : goal.returns
returns c = writes_as (writes_then c.put_text-open-2.ensures (writes_then c.put_hex-end.ensures c.put-2.ensures))
    (ap (λ (b : Bool). text_test b c.args.text.now) (sym c.if-integer.false))
