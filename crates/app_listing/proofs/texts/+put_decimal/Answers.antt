use native.Mathlib.Omega.{arith}
use Rattle.app_listing.specs.WritingLaws.{writes_then, writes_as}
use Rattle.app_listing.specs.TextsLaws.{decimal_digit, decimal_digits}
use Rattle.app_listing.proofs.texts.+put_decimal.Goals as goal

pub returns-then-n-lt10 : goal.returns-then-n-lt10
returns-then-n-lt10 t c = writes_as c.put.ensures
    (decimal_digit _ _ c.if-n-lt10.true c.digit.ensures)

pub returns : goal.returns
returns t c = writes_as (writes_then c.put_decimal-end.ensures c.put-2.ensures)
    (decimal_digits _ _ c.if-n-lt10.false (omega (arith, c.ranges.n)) c.digit-2.ensures)
