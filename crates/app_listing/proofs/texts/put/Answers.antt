use Rattle.app_listing.specs.WritingLaws.{writes_byte, writes_no_byte}
use native.Mathlib.Omega.{arith}
use Rattle.app_listing.proofs.texts.put.Goals as goal

pub returns-then-at-out : goal.returns-then-at-out
returns-then-at-out c = writes_byte _ _ _ c.if-at-out.true

pub returns : goal.returns
returns c = writes_no_byte _ _ _ _ c.if-at-out.false (omega arith)
