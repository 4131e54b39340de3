use Rattle.spec_rules.specs.Listing.{hex_digit}
use borrow.Author.Tests.{lt-ltb, le-ltb}
use Rattle.app_listing.proofs.texts.hex_digit.Goals as goal

pub returns-then-n-lt10 : goal.returns-then-n-lt10
unfolding hex_digit
returns-then-n-lt10 c = rw (lt-ltb _ _ c.if-n-lt10.true)

pub returns : goal.returns
unfolding hex_digit
returns c = rw (le-ltb _ _ c.if-n-lt10.false)
