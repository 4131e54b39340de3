-- `format_parts::texts::digits` meets its contract: what `all` answers over the bytes.
use Rattle.std.proofs.Common.{rules}
use Rattle.std.specs.Char.{IsAsciiDigit, IsNotAsciiDigit}
use Rattle.std.proofs.lemmas.Iterator.{YieldsList-from_slice, cases_from_all}
use Rattle.format_parts.specs.TextsLaws.{digits_is}
use Rattle.format_parts.proofs.texts.digits.Goals as goal

pub returns : goal.returns
returns c =
    digits_is _ _
    (cases_from_all _ _ _ IsAsciiDigit IsNotAsciiDigit c.all.ensures.ran (YieldsList-from_slice c.args.text.now cc) (λ x q k. search rules) (λ x q k. search rules))
