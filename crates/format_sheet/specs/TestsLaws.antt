-- What a test in the code says of the definition that it computes: `if !f(..)` went on, or stopped.
use Rattle.std.specs.Prelude.{◌≡◌, Bool, true, false, not}
use Rattle.std.proofs.Common.{sym, ◌∙◌}
use Rattle.std.proofs.lemmas.Bool.{not-true, not-false}

pub passed : {r t : Bool} → r ≡ t → not r ≡ false → t ≡ true
passed {r} e n = sym e ∙ not-false r n

pub stopped : {r t : Bool} → r ≡ t → not r ≡ true → t ≡ false
stopped {r} e n = sym e ∙ not-true r n
