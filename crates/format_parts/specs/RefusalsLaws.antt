-- Going through conditions one by one: what the answer of `require` at one of them says of the verdict over all of them.
use Rattle.std.specs.Prelude.{◌≡◌, Bool, true, false, ℕ, refl}
use Rattle.std.proofs.Common.{arith}
use Rattle.spec_rules.specs.SheetRefusals.{Verdict, accepted, refused, require}

-- the condition holds, so that the verdict is that of the further ones
pub passes : (test : Bool) (number : ℕ) → accepted ≡ require test number accepted → test ≡ true
passes true number e = refl
passes false number e = let z : ◌≡◌ {A = ℕ} 0 1 = cc in absurd (omega arith)

-- it does not, so that the further ones do not count
pub stops : (test : Bool) (number : ℕ) (further : Verdict) {n place : ℕ} → refused n place ≡ require test number accepted → refused n place ≡ require test number further
stops true number further e = let z : ◌≡◌ {A = ℕ} 0 1 = cc in absurd (omega arith)
stops false number further e = e

pub fails : (test : Bool) (number : ℕ) {n place : ℕ} → refused n place ≡ require test number accepted → test ≡ false
fails true number e = let z : ◌≡◌ {A = ℕ} 0 1 = cc in absurd (omega arith)
fails false number e = refl
