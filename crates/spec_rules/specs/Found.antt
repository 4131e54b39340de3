-- The answer of a search, the lowest number or nothing: as the code gives it, and back.
use Rattle.std.specs.Prelude.{ℕ, Option, Some, None}
use Rattle.std.proofs.Math.Option.{Option as Lowest, none, some}
use Rattle.std.proofs.Math.Path.{◌≡◌, refl}

abbrev pub found : Lowest ℕ → Option ℕ
found none = None
found (some k) = Some k

abbrev pub sought : Option ℕ → Lowest ℕ
sought None = none
sought (Some k) = some k

pub sought_found : (x : Lowest ℕ) → sought (found x) ≡ x
sought_found none = refl
sought_found (some k) = refl
