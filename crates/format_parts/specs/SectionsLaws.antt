-- "first 0 at count 0", by the test for an empty run.
use Rattle.std.specs.Prelude.{◌≡◌, refl, ℕ, zero, suc}
use Rattle.spec_rules.specs.TreeFile.{first_of}

pub first_none : (count first : ℕ) → count ≡ 0 → 0 ≡ first_of count first
unfolding first_of
first_none count first e = rw e

pub first_some : (count first : ℕ) → (count ≡ 0 → ⊥) → first ≡ first_of count first
unfolding first_of
first_some zero first h = absurd (h refl)
first_some (suc count) first h = refl

pub ruleset first_laws = (first_none, first_some)
