-- The library's comparison of two slices of bytes is that of the definitions.
use Rattle.std.proofs.Common.{◌≡◌, List, ℕ, Bool, true, false, [], ◌∷◌, ◌&&◌}
use Rattle.std.proofs.Math.Path.{refl}
use lib.Pointwise.{pointwise}
use lib.Dec.{eqb}
use Rattle.base_words.specs.Words.{both, same_text}

and_both : (a b : Bool) → (a && b) ≡ both a b
and_both true b = refl
and_both false b = refl

pub pointwise_same : (xs ys : List ℕ) → pointwise eqb xs ys ≡ same_text xs ys
unfolding same_text
pointwise_same [] [] = refl
pointwise_same [] (b ∷ ys) = refl
pointwise_same (a ∷ xs) [] = refl
pointwise_same (a ∷ xs) (b ∷ ys) = rw (pointwise_same xs ys, and_both (eqb a b) (same_text xs ys))
