-- All bits of the bytes together are none where each byte is 0, and only there.
use Rattle.std.proofs.Common.{◌≡◌, List, ℕ, zero, suc, [], ◌∷◌, length, ◌∙◌}
use Rattle.std.proofs.Math.Path.{refl, ap, ap₂}
use Rattle.std.specs.List.{fold}
use Rattle.std.specs.Int.Bits.{bit_or}
use Rattle.base_words.specs.Words.{zeros}
use Rattle.base_words.specs.WordsLaws.{or_none}

none_so_far : (a : ℕ) (xs : List ℕ) → fold bit_or a xs ≡ 0 → (a ≡ 0) × (xs ≡ zeros (length xs))
none_so_far a [] e = (e, refl)
none_so_far a (x ∷ xs) e =
    let (here, rest) = none_so_far (bit_or a x) xs e in
    let (before, this) = or_none a x here in
    (before, ap₂ (λ y ys. y ∷ ys) this rest)

pub zeros_if_none : (xs : List ℕ) → fold bit_or 0 xs ≡ 0 → xs ≡ zeros (length xs)
zeros_if_none xs e = (none_so_far 0 xs e).1

no_bits : (n : ℕ) → fold bit_or 0 (zeros n) ≡ 0
no_bits zero = refl
no_bits (suc n) = no_bits n

pub none_if_zeros : (xs : List ℕ) → xs ≡ zeros (length xs) → fold bit_or 0 xs ≡ 0
none_if_zeros xs e = ap (fold bit_or 0) e ∙ no_bits (length xs)
