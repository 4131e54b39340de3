-- The texts of numbers and bytes, opened as the code writes them: a decimal digit behind the others, a byte in hex before the others.
-- Rests on the rules' definitions of a listing.
use Rattle.std.specs.Prelude.{◌≡◌, List, [], ◌∷◌, ◌++◌, ℕ, suc, ◌+◌, ◌*◌, ◌/◌, ◌%◌, ◌≤◌, ◌<◌, ltb, length, get_or, drop}
use Rattle.std.proofs.Common.{sym, ap, ◌∙◌, arith, lt-ltb, le-ltb}
use Rattle.std.proofs.lemmas.List.{drop_more, drop_all}
use Rattle.base_words.specs.Words.{pick}
use Rattle.spec_rules.specs.Listing.{decimal_to, decimal, hex_digit, hex}

-- ---- decimal
-- a digit more changes nothing, at ten times the numbers for which one digit less had that
more_digits : (most bound : ℕ) → ((n : ℕ) → n < bound → decimal_to (suc most) n ≡ decimal_to most n)
    → (n : ℕ) → n < 10 * bound → decimal_to (suc (suc most)) n ≡ decimal_to (suc most) n
unfolding decimal_to
more_digits most bound f n h =
    ap (λ (l : List ℕ). pick (ltb n 10) ((48 + n) ∷ []) (l ++ (48 + n % 10) ∷ [])) (f (n / 10) (omega arith))

one_digit : (n : ℕ) → n < 10 → decimal_to 2 n ≡ decimal_to 1 n
unfolding decimal_to
one_digit n h = rw (lt-ltb n 10 h)

four_digits : (n : ℕ) → n < 10000 → decimal_to 5 n ≡ decimal_to 4 n
four_digits = more_digits 3 1000 (more_digits 2 100 (more_digits 1 10 one_digit))

pub decimal_digit : (n d : ℕ) → n < 10 → d ≡ 48 + n → d ∷ [] ≡ decimal n
unfolding decimal decimal_to
decimal_digit n d h e = rw (lt-ltb n 10 h, e)

pub decimal_digits : (n d : ℕ) → 10 ≤ n → n < 100000 → d ≡ 48 + n % 10 → decimal (n / 10) ++ d ∷ [] ≡ decimal n
unfolding decimal
decimal_digits n d low high e =
    rw e (ap (λ (l : List ℕ). l ++ (48 + n % 10) ∷ []) (four_digits (n / 10) (omega arith)) ∙ sym opened)
  where
    opened : decimal_to 5 n ≡ decimal_to 4 (n / 10) ++ (48 + n % 10) ∷ []
    opened = rw (decimal_to, le-ltb n 10 low)

-- ---- bytes of a text in hex, from one on
pub hex_byte : (b high low : ℕ) → high ≡ hex_digit (b / 16) → low ≡ hex_digit (b % 16) → high ∷ low ∷ [] ≡ hex (b ∷ [])
unfolding hex
hex_byte b high low e f = rw (e, f)

pub hex_next : (l : List ℕ) (i : ℕ) → i < length l → hex (drop i l) ≡ hex (get_or l i 0 ∷ []) ++ hex (drop (i + 1) l)
unfolding hex
hex_next l i h = ap hex (drop_more l i 0 h)

pub hex_none : (l : List ℕ) (i : ℕ) → length l ≤ i → hex (drop i l) ≡ []
unfolding hex
hex_none l i h = ap hex (drop_all i l h)
