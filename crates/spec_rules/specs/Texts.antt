-- 01, "Integer text is canonical decimal: `0`, or an optional `-` then a digit 1 to 9 and further digits"; texts of at most
-- 64 bytes (refusals 9 and 24).
use Rattle.std.specs.Prelude.{ℕ, Bool, true, false, List, [], ◌∷◌, eqb, leb}
use Rattle.base_words.specs.Words.{both, either, pick, same_text}
use Rattle.spec_rules.specs.Limits.{text_most}

-- digits 0 to 9 are bytes 48 to 57, `-` is 45
unfoldable pub digits : List ℕ → Bool
digits [] = true
digits (d ∷ ds) = both (both (leb 48 d) (leb d 57)) (digits ds)

unfoldable pub natural : List ℕ → Bool
unfolding digits
natural [] = false
natural (d ∷ ds) = both (both (leb 49 d) (leb d 57)) (digits ds)

unfoldable pub after_sign : List ℕ → List ℕ
after_sign [] = []
after_sign (c ∷ cs) = pick (eqb c 45) cs (c ∷ cs)

unfoldable pub canonical : List ℕ → Bool
unfolding natural after_sign same_text
canonical w = either (same_text w (48 ∷ [])) (natural (after_sign w))

-- "a text over 64 bytes": of `count` bytes
unfoldable pub short_text : ℕ → Bool
short_text count = leb count text_most
