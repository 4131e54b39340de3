-- Texts as the code reads them: digits one by one, a natural number by its first byte, canonical decimal by its sign.
use Rattle.std.specs.Prelude.{◌≡◌, refl, Bool, true, false, ◌&&◌, List, [], ◌∷◌, ℕ, zero, suc, ◌+◌, ◌-◌, ◌≤◌, ◌<◌, leb, eqb, length, get_or, take, drop, Option, Some, None}
use Rattle.std.proofs.Common.{Bor, sym, ap, ◌∙◌, arith, take_all, add-one, drop-cons, le-leb, ⊎_elim}
use Rattle.std.proofs.lemmas.Bool.{lt-leb}
use Rattle.std.specs.Bool.{MatchBool}
use Rattle.std.specs.Option.{MatchOption, unwrap_or}
use Rattle.std.specs.List.{AllWithin, HoldsAt}
use Rattle.std.specs.Char.{IsAsciiDigit, IsNotAsciiDigit}
use lib.Pointwise.{pointwise}
use Rattle.base_words.specs.Words.{both, text_at, same_text}
use Rattle.base_words.specs.WordsLaws.{both_second_false}
use Rattle.spec_rules.specs.Texts.{digits, natural, after_sign, canonical}

-- a text of some bytes is its first byte and the rest
pub text_cons : (s : List ℕ) (i n : ℕ) → i < length s → (n ≡ 0 → ⊥) → text_at s i n ≡ get_or s i 0 ∷ text_at s (i + 1) (n - 1)
text_cons s i n h some =
    let e : n ≡ suc (n - 1) = omega arith in
    ap (λ (k : ℕ). take k (drop i s)) e ∙ rw (drop-cons s i 0 h, add-one i)

-- ---- digits
all_digits : (w : List ℕ) → ((k : ℕ) → k < length w → IsAsciiDigit (get_or w k 0)) → true ≡ digits w
unfolding digits
all_digits [] h = refl
all_digits (d ∷ ds) h =
    let here = h 0 (omega arith) in
    rw (le-leb 48 d here.0, le-leb d 57 here.1) (all_digits ds (λ k low. h (suc k) (omega arith)))

other_byte : (w : List ℕ) (k : ℕ) → k < length w → IsNotAsciiDigit (get_or w k 0) → false ≡ digits w
unfolding digits
other_byte [] k low h = absurd (omega arith)
other_byte (d ∷ ds) zero low h =
    ⊎_elim (λ less. rw (lt-leb 48 d less)) (λ more. rw (le-leb 48 d (omega arith), lt-leb d 57 more)) h
other_byte (d ∷ ds) (suc k) low h = sym (both_second_false (both (leb 48 d) (leb d 57)) (digits ds) (sym (other_byte ds k (omega arith) h)))

-- what `all` answers over the bytes
pub digits_is : (r : Bool) (w : List ℕ) → MatchBool r (AllWithin IsAsciiDigit w 0 (length w)) ((k : ℕ) × (k < length w) × HoldsAt IsNotAsciiDigit w k) → r ≡ digits w
digits_is true w h = all_digits w (λ k low. h k 0 (omega arith) low)
digits_is false w (k, low, h) = other_byte w k low (h 0)

-- ---- a natural number
pub natural_none : (w : List ℕ) → length w < 1 → false ≡ natural w
unfolding natural
natural_none [] h = refl
natural_none (d ∷ ds) h = absurd (omega arith)

pub natural_low : (w : List ℕ) → 1 ≤ length w → get_or w 0 0 < 49 → false ≡ natural w
unfolding natural
natural_low [] h l = refl
natural_low (d ∷ ds) h l = rw (lt-leb 49 d l)

pub natural_high : (w : List ℕ) → 1 ≤ length w → 58 ≤ get_or w 0 0 → false ≡ natural w
unfolding natural
natural_high [] h l = refl
natural_high (d ∷ ds) h l = rw (le-leb 49 d (omega arith), lt-leb d 57 (omega arith))

pub natural_rest : (w : List ℕ) {r : Bool} → 1 ≤ length w → 49 ≤ get_or w 0 0 → get_or w 0 0 < 58 → r ≡ digits (take (length w - 1) (drop 1 w)) → r ≡ natural w
unfolding natural
natural_rest [] h low high e = absurd (omega arith)
natural_rest (d ∷ ds) h low high e =
    let whole : take (length (d ∷ ds) - 1) ds ≡ ds = take_all _ ds (omega arith) in
    rw (le-leb 49 d low, le-leb d 57 (omega arith)) (e ∙ ap digits whole)

-- each way out of a function that tells by the first byte
pub ruleset natural_laws = (natural_none, natural_low, natural_high, natural_rest)

-- ---- canonical decimal
both_and : (a b : Bool) → (a && b) ≡ both a b
both_and true b = refl
both_and false b = refl

and_true : (a : Bool) → (a && true) ≡ a
and_true true = refl
and_true false = refl

-- `==` of slices
same_is : (a b : List ℕ) → pointwise eqb a b ≡ same_text a b
unfolding same_text
same_is [] [] = refl
same_is [] (b ∷ ys) = refl
same_is (a ∷ xs) [] = refl
same_is (a ∷ xs) (b ∷ ys) = rw (both_and (eqb a b) (pointwise eqb xs ys), same_is xs ys)

-- the text without its `-`, or the whole
after_prefix : (w : List ℕ) (whole : Bor (List ℕ)) (rest : Option (Bor (List ℕ))) → whole.now ≡ w
    → MatchOption rest (pointwise eqb (take 1 w) (45 ∷ []) ≡ false) (λ x. (pointwise eqb (take 1 w) (45 ∷ []) ≡ true) × (x.now ≡ drop 1 w) × (length x.now + 1 ≡ length w))
    → (unwrap_or rest whole).now ≡ after_sign w
unfolding after_sign
after_prefix [] whole None is h = is
after_prefix [] whole (Some x) is h = cc
after_prefix (d ∷ ds) whole None is h = rw (sym (and_true (eqb d 45)) ∙ h) is
after_prefix (d ∷ ds) whole (Some x) is h = rw (sym (and_true (eqb d 45)) ∙ h.0) h.1

pub canonical_zero : (w : List ℕ) → true ≡ pointwise eqb w (48 ∷ []) → true ≡ canonical w
unfolding canonical
canonical_zero w e = let h : same_text w (48 ∷ []) ≡ true = sym (e ∙ same_is w (48 ∷ [])) in rw h

pub canonical_else : (w : List ℕ) (whole : Bor (List ℕ)) (rest : Option (Bor (List ℕ))) {r : Bool} → false ≡ pointwise eqb w (48 ∷ []) → whole.now ≡ w
    → MatchOption rest (pointwise eqb (take 1 w) (45 ∷ []) ≡ false) (λ x. (pointwise eqb (take 1 w) (45 ∷ []) ≡ true) × (x.now ≡ drop 1 w) × (length x.now + 1 ≡ length w))
    → r ≡ natural (unwrap_or rest whole).now → r ≡ canonical w
unfolding canonical
canonical_else w whole rest e is h n =
    let other : same_text w (48 ∷ []) ≡ false = sym (e ∙ same_is w (48 ∷ [])) in
    rw (other, ← after_prefix w whole rest is h) n
