-- The laws of words, of texts and of the tests: what a caller cites in the place of their definitions.
-- Rests on Words, the library's laws of lists, and arithmetic.
use Rattle.std.specs.Prelude.{◌≡◌, refl, ◌⊎◌, Bool, true, false, List, [], ◌∷◌, ◌++◌, ℕ, zero, suc, ◌+◌, ◌-◌, ◌<◌, ◌≤◌, eqb, length, get_or, drop}
use Rattle.std.proofs.Common.{sym, ap, ◌∙◌, inl, inr, true≢false, arith, eqb-true, eq-eqb, length-take, length-drop, ext_get_or, get_or-take, get_or-drop, get_or-append-add, drop-drop, take-add, Fits}
use Rattle.std.proofs.Math.Nat.{sub-zero, suc-sub-suc, zero-sub}
use Rattle.std.specs.Int.Bits.{bit_or, or_add_and}
use Rattle.std.proofs.lemmas.Nat.{and_le_l, and_le_r}
use Rattle.std.proofs.Math.ListN.{get_or-append}
use Rattle.std.proofs.lemmas.List.{take-append-le, drop-append-le}
use Rattle.std.proofs.Math.Seq.{drop-append-add, take-length}
use Rattle.std.specs.Int.{w8}
use Rattle.base_words.specs.Words.{word_at, Bytes, both, either, pick, text_at, same_text, zeros}

-- ---- tests

pub both_true : (a b : Bool) → both a b ≡ true → (a ≡ true) × (b ≡ true)
both_true true b h = (refl, h)
both_true false b h = (h, cc)

pub both_make : (a b : Bool) → a ≡ true → b ≡ true → both a b ≡ true
both_make a b f g = rw (f, g)

pub both_false : (a b : Bool) → both a b ≡ false → (a ≡ false) ⊎ (b ≡ false)
both_false true b h = inr h
both_false false b h = inl refl

pub both_first_false : (a b : Bool) → a ≡ false → both a b ≡ false
both_first_false a b f = rw f

pub both_second_false : (a b : Bool) → b ≡ false → both a b ≡ false
both_second_false true b f = f
both_second_false false b f = refl

pub both_assoc : (a b c : Bool) → both (both a b) c ≡ both a (both b c)
both_assoc true b c = refl
both_assoc false b c = refl

pub either_true : (a b : Bool) → either a b ≡ true → (a ≡ true) ⊎ (b ≡ true)
either_true true b h = inl refl
either_true false b h = inr h

pub either_first_true : (a b : Bool) → a ≡ true → either a b ≡ true
either_first_true a b f = rw f

pub either_second_true : (a b : Bool) → b ≡ true → either a b ≡ true
either_second_true true b f = refl
either_second_true false b f = f

pub either_false : (a b : Bool) → either a b ≡ false → (a ≡ false) × (b ≡ false)
either_false true b h = (h, cc)
either_false false b h = (refl, h)

pub either_make_false : (a b : Bool) → a ≡ false → b ≡ false → either a b ≡ false
either_make_false a b f g = rw (f, g)

module _ {ℓ} {A : Type ℓ} where
  pub pick_true : (test : Bool) (x y : A) → test ≡ true → pick test x y ≡ x
  pick_true test x y e = rw e

  pub pick_false : (test : Bool) (x y : A) → test ≡ false → pick test x y ≡ y
  pick_false test x y e = rw e

-- ---- words

-- a slice's bytes are known to fit eight bits wherever the slice is at hand
pub bytes_of_fits : (l : List ℕ) → ((i : ℕ) → Fits w8 (get_or l i 0)) → Bytes l
bytes_of_fits l f = record { byte = λ i. omega (arith, f i) }

-- a word of bytes is one of the 65536 that two bytes hold
pub word_at_small : {l : List ℕ} → Bytes l → (i : ℕ) → word_at l i < 65536
unfolding word_at
word_at_small bytes i = omega (arith, bytes.byte i, bytes.byte (i + 1))

pub word_at_append_left : (a b : List ℕ) (i : ℕ) → i + 1 < length a → word_at (a ++ b) i ≡ word_at a i
unfolding word_at
word_at_append_left a b i h = rw (get_or-append a b 0 i (omega arith), get_or-append a b 0 (i + 1) h)

pub word_at_append_right : (a b : List ℕ) (i : ℕ) → word_at (a ++ b) (length a + i) ≡ word_at b i
unfolding word_at
word_at_append_right a b i =
    let e : length a + i + 1 ≡ length a + (i + 1) = omega arith in
    rw (e, get_or-append-add a b i 0, get_or-append-add a b (i + 1) 0)

-- ---- texts

pub length_text_at : (s : List ℕ) (i n : ℕ) → i + n ≤ length s → length (text_at s i n) ≡ n
length_text_at s i n h = simp (length-take, length-drop) (omega arith)

pub get_or_text_at : (s : List ℕ) (i n k d : ℕ) → k < n → get_or (text_at s i n) k d ≡ get_or s (i + k) d
get_or_text_at s i n k d h = rw (get_or-take n (drop i s) k d h, get_or-drop i s k d)

-- texts that are as long as each other and agree at each byte
text_at_agree : (s t : List ℕ) (i j n : ℕ) → length (text_at s i n) ≡ length (text_at t j n)
    → ((k : ℕ) → k < n → get_or s (i + k) 0 ≡ get_or t (j + k) 0) → text_at s i n ≡ text_at t j n
text_at_agree s t i j n e h = ext_get_or 0 (text_at s i n) (text_at t j n) e each
  where
    each : (k : ℕ) → k < length (text_at s i n) → get_or (text_at s i n) k 0 ≡ get_or (text_at t j n) k 0
    each k l =
        let q : k < n = omega (arith, simp (length-take, length-drop) at l) in
        get_or_text_at s i n k 0 q ∙ h k q ∙ sym (get_or_text_at t j n k 0 q)

-- texts inside their lists that agree at each byte
pub texts_agree : (s t : List ℕ) (i j n : ℕ) → i + n ≤ length s → j + n ≤ length t
    → ((k : ℕ) → k < n → get_or s (i + k) 0 ≡ get_or t (j + k) 0) → text_at s i n ≡ text_at t j n
texts_agree s t i j n a b h = text_at_agree s t i j n (length_text_at s i n a ∙ sym (length_text_at t j n b)) h

-- the text at one place of two lists as long as each other, wherever it ends
pub texts_agree_at : (s t : List ℕ) (i n : ℕ) → length s ≡ length t
    → ((k : ℕ) → k < n → get_or s (i + k) 0 ≡ get_or t (i + k) 0) → text_at s i n ≡ text_at t i n
texts_agree_at s t i n e h = text_at_agree s t i i n (simp (length-take, length-drop, e)) h

-- texts that differ at a byte
pub texts_differ : (s t : List ℕ) (i j n k : ℕ) → k < n → (get_or s (i + k) 0 ≡ get_or t (j + k) 0 → ⊥)
    → text_at s i n ≡ text_at t j n → ⊥
texts_differ s t i j n k l h e = h (sym (get_or_text_at s i n k 0 l) ∙ ap (λ (x : List ℕ). get_or x k 0) e ∙ get_or_text_at t j n k 0 l)

pub text_at_whole : (s : List ℕ) → text_at s 0 (length s) ≡ s
text_at_whole s = take-length s

-- a text is a first part of it and what comes after
pub text_at_add : (s : List ℕ) (i m n : ℕ) → text_at s i (m + n) ≡ text_at s i m ++ text_at s (i + m) n
text_at_add s i m n = rw (take-add m n (drop i s), drop-drop m i s)

pub text_at_append_left : (a b : List ℕ) (i n : ℕ) → i + n ≤ length a → text_at (a ++ b) i n ≡ text_at a i n
text_at_append_left a b i n h =
    rw (drop-append-le i a b (omega arith), take-append-le n (drop i a) b (simp length-drop (omega arith)))

pub text_at_append_right : (a b : List ℕ) (i n : ℕ) → text_at (a ++ b) (length a + i) n ≡ text_at b i n
text_at_append_right a b i n = rw (drop-append-add a b i)

pub same_text_refl : (a : List ℕ) → same_text a a ≡ true
unfolding same_text
same_text_refl [] = refl
same_text_refl (a ∷ xs) = rw (eq-eqb a a refl, same_text_refl xs)

pub same_text_sound : (a b : List ℕ) → same_text a b ≡ true → a ≡ b
unfolding same_text
same_text_sound [] [] h = refl
same_text_sound [] (b ∷ ys) h = cc
same_text_sound (a ∷ xs) [] h = cc
same_text_sound (a ∷ xs) (b ∷ ys) h =
    let p = both_true (eqb a b) (same_text xs ys) h in
    let e : a ≡ b = eqb-true a b p.0 in
    let f : xs ≡ ys = same_text_sound xs ys p.1 in
    cc

pub same_text_make : (a b : List ℕ) → a ≡ b → same_text a b ≡ true
same_text_make a b e = rw e (same_text_refl b)

pub not_same_text : (a b : List ℕ) → (a ≡ b → ⊥) → same_text a b ≡ false
not_same_text a b h = go (same_text a b) refl
  where
    go : (test : Bool) → same_text a b ≡ test → same_text a b ≡ false
    go true e = absurd (h (same_text_sound a b e))
    go false e = e

pub same_text_false : (a b : List ℕ) → same_text a b ≡ false → a ≡ b → ⊥
same_text_false a b h e = true≢false (sym (same_text_make a b e) ∙ h)

pub same_text_sym : (a b : List ℕ) → same_text a b ≡ same_text b a
same_text_sym a b = go (same_text a b) refl
  where
    go : (test : Bool) → same_text a b ≡ test → same_text a b ≡ same_text b a
    go true e = e ∙ sym (same_text_make b a (sym (same_text_sound a b e)))
    go false e = e ∙ sym (not_same_text b a (λ q. same_text_false a b e (sym q)))

-- ---- zeros

pub drop_zeros : (m n : ℕ) → drop m (zeros n) ≡ zeros (n - m)
drop_zeros zero n = rw sub-zero
drop_zeros (suc m) zero = rw zero-sub
drop_zeros (suc m) (suc n) = rw suc-sub-suc (drop_zeros m n)

-- ---- bits

-- two numbers without a bit between them are 0
pub or_none : (a b : ℕ) → bit_or a b ≡ 0 → (a ≡ 0) × (b ≡ 0)
or_none a b e =
    (omega (arith, or_add_and a b, and_le_r a b), omega (arith, or_add_and a b, and_le_l a b))
