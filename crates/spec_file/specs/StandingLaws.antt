-- Bytes that stand at a place of a list: what is read there is read from them, and a part of them stands at its own place.
-- Rests on the laws of words and texts; the laws of records and sections are over these.
use Rattle.std.specs.Prelude.{◌≡◌, List, ◌++◌, ℕ, ◌+◌, ◌≤◌, ◌<◌, length, get_or}
use Rattle.std.proofs.Common.{sym, ap, ◌∙◌, append_assoc, arith, length-append, get_or-append-add}
use Rattle.std.proofs.Math.ListN.{get_or-append}
use Rattle.base_words.specs.Words.{word_at, text_at}
use Rattle.base_words.specs.WordsLaws.{word_at_append_left, word_at_append_right, text_at_append_left, text_at_append_right}

-- t has the bytes xs from i on
pub record Stands (t : List ℕ) (i : ℕ) (xs : List ℕ) : Type 0 where
  pub before : List ℕ
  pub after : List ℕ
  pub whole : t ≡ before ++ (xs ++ after)
  pub start : length before ≡ i

-- ---- parts
pub stands_left : {t : List ℕ} {i : ℕ} (xs ys : List ℕ) → Stands t i (xs ++ ys) → Stands t i xs
stands_left xs ys s =
    record {
      before = s.before;
      after = ys ++ s.after;
      whole = s.whole ∙ ap (λ (z : List ℕ). s.before ++ z) (append_assoc xs ys s.after);
      start = s.start;
    }

pub stands_right : {t : List ℕ} {i : ℕ} (xs ys : List ℕ) (j : ℕ) → i + length xs ≡ j → Stands t i (xs ++ ys) → Stands t j ys
stands_right xs ys j e s =
    record {
      before = s.before ++ xs;
      after = s.after;
      whole =
          s.whole
          ∙ ap (λ (z : List ℕ). s.before ++ z) (append_assoc xs ys s.after)
          ∙ sym (append_assoc s.before xs (ys ++ s.after));
      start = length-append s.before xs ∙ omega (arith, s.start);
    }

-- ---- what is read
pub stands_byte : {t : List ℕ} {i : ℕ} {xs : List ℕ} → Stands t i xs → (k : ℕ) → k < length xs → get_or t (i + k) 0 ≡ get_or xs k 0
stands_byte {t} {i} {xs} s k h =
    rw (s.whole, ← s.start) (get_or-append-add s.before (xs ++ s.after) k 0 ∙ get_or-append xs s.after 0 k h)

pub stands_word : {t : List ℕ} {i : ℕ} {xs : List ℕ} → Stands t i xs → (k : ℕ) → k + 1 < length xs → word_at t (i + k) ≡ word_at xs k
stands_word {t} {i} {xs} s k h =
    rw (s.whole, ← s.start) (word_at_append_right s.before (xs ++ s.after) k ∙ word_at_append_left xs s.after k h)

pub stands_text : {t : List ℕ} {i : ℕ} {xs : List ℕ} → Stands t i xs → (k n : ℕ) → k + n ≤ length xs → text_at t (i + k) n ≡ text_at xs k n
stands_text {t} {i} {xs} s k n h =
    rw (s.whole, ← s.start) (text_at_append_right s.before (xs ++ s.after) k n ∙ text_at_append_left xs s.after k n h)

-- ---- a field of standing bytes, at a place that is written in any way
pub byte_field : {t : List ℕ} {i : ℕ} {xs : List ℕ} → Stands t i xs → (j k v : ℕ) → j ≡ i + k → k < length xs → get_or xs k 0 ≡ v → get_or t j 0 ≡ v
byte_field s j k v e h f = rw e (stands_byte s k h ∙ f)

pub word_field : {t : List ℕ} {i : ℕ} {xs : List ℕ} → Stands t i xs → (j k v : ℕ) → j ≡ i + k → k + 1 < length xs → word_at xs k ≡ v → word_at t j ≡ v
word_field s j k v e h f = rw e (stands_word s k h ∙ f)
