-- How stores of parts follow each other: a part behind a part, a whole by its parts in order, and the trailer by its words.
-- Rests on Tail and the laws of stores; nothing here asks for room in the buffer that is written.
use Rattle.std.specs.Prelude.{◌≡◌, refl, List, [], ◌∷◌, ◌++◌, ℕ, suc, ◌+◌, ◌-◌, ◌≤◌, ◌<◌, length, get_or, set}
use Rattle.std.proofs.Common.{sym, ap, ◌∙◌, arith, add-one, length-append, drop-cons, take}
use Rattle.base_words.specs.Words.{word_bytes, text_at}
use Rattle.base_words.specs.WordsLaws.{length_text_at, text_at_add}
use Rattle.base_words.specs.Stored.{stored}
use Rattle.base_words.specs.StoredLaws.{length_stored, stored_append, stored_nil, set_stored}
use Rattle.spec_rules.specs.Limits.{tree_trailer}
use Rattle.build_file_tail.specs.Tail.{Puts, Begun, trailer_bytes}

-- ---- parts
pub puts_nothing : (l : List ℕ) (at : ℕ) → Puts l l at at []
puts_nothing l at = record { is_stored = sym (stored_nil l at); is_end = omega arith }

module _ {before middle : List ℕ} {at seam : ℕ} {xs : List ℕ} (w : Puts before middle at seam xs) where
  pub length_put : length middle ≡ length before
  length_put = ap length w.is_stored ∙ length_stored before at xs

  pub puts_then : {after : List ℕ} {end : ℕ} {ys : List ℕ} → Puts middle after seam end ys → Puts before after at end (xs ++ ys)
  puts_then {after} {end} {ys} v = record {
    is_stored =
        v.is_stored
        ∙ ap (λ (l : List ℕ). stored l seam ys) w.is_stored
        ∙ stored_append before at seam xs ys (sym w.is_end);
    is_end = omega (arith, w.is_end, v.is_end, length-append xs ys);
  }

pub puts_as : {before after : List ℕ} {at end : ℕ} {xs ys : List ℕ} → Puts before after at end xs → xs ≡ ys → Puts before after at end ys
puts_as w e = rw (← e) w

-- ---- a loop that puts a whole part by part
pub begun : (l : List ℕ) (at : ℕ) (whole rest : List ℕ) → rest ≡ whole → Begun l l at at whole rest
begun l at whole rest e = record { as_long = refl; ends = ap (λ (xs : List ℕ). at + length xs) e; goes_on = ap (stored l at) e }

module _ {before now : List ℕ} {from at : ℕ} {whole rest : List ℕ} (b : Begun before now from at whole rest) where
  pub begun_more : {next : List ℕ} {to : ℕ} {xs : List ℕ} → Puts now next at to xs → (others : List ℕ) → rest ≡ xs ++ others
      → Begun before next from to whole others
  begun_more {next} {to} {xs} w others e = record {
    as_long = length_put w ∙ b.as_long;
    ends = omega (arith, w.is_end, b.ends, ap length e, length-append xs others);
    goes_on =
        ap (λ (l : List ℕ). stored l to others) w.is_stored
        ∙ stored_append now at to xs others (sym w.is_end)
        ∙ ap (stored now at) (sym e)
        ∙ b.goes_on;
  }

  -- the part that is next has its room inside the whole's
  pub begun_room : (xs others : List ℕ) → rest ≡ xs ++ others → at + length xs ≤ from + length whole
  begun_room xs others e = omega (arith, b.ends, ap length e, length-append xs others)

  pub begun_all : rest ≡ [] → Puts before now from at whole
  begun_all e = record {
    is_stored = sym (stored_nil now at) ∙ ap (stored now at) (sym e) ∙ b.goes_on;
    is_end = omega (arith, b.ends, ap length e);
  }

-- ---- what is left of n elements, from the i-th on
pub text_next : (l : List ℕ) (i n : ℕ) → i < length l → text_at l i (suc n) ≡ get_or l i 0 ∷ text_at l (i + 1) n
text_next l i n h = rw (drop-cons l i 0 h, add-one i)

pub rest_next : (l : List ℕ) (i k n : ℕ) → i < length l → k < n → text_at l i (n - k) ≡ get_or l i 0 ∷ text_at l (i + 1) (n - (k + 1))
rest_next l i k n h q =
    let d : n - k ≡ suc (n - (k + 1)) = omega arith in
    rw d (text_next l i (n - (k + 1)) h)

pub rest_none : (l : List ℕ) (i k n : ℕ) → n ≤ k → text_at l i (n - k) ≡ []
rest_none l i k n h = let d : n - k ≡ 0 = omega arith in rw d

-- ---- the trailer, by the stores of its words
word_put : {l after : List ℕ} (at end v : ℕ) → after ≡ stored l at (word_bytes v) → end ≡ at + 2 → Puts l after at end (word_bytes v)
word_put at end v e f = record { is_stored = e; is_end = f }

module _ (l : List ℕ) (at : ℕ) where
  pub trailer_put : {l₁ l₂ l₃ l₄ l₅ l₆ l₇ : List ℕ} (cases bindings paths steps pool : ℕ) → l₁ ≡ stored l at (word_bytes 0)
      → l₂ ≡ stored l₁ (at + 2) (word_bytes cases) → l₃ ≡ stored l₂ (at + 4) (word_bytes bindings) → l₄ ≡ stored l₃ (at + 6) (word_bytes paths)
      → l₅ ≡ stored l₄ (at + 8) (word_bytes steps) → l₆ ≡ stored l₅ (at + 10) (word_bytes pool) → l₇ ≡ stored l₆ (at + 12) (word_bytes (at + tree_trailer))
      → l₇ ≡ stored l at (trailer_bytes cases bindings paths steps pool at)
  unfolding trailer_bytes
  trailer_put cases bindings paths steps pool a b c d e f g =
      (puts_then (word_put at (at + 2) 0 a refl)
      (puts_then (word_put (at + 2) (at + 4) cases b (omega arith))
      (puts_then (word_put (at + 4) (at + 6) bindings c (omega arith))
      (puts_then (word_put (at + 6) (at + 8) paths d (omega arith))
      (puts_then (word_put (at + 8) (at + 10) steps e (omega arith))
      (puts_then (word_put (at + 10) (at + 12) pool f (omega arith)) (word_put (at + 12) (at + 14) (at + tree_trailer) g (omega arith)))))))
      ).is_stored

-- ---- a text of s copied byte by byte: i bytes of it are there
module _ (s l : List ℕ) (at from : ℕ) where
  one_more : (i : ℕ) → from + i < length s → text_at s from (i + 1) ≡ text_at s from i ++ get_or s (from + i) 0 ∷ []
  one_more i here = text_at_add s from i 1 ∙ ap (λ (xs : List ℕ). text_at s from i ++ take 1 xs) (drop-cons s (from + i) 0 here)

  pub copied_next : (now : List ℕ) (i : ℕ) → from + i < length s → now ≡ stored l at (text_at s from i)
      → set now (at + i) (get_or s (from + i) 0) ≡ stored l at (text_at s from (i + 1))
  copied_next now i here e =
      let x = get_or s (from + i) 0 in
      set_stored now (at + i) x
      ∙ ap (λ (w : List ℕ). stored w (at + i) (x ∷ [])) e
      ∙ stored_append l at (at + i) (text_at s from i) (x ∷ []) (omega (arith, length_text_at s from i (omega arith)))
      ∙ ap (stored l at) (sym (one_more i here))

  pub copied : (now : List ℕ) (i size : ℕ) → from + size ≤ length s → i ≡ size → now ≡ stored l at (text_at s from i) → Puts l now at (at + size) (text_at s from size)
  copied now i size here e is = record {
    is_stored = is ∙ ap (λ (k : ℕ). stored l at (text_at s from k)) e;
    is_end = omega (arith, length_text_at s from size here);
  }
