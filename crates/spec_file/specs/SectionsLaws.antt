-- A file of sections: how long it is, that its trailer says where each section starts, and that the section stands there. By
-- induction over the list of sections, whatever they hold; who has a file of six or of seven takes a section by its number.
use Rattle.std.specs.Prelude.{◌≡◌, List, [], ◌∷◌, ◌++◌, ℕ, zero, suc, ◌+◌, ◌-◌, ◌*◌, ◌<◌}
use Rattle.std.proofs.Math.Path.{refl, sym, ap}
use Rattle.std.proofs.Common.{◌∙◌, arith}
use Rattle.std.proofs.Math.ListN.{length, get_or, length-append, get_or-append}
use Rattle.std.proofs.Math.Seq.{get_or-append-add}
use Rattle.base_words.specs.Words.{word_at, word_bytes}
use Rattle.base_words.specs.WordsLaws.{word_at_append_right}
use Rattle.spec_rules.specs.Limits.{word_size}
use Rattle.spec_rules.specs.Sections.{back_to_back, starts_from, words_of, trailer_of, file_with}
use Rattle.spec_file.specs.StandingLaws.{Stands, stands_left, stands_right}

-- where section k starts
abbrev pub start_of : List (List ℕ) → ℕ → ℕ
start_of xs k = get_or (starts_from 0 xs) k 0

-- how long the trailer is
abbrev pub trailer_size : List ℕ → List (List ℕ) → ℕ
trailer_size more xs = word_size * (length xs + length more + 1)

-- what holds of a file t with these sections and `more` in its trailer
pub record Sectioned (t more : List ℕ) (xs : List (List ℕ)) : Type 0 where
  pub length_is : length t ≡ length (back_to_back xs) + trailer_size more xs
  pub length_told : word_at t (length t - word_size) ≡ length t
  pub start_told : (k : ℕ) → k < length xs → word_at t (length t - trailer_size more xs + word_size * k) ≡ start_of xs k
  pub stands : (k : ℕ) → k < length xs → Stands t (start_of xs k) (get_or xs k [])

-- ---- words
length_words : (vs : List ℕ) → length (words_of vs) ≡ word_size * length vs
length_words [] = refl
length_words (v ∷ vs) = omega (arith, length_words vs)

word_of : (vs : List ℕ) (k : ℕ) → k < length vs → word_at (words_of vs) (word_size * k) ≡ get_or vs k 0
unfolding word_at
word_of [] k l = absurd (omega arith)
word_of (v ∷ vs) zero l = omega arith
word_of (v ∷ vs) (suc k) l =
    let e : word_size * suc k ≡ length (word_bytes v) + word_size * k = omega arith in
    ap (word_at (words_of (v ∷ vs))) e ∙ word_at_append_right (word_bytes v) (words_of vs) (word_size * k) ∙ word_of vs k (omega arith)

-- ---- sections
length_starts : (xs : List (List ℕ)) (at : ℕ) → length (starts_from at xs) ≡ length xs
unfolding starts_from
length_starts [] at = refl
length_starts (x ∷ xs) at = ap suc (length_starts xs (at + length x))

section_stands : {t : List ℕ} (xs : List (List ℕ)) (at k : ℕ) → k < length xs → Stands t at (back_to_back xs) → Stands t (get_or (starts_from at xs) k 0) (get_or xs k [])
unfolding back_to_back starts_from
section_stands [] at k l s = absurd (omega arith)
section_stands (x ∷ xs) at zero l s = stands_left x (back_to_back xs) s
section_stands (x ∷ xs) at (suc k) l s = section_stands xs (at + length x) k (omega arith) (stands_right x (back_to_back xs) (at + length x) refl s)

-- ---- the file
module _ (more : List ℕ) (xs : List (List ℕ)) where
  abbrev long : ℕ
  long = length (back_to_back xs) + trailer_size more xs

  length_trailer : length (trailer_of more xs) ≡ length xs + length more + 1
  unfolding trailer_of
  length_trailer =
      omega (arith, length-append (starts_from 0 xs) (more ++ long ∷ []), length-append more (long ∷ []), length_starts xs 0)

  -- its numbers: a start, and the last
  start_in : (k : ℕ) → k < length xs → get_or (trailer_of more xs) k 0 ≡ start_of xs k
  unfolding trailer_of
  start_in k l = get_or-append (starts_from 0 xs) (more ++ long ∷ []) 0 k (omega (arith, length_starts xs 0))

  last_in : get_or (trailer_of more xs) (length xs + length more) 0 ≡ long
  unfolding trailer_of
  last_in =
      let e : length xs + length more ≡ length (starts_from 0 xs) + (length more + 0) = omega (arith, length_starts xs 0) in
      ap (λ (i : ℕ). get_or (starts_from 0 xs ++ (more ++ long ∷ [])) i 0) e
      ∙ get_or-append-add (starts_from 0 xs) (more ++ long ∷ []) (length more + 0) 0
      ∙ get_or-append-add more (long ∷ []) 0 0

  length_file : length (file_with more xs) ≡ long
  unfolding file_with
  length_file =
      omega (arith, length-append (back_to_back xs) (words_of (trailer_of more xs)), length_words (trailer_of more xs), length_trailer)

  -- word k of the trailer, at any place that is written so
  told : (k at : ℕ) → k < length xs + length more + 1 → at ≡ length (back_to_back xs) + word_size * k → word_at (file_with more xs) at ≡ get_or (trailer_of more xs) k 0
  unfolding file_with
  told k at l e =
      rw e (word_at_append_right (back_to_back xs) (words_of (trailer_of more xs)) (word_size * k) ∙ word_of (trailer_of more xs) k (omega (arith, length_trailer)))

  pub file_sections : Sectioned (file_with more xs) more xs
  unfolding file_with
  file_sections = record {
    length_is = length_file;
    length_told = told (length xs + length more) _ (omega arith) (omega (arith, length_file)) ∙ last_in ∙ sym length_file;
    start_told = λ k l. told k _ (omega arith) (omega (arith, length_file)) ∙ start_in k l;
    stands = λ k l. section_stands xs 0 k l (record { before = []; after = words_of (trailer_of more xs); whole = refl; start = refl });
  }
