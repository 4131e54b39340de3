-- Laws of stores without room, as the code makes them: of a text as many bytes as there is room for, and words one behind the other.
-- Rests on the laws of stores.
use Rattle.std.specs.Prelude.{◌≡◌, refl, Bool, true, false, List, [], ◌∷◌, ◌++◌, ℕ, zero, suc, ◌+◌, ◌-◌, ◌/◌, ◌%◌, ◌≤◌, min, leb, length, take, drop, set}
use Rattle.std.proofs.Common.{sym, ap, ◌∙◌, arith, leb-true, leb-false, length-set, take-append-drop}
use Rattle.std.proofs.lemmas.List.{length-take-le, take_all, drop_all}
use Rattle.std.proofs.lemmas.Slice.{put_mid-paste}
use Rattle.std.proofs.Math.Seq.{set_out}
use borrow.Rule.Slice.PartMut.{put_mid}
use Rattle.base_words.specs.Stored.{stored}
use Rattle.base_words.specs.StoredLaws.{stored_nil, stored_append, stored_is, length_stored}
use Rattle.test_make.specs.Pieces.{low_word}

-- past the end nothing is stored
pub stored_past : (l : List ℕ) (i : ℕ) (vs : List ℕ) → length l ≤ i → stored l i vs ≡ l
unfolding stored
stored_past l i [] h = refl
stored_past l i (x ∷ vs) h = stored_past (set l i x) (suc i) vs (simp length-set (omega arith)) ∙ set_out l i x h

-- ---- a text in the room that it has: n bytes from `from` on
module _ (l text : List ℕ) (i from n : ℕ) (start : from ≡ min i (length l)) (count : n ≡ min (length text) (length l - from)) where
  put_there : (k : ℕ) → k ≡ n → put_mid from k l (take n text) ≡ stored l from (take n text)
  put_there k e =
      let long : length (take n text) ≡ n = length-take-le n text (omega arith) in
      put_mid-paste from k l (take n text) (take n text) (length (take n text)) refl (omega (arith, long)) refl
      ∙ ap (λ (r : List ℕ). take from l ++ r ++ drop (from + length (take n text)) l) (take_all (length (take n text)) (take n text) (omega arith))
      ∙ sym (stored_is l from (take n text) (omega (arith, long)))

  -- what has no room is not stored
  no_more : stored l from (take n text) ≡ stored l i text
  no_more = go (leb i (length l)) refl
    where
      long : length (take n text) ≡ n
      long = length-take-le n text (omega arith)

      rest : i ≤ length l → (d : ℕ) → length text - n ≡ d → stored (stored l i (take n text)) (i + n) (drop n text) ≡ stored l i (take n text)
      rest h zero e = rw (drop_all n text (omega arith)) (stored_nil (stored l i (take n text)) (i + n))
      rest h (suc d) e = stored_past (stored l i (take n text)) (i + n) (drop n text) (rw length_stored (omega arith))

      go : (b : Bool) → leb i (length l) ≡ b → stored l from (take n text) ≡ stored l i text
      go true e =
          let h = leb-true i (length l) e in
          let same : from ≡ i = omega arith in
          rw same
          (sym (rest h (length text - n) refl)
          ∙ stored_append l i (i + n) (take n text) (drop n text) (omega (arith, long))
          ∙ ap (stored l i) (take-append-drop n text))
      go false e =
          let h = leb-false i (length l) e in
          let none : n ≡ 0 = omega arith in
          rw none (stored_nil l from ∙ sym (stored_past l i text (omega arith)))

  pub stored_room : (k : ℕ) (part : List ℕ) → k ≡ n → part ≡ take n text → put_mid from k l part ≡ stored l i text
  stored_room k part e f = rw f (put_there k e ∙ no_more)

-- ---- words stored one by one: those that are left, stored behind those that are there, make the whole
pub words_more : (now : List ℕ) {next : List ℕ} (at x : ℕ) (rest : List ℕ) {whole : List ℕ}
    → next ≡ stored now at (low_word x) → stored now at (low_word x ++ rest) ≡ whole → stored next (at + 2) rest ≡ whole
words_more now at x rest e h = ap (λ (m : List ℕ). stored m (at + 2) rest) e ∙ stored_append now at (at + 2) (low_word x) rest refl ∙ h

-- a word's two bytes
pub two_bytes : (x : ℕ) {bytes : List ℕ} → bytes ≡ x % 65536 % 256 ∷ x % 65536 / 256 % 256 ∷ [] → bytes ≡ low_word x
two_bytes x e =
    let high : x % 65536 / 256 % 256 ≡ x % 65536 / 256 = omega arith in
    e ∙ ap (λ (n : ℕ). x % 65536 % 256 ∷ n ∷ []) high
