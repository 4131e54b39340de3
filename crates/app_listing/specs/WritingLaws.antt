-- How writes follow each other: nothing, one byte, a text behind a text; and what a write into an empty buffer leaves.
-- Rests on Writing and the laws of stores.
use Rattle.std.specs.Prelude.{◌≡◌, refl, Bool, true, false, List, [], ◌∷◌, ◌++◌, ℕ, suc, ◌+◌, ◌≤◌, ◌<◌, leb, length, set}
use Rattle.std.proofs.Common.{sym, ap, ◌∙◌, arith, leb-true, leb-false, length-set, length-append}
use Rattle.std.proofs.Math.Seq.{set_out}
use Rattle.base_words.specs.Stored.{stored}
use Rattle.base_words.specs.StoredLaws.{length_stored, stored_append, stored_nil, set_stored}
use Rattle.app_listing.specs.Writing.{Writes, Begun}

-- a store past the end does nothing
pub stored_out : (l : List ℕ) (i : ℕ) (vs : List ℕ) → length l ≤ i → stored l i vs ≡ l
unfolding stored
stored_out l i [] h = refl
stored_out l i (x ∷ vs) h = stored_out (set l i x) (suc i) vs (simp length-set (omega arith)) ∙ set_out l i x h

pub writes_nothing : (l : List ℕ) (at : ℕ) → Writes l l at at []
writes_nothing l at = record { bytes = sym (stored_nil l at); inside = λ h. omega arith; past = λ h. omega arith }

-- a byte that has room, and one that has none
pub writes_byte : (l : List ℕ) (at b : ℕ) → at < length l → Writes l (set l at b) at (at + 1) (b ∷ [])
writes_byte l at b h = record { bytes = set_stored l at b; inside = λ r. omega arith; past = λ r. omega arith }

pub writes_no_byte : (l : List ℕ) (at b end : ℕ) → length l ≤ at → length l < end → Writes l l at end (b ∷ [])
writes_no_byte l at b end h p = record { bytes = sym (stored_out l at (b ∷ []) h); inside = λ r. absurd (omega arith); past = λ r. p }

pub writes_as : {before after : List ℕ} {at end : ℕ} {s t : List ℕ} → Writes before after at end s → s ≡ t → Writes before after at end t
writes_as w e = rw (← e) w

-- ---- a text behind a text
module _ {before middle : List ℕ} {at seam : ℕ} {s : List ℕ} (w : Writes before middle at seam s) where
  pub length_written : length middle ≡ length before
  length_written = ap length w.bytes ∙ length_stored before at s

  -- where the first text has no room for all of itself, nothing is stored behind it
  module _ (h : length before < at + length s) (t : List ℕ) where
    none_after : stored middle seam t ≡ middle
    none_after = stored_out middle seam t (omega (arith, length_written, w.past h))

    no_more : middle ≡ stored before at (s ++ t)
    no_more =
        w.bytes
        ∙ sym (stored_out (stored before at s) (at + length s) t (rw length_stored (omega arith)))
        ∙ stored_append before at (at + length s) s t refl

  pub writes_then : {after : List ℕ} {end : ℕ} {t : List ℕ} → Writes middle after seam end t → Writes before after at end (s ++ t)
  writes_then {after} {end} {t} v = go (leb (at + length s) (length before)) refl
    where
      go : (b : Bool) → leb (at + length s) (length before) ≡ b → Writes before after at end (s ++ t)
      go true e =
          let h = leb-true _ _ e in
          let q : seam ≡ at + length s = w.inside h in
          record {
            bytes = v.bytes ∙ ap (λ (l : List ℕ). stored l seam t) w.bytes ∙ stored_append before at seam s t (sym q);
            inside = λ r. omega (arith, v.inside (omega (arith, length_written, length-append s t)), length-append s t);
            past = λ r. omega (arith, length_written, v.past (omega (arith, length_written, length-append s t)));
          }
      go false e =
          let h = leb-false _ _ e in
          record {
            bytes = v.bytes ∙ none_after h t ∙ no_more h t;
            inside = λ r. absurd (omega (arith, length-append s t));
            past = λ r. omega (arith, length_written, v.past (omega (arith, length_written, w.past h)));
          }

-- ---- a loop that writes a text part by part
pub begun : (l : List ℕ) (at : ℕ) (whole rest : List ℕ) → rest ≡ whole → Begun l l at at whole rest
begun l at whole rest e = record { as_long = refl; ends = λ after end w. writes_as w e }

module _ {before now : List ℕ} {from at : ℕ} {whole rest : List ℕ} (b : Begun before now from at whole rest) where
  pub begun_more : {next : List ℕ} {to : ℕ} {s : List ℕ} → Writes now next at to s → (others : List ℕ) → rest ≡ s ++ others
      → Begun before next from to whole others
  begun_more {next} {to} {s} w others e = record {
    as_long = length_written w ∙ b.as_long;
    ends = λ after end v. b.ends after end (rw e (writes_then w v));
  }

  pub begun_all : rest ≡ [] → Writes before now from at whole
  begun_all e = b.ends now at (rw e (writes_nothing now at))

  -- a loop may stop where there is no room left: nothing more would be stored
  pub begun_full : length now < at → Writes before now from at whole
  begun_full h = b.ends now at (record { bytes = sym (stored_out now at rest (omega arith)); inside = λ r. absurd (omega arith); past = λ r. h })
