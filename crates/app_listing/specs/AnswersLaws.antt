-- What a buffer holds after a text was written into it from its front, when it was zero before: all of the text, or more than it has
-- room for; and the calls put together of that.
use Rattle.std.specs.Prelude.{◌≡◌, refl, Bool, true, false, ℕ, ◌≤◌, ◌<◌, leb, length, Option, Some, None, Ok, Err}
use Rattle.std.proofs.Math.Path.{ap}
use Rattle.std.proofs.Common.{◌∙◌, ap₂, arith, le-leb, leb-true, leb-false}
use mathlib.Core.List.{List}
use Rattle.std.proofs.lemmas.Bool.{lt-leb}
use Rattle.std.proofs.lemmas.List.{length-replicate}
use Rattle.base_words.specs.Words.{pick, zeros}
use Rattle.base_words.specs.StoredLaws.{stored_zeros}
use Rattle.spec_rules.specs.RefusalNumbers.{tree_refusal}
use Rattle.spec_rules.specs.SheetRefusals.{accepted, refused, require}
use Rattle.spec_rules.specs.TreeReader.{tree_fits}
use Rattle.spec_rules.specs.Calls.{answers, refuses, tree_file_verdict}
use Rattle.spec_rules.specs.Listing.{listing}
use Rattle.format_parts.specs.Refusals.{number_of}
use Rattle.format_parts.specs.declared.refusals.Refusal.{Refusal}
use Rattle.app_listing.specs.Writing.{Writes}
use Rattle.app_listing.specs.WritingLaws.{length_written}
use Rattle.app_listing.specs.Answers.{text_in, end_in, call_of, listing_call, LineCall, line_of, shown, EndsText}

-- ---- a text in a buffer that was zero
module _ (room : ℕ) {after : List ℕ} {end : ℕ} {text : List ℕ} (w : Writes (zeros room) after 0 end text) where
  as_long : length (zeros room) ≡ room
  as_long = length-replicate room 0

  pub as_long_after : length after ≡ room
  as_long_after = length_written w ∙ as_long

  module _ (h : end ≤ length after) where
    has_room : length text ≤ room
    has_room = go (leb (length text) room) refl
      where
        go : (b : Bool) → leb (length text) room ≡ b → length text ≤ room
        go true e = leb-true (length text) room e
        go false e =
            let p = leb-false (length text) room e in
            absurd (omega (arith, as_long_after, as_long, w.past (omega (arith, as_long))))

    end_is : end ≡ length text
    end_is = omega (arith, w.inside (omega (arith, as_long, has_room)))

    text_there : after ≡ text_in text room
    unfolding text_in
    text_there = w.bytes ∙ stored_zeros room text has_room ∙ rw (le-leb (length text) room has_room)

    end_there : Some end ≡ end_in text room
    unfolding end_in
    end_there = ap Some end_is ∙ rw (le-leb (length text) room has_room)

    pub all_there : line_of (Some end) after ≡ shown text room
    all_there = ap₂ line_of end_there text_there

  module _ (h : length after < end) where
    no_room : room < length text
    no_room = go (leb (length text) room) refl
      where
        go : (b : Bool) → leb (length text) room ≡ b → room < length text
        go true e =
            let p = leb-true (length text) room e in
            absurd (omega (arith, as_long_after, as_long, w.inside (omega (arith, as_long))))
        go false e = leb-false (length text) room e

    zeros_there : (last : List ℕ) → last ≡ zeros (length after) → last ≡ text_in text room
    unfolding text_in
    zeros_there last e = e ∙ ap zeros as_long_after ∙ rw (lt-leb (length text) room no_room)

    no_end : None ≡ end_in text room
    unfolding end_in
    no_end = rw (lt-leb (length text) room no_room)

    pub none_there : (last : List ℕ) → last ≡ zeros (length after) → line_of None last ≡ shown text room
    none_there last e = ap₂ line_of no_end (zeros_there last e)

-- ---- the calls, which make their buffer zero first
pub ended : (room : ℕ) {before after out : List ℕ} (text : List ℕ) {end : ℕ} {r : Option ℕ}
    → before ≡ zeros room → Writes before after 0 end text → EndsText after end r out → line_of r out ≡ shown text room
ended room text empty w e = e room text (rw empty at w)

module _ (t : List ℕ) (room : ℕ) where
  pub call_refused : {l : List ℕ} → l ≡ zeros room → (r : Refusal) → refused (number_of r.reason) r.place ≡ tree_file_verdict t → call_of (Err r) l ≡ listing_call t room
  unfolding listing_call tree_file_verdict
  call_refused {l} empty r e = go (tree_fits t) e
    where
      go : (b : Bool) → refused (number_of r.reason) r.place ≡ require b tree_refusal accepted
          → call_of (Err r) l ≡ pick b (record { answer = answers (end_in (listing t) room); out = text_in (listing t) room }) (record { answer = refuses tree_refusal 0; out = zeros room })
      go true f = let z : ◌≡◌ {A = ℕ} 0 1 = cc in absurd (omega arith)
      go false f = cc

  pub call_listed : (r : Option ℕ) (l : List ℕ) → tree_fits t ≡ true → line_of r l ≡ shown (listing t) room → call_of (Ok r) l ≡ listing_call t room
  unfolding listing_call
  call_listed r l f e = ap (λ (x : LineCall). call_of (Ok x.answer) x.out) e ∙ rw f
