-- The two calls of this crate, whole: the answer and every byte of the lent buffer, for whatever file and buffer.
-- Rests on the rules' listing and on their test of a tree file, which alone refuses, with 31.
use Rattle.std.specs.Prelude.{◌≡◌, List, ◌++◌, ℕ, ◌-◌, leb, length, Option, Some, None, Result, Ok, Err}
use Rattle.base_words.specs.Words.{pick, zeros}
use Rattle.spec_rules.specs.RefusalNumbers.{tree_refusal}
use Rattle.spec_rules.specs.TreeReader.{tree_fits}
use Rattle.spec_rules.specs.Calls.{Answer, answers, refuses}
use Rattle.spec_rules.specs.Listing.{listing, refused_line}
use Rattle.format_parts.specs.Refusals.{number_of}
use Rattle.format_parts.specs.declared.refusals.Refusal.{Refusal}
use Rattle.app_listing.specs.Writing.{Writes}

-- 01's number and place, or how the text ends in its buffer
abbrev pub answer_of : Result (Option ℕ) Refusal → Answer (Option ℕ)
answer_of (Ok end) = answers end
answer_of (Err r) = refuses (number_of r.reason) r.place

-- a text that has room is followed by zeros; in the place of one that has none there are zeros alone
unfoldable pub text_in : List ℕ → ℕ → List ℕ
text_in text room = pick (leb (length text) room) (text ++ zeros (room - length text)) (zeros room)

-- how many bytes were written: none where the text has no room
unfoldable pub end_in : List ℕ → ℕ → Option ℕ
end_in text room = pick (leb (length text) room) (Some (length text)) None

pub record ListingCall : Type 0 where
  pub answer : Answer (Option ℕ)
  pub out : List ℕ

abbrev pub call_of : Result (Option ℕ) Refusal → List ℕ → ListingCall
call_of r l = record { answer = answer_of r; out = l }

unfoldable pub listing_call : List ℕ → ℕ → ListingCall
unfolding text_in end_in
listing_call t room =
    pick (tree_fits t)
    (record { answer = answers (end_in (listing t) room); out = text_in (listing t) room })
    (record { answer = refuses tree_refusal 0; out = zeros room })

-- a text and its end
pub record LineCall : Type 0 where
  pub answer : Option ℕ
  pub out : List ℕ

abbrev pub line_of : Option ℕ → List ℕ → LineCall
line_of r l = record { answer = r; out = l }

abbrev pub shown : List ℕ → ℕ → LineCall
shown text room = record { answer = end_in text room; out = text_in text room }

-- the line of a refused sheet
abbrev pub refused_line_call : ℕ → ℕ → ℕ → LineCall
refused_line_call number place room = shown (refused_line number place) room

-- whatever text was written into zeros up to `end`, r is its end and `out` the buffer
abbrev pub EndsText : List ℕ → ℕ → Option ℕ → List ℕ → Type 0
EndsText now end r out = (room : ℕ) (text : List ℕ) → Writes (zeros room) now 0 end text → line_of r out ≡ shown text room
