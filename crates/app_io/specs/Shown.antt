-- What a program finds in the buffer that it lent: a text with zeros after it, and how many bytes the text has; where it has no room,
-- zeros alone, and no end. Rests on the calls of the crate app_listing.
use Rattle.std.specs.Prelude.{◌≡◌, List, ℕ, length, Option, None, IfSome}
use Rattle.io.specs.Counts.{IsPrefixLen}
use Rattle.base_words.specs.Words.{pick, zeros}
use Rattle.spec_rules.specs.TreeReader.{tree_fits}
use Rattle.spec_rules.specs.Listing.{listing, sheet_listing}
use Rattle.app_listing.specs.Answers.{LineCall, line_of, shown}

-- the listing of a tree file; nothing where it is none
abbrev pub tree_shown : List ℕ → ℕ → LineCall
tree_shown t room = pick (tree_fits t) (shown (listing t) room) (record { answer = None; out = zeros room })

-- where the text ends, inside the buffer, and what is in it
pub record Shows (call : LineCall) (r : Option ℕ) (out : List ℕ) : Type 0 where
  pub count : IfSome r (λ n. IsPrefixLen n out)
  pub is : line_of r out ≡ call

-- the answers r of the functions that list: `out` is the buffer after the call, `first` before it
abbrev pub ShowsTree : List ℕ → List ℕ → Option ℕ → List ℕ → Type 0
ShowsTree t first r out = Shows (tree_shown t (length first)) r out

abbrev pub ShowsSheet : List ℕ → List ℕ → Option ℕ → List ℕ → Type 0
ShowsSheet s first r out = Shows (shown (sheet_listing s) (length first)) r out
