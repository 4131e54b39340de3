-- The names of a pattern by the sheet's numbers, from left to right, as the code collects them (refusal 11).
use Rattle.std.specs.Prelude.{ℕ, zero, suc, ◌+◌, ◌≡◌, List, [], ◌∷◌, ◌++◌, length}
use Rattle.base_words.specs.Words.{text_at}
use Rattle.spec_rules.specs.Limits.{patterns_most}
use Rattle.spec_rules.specs.SheetFile.{pattern_kind, pattern_a, child}
use Rattle.spec_rules.specs.Patterns.{PatternKind, Discard, Variable, Assign, Integer, ByteString, ListOfAll, ListWithRest, Constructor, Pair, Tuple, Unknown, pattern_kind_of}
use Rattle.format_sheet.specs.Shape.{children_first, children_count}

-- a pattern's own name, if its kind has one
unfoldable pub name_of_kind : List ℕ → ℕ → PatternKind → List ℕ
name_of_kind s p Discard = []
name_of_kind s p Variable = pattern_a s p ∷ []
name_of_kind s p Assign = pattern_a s p ∷ []
name_of_kind s p Integer = []
name_of_kind s p ByteString = []
name_of_kind s p ListOfAll = []
name_of_kind s p ListWithRest = []
name_of_kind s p Constructor = []
name_of_kind s p Pair = []
name_of_kind s p Tuple = []
name_of_kind s p Unknown = []

unfoldable pub own_name : List ℕ → ℕ → List ℕ
own_name s p = name_of_kind s p (pattern_kind_of (pattern_kind s p))

-- the lists of the n numbers from i on, one after the other
unfoldable pub joined : (ℕ → List ℕ) → ℕ → ℕ → List ℕ
joined f i zero = []
joined f i (suc n) = f i ++ joined f (i + 1) n

-- the names of pattern p, as far as `deep` children go down
unfoldable pub names_to : ℕ → List ℕ → ℕ → List ℕ
names_to zero s p = []
names_to (suc deep) s p = own_name s p ++ joined (λ j. names_to deep s (child s j)) (children_first s p) (children_count s p)

unfoldable pub names_in : List ℕ → ℕ → List ℕ
names_in s p = names_to patterns_most s p

-- ---- names collected in a buffer
-- the buffer, and how many names it has
pub record Names : Type 0 where
  pub found : List ℕ
  pub count : ℕ

abbrev pub in_buffer : List ℕ → ℕ → Names
in_buffer l n = record { found = l; count = n }

-- what it holds
abbrev pub held : Names → List ℕ
held h = text_at h.found 0 h.count

-- r is h with the names xs after those that it held
pub record Adds (h : Names) (xs : List ℕ) (r : Names) : Type 0 where
  pub kept : length r.found ≡ length h.found
  pub counted : r.count ≡ h.count + length xs
  pub holds : held r ≡ held h ++ xs

-- on the way from h to h with `all`, r lacks `rest`
pub record Lacks (h : Names) (all : List ℕ) (r : Names) (rest : List ℕ) : Type 0 where
  pub kept : length r.found ≡ length h.found
  pub counted : r.count + length rest ≡ h.count + length all
  pub holds : held r ++ rest ≡ held h ++ all
