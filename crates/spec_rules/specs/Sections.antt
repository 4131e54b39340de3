-- A file of sections: they stand back to back, and a trailer ends the file, with where each starts and the file's length.
-- A tree file is written so (TreeFile); a sheet and a panel are so by their own sections.
use Rattle.std.specs.Prelude.{ℕ, ◌+◌, ◌*◌, List, [], ◌∷◌, ◌++◌, length}
use Rattle.base_words.specs.Words.{word_bytes}
use Rattle.spec_rules.specs.Limits.{word_size}

-- sections back to back
unfoldable pub back_to_back : List (List ℕ) → List ℕ
back_to_back [] = []
back_to_back (x ∷ xs) = x ++ back_to_back xs

-- where each starts, the first at `at`
unfoldable pub starts_from : ℕ → List (List ℕ) → List ℕ
starts_from at [] = []
starts_from at (x ∷ xs) = at ∷ starts_from (at + length x) xs

-- numbers as words
abbrev pub words_of : List ℕ → List ℕ
words_of [] = []
words_of (v ∷ vs) = word_bytes v ++ words_of vs

-- the numbers of the trailer: where each section starts, then those of `more`, then the file's length
unfoldable pub trailer_of : List ℕ → List (List ℕ) → List ℕ
unfolding back_to_back starts_from
trailer_of more sections = starts_from 0 sections ++ (more ++ (length (back_to_back sections) + word_size * (length sections + length more + 1)) ∷ [])

unfoldable pub file_with : List ℕ → List (List ℕ) → List ℕ
unfolding back_to_back trailer_of
file_with more sections = back_to_back sections ++ words_of (trailer_of more sections)

-- "Trailer, 14 bytes: six starts, file length" of a tree, "a trailer of three starts and the length" of a panel
unfoldable pub file_of : List (List ℕ) → List ℕ
unfolding file_with
file_of sections = file_with [] sections

-- a sheet: "the seven starts, the subject's type number, the file length"
pub record SheetSections : Type 0 where
  pub types : List ℕ
  pub constructors : List ℕ
  pub entries : List ℕ
  pub patterns : List ℕ
  pub children : List ℕ
  pub clauses : List ℕ
  pub pool : List ℕ
  pub subject : ℕ

unfoldable pub sheet_file_of : SheetSections → List ℕ
unfolding file_with
sheet_file_of x =
    file_with (x.subject ∷ [])
    (x.types ∷ x.constructors ∷ x.entries ∷ x.patterns ∷ x.children ∷ x.clauses ∷ x.pool ∷ [])

-- a panel
pub record PanelSections : Type 0 where
  pub records : List ℕ
  pub parts : List ℕ
  pub pool : List ℕ

unfoldable pub panel_file_of : PanelSections → List ℕ
unfolding file_of
panel_file_of x = file_of (x.records ∷ x.parts ∷ x.pool ∷ [])
