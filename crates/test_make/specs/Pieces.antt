-- Pieces of a file by their values: words, and the trailer of a sheet that has so many records. Rests on the format's sizes.
use Rattle.std.specs.Prelude.{List, [], ◌∷◌, ◌++◌, ℕ, zero, suc, ◌+◌, ◌*◌, ◌%◌}
use Rattle.base_words.specs.Words.{word_bytes}
use Rattle.spec_rules.specs.Limits.{type_size, constructor_size, entry_size, pattern_size, child_size, clause_size, sheet_trailer}
use Rattle.test_make.specs.declared.Sizes.{Sizes}

-- ---- words
-- a number's two low bytes
abbrev pub low_word : ℕ → List ℕ
low_word x = word_bytes (x % 65536)

abbrev pub words_of : List ℕ → List ℕ
words_of [] = []
words_of (x ∷ xs) = low_word x ++ words_of xs

-- the words of n numbers from a on
abbrev pub number_words : ℕ → ℕ → List ℕ
number_words a zero = []
number_words a (suc n) = low_word a ++ number_words (a + 1) n

-- ---- a sheet: where its sections start, one behind the other
abbrev pub constructors_from : Sizes → ℕ
constructors_from n = type_size * n.types

abbrev pub entries_from : Sizes → ℕ
entries_from n = constructors_from n + constructor_size * n.constructors

abbrev pub patterns_from : Sizes → ℕ
patterns_from n = entries_from n + entry_size * n.entries

abbrev pub children_from : Sizes → ℕ
children_from n = patterns_from n + pattern_size * n.patterns

abbrev pub clauses_from : Sizes → ℕ
clauses_from n = children_from n + child_size * n.children

abbrev pub pool_from : Sizes → ℕ
pool_from n = clauses_from n + clause_size * n.clauses

abbrev pub trailer_at : Sizes → ℕ
trailer_at n = pool_from n + n.pool

abbrev pub sheet_size : Sizes → ℕ
sheet_size n = trailer_at n + sheet_trailer

-- "where each section starts, the subject's type, the length"
abbrev pub trailer_of : Sizes → ℕ → List ℕ
trailer_of n subject =
    words_of
    (0 ∷ constructors_from n ∷ entries_from n ∷ patterns_from n ∷ children_from n ∷ clauses_from n ∷ pool_from n ∷ subject ∷ sheet_size n ∷ [])
