-- 01, "The sheet file": where the sections of a sheet start, how many records each has, and the fields of a record.
-- A sheet is the list of its bytes; a field that is not there reads 0.
use Rattle.std.specs.Prelude.{ℕ, ◌+◌, ◌-◌, ◌*◌, ◌/◌, Bool, List, [], ◌∷◌, length, get_or, eqb, leb, ltb}
use Rattle.base_words.specs.Words.{word_at, text_at, both, either}
use Rattle.spec_rules.specs.Limits.{type_size, constructor_size, entry_size, pattern_size, child_size, clause_size, sheet_trailer}

-- "an 18-byte trailer ends the file: the seven starts, the subject's type number, the file length"
unfoldable pub sheet_start : List ℕ → ℕ → ℕ
unfolding word_at
sheet_start s k = word_at s (length s - sheet_trailer + 2 * k)

unfoldable pub subject : List ℕ → ℕ
unfolding word_at
subject s = word_at s (length s - 4)

unfoldable pub sheet_length : List ℕ → ℕ
unfolding word_at
sheet_length s = word_at s (length s - 2)

-- "Sections stand in this order, back to back": types, constructors, type list, patterns, child list, clauses, text pool
unfoldable pub types_at : List ℕ → ℕ
unfolding sheet_start
types_at s = sheet_start s 0

unfoldable pub constructors_at : List ℕ → ℕ
unfolding sheet_start
constructors_at s = sheet_start s 1

unfoldable pub entries_at : List ℕ → ℕ
unfolding sheet_start
entries_at s = sheet_start s 2

unfoldable pub patterns_at : List ℕ → ℕ
unfolding sheet_start
patterns_at s = sheet_start s 3

unfoldable pub children_at : List ℕ → ℕ
unfolding sheet_start
children_at s = sheet_start s 4

unfoldable pub clauses_at : List ℕ → ℕ
unfolding sheet_start
clauses_at s = sheet_start s 5

unfoldable pub pool_at : List ℕ → ℕ
unfolding sheet_start
pool_at s = sheet_start s 6

unfoldable pub pool_end : List ℕ → ℕ
pool_end s = length s - sheet_trailer

-- in this order: the sizes of their records (of the pool, of a byte), and where they start; the last ends where the trailer starts
abbrev pub sheet_sizes : List ℕ
sheet_sizes = type_size ∷ constructor_size ∷ entry_size ∷ pattern_size ∷ child_size ∷ clause_size ∷ 1 ∷ []

abbrev pub sheet_places : List ℕ → List ℕ
sheet_places s = types_at s ∷ constructors_at s ∷ entries_at s ∷ patterns_at s ∷ children_at s ∷ clauses_at s ∷ pool_at s ∷ pool_end s ∷ []

-- how many records each section has
unfoldable pub types : List ℕ → ℕ
unfolding types_at constructors_at
types s = (constructors_at s - types_at s) / type_size

unfoldable pub constructors : List ℕ → ℕ
unfolding constructors_at entries_at
constructors s = (entries_at s - constructors_at s) / constructor_size

unfoldable pub entries : List ℕ → ℕ
unfolding entries_at patterns_at
entries s = (patterns_at s - entries_at s) / entry_size

unfoldable pub patterns : List ℕ → ℕ
unfolding patterns_at children_at
patterns s = (children_at s - patterns_at s) / pattern_size

unfoldable pub children : List ℕ → ℕ
unfolding children_at clauses_at
children s = (clauses_at s - children_at s) / child_size

unfoldable pub clauses : List ℕ → ℕ
unfolding clauses_at pool_at
clauses s = (pool_at s - clauses_at s) / clause_size

unfoldable pub pool_size : List ℕ → ℕ
unfolding pool_at pool_end
pool_size s = pool_end s - pool_at s

-- "type, 6 bytes: kind byte, flag byte, first, count"
unfoldable pub type_kind : List ℕ → ℕ → ℕ
unfolding types_at
type_kind s t = get_or s (types_at s + type_size * t) 0

unfoldable pub type_flag : List ℕ → ℕ → ℕ
unfolding types_at
type_flag s t = get_or s (types_at s + type_size * t + 1) 0

unfoldable pub type_first : List ℕ → ℕ → ℕ
unfolding types_at word_at
type_first s t = word_at s (types_at s + type_size * t + 2)

unfoldable pub type_count : List ℕ → ℕ → ℕ
unfolding types_at word_at
type_count s t = word_at s (types_at s + type_size * t + 4)

-- "constructor, 4 bytes: first, count in the type list"
unfoldable pub constructor_first : List ℕ → ℕ → ℕ
unfolding constructors_at word_at
constructor_first s c = word_at s (constructors_at s + constructor_size * c)

unfoldable pub constructor_count : List ℕ → ℕ → ℕ
unfolding constructors_at word_at
constructor_count s c = word_at s (constructors_at s + constructor_size * c + 2)

-- "type list: u16 type numbers"
unfoldable pub entry : List ℕ → ℕ → ℕ
unfolding entries_at word_at
entry s e = word_at s (entries_at s + entry_size * e)

-- "pattern, 8 bytes: kind byte, zero byte, a, first, count"
unfoldable pub pattern_kind : List ℕ → ℕ → ℕ
unfolding patterns_at
pattern_kind s p = get_or s (patterns_at s + pattern_size * p) 0

unfoldable pub pattern_zero : List ℕ → ℕ → ℕ
unfolding patterns_at
pattern_zero s p = get_or s (patterns_at s + pattern_size * p + 1) 0

unfoldable pub pattern_a : List ℕ → ℕ → ℕ
unfolding patterns_at word_at
pattern_a s p = word_at s (patterns_at s + pattern_size * p + 2)

unfoldable pub pattern_first : List ℕ → ℕ → ℕ
unfolding patterns_at word_at
pattern_first s p = word_at s (patterns_at s + pattern_size * p + 4)

unfoldable pub pattern_count : List ℕ → ℕ → ℕ
unfolding patterns_at word_at
pattern_count s p = word_at s (patterns_at s + pattern_size * p + 6)

-- "child list: u16 pattern numbers"
unfoldable pub child : List ℕ → ℕ → ℕ
unfolding children_at word_at
child s j = word_at s (children_at s + child_size * j)

-- "clause, 2 bytes: root pattern"
unfoldable pub root : List ℕ → ℕ → ℕ
unfolding clauses_at word_at
root s c = word_at s (clauses_at s + clause_size * c)

-- "text pool: bytes"; a text is `count` bytes from `first` on
unfoldable pub pool_text : List ℕ → ℕ → ℕ → List ℕ
unfolding pool_at
pool_text s first count = text_at s (pool_at s + first) count

unfoldable pub pool : List ℕ → List ℕ
unfolding pool_text pool_size
pool s = pool_text s 0 (pool_size s)

-- "first, count": the run from first on lies in a section of n records, and "in any record first is 0 where count is 0"
unfoldable pub run_in : ℕ → ℕ → ℕ → Bool
run_in first count n = both (leb (first + count) n) (either (ltb 0 count) (eqb first 0))
