-- What is read from a list of bytes: words of two bytes, low byte first, and texts; and the tests that definitions over them use.
-- Rests on the library's lists and native numbers alone; the laws are in WordsLaws.
use Rattle.std.specs.Prelude.{ℕ, ◌+◌, ◌*◌, ◌/◌, ◌%◌, ◌<◌, Bool, true, false, List, [], ◌∷◌, eqb, get_or, set, take, drop, replicate}

-- the word at i and i + 1
unfoldable pub word_at : List ℕ → ℕ → ℕ
word_at s i = get_or s i 0 + 256 * get_or s (i + 1) 0

-- a word's two bytes
abbrev pub word_bytes : ℕ → List ℕ
word_bytes v = v % 256 ∷ v / 256 ∷ []

-- s with the word v at i and i + 1, as two stores leave it
unfoldable pub set_word : List ℕ → ℕ → ℕ → List ℕ
set_word s i v = set (set s i (v % 256)) (i + 1) (v / 256)

-- every element is a byte; past the end the default 0 is one too
pub record Bytes (l : List ℕ) : Type 0 where
  pub byte : (i : ℕ) → get_or l i 0 < 256

-- both tests hold; where the first fails the second is not looked at
abbrev pub both : Bool → Bool → Bool
both true b = b
both false b = false

-- one of the tests holds; where the first does the second is not looked at
abbrev pub either : Bool → Bool → Bool
either true b = true
either false b = b

-- the first value where the test holds, the second where it fails
module _ {ℓ} {A : Type ℓ} where
  abbrev pub pick : Bool → A → A → A
  pick true x y = x
  pick false x y = y

-- len bytes from start on, fewer where the list ends before
abbrev pub text_at : List ℕ → ℕ → ℕ → List ℕ
text_at s start len = take len (drop start s)

-- two texts are the same: as long as each other, and the same byte at each place
unfoldable pub same_text : List ℕ → List ℕ → Bool
same_text [] [] = true
same_text [] (b ∷ ys) = false
same_text (a ∷ xs) [] = false
same_text (a ∷ xs) (b ∷ ys) = both (eqb a b) (same_text xs ys)

-- n bytes that are 0
abbrev pub zeros : ℕ → List ℕ
zeros n = replicate n 0
