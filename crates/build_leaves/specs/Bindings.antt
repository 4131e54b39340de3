-- Bindings put into the arena one after the other, by the numbers of their patterns: each as its name and the class of its path, while
-- there is room for it; past the room only their number goes on, to one more than the room. Rests on the table's classes.
use Rattle.std.specs.Prelude.{◌≡◌, Bool, false, List, [], ◌∷◌, ◌++◌, ℕ, ◌+◌, ◌*◌, ◌≤◌, ◌<◌, min, ltb, length, get_or, take}
use Rattle.base_words.specs.Words.{word_bytes, pick}
use Rattle.base_words.specs.Stored.{stored}
use Rattle.spec_rules.specs.Limits.{patterns_most, bindings_most, binding_size}
use Rattle.spec_rules.specs.SheetFile.{patterns_at, children_at, patterns, clauses, pattern_a, pattern_first, pattern_count}
use Rattle.spec_rules.specs.SplittingLaws.{All}
use Rattle.spec_accepted.specs.SheetFacts.{Parent, Owns, Accepted}
use Rattle.build_table.specs.Standing.{class_of}
use Rattle.build_table.specs.Seen.{binds, binds_of, binds_of_each}
use Rattle.build_table.specs.Tabled.{Tabled}
use Rattle.build_arena.specs.Arena.{bindings_start, arena_end}
use Rattle.build_matrix.specs.declared.Matrix.{Matrix}
use Rattle.build_matrix.specs.InNumbers.{in_numbers}
use Rattle.build_matrix.specs.Lists.{as_classes, Whole, WholeRows}
use Rattle.build_matrix.specs.Numbered.{SoundOf}
use Rattle.build_leaves.specs.declared.Given.{Given}

-- a number of bindings, told up to one more than there is room for
abbrev pub capped : ℕ → ℕ
capped n = min n (bindings_most + 1)

-- ---- the store
-- the work buffer, and how many bindings were put into it
pub record Bound : Type 0 where
  pub work : List ℕ
  pub top : ℕ

abbrev pub bound : List ℕ → ℕ → Bound
bound w top = record { work = w; top = top }

-- the record of pattern q's binding: its name and the class of its path
unfoldable pub binding_record : List ℕ → ℕ → List ℕ
unfolding pattern_a class_of
binding_record s q = word_bytes (pattern_a s q) ++ word_bytes (class_of s q)

unfoldable pub bound_one : List ℕ → Bound → ℕ → Bound
unfolding binding_record stored
bound_one s x q =
    bound
    (pick (ltb x.top bindings_most) (stored x.work (bindings_start + binding_size * x.top) (binding_record s q)) x.work)
    (capped (x.top + 1))

unfoldable pub bound_all : List ℕ → Bound → List ℕ → Bound
unfolding bound_one
bound_all s x [] = x
bound_all s x (q ∷ qs) = bound_all s (bound_one s x q) qs

-- ---- a pattern
-- the binding of its own name, if it has one
abbrev pub own_of : Bool → ℕ → List ℕ
own_of named p = pick named (p ∷ []) []

-- ---- a leaf
-- the clause of a matrix's first row
abbrev pub first_clause : Matrix → ℕ
first_clause x = get_or x.rows.list 0 0

-- ---- what is asked
-- the arena, and a number of bindings that can be told
pub record Room (w : List ℕ) (top : ℕ) : Type 0 where
  pub long : arena_end ≤ length w
  pub most : top ≤ bindings_most + 1

-- an accepted sheet with its table, and where its patterns and its child list start
pub record Started (s t : List ℕ) (records list : ℕ) : Type 0 where
  pub ok : Accepted s
  pub tabled : Tabled s t
  pub from_patterns : records ≡ patterns_at s
  pub from_children : list ≡ children_at s

-- the n entries of the child list from j on are p's
pub record Entries (s : List ℕ) (p j n : ℕ) : Type 0 where
  pub known : p < patterns s
  pub owns : (i : ℕ) → j ≤ i → i < j + n → Owns s p i

-- what a constructor, pair or tuple has of its children
pub record Parts (s : List ℕ) (p first count : ℕ) : Type 0 where
  pub known : p < patterns s
  pub parent : Parent s p
  pub nameless : binds s p ≡ false
  pub is_first : first ≡ pattern_first s p
  pub is_count : count ≡ pattern_count s p

-- p binds its own name and what the children given bind
pub record Gives (s : List ℕ) (p : ℕ) (g : Given) : Type 0 where
  pub entries : Entries s p g.first g.count
  pub these : binds_of s p ≡ own_of g.named p ++ binds_of_each s g.first g.count

-- a clause of the sheet, and columns that were tested
pub record LeafAsked (s : List ℕ) (c : ℕ) (tested : List ℕ) (n : ℕ) : Type 0 where
  pub clause : c < clauses s
  pub whole : Whole (as_classes tested n)
  pub known : All (λ k. k < patterns_most) (take n tested)

-- a sound matrix with a row
pub record WithRow (s : List ℕ) (x : Matrix) : Type 0 where
  pub rows : WholeRows x.rows
  pub tested : Whole x.tested
  pub sound : SoundOf s (in_numbers x)
  pub some_row : 0 < x.rows.count
