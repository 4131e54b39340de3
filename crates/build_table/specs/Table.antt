-- The table by which a build knows where each pattern stands: where its fields are, and what each part of filling it stores.
-- By pattern number: its class, one more than the test that it is inside of, the pattern above, its type, its step, the step's index,
-- how many steps its path has, its clause, and the indices of those steps; by clause and class one more than the test there.
use Rattle.std.specs.Prelude.{ℕ, zero, suc, ◌+◌, ◌-◌, ◌*◌, Bool, true, false, List, [], ◌∷◌, ◌++◌, get_or, set, eqb, ltb}
use Rattle.base_words.specs.Words.{both, pick, text_at}
use Rattle.base_words.specs.Stored.{stored}
use Rattle.spec_rules.specs.Limits.{patterns_most, clauses_most, depth_most}
use Rattle.spec_rules.specs.Kinds.{pair_step, tuple_step, constr_step, list_step, listtail_step}
use Rattle.spec_rules.specs.Searching.{lowest}
use Rattle.spec_rules.specs.SheetFile.{subject, type_first, constructor_first, entry, pattern_a, pattern_first, pattern_count, child, root}
use Rattle.spec_rules.specs.Patterns.{PatternKind, Discard, Variable, Assign, Integer, ByteString, ListOfAll, ListWithRest, Constructor, Pair, Tuple, Unknown, one_constructor, constructor_of}
use Rattle.build_table.specs.Standing.{or_self, standing, type_of, owner_of}
pub use Rattle.build_table.specs.Standing.{same_number}

-- ---- where the fields are; each of the first eight has a byte for each pattern there may be
abbrev pub class_at : ℕ
class_at = 0

abbrev pub owner_at : ℕ
owner_at = patterns_most

abbrev pub above_at : ℕ
above_at = 2 * patterns_most

abbrev pub type_at : ℕ
type_at = 3 * patterns_most

abbrev pub step_at : ℕ
step_at = 4 * patterns_most

abbrev pub index_at : ℕ
index_at = 5 * patterns_most

abbrev pub depth_at : ℕ
depth_at = 6 * patterns_most

abbrev pub clause_at : ℕ
clause_at = 7 * patterns_most

-- as many bytes for each pattern as a path may have steps, and one more
abbrev pub indices_at : ℕ
indices_at = 8 * patterns_most

-- for each clause a byte for each class, of which there are at most as many as patterns
abbrev pub cells_at : ℕ
cells_at = indices_at + depth_most * patterns_most

abbrev pub table_size : ℕ
table_size = cells_at + patterns_most * clauses_most

-- ---- what is stored
-- of child q of p
unfoldable pub placed : List ℕ → ℕ → ℕ → ℕ → ℕ → ℕ → ℕ → List ℕ
placed t p q step index type owner =
    set (set (set (set (set (set t (above_at + q) p) (step_at + q) step) (index_at + q) index) (type_at + q) type) (owner_at + q) owner) (clause_at + q) (get_or t (clause_at + p) 0)

-- of the n children of p from the i-th on, their types at entry e and each `stride` further on
unfoldable pub placed_each : List ℕ → List ℕ → ℕ → ℕ → ℕ → ℕ → ℕ → ℕ → ℕ → List ℕ
unfolding placed child entry pattern_first
placed_each s t p step e stride owner i zero = t
placed_each s t p step e stride owner i (suc n) =
    placed_each s (placed t p (child s (pattern_first s p + i)) step i (entry s (e + stride * i)) owner) p step e stride owner (i + 1) n

-- of all children of p, a pattern of this kind
unfoldable pub placed_below : List ℕ → List ℕ → ℕ → PatternKind → List ℕ
unfolding placed placed_each standing child type_first constructor_first constructor_of one_constructor pattern_a pattern_first pattern_count
placed_below s t p Discard = t
placed_below s t p Variable = t
placed_below s t p Assign = placed t p (child s (pattern_first s p)) same_number 0 (type_of s p) (owner_of s p)
placed_below s t p Integer = t
placed_below s t p ByteString = t
placed_below s t p ListOfAll = placed_each s t p list_step (type_first s (type_of s p)) 0 (p + 1) 0 (pattern_count s p)
placed_below s t p ListWithRest =
    placed (placed_each s t p list_step (type_first s (type_of s p)) 0 (p + 1) 0 (pattern_count s p - 1))
    p (child s (pattern_first s p + (pattern_count s p - 1))) listtail_step (pattern_count s p - 1) (type_of s p) (p + 1)
placed_below s t p Constructor =
    placed_each s t p constr_step (constructor_first s (constructor_of s (type_of s p) (pattern_a s p))) 1
    (pick (one_constructor s (type_of s p)) (owner_of s p) (p + 1)) 0 (pattern_count s p)
placed_below s t p Pair = placed_each s t p pair_step (type_first s (type_of s p)) 1 (owner_of s p) 0 (pattern_count s p)
placed_below s t p Tuple = placed_each s t p tuple_step (type_first s (type_of s p)) 1 (owner_of s p) 0 (pattern_count s p)
placed_below s t p Unknown = t

-- of root r of clause c, and of those of the n clauses from c on
unfoldable pub rooted : List ℕ → ℕ → ℕ → ℕ → List ℕ
rooted t r c type = set (set (set t (step_at + r) same_number) (type_at + r) type) (clause_at + r) c

unfoldable pub rooted_each : List ℕ → List ℕ → ℕ → ℕ → List ℕ
unfolding rooted root subject
rooted_each s t c zero = t
rooted_each s t c (suc n) = rooted_each s (rooted t (root s c) c (subject s)) (c + 1) n

-- the pattern above p, and what is known of it
abbrev pub above_in : List ℕ → ℕ → ℕ
above_in t p = get_or t (above_at + p) 0

-- do steps lead to a and b that are the same, from patterns of the same class and type?
unfoldable pub same_step_in : List ℕ → ℕ → ℕ → Bool
same_step_in t a b =
    both (eqb (get_or t (step_at + a) 0) (get_or t (step_at + b) 0))
    (both (eqb (get_or t (index_at + a) 0) (get_or t (index_at + b) 0))
    (both (eqb (get_or t (class_at + above_in t a) 0) (get_or t (class_at + above_in t b) 0))
    (eqb (get_or t (type_at + above_in t a) 0) (get_or t (type_at + above_in t b) 0))))

-- the lowest pattern that the same step leads to, or p
unfoldable pub class_in : List ℕ → ℕ → ℕ
unfolding lowest same_step_in
class_in t p = or_self (lowest (λ q. same_step_in t q p) 0 p) p

-- the class of p and how many steps its path has
unfoldable pub classed : List ℕ → ℕ → List ℕ
unfolding class_in
classed t p =
    pick (eqb (get_or t (step_at + p) 0) same_number)
    (set (set t (class_at + p) (get_or t (class_at + above_in t p) 0)) (depth_at + p) (get_or t (depth_at + above_in t p) 0))
    (set (set t (class_at + p) (class_in t p)) (depth_at + p) (get_or t (depth_at + above_in t p) 0 + 1))

-- the indices of its steps: those of the pattern above, and its own
unfoldable pub indexed : List ℕ → ℕ → List ℕ
unfolding stored
indexed t p =
    stored t (indices_at + depth_most * p)
    (text_at t (indices_at + depth_most * above_in t p) (get_or t (depth_at + above_in t p) 0) ++ get_or t (index_at + p) 0 ∷ [])

-- p in its clause's column, if it is a test
unfoldable pub tested : List ℕ → Bool → ℕ → List ℕ
tested t test p = pick test (set t (cells_at + patterns_most * get_or t (clause_at + p) 0 + get_or t (class_at + p) 0) (p + 1)) t

-- ---- the order of paths, by their indices
unfoldable pub first_before : List ℕ → List ℕ → Bool
first_before [] [] = false
first_before [] (y ∷ ys) = true
first_before (x ∷ xs) [] = false
first_before (x ∷ xs) (y ∷ ys) = elim (ltb x y) [ true ↦ true | false ↦ both (eqb x y) (first_before xs ys) ]

abbrev pub indices_in : List ℕ → ℕ → List ℕ
indices_in t p = text_at t (indices_at + depth_most * p) (get_or t (depth_at + p) 0)
