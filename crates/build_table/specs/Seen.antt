-- What a row sees of the patterns, by their numbers: at a pattern that is a test, itself; at any other, itself and what is seen at its
-- children. Its tests and its bindings are those of the patterns seen that test and that bind a name.
use Rattle.std.specs.Prelude.{ℕ, zero, suc, ◌+◌, Bool, true, false, List, [], ◌∷◌, ◌++◌}
use Rattle.spec_rules.specs.Limits.{patterns_most}
use Rattle.spec_rules.specs.SheetFile.{pattern_a, pattern_first, pattern_count, child}
use Rattle.spec_rules.specs.Patterns.{PatternKind, Discard, Variable, Assign, Integer, ByteString, ListOfAll, ListWithRest, Constructor, Pair, Tuple, Unknown}
use Rattle.spec_rules.specs.SheetRefusals.{has_children}
use Rattle.spec_rules.specs.Rows.{Binding, Cell}
use Rattle.build_table.specs.Standing.{kind_of, path_of, pattern_of, is_test}

-- what f gives of the n children from entry j on
unfoldable pub each_of : (ℕ → List ℕ) → List ℕ → ℕ → ℕ → List ℕ
unfolding child
each_of f s j zero = []
each_of f s j (suc n) = f (child s j) ++ each_of f s (j + 1) n

-- what f gives of all children of p
unfoldable pub inside_of : (ℕ → List ℕ) → List ℕ → ℕ → List ℕ
unfolding each_of kind_of has_children pattern_first pattern_count
inside_of f s p = elim (has_children (kind_of s p)) [ true ↦ each_of f s (pattern_first s p) (pattern_count s p) | false ↦ [] ]

unfoldable pub seen_to : ℕ → List ℕ → ℕ → List ℕ
unfolding inside_of is_test
seen_to zero s p = []
seen_to (suc deep) s p = p ∷ (elim (is_test s p) [ true ↦ [] | false ↦ inside_of (seen_to deep s) s p ])

unfoldable pub seen : List ℕ → ℕ → List ℕ
unfolding seen_to
seen s p = seen_to patterns_most s p

-- those of which f holds
unfoldable pub those : (ℕ → Bool) → List ℕ → List ℕ
those f [] = []
those f (x ∷ xs) = elim (f x) [ true ↦ x ∷ those f xs | false ↦ those f xs ]

-- "A variable binds its path; an assign binds before what is inside it"
unfoldable pub binds_kind : PatternKind → Bool
binds_kind Discard = false
binds_kind Variable = true
binds_kind Assign = true
binds_kind Integer = false
binds_kind ByteString = false
binds_kind ListOfAll = false
binds_kind ListWithRest = false
binds_kind Constructor = false
binds_kind Pair = false
binds_kind Tuple = false
binds_kind Unknown = false

unfoldable pub binds : List ℕ → ℕ → Bool
unfolding binds_kind kind_of
binds s p = binds_kind (kind_of s p)

-- the tests and the bindings of pattern p, and of the n children from entry j on
unfoldable pub tests_of : List ℕ → ℕ → List ℕ
unfolding those seen is_test
tests_of s p = those (is_test s) (seen s p)

abbrev pub tests_of_each : List ℕ → ℕ → ℕ → List ℕ
tests_of_each s j n = each_of (tests_of s) s j n

unfoldable pub binds_of : List ℕ → ℕ → List ℕ
unfolding those seen binds
binds_of s p = those (binds s) (seen s p)

abbrev pub binds_of_each : List ℕ → ℕ → ℕ → List ℕ
binds_of_each s j n = each_of (binds_of s) s j n

-- what test p opens to once its case holds
abbrev pub opened_tests : List ℕ → ℕ → List ℕ
opened_tests s p = inside_of (tests_of s) s p

abbrev pub opened_binds : List ℕ → ℕ → List ℕ
opened_binds s p = inside_of (binds_of s) s p

-- a test with its path, and a binding with its own
abbrev pub cell_at : List ℕ → ℕ → Cell
cell_at s q = record { path = path_of s q; pattern = pattern_of s q }

abbrev pub binding_at : List ℕ → ℕ → Binding
binding_at s q = record { name = pattern_a s q; path = path_of s q }
