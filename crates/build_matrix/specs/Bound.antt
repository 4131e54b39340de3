-- What a leaf binds, by the numbers of its patterns: those of its clause's root, and for each column tested, in order, what the test
-- opened there. Rests on crate build_table's patterns that bind; BoundLaws has that these are the bindings of the clause's row.
use Rattle.std.specs.Prelude.{List, [], ◌∷◌, ◌++◌, map, ℕ, ◌+◌, Some, None}
use Rattle.spec_rules.specs.SheetFile.{root}
use Rattle.spec_rules.specs.Building.{Tree, leaf}
use Rattle.build_table.specs.Seen.{binds_of, opened_binds, binding_at}
use Rattle.build_matrix.specs.Columns.{Held}
use Rattle.build_matrix.specs.Live.{opened_test}

abbrev pub numbers_held : List ℕ → Held → List ℕ
numbers_held s (Some p) = opened_binds s p
numbers_held s None = []

-- what the columns of these classes opened in clause c's row, in order; the first was tested after `time` others
unfoldable pub opened_numbers : List ℕ → List ℕ → ℕ → ℕ → List ℕ → List ℕ
unfolding opened_test
opened_numbers s opened c time [] = []
opened_numbers s opened c time (class ∷ classes) = numbers_held s (opened_test s opened c time class) ++ opened_numbers s opened c (time + 1) classes

-- all that clause c's row binds, where these columns were tested
abbrev pub leaf_numbers : List ℕ → List ℕ → List ℕ → ℕ → List ℕ
leaf_numbers s opened tested c = binds_of s (root s c) ++ opened_numbers s opened c 0 tested

-- its leaf
abbrev pub clause_leaf : List ℕ → List ℕ → List ℕ → ℕ → Tree
clause_leaf s opened tested c = leaf c (map (binding_at s) (leaf_numbers s opened tested c))
