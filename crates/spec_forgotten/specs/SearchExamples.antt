-- The search and the marking at work on small sheets: each answer holds by computing. Node numbers are those of the tree that the build
-- writes, hoists counted; a branch is 0 for the default and i + 1 for case i.
use Rattle.std.specs.Prelude.{ℕ, ◌≡◌, refl, List, [], ◌∷◌}
use Rattle.std.proofs.Math.Option.{none, some}
use Rattle.spec_rules.specs.Sections.{sheet_file_of}
use Rattle.spec_rules.specs.SheetRefusals.{verdict, accepted}
use Rattle.spec_rules.specs.Calls.{sheet_tree}
use Rattle.spec_rules.specs.Samples.{sheet7, sheet11}
use Rattle.spec_forgotten.specs.Search.{lowest_gap, way_to}
use Rattle.spec_forgotten.specs.Marking.{hollow_type}

-- P7: `7` alone
P7_gap : lowest_gap sheet7 (sheet_tree sheet7) ≡ some 1
unfolding lowest_gap sheet_tree sheet_file_of
P7_gap = refl

-- P11: (1,2), (3,4)
P11_gap : lowest_gap sheet11 (sheet_tree sheet11) ≡ some 1
unfolding lowest_gap sheet_tree sheet_file_of
P11_gap = refl

-- two constructors: 1, 0
abbrev both : List ℕ
both =
    -- type 0: Data, constructors 0 to 1
    5 ∷ 0 ∷ 0 ∷ 0 ∷ 2 ∷ 0 ∷
    -- constructor 0: no field
    0 ∷ 0 ∷ 0 ∷ 0 ∷
    -- constructor 1: no field
    0 ∷ 0 ∷ 0 ∷ 0 ∷
    -- pattern 0: constructor 1
    7 ∷ 0 ∷ 1 ∷ 0 ∷ 0 ∷ 0 ∷ 0 ∷ 0 ∷
    -- pattern 1: constructor 0
    7 ∷ 0 ∷ 0 ∷ 0 ∷ 0 ∷ 0 ∷ 0 ∷ 0 ∷
    -- the clauses' roots
    0 ∷ 0 ∷ 1 ∷ 0 ∷
    -- the seven starts, the subject's type, the length
    0 ∷ 0 ∷ 6 ∷ 0 ∷ 14 ∷ 0 ∷ 14 ∷ 0 ∷ 30 ∷ 0 ∷ 30 ∷ 0 ∷ 34 ∷ 0 ∷ 0 ∷ 0 ∷ 52 ∷ 0 ∷ []

both_accepted : verdict both ≡ accepted
unfolding verdict
both_accepted = refl

both_covered : lowest_gap both (sheet_tree both) ≡ none
unfolding lowest_gap sheet_tree
both_covered = refl

-- three constructors: 1, 0
abbrev third : List ℕ
third =
    -- type 0: Data, constructors 0 to 2
    5 ∷ 0 ∷ 0 ∷ 0 ∷ 3 ∷ 0 ∷
    -- constructor 0: no field
    0 ∷ 0 ∷ 0 ∷ 0 ∷
    -- constructor 1: no field
    0 ∷ 0 ∷ 0 ∷ 0 ∷
    -- constructor 2: no field
    0 ∷ 0 ∷ 0 ∷ 0 ∷
    -- pattern 0: constructor 1
    7 ∷ 0 ∷ 1 ∷ 0 ∷ 0 ∷ 0 ∷ 0 ∷ 0 ∷
    -- pattern 1: constructor 0
    7 ∷ 0 ∷ 0 ∷ 0 ∷ 0 ∷ 0 ∷ 0 ∷ 0 ∷
    -- the clauses' roots
    0 ∷ 0 ∷ 1 ∷ 0 ∷
    -- the seven starts, the subject's type, the length
    0 ∷ 0 ∷ 6 ∷ 0 ∷ 18 ∷ 0 ∷ 18 ∷ 0 ∷ 34 ∷ 0 ∷ 34 ∷ 0 ∷ 38 ∷ 0 ∷ 0 ∷ 0 ∷ 56 ∷ 0 ∷ []

third_accepted : verdict third ≡ accepted
unfolding verdict
third_accepted = refl

third_gap : lowest_gap third (sheet_tree third) ≡ some 1
unfolding lowest_gap sheet_tree
third_gap = refl

third_way : way_to third (sheet_tree third) 1 ≡ []
unfolding way_to sheet_tree
third_way = refl

-- (A, _), (B, _), (_, 2): nobody comes to the default of the first test
abbrev unreached : List ℕ
unreached =
    -- type 0: Tuple of types 1, 2
    4 ∷ 0 ∷ 0 ∷ 0 ∷ 2 ∷ 0 ∷
    -- type 1: Data, constructors 0 to 1
    5 ∷ 0 ∷ 0 ∷ 0 ∷ 2 ∷ 0 ∷
    -- type 2: Int
    0 ∷ 0 ∷ 0 ∷ 0 ∷ 0 ∷ 0 ∷
    -- constructor 0: no field
    0 ∷ 0 ∷ 0 ∷ 0 ∷
    -- constructor 1: no field
    0 ∷ 0 ∷ 0 ∷ 0 ∷
    -- the type list
    1 ∷ 0 ∷ 2 ∷ 0 ∷
    -- pattern 0: tuple of patterns 1, 2
    9 ∷ 0 ∷ 0 ∷ 0 ∷ 0 ∷ 0 ∷ 2 ∷ 0 ∷
    -- pattern 1: constructor 0
    7 ∷ 0 ∷ 0 ∷ 0 ∷ 0 ∷ 0 ∷ 0 ∷ 0 ∷
    -- pattern 2: discard
    0 ∷ 0 ∷ 0 ∷ 0 ∷ 0 ∷ 0 ∷ 0 ∷ 0 ∷
    -- pattern 3: tuple of patterns 4, 5
    9 ∷ 0 ∷ 0 ∷ 0 ∷ 2 ∷ 0 ∷ 2 ∷ 0 ∷
    -- pattern 4: constructor 1
    7 ∷ 0 ∷ 1 ∷ 0 ∷ 0 ∷ 0 ∷ 0 ∷ 0 ∷
    -- pattern 5: discard
    0 ∷ 0 ∷ 0 ∷ 0 ∷ 0 ∷ 0 ∷ 0 ∷ 0 ∷
    -- pattern 6: tuple of patterns 7, 8
    9 ∷ 0 ∷ 0 ∷ 0 ∷ 4 ∷ 0 ∷ 2 ∷ 0 ∷
    -- pattern 7: discard
    0 ∷ 0 ∷ 0 ∷ 0 ∷ 0 ∷ 0 ∷ 0 ∷ 0 ∷
    -- pattern 8: integer 2
    3 ∷ 0 ∷ 0 ∷ 0 ∷ 0 ∷ 0 ∷ 1 ∷ 0 ∷
    -- the child list
    1 ∷ 0 ∷ 2 ∷ 0 ∷ 4 ∷ 0 ∷ 5 ∷ 0 ∷ 7 ∷ 0 ∷ 8 ∷ 0 ∷
    -- the clauses' roots
    0 ∷ 0 ∷ 3 ∷ 0 ∷ 6 ∷ 0 ∷
    -- the pool: 2
    50 ∷
    -- the seven starts, the subject's type, the length
    0 ∷ 0 ∷ 18 ∷ 0 ∷ 26 ∷ 0 ∷ 30 ∷ 0 ∷ 102 ∷ 0 ∷ 114 ∷ 0 ∷ 120 ∷ 0 ∷ 0 ∷ 0 ∷ 139 ∷ 0 ∷ []

unreached_accepted : verdict unreached ≡ accepted
unfolding verdict
unreached_accepted = refl

unreached_covered : lowest_gap unreached (sheet_tree unreached) ≡ none
unfolding lowest_gap sheet_tree
unreached_covered = refl

-- (A, 1), (B, _), (_, 2)
abbrev inside : List ℕ
inside =
    -- type 0: Tuple of types 1, 2
    4 ∷ 0 ∷ 0 ∷ 0 ∷ 2 ∷ 0 ∷
    -- type 1: Data, constructors 0 to 1
    5 ∷ 0 ∷ 0 ∷ 0 ∷ 2 ∷ 0 ∷
    -- type 2: Int
    0 ∷ 0 ∷ 0 ∷ 0 ∷ 0 ∷ 0 ∷
    -- constructor 0: no field
    0 ∷ 0 ∷ 0 ∷ 0 ∷
    -- constructor 1: no field
    0 ∷ 0 ∷ 0 ∷ 0 ∷
    -- the type list
    1 ∷ 0 ∷ 2 ∷ 0 ∷
    -- pattern 0: tuple of patterns 1, 2
    9 ∷ 0 ∷ 0 ∷ 0 ∷ 0 ∷ 0 ∷ 2 ∷ 0 ∷
    -- pattern 1: constructor 0
    7 ∷ 0 ∷ 0 ∷ 0 ∷ 0 ∷ 0 ∷ 0 ∷ 0 ∷
    -- pattern 2: integer 1
    3 ∷ 0 ∷ 0 ∷ 0 ∷ 0 ∷ 0 ∷ 1 ∷ 0 ∷
    -- pattern 3: tuple of patterns 4, 5
    9 ∷ 0 ∷ 0 ∷ 0 ∷ 2 ∷ 0 ∷ 2 ∷ 0 ∷
    -- pattern 4: constructor 1
    7 ∷ 0 ∷ 1 ∷ 0 ∷ 0 ∷ 0 ∷ 0 ∷ 0 ∷
    -- pattern 5: discard
    0 ∷ 0 ∷ 0 ∷ 0 ∷ 0 ∷ 0 ∷ 0 ∷ 0 ∷
    -- pattern 6: tuple of patterns 7, 8
    9 ∷ 0 ∷ 0 ∷ 0 ∷ 4 ∷ 0 ∷ 2 ∷ 0 ∷
    -- pattern 7: discard
    0 ∷ 0 ∷ 0 ∷ 0 ∷ 0 ∷ 0 ∷ 0 ∷ 0 ∷
    -- pattern 8: integer 2
    3 ∷ 0 ∷ 0 ∷ 0 ∷ 1 ∷ 0 ∷ 1 ∷ 0 ∷
    -- the child list
    1 ∷ 0 ∷ 2 ∷ 0 ∷ 4 ∷ 0 ∷ 5 ∷ 0 ∷ 7 ∷ 0 ∷ 8 ∷ 0 ∷
    -- the clauses' roots
    0 ∷ 0 ∷ 3 ∷ 0 ∷ 6 ∷ 0 ∷
    -- the pool: 12
    49 ∷ 50 ∷
    -- the seven starts, the subject's type, the length
    0 ∷ 0 ∷ 18 ∷ 0 ∷ 26 ∷ 0 ∷ 30 ∷ 0 ∷ 102 ∷ 0 ∷ 114 ∷ 0 ∷ 120 ∷ 0 ∷ 0 ∷ 0 ∷ 140 ∷ 0 ∷ []

inside_accepted : verdict inside ≡ accepted
unfolding verdict
inside_accepted = refl

inside_gap : lowest_gap inside (sheet_tree inside) ≡ some 2
unfolding lowest_gap sheet_tree
inside_gap = refl

inside_way : way_to inside (sheet_tree inside) 2 ≡ record { node = 1; branch = 1 } ∷ []
unfolding way_to sheet_tree
inside_way = refl

-- (A, A, 1), (B, _, _), (_, B, _)
abbrev two_tests : List ℕ
two_tests =
    -- type 0: Tuple of types 1, 1, 2
    4 ∷ 0 ∷ 0 ∷ 0 ∷ 3 ∷ 0 ∷
    -- type 1: Data, constructors 0 to 1
    5 ∷ 0 ∷ 0 ∷ 0 ∷ 2 ∷ 0 ∷
    -- type 2: Int
    0 ∷ 0 ∷ 0 ∷ 0 ∷ 0 ∷ 0 ∷
    -- constructor 0: no field
    0 ∷ 0 ∷ 0 ∷ 0 ∷
    -- constructor 1: no field
    0 ∷ 0 ∷ 0 ∷ 0 ∷
    -- the type list
    1 ∷ 0 ∷ 1 ∷ 0 ∷ 2 ∷ 0 ∷
    -- pattern 0: tuple of patterns 1, 2, 3
    9 ∷ 0 ∷ 0 ∷ 0 ∷ 0 ∷ 0 ∷ 3 ∷ 0 ∷
    -- pattern 1: constructor 0
    7 ∷ 0 ∷ 0 ∷ 0 ∷ 0 ∷ 0 ∷ 0 ∷ 0 ∷
    -- pattern 2: constructor 0
    7 ∷ 0 ∷ 0 ∷ 0 ∷ 0 ∷ 0 ∷ 0 ∷ 0 ∷
    -- pattern 3: integer 1
    3 ∷ 0 ∷ 0 ∷ 0 ∷ 0 ∷ 0 ∷ 1 ∷ 0 ∷
    -- pattern 4: tuple of patterns 5, 6, 7
    9 ∷ 0 ∷ 0 ∷ 0 ∷ 3 ∷ 0 ∷ 3 ∷ 0 ∷
    -- pattern 5: constructor 1
    7 ∷ 0 ∷ 1 ∷ 0 ∷ 0 ∷ 0 ∷ 0 ∷ 0 ∷
    -- pattern 6: discard
    0 ∷ 0 ∷ 0 ∷ 0 ∷ 0 ∷ 0 ∷ 0 ∷ 0 ∷
    -- pattern 7: discard
    0 ∷ 0 ∷ 0 ∷ 0 ∷ 0 ∷ 0 ∷ 0 ∷ 0 ∷
    -- pattern 8: tuple of patterns 9, 10, 11
    9 ∷ 0 ∷ 0 ∷ 0 ∷ 6 ∷ 0 ∷ 3 ∷ 0 ∷
    -- pattern 9: discard
    0 ∷ 0 ∷ 0 ∷ 0 ∷ 0 ∷ 0 ∷ 0 ∷ 0 ∷
    -- pattern 10: constructor 1
    7 ∷ 0 ∷ 1 ∷ 0 ∷ 0 ∷ 0 ∷ 0 ∷ 0 ∷
    -- pattern 11: discard
    0 ∷ 0 ∷ 0 ∷ 0 ∷ 0 ∷ 0 ∷ 0 ∷ 0 ∷
    -- the child list
    1 ∷ 0 ∷ 2 ∷ 0 ∷ 3 ∷ 0 ∷ 5 ∷ 0 ∷ 6 ∷ 0 ∷ 7 ∷ 0 ∷ 9 ∷ 0 ∷ 10 ∷ 0 ∷ 11 ∷ 0 ∷
    -- the clauses' roots
    0 ∷ 0 ∷ 4 ∷ 0 ∷ 8 ∷ 0 ∷
    -- the pool: 1
    49 ∷
    -- the seven starts, the subject's type, the length
    0 ∷ 0 ∷ 18 ∷ 0 ∷ 26 ∷ 0 ∷ 32 ∷ 0 ∷ 128 ∷ 0 ∷ 146 ∷ 0 ∷ 152 ∷ 0 ∷ 0 ∷ 0 ∷ 171 ∷ 0 ∷ []

two_tests_accepted : verdict two_tests ≡ accepted
unfolding verdict
two_tests_accepted = refl

two_tests_gap : lowest_gap two_tests (sheet_tree two_tests) ≡ some 4
unfolding lowest_gap sheet_tree
two_tests_gap = refl

two_tests_way : way_to two_tests (sheet_tree two_tests) 4 ≡ record { node = 1; branch = 1 } ∷ record { node = 2; branch = 1 } ∷ []
unfolding way_to sheet_tree
two_tests_way = refl

-- A of two or B of three: A(0), A(1), B(0), B(1); one path is of two types
abbrev ways : List ℕ
ways =
    -- type 0: Data, constructors 0 to 1
    5 ∷ 0 ∷ 0 ∷ 0 ∷ 2 ∷ 0 ∷
    -- type 1: Data, constructors 2 to 3
    5 ∷ 0 ∷ 2 ∷ 0 ∷ 2 ∷ 0 ∷
    -- type 2: Data, constructors 4 to 6
    5 ∷ 0 ∷ 4 ∷ 0 ∷ 3 ∷ 0 ∷
    -- constructor 0: a field of type 1
    0 ∷ 0 ∷ 1 ∷ 0 ∷
    -- constructor 1: a field of type 2
    1 ∷ 0 ∷ 1 ∷ 0 ∷
    -- constructor 2: no field
    0 ∷ 0 ∷ 0 ∷ 0 ∷
    -- constructor 3: no field
    0 ∷ 0 ∷ 0 ∷ 0 ∷
    -- constructor 4: no field
    0 ∷ 0 ∷ 0 ∷ 0 ∷
    -- constructor 5: no field
    0 ∷ 0 ∷ 0 ∷ 0 ∷
    -- constructor 6: no field
    0 ∷ 0 ∷ 0 ∷ 0 ∷
    -- the type list
    1 ∷ 0 ∷ 2 ∷ 0 ∷
    -- pattern 0: constructor 0 of patterns 1
    7 ∷ 0 ∷ 0 ∷ 0 ∷ 0 ∷ 0 ∷ 1 ∷ 0 ∷
    -- pattern 1: constructor 0
    7 ∷ 0 ∷ 0 ∷ 0 ∷ 0 ∷ 0 ∷ 0 ∷ 0 ∷
    -- pattern 2: constructor 0 of patterns 3
    7 ∷ 0 ∷ 0 ∷ 0 ∷ 1 ∷ 0 ∷ 1 ∷ 0 ∷
    -- pattern 3: constructor 1
    7 ∷ 0 ∷ 1 ∷ 0 ∷ 0 ∷ 0 ∷ 0 ∷ 0 ∷
    -- pattern 4: constructor 1 of patterns 5
    7 ∷ 0 ∷ 1 ∷ 0 ∷ 2 ∷ 0 ∷ 1 ∷ 0 ∷
    -- pattern 5: constructor 0
    7 ∷ 0 ∷ 0 ∷ 0 ∷ 0 ∷ 0 ∷ 0 ∷ 0 ∷
    -- pattern 6: constructor 1 of patterns 7
    7 ∷ 0 ∷ 1 ∷ 0 ∷ 3 ∷ 0 ∷ 1 ∷ 0 ∷
    -- pattern 7: constructor 1
    7 ∷ 0 ∷ 1 ∷ 0 ∷ 0 ∷ 0 ∷ 0 ∷ 0 ∷
    -- the child list
    1 ∷ 0 ∷ 3 ∷ 0 ∷ 5 ∷ 0 ∷ 7 ∷ 0 ∷
    -- the clauses' roots
    0 ∷ 0 ∷ 2 ∷ 0 ∷ 4 ∷ 0 ∷ 6 ∷ 0 ∷
    -- the seven starts, the subject's type, the length
    0 ∷ 0 ∷ 18 ∷ 0 ∷ 46 ∷ 0 ∷ 50 ∷ 0 ∷ 114 ∷ 0 ∷ 122 ∷ 0 ∷ 130 ∷ 0 ∷ 0 ∷ 0 ∷ 148 ∷ 0 ∷ []

ways_accepted : verdict ways ≡ accepted
unfolding verdict
ways_accepted = refl

ways_gap : lowest_gap ways (sheet_tree ways) ≡ some 7
unfolding lowest_gap sheet_tree
ways_gap = refl

ways_way : way_to ways (sheet_tree ways) 7 ≡ record { node = 1; branch = 2 } ∷ []
unfolding way_to sheet_tree
ways_way = refl

-- A of two or B of three: B(0), B(1), B(2), A(0), A(1)
abbrev all_ways : List ℕ
all_ways =
    -- type 0: Data, constructors 0 to 1
    5 ∷ 0 ∷ 0 ∷ 0 ∷ 2 ∷ 0 ∷
    -- type 1: Data, constructors 2 to 3
    5 ∷ 0 ∷ 2 ∷ 0 ∷ 2 ∷ 0 ∷
    -- type 2: Data, constructors 4 to 6
    5 ∷ 0 ∷ 4 ∷ 0 ∷ 3 ∷ 0 ∷
    -- constructor 0: a field of type 1
    0 ∷ 0 ∷ 1 ∷ 0 ∷
    -- constructor 1: a field of type 2
    1 ∷ 0 ∷ 1 ∷ 0 ∷
    -- constructor 2: no field
    0 ∷ 0 ∷ 0 ∷ 0 ∷
    -- constructor 3: no field
    0 ∷ 0 ∷ 0 ∷ 0 ∷
    -- constructor 4: no field
    0 ∷ 0 ∷ 0 ∷ 0 ∷
    -- constructor 5: no field
    0 ∷ 0 ∷ 0 ∷ 0 ∷
    -- constructor 6: no field
    0 ∷ 0 ∷ 0 ∷ 0 ∷
    -- the type list
    1 ∷ 0 ∷ 2 ∷ 0 ∷
    -- pattern 0: constructor 1 of patterns 1
    7 ∷ 0 ∷ 1 ∷ 0 ∷ 0 ∷ 0 ∷ 1 ∷ 0 ∷
    -- pattern 1: constructor 0
    7 ∷ 0 ∷ 0 ∷ 0 ∷ 0 ∷ 0 ∷ 0 ∷ 0 ∷
    -- pattern 2: constructor 1 of patterns 3
    7 ∷ 0 ∷ 1 ∷ 0 ∷ 1 ∷ 0 ∷ 1 ∷ 0 ∷
    -- pattern 3: constructor 1
    7 ∷ 0 ∷ 1 ∷ 0 ∷ 0 ∷ 0 ∷ 0 ∷ 0 ∷
    -- pattern 4: constructor 1 of patterns 5
    7 ∷ 0 ∷ 1 ∷ 0 ∷ 2 ∷ 0 ∷ 1 ∷ 0 ∷
    -- pattern 5: constructor 2
    7 ∷ 0 ∷ 2 ∷ 0 ∷ 0 ∷ 0 ∷ 0 ∷ 0 ∷
    -- pattern 6: constructor 0 of patterns 7
    7 ∷ 0 ∷ 0 ∷ 0 ∷ 3 ∷ 0 ∷ 1 ∷ 0 ∷
    -- pattern 7: constructor 0
    7 ∷ 0 ∷ 0 ∷ 0 ∷ 0 ∷ 0 ∷ 0 ∷ 0 ∷
    -- pattern 8: constructor 0 of patterns 9
    7 ∷ 0 ∷ 0 ∷ 0 ∷ 4 ∷ 0 ∷ 1 ∷ 0 ∷
    -- pattern 9: constructor 1
    7 ∷ 0 ∷ 1 ∷ 0 ∷ 0 ∷ 0 ∷ 0 ∷ 0 ∷
    -- the child list
    1 ∷ 0 ∷ 3 ∷ 0 ∷ 5 ∷ 0 ∷ 7 ∷ 0 ∷ 9 ∷ 0 ∷
    -- the clauses' roots
    0 ∷ 0 ∷ 2 ∷ 0 ∷ 4 ∷ 0 ∷ 6 ∷ 0 ∷ 8 ∷ 0 ∷
    -- the seven starts, the subject's type, the length
    0 ∷ 0 ∷ 18 ∷ 0 ∷ 46 ∷ 0 ∷ 50 ∷ 0 ∷ 130 ∷ 0 ∷ 140 ∷ 0 ∷ 150 ∷ 0 ∷ 0 ∷ 0 ∷ 168 ∷ 0 ∷ []

all_ways_accepted : verdict all_ways ≡ accepted
unfolding verdict
all_ways_accepted = refl

all_ways_covered : lowest_gap all_ways (sheet_tree all_ways) ≡ none
unfolding lowest_gap sheet_tree
all_ways_covered = refl

-- [], [_, ..]
abbrev every_length : List ℕ
every_length =
    -- type 0: List of type 1
    2 ∷ 0 ∷ 0 ∷ 0 ∷ 1 ∷ 0 ∷
    -- type 1: Int
    0 ∷ 0 ∷ 0 ∷ 0 ∷ 0 ∷ 0 ∷
    -- the type list
    1 ∷ 0 ∷
    -- pattern 0: list
    5 ∷ 0 ∷ 0 ∷ 0 ∷ 0 ∷ 0 ∷ 0 ∷ 0 ∷
    -- pattern 1: list with tail of patterns 2, 3
    6 ∷ 0 ∷ 0 ∷ 0 ∷ 0 ∷ 0 ∷ 2 ∷ 0 ∷
    -- pattern 2: discard
    0 ∷ 0 ∷ 0 ∷ 0 ∷ 0 ∷ 0 ∷ 0 ∷ 0 ∷
    -- pattern 3: discard
    0 ∷ 0 ∷ 0 ∷ 0 ∷ 0 ∷ 0 ∷ 0 ∷ 0 ∷
    -- the child list
    2 ∷ 0 ∷ 3 ∷ 0 ∷
    -- the clauses' roots
    0 ∷ 0 ∷ 1 ∷ 0 ∷
    -- the seven starts, the subject's type, the length
    0 ∷ 0 ∷ 12 ∷ 0 ∷ 12 ∷ 0 ∷ 14 ∷ 0 ∷ 46 ∷ 0 ∷ 50 ∷ 0 ∷ 54 ∷ 0 ∷ 0 ∷ 0 ∷ 72 ∷ 0 ∷ []

every_length_accepted : verdict every_length ≡ accepted
unfolding verdict
every_length_accepted = refl

every_length_covered : lowest_gap every_length (sheet_tree every_length) ≡ none
unfolding lowest_gap sheet_tree
every_length_covered = refl

-- []: a length past every number falls out
abbrev only_empty : List ℕ
only_empty =
    -- type 0: List of type 1
    2 ∷ 0 ∷ 0 ∷ 0 ∷ 1 ∷ 0 ∷
    -- type 1: Int
    0 ∷ 0 ∷ 0 ∷ 0 ∷ 0 ∷ 0 ∷
    -- the type list
    1 ∷ 0 ∷
    -- pattern 0: list
    5 ∷ 0 ∷ 0 ∷ 0 ∷ 0 ∷ 0 ∷ 0 ∷ 0 ∷
    -- the clauses' roots
    0 ∷ 0 ∷
    -- the seven starts, the subject's type, the length
    0 ∷ 0 ∷ 12 ∷ 0 ∷ 12 ∷ 0 ∷ 14 ∷ 0 ∷ 22 ∷ 0 ∷ 22 ∷ 0 ∷ 24 ∷ 0 ∷ 0 ∷ 0 ∷ 42 ∷ 0 ∷ []

only_empty_accepted : verdict only_empty ≡ accepted
unfolding verdict
only_empty_accepted = refl

only_empty_gap : lowest_gap only_empty (sheet_tree only_empty) ≡ some 1
unfolding lowest_gap sheet_tree
only_empty_gap = refl

only_empty_way : way_to only_empty (sheet_tree only_empty) 1 ≡ []
unfolding way_to sheet_tree
only_empty_way = refl

-- [], [_, _, ..]
abbrev short_list : List ℕ
short_list =
    -- type 0: List of type 1
    2 ∷ 0 ∷ 0 ∷ 0 ∷ 1 ∷ 0 ∷
    -- type 1: Int
    0 ∷ 0 ∷ 0 ∷ 0 ∷ 0 ∷ 0 ∷
    -- the type list
    1 ∷ 0 ∷
    -- pattern 0: list
    5 ∷ 0 ∷ 0 ∷ 0 ∷ 0 ∷ 0 ∷ 0 ∷ 0 ∷
    -- pattern 1: list with tail of patterns 2, 3, 4
    6 ∷ 0 ∷ 0 ∷ 0 ∷ 0 ∷ 0 ∷ 3 ∷ 0 ∷
    -- pattern 2: discard
    0 ∷ 0 ∷ 0 ∷ 0 ∷ 0 ∷ 0 ∷ 0 ∷ 0 ∷
    -- pattern 3: discard
    0 ∷ 0 ∷ 0 ∷ 0 ∷ 0 ∷ 0 ∷ 0 ∷ 0 ∷
    -- pattern 4: discard
    0 ∷ 0 ∷ 0 ∷ 0 ∷ 0 ∷ 0 ∷ 0 ∷ 0 ∷
    -- the child list
    2 ∷ 0 ∷ 3 ∷ 0 ∷ 4 ∷ 0 ∷
    -- the clauses' roots
    0 ∷ 0 ∷ 1 ∷ 0 ∷
    -- the seven starts, the subject's type, the length
    0 ∷ 0 ∷ 12 ∷ 0 ∷ 12 ∷ 0 ∷ 14 ∷ 0 ∷ 54 ∷ 0 ∷ 60 ∷ 0 ∷ 64 ∷ 0 ∷ 0 ∷ 0 ∷ 82 ∷ 0 ∷ []

short_list_accepted : verdict short_list ≡ accepted
unfolding verdict
short_list_accepted = refl

short_list_gap : lowest_gap short_list (sheet_tree short_list) ≡ some 1
unfolding lowest_gap sheet_tree
short_list_gap = refl

short_list_way : way_to short_list (sheet_tree short_list) 1 ≡ []
unfolding way_to sheet_tree
short_list_way = refl

-- [A, ..], [_, _, ..], [_], []: no length takes the first tail case
abbrev unused_tail : List ℕ
unused_tail =
    -- type 0: List of type 1
    2 ∷ 0 ∷ 0 ∷ 0 ∷ 1 ∷ 0 ∷
    -- type 1: Data, constructors 0 to 1
    5 ∷ 0 ∷ 0 ∷ 0 ∷ 2 ∷ 0 ∷
    -- constructor 0: no field
    0 ∷ 0 ∷ 0 ∷ 0 ∷
    -- constructor 1: no field
    0 ∷ 0 ∷ 0 ∷ 0 ∷
    -- the type list
    1 ∷ 0 ∷
    -- pattern 0: list with tail of patterns 1, 2
    6 ∷ 0 ∷ 0 ∷ 0 ∷ 0 ∷ 0 ∷ 2 ∷ 0 ∷
    -- pattern 1: constructor 0
    7 ∷ 0 ∷ 0 ∷ 0 ∷ 0 ∷ 0 ∷ 0 ∷ 0 ∷
    -- pattern 2: discard
    0 ∷ 0 ∷ 0 ∷ 0 ∷ 0 ∷ 0 ∷ 0 ∷ 0 ∷
    -- pattern 3: list with tail of patterns 4, 5, 6
    6 ∷ 0 ∷ 0 ∷ 0 ∷ 2 ∷ 0 ∷ 3 ∷ 0 ∷
    -- pattern 4: discard
    0 ∷ 0 ∷ 0 ∷ 0 ∷ 0 ∷ 0 ∷ 0 ∷ 0 ∷
    -- pattern 5: discard
    0 ∷ 0 ∷ 0 ∷ 0 ∷ 0 ∷ 0 ∷ 0 ∷ 0 ∷
    -- pattern 6: discard
    0 ∷ 0 ∷ 0 ∷ 0 ∷ 0 ∷ 0 ∷ 0 ∷ 0 ∷
    -- pattern 7: list of patterns 8
    5 ∷ 0 ∷ 0 ∷ 0 ∷ 5 ∷ 0 ∷ 1 ∷ 0 ∷
    -- pattern 8: discard
    0 ∷ 0 ∷ 0 ∷ 0 ∷ 0 ∷ 0 ∷ 0 ∷ 0 ∷
    -- pattern 9: list
    5 ∷ 0 ∷ 0 ∷ 0 ∷ 0 ∷ 0 ∷ 0 ∷ 0 ∷
    -- the child list
    1 ∷ 0 ∷ 2 ∷ 0 ∷ 4 ∷ 0 ∷ 5 ∷ 0 ∷ 6 ∷ 0 ∷ 8 ∷ 0 ∷
    -- the clauses' roots
    0 ∷ 0 ∷ 3 ∷ 0 ∷ 7 ∷ 0 ∷ 9 ∷ 0 ∷
    -- the seven starts, the subject's type, the length
    0 ∷ 0 ∷ 12 ∷ 0 ∷ 20 ∷ 0 ∷ 22 ∷ 0 ∷ 102 ∷ 0 ∷ 114 ∷ 0 ∷ 122 ∷ 0 ∷ 0 ∷ 0 ∷ 140 ∷ 0 ∷ []

unused_tail_accepted : verdict unused_tail ≡ accepted
unfolding verdict
unused_tail_accepted = refl

unused_tail_covered : lowest_gap unused_tail (sheet_tree unused_tail) ≡ none
unfolding lowest_gap sheet_tree
unused_tail_covered = refl

-- [A, ..], [_, _, ..], []
abbrev used_tail : List ℕ
used_tail =
    -- type 0: List of type 1
    2 ∷ 0 ∷ 0 ∷ 0 ∷ 1 ∷ 0 ∷
    -- type 1: Data, constructors 0 to 1
    5 ∷ 0 ∷ 0 ∷ 0 ∷ 2 ∷ 0 ∷
    -- constructor 0: no field
    0 ∷ 0 ∷ 0 ∷ 0 ∷
    -- constructor 1: no field
    0 ∷ 0 ∷ 0 ∷ 0 ∷
    -- the type list
    1 ∷ 0 ∷
    -- pattern 0: list with tail of patterns 1, 2
    6 ∷ 0 ∷ 0 ∷ 0 ∷ 0 ∷ 0 ∷ 2 ∷ 0 ∷
    -- pattern 1: constructor 0
    7 ∷ 0 ∷ 0 ∷ 0 ∷ 0 ∷ 0 ∷ 0 ∷ 0 ∷
    -- pattern 2: discard
    0 ∷ 0 ∷ 0 ∷ 0 ∷ 0 ∷ 0 ∷ 0 ∷ 0 ∷
    -- pattern 3: list with tail of patterns 4, 5, 6
    6 ∷ 0 ∷ 0 ∷ 0 ∷ 2 ∷ 0 ∷ 3 ∷ 0 ∷
    -- pattern 4: discard
    0 ∷ 0 ∷ 0 ∷ 0 ∷ 0 ∷ 0 ∷ 0 ∷ 0 ∷
    -- pattern 5: discard
    0 ∷ 0 ∷ 0 ∷ 0 ∷ 0 ∷ 0 ∷ 0 ∷ 0 ∷
    -- pattern 6: discard
    0 ∷ 0 ∷ 0 ∷ 0 ∷ 0 ∷ 0 ∷ 0 ∷ 0 ∷
    -- pattern 7: list
    5 ∷ 0 ∷ 0 ∷ 0 ∷ 0 ∷ 0 ∷ 0 ∷ 0 ∷
    -- the child list
    1 ∷ 0 ∷ 2 ∷ 0 ∷ 4 ∷ 0 ∷ 5 ∷ 0 ∷ 6 ∷ 0 ∷
    -- the clauses' roots
    0 ∷ 0 ∷ 3 ∷ 0 ∷ 7 ∷ 0 ∷
    -- the seven starts, the subject's type, the length
    0 ∷ 0 ∷ 12 ∷ 0 ∷ 20 ∷ 0 ∷ 22 ∷ 0 ∷ 86 ∷ 0 ∷ 96 ∷ 0 ∷ 102 ∷ 0 ∷ 0 ∷ 0 ∷ 120 ∷ 0 ∷ []

used_tail_accepted : verdict used_tail ≡ accepted
unfolding verdict
used_tail_accepted = refl

used_tail_gap : lowest_gap used_tail (sheet_tree used_tail) ≡ some 5
unfolding lowest_gap sheet_tree
used_tail_gap = refl

used_tail_way : way_to used_tail (sheet_tree used_tail) 5 ≡ record { node = 2; branch = 2 } ∷ []
unfolding way_to sheet_tree
used_tail_way = refl

-- ---- 15
-- an Int; a Pair of itself that nothing uses
abbrev unused_pair : List ℕ
unused_pair =
    -- type 0: Int
    0 ∷ 0 ∷ 0 ∷ 0 ∷ 0 ∷ 0 ∷
    -- type 1: Pair of types 1, 1
    3 ∷ 0 ∷ 0 ∷ 0 ∷ 2 ∷ 0 ∷
    -- the type list
    1 ∷ 0 ∷ 1 ∷ 0 ∷
    -- pattern 0: discard
    0 ∷ 0 ∷ 0 ∷ 0 ∷ 0 ∷ 0 ∷ 0 ∷ 0 ∷
    -- the clauses' roots
    0 ∷ 0 ∷
    -- the seven starts, the subject's type, the length
    0 ∷ 0 ∷ 12 ∷ 0 ∷ 12 ∷ 0 ∷ 16 ∷ 0 ∷ 24 ∷ 0 ∷ 24 ∷ 0 ∷ 26 ∷ 0 ∷ 0 ∷ 0 ∷ 44 ∷ 0 ∷ []

unused_pair_hollow : hollow_type unused_pair ≡ some 1
unfolding hollow_type
unused_pair_hollow = refl

-- a List of a Pair of itself
abbrev list_of_pairs : List ℕ
list_of_pairs =
    -- type 0: List of type 1
    2 ∷ 0 ∷ 0 ∷ 0 ∷ 1 ∷ 0 ∷
    -- type 1: Pair of types 1, 1
    3 ∷ 0 ∷ 1 ∷ 0 ∷ 2 ∷ 0 ∷
    -- the type list
    1 ∷ 0 ∷ 1 ∷ 0 ∷ 1 ∷ 0 ∷
    -- pattern 0: discard
    0 ∷ 0 ∷ 0 ∷ 0 ∷ 0 ∷ 0 ∷ 0 ∷ 0 ∷
    -- the clauses' roots
    0 ∷ 0 ∷
    -- the seven starts, the subject's type, the length
    0 ∷ 0 ∷ 12 ∷ 0 ∷ 12 ∷ 0 ∷ 18 ∷ 0 ∷ 26 ∷ 0 ∷ 26 ∷ 0 ∷ 28 ∷ 0 ∷ 0 ∷ 0 ∷ 46 ∷ 0 ∷ []

list_of_pairs_hollow : hollow_type list_of_pairs ≡ some 1
unfolding hollow_type
list_of_pairs_hollow = refl

P11_filled : hollow_type sheet11 ≡ none
unfolding hollow_type sheet_file_of
P11_filled = refl
