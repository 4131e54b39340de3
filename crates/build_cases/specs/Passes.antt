-- The cases of a column by two passes, one for the cases without a tail and one for those with: each pass meets the tests of one sort
-- that a row joins. Rests on rule 4's meeting; PassesLaws has that the passes give the cases of one sort, in their order.
use Rattle.std.specs.Prelude.{ℕ, ◌-◌, Bool, true, false, List, [], ◌∷◌, ◌++◌, take}
use Rattle.spec_rules.specs.Patterns.{Pat}
use Rattle.spec_rules.specs.Splitting.{Test, Met, joined, text_start, meet}
use Rattle.spec_rules.specs.TreeFile.{case_bytes}
use Rattle.build_arena.specs.Arena.{cases_most}

-- the tests of one sort
unfoldable pub tests : (Test → Bool) → List Test → List Test
tests f [] = []
tests f (t ∷ ts) = elim (f t) [ true ↦ t ∷ tests f ts | false ↦ tests f ts ]

-- a row's test meets the cases of one sort that it joins
unfoldable pub meet_row : (Test → Bool) → ℕ → ℕ → List Met → Pat → List Met
unfolding tests joined text_start meet
meet_row f tailless tails ms q = meet (text_start q) ms (tests f (joined tailless tails q))

-- the pass down the rows
unfoldable pub meet_rows : (Test → Bool) → ℕ → ℕ → List Met → List Pat → List Met
unfolding meet_row
meet_rows f tailless tails ms [] = ms
meet_rows f tailless tails ms (q ∷ qs) = meet_rows f tailless tails (meet_row f tailless tails ms q) qs

-- as many as there is room for, from case `from` on
abbrev pub up_to : ℕ → List Met → List Met
up_to from ms = take (cases_most - from) ms

-- the records of cases whose children are not known yet
unfoldable pub case_records : List Met → List ℕ
unfolding case_bytes
case_records [] = []
case_records (m ∷ ms) = case_bytes m.test m.start 0 ++ case_records ms
