-- What the contracts say at length or more than once, in a word each: the column of a class, and what reading tests asks.
use Rattle.std.specs.Prelude.{List, ℕ, ◌≤◌}
use Rattle.spec_rules.specs.Patterns.{Pat}
use Rattle.spec_rules.specs.SplittingLaws.{All}
use Rattle.format_sheet.specs.declared.SheetMap.{SheetMap}
use Rattle.format_sheet.specs.Check.{SheetAccepts}
use Rattle.build_matrix.specs.HeldRows.{held_tests}
use Rattle.build_matrix.specs.Live.{live_in}
use Rattle.build_matrix.specs.Ready.{TestKnown}
use Rattle.build_cases.specs.declared.tests.Longest.{Longest}
use Rattle.build_cases.specs.Made.{column_of}

-- the column of a class in the rows of the clauses cs: the tests that are live there
abbrev pub live_column : List ℕ → List ℕ → ℕ → List ℕ → List Pat
live_column s opened class cs = column_of s (held_tests (live_in s opened class) cs)

-- an accepted sheet, and tests of it
abbrev pub TestsAsked : List ℕ → SheetMap → List ℕ → Type 0
TestsAsked s m tests = SheetAccepts s m × All (TestKnown s) tests

-- and longest lengths that a word can tell
abbrev pub PassAsked : List ℕ → SheetMap → List ℕ → Longest → Type 0
PassAsked s m tests l =
    SheetAccepts s m × All (TestKnown s) tests × (l.tailless ≤ 65536) × (l.tails ≤ 65536)
