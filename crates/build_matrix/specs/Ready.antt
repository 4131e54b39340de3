-- What the functions of a matrix ask: an accepted sheet with its map and its table, classes of that sheet in order with room for
-- what is put among them, and patterns there; and what a pattern gives to the columns of a row.
use Rattle.std.specs.Prelude.{Bool, true, List, [], ◌∷◌, ◌≡◌, ℕ, ◌+◌, ◌≤◌, ◌<◌, length}
use Rattle.base_words.specs.Words.{pick}
use Rattle.spec_rules.specs.Limits.{patterns_most}
use Rattle.spec_rules.specs.SheetFile.{patterns, pattern_first, pattern_count}
use Rattle.spec_rules.specs.SplittingLaws.{All}
use Rattle.spec_accepted.specs.SheetFacts.{Parent}
use Rattle.format_sheet.specs.declared.SheetMap.{SheetMap}
use Rattle.build_table.specs.Standing.{class_of, is_test}
use Rattle.build_table.specs.Table.{table_size}
use Rattle.format_sheet.specs.Check.{SheetAccepts}
use Rattle.build_table.specs.Tabled.{Tabled}
use Rattle.build_table.specs.Seen.{tests_of, tests_of_each}
use Rattle.build_matrix.specs.declared.Classes.{Classes}
use Rattle.build_matrix.specs.declared.columns.Given.{Given}
use Rattle.build_matrix.specs.declared.columns.Given.TheVariants.{Nothing, Itself, Inside}
use Rattle.build_matrix.specs.Live.{IsClass}
use Rattle.build_matrix.specs.Lists.{classes_in, Whole}
use Rattle.build_matrix.specs.Ordered.{put_class, put_each, path_before}
use Rattle.build_matrix.specs.Reading.{first_in, Ranked}

pub record ReadyTable (s : List ℕ) (m : SheetMap) (t : List ℕ) : Type 0 where
  pub checked : SheetAccepts s m
  pub tabled : Tabled s t

pub record Listed (s : List ℕ) (o : Classes) : Type 0 where
  pub whole : Whole o
  pub each : All (IsClass s) (classes_in o)

-- classes whose order the table tells, and room for this one among them
pub record Puts (t : List ℕ) (o : Classes) (class : ℕ) : Type 0 where
  pub long : length t ≡ table_size
  pub whole : Whole o
  pub ranked : Ranked t class
  pub each : All (Ranked t) (classes_in o)
  pub room : length (put_class (first_in t) class (classes_in o)) ≤ patterns_most

-- the classes of tests put among others, the last first
abbrev pub put_tests : List ℕ → List ℕ → List ℕ → List ℕ
put_tests s tests classes = put_each (path_before s) (class_of s) tests classes

-- and room for them
abbrev pub Roomy : List ℕ → List ℕ → Classes → Type 0
Roomy s tests o = length (put_tests s tests (classes_in o)) ≤ patterns_most

-- n children of p from entry j on
pub record Children (s : List ℕ) (p j n : ℕ) : Type 0 where
  pub known : p < patterns s
  pub parent : Parent s p
  pub from : pattern_first s p ≤ j
  pub to : j + n ≤ pattern_first s p + pattern_count s p

-- the tests of p: none, itself in the column of its class, or those of its children
abbrev pub Gives : List ℕ → ℕ → Given → Type 0
Gives s p Nothing = tests_of s p ≡ []
Gives s p (Itself class) = (tests_of s p ≡ p ∷ []) × (class ≡ class_of s p)
Gives s p (Inside first count) = (tests_of s p ≡ tests_of_each s first count) × Children s p first count

abbrev pub itself_or_inside : Bool → ℕ → ℕ → ℕ → Given
itself_or_inside test class first count = pick test (Itself class) (Inside first count)

pub record TestKnown (s : List ℕ) (p : ℕ) : Type 0 where
  pub known : p < patterns s
  pub test : is_test s p ≡ true
