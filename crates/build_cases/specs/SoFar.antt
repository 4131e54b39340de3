-- The cases met so far in a pass, as records of the arena: what holds between two calls, and what a call that meets more of them says.
-- SoFarLaws has how one more case is met.
use Rattle.std.specs.Prelude.{◌≡◌, List, [], ◌∷◌, ℕ, ◌+◌, ◌*◌, ◌≤◌, length}
use Rattle.base_words.specs.Stored.{stored}
use Rattle.spec_rules.specs.Limits.{case_size}
use Rattle.spec_rules.specs.Splitting.{Met, meet}
use Rattle.spec_rules.specs.SplittingLaws.{All}
use Rattle.spec_file.specs.Writable.{test_kind}
use Rattle.spec_file.specs.RecordsLaws.{test_number, test_length}
use Rattle.build_arena.specs.Arena.{cases_start, cases_most, arena_end}
use Rattle.format_records.specs.declared.reading.Test as tests
use Rattle.format_records.specs.Records.{kind_of, number_of, length_of}
use Rattle.build_cases.specs.Passes.{up_to, case_records}
use Rattle.build_cases.specs.Fields.{test_in, start_in, Fit}

-- a case whose record's fields stand for it: its text is a part of the pool
pub record InSheet (s : List ℕ) (m : Met) : Type 0 where
  pub fit : Fit s (test_kind m.test) (test_number m.start m.test) (test_length m.test)
  pub meant : test_in s (test_kind m.test) (test_number m.start m.test) (test_length m.test) ≡ m.test

-- of the arena w₀ that a pass began with, w is what the records of the cases ms make, from case `from` up to case `to`
pub record SoFar (s w₀ : List ℕ) (from : ℕ) (ms : List Met) (to : ℕ) (w : List ℕ) : Type 0 where
  pub number : to ≡ from + length ms
  pub most : to ≤ cases_most
  pub room : arena_end ≤ length w₀
  pub each : All (InSheet s) ms
  pub written : w ≡ stored w₀ (cases_start + case_size * from) (case_records ms)

-- the cases from `from` up to `to` are those of a pass
pub record Begun (s w : List ℕ) (from to : ℕ) : Type 0 where
  pub mets : List Met
  pub so_far : SoFar s w from mets to w

-- what meeting one test makes of the cases met so far; a text by where it is in the pool
abbrev pub meet_one : List ℕ → ℕ → tests.Test → List Met → List Met
meet_one s from test ms = up_to from (meet (start_in (kind_of test) (number_of test)) ms (test_in s (kind_of test) (number_of test) (length_of test) ∷ []))

-- what a call makes of the cases met so far, whatever the pass began with: f of them
pub record Meets (s w : List ℕ) (from to : ℕ) (f : List Met → List Met) (next : ℕ) (w' : List ℕ) : Type 0 where
  pub after : (w₀ : List ℕ) (ms : List Met) → SoFar s w₀ from ms to w → SoFar s w₀ from (f ms) next w'
