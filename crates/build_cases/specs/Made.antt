-- What is told of the cases of a column once both passes are done: their records, those without a tail first, or that there are more
-- than there is room for. MadeLaws has that two passes make this.
use Rattle.std.specs.Prelude.{◌≡◌, Option, Some, None, List, ◌++◌, map, ℕ, ◌+◌, ◌*◌, ◌≤◌, ◌<◌, length}
use Rattle.base_words.specs.Stored.{stored}
use Rattle.spec_rules.specs.Limits.{nodes_most, bindings_most, case_size}
use Rattle.spec_rules.specs.Patterns.{Pat}
use Rattle.spec_rules.specs.Splitting.{Met, cases_of}
use Rattle.spec_rules.specs.SplittingLaws.{All}
use Rattle.spec_rules.specs.Building.{has_list}
use Rattle.spec_match.specs.Depth.{only, is_tail, is_exact}
use Rattle.build_arena.specs.Arena.{cases_start, cases_most}
use Rattle.build_arena.specs.WritingLaws.{Kept}
use Rattle.build_table.specs.Standing.{pattern_of}
use Rattle.build_cases.specs.declared.CasesMet.{CasesMet}
use Rattle.build_cases.specs.Passes.{case_records}
use Rattle.build_cases.specs.SoFar.{InSheet}

-- a column by the numbers of its tests
abbrev pub column_of : List ℕ → List ℕ → List Pat
column_of s ps = map (pattern_of s) ps

-- the cases of a column of the patterns qs, in the order of their records
abbrev pub exact_cases : List Pat → List Met
exact_cases qs = only is_exact (cases_of qs)

abbrev pub tail_cases : List Pat → List Met
tail_cases qs = only is_tail (cases_of qs)

-- they are met, from case `first` on
pub record CasesMade (s : List ℕ) (qs : List Pat) (first : ℕ) (w w' : List ℕ) (c : CasesMet) : Type 0 where
  pub mid_is : c.mid ≡ first + length (exact_cases qs)
  pub end_is : c.end ≡ c.mid + length (tail_cases qs)
  pub list_is : c.list ≡ has_list qs
  pub small : c.end < cases_most
  pub each : All (InSheet s) (exact_cases qs ++ tail_cases qs)
  pub written : w' ≡ stored w (cases_start + case_size * first) (case_records (exact_cases qs ++ tail_cases qs))

-- there are too many: what is not a case from `first` on is as it was
pub record CasesPast (qs : List Pat) (first : ℕ) (w w' : List ℕ) : Type 0 where
  pub more : cases_most ≤ first + length (cases_of qs)
  pub kept : Kept nodes_most first bindings_most w w'

abbrev pub MeetsTo : List ℕ → List Pat → ℕ → List ℕ → List ℕ → Option CasesMet → Type 0
MeetsTo s qs first w w' (Some c) = CasesMade s qs first w w' c
MeetsTo s qs first w w' None = CasesPast qs first w w'
