-- What a sheet has that the check accepts.
use Rattle.std.specs.Prelude.{ℕ, ◌≡◌, List}
use Rattle.spec_rules.specs.SheetRefusals.{accepted, verdict}
use Rattle.spec_accepted.specs.SheetFacts.{Accepted as Accepted_sheet}
use Rattle.format_sheet.specs.declared.SheetMap.{SheetMap}
use Rattle.format_sheet.specs.Sections.{map_of}

-- an accepted sheet with what it has, and its map
pub record SheetAccepts (s : List ℕ) (m : SheetMap) : Type 0 where
  pub verdict : Rattle.spec_rules.specs.SheetRefusals.verdict s ≡ accepted
  pub ok : Accepted_sheet s
  pub is_map : m ≡ map_of s
