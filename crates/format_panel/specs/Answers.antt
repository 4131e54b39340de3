-- The answers of this crate's calls: what a check's map is, and the text call's answer for each case of the code's.
-- Rests on the verdicts and calls of the crate spec_rules.
use Rattle.std.specs.Prelude.{◌≡◌, List, ℕ, Result, Ok, Err}
use Rattle.spec_rules.specs.SheetRefusals.{accepted}
use Rattle.spec_rules.specs.PanelFile.{panel_verdict}
use Rattle.spec_rules.specs.Calls.{Answer, answers, refuses, Span}
use Rattle.format_parts.specs.declared.sections.Section.{Section}
use Rattle.format_parts.specs.declared.refusals.Refusal.{Refusal}
use Rattle.format_parts.specs.Refusals.{number_of}
use Rattle.format_panel.specs.declared.PanelMap.{PanelMap}
use Rattle.format_panel.specs.Opened.{map_of}

-- an accepted panel, with its map
pub record Accepts (v : List ℕ) (m : PanelMap) : Type 0 where
  pub verdict : panel_verdict v ≡ accepted
  pub map : m ≡ map_of v

-- the text call's answer: start and length in the file, or the refusal
abbrev pub span_of : Result Section Refusal → Answer Span
span_of (Ok x) = answers (record { start = x.start; count = x.count })
span_of (Err r) = refuses (number_of r.reason) r.place
