-- The promises of the calls, which their contracts cite: an answer, with every writable buffer after it, fits the call.
--   s a sheet, t a tree, v a panel, n and m lengths of buffers; r the answer; tree, work, bound the buffers after the call
use Rattle.std.specs.Prelude.{◌≡◌, List, ℕ, Result}
use Rattle.spec_rules.specs.Calls.{build_call, fit_call, walk_call, text_call, text_part}
use Rattle.format_parts.specs.declared.refusals.Refusal.{Refusal}
use Rattle.format_parts.specs.declared.sections.Section.{Section}
use Rattle.format_parts.specs.Refusals.{verdict_of}
use Rattle.format_panel.specs.Answers.{span_of}
use Rattle.walk.specs.Answers.{Walked, call_of as walk_of}
use Rattle.build_call.specs.declared.BuiltTree.{BuiltTree}
use Rattle.build_call.specs.Answers.{call_of as build_of}

abbrev pub BuildFits : List ℕ → ℕ → ℕ → Result BuiltTree Refusal → List ℕ → List ℕ → Type 0
BuildFits s n m r tree work = build_of r tree work ≡ build_call s n m

abbrev pub FitFits : List ℕ → List ℕ → Result (Unit {0}) Refusal → Type 0
FitFits s v r = verdict_of r ≡ fit_call s v

abbrev pub WalkFits : List ℕ → List ℕ → ℕ → Walked → List ℕ → Type 0
WalkFits t v n r bound = walk_of r bound ≡ walk_call t v n

abbrev pub TextFits : List ℕ → ℕ → ℕ → Result Section Refusal → Type 0
TextFits v place dropped r = span_of r ≡ text_call v place dropped

-- the twin of the text call returns this part
abbrev pub PartFits : List ℕ → ℕ → ℕ → List ℕ → Type 0
PartFits v place dropped part = part ≡ text_part v place dropped
