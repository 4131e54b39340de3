-- The fit check, one condition after the other, and what it goes on with.
-- Rests on what an accepted sheet and an accepted panel give.
use Rattle.std.specs.Prelude.{◌≡◌, List, ℕ}
use Rattle.std.proofs.Common.{sym}
use Rattle.spec_rules.specs.RefusalNumbers.{panel_misfit_refusal}
use Rattle.spec_rules.specs.SheetRefusals.{Verdict, accepted, refused, require, verdict}
use Rattle.spec_rules.specs.PanelFile.{panel_verdict}
use Rattle.spec_rules.specs.Fitting.{panel_fits}
use Rattle.spec_rules.specs.Calls.{fit_call}
use Rattle.spec_accepted.specs.SheetFacts.{accepted_sheet}
use Rattle.spec_accepted.specs.PanelFacts.{accepted_panel}
use Rattle.format_sheet.specs.declared.SheetMap.{SheetMap}
use Rattle.format_sheet.specs.Sections.{map_of as sheet_map_of}
use Rattle.format_panel.specs.declared.PanelMap.{PanelMap}
use Rattle.format_panel.specs.Opened.{map_of}
use Rattle.format_panel.specs.AnswersLaws.{accepts, accepts_opened}
use Rattle.fit.specs.Fit.{ReadyToFit}

module _ (s v : List ℕ) where
  pub fit_sheet_refused : {number place : ℕ} → refused number place ≡ verdict s → refused number place ≡ fit_call s v
  unfolding fit_call
  fit_sheet_refused e = rw (← e)

  module _ (sheet : accepted ≡ verdict s) where
    pub fit_panel_refused : {number place : ℕ} → refused number place ≡ panel_verdict v → refused number place ≡ fit_call s v
    unfolding fit_call
    fit_panel_refused e = rw (← sheet, ← e)

    module _ (panel : accepted ≡ panel_verdict v) where
      pub fit_last : {w : Verdict} → w ≡ require (panel_fits s v) panel_misfit_refusal accepted → w ≡ fit_call s v
      unfolding fit_call
      fit_last e = rw (← sheet, ← panel, e)

      pub fit_ready : (sm : SheetMap) (vm : PanelMap) → sm ≡ sheet_map_of s → vm ≡ map_of v → ReadyToFit s sm v vm
      fit_ready sm vm sheet_is panel_is =
          let a = accepted_sheet s (sym sheet) in
          record {
            sheet_laid = a.is_laid;
            sheet_map = sheet_is;
            is_typed = a.is_typed;
            is_open = accepts_opened v vm (accepts panel panel_is);
            is_shaped = (accepted_panel v (sym panel)).is_shaped;
          }
