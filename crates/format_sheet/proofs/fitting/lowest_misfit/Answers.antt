use Rattle.std.proofs.Common.{ℕ, List, ◌≡◌, ◌∙◌, rules}
use Rattle.std.proofs.Math.Path.{refl}
use Rattle.spec_rules.specs.Searching.{lowest}
use Rattle.spec_rules.specs.SheetFile.{clauses}
use Rattle.spec_rules.specs.SheetRefusals.{misfit, lowest_misfit}
use Rattle.spec_rules.specs.Found.{found}
use Rattle.spec_rules.proofs.Ranges.{find_below, kept_by_map}
use Rattle.format_sheet.specs.SectionsLaws.{mapped}
use Rattle.format_sheet.proofs.fitting.lowest_misfit.Goals as goal

-- opened here, so that fitting stays closed where each call is looked at
opened : (s : List ℕ) → found (lowest (misfit s) 0 (clauses s)) ≡ found (lowest_misfit s)
unfolding lowest_misfit
opened s = refl

pub returns : goal.returns
returns c =
    let a = c.args in
    kept_by_map c.find.result c.map.result c.map.ensures.cases (λ x y e. search rules)
    ∙ find_below (misfit a.sheet.now) _ (clauses a.sheet.now) c.find.ensures.ran refl (mapped a.sheet.now a.map c.requires.is_map).of_clauses (λ x b q e. search rules)
    ∙ opened a.sheet.now
