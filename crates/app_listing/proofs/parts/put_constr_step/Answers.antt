use Rattle.app_listing.specs.WritingLaws.{writes_then, writes_as}
use Rattle.app_listing.specs.RecordsLaws.{constr_flag, constr_no_flag}
use Rattle.spec_rules.specs.Listing.{constr_step_word, decimal}
use mathlib.Core.List.{List, ◌++◌}
use Prim.Native.Nat.{ℕ}
use mathlib.Core.Path.{ap}
use Rattle.app_listing.proofs.parts.put_constr_step.Goals as goal

pub returns-then-flag-eq1 : goal.returns-then-flag-eq1
returns-then-flag-eq1 c = writes_as (writes_then c.put_numbered-end.ensures c.put_text.ensures)
    (ap (λ (l : List ℕ). constr_step_word ++ (decimal c.args.index ++ l)) (constr_flag _ c.if-flag-eq1.true))

pub returns : goal.returns
returns c = writes_as (writes_then c.put_numbered-end.ensures c.put_text-2.ensures)
    (ap (λ (l : List ℕ). constr_step_word ++ (decimal c.args.index ++ l)) (constr_no_flag _ c.if-flag-eq1.false))
