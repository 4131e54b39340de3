-- Verdicts one after the other: what accepts, and that `verdict` tries 01's ten refusals of a sheet in their order.
use Rattle.std.specs.Prelude.{ℕ, ◌≡◌, refl, Bool, true, false, List}
use Rattle.std.proofs.Math.Option.{Option, none, some}
use Rattle.spec_rules.specs.RefusalNumbers.{length_refusal, layout_refusal, no_clause_refusal, count_refusal, types_refusal, transparent_refusal, shape_refusal, text_refusal, misfit_refusal, name_twice_refusal}
use Rattle.spec_rules.specs.SheetRefusals.{length_fits, layout_fits, has_clause, counts_fit, types_fit, lowest_transparent, shape_fits, lowest_bad_text, lowest_misfit, lowest_name_twice, Verdict, accepted, refused, require, require_none, and_then, readable_verdict, transparent_verdict, shape_verdict, clauses_verdict, verdict}

-- a verdict that accepts passed its first test, and the rest accepts
pub require_accepted : (test : Bool) (number : ℕ) (rest : Verdict) → require test number rest ≡ accepted → (test ≡ true) × (rest ≡ accepted)
require_accepted true number rest h = (refl, h)
require_accepted false number rest h = (cc, cc)

pub require_none_accepted : (found : Option ℕ) (number : ℕ) (rest : Verdict) → require_none found number rest ≡ accepted → (found ≡ none) × (rest ≡ accepted)
require_none_accepted none number rest h = (refl, h)
require_none_accepted (some place) number rest h = (cc, cc)

pub and_then_accepted : (v w : Verdict) → and_then v w ≡ accepted → (v ≡ accepted) × (w ≡ accepted)
and_then_accepted accepted w h = (refl, h)
and_then_accepted (refused number place) w h = (cc, cc)

-- what follows a verdict of several tests follows its last
require_then : (test : Bool) (number : ℕ) (rest next : Verdict) → and_then (require test number rest) next ≡ require test number (and_then rest next)
require_then true number rest next = refl
require_then false number rest next = refl

require_none_then : (found : Option ℕ) (number : ℕ) (rest next : Verdict) → and_then (require_none found number rest) next ≡ require_none found number (and_then rest next)
require_none_then none number rest next = refl
require_none_then (some place) number rest next = refl

-- "in the order they are tried"
pub verdict_in_order : (s : List ℕ)
    → verdict s
    ≡ require (length_fits s) length_refusal
    (require (layout_fits s) layout_refusal
    (require (has_clause s) no_clause_refusal
    (require (counts_fit s) count_refusal
    (require (types_fit s) types_refusal
    (require_none (lowest_transparent s) transparent_refusal
    (require (shape_fits s) shape_refusal
    (require_none (lowest_bad_text s) text_refusal
    (require_none (lowest_misfit s) misfit_refusal
    (require_none (lowest_name_twice s) name_twice_refusal
    accepted)))))))))
unfolding verdict readable_verdict transparent_verdict shape_verdict clauses_verdict
verdict_in_order s = simp (require_then, require_none_then)
