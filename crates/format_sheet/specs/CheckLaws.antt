-- The check of a sheet: its conditions, one after the other, and what its answer says of the verdict.
use Rattle.std.specs.Prelude.{◌≡◌, refl, Bool, true, false, List, [], ◌∷◌, ℕ, ◌≤◌, leb, length, ltb, drop, get_or, zero, suc, Option}
use Rattle.std.proofs.Common.{ap, sym, ◌∙◌}
use Rattle.std.proofs.Math.Option.{Option as Lowest, none, some}
use Rattle.std.proofs.Math.Seq.{drop-nil}
use Rattle.spec_rules.specs.Found.{found, sought, sought_found}
use Rattle.base_words.specs.WordsLaws.{both_true}
use borrow.Author.Tests.{leb-true}
use Rattle.spec_rules.specs.Limits.{sheet_trailer}
use Rattle.spec_rules.specs.SheetRefusals.{Verdict, accepted, refused, require, require_none, and_then, length_fits, layout_fits, has_clause, counts_fit, types_fit, lowest_transparent, shape_fits, lowest_bad_text, lowest_misfit, lowest_name_twice, verdict}
use Rattle.spec_rules.specs.SheetRefusalsLaws.{verdict_in_order}
use Rattle.spec_rules.specs.RefusalNumbers.{length_refusal, layout_refusal, no_clause_refusal, count_refusal, types_refusal, transparent_refusal, shape_refusal, text_refusal, misfit_refusal, name_twice_refusal}
use Rattle.spec_accepted.specs.SheetFacts.{accepted_sheet}
use Rattle.format_sheet.specs.declared.SheetMap.{SheetMap}
use Rattle.format_sheet.specs.Sections.{map_of, few_enough}
use Rattle.format_sheet.specs.SectionsLaws.{few_enough_is}
use Rattle.format_sheet.specs.Check.{SheetAccepts}

pub long_enough : (s : List ℕ) → length_fits s ≡ true → sheet_trailer ≤ length s
unfolding length_fits
long_enough s h = leb-true sheet_trailer (length s) (both_true (leb sheet_trailer (length s)) _ h).0

-- ---- what the check says of a sheet that it accepts
pub sheet_accepts : (s : List ℕ) (m : SheetMap) → accepted ≡ verdict s → m ≡ map_of s → SheetAccepts s m
sheet_accepts s m told is_map = record { verdict = sym told; ok = accepted_sheet s (sym told); is_map = is_map }

-- ---- the conditions in their order: each by itself, and what is left of the verdict after the first k
abbrev pub conditions : List ℕ → List Verdict
conditions s =
    require (length_fits s) length_refusal accepted
    ∷ require (layout_fits s) layout_refusal accepted
    ∷ require (has_clause s) no_clause_refusal accepted
    ∷ require (counts_fit s) count_refusal accepted
    ∷ require (types_fit s) types_refusal accepted
    ∷ require_none (lowest_transparent s) transparent_refusal accepted
    ∷ require (shape_fits s) shape_refusal accepted
    ∷ require_none (lowest_bad_text s) text_refusal accepted
    ∷ require_none (lowest_misfit s) misfit_refusal accepted
    ∷ require_none (lowest_name_twice s) name_twice_refusal accepted
    ∷ []

abbrev in_order : List Verdict → Verdict
in_order [] = accepted
in_order (v ∷ vs) = and_then v (in_order vs)

abbrev pub Left : ℕ → List ℕ → Type 0
Left k s = verdict s ≡ in_order (drop k (conditions s))

require_then : (test : Bool) (number : ℕ) (rest : Verdict) → and_then (require test number accepted) rest ≡ require test number rest
require_then true number rest = refl
require_then false number rest = refl

require_none_then : (x : Lowest ℕ) (number : ℕ) (rest : Verdict) → and_then (require_none x number accepted) rest ≡ require_none x number rest
require_none_then none number rest = refl
require_none_then (some k) number rest = refl

last_then : (v : Verdict) → and_then v accepted ≡ v
last_then accepted = refl
last_then (refused number place) = refl

pub all_left : (s : List ℕ) → Left 0 s
all_left s = verdict_in_order s ∙ sym (simp (last_then, require_then, require_none_then))

one_more : (vs : List Verdict) (k : ℕ) → in_order (drop k vs) ≡ and_then (get_or vs k accepted) (in_order (drop (suc k) vs))
one_more [] k = ap in_order (drop-nil k)
one_more (v ∷ vs) zero = refl
one_more (v ∷ vs) (suc k) = one_more vs k

-- a condition as it was asked, and as the verdict asks it
pub tested : {r test : Bool} (number : ℕ) → r ≡ test → require r number accepted ≡ require test number accepted
tested number e = ap (λ x. require x number accepted) e

pub searched : {r : Option ℕ} (x : Lowest ℕ) (number : ℕ) → r ≡ found x → require_none (sought r) number accepted ≡ require_none x number accepted
searched x number e = ap (λ y. require_none y number accepted) (ap sought e ∙ sought_found x)

module _ (s : List ℕ) (k : ℕ) (left : Left k s) {w : Verdict} where
  next : w ≡ get_or (conditions s) k accepted → verdict s ≡ and_then w (in_order (drop (suc k) (conditions s)))
  next is = left ∙ one_more (conditions s) k ∙ ap (λ v. and_then v (in_order (drop (suc k) (conditions s)))) (sym is)

  pub goes_on : accepted ≡ w → w ≡ get_or (conditions s) k accepted → Left (suc k) s
  goes_on e is = rw (← e) at (next is)

  pub stops : {number place : ℕ} → refused number place ≡ w → w ≡ get_or (conditions s) k accepted → refused number place ≡ verdict s
  stops e is = sym (rw (← e) at (next is))

-- the condition held
pub held : (test : Bool) (number : ℕ) {w : Verdict} → accepted ≡ w → w ≡ require test number accepted → test ≡ true
held true number e g = refl
held false number e g = cc

pub few_enough_read : (s : List ℕ) {m : SheetMap} {r : Bool} → m ≡ map_of s → r ≡ few_enough m → r ≡ counts_fit s
few_enough_read s e g = g ∙ ap few_enough e ∙ few_enough_is s

pub has_clause_read : (s : List ℕ) {m : SheetMap} → m ≡ map_of s → ltb 0 m.clauses.count ≡ has_clause s
unfolding has_clause
has_clause_read s e = ap (λ (x : SheetMap). ltb 0 x.clauses.count) e
