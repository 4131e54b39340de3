-- Each way out of a call, packed: from what the code has answered to the rules' answer.
-- Rests on Packed, and for the bounds of a text on what an accepted panel gives.
use Rattle.std.specs.Prelude.{◌≡◌, refl, Bool, true, false, Some, None, Ok, Err, List, ℕ, ◌+◌, ◌<◌}
use Rattle.std.proofs.Common.{◌∙◌, arith, ltb-true, leb-true}
use Rattle.std.proofs.Math.Path.{ap}
use Rattle.base_words.specs.WordsLaws.{both_true}
use Rattle.spec_rules.specs.RefusalNumbers.{stuck_refusal, no_text_refusal}
use Rattle.spec_rules.specs.PanelFile.{record_first, record_count, panel_pool_at}
use Rattle.spec_rules.specs.SheetRefusals.{Verdict, accepted, refused, require}
use Rattle.spec_rules.specs.PanelFile.{panel_verdict}
use Rattle.spec_rules.specs.Calls.{Answer, answers, refuses, unless, BuildCall, WalkCall, Span, text_call, has_text}
use Rattle.spec_accepted.specs.PanelFacts.{PanelAccepted, accepted_panel, panel_text_inside}
use Rattle.format_parts.specs.declared.refusals.Refusal.{Refusal}
use Rattle.format_parts.specs.Refusals.{number_of}
use Rattle.walk.specs.declared.Leaf.{Leaf}
use Rattle.walk.specs.declared.WalkError.TheVariants.{Refused, Stuck}
use Rattle.walk.specs.Answers.{call_of}
use Rattle.build_call.specs.declared.BuiltTree.{BuiltTree}
use Rattle.build_call.specs.Answers.{call_of as build_of}
use Rattle.dewmycel.specs.Packed.{packed, packed_build, packed_fit, packed_walk, packed_text}
use Rattle.dewmycel.specs.Face.{BuildFace, WalkFace}

-- ---- packed: y is the word, and r a refusal
abbrev packs : ℕ → Refusal → Type 0
packs y r = y ≡ packed (number_of r.reason) r.place 0 0

pub fits_packed : {w : Verdict} → accepted ≡ w → 0 ≡ packed_fit w
unfolding packed_fit
fits_packed is = ap packed_fit is

pub unfit_packed : {w : Verdict} (r : Refusal) (y : ℕ) → refused (number_of r.reason) r.place ≡ w → packs y r → y ≡ packed_fit w
unfolding packed_fit
unfit_packed r y is p = p ∙ ap packed_fit is

pub text_packed : {a : Answer Span} (x : Span) (y : ℕ) → answers x ≡ a → y ≡ packed 0 x.start x.count 0 → y ≡ packed_text a
unfolding packed_text
text_packed x y is p = p ∙ ap packed_text is

pub no_text_packed : {a : Answer Span} (r : Refusal) (y : ℕ) → refuses (number_of r.reason) r.place ≡ a → packs y r → y ≡ packed_text a
unfolding packed_text
no_text_packed r y is p = p ∙ ap packed_text is

module _ {tree work : List ℕ} {call : BuildCall} where
  pub tree_packed : (t : BuiltTree) (y : ℕ) → build_of (Ok t) tree work ≡ call → y ≡ packed 0 t.length t.nodes t.bindings → BuildFace y tree work call
  unfolding packed_build
  tree_packed t y is p = record {
    answer = p ∙ ap (λ (x : BuildCall). packed_build x.answer) is;
    tree_bytes = ap (λ (x : BuildCall). x.tree) is;
    work_bytes = ap (λ (x : BuildCall). x.work) is;
  }

  pub unbuilt_packed : (r : Refusal) (y : ℕ) → build_of (Err r) tree work ≡ call → packs y r → BuildFace y tree work call
  unfolding packed_build
  unbuilt_packed r y is p = record {
    answer = p ∙ ap (λ (x : BuildCall). packed_build x.answer) is;
    tree_bytes = ap (λ (x : BuildCall). x.tree) is;
    work_bytes = ap (λ (x : BuildCall). x.work) is;
  }

module _ {l : List ℕ} {call : WalkCall} where
  pub leaf_packed : (leaf : Leaf) (y : ℕ) → call_of (Ok (Some leaf)) l ≡ call → y ≡ packed 0 leaf.clause leaf.count 1 → WalkFace y l call
  unfolding packed_walk
  leaf_packed leaf y is p = record { answer = p ∙ ap (λ (x : WalkCall). packed_walk x.answer) is; words = ap (λ (x : WalkCall). x.bound) is }

  pub no_leaf_packed : call_of (Ok None) l ≡ call → WalkFace 0 l call
  unfolding packed_walk
  no_leaf_packed is = record { answer = ap (λ (x : WalkCall). packed_walk x.answer) is; words = ap (λ (x : WalkCall). x.bound) is }

  pub stuck_packed : (node step y : ℕ) → call_of (Err (Stuck node step)) l ≡ call → y ≡ packed stuck_refusal node step 0 → WalkFace y l call
  unfolding packed_walk
  stuck_packed node step y is p = record { answer = p ∙ ap (λ (x : WalkCall). packed_walk x.answer) is; words = ap (λ (x : WalkCall). x.bound) is }

  pub unwalked_packed : (r : Refusal) (y : ℕ) → call_of (Err (Refused r)) l ≡ call → packs y r → WalkFace y l call
  unfolding packed_walk
  unwalked_packed r y is p = record { answer = p ∙ ap (λ (x : WalkCall). packed_walk x.answer) is; words = ap (λ (x : WalkCall). x.bound) is }

-- ---- a text lies inside its panel, so a word holds where it starts and how long it is
pub record Within (x : Span) : Type 0 where
  pub start_word : x.start < 65536
  pub count_word : x.count < 65536

pub text_within : (v : List ℕ) (place dropped : ℕ) (x : Span) → text_call v place dropped ≡ answers x → Within x
unfolding text_call has_text
text_within v place dropped x e = verdict_first (panel_verdict v) refl e
  where
    span : Span
    span = record { start = panel_pool_at v + record_first v place; count = record_count v place }

    inside : PanelAccepted v → has_text v place dropped ≡ true → Within span
    inside ok h =
        let b = both_true _ _ h in
        let k = both_true _ _ b.1 in
        let l = ltb-true _ _ b.0 in
        let run = ok.is_shaped.text_run place l (leb-true _ _ k.0) in
        let room = panel_text_inside ok.is_laid (record_first v place) (record_count v place) run.inside in
        record { start_word = omega (arith, ok.is_laid.length_most, room); count_word = omega (arith, ok.is_laid.length_most, room) }

    has_text_lem : PanelAccepted v → (b : Bool) → has_text v place dropped ≡ b → unless (require b no_text_refusal accepted) (answers span) ≡ answers x → Within x
    has_text_lem ok true h d = let s : span ≡ x = cc in rw⁻¹ s (inside ok h)
    has_text_lem ok false h d = let z : ◌≡◌ {A = ℕ} 0 1 = cc in absurd (omega arith)

    verdict_first : (w : Verdict) → panel_verdict v ≡ w → unless w (unless (require (has_text v place dropped) no_text_refusal accepted) (answers span)) ≡ answers x → Within x
    verdict_first accepted h d = has_text_lem (accepted_panel v h) (has_text v place dropped) refl d
    verdict_first (refused number p) h d = let z : ◌≡◌ {A = ℕ} 0 1 = cc in absurd (omega arith)
