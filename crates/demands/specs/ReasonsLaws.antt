-- The reasons are the calls' own: a call's definition refuses with a number and a place exactly if there is such a reason.
-- Rests on the laws of the calls in crate spec_theorems.
use Rattle.std.proofs.Math.Path.{◌≡◌, refl}
use Rattle.std.proofs.Common.{sym, ap, ◌∙◌, inl, inr, arith, leb-true, leb-false}
use Rattle.std.specs.Prelude.{Bool, List, ℕ, ◌≤◌, leb}
use Rattle.std.proofs.Math.Bool.{true, false}
use Rattle.base_words.specs.Words.{both}
use Rattle.spec_rules.specs.Limits.{tree_room, work_room, bound_room}
use Rattle.spec_rules.specs.RefusalNumbers.{room_refusal, tree_refusal}
use Rattle.spec_rules.specs.SheetFile.{clauses}
use Rattle.spec_rules.specs.SheetRefusals.{Verdict, accepted, refused, require, and_then, verdict}
use Rattle.spec_rules.specs.PanelFile.{panel_verdict}
use Rattle.spec_rules.specs.TreeReader.{tree_fits, tree_of}
use Rattle.spec_rules.specs.Fitting.{panel_fits}
use Rattle.spec_rules.specs.Walking.{Walked, reached, no_leaf, stuck, walk}
use Rattle.spec_rules.specs.WalkPlaces.{last_node, stuck_step}
use Rattle.spec_rules.specs.Calls.{Answer, answers, refuses, unless, sheet_tree, sheet_tree_file, tree_verdict, Built, built_of, build_room, build_answer, fit_call, walk_room, tree_file_verdict, WalkEnd, stuck_at, walk_end, walk_answer, Span, has_text, text_call}
use Rattle.spec_theorems.specs.CallsLaws.{build_room_lem, build_sheet, build_tree, fit_sheet, fit_panel, fit_type, walk_room_lem, walk_tree, walk_panel, walk_stuck, text_panel, text_none}
use Rattle.demands.specs.Reasons.{BuildRefuses, FitRefuses, WalkRefuses, WalkSticks, TextRefuses}

-- ---- a refusal's number and place
module _ {A : Type 0} (k p number place : ℕ) (e : ◌≡◌ {A = Answer A} (refuses k p) (refuses number place)) where
  same_number : k ≡ number
  same_number = cc

  same_place : p ≡ place
  same_place = cc

  same_refusal : refused k p ≡ refused number place
  same_refusal = rw (same_number, same_place)

no_refusal : {A : Type 0} (x : A) (number place : ℕ) → answers x ≡ refuses number place → ⊥
no_refusal x number place e = let z : ◌≡◌ {A = ℕ} 0 1 = cc in absurd (omega arith)

-- ---- the build
module _ (s : List ℕ) (n m number place : ℕ) where
  pub build_reason : build_answer s n m ≡ refuses number place → BuildRefuses s n m number place
  unfolding build_answer build_room
  build_reason e = room (leb tree_room n) refl (leb work_room m) refl e
    where
      end : Answer Built
      end = answers (built_of (sheet_tree_file s) (sheet_tree s))

      tree : tree_room ≤ n → work_room ≤ m → verdict s ≡ accepted → (w : Verdict) → tree_verdict (clauses s) (sheet_tree s) ≡ w → unless w end ≡ refuses number place
          → BuildRefuses s n m number place
      tree a b h accepted g d = absurd (no_refusal (built_of (sheet_tree_file s) (sheet_tree s)) number place d)
      tree a b h (refused k p) g d = BuildRefuses.for_tree a b h (g ∙ same_refusal k p number place d)

      sheet : tree_room ≤ n → work_room ≤ m → (w : Verdict) → verdict s ≡ w → unless w (unless (tree_verdict (clauses s) (sheet_tree s)) end) ≡ refuses number place
          → BuildRefuses s n m number place
      sheet a b accepted h d = tree a b h (tree_verdict (clauses s) (sheet_tree s)) refl d
      sheet a b (refused k p) h d = BuildRefuses.for_sheet a b (h ∙ same_refusal k p number place d)

      room : (a : Bool) → leb tree_room n ≡ a → (b : Bool) → leb work_room m ≡ b
          → unless (require (both a b) 1 accepted) (unless (verdict s) (unless (tree_verdict (clauses s) (sheet_tree s)) end)) ≡ refuses number place
          → BuildRefuses s n m number place
      room false x b y d = BuildRefuses.for_room (inl (leb-false tree_room n x)) (sym (same_number 1 0 number place d)) (sym (same_place 1 0 number place d))
      room true x false y d = BuildRefuses.for_room (inr (leb-false work_room m y)) (sym (same_number 1 0 number place d)) (sym (same_place 1 0 number place d))
      room true x true y d = sheet (leb-true tree_room n x) (leb-true work_room m y) (verdict s) refl d

  pub reason_build : BuildRefuses s n m number place → build_answer s n m ≡ refuses number place
  reason_build (BuildRefuses.for_room o a b) = build_room_lem s n m o ∙ rw (a, b)
  reason_build (BuildRefuses.for_sheet a b h) = build_sheet s n m a b number place h
  reason_build (BuildRefuses.for_tree a b h g) = build_tree s n m a b h number place g

-- ---- the fit check
module _ (s v : List ℕ) (number place : ℕ) where
  pub fit_reason : fit_call s v ≡ refused number place → FitRefuses s v number place
  unfolding fit_call
  fit_reason e = sheet (verdict s) refl e
    where
      type : verdict s ≡ accepted → panel_verdict v ≡ accepted → (b : Bool) → panel_fits s v ≡ b → require b 25 accepted ≡ refused number place → FitRefuses s v number place
      type h g true x d = let z : ◌≡◌ {A = ℕ} 0 1 = cc in absurd (omega arith)
      type h g false x d = let a : 25 ≡ number = cc in let b : 0 ≡ place = cc in FitRefuses.for_type h g x (sym a) (sym b)

      panel : verdict s ≡ accepted → (w : Verdict) → panel_verdict v ≡ w → and_then w (require (panel_fits s v) 25 accepted) ≡ refused number place → FitRefuses s v number place
      panel h accepted g d = type h g (panel_fits s v) refl d
      panel h (refused k p) g d = FitRefuses.for_panel h (g ∙ d)

      sheet : (w : Verdict) → verdict s ≡ w → and_then w (and_then (panel_verdict v) (require (panel_fits s v) 25 accepted)) ≡ refused number place → FitRefuses s v number place
      sheet accepted h d = panel h (panel_verdict v) refl d
      sheet (refused k p) h d = FitRefuses.for_sheet (h ∙ d)

  pub reason_fit : FitRefuses s v number place → fit_call s v ≡ refused number place
  reason_fit (FitRefuses.for_sheet h) = fit_sheet s v number place h
  reason_fit (FitRefuses.for_panel h g) = fit_panel s v h number place g
  reason_fit (FitRefuses.for_type h g x a b) = fit_type s v h g x ∙ rw (a, b)

-- ---- the walk
module _ (t v : List ℕ) (n number place : ℕ) where
  pub walk_reason : walk_answer t v n ≡ refuses number place → WalkRefuses t v n number place
  unfolding walk_answer walk_room tree_file_verdict
  walk_reason e = room (leb bound_room n) refl e
    where
      end : Answer WalkEnd
      end = answers (walk_end t v (walk (tree_of t) v))

      panel : bound_room ≤ n → tree_fits t ≡ true → (w : Verdict) → panel_verdict v ≡ w → unless w end ≡ refuses number place → WalkRefuses t v n number place
      panel a b accepted h d = absurd (no_refusal _ number place d)
      panel a b (refused k p) h d = WalkRefuses.for_panel a b (h ∙ same_refusal k p number place d)

      tree : bound_room ≤ n → (b : Bool) → tree_fits t ≡ b → unless (require b 31 accepted) (unless (panel_verdict v) end) ≡ refuses number place → WalkRefuses t v n number place
      tree a true x d = panel a x (panel_verdict v) refl d
      tree a false x d = WalkRefuses.for_tree a x (sym (same_number 31 0 number place d)) (sym (same_place 31 0 number place d))

      room : (b : Bool) → leb bound_room n ≡ b → unless (require b 1 accepted) (unless (require (tree_fits t) 31 accepted) (unless (panel_verdict v) end)) ≡ refuses number place
          → WalkRefuses t v n number place
      room true x d = tree (leb-true bound_room n x) (tree_fits t) refl d
      room false x d = WalkRefuses.for_room (leb-false bound_room n x) (sym (same_number 1 0 number place d)) (sym (same_place 1 0 number place d))

  pub reason_walk : WalkRefuses t v n number place → walk_answer t v n ≡ refuses number place
  reason_walk (WalkRefuses.for_room l a b) = walk_room_lem t v n l ∙ rw (a, b)
  reason_walk (WalkRefuses.for_tree l x a b) = walk_tree t v n l x ∙ rw (a, b)
  reason_walk (WalkRefuses.for_panel l x h) = walk_panel t v n l x number place h

-- ---- the walk that is stuck
module _ (t v : List ℕ) (n node step : ℕ) where
  no_answer : (number place : ℕ) → ◌≡◌ {A = Answer WalkEnd} (refuses number place) (answers (stuck_at node step)) → ⊥
  no_answer number place e = let z : ◌≡◌ {A = ℕ} 0 1 = cc in absurd (omega arith)

  pub stuck_reason : walk_answer t v n ≡ answers (stuck_at node step) → WalkSticks t v n node step
  unfolding walk_answer walk_room tree_file_verdict walk_end
  stuck_reason e = room (leb bound_room n) refl e
    where
      end : Answer WalkEnd
      end = answers (walk_end t v (walk (tree_of t) v))

      ended : bound_room ≤ n → tree_fits t ≡ true → panel_verdict v ≡ accepted → (w : Walked) → walk (tree_of t) v ≡ w → walk_end t v w ≡ stuck_at node step → WalkSticks t v n node step
      ended a b h (reached c xs) g d = let z : ◌≡◌ {A = ℕ} 0 1 = cc in absurd (omega arith)
      ended a b h no_leaf g d = let z : ◌≡◌ {A = ℕ} 0 1 = cc in absurd (omega arith)
      ended a b h stuck g d =
          let at : last_node t v ≡ node = cc in
          let step_there : stuck_step t v (last_node t v) ≡ step = cc in
          record { room = a; tree_fits_holds = b; panel_fits_holds = h; is_stuck = g; node_is = sym at; step_is = sym step_there ∙ ap (stuck_step t v) at }

      panel : bound_room ≤ n → tree_fits t ≡ true → (w : Verdict) → panel_verdict v ≡ w → unless w end ≡ answers (stuck_at node step) → WalkSticks t v n node step
      panel a b accepted h d = let x : walk_end t v (walk (tree_of t) v) ≡ stuck_at node step = cc in ended a b h (walk (tree_of t) v) refl x
      panel a b (refused k p) h d = absurd (no_answer k p d)

      tree : bound_room ≤ n → (b : Bool) → tree_fits t ≡ b → unless (require b tree_refusal accepted) (unless (panel_verdict v) end) ≡ answers (stuck_at node step) → WalkSticks t v n node step
      tree a true x d = panel a x (panel_verdict v) refl d
      tree a false x d = absurd (no_answer tree_refusal 0 d)

      room : (b : Bool) → leb bound_room n ≡ b
          → unless (require b room_refusal accepted) (unless (require (tree_fits t) tree_refusal accepted) (unless (panel_verdict v) end)) ≡ answers (stuck_at node step)
          → WalkSticks t v n node step
      room true x d = tree (leb-true bound_room n x) (tree_fits t) refl d
      room false x d = absurd (no_answer room_refusal 0 d)

  pub reason_stuck : WalkSticks t v n node step → walk_answer t v n ≡ answers (stuck_at node step)
  reason_stuck o =
      let e = o.node_is in
      let f = o.step_is in
      walk_stuck t v n o.room o.tree_fits_holds o.panel_fits_holds o.is_stuck ∙ rw (f, e)

-- ---- the text call
module _ (v : List ℕ) (at dropped number place : ℕ) where
  pub text_reason : text_call v at dropped ≡ refuses number place → TextRefuses v at dropped number place
  unfolding text_call
  text_reason e = panel _ (panel_verdict v) refl e
    where
      text : (x : Span) → panel_verdict v ≡ accepted → (b : Bool) → has_text v at dropped ≡ b → unless (require b 33 accepted) (answers x) ≡ refuses number place
          → TextRefuses v at dropped number place
      text x h true g d = absurd (no_refusal x number place d)
      text x h false g d = TextRefuses.for_text h g (sym (same_number 33 0 number place d)) (sym (same_place 33 0 number place d))

      panel : (x : Span) (w : Verdict) → panel_verdict v ≡ w → unless w (unless (require (has_text v at dropped) 33 accepted) (answers x)) ≡ refuses number place
          → TextRefuses v at dropped number place
      panel x accepted h d = text x h (has_text v at dropped) refl d
      panel x (refused k p) h d = TextRefuses.for_panel (h ∙ same_refusal k p number place d)

  pub reason_text : TextRefuses v at dropped number place → text_call v at dropped ≡ refuses number place
  reason_text (TextRefuses.for_panel h) = text_panel v at dropped number place h
  reason_text (TextRefuses.for_text h g a b) = text_none v at dropped h g ∙ rw (a, b)
