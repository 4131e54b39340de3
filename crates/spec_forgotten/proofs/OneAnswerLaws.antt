-- The call's promise leaves one answer: a sheet is refused for one reason, a refused sheet has no answer, and two answers that are the
-- lowest forgotten switch, or covered, are the same. So two results that the promise fits are equal, every byte and word of them.
use Rattle.std.specs.Prelude.{ℕ, ◌≤◌, ◌<◌, ◌≡◌, refl, ◌⊎◌, Bool, true, false, List, ltb, length}
use Rattle.std.proofs.Common.{arith, sym, ap, ap₂, ◌∙◌, inl, inr, ltb-true, ltb-false}
use Rattle.base_words.specs.Words.{Bytes}
use Rattle.spec_rules.specs.Limits.{tree_room, work_room}
use Rattle.spec_rules.specs.SheetRefusals.{Verdict, accepted, refused, verdict}
use Rattle.spec_rules.specs.Calls.{Answer, answers, refuses, written, sheet_tree_file}
use Rattle.spec_forgotten.specs.Values.{Passed}
use Rattle.spec_forgotten.specs.Forgetting.{report_room, LowestForgotten, LowestHollow, NoHollow, ForgottenRefuses, for_room, before_15, for_hollow, after_15, for_the_tree, Asked, Report, gap, ForgottenAnswers, is_covered, is_forgotten, is_refused, reported}
use Rattle.spec_forgotten.specs.ForgettingSaid.{OneAnswer}
use Rattle.spec_forgotten.proofs.MarkingLaws.{not_both, one_lowest}
use Rattle.spec_forgotten.proofs.ForgettingTheorems.{one_way_holds}

-- ---- verdicts
not_refused : (v : Verdict) (number place : ℕ) → v ≡ accepted → v ≡ refused number place → ⊥
not_refused v number place e f = differ (sym e ∙ f)
  where
    differ : ◌≡◌ {A = Verdict} accepted (refused number place) → ⊥
    differ g = let z : ◌≡◌ {A = ℕ} 0 1 = cc in absurd (omega arith)

same_refused : (v : Verdict) (n p m q : ℕ) → v ≡ refused n p → v ≡ refused m q → (n ≡ m) × (p ≡ q)
same_refused v n p m q e f = inside (sym e ∙ f)
  where
    inside : ◌≡◌ {A = Verdict} (refused n p) (refused m q) → (n ≡ m) × (p ≡ q)
    inside g = let x : n ≡ m = cc in let y : p ≡ q = cc in (x, y)

module _ (built : List ℕ → Verdict) (s : List ℕ) (n m k : ℕ) where
  no_room : (n < tree_room) ⊎ ((m < work_room) ⊎ (k < report_room)) → tree_room ≤ n → work_room ≤ m → report_room ≤ k → ⊥
  no_room (inl l) a b c = omega arith
  no_room (inr (inl l)) a b c = omega arith
  no_room (inr (inr l)) a b c = omega arith

  no_hollow : (t : ℕ) → LowestHollow s t → NoHollow s → ⊥
  no_hollow t w f = not_both s t (f t w.there) w.hollow

  abbrev Same : ℕ → ℕ → ℕ → ℕ → Type 0
  Same a p b q = (a ≡ b) × (p ≡ q)

  -- ---- one reason
  one_refusal : (a p b q : ℕ) → ForgottenRefuses built s n m k a p → ForgottenRefuses built s n m k b q → Same a p b q
  one_refusal a p b q (for_room x) (for_room y) = (refl, refl)
  one_refusal a p b q (for_room x) (before_15 c d e y z v w) = absurd (no_room x c d e)
  one_refusal a p b q (for_room x) (for_hollow c d e f t w) = absurd (no_room x c d e)
  one_refusal a p b q (for_room x) (after_15 c d e f y z v w) = absurd (no_room x c d e)
  one_refusal a p b q (for_room x) (for_the_tree c d e f y z v w) = absurd (no_room x c d e)
  one_refusal a p b q (before_15 c d e y z v w) (for_room x) = absurd (no_room x c d e)
  one_refusal a p b q (before_15 c d e y z v w) (before_15 c2 d2 e2 y2 z2 v2 w2) = same_refused (verdict s) y z y2 z2 v v2
  one_refusal a p b q (before_15 c d e y z v w) (for_hollow c2 d2 e2 f2 t2 w2) = let l = f2 y z v in absurd (omega arith)
  one_refusal a p b q (before_15 c d e y z v w) (after_15 c2 d2 e2 f2 y2 z2 v2 w2) = same_refused (verdict s) y z y2 z2 v v2
  one_refusal a p b q (before_15 c d e y z v w) (for_the_tree c2 d2 e2 f2 g2 y2 z2 v2) = absurd (not_refused (verdict s) y z g2 v)
  one_refusal a p b q (for_hollow c d e f t w) (for_room x) = absurd (no_room x c d e)
  one_refusal a p b q (for_hollow c d e f t w) (before_15 c2 d2 e2 y2 z2 v2 w2) = let l = f y2 z2 v2 in absurd (omega arith)
  one_refusal a p b q (for_hollow c d e f t w) (for_hollow c2 d2 e2 f2 t2 w2) = (refl, one_lowest s t t2 w w2)
  one_refusal a p b q (for_hollow c d e f t w) (after_15 c2 d2 e2 f2 y2 z2 v2 w2) = absurd (no_hollow t w f2)
  one_refusal a p b q (for_hollow c d e f t w) (for_the_tree c2 d2 e2 f2 g2 y2 z2 v2) = absurd (no_hollow t w f2)
  one_refusal a p b q (after_15 c d e f y z v w) (for_room x) = absurd (no_room x c d e)
  one_refusal a p b q (after_15 c d e f y z v w) (before_15 c2 d2 e2 y2 z2 v2 w2) = same_refused (verdict s) y z y2 z2 v v2
  one_refusal a p b q (after_15 c d e f y z v w) (for_hollow c2 d2 e2 f2 t2 w2) = absurd (no_hollow t2 w2 f)
  one_refusal a p b q (after_15 c d e f y z v w) (after_15 c2 d2 e2 f2 y2 z2 v2 w2) = same_refused (verdict s) y z y2 z2 v v2
  one_refusal a p b q (after_15 c d e f y z v w) (for_the_tree c2 d2 e2 f2 g2 y2 z2 v2) = absurd (not_refused (verdict s) y z g2 v)
  one_refusal a p b q (for_the_tree c d e f g y z v) (for_room x) = absurd (no_room x c d e)
  one_refusal a p b q (for_the_tree c d e f g y z v) (before_15 c2 d2 e2 y2 z2 v2 w2) = absurd (not_refused (verdict s) y2 z2 g v2)
  one_refusal a p b q (for_the_tree c d e f g y z v) (for_hollow c2 d2 e2 f2 t2 w2) = absurd (no_hollow t2 w2 f)
  one_refusal a p b q (for_the_tree c d e f g y z v) (after_15 c2 d2 e2 f2 y2 z2 v2 w2) = absurd (not_refused (verdict s) y2 z2 g v2)
  one_refusal a p b q (for_the_tree c d e f g y z v) (for_the_tree c2 d2 e2 f2 g2 y2 z2 v2) = same_refused (built s) y z y2 z2 v v2

  asked_not_refused : Asked built s n m k → (a p : ℕ) → ForgottenRefuses built s n m k a p → ⊥
  asked_not_refused x a p (for_room y) = no_room y x.tree_room_holds x.work_room_holds x.report_room_holds
  asked_not_refused x a p (before_15 c d e y z v w) = not_refused (verdict s) y z x.sheet v
  asked_not_refused x a p (for_hollow c d e f t w) = no_hollow t w x.filled
  asked_not_refused x a p (after_15 c d e f y z v w) = not_refused (verdict s) y z x.sheet v
  asked_not_refused x a p (for_the_tree c d e f g y z v) = not_refused (built s) y z x.tree v

  -- ---- one answer
  module _ (bytes : Bytes s) where
    one_switch : (at bt : ℕ) (ts us : List Passed) → LowestForgotten s at ts → LowestForgotten s bt us → at ≡ bt
    one_switch at bt ts us x y = go (ltb at bt) refl (ltb bt at) refl
      where
        go : (p : Bool) → ltb at bt ≡ p → (q : Bool) → ltb bt at ≡ q → at ≡ bt
        go true e q f = absurd (y.lowest at (ltb-true at bt e) ts x.forgotten)
        go false e true f = absurd (x.lowest bt (ltb-true bt at f) us y.forgotten)
        go false e false f = omega (arith, ltb-false at bt e, ltb-false bt at f)

    same_way : Asked built s n m k → (at bt : ℕ) (ts us : List Passed) → LowestForgotten s at ts → LowestForgotten s bt us → ts ≡ us
    same_way x at bt ts us y z =
        let e = one_switch at bt ts us y z in
        one_way_holds s x.sheet bytes bt ts us (rw e at y.forgotten) z.forgotten

    same_answer : (a b : Answer Report) → ForgottenAnswers built s n m k a → ForgottenAnswers built s n m k b → a ≡ b
    same_answer a b (is_covered x c) (is_covered y d) = refl
    same_answer a b (is_covered x c) (is_forgotten y at ts l) = absurd (c at ts l.forgotten)
    same_answer a b (is_covered x c) (is_refused p q r) = absurd (asked_not_refused x p q r)
    same_answer a b (is_forgotten x at ts l) (is_covered y d) = absurd (d at ts l.forgotten)
    same_answer a b (is_forgotten x at ts l) (is_forgotten y bt us w) =
        ap₂ (λ i zs. answers (gap (length (sheet_tree_file s)) i zs)) (one_switch at bt ts us l w) (same_way x at bt ts us l w)
    same_answer a b (is_forgotten x at ts l) (is_refused p q r) = absurd (asked_not_refused x p q r)
    same_answer a b (is_refused p q r) (is_covered y d) = absurd (asked_not_refused y p q r)
    same_answer a b (is_refused p q r) (is_forgotten y bt us w) = absurd (asked_not_refused y p q r)
    same_answer a b (is_refused p q r) (is_refused p2 q2 r2) =
        let (e, f) = one_refusal p q p2 q2 r r2 in
        ap₂ (λ i j. refuses i j) e f

-- THEOREM: two results that fit are equal
pub one_answer_holds : OneAnswer
one_answer_holds built s bytes n m k a b tree work report tree' work' report' x y =
    let e = same_answer built s n m k bytes a b x.answer y.answer in (
      e,
      (
        x.tree_is ∙ ap (λ r. written r (sheet_tree_file s) n) e ∙ sym y.tree_is,
        (
          x.work_is ∙ sym y.work_is,
          x.report_is ∙ ap (λ r. reported r k) e ∙ sym y.report_is,
        ),
      ),
    )
