-- A verdict is a chain of stages, each of which passes or refuses with a number of its own, higher than those before it. So a number is
-- given exactly if all stages before its own pass and its own does not; the place of a lowest is the lowest.
use Rattle.std.specs.Prelude.{ℕ, suc, ◌≤◌, ◌<◌, ◌≡◌, refl, ◌⊎◌, Bool, true, false, ltb}
use Rattle.std.proofs.Common.{arith, sym, ap, ◌∙◌, inl, inr, true≢false, ltb-true, ltb-false}
use Rattle.std.proofs.lemmas.Bool.{false≢true}
use Rattle.std.proofs.Math.Option.{Option, none, some}
use Rattle.spec_rules.specs.Searching.{lowest}
use Rattle.spec_rules.specs.SearchingLaws.{Lowest, lowest_some, lowest_none, lowest_make_none}
use Rattle.spec_rules.specs.SheetRefusals.{Verdict, accepted, refused, require, require_none, and_then}

-- ---- the lowest is one
module _ (f : ℕ → Bool) where
  pub lowest_one : (i n j k : ℕ) → Lowest f i n j → Lowest f i n k → j ≡ k
  lowest_one i n j k a b = go (ltb j k) refl (ltb k j) refl
    where
      clash : (m : ℕ) → f m ≡ true → f m ≡ false → ⊥
      clash m x y = true≢false (sym x ∙ y)

      go : (x : Bool) → ltb j k ≡ x → (y : Bool) → ltb k j ≡ y → j ≡ k
      go true e y g = absurd (clash j a.has (b.none_below j a.from (ltb-true j k e)))
      go false e true g = absurd (clash k b.has (a.none_below k b.from (ltb-true k j g)))
      go false e false g = omega (arith, ltb-false j k e, ltb-false k j g)

  pub lowest_make : (i n k : ℕ) → Lowest f i n k → lowest f i n ≡ some k
  lowest_make i n k l = go (lowest f i n) refl
    where
      go : (o : Option ℕ) → lowest f i n ≡ o → lowest f i n ≡ some k
      go none e = absurd (true≢false (sym l.has ∙ lowest_none f i n e k l.from l.to))
      go (some j) e = e ∙ ap some (lowest_one i n j k (lowest_some f i n j e) l)

-- ---- what a refusal is not
refused_number : (m n j k : ℕ) → refused m j ≡ refused n k → m ≡ n
refused_number m n j k e = ap number_of e
  where
    number_of : Verdict → ℕ
    number_of accepted = 0
    number_of (refused a b) = a

refused_place : (m n j k : ℕ) → refused m j ≡ refused n k → j ≡ k
refused_place m n j k e = ap place_of e
  where
    place_of : Verdict → ℕ
    place_of accepted = 0
    place_of (refused a b) = b

accepted_not_refused : (n k : ℕ) → accepted ≡ refused n k → ⊥
accepted_not_refused n k e = false≢true (ap is_refused e)
  where
    is_refused : Verdict → Bool
    is_refused accepted = false
    is_refused (refused a b) = true

pub one_refusal : (w : Verdict) (m n j k : ℕ) → w ≡ refused m j → w ≡ refused n k → (m ≡ n) × (j ≡ k)
one_refusal w m n j k a b = (refused_number m n j k (sym a ∙ b), refused_place m n j k (sym a ∙ b))

pub not_both : (w : Verdict) (n k : ℕ) → w ≡ accepted → w ≡ refused n k → ⊥
not_both w n k a b = accepted_not_refused n k (sym a ∙ b)

-- ---- a stage with the number n: it passes, and then the rest decides, or it refuses at place k where Fail k
pub record Stage (w : Verdict) (n : ℕ) (Pass : Type 0) (Fail : ℕ → Type 0) (rest : Verdict) : Type 0 where
  pub goes_on : Pass → w ≡ rest
  pub stops : (k : ℕ) → Fail k → w ≡ refused n k
  pub decided : Pass ⊎ ((k : ℕ) × Fail k)

-- the same where another verdict follows
pub then_stage : {w : Verdict} {n : ℕ} {Pass : Type 0} {Fail : ℕ → Type 0} {rest : Verdict} (next : Verdict) → Stage w n Pass Fail rest
    → Stage (and_then w next) n Pass Fail (and_then rest next)
then_stage next s = record {
  goes_on = λ p. ap (λ v. and_then v next) (s.goes_on p);
  stops = λ k q. ap (λ v. and_then v next) (s.stops k q);
  decided = s.decided;
}

-- the numbers that a verdict gives are n or higher
abbrev pub From : ℕ → Verdict → Type 0
From n w = (m k : ℕ) → w ≡ refused m k → n ≤ m

pub none_from : (n : ℕ) → From n accepted
none_from n m k e = absurd (accepted_not_refused m k e)

module _ {w : Verdict} {n : ℕ} {Pass : Type 0} {Fail : ℕ → Type 0} {rest : Verdict} (s : Stage w n Pass Fail rest) where
  pub stage_from : From (suc n) rest → From n w
  stage_from f m k e = go s.decided
    where
      go : Pass ⊎ ((k : ℕ) × Fail k) → n ≤ m
      go (inl p) = omega (arith, f m k (sym (s.goes_on p) ∙ e))
      go (inr (j, q)) = omega (arith, refused_number n m j k (sym (s.stops j q) ∙ e))

  pub stage_later : (m k : ℕ) → n < m → w ≡ refused m k → Pass × (rest ≡ refused m k)
  stage_later m k l e = go s.decided
    where
      go : Pass ⊎ ((k : ℕ) × Fail k) → Pass × (rest ≡ refused m k)
      go (inl p) = (p, sym (s.goes_on p) ∙ e)
      go (inr (j, q)) = absurd (omega (arith, refused_number n m j k (sym (s.stops j q) ∙ e)))

  pub stage_here : From (suc n) rest → (k : ℕ) → w ≡ refused n k → Fail k
  stage_here f k e = go s.decided
    where
      go : Pass ⊎ ((k : ℕ) × Fail k) → Fail k
      go (inl p) = absurd (omega (arith, f n k (sym (s.goes_on p) ∙ e)))
      go (inr (j, q)) = rw (refused_place n n j k (sym (s.stops j q) ∙ e)) at q

  pub stage_accepted : w ≡ accepted → Pass × (rest ≡ accepted)
  stage_accepted e = go s.decided
    where
      go : Pass ⊎ ((k : ℕ) × Fail k) → Pass × (rest ≡ accepted)
      go (inl p) = (p, sym (s.goes_on p) ∙ e)
      go (inr (j, q)) = absurd (not_both w n j e (s.stops j q))

-- ---- the two kinds of stages: a test, with place 0; and the lowest of m numbers
pub test_stage : (b : Bool) (n : ℕ) (rest : Verdict) → Stage (require b n rest) n (b ≡ true) (λ k. (b ≡ false) × (k ≡ 0)) rest
test_stage true n rest = record { goes_on = λ e. refl; stops = λ k q. absurd (true≢false q.0); decided = inl refl }
test_stage false n rest = record { goes_on = λ e. absurd (false≢true e); stops = λ k q. rw q.1; decided = inr (0, (refl, refl)) }

pub lowest_stage : (f : ℕ → Bool) (m n : ℕ) (rest : Verdict)
    → Stage (require_none (lowest f 0 m) n rest) n ((k : ℕ) → k < m → f k ≡ false) (λ k. Lowest f 0 m k) rest
lowest_stage f m n rest = record {
  goes_on = λ h. rw (lowest_make_none f 0 m (λ k low high. h k (omega arith)));
  stops = λ k l. rw (lowest_make f 0 m k l);
  decided = found (lowest f 0 m) refl;
}
  where
    found : (o : Option ℕ) → lowest f 0 m ≡ o → ((k : ℕ) → k < m → f k ≡ false) ⊎ ((k : ℕ) × Lowest f 0 m k)
    found none e = inl (λ k l. lowest_none f 0 m e k (omega arith) (omega arith))
    found (some k) e = inr (k, lowest_some f 0 m k e)
