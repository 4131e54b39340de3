-- What `map_err` was given, from what it answers.
use Rattle.std.specs.Prelude.{◌≡◌, refl, ℕ, Result, Ok, Err}
use Rattle.std.specs.Result.{MatchResult, IsErrAnd}
use Rattle.std.proofs.Common.{subst, sym, ◌∙◌, arith}

module _ {A E F : Type 0} (P : E → F → Type 0) where
  pub ok_before : (r : Result A E) (r' : Result A F) → MatchResult r (λ x. r' ≡ Ok x) (λ e. IsErrAnd r' (P e)) → (x : A) → r' ≡ Ok x → r ≡ Ok x
  ok_before (Ok y) r' h x q = let k : ◌≡◌ {A = Result A F} (Ok y) (Ok x) = sym h ∙ q in let s : y ≡ x = cc in subst (λ z. ◌≡◌ {A = Result A E} (Ok y) (Ok z)) s refl
  ok_before (Err e) (Ok y) h x q = elim h [ ]
  ok_before (Err e) (Err y) h x q = let z : ◌≡◌ {A = ℕ} 0 1 = cc in absurd (omega arith)

  pub err_before : (r : Result A E) (r' : Result A F) → MatchResult r (λ x. r' ≡ Ok x) (λ e. IsErrAnd r' (P e)) → (y : F) → r' ≡ Err y → (e : E) × (r ≡ Err e) × P e y
  err_before (Ok x) r' h y q = let k : ◌≡◌ {A = Result A F} (Ok x) (Err y) = sym h ∙ q in let z : ◌≡◌ {A = ℕ} 0 1 = cc in absurd (omega arith)
  err_before (Err e) (Ok x) h y q = elim h [ ]
  err_before (Err e) (Err x) h y q = let s : x ≡ y = cc in (e, refl, subst (P e) s h)
