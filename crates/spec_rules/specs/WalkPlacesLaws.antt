-- Laws of the steps of a path that can be taken: all of them where the path leads somewhere, and fewer where it does not.
use Rattle.std.specs.Prelude.{ℕ, suc, ◌<◌, ◌≤◌, ◌≡◌, refl, List, [], ◌∷◌, length}
use Rattle.std.proofs.Common.{arith, ap}
use Rattle.std.proofs.Math.Option.{Option, none, some}
use Rattle.spec_rules.specs.Rows.{Path}
use Rattle.spec_rules.specs.Walking.{Position, take_step, follow}
use Rattle.spec_rules.specs.WalkPlaces.{steps_taken}

-- THEOREM: "a test on a wrong kind of part counts as the path's length"
pub all_taken : (v : List ℕ) (p : Path) (x y : Position) → follow v p x ≡ some y → steps_taken v p x ≡ length p
unfolding follow steps_taken
all_taken v [] x y e = refl
all_taken v (s ∷ p) x y e = go (take_step v s x) refl (λ z. all_taken v p z y)
  where
    go : (o : Option Position) → take_step v s x ≡ o → ((z : Position) → follow v p z ≡ some y → steps_taken v p z ≡ length p) → steps_taken v (s ∷ p) x ≡ suc (length p)
    go none q ih = let f : none ≡ some y = rw (q, follow) at e in let z : ◌≡◌ {A = ℕ} 0 1 = cc in absurd (omega arith)
    go (some z) q ih = rw (q, steps_taken) (ap suc (ih z (rw (q, follow) at e)))

-- THEOREM: the number of a step that could not be taken is that of a step of the path
pub fewer_taken : (v : List ℕ) (p : Path) (x : Position) → follow v p x ≡ none → steps_taken v p x < length p
unfolding follow steps_taken
fewer_taken v [] x e = let w : ◌≡◌ {A = ℕ} 0 1 = cc in absurd (omega arith)
fewer_taken v (s ∷ p) x e = go (take_step v s x) refl (λ z. fewer_taken v p z)
  where
    go : (o : Option Position) → take_step v s x ≡ o → ((z : Position) → follow v p z ≡ none → steps_taken v p z < length p) → steps_taken v (s ∷ p) x < suc (length p)
    go none q ih = rw (q, steps_taken) (omega arith)
    go (some z) q ih = rw (q, steps_taken) (omega (arith, ih z (rw (q, follow) at e)))

pub taken_most : (v : List ℕ) (p : Path) (x : Position) → steps_taken v p x ≤ length p
taken_most v p x = go (follow v p x) refl
  where
    go : (o : Option Position) → follow v p x ≡ o → steps_taken v p x ≤ length p
    go none e = omega (arith, fewer_taken v p x e)
    go (some y) e = omega (arith, all_taken v p x y e)
