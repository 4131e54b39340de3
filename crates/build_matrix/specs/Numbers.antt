-- Lists of numbers: how often a number stands in one, the first of which a test holds, the list without that one; and counts over
-- the numbers below a bound. Rests on the library's lists and on arithmetic.
use Rattle.std.specs.Prelude.{◌≡◌, refl, Bool, true, false, List, [], ◌∷◌, ◌++◌, ℕ, zero, suc, ◌+◌, ◌≤◌, ◌<◌, eqb, length}
use Rattle.std.proofs.Common.{sym, ap₂, ◌∙◌, arith, eqb-true, eq-eqb, ne_eqb}
use Rattle.std.proofs.Math.Option.{Option, none, some}
use Rattle.std.proofs.lemmas.Bool.{eqb-false}
use Rattle.spec_rules.specs.Rows.{bit}
use Rattle.spec_rules.specs.Searching.{times}
use Rattle.spec_rules.specs.SplittingLaws.{All}

-- how often q stands in the list
unfoldable pub copies : ℕ → List ℕ → ℕ
unfolding bit
copies q [] = 0
copies q (x ∷ xs) = bit (eqb q x) + copies q xs

unfoldable pub first_with : (ℕ → Bool) → List ℕ → Option ℕ
first_with f [] = none
first_with f (x ∷ xs) = elim (f x) [ true ↦ some x | false ↦ first_with f xs ]

unfoldable pub less_first : (ℕ → Bool) → List ℕ → List ℕ
less_first f [] = []
less_first f (x ∷ xs) = elim (f x) [ true ↦ xs | false ↦ x ∷ less_first f xs ]

pub copies_append : (q : ℕ) (xs ys : List ℕ) → copies q (xs ++ ys) ≡ copies q xs + copies q ys
unfolding copies
copies_append q [] ys = omega arith
copies_append q (x ∷ xs) ys = omega (arith, copies_append q xs ys)

-- what the first of which f holds is
pub first_with_some : (f : ℕ → Bool) (xs : List ℕ) (p : ℕ) → first_with f xs ≡ some p → (f p ≡ true) × (1 ≤ copies p xs)
unfolding first_with copies bit
first_with_some f [] p e = let z : ◌≡◌ {A = ℕ} 0 1 = cc in absurd (omega arith)
first_with_some f (x ∷ xs) p e = go (f x) refl (first_with_some f xs p)
  where
    go : (b : Bool) → f x ≡ b → (first_with f xs ≡ some p → (f p ≡ true) × (1 ≤ copies p xs)) → (f p ≡ true) × (1 ≤ copies p (x ∷ xs))
    go true y ih =
        let g : ◌≡◌ {A = Option ℕ} (some x) (some p) = rw (y, first_with) at e in
        let d : x ≡ p = cc in
        (rw d at y, rw (eq-eqb p x (sym d)) (omega arith))
    go false y ih = let r = ih (rw (y, first_with) at e) in (r.0, omega (arith, r.1))

pub first_with_none : (f : ℕ → Bool) (xs : List ℕ) → first_with f xs ≡ none → (q : ℕ) → 1 ≤ copies q xs → f q ≡ false
unfolding first_with copies bit
first_with_none f [] e q h = absurd (omega arith)
first_with_none f (x ∷ xs) e q h = go (f x) refl (eqb q x) refl (λ z. first_with_none f xs z q)
  where
    go : (b : Bool) → f x ≡ b → (d : Bool) → eqb q x ≡ d → (first_with f xs ≡ none → 1 ≤ copies q xs → f q ≡ false) → f q ≡ false
    go true y d w ih =
        let g : ◌≡◌ {A = Option ℕ} (some x) none = rw (y, first_with) at e in
        let z : ◌≡◌ {A = ℕ} 0 1 = cc in
        absurd (omega arith)
    go false y true w ih = rw (eqb-true q x w) y
    go false y false w ih = let l : 1 ≤ bit false + copies q xs = rw w at h in ih (rw (y, first_with) at e) (omega arith)

pub copies_less_first : (f : ℕ → Bool) (xs : List ℕ) (p q : ℕ) → first_with f xs ≡ some p → copies q xs ≡ bit (eqb q p) + copies q (less_first f xs)
unfolding first_with less_first copies
copies_less_first f [] p q e = let z : ◌≡◌ {A = ℕ} 0 1 = cc in absurd (omega arith)
copies_less_first f (x ∷ xs) p q e = go (f x) refl (copies_less_first f xs p q)
  where
    go : (b : Bool) → f x ≡ b → (first_with f xs ≡ some p → copies q xs ≡ bit (eqb q p) + copies q (less_first f xs))
        → copies q (x ∷ xs) ≡ bit (eqb q p) + copies q (less_first f (x ∷ xs))
    go true y ih =
        let g : ◌≡◌ {A = Option ℕ} (some x) (some p) = rw (y, first_with) at e in
        let d : x ≡ p = cc in
        rw (y, less_first, d)
    go false y ih = rw (y, less_first) (omega (arith, ih (rw (y, first_with) at e)))

-- ---- sums over the numbers below a bound
abbrev sum_of : (ℕ → ℕ) → ℕ → ℕ → ℕ
sum_of g i zero = 0
sum_of g i (suc n) = g i + sum_of g (i + 1) n

sum_of_add : (g h : ℕ → ℕ) (i n : ℕ) → sum_of (λ k. g k + h k) i n ≡ sum_of g i n + sum_of h i n
sum_of_add g h i zero = refl
sum_of_add g h i (suc n) = omega (arith, sum_of_add g h (i + 1) n)

sum_of_same : (g h : ℕ → ℕ) (i n : ℕ) → ((k : ℕ) → i ≤ k → k < i + n → g k ≡ h k) → sum_of g i n ≡ sum_of h i n
sum_of_same g h i zero e = refl
sum_of_same g h i (suc n) e =
    let first = e i (omega arith) (omega arith) in
    omega (arith, sum_of_same g h (i + 1) n (λ k low high. e k (omega arith) (omega arith)))

sum_of_none : (g : ℕ → ℕ) (i n : ℕ) → ((k : ℕ) → i ≤ k → k < i + n → g k ≡ 0) → sum_of g i n ≡ 0
sum_of_none g i zero e = refl
sum_of_none g i (suc n) e =
    let first = e i (omega arith) (omega arith) in
    omega (arith, sum_of_none g (i + 1) n (λ k low high. e k (omega arith) (omega arith)))

-- one number counts once
sum_of_one : (x i n : ℕ) → i ≤ x → x < i + n → sum_of (λ k. bit (eqb k x)) i n ≡ 1
unfolding bit
sum_of_one x i zero low high = absurd (omega arith)
sum_of_one x i (suc n) low high = go (eqb i x) refl (sum_of_one x (i + 1) n)
  where
    go : (b : Bool) → eqb i x ≡ b → (i + 1 ≤ x → x < i + 1 + n → sum_of (λ k. bit (eqb k x)) (i + 1) n ≡ 1) → sum_of (λ k. bit (eqb k x)) i (suc n) ≡ 1
    go true e ih =
        let d = eqb-true i x e in
        rw e (omega (arith, sum_of_none (λ k. bit (eqb k x)) (i + 1) n (λ k l h. rw (ne_eqb k x (λ z. omega arith)))))
    go false e ih = let d = eqb-false i x e in rw e (omega (arith, ih (below d) (omega arith)))
      where
        below : (i ≡ x → ⊥) → i + 1 ≤ x
        below d = omega arith

times_sum : (f : ℕ → Bool) (i n : ℕ) → times f i n ≡ sum_of (λ k. bit (f k)) i n
unfolding times bit
times_sum f i zero = refl
times_sum f i (suc n) = go (f i) refl (times_sum f (i + 1) n)
  where
    go : (b : Bool) → f i ≡ b → times f (i + 1) n ≡ sum_of (λ k. bit (f k)) (i + 1) n → times f i (suc n) ≡ sum_of (λ k. bit (f k)) i (suc n)
    go true e ih = rw (times, e) (omega arith)
    go false e ih = rw (times, e) (omega arith)

length_sum : (n : ℕ) (xs : List ℕ) → All (λ x. x < n) xs → length xs ≡ sum_of (λ q. copies q xs) 0 n
unfolding copies
length_sum n [] h = sym (sum_of_none (λ q. 0) 0 n (λ k low high. refl))
length_sum n (x ∷ xs) h =
    let one = sum_of_one x 0 n (omega arith) (omega (arith, h.0)) in
    let rest = length_sum n xs h.1 in
    omega (arith, sum_of_add (λ q. bit (eqb q x)) (λ q. copies q xs) 0 n)

-- a list in which each number below n stands once if f holds of it, and else not, is as long as f counts
pub length_times : (f : ℕ → Bool) (n : ℕ) (xs : List ℕ) → All (λ x. x < n) xs → ((q : ℕ) → q < n → copies q xs ≡ bit (f q)) → length xs ≡ times f 0 n
length_times f n xs h e =
    length_sum n xs h ∙ sum_of_same (λ q. copies q xs) (λ q. bit (f q)) 0 n (λ q low high. e q (omega arith)) ∙ sym (times_sum f 0 n)

-- counts add up where the tests do
pub times_add : (f g h : ℕ → Bool) (n : ℕ) → ((q : ℕ) → q < n → bit (f q) ≡ bit (g q) + bit (h q)) → times f 0 n ≡ times g 0 n + times h 0 n
times_add f g h n e =
    times_sum f 0 n
    ∙ sum_of_same (λ q. bit (f q)) (λ q. bit (g q) + bit (h q)) 0 n (λ q low high. e q (omega arith))
    ∙ sum_of_add (λ q. bit (g q)) (λ q. bit (h q)) 0 n
    ∙ ap₂ ◌+◌ (sym (times_sum g 0 n)) (sym (times_sum h 0 n))

-- each that stands in the list has the property
pub all_copies : (P : ℕ → Type 0) (xs : List ℕ) → ((q : ℕ) → 1 ≤ copies q xs → P q) → All P xs
unfolding copies bit
all_copies P [] h = tt
all_copies P (x ∷ xs) h = (h x (rw (eq-eqb x x refl) (omega arith)), all_copies P xs (λ q l. h q (omega arith)))
