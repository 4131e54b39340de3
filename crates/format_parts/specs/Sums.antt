-- Sums over a run of numbers, from the front, and their laws: by parts, of a table by rows and by columns, at the one number that a
-- test picks. Rests on arithmetic and on the laws of `times` in spec_rules.
use Rattle.std.specs.Prelude.{◌≡◌, refl, Bool, true, false, ℕ, zero, suc, ◌+◌, ◌-◌, ◌*◌, ◌≤◌, ◌<◌, leb, ltb}
use Rattle.std.proofs.Common.{ap, ap₂, sym, ◌∙◌, ⊎_elim, arith, le-leb, lt-ltb, le-ltb}
use Rattle.std.proofs.lemmas.Bool.{lt-leb}
use Rattle.base_words.specs.Words.{both, pick}
use Rattle.spec_rules.specs.Searching.{times}
use Rattle.spec_rules.specs.SearchingLaws.{first_or_rest}

-- f of the n numbers from i on, added up
unfoldable pub sum : (ℕ → ℕ) → ℕ → ℕ → ℕ
sum f i zero = 0
sum f i (suc n) = f i + sum f (i + 1) n

pub sum_same : (f g : ℕ → ℕ) (i n : ℕ) → ((k : ℕ) → i ≤ k → k < i + n → f k ≡ g k) → sum f i n ≡ sum g i n
unfolding sum
sum_same f g i zero h = refl
sum_same f g i (suc n) h = ap₂ ◌+◌ (h i (omega arith) (omega arith)) (sum_same f g (i + 1) n (λ k low high. h k (omega arith) (omega arith)))

pub sum_more : (f g : ℕ → ℕ) (i n : ℕ) → ((k : ℕ) → i ≤ k → k < i + n → f k ≤ g k) → sum f i n ≤ sum g i n
unfolding sum
sum_more f g i zero h = omega arith
sum_more f g i (suc n) h =
    let first = h i (omega arith) (omega arith) in
    let rest = sum_more f g (i + 1) n (λ k low high. h k (omega arith) (omega arith)) in
    omega arith

pub sum_most : (f : ℕ → ℕ) (i n : ℕ) → ((k : ℕ) → i ≤ k → k < i + n → f k ≤ 1) → sum f i n ≤ n
unfolding sum
sum_most f i zero h = omega arith
sum_most f i (suc n) h =
    let first = h i (omega arith) (omega arith) in
    let rest = sum_most f (i + 1) n (λ k low high. h k (omega arith) (omega arith)) in
    omega arith

pub sum_none : (f : ℕ → ℕ) (i n : ℕ) → ((k : ℕ) → i ≤ k → k < i + n → f k ≡ 0) → sum f i n ≡ 0
unfolding sum
sum_none f i zero h = refl
sum_none f i (suc n) h =
    let first = h i (omega arith) (omega arith) in
    let rest = sum_none f (i + 1) n (λ k low high. h k (omega arith) (omega arith)) in
    omega arith

pub sum_add : (f g : ℕ → ℕ) (i n : ℕ) → sum (λ k. f k + g k) i n ≡ sum f i n + sum g i n
unfolding sum
sum_add f g i zero = refl
sum_add f g i (suc n) = let rest = sum_add f g (i + 1) n in omega arith

-- a part of the sum
pub sum_part : (f : ℕ → ℕ) (i n k : ℕ) → i ≤ k → k < i + n → f k ≤ sum f i n
unfolding sum
sum_part f i zero k low high = absurd (omega arith)
sum_part f i (suc n) k low high =
    ⊎_elim (λ e. let same : f k ≡ f i = ap f e in omega arith)
    (λ w. let rest = sum_part f (i + 1) n k w.0 w.1 in omega arith)
    (first_or_rest i k n low high)

pub sum_split : (f : ℕ → ℕ) (i m n : ℕ) → sum f i (m + n) ≡ sum f i m + sum f (i + m) n
unfolding sum
sum_split f i zero n = let a : 0 + n ≡ n = omega arith in let b : i + 0 ≡ i = omega arith in rw (a, b) (omega arith)
sum_split f i (suc m) n =
    let a : suc m + n ≡ suc (m + n) = omega arith in
    let b : i + suc m ≡ i + 1 + m = omega arith in
    let rest = sum_split f (i + 1) m n in
    rw (a, b) (omega arith)

-- a table's sum by rows is its sum by columns
pub sum_exchange : (g : ℕ → ℕ → ℕ) (i m j n : ℕ) → sum (λ a. sum (g a) j n) i m ≡ sum (λ b. sum (λ a. g a b) i m) j n
unfolding sum
sum_exchange g i zero j n = sym (sum_none (λ b. 0) j n (λ k low high. refl))
sum_exchange g i (suc m) j n =
    ap (λ (x : ℕ). sum (g i) j n + x) (sum_exchange g (i + 1) m j n) ∙ sym (sum_add (g i) (λ b. sum (λ a. g a b) (i + 1) m) j n)

-- where a test holds of one number alone, what it picks is that one
pub sum_picked : (b : ℕ → Bool) (f : ℕ → ℕ) (i n k : ℕ) → i ≤ k → k < i + n → b k ≡ true → ((a : ℕ) → i ≤ a → a < i + n → b a ≡ true → a ≡ k)
    → sum (λ a. pick (b a) (f a) 0) i n ≡ f k
unfolding sum
sum_picked b f i zero k low high yes_k only = absurd (omega arith)
sum_picked b f i (suc n) k low high yes_k only =
    ⊎_elim here (λ w. later w (sum_picked b f (i + 1) n k w.0 w.1 yes_k (λ a l h x. only a (omega arith) (omega arith) x))) (first_or_rest i k n low high)
  where
    elsewhere : (a : ℕ) → i ≤ a → a < i + suc n → (a ≡ k → ⊥) → pick (b a) (f a) 0 ≡ 0
    elsewhere a l h d = go (b a) refl
      where
        go : (t : Bool) → b a ≡ t → pick t (f a) 0 ≡ 0
        go true x = absurd (d (only a l h x))
        go false x = refl

    here : k ≡ i → pick (b i) (f i) 0 + sum (λ a. pick (b a) (f a) 0) (i + 1) n ≡ f k
    here e =
        let none = sum_none (λ a. pick (b a) (f a) 0) (i + 1) n (λ a l h. elsewhere a (omega arith) (omega arith) (λ d. omega arith)) in
        let one : pick (b i) (f i) 0 ≡ f k = rw (← e, yes_k) in
        omega arith

    later : (i + 1 ≤ k) × (k < i + 1 + n) → sum (λ a. pick (b a) (f a) 0) (i + 1) n ≡ f k → pick (b i) (f i) 0 + sum (λ a. pick (b a) (f a) 0) (i + 1) n ≡ f k
    later w rest =
        let first = elsewhere i (omega arith) (omega arith) (λ d. omega arith) in
        omega arith

-- as often as the test holds
pub sum_times : (b : ℕ → Bool) (x i n : ℕ) → sum (λ a. pick (b a) x 0) i n ≡ times b i n * x
unfolding sum times
sum_times b x i zero = omega arith
sum_times b x i (suc n) = go (b i) (sum_times b x (i + 1) n)
  where
    go : (t : Bool) → sum (λ a. pick (b a) x 0) (i + 1) n ≡ times b (i + 1) n * x
        → pick t x 0 + sum (λ a. pick (b a) x 0) (i + 1) n ≡ (elim t [ true ↦ suc (times b (i + 1) n) | false ↦ times b (i + 1) n ]) * x
    go true ih = omega arith
    go false ih = omega arith

-- a run inside the n numbers from 0 on, picked out of them
pub sum_run : (f : ℕ → ℕ) (first count n : ℕ) → first + count ≤ n
    → sum (λ k. pick (both (leb first k) (ltb k (first + count))) (f k) 0) 0 n ≡ sum f first count
sum_run f first count n h =
    let g : ℕ → ℕ = λ k. pick (both (leb first k) (ltb k (first + count))) (f k) 0 in
    let size : n ≡ first + (count + (n - (first + count))) = omega arith in
    let zero_first : 0 + first ≡ first = omega arith in
    let before = sum_none g 0 first (λ k low high. rw (lt-leb first k (omega arith))) in
    let inside = sum_same g f first count (λ k low high. rw (le-leb first k low, lt-ltb k (first + count) high)) in
    let past = sum_none g (first + count) (n - (first + count)) (λ k low high. rw (le-leb first k (omega arith), le-ltb k (first + count) low)) in
    let whole = ap (sum g 0) size ∙ sum_split g 0 first (count + (n - (first + count))) in
    let rest = ap (λ (i : ℕ). sum g i (count + (n - (first + count)))) zero_first ∙ sum_split g first count (n - (first + count)) in
    omega (arith, whole, rest, before, inside, past)
