-- Counting: numbers of which none is there twice are no more than there are numbers to choose from; and what holds of each element of
-- a list holds of each element of a list that is the same up to order.
use Rattle.std.specs.Prelude.{ℕ, zero, suc, ◌≤◌, ◌<◌, ◌≡◌, ◌⊎◌, Bool, eqb, length}
use Rattle.std.proofs.Common.{arith, eq-or-lt_of_le, sym, ap, ◌∙◌, inl, inr, ⊎_elim, true≢false, eqb-true, eq-eqb}
use Rattle.std.proofs.Math.Path.{refl}
use Rattle.std.proofs.Math.Bool.{true, false}
use Rattle.std.proofs.lemmas.Bool.{false≢true}
use mathlib.Core.List.{List, [], ◌∷◌}
use Rattle.base_words.specs.Words.{both, either}
use Rattle.base_words.specs.WordsLaws.{both_true, both_make, either_true, either_false, either_first_true, either_second_true}
use Rattle.spec_rules.specs.Rows.{same_path, Binding, bit}
use Rattle.spec_rules.specs.SheetRefusals.{is_in, repeats}
use Rattle.spec_rules.specs.SplittingLaws.{All}
use Rattle.spec_file.specs.PathsLaws.{same_path_sound, same_path_refl}
use Rattle.spec_match.specs.Lists.{all_map}
use Rattle.spec_match.specs.Bindings.{total, SameUpToOrder, total_first}

-- ---- numbers of which none is there twice
without : ℕ → List ℕ → List ℕ
without x [] = []
without x (y ∷ ys) = elim (eqb x y) [ true ↦ ys | false ↦ y ∷ without x ys ]

length_without : (x : ℕ) (ys : List ℕ) → is_in x ys ≡ true → length ys ≡ suc (length (without x ys))
unfolding without is_in
length_without x [] h = absurd (false≢true h)
length_without x (y ∷ ys) h = go (eqb x y) h (length_without x ys)
  where
    go : (b : Bool) → either b (is_in x ys) ≡ true → (is_in x ys ≡ true → length ys ≡ suc (length (without x ys)))
        → suc (length ys) ≡ suc (length {A = ℕ} (elim b as (λ z. List ℕ) [ true ↦ ys | false ↦ y ∷ without x ys ]))
    go true e ih = refl
    go false e ih = ap suc (ih e)

without_keeps : (x z : ℕ) (ys : List ℕ) → (z ≡ x → ⊥) → is_in z ys ≡ true → is_in z (without x ys) ≡ true
unfolding without is_in
without_keeps x z [] n h = h
without_keeps x z (y ∷ ys) n h = go (eqb x y) refl (either_true (eqb z y) (is_in z ys) h) (without_keeps x z ys n)
  where
    go : (b : Bool) → eqb x y ≡ b → (eqb z y ≡ true) ⊎ (is_in z ys ≡ true) → (is_in z ys ≡ true → is_in z (without x ys) ≡ true)
        → is_in z (elim b as (λ w. List ℕ) [ true ↦ ys | false ↦ y ∷ without x ys ]) ≡ true
    go true e (inl f) ih = absurd (n (eqb-true z y f ∙ sym (eqb-true x y e)))
    go true e (inr f) ih = f
    go false e (inl f) ih = either_first_true (eqb z y) (is_in z (without x ys)) f
    go false e (inr f) ih = either_second_true (eqb z y) (is_in z (without x ys)) (ih f)

-- an element that is in a list is not one that is not
not_same : (x z : ℕ) (xs : List ℕ) → is_in x xs ≡ false → is_in z xs ≡ true → z ≡ x → ⊥
not_same x z xs h g e = true≢false (sym g ∙ ap (λ y. is_in y xs) e ∙ h)

pub is_in_each : (xs : List ℕ) → All (λ x. is_in x xs ≡ true) xs
unfolding is_in
is_in_each [] = tt
is_in_each (x ∷ xs) = (
  either_first_true (eqb x x) (is_in x xs) (eq-eqb x x refl),
  all_map (λ z. is_in z xs ≡ true) (λ z. either (eqb z x) (is_in z xs) ≡ true) (λ z h. either_second_true (eqb z x) (is_in z xs) h) xs (is_in_each xs),
)

-- numbers of a list, none twice, are no more than the list has
distinct_fewer : (xs ys : List ℕ) → repeats xs ≡ false → ((z : ℕ) → is_in z xs ≡ true → is_in z ys ≡ true) → length xs ≤ length ys
unfolding repeats is_in
distinct_fewer [] ys d h = omega arith
distinct_fewer (x ∷ xs) ys d h =
    let (new, rest) = either_false (is_in x xs) (repeats xs) d in
    let here : is_in x ys ≡ true = h x (either_first_true (eqb x x) (is_in x xs) (eq-eqb x x refl)) in
    omega (
      arith,
      length_without x ys here,
      distinct_fewer xs (without x ys) rest (λ z k. without_keeps x z ys (not_same x z xs new k) (h z (either_second_true (eqb z x) (is_in z xs) k))),
    )

-- f 0, .. , f (n - 1)
values : (ℕ → ℕ) → ℕ → List ℕ
values f zero = []
values f (suc n) = f n ∷ values f n

length_values : (f : ℕ → ℕ) (n : ℕ) → length (values f n) ≡ n
unfolding values
length_values f zero = refl
length_values f (suc n) = ap suc (length_values f n)

in_values : (f : ℕ → ℕ) (n k : ℕ) → k < n → is_in (f k) (values f n) ≡ true
unfolding values is_in
in_values f zero k h = absurd (omega arith)
in_values f (suc n) k h =
    ⊎_elim (λ e. either_first_true (eqb (f k) (f n)) (is_in (f k) (values f n)) (eq-eqb (f k) (f n) (ap f e)))
    (λ l. either_second_true (eqb (f k) (f n)) (is_in (f k) (values f n)) (in_values f n k l)) (eq-or-lt_of_le {n = k} {m = n} (omega arith))

all_in : (P : ℕ → Type 0) (xs : List ℕ) → All P xs → (z : ℕ) → is_in z xs ≡ true → P z
unfolding is_in
all_in P [] h z e = absurd (false≢true e)
all_in P (x ∷ xs) h z e = ⊎_elim (λ f. rw (eqb-true z x f) h.0) (λ f. all_in P xs h.1 z f) (either_true (eqb z x) (is_in z xs) e)

-- numbers of which none is there twice, each f of a number below n, are at most n
pub distinct_most : (f : ℕ → ℕ) (n : ℕ) (xs : List ℕ) → repeats xs ≡ false → All (λ x. (k : ℕ) × (k < n) × (x ≡ f k)) xs → length xs ≤ n
distinct_most f n xs d h =
    omega (
      arith,
      length_values f n,
      distinct_fewer xs (values f n) d (λ z e. let (k, l, q) = all_in (λ x. (k : ℕ) × (k < n) × (x ≡ f k)) xs h z e in rw q (in_values f n k l)),
    )

-- ---- lists that are the same up to order
module _ {A : Type 0} (same : A → A → Bool) (sound : (x y : A) → same x y ≡ true → x ≡ y) (itself : (x : A) → same x x ≡ true) (P : A → Type 0) where
  weight : A → A → ℕ
  unfolding bit
  weight x y = bit (same x y)

  weighed : (x : A) (ys : List A) → All P ys → 1 ≤ total (weight x) ys → P x
  unfolding total weight bit
  weighed x [] h l = absurd (omega arith)
  weighed x (y ∷ ys) h l = go (same x y) refl (weighed x ys h.1)
    where
      go : (b : Bool) → same x y ≡ b → (1 ≤ total (weight x) ys → P x) → P x
      go true e ih = rw (sound x y e) h.0
      go false e ih = ih (omega (arith, rw e at l))

  each_weighs : (xs : List A) → All (λ x. 1 ≤ total (weight x) xs) xs
  unfolding total weight bit
  each_weighs [] = tt
  each_weighs (x ∷ xs) = (
    rw (itself x) (omega arith),
    all_map (λ z. 1 ≤ total (weight z) xs) (λ z. 1 ≤ total (weight z) (x ∷ xs)) (λ z h. omega (arith, total_first (weight z) x xs)) xs (each_weighs xs),
  )

  pub same_all : (xs ys : List A) → SameUpToOrder xs ys → All P ys → All P xs
  same_all xs ys s h = all_map (λ x. 1 ≤ total (weight x) xs) P (λ x l. weighed x ys h (omega (arith, s (weight x)))) xs (each_weighs xs)

same_binding : Binding → Binding → Bool
unfolding same_path
same_binding b c = both (eqb b.name c.name) (same_path b.path c.path)

same_binding_sound : (b c : Binding) → same_binding b c ≡ true → b ≡ c
unfolding same_binding
same_binding_sound b c e =
    let (n, p) = both_true (eqb b.name c.name) (same_path b.path c.path) e in
    λ i. record { name = eqb-true b.name c.name n i; path = same_path_sound b.path c.path p i }

same_binding_refl : (b : Binding) → same_binding b b ≡ true
unfolding same_binding
same_binding_refl b = both_make (eqb b.name b.name) (same_path b.path b.path) (eq-eqb b.name b.name refl) (same_path_refl b.path)

pub same_bindings_all : (P : Binding → Type 0) (bs cs : List Binding) → SameUpToOrder bs cs → All P cs → All P bs
same_bindings_all P = same_all same_binding same_binding_sound same_binding_refl P
