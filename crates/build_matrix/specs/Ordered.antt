-- Rule 2 by classes: a class put into its place among others, those of tests put one after the other, and a list without its first copy
-- of a class; the paths of these are what rules puts, unites and leaves out. Rests on what crate build_table shows of classes.
use Rattle.std.specs.Prelude.{◌≡◌, Bool, ℕ, suc, ◌+◌, ◌≤◌, ◌<◌, length, take, drop}
use Rattle.std.proofs.Math.Path.{refl, ap₂}
use Rattle.std.proofs.Common.{sym, ap, ◌∙◌, arith, eqb-true, eq-eqb, ne_eqb}
use Rattle.std.proofs.Math.Bool.{true, false}
use mathlib.Core.List.{List, [], ◌∷◌, ◌++◌, map}
use Rattle.std.proofs.lemmas.Bool.{eqb-false}
use Rattle.std.proofs.Math.Dec.{eqb}
use Rattle.base_words.specs.Words.{pick}
use Rattle.spec_rules.specs.SheetFile.{patterns}
use Rattle.spec_rules.specs.SheetRefusals.{is_in}
use Rattle.spec_rules.specs.Rows.{Path, same_path}
use Rattle.spec_rules.specs.Columns.{before, put, union, without}
use Rattle.spec_rules.specs.SplittingLaws.{All}
use Rattle.build_table.specs.Standing.{path_of, class_of}
use Rattle.build_table.specs.ClassLaws.{class_known, class_of_class, same_class_path, same_path_class_lem}
use Rattle.build_table.specs.Seen.{cell_at}
use Rattle.build_matrix.specs.Live.{IsClass}
use Rattle.build_matrix.specs.Lists.{first_place}

-- class k put among classes, before those that its path comes before
unfoldable pub put_class : (ℕ → ℕ → Bool) → ℕ → List ℕ → List ℕ
put_class first k [] = k ∷ []
put_class first k (q ∷ qs) = pick (eqb q k) (q ∷ qs) (pick (first k q) (k ∷ q ∷ qs) (q ∷ put_class first k qs))

-- the classes of tests, the last first
unfoldable pub put_each : (ℕ → ℕ → Bool) → (ℕ → ℕ) → List ℕ → List ℕ → List ℕ
unfolding put_class
put_each first class [] ks = ks
put_each first class (q ∷ qs) ks = put_class first (class q) (put_each first class qs ks)

-- the order of the paths of classes
abbrev pub path_before : List ℕ → ℕ → ℕ → Bool
path_before s a b = before (path_of s a) (path_of s b)

-- the columns of tests, in order
abbrev pub classes_for : List ℕ → List ℕ → List ℕ
classes_for s tests = put_each (path_before s) (class_of s) tests []

-- without the first copy of k
unfoldable pub without_class : ℕ → List ℕ → List ℕ
without_class k [] = []
without_class k (q ∷ qs) = pick (eqb q k) qs (q ∷ without_class k qs)

-- ---- classes and their paths
pub is_class : (s : List ℕ) (q : ℕ) → q < patterns s → IsClass s (class_of s q)
is_class s q h = record { known = class_known s q h; itself = class_of_class s q h }

pub class_path : (s : List ℕ) (q : ℕ) → q < patterns s → path_of s (class_of s q) ≡ path_of s q
class_path s q h = same_class_path s (class_of s q) q (class_known s q h) h (class_of_class s q h)

-- two classes have the same path where they are the same
pub same_class : (s : List ℕ) (k q : ℕ) → IsClass s k → IsClass s q → same_path (path_of s k) (path_of s q) ≡ eqb q k
same_class s k q a b = same_path_class_lem s k q a.known b.known ∙ ap₂ eqb a.itself b.itself ∙ swap (eqb q k) refl
  where
    swap : (c : Bool) → eqb q k ≡ c → eqb k q ≡ eqb q k
    swap true e = eq-eqb k q (sym (eqb-true q k e)) ∙ sym e
    swap false e = ne_eqb k q (λ d. eqb-false q k e (sym d)) ∙ sym e

module _ (s : List ℕ) where
  pub put_classes : (k : ℕ) (ks : List ℕ) → IsClass s k → All (IsClass s) ks → All (IsClass s) (put_class (path_before s) k ks)
  unfolding put_class
  put_classes k [] a h = (a, tt)
  put_classes k (q ∷ ks) a h = go (eqb q k) (before (path_of s k) (path_of s q)) (put_classes k ks a h.1)
    where
      go : (x y : Bool) → All (IsClass s) (put_class (path_before s) k ks) → All (IsClass s) (pick x (q ∷ ks) (pick y (k ∷ q ∷ ks) (q ∷ put_class (path_before s) k ks)))
      go true y ih = h
      go false true ih = (a, h)
      go false false ih = (h.0, ih)

  pub put_paths : (k : ℕ) (ks : List ℕ) → IsClass s k → All (IsClass s) ks → map (path_of s) (put_class (path_before s) k ks) ≡ put (path_of s k) (map (path_of s) ks)
  unfolding put_class put
  put_paths k [] a h = refl
  put_paths k (q ∷ ks) a h = go (eqb q k) refl (before (path_of s k) (path_of s q)) refl (put_paths k ks a h.1)
    where
      go : (x : Bool) → eqb q k ≡ x → (y : Bool) → before (path_of s k) (path_of s q) ≡ y
          → map (path_of s) (put_class (path_before s) k ks) ≡ put (path_of s k) (map (path_of s) ks)
          → map (path_of s) (put_class (path_before s) k (q ∷ ks)) ≡ put (path_of s k) (map (path_of s) (q ∷ ks))
      go true e y f ih = rw (e, same_class s k q a h.0 ∙ e, put)
      go false e true f ih = rw (e, f, same_class s k q a h.0 ∙ e, put, f)
      go false e false f ih = rw (e, f, same_class s k q a h.0 ∙ e, put, f) (ap (λ (ps : List Path). path_of s q ∷ ps) ih)

  abbrev Known : ℕ → Type 0
  Known q = q < patterns s

  pub each_classes : (qs ks : List ℕ) → All Known qs → All (IsClass s) ks → All (IsClass s) (put_each (path_before s) (class_of s) qs ks)
  unfolding put_each
  each_classes [] ks k h = h
  each_classes (q ∷ qs) ks k h = put_classes (class_of s q) (put_each (path_before s) (class_of s) qs ks) (is_class s q k.0) (each_classes qs ks k.1 h)

  -- "Columns are the union over the rows"
  pub each_union : (qs : List ℕ) → All Known qs → map (path_of s) (put_each (path_before s) (class_of s) qs []) ≡ union (map (cell_at s) qs)
  unfolding put_each union
  each_union [] k = refl
  each_union (q ∷ qs) k =
      put_paths (class_of s q) (put_each (path_before s) (class_of s) qs []) (is_class s q k.0) (each_classes qs [] k.1 tt)
      ∙ ap₂ put (class_path s q k.0) (each_union qs k.1)

  pub without_classes : (k : ℕ) (ks : List ℕ) → All (IsClass s) ks → All (IsClass s) (without_class k ks)
  unfolding without_class
  without_classes k [] h = tt
  without_classes k (q ∷ ks) h = go (eqb q k) (without_classes k ks h.1)
    where
      go : (x : Bool) → All (IsClass s) (without_class k ks) → All (IsClass s) (pick x ks (q ∷ without_class k ks))
      go true ih = h.1
      go false ih = (h.0, ih)

  pub without_paths : (k : ℕ) (ks : List ℕ) → IsClass s k → All (IsClass s) ks → map (path_of s) (without_class k ks) ≡ without (path_of s k) (map (path_of s) ks)
  unfolding without_class without
  without_paths k [] a h = refl
  without_paths k (q ∷ ks) a h = go (eqb q k) refl (without_paths k ks a h.1)
    where
      go : (x : Bool) → eqb q k ≡ x → map (path_of s) (without_class k ks) ≡ without (path_of s k) (map (path_of s) ks)
          → map (path_of s) (without_class k (q ∷ ks)) ≡ without (path_of s k) (map (path_of s) (q ∷ ks))
      go true e ih = rw (e, same_class s k q a h.0 ∙ e, without)
      go false e ih = rw (e, same_class s k q a h.0 ∙ e, without) (ap (λ (ps : List Path). path_of s q ∷ ps) ih)

pub put_most : (first : ℕ → ℕ → Bool) (k : ℕ) (ks : List ℕ) → length (put_class first k ks) ≤ length ks + 1
unfolding put_class
put_most first k [] = omega arith
put_most first k (q ∷ ks) = go (eqb q k) (first k q) (put_most first k ks)
  where
    go : (x y : Bool) → length (put_class first k ks) ≤ length ks + 1
        → length (pick x (q ∷ ks) (pick y (k ∷ q ∷ ks) (q ∷ put_class first k ks))) ≤ length (q ∷ ks) + 1
    go true y ih = omega arith
    go false true ih = omega arith
    go false false ih = omega arith

pub each_most : (first : ℕ → ℕ → Bool) (class : ℕ → ℕ) (qs ks : List ℕ) → length (put_each first class qs ks) ≤ length qs + length ks
unfolding put_each
each_most first class [] ks = omega arith
each_most first class (q ∷ qs) ks = omega (arith, put_most first (class q) (put_each first class qs ks), each_most first class qs ks)

pub each_append : (first : ℕ → ℕ → Bool) (class : ℕ → ℕ) (xs ys ks : List ℕ) → put_each first class (xs ++ ys) ks ≡ put_each first class xs (put_each first class ys ks)
unfolding put_each
each_append first class [] ys ks = refl
each_append first class (x ∷ xs) ys ks = ap (put_class first (class x)) (each_append first class xs ys ks)

-- without k: all up to its first place, and all behind it
pub without_parts : (k : ℕ) (ks : List ℕ) → without_class k ks ≡ take (first_place k ks) ks ++ drop (suc (first_place k ks)) ks
unfolding without_class first_place
without_parts k [] = refl
without_parts k (q ∷ ks) = go (eqb q k) refl (without_parts k ks)
  where
    go : (b : Bool) → eqb q k ≡ b → without_class k ks ≡ take (first_place k ks) ks ++ drop (suc (first_place k ks)) ks
        → without_class k (q ∷ ks) ≡ take (first_place k (q ∷ ks)) (q ∷ ks) ++ drop (suc (first_place k (q ∷ ks))) (q ∷ ks)
    go true e ih = rw (e, first_place)
    go false e ih = rw (e, first_place) (ap (λ (l : List ℕ). q ∷ l) ih)

-- a class that is there is one less
pub without_one : (k : ℕ) (ks : List ℕ) → is_in k ks ≡ true → length (without_class k ks) + 1 ≡ length ks
unfolding without_class is_in
without_one k [] h = let z : ◌≡◌ {A = Bool} false true = h in let w : ◌≡◌ {A = ℕ} 0 1 = cc in absurd (omega arith)
without_one k (q ∷ ks) h = go (eqb q k) refl (without_one k ks)
  where
    go : (b : Bool) → eqb q k ≡ b → (is_in k ks ≡ true → length (without_class k ks) + 1 ≡ length ks) → length (without_class k (q ∷ ks)) + 1 ≡ length (q ∷ ks)
    go true e ih = rw e (omega arith)
    go false e ih =
        let i : is_in k ks ≡ true = rw (ne_eqb k q (λ d. eqb-false q k e (sym d))) at h in
        rw e (omega (arith, ih i))

pub place_inside : (k : ℕ) (ks : List ℕ) → is_in k ks ≡ true → first_place k ks < length ks
unfolding first_place is_in
place_inside k [] h = let z : ◌≡◌ {A = Bool} false true = h in let w : ◌≡◌ {A = ℕ} 0 1 = cc in absurd (omega arith)
place_inside k (q ∷ ks) h = go (eqb q k) refl (place_inside k ks)
  where
    go : (b : Bool) → eqb q k ≡ b → (is_in k ks ≡ true → first_place k ks < length ks) → first_place k (q ∷ ks) < length (q ∷ ks)
    go true e ih = rw (e, first_place) (omega arith)
    go false e ih =
        let i : is_in k ks ≡ true = rw (ne_eqb k q (λ d. eqb-false q k e (sym d))) at h in
        rw (e, first_place) (omega (arith, ih i))
