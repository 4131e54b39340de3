-- Path order: it is a strict order, two paths that part in the index of a step are one before the other, and of paths any two of which
-- are the same or part so the union is in order.
use Rattle.std.specs.Prelude.{ℕ, ◌≤◌, ◌<◌, ◌≡◌, ◌⊎◌, Bool, eqb}
use Rattle.std.proofs.Common.{arith, sym, ap, ◌∙◌, true≢false}
use Rattle.std.proofs.Math.Path.{refl}
use Rattle.std.proofs.Math.Logic.{inl, inr, ⊎_elim}
use Rattle.std.proofs.Math.Bool.{true, false}
use Rattle.std.proofs.lemmas.Bool.{false≢true}
use mathlib.Core.List.{List, [], ◌∷◌, ◌++◌}
use Rattle.std.proofs.Math.Option.{Option, none, some}
use Rattle.std.proofs.Math.Dec.{ltb}
use borrow.Author.Tests.{eqb-true, eq-eqb, ltb-true, ltb-false, lt-ltb, le-ltb}
use Rattle.base_words.specs.Words.{either}
use Rattle.base_words.specs.WordsLaws.{both_true, either_true, either_first_true, either_second_true}
use Rattle.spec_rules.specs.Rows.{Step, Path, same_path, Cell, Row}
use Rattle.spec_rules.specs.Columns.{step_index, before, put, union, without, count, better, choice}
use Rattle.spec_rules.specs.SplittingLaws.{All, not_true_false}
use Rattle.spec_match.specs.Lists.{all_append, all_map, all_both}
use Rattle.spec_match.specs.Paths.{same_path_sound, same_path_refl, same_path_false}
use Rattle.spec_match.specs.Apart.{Apart, apart_sym, is_column}

-- ---- `before` is a strict order, and total on paths that are apart
module _ (s t : Step) (p q : Path) where
  before_less : step_index s < step_index t → before (s ∷ p) (t ∷ q) ≡ true
  unfolding before
  before_less l = rw (lt-ltb (step_index s) (step_index t) l, before)

  before_alike : step_index s ≡ step_index t → before (s ∷ p) (t ∷ q) ≡ before p q
  unfolding before
  before_alike e = rw (le-ltb (step_index s) (step_index t) (omega arith), eq-eqb (step_index s) (step_index t) e, before)

  before_split : before (s ∷ p) (t ∷ q) ≡ true → (step_index s < step_index t) ⊎ ((step_index s ≡ step_index t) × (before p q ≡ true))
  unfolding before
  before_split h = go (ltb (step_index s) (step_index t)) refl
    where
      go : (b : Bool) → ltb (step_index s) (step_index t) ≡ b → (step_index s < step_index t) ⊎ ((step_index s ≡ step_index t) × (before p q ≡ true))
      go true e = inl (ltb-true (step_index s) (step_index t) e)
      go false e =
          let (a, b) = both_true (eqb (step_index s) (step_index t)) (before p q) (rw (e, before) at h) in
          inr (eqb-true (step_index s) (step_index t) a, b)

pub before_trans : (p q r : Path) → before p q ≡ true → before q r ≡ true → before p r ≡ true
before_trans [] [] r h k = k
before_trans [] (t ∷ q) [] h k = absurd (false≢true (unfold before in k))
before_trans [] (t ∷ q) (u ∷ r) h k = unfold before in refl
before_trans (s ∷ p) [] r h k = absurd (false≢true (unfold before in h))
before_trans (s ∷ p) (t ∷ q) [] h k = absurd (false≢true (unfold before in k))
before_trans (s ∷ p) (t ∷ q) (u ∷ r) h k = go (before_split s t p q h) (before_split t u q r k) (before_trans p q r)
  where
    go : (step_index s < step_index t) ⊎ ((step_index s ≡ step_index t) × (before p q ≡ true)) → (step_index t < step_index u) ⊎ ((step_index t ≡ step_index u) × (before q r ≡ true))
        → (before p q ≡ true → before q r ≡ true → before p r ≡ true) → before (s ∷ p) (u ∷ r) ≡ true
    go (inl a) (inl b) ih = before_less s u p r (omega arith)
    go (inl a) (inr b) ih = before_less s u p r (omega (arith, b.0))
    go (inr a) (inl b) ih = before_less s u p r (omega (arith, a.0))
    go (inr a) (inr b) ih = before_alike s u p r (a.0 ∙ b.0) ∙ ih a.1 b.1

pub before_itself : (p : Path) → before p p ≡ false
before_itself [] = unfold before in refl
before_itself (s ∷ p) = before_alike s s p p refl ∙ before_itself p

pub before_one_way : (p q : Path) → before p q ≡ true → before q p ≡ false
before_one_way p q h = not_true_false (before q p) (λ k. true≢false (sym (before_trans p q p h k) ∙ before_itself p))

before_shared : (p : Path) (s t : Step) (x y : Path) → step_index s < step_index t → before (p ++ s ∷ x) (p ++ t ∷ y) ≡ true
before_shared [] s t x y l = before_less s t x y l
before_shared (u ∷ p) s t x y l = before_alike u u (p ++ s ∷ x) (p ++ t ∷ y) refl ∙ before_shared p s t x y l

pub apart_before : (p q : Path) → Apart p q → (before p q ≡ true) ⊎ (before q p ≡ true)
apart_before p q a = go (ltb (step_index a.one) (step_index a.two)) refl
  where
    less : step_index a.two ≤ step_index a.one → (step_index a.one ≡ step_index a.two → ⊥) → step_index a.two < step_index a.one
    less l d = omega (arith, d)

    go : (b : Bool) → ltb (step_index a.one) (step_index a.two) ≡ b → (before p q ≡ true) ⊎ (before q p ≡ true)
    go true e = inl (rw (a.left, a.right) (before_shared a.shared a.one a.two a.end_one a.end_two (ltb-true (step_index a.one) (step_index a.two) e)))
    go false e =
        inr (rw (a.right, a.left)
        (before_shared a.shared a.two a.one a.end_two a.end_one (less (ltb-false (step_index a.one) (step_index a.two) e) a.differ)))

-- ---- columns pairwise apart
abbrev pub TidyPaths : List Path → Type 0
TidyPaths [] = Unit {0}
TidyPaths (p ∷ ps) = All (Apart p) ps × TidyPaths ps

-- the same, or apart
abbrev pub SameOrApart : Path → Path → Type 0
SameOrApart p q = (p ≡ q) ⊎ Apart p q

pub column_apart : (p : Path) (ps : List Path) → TidyPaths ps → is_column p ps ≡ true → All (SameOrApart p) ps
unfolding is_column
column_apart p [] h e = tt
column_apart p (q ∷ ps) h e = go (same_path p q) refl (column_apart p ps h.1)
  where
    from_later : (zs : List Path) → All (SameOrApart p) zs → All (Apart q) zs → is_column p zs ≡ true → Apart p q
    from_later [] a b e = absurd (false≢true e)
    from_later (z ∷ zs) a b e = at (either_true (same_path p z) (is_column p zs) e) (from_later zs a.1 b.1)
      where
        at : (same_path p z ≡ true) ⊎ (is_column p zs ≡ true) → (is_column p zs ≡ true → Apart p q) → Apart p q
        at (inl x) ih = rw (same_path_sound p z x) (apart_sym b.0)
        at (inr x) ih = ih x

    go : (b : Bool) → same_path p q ≡ b → (is_column p ps ≡ true → All (SameOrApart p) ps) → All (SameOrApart p) (q ∷ ps)
    go true x ih =
        let y = same_path_sound p q x in
        (inl y, all_map (Apart q) (SameOrApart p) (λ z a. inr (rw y a)) ps h.0)
    go false x ih = let k : is_column p ps ≡ true = rw x at e in let a = ih k in (inr (from_later ps a h.0 k), a)

-- a tested column is gone: the others are apart from it
pub without_apart : (p : Path) (ps : List Path) → TidyPaths ps → is_column p ps ≡ true → All (Apart p) (without p ps) × TidyPaths (without p ps)
unfolding without is_column
without_apart p [] h e = absurd (false≢true e)
without_apart p (q ∷ ps) h e = go (same_path p q) refl (column_apart p (q ∷ ps) h e) (without_apart p ps h.1)
  where
    fewer : (P : Path → Type 0) (zs : List Path) → All P zs → All P (without p zs)
    fewer P [] a = tt
    fewer P (z ∷ zs) a = at (same_path p z) refl (fewer P zs a.1)
      where
        at : (b : Bool) → same_path p z ≡ b → All P (without p zs) → All P (without p (z ∷ zs))
        at true x ih = rw (x, without) a.1
        at false x ih = rw (x, without) (a.0, ih)

    go : (b : Bool) → same_path p q ≡ b → All (SameOrApart p) (q ∷ ps) → (is_column p ps ≡ true → All (Apart p) (without p ps) × TidyPaths (without p ps))
        → All (Apart p) (without p (q ∷ ps)) × TidyPaths (without p (q ∷ ps))
    go true x a ih = rw (x, without) (rw (same_path_sound p q x) h.0, h.1)
    go false x a ih =
        let (b, c) = ih (rw x at e) in
        rw (x, without) ((other a.0, b), (fewer (Apart q) ps h.0, c))
      where
        other : SameOrApart p q → Apart p q
        other (inl y) = absurd (same_path_false p q x y)
        other (inr y) = y

-- ---- paths in order
abbrev pub SortedPaths : List Path → Type 0
SortedPaths [] = Unit {0}
SortedPaths (p ∷ ps) = All (λ q. before p q ≡ true) ps × SortedPaths ps

-- Of paths of which any two are the same or apart, the union is in order.
module _ (Q : Path → Type 0) (beside : (p q : Path) → Q p → Q q → SameOrApart p q) where
  put_all : (P : Path → Type 0) (p : Path) (ps : List Path) → P p → All P ps → All P (put p ps)
  unfolding put
  put_all P p [] a h = (a, tt)
  put_all P p (q ∷ ps) a h = go (same_path p q) refl (before p q) refl (put_all P p ps a h.1)
    where
      go : (b : Bool) → same_path p q ≡ b → (c : Bool) → before p q ≡ c → All P (put p ps) → All P (put p (q ∷ ps))
      go true x c y ih = rw (x, put) h
      go false x true y ih = rw (x, y, put) (a, h)
      go false x false y ih = rw (x, y, put) (h.0, ih)

  put_sorted : (p : Path) (ps : List Path) → Q p → All Q ps → SortedPaths ps → SortedPaths (put p ps)
  unfolding put
  put_sorted p [] a h t = (tt, tt)
  put_sorted p (q ∷ ps) a h t = go (same_path p q) refl (before p q) refl (put_sorted p ps a h.1 t.1)
    where
      after_it : before p q ≡ false → SameOrApart p q → (p ≡ q → ⊥) → before q p ≡ true
      after_it y (inl e) d = absurd (d e)
      after_it y (inr w) d = ⊎_elim (λ b. absurd (true≢false (sym b ∙ y))) (λ b. b) (apart_before p q w)

      go : (b : Bool) → same_path p q ≡ b → (c : Bool) → before p q ≡ c → SortedPaths (put p ps) → SortedPaths (put p (q ∷ ps))
      go true x c y ih = rw (x, put) t
      go false x true y ih =
          rw (x, y, put) ((y, all_map (λ z. before q z ≡ true) (λ z. before p z ≡ true) (λ z b. before_trans p q z y b) ps t.0), t)
      go false x false y ih = rw (x, y, put) (put_all (λ z. before q z ≡ true) p ps (after_it y (beside p q a h.0) (same_path_false p q x)) t.0, ih)

  pub union_all : (cs : List Cell) → All (λ c. Q c.path) cs → All Q (union cs)
  unfolding union
  union_all [] h = tt
  union_all (c ∷ cs) h = put_all Q c.path (union cs) h.0 (union_all cs h.1)

  pub union_sorted : (cs : List Cell) → All (λ c. Q c.path) cs → SortedPaths (union cs)
  unfolding union
  union_sorted [] h = tt
  union_sorted (c ∷ cs) h = put_sorted c.path (union cs) h.0 (union_all cs h.1) (union_sorted cs h.1)

  sorted_tidy : (ps : List Path) → All Q ps → SortedPaths ps → TidyPaths ps
  sorted_tidy [] h t = tt
  sorted_tidy (p ∷ ps) h t = (all_both Q (λ q. before p q ≡ true) (Apart p) apart_then ps h.1 t.0, sorted_tidy ps h.1 t.1)
    where
      apart_then : (q : Path) → Q q → before p q ≡ true → Apart p q
      apart_then q a b = ⊎_elim (λ e. absurd (true≢false (sym b ∙ ap (before p) (sym e) ∙ before_itself p))) (λ w. w) (beside p q h.0 a)

  pub union_tidy : (cs : List Cell) → All (λ c. Q c.path) cs → TidyPaths (union cs)
  union_tidy cs h = sorted_tidy (union cs) (union_all cs h) (union_sorted cs h)

pub tidy_paths_append : (ps qs : List Path) → TidyPaths ps → TidyPaths qs → All (λ p. All (Apart p) qs) ps → TidyPaths (ps ++ qs)
tidy_paths_append [] qs a b h = b
tidy_paths_append (p ∷ ps) qs a b h = (all_append (Apart p) ps qs a.0 h.0, tidy_paths_append ps qs a.1 b h.1)

-- ---- the same or apart, below a step and below a path
pub apart_under : (u : Step) (x y : Path) → Apart x y → Apart (u ∷ x) (u ∷ y)
apart_under u x y a =
    record {
      shared = u ∷ a.shared;
      one = a.one;
      two = a.two;
      end_one = a.end_one;
      end_two = a.end_two;
      left = ap (λ z. u ∷ z) a.left;
      right = ap (λ z. u ∷ z) a.right;
      differ = a.differ;
    }

pub apart_at : (u w : Step) (x y : Path) → (step_index u ≡ step_index w → ⊥) → Apart (u ∷ x) (w ∷ y)
apart_at u w x y d = record { shared = []; one = u; two = w; end_one = x; end_two = y; left = refl; right = refl; differ = d }

pub under_same : (u : Step) (x y : Path) → SameOrApart x y → SameOrApart (u ∷ x) (u ∷ y)
under_same u x y (inl e) = inl (ap (λ z. u ∷ z) e)
under_same u x y (inr a) = inr (apart_under u x y a)

pub start_same : (p x y : Path) → SameOrApart x y → SameOrApart (p ++ x) (p ++ y)
start_same [] x y h = h
start_same (w ∷ p) x y h = under_same w (p ++ x) (p ++ y) (start_same p x y h)

-- ---- a chosen column is one of the columns
better_in : (o : Option Path) (n : ℕ) (ps : List Path) (rs : List Row) (p : Path) → better o n ps rs ≡ some p → (o ≡ some p) ⊎ (is_column p ps ≡ true)
unfolding better is_column
better_in o n [] rs p e = inl e
better_in o n (z ∷ ps) rs p e = go (ltb n (count z rs)) refl (better_in (some z) (count z rs) ps rs p) (better_in o n ps rs p)
  where
    same_path_lem : (a b : Path) → ◌≡◌ {A = Option Path} (some a) (some b) → b ≡ a
    same_path_lem a b y = cc

    later : is_column p ps ≡ true → either (same_path p z) (is_column p ps) ≡ true
    later h = either_second_true (same_path p z) (is_column p ps) h

    go : (b : Bool) → ltb n (count z rs) ≡ b → (better (some z) (count z rs) ps rs ≡ some p → (some z ≡ some p) ⊎ (is_column p ps ≡ true))
        → (better o n ps rs ≡ some p → (o ≡ some p) ⊎ (is_column p ps ≡ true)) → (o ≡ some p) ⊎ (either (same_path p z) (is_column p ps) ≡ true)
    go true y ih jh = found (ih (rw (y, better) at e))
      where
        found : (◌≡◌ {A = Option Path} (some z) (some p)) ⊎ (is_column p ps ≡ true) → (o ≡ some p) ⊎ (either (same_path p z) (is_column p ps) ≡ true)
        found (inl a) = inr (either_first_true (same_path p z) (is_column p ps) (rw (same_path_lem z p a) (same_path_refl z)))
        found (inr b) = inr (later b)
    go false y ih jh = found (jh (rw (y, better) at e))
      where
        found : (o ≡ some p) ⊎ (is_column p ps ≡ true) → (o ≡ some p) ⊎ (either (same_path p z) (is_column p ps) ≡ true)
        found (inl a) = inl a
        found (inr b) = inr (later b)

pub choice_in : (ps : List Path) (rs : List Row) (p : Path) → choice ps rs ≡ some p → is_column p ps ≡ true
unfolding choice
choice_in ps rs p e = go (better_in none 0 ps rs p e)
  where
    go : (◌≡◌ {A = Option Path} none (some p)) ⊎ (is_column p ps ≡ true) → is_column p ps ≡ true
    go (inl a) = let z : false ≡ true = cc in absurd (false≢true z)
    go (inr b) = b
