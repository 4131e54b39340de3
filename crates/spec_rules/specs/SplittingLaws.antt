-- Laws of rule 4: tests that are the same, the tests that a pattern joins, and the filters at one row more. With them the pass down the
-- rows is the filters (proofs/SplittingLaws.antt).
use Prim.Native.Nat.{ℕ, zero, suc, ◌+◌, ◌-◌, ◌≤◌, ◌<◌}
use native.Mathlib.Omega.{arith}
use Rattle.std.proofs.Math.Path.{◌≡◌, refl, sym, ap, ap₂}
use Rattle.std.proofs.Common.{◌∙◌}
use Rattle.std.specs.Prelude.{Bool, ltb}
use Rattle.std.proofs.Math.Bool.{true, false}
use Rattle.std.proofs.lemmas.Bool.{false≢true}
use mathlib.Core.List.{List, [], ◌∷◌, ◌++◌, append-nil, append_assoc}
use Rattle.std.proofs.Math.Option.{Option, none, some}
use Rattle.std.proofs.Math.Dec.{eqb, leb}
use borrow.Author.Tests.{eqb-true, eqb-false, leb-true, leb-false, le-leb, lt-leb, ltb-true, lt-ltb, le-ltb}
use Rattle.base_words.specs.Words.{both, either, pick}
use Rattle.base_words.specs.WordsLaws.{both_true, both_make, both_first_false, either_false, same_text_refl, same_text_sound, same_text_sym}
use Rattle.spec_rules.specs.Patterns.{Pat, discard, variable, assign, integer, bytestring, listed, tailed, constructor, opened, many}
use Rattle.spec_rules.specs.Rows.{Path, Row, opened_columns}
use Rattle.spec_rules.specs.Columns.{test_at}
use Rattle.spec_rules.specs.Splitting.{Test, Constr, Int, Bytes, ListOf, ListWithTail, test_fields, same_test, rising, joined, tailless_length, larger, longest, column, open_row, text_start, Split, Met, is_met, meet, meet_all, covers, default_rows, case_rows, case_opens, filtered}

-- ---- tests that are the same
head_of : List ℕ → ℕ
head_of [] = 0
head_of (n ∷ ns) = n

test_of : List ℕ → Test
unfolding head_of
test_of [] = Constr 0
test_of (k ∷ w) =
    pick (eqb k 0) (Constr (head_of w))
    (pick (eqb k 1) (Int w)
    (pick (eqb k 2) (Bytes w)
    (pick (eqb k 3) (ListOf (head_of w))
    (ListWithTail (head_of w)))))

test_of_fields : (t : Test) → test_of (test_fields t) ≡ t
unfolding test_of test_fields head_of
test_of_fields (Constr a) = refl
test_of_fields (Int w) = refl
test_of_fields (Bytes w) = refl
test_of_fields (ListOf n) = refl
test_of_fields (ListWithTail n) = refl

pub same_test_sound : (t u : Test) → same_test t u ≡ true → t ≡ u
unfolding same_test
same_test_sound t u e = sym (test_of_fields t) ∙ ap test_of (same_text_sound (test_fields t) (test_fields u) e) ∙ test_of_fields u

pub same_test_refl : (t : Test) → same_test t t ≡ true
unfolding same_test
same_test_refl t = same_text_refl (test_fields t)

pub same_test_make : (t u : Test) → t ≡ u → same_test t u ≡ true
same_test_make t u e = rw e (same_test_refl u)

pub same_test_sym : (t u : Test) → same_test t u ≡ same_test u t
unfolding same_test
same_test_sym t u = same_text_sym (test_fields t) (test_fields u)

-- ---- Booleans
pub either_none : (a : Bool) → either a false ≡ a
either_none true = refl
either_none false = refl

pub either_assoc : (a b c : Bool) → either (either a b) c ≡ either a (either b c)
either_assoc true b c = refl
either_assoc false b c = refl

pub both_end : (a : Bool) → both a true ≡ a
both_end true = refl
both_end false = refl

either_absorb : (a b c : Bool) → (b ≡ true → a ≡ true) → either a c ≡ either a (either b c)
either_absorb true b c h = refl
either_absorb false true c h = absurd (false≢true (h refl))
either_absorb false false c h = refl

pub not_true_false : (b : Bool) → (b ≡ true → ⊥) → b ≡ false
not_true_false true h = absurd (h refl)
not_true_false false h = refl

-- ---- a test among tests, and among the cases met
unfoldable pub among : Test → List Test → Bool
unfolding same_test
among t [] = false
among t (u ∷ us) = either (same_test t u) (among t us)

pub among_append : (t : Test) (us ws : List Test) → among t (us ++ ws) ≡ either (among t us) (among t ws)
unfolding among
among_append t [] ws = refl
among_append t (u ∷ us) ws = rw (among_append t us ws) (sym (either_assoc (same_test t u) (among t us) (among t ws)))

abbrev pub met_at : ℕ → Test → Met
met_at start t = record { test = t; start = start }

pub is_met_append : (t : Test) (ms : List Met) (m : Met) → is_met t (ms ++ m ∷ []) ≡ either (is_met t ms) (same_test t m.test)
unfolding is_met
is_met_append t [] m = either_none (same_test t m.test)
is_met_append t (n ∷ ms) m = rw (is_met_append t ms m) (sym (either_assoc (same_test t n.test) (is_met t ms) (same_test t m.test)))

pub is_met_meet : (t : Test) (start : ℕ) (ms : List Met) (us : List Test) → is_met t (meet start ms us) ≡ either (is_met t ms) (among t us)
unfolding meet among
is_met_meet t start ms [] = sym (either_none (is_met t ms))
is_met_meet t start ms (u ∷ us) = go (is_met u ms) refl (λ ns. is_met_meet t start ns us)
  where
    known : is_met u ms ≡ true → same_test t u ≡ true → is_met t ms ≡ true
    known x s = rw (same_test_sound t u s) x

    go : (b : Bool) → is_met u ms ≡ b → ((ns : List Met) → is_met t (meet start ns us) ≡ either (is_met t ns) (among t us))
        → is_met t (meet start ms (u ∷ us)) ≡ either (is_met t ms) (either (same_test t u) (among t us))
    go true x ih = rw (x, meet) (ih ms ∙ either_absorb (is_met t ms) (same_test t u) (among t us) (known x))
    go false x ih =
        rw (x, meet)
        (ih (ms ++ met_at start u ∷ [])
        ∙ ap (λ b. either b (among t us)) (is_met_append t ms (met_at start u))
        ∙ either_assoc (is_met t ms) (same_test t u) (among t us))

-- ---- rising tests: f k, f (k + 1), .. , n of them
module _ (f : ℕ → Test) where
  pub rising_other : (t : Test) → ((i : ℕ) → same_test t (f i) ≡ false) → (k n : ℕ) → among t (rising f k n) ≡ false
  unfolding among rising
  rising_other t h k zero = refl
  rising_other t h k (suc n) = rw (h k) (rising_other t h (k + 1) n)

  pub rising_same : ((i j : ℕ) → same_test (f i) (f j) ≡ eqb i j) → (j k n : ℕ) → among (f j) (rising f k n) ≡ both (leb k j) (ltb j (k + n))
  unfolding among rising
  rising_same h j k zero = sym (empty (leb k j) refl)
    where
      empty : (b : Bool) → leb k j ≡ b → both b (ltb j (k + 0)) ≡ false
      empty true e = le-ltb j (k + 0) (omega (arith, leb-true k j e))
      empty false e = refl
  rising_same h j k (suc n) = rw (h j k, rising_same h j (k + 1) n) (go (eqb j k) refl (leb (k + 1) j) refl)
    where
      go : (b : Bool) → eqb j k ≡ b → (c : Bool) → leb (k + 1) j ≡ c → either b (both c (ltb j (k + 1 + n))) ≡ both (leb k j) (ltb j (k + suc n))
      go true x c y =
          let e = eqb-true j k x in
          sym (both_make (leb k j) (ltb j (k + suc n)) (le-leb k j (omega arith)) (lt-ltb j (k + suc n) (omega arith)))
      go false x true y =
          let l = leb-true (k + 1) j y in
          let e : k + 1 + n ≡ k + suc n = omega arith in
          rw (le-leb k j (omega arith), e)
      go false x false y =
          let l = leb-false (k + 1) j y in
          sym (both_first_false (leb k j) (ltb j (k + suc n)) (lt-leb k j (below (eqb-false j k x) l)))
        where
          below : (j ≡ k → ⊥) → j < k + 1 → j < k
          below d l = omega (arith, d)

list_same : (i j : ℕ) → same_test (ListOf i) (ListOf j) ≡ eqb i j
unfolding same_test
list_same i j = both_end (eqb i j)

tail_same : (i j : ℕ) → same_test (ListWithTail i) (ListWithTail j) ≡ eqb i j
unfolding same_test
tail_same i j = both_end (eqb i j)

list_not_tail : (i j : ℕ) → same_test (ListOf i) (ListWithTail j) ≡ false
unfolding same_test
list_not_tail i j = refl

tail_not_list : (i j : ℕ) → same_test (ListWithTail i) (ListOf j) ≡ false
unfolding same_test
tail_not_list i j = refl

-- ---- what a pattern joins, it covers, and the other way round for the tests up to the longest lengths
abbrev pub InRange : ℕ → ℕ → Test → Type 0
InRange tailless tails (Constr a) = Unit {0}
InRange tailless tails (Int w) = Unit {0}
InRange tailless tails (Bytes w) = Unit {0}
InRange tailless tails (ListOf n) = n < tailless
InRange tailless tails (ListWithTail n) = n < tails

module _ (tailless tails : ℕ) where
  up_to : (j k end : ℕ) → j < end → both (leb k j) (ltb j (k + (end - k))) ≡ leb k j
  up_to j k end h = go (leb k j) refl
    where
      go : (b : Bool) → leb k j ≡ b → both b (ltb j (k + (end - k))) ≡ b
      go true e = let l = leb-true k j e in lt-ltb j (k + (end - k)) (omega arith)
      go false e = refl

  in_list : (j k : ℕ) → among (ListOf j) (rising ListOf k (tailless - k) ++ rising ListWithTail k (tails - k)) ≡ both (leb k j) (ltb j (k + (tailless - k)))
  in_list j k =
      among_append (ListOf j) (rising ListOf k (tailless - k)) (rising ListWithTail k (tails - k))
      ∙ ap₂ either (rising_same ListOf list_same j k (tailless - k)) (rising_other ListWithTail (ListOf j) (list_not_tail j) k (tails - k))
      ∙ either_none (both (leb k j) (ltb j (k + (tailless - k))))

  in_tails : (j k : ℕ) → among (ListWithTail j) (rising ListOf k (tailless - k) ++ rising ListWithTail k (tails - k)) ≡ both (leb k j) (ltb j (k + (tails - k)))
  in_tails j k =
      among_append (ListWithTail j) (rising ListOf k (tailless - k)) (rising ListWithTail k (tails - k))
      ∙ ap₂ either (rising_other ListOf (ListWithTail j) (tail_not_list j) k (tailless - k)) (rising_same ListWithTail tail_same j k (tails - k))

  in_neither : (t : Test) (k : ℕ) → ((i : ℕ) → same_test t (ListOf i) ≡ false) → ((i : ℕ) → same_test t (ListWithTail i) ≡ false)
      → among t (rising ListOf k (tailless - k) ++ rising ListWithTail k (tails - k)) ≡ false
  in_neither t k h g =
      among_append t (rising ListOf k (tailless - k)) (rising ListWithTail k (tails - k))
      ∙ ap₂ either (rising_other ListOf t h k (tailless - k)) (rising_other ListWithTail t g k (tails - k))

  pub covers_joined : (q : Pat) (t : Test) → InRange tailless tails t → covers q t ≡ among t (joined tailless tails q)
  unfolding covers joined among same_test
  covers_joined (discard m) t h = refl
  covers_joined (variable m x) t h = refl
  covers_joined (assign m x q) t h = refl
  covers_joined (integer m at w) t h = sym (either_none (same_test t (Int w)))
  covers_joined (bytestring m at w) t h = sym (either_none (same_test t (Bytes w)))
  covers_joined (listed m qs) t h = sym (either_none (same_test t (ListOf (many qs))))
  covers_joined (tailed m qs q) (Constr a) h = sym (in_neither (Constr a) (many qs) (λ i. refl) (λ i. refl))
  covers_joined (tailed m qs q) (Int w) h = sym (in_neither (Int w) (many qs) (λ i. refl) (λ i. refl))
  covers_joined (tailed m qs q) (Bytes w) h = sym (in_neither (Bytes w) (many qs) (λ i. refl) (λ i. refl))
  covers_joined (tailed m qs q) (ListOf j) h = sym (in_list j (many qs) ∙ up_to j (many qs) tailless h)
  covers_joined (tailed m qs q) (ListWithTail j) h = sym (in_tails j (many qs) ∙ up_to j (many qs) tails h)
  covers_joined (constructor m a qs) t h = sym (either_none (same_test t (Constr a)))
  covers_joined (opened m o qs) t h = refl

  one_in_range : (t u : Test) → either (same_test t u) false ≡ true → InRange tailless tails u → InRange tailless tails t
  one_in_range t u e h = rw (same_test_sound t u (sym (either_none (same_test t u)) ∙ e)) h

  below_end : (j k end : ℕ) → both (leb k j) (ltb j (k + (end - k))) ≡ true → j < end
  below_end j k end e =
      let (l, g) = both_true (leb k j) (ltb j (k + (end - k))) e in
      omega (arith, leb-true k j l, ltb-true j (k + (end - k)) g)

  pub joined_in_range : (q : Pat) (t : Test) → tailless_length q ≤ tailless → among t (joined tailless tails q) ≡ true → InRange tailless tails t
  unfolding joined among tailless_length
  joined_in_range (discard m) t l e = absurd (false≢true e)
  joined_in_range (variable m x) t l e = absurd (false≢true e)
  joined_in_range (assign m x q) t l e = absurd (false≢true e)
  joined_in_range (integer m at w) t l e = one_in_range t (Int w) e tt
  joined_in_range (bytestring m at w) t l e = one_in_range t (Bytes w) e tt
  joined_in_range (listed m qs) t l e = one_in_range t (ListOf (many qs)) e l
  joined_in_range (tailed m qs q) (Constr a) l e = tt
  joined_in_range (tailed m qs q) (Int w) l e = tt
  joined_in_range (tailed m qs q) (Bytes w) l e = tt
  joined_in_range (tailed m qs q) (ListOf j) l e = below_end j (many qs) tailless (sym (in_list j (many qs)) ∙ e)
  joined_in_range (tailed m qs q) (ListWithTail j) l e = below_end j (many qs) tails (sym (in_tails j (many qs)) ∙ e)
  joined_in_range (constructor m a qs) t l e = one_in_range t (Constr a) e tt
  joined_in_range (opened m o qs) t l e = absurd (false≢true e)

-- ---- no test twice
abbrev pub Distinct : List Test → Type 0
Distinct [] = Unit {0}
Distinct (t ∷ ts) = (among t ts ≡ false) × Distinct ts

abbrev pub DistinctMet : List Met → Type 0
DistinctMet [] = Unit {0}
DistinctMet (m ∷ ms) = (is_met m.test ms ≡ false) × DistinctMet ms

rising_distinct : (f : ℕ → Test) → ((i j : ℕ) → same_test (f i) (f j) ≡ eqb i j)
    → (ts : List Test) → ((i : ℕ) → among (f i) ts ≡ false) → Distinct ts → (k n : ℕ) → Distinct (rising f k n ++ ts)
unfolding rising
rising_distinct f same ts apart d k zero = d
rising_distinct f same ts apart d k (suc n) = (
  among_append (f k) (rising f (k + 1) n) ts
      ∙ ap₂ either (rising_same f same k (k + 1) n ∙ both_first_false (leb (k + 1) k) (ltb k (k + 1 + n)) (lt-leb (k + 1) k (omega arith))) (apart k),
  rising_distinct f same ts apart d (k + 1) n,
)

pub joined_distinct : (tailless tails : ℕ) (q : Pat) → Distinct (joined tailless tails q)
unfolding joined among
joined_distinct tailless tails (discard m) = tt
joined_distinct tailless tails (variable m x) = tt
joined_distinct tailless tails (assign m x q) = tt
joined_distinct tailless tails (integer m at w) = (refl, tt)
joined_distinct tailless tails (bytestring m at w) = (refl, tt)
joined_distinct tailless tails (listed m qs) = (refl, tt)
joined_distinct tailless tails (tailed m qs q) =
    rising_distinct ListOf list_same (rising ListWithTail (many qs) (tails - many qs))
    (λ i. rising_other ListWithTail (ListOf i) (list_not_tail i) (many qs) (tails - many qs))
    (rw append-nil at (rising_distinct ListWithTail tail_same [] (λ i. refl) tt (many qs) (tails - many qs)))
    (many qs) (tailless - many qs)
joined_distinct tailless tails (constructor m a qs) = (refl, tt)
joined_distinct tailless tails (opened m o qs) = tt

-- ---- the cases of a column
module _ {A : Type 0} where
  abbrev pub All : (A → Type 0) → List A → Type 0
  All P [] = Unit {0}
  All P (x ∷ xs) = P x × All P xs

-- a pattern of the column belongs to the case
unfoldable pub any_covers : Test → List Pat → Bool
unfolding covers
any_covers t [] = false
any_covers t (q ∷ qs) = either (covers q t) (any_covers t qs)

module _ (tailless tails : ℕ) where
  abbrev pub met : List Pat → List Met
  met qs = meet_all tailless tails [] qs

  pub meet_all_append : (ms : List Met) (qs : List Pat) (q : Pat)
      → meet_all tailless tails ms (qs ++ q ∷ []) ≡ meet (text_start q) (meet_all tailless tails ms qs) (joined tailless tails q)
  unfolding meet_all
  meet_all_append ms [] q = refl
  meet_all_append ms (z ∷ qs) q = meet_all_append (meet (text_start z) ms (joined tailless tails z)) qs q

-- ---- rows at the end
pub column_append : (p : Path) (rs ss : List Row) → column p (rs ++ ss) ≡ column p rs ++ column p ss
unfolding column
column_append p [] ss = refl
column_append p (r ∷ rs) ss = go (test_at p r.tests) refl (column_append p rs ss)
  where
    go : (o : Option Pat) → test_at p r.tests ≡ o → column p (rs ++ ss) ≡ column p rs ++ column p ss → column p (r ∷ (rs ++ ss)) ≡ column p (r ∷ rs) ++ column p ss
    go none x ih = rw (x, column) ih
    go (some q) x ih = rw (x, column) (ap (λ z. q ∷ z) ih)

pub default_append : (p : Path) (rs ss : List Row) → default_rows p (rs ++ ss) ≡ default_rows p rs ++ default_rows p ss
unfolding default_rows
default_append p [] ss = refl
default_append p (r ∷ rs) ss = go (test_at p r.tests) refl (default_append p rs ss)
  where
    go : (o : Option Pat) → test_at p r.tests ≡ o → default_rows p (rs ++ ss) ≡ default_rows p rs ++ default_rows p ss
        → default_rows p (r ∷ (rs ++ ss)) ≡ default_rows p (r ∷ rs) ++ default_rows p ss
    go none x ih = rw (x, default_rows) (ap (λ z. r ∷ z) ih)
    go (some q) x ih = rw (x, default_rows) ih

module _ (p : Path) (t : Test) where
  pub rows_append : (rs ss : List Row) → case_rows p t (rs ++ ss) ≡ case_rows p t rs ++ case_rows p t ss
  unfolding case_rows
  rows_append [] ss = refl
  rows_append (r ∷ rs) ss = go (test_at p r.tests) refl (rows_append rs ss)
    where
      go : (o : Option Pat) → test_at p r.tests ≡ o → case_rows p t (rs ++ ss) ≡ case_rows p t rs ++ case_rows p t ss
          → case_rows p t (r ∷ (rs ++ ss)) ≡ case_rows p t (r ∷ rs) ++ case_rows p t ss
      go none x ih = rw (x, case_rows) (ap (λ z. r ∷ z) ih)
      go (some q) x ih = test (covers q t) refl
        where
          test : (b : Bool) → covers q t ≡ b → case_rows p t (r ∷ (rs ++ ss)) ≡ case_rows p t (r ∷ rs) ++ case_rows p t ss
          test true y = rw (x, y, case_rows) (ap (λ z. open_row p q r ∷ z) ih)
          test false y = rw (x, y, case_rows) ih

  pub opens_append : (rs ss : List Row) → case_opens p t (rs ++ ss) ≡ case_opens p t rs ++ case_opens p t ss
  unfolding case_opens
  opens_append [] ss = refl
  opens_append (r ∷ rs) ss = go (test_at p r.tests) refl (opens_append rs ss)
    where
      go : (o : Option Pat) → test_at p r.tests ≡ o → case_opens p t (rs ++ ss) ≡ case_opens p t rs ++ case_opens p t ss
          → case_opens p t (r ∷ (rs ++ ss)) ≡ case_opens p t (r ∷ rs) ++ case_opens p t ss
      go none x ih = rw (x, case_opens) ih
      go (some q) x ih = test (covers q t) refl
        where
          test : (b : Bool) → covers q t ≡ b → case_opens p t (r ∷ (rs ++ ss)) ≡ case_opens p t (r ∷ rs) ++ case_opens p t ss
          test true y =
              rw (x, y, case_opens)
              (ap (λ z. opened_columns p q ++ z) ih ∙ sym (append_assoc (opened_columns p q) (case_opens p t rs) (case_opens p t ss)))
          test false y = rw (x, y, case_opens) ih

  -- where no pattern of the column belongs to the case: "a new case starts with the default rows so far"
  pub rows_new : (rs : List Row) → any_covers t (column p rs) ≡ false → case_rows p t rs ≡ default_rows p rs
  unfolding case_rows default_rows column any_covers
  rows_new [] e = refl
  rows_new (r ∷ rs) e = go (test_at p r.tests) refl (rows_new rs)
    where
      go : (o : Option Pat) → test_at p r.tests ≡ o → (any_covers t (column p rs) ≡ false → case_rows p t rs ≡ default_rows p rs)
          → case_rows p t (r ∷ rs) ≡ default_rows p (r ∷ rs)
      go none x ih = rw (x, case_rows, default_rows) (ap (λ z. r ∷ z) (ih (rw (x, column) at e)))
      go (some q) x ih =
          let (c, f) = either_false (covers q t) (any_covers t (column p rs)) (rw (x, column) at e) in
          rw (x, case_rows, default_rows) (rw c (ih f))

  pub opens_new : (rs : List Row) → any_covers t (column p rs) ≡ false → case_opens p t rs ≡ []
  unfolding case_opens column any_covers
  opens_new [] e = refl
  opens_new (r ∷ rs) e = go (test_at p r.tests) refl (opens_new rs)
    where
      go : (o : Option Pat) → test_at p r.tests ≡ o → (any_covers t (column p rs) ≡ false → case_opens p t rs ≡ []) → case_opens p t (r ∷ rs) ≡ []
      go none x ih = rw (x, case_opens) (ih (rw (x, column) at e))
      go (some q) x ih =
          let (c, f) = either_false (covers q t) (any_covers t (column p rs)) (rw (x, column) at e) in
          rw (x, c, case_opens) (ih f)

-- ---- one row
module _ (tailless tails : ℕ) (p : Path) where
  abbrev pub Short : Pat → Type 0
  Short q = tailless_length q ≤ tailless

  abbrev pub by_filters : List Row → Split
  by_filters rs = record { rest = default_rows p rs; groups = filtered p rs (met tailless tails (column p rs)) }

-- ---- the longest lengths
larger_bounds : (a b : ℕ) → (a ≤ larger a b) × (b ≤ larger a b)
unfolding larger
larger_bounds a b = go (leb a b) refl
  where
    go : (c : Bool) → leb a b ≡ c → (a ≤ pick c b a) × (b ≤ pick c b a)
    go true e = (leb-true a b e, omega arith)
    go false e = let l = leb-false a b e in (omega arith, omega arith)

pub longest_bounds : (f : Pat → ℕ) (qs : List Pat) → All (λ q. f q ≤ longest f qs) qs
unfolding longest
longest_bounds f [] = tt
longest_bounds f (q ∷ qs) = ((larger_bounds (f q) (longest f qs)).0, weaker qs (longest_bounds f qs))
  where
    weaker : (zs : List Pat) → All (λ z. f z ≤ longest f qs) zs → All (λ z. f z ≤ larger (f q) (longest f qs)) zs
    weaker [] h = tt
    weaker (z ∷ zs) h = (omega (arith, h.0, (larger_bounds (f q) (longest f qs)).1), weaker zs h.1)
