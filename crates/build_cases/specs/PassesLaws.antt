-- The laws of the two passes: the cases of one sort are what its pass meets, in the same order; and a pass that stops where there is
-- no more room has the first of those cases. Rests on rule 4's laws of meeting.
use Rattle.std.specs.Prelude.{◌≡◌, Bool, true, false, ℕ, zero, suc, ◌+◌, ◌-◌, ◌≤◌, leb, ltb, length, take}
use Rattle.std.proofs.Math.Path.{refl, ap, ap₂}
use Rattle.std.proofs.Common.{sym, ◌∙◌, arith, le_refl, add-zero, leb-true, leb-false, ltb-true, ltb-false, lt-ltb, le-ltb, take_all, take-take, length-take-le}
use mathlib.Core.List.{List, [], ◌∷◌, ◌++◌, append_assoc, append-nil}
use Rattle.std.proofs.lemmas.List.{take-append-le}
use Rattle.base_words.specs.Words.{either}
use Rattle.spec_rules.specs.Patterns.{Text, Mark, Pat, Pats, many, discard, variable, assign, integer, bytestring, listed, tailed, constructor, opened}
use Rattle.spec_rules.specs.Splitting.{Test, Constr, Int, Bytes, ListOf, ListWithTail, Met, rising, joined, text_start, tailless_length, tailed_length, larger, longest, is_met, meet, meet_all, cases_of}
use Rattle.spec_rules.specs.Building.{is_list, has_list}
use Rattle.spec_match.specs.Depth.{only, is_tail, is_exact, is_met_only}
use Rattle.build_cases.specs.Passes.{tests, meet_row, meet_rows}

-- ---- one sort of cases
only_append : (f : Test → Bool) (ms ns : List Met) → only f (ms ++ ns) ≡ only f ms ++ only f ns
unfolding only
only_append f [] ns = refl
only_append f (m ∷ ms) ns = go (f m.test) refl (only_append f ms ns)
  where
    go : (b : Bool) → f m.test ≡ b → only f (ms ++ ns) ≡ only f ms ++ only f ns → only f (m ∷ (ms ++ ns)) ≡ only f (m ∷ ms) ++ only f ns
    go true e ih = rw (e, only) (ap (λ (xs : List Met). m ∷ xs) ih)
    go false e ih = rw (e, only) ih

only_one : (f : Test → Bool) (m : Met) → f m.test ≡ true → only f (m ∷ []) ≡ m ∷ []
unfolding only
only_one f m e = rw (e, only)

only_none : (f : Test → Bool) (m : Met) → f m.test ≡ false → only f (m ∷ []) ≡ []
unfolding only
only_none f m e = rw (e, only)

-- what is not of the sort is not met by its pass
only_meet : (f : Test → Bool) (start : ℕ) (ms : List Met) (ts : List Test) → only f (meet start ms ts) ≡ meet start (only f ms) (tests f ts)
unfolding meet tests
only_meet f start ms [] = refl
only_meet f start ms (t ∷ ts) = go (f t) refl (is_met t ms) refl (λ ns. only_meet f start ns ts)
  where
    new : Met
    new = record { test = t; start = start }

    go : (b : Bool) → f t ≡ b → (c : Bool) → is_met t ms ≡ c → ((ns : List Met) → only f (meet start ns ts) ≡ meet start (only f ns) (tests f ts))
        → only f (meet start ms (t ∷ ts)) ≡ meet start (only f ms) (tests f (t ∷ ts))
    go true x true y ih =
        let z : is_met t (only f ms) ≡ true = is_met_only f t ms ∙ rw (x, y) in
        rw (y, meet, x, tests) (rw (z, meet) (ih ms))
    go true x false y ih =
        let z : is_met t (only f ms) ≡ false = is_met_only f t ms ∙ rw (x, y) in
        let kept : only f (ms ++ new ∷ []) ≡ only f ms ++ new ∷ [] = only_append f ms (new ∷ []) ∙ ap (λ (xs : List Met). only f ms ++ xs) (only_one f new x) in
        rw (y, meet, x, tests) (rw (z, meet) (ih (ms ++ new ∷ []) ∙ ap (λ (xs : List Met). meet start xs (tests f ts)) kept))
    go false x true y ih = rw (y, meet, x, tests) (ih ms)
    go false x false y ih =
        let gone : only f (ms ++ new ∷ []) ≡ only f ms = only_append f ms (new ∷ []) ∙ ap (λ (xs : List Met). only f ms ++ xs) (only_none f new x) ∙ append-nil (only f ms) in
        rw (y, meet, x, tests) (ih (ms ++ new ∷ []) ∙ ap (λ (xs : List Met). meet start xs (tests f ts)) gone)

only_meet_all : (f : Test → Bool) (tailless tails : ℕ) (ms : List Met) (qs : List Pat)
    → only f (meet_all tailless tails ms qs) ≡ meet_rows f tailless tails (only f ms) qs
unfolding meet_all meet_rows meet_row
only_meet_all f tailless tails ms [] = refl
only_meet_all f tailless tails ms (q ∷ qs) =
    only_meet_all f tailless tails (meet (text_start q) ms (joined tailless tails q)) qs
    ∙ ap (λ (ns : List Met). meet_rows f tailless tails ns qs) (only_meet f (text_start q) ms (joined tailless tails q))

-- LEMMA: the cases of one sort are what its pass meets
pub pass_cases : (f : Test → Bool) (qs : List Pat) → meet_rows f (longest tailless_length qs) (longest tailed_length qs) [] qs ≡ only f (cases_of qs)
unfolding cases_of only
pass_cases f qs = sym (only_meet_all f (longest tailless_length qs) (longest tailed_length qs) [] qs)

-- each case is of one of two sorts
pub sorts_length : (ms : List Met) → length (only is_exact ms) + length (only is_tail ms) ≡ length ms
unfolding only
sorts_length [] = refl
sorts_length (m ∷ ms) = go (is_tail m.test) refl (sorts_length ms)
  where
    go : (b : Bool) → is_tail m.test ≡ b → length (only is_exact ms) + length (only is_tail ms) ≡ length ms
        → length (only is_exact (m ∷ ms)) + length (only is_tail (m ∷ ms)) ≡ suc (length ms)
    go true e ih = rw (e, only) (omega arith)
    go false e ih = rw (e, only) (omega arith)

-- ---- as many as there is room for
-- a meeting only adds
meet_adds : (start : ℕ) (ms : List Met) (ts : List Test) → (more : List Met) × (meet start ms ts ≡ ms ++ more)
unfolding meet
meet_adds start ms [] = ([], sym (append-nil ms))
meet_adds start ms (t ∷ ts) = go (is_met t ms) refl (λ ns. meet_adds start ns ts)
  where
    new : Met
    new = record { test = t; start = start }

    go : (b : Bool) → is_met t ms ≡ b → ((ns : List Met) → (more : List Met) × (meet start ns ts ≡ ns ++ more)) → (more : List Met) × (meet start ms (t ∷ ts) ≡ ms ++ more)
    go true x ih = rw (x, meet) (ih ms)
    go false x ih =
        let (more, e) = ih (ms ++ new ∷ []) in
        rw (x, meet) (new ∷ more, e ∙ append_assoc ms (new ∷ []) more)

-- no room: nothing more
take_meet : (n start : ℕ) (ms : List Met) (ts : List Test) → n ≤ length ms → take n (meet start ms ts) ≡ take n ms
take_meet n start ms ts h =
    let (more, e) = meet_adds start ms ts in
    ap (take n) e ∙ take-append-le n ms more h

pub meet_full : (n start : ℕ) (ms : List Met) (ts : List Test) → length ms ≡ n → take n (meet start ms ts) ≡ ms
meet_full n start ms ts e = take_meet n start ms ts (omega arith) ∙ take_all n ms (omega arith)

-- the first n are met from the first n
first_meet : (n start : ℕ) (ms : List Met) (ts : List Test) → take n (meet start (take n ms) ts) ≡ take n (meet start ms ts)
first_meet n start ms ts = go (leb n (length ms)) refl
  where
    go : (b : Bool) → leb n (length ms) ≡ b → take n (meet start (take n ms) ts) ≡ take n (meet start ms ts)
    go true e =
        let h = leb-true n (length ms) e in
        take_meet n start (take n ms) ts (rw (length-take-le n ms h) (le_refl n)) ∙ take-take n n ms (le_refl n) ∙ sym (take_meet n start ms ts h)
    go false e = let h = leb-false n (length ms) e in ap (λ (xs : List Met). take n (meet start xs ts)) (take_all n ms (omega arith))

-- ---- one test after another, one row after another
pub meet_append : (start : ℕ) (ms : List Met) (ts us : List Test) → meet start ms (ts ++ us) ≡ meet start (meet start ms ts) us
unfolding meet
meet_append start ms [] us = refl
meet_append start ms (t ∷ ts) us = go (is_met t ms) refl (λ ns. meet_append start ns ts us)
  where
    go : (b : Bool) → is_met t ms ≡ b → ((ns : List Met) → meet start ns (ts ++ us) ≡ meet start (meet start ns ts) us)
        → meet start ms (t ∷ (ts ++ us)) ≡ meet start (meet start ms (t ∷ ts)) us
    go true x ih = rw (x, meet) (ih ms)
    go false x ih = rw (x, meet) (ih (ms ++ record { test = t; start = start } ∷ []))

rising_more : (f : ℕ → Test) (k n : ℕ) → rising f k (suc n) ≡ rising f k n ++ f (k + n) ∷ []
unfolding rising
rising_more f k zero = rw add-zero
rising_more f k (suc n) =
    let e : k + 1 + n ≡ k + suc n = omega arith in
    ap (λ (ts : List Test). f k ∷ ts) (rising_more f (k + 1) n ∙ ap (λ (i : ℕ). rising f (k + 1) n ++ f i ∷ []) e)

-- the tests rise by one more
pub rise_more : (n start : ℕ) (ms : List Met) (f : ℕ → Test) (k i : ℕ) → k ≤ i
    → take n (meet start (take n (meet start ms (rising f k (i - k)))) (f i ∷ [])) ≡ take n (meet start ms (rising f k (i + 1 - k)))
rise_more n start ms f k i h =
    let e : i + 1 - k ≡ suc (i - k) = omega arith in
    let d : k + (i - k) ≡ i = omega arith in
    first_meet n start (meet start ms (rising f k (i - k))) (f i ∷ [])
    ∙ ap (take n) (sym (meet_append start ms (rising f k (i - k)) (f i ∷ [])))
    ∙ ap (λ (ts : List Test). take n (meet start ms ts)) (sym (ap (rising f k) e ∙ rising_more f k (i - k) ∙ ap (λ (j : ℕ). rising f k (i - k) ++ f j ∷ []) d))

meet_rows_more : (f : Test → Bool) (tailless tails : ℕ) (ms : List Met) (qs : List Pat) (q : Pat)
    → meet_rows f tailless tails ms (qs ++ q ∷ []) ≡ meet_row f tailless tails (meet_rows f tailless tails ms qs) q
unfolding meet_rows
meet_rows_more f tailless tails ms [] q = refl
meet_rows_more f tailless tails ms (r ∷ qs) q = meet_rows_more f tailless tails (meet_row f tailless tails ms r) qs q

-- the pass goes one row further
pub pass_more : (n : ℕ) (f : Test → Bool) (tailless tails : ℕ) (ms : List Met) (qs : List Pat) (q : Pat)
    → take n (meet_row f tailless tails (take n (meet_rows f tailless tails ms qs)) q) ≡ take n (meet_rows f tailless tails ms (qs ++ q ∷ []))
unfolding meet_row
pass_more n f tailless tails ms qs q =
    first_meet n (text_start q) (meet_rows f tailless tails ms qs) (tests f (joined tailless tails q))
    ∙ ap (take n) (sym (meet_rows_more f tailless tails ms qs q))

-- ---- what a row's test meets, by its sort
tests_append : (f : Test → Bool) (ts us : List Test) → tests f (ts ++ us) ≡ tests f ts ++ tests f us
unfolding tests
tests_append f [] us = refl
tests_append f (t ∷ ts) us = go (f t) refl (tests_append f ts us)
  where
    go : (b : Bool) → f t ≡ b → tests f (ts ++ us) ≡ tests f ts ++ tests f us → tests f (t ∷ (ts ++ us)) ≡ tests f (t ∷ ts) ++ tests f us
    go true e ih = rw (e, tests) (ap (λ (xs : List Test). t ∷ xs) ih)
    go false e ih = rw (e, tests) ih

tests_rising : (f : Test → Bool) (g : ℕ → Test) → ((i : ℕ) → f (g i) ≡ true) → (k n : ℕ) → tests f (rising g k n) ≡ rising g k n
unfolding tests rising
tests_rising f g e k zero = refl
tests_rising f g e k (suc n) = rw (e k, tests) (ap (λ (xs : List Test). g k ∷ xs) (tests_rising f g e (k + 1) n))

tests_other : (f : Test → Bool) (g : ℕ → Test) → ((i : ℕ) → f (g i) ≡ false) → (k n : ℕ) → tests f (rising g k n) ≡ []
unfolding tests rising
tests_other f g e k zero = refl
tests_other f g e k (suc n) = rw (e k, tests) (tests_other f g e (k + 1) n)

module _ (tailless tails : ℕ) (ms : List Met) where
  pub exact_integer : (m : Mark) (at : ℕ) (w : Text) → meet_row is_exact tailless tails ms (integer m at w) ≡ meet at ms (Int w ∷ [])
  unfolding meet_row joined tests text_start is_tail
  exact_integer m at w = refl

  pub exact_bytestring : (m : Mark) (at : ℕ) (w : Text) → meet_row is_exact tailless tails ms (bytestring m at w) ≡ meet at ms (Bytes w ∷ [])
  unfolding meet_row joined tests text_start is_tail
  exact_bytestring m at w = refl

  pub exact_listed : (m : Mark) (qs : Pats) → meet_row is_exact tailless tails ms (listed m qs) ≡ meet 0 ms (ListOf (many qs) ∷ [])
  unfolding meet_row joined tests text_start is_tail
  exact_listed m qs = refl

  pub exact_constructor : (m : Mark) (a : ℕ) (qs : Pats) → meet_row is_exact tailless tails ms (constructor m a qs) ≡ meet 0 ms (Constr a ∷ [])
  unfolding meet_row joined tests text_start is_tail
  exact_constructor m a qs = refl

  pub exact_tailed : (m : Mark) (qs : Pats) (q : Pat) → meet_row is_exact tailless tails ms (tailed m qs q) ≡ meet 0 ms (rising ListOf (many qs) (tailless - many qs))
  unfolding meet_row joined text_start
  exact_tailed m qs q =
      ap (meet 0 ms)
      (tests_append is_exact (rising ListOf (many qs) (tailless - many qs)) (rising ListWithTail (many qs) (tails - many qs))
      ∙ ap₂ ◌++◌ (tests_rising is_exact ListOf (λ i. unfold is_tail in refl) (many qs) (tailless - many qs))
      (tests_other is_exact ListWithTail (λ i. unfold is_tail in refl) (many qs) (tails - many qs))
      ∙ append-nil (rising ListOf (many qs) (tailless - many qs)))

  pub tail_tailed : (m : Mark) (qs : Pats) (q : Pat) → meet_row is_tail tailless tails ms (tailed m qs q) ≡ meet 0 ms (rising ListWithTail (many qs) (tails - many qs))
  unfolding meet_row joined text_start
  tail_tailed m qs q =
      ap (meet 0 ms)
      (tests_append is_tail (rising ListOf (many qs) (tailless - many qs)) (rising ListWithTail (many qs) (tails - many qs))
      ∙ ap₂ ◌++◌ (tests_other is_tail ListOf (λ i. unfold is_tail in refl) (many qs) (tailless - many qs))
      (tests_rising is_tail ListWithTail (λ i. unfold is_tail in refl) (many qs) (tails - many qs)))

-- ---- the longest lengths, and whether the column is one of lists
larger_least : (a b : ℕ) → (a ≤ larger a b) × (b ≤ larger a b) × (larger a b ≤ a + b)
unfolding larger
larger_least a b = go (leb a b) refl
  where
    go : (t : Bool) → leb a b ≡ t → (a ≤ larger a b) × (b ≤ larger a b) × (larger a b ≤ a + b)
    go true e = let h = leb-true a b e in rw e (omega arith)
    go false e = let h = leb-false a b e in rw e (omega arith)

is_list_length : (q : Pat) → is_list q ≡ ltb 0 (tailless_length q + tailed_length q)
unfolding is_list tailless_length tailed_length
is_list_length (discard m) = refl
is_list_length (variable m x) = refl
is_list_length (assign m x q) = refl
is_list_length (integer m at w) = refl
is_list_length (bytestring m at w) = refl
is_list_length (listed m qs) = sym (lt-ltb 0 (suc (many qs) + 0) (omega arith))
is_list_length (tailed m qs q) = sym (lt-ltb 0 (0 + suc (many qs)) (omega arith))
is_list_length (constructor m a qs) = refl
is_list_length (opened m o qs) = refl

pub has_list_longest : (qs : List Pat) → has_list qs ≡ ltb 0 (longest tailless_length qs + longest tailed_length qs)
unfolding has_list longest
has_list_longest [] = refl
has_list_longest (q ∷ qs) = go (is_list q) refl (has_list qs) refl (has_list_longest qs)
  where
    a : ℕ
    a = larger (tailless_length q) (longest tailless_length qs)

    b : ℕ
    b = larger (tailed_length q) (longest tailed_length qs)

    go : (x : Bool) → is_list q ≡ x → (y : Bool) → has_list qs ≡ y → has_list qs ≡ ltb 0 (longest tailless_length qs + longest tailed_length qs)
        → either (is_list q) (has_list qs) ≡ ltb 0 (a + b)
    go true e y f ih =
        let h = ltb-true 0 (tailless_length q + tailed_length q) (sym (is_list_length q) ∙ e) in
        rw e (sym (lt-ltb 0 (a + b) (omega (arith, larger_least (tailless_length q) (longest tailless_length qs), larger_least (tailed_length q) (longest tailed_length qs)))))
    go false e true f ih =
        let h = ltb-true 0 (longest tailless_length qs + longest tailed_length qs) (sym ih ∙ f) in
        rw (e, f) (sym (lt-ltb 0 (a + b) (omega (arith, larger_least (tailless_length q) (longest tailless_length qs), larger_least (tailed_length q) (longest tailed_length qs)))))
    go false e false f ih =
        let g = ltb-false 0 (tailless_length q + tailed_length q) (sym (is_list_length q) ∙ e) in
        let h = ltb-false 0 (longest tailless_length qs + longest tailed_length qs) (sym ih ∙ f) in
        rw (e, f) (sym (le-ltb 0 (a + b) (omega (arith, larger_least (tailless_length q) (longest tailless_length qs), larger_least (tailed_length q) (longest tailed_length qs)))))
