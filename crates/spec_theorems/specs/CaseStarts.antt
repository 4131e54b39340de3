-- "A text starts where the row that opened its case has it": each case of a column was opened by a pattern of the column that belongs to
-- it, and starts where that pattern's text starts. Lists' numbers are below the longest lengths.
use Rattle.std.specs.Prelude.{ℕ, ◌≤◌, ◌≡◌, Bool, false, leb}
use Rattle.std.proofs.Common.{arith, ◌∙◌}
use Rattle.std.proofs.Math.Path.{refl}
use Rattle.std.proofs.Math.Bool.{true}
use mathlib.Core.List.{List, [], ◌∷◌, ◌++◌}
use Rattle.base_words.specs.WordsLaws.{either_first_true, either_second_true}
use Rattle.spec_rules.specs.Patterns.{Pat}
use Rattle.spec_rules.specs.Splitting.{Test, same_test, joined, text_start, tailless_length, tailed_length, larger, longest, Met, is_met, meet, meet_all, cases_of, covers}
use Rattle.spec_rules.specs.SplittingLaws.{same_test_refl, among, met_at, InRange, covers_joined, joined_in_range, All, longest_bounds}
use Rattle.spec_match.specs.Lists.{all_append, all_both}

-- the pattern that opened a case, of which P holds
pub record OpenedBy (tailless tails : ℕ) (P : Pat → Type 0) (m : Met) : Type 0 where
  pub pattern : Pat
  pub has : P pattern
  pub covered : covers pattern m.test ≡ true
  pub starts : m.start ≡ text_start pattern
  pub in_range : InRange tailless tails m.test

module _ (tailless tails : ℕ) (P : Pat → Type 0) where
  abbrev Opened : Met → Type 0
  Opened = OpenedBy tailless tails P

  meet_opened : (q : Pat) → P q → tailless_length q ≤ tailless → (ts : List Test) → ((t : Test) → among t ts ≡ true → among t (joined tailless tails q) ≡ true)
      → (ms : List Met) → All Opened ms → All Opened (meet (text_start q) ms ts)
  unfolding meet
  meet_opened q has short [] sub ms h = h
  meet_opened q has short (t ∷ ts) sub ms h = go (is_met t ms) refl (meet_opened q has short ts (λ u e. sub u (later u e)))
    where
      later : (u : Test) → among u ts ≡ true → among u (t ∷ ts) ≡ true
      later u e = unfold among in either_second_true (same_test u t) (among u ts) e

      here : among t (joined tailless tails q) ≡ true
      here = sub t (unfold among in either_first_true (same_test t t) (among t ts) (same_test_refl t))

      opened : Opened (met_at (text_start q) t)
      opened =
          let in_range = joined_in_range tailless tails q t short here in
          record { pattern = q; has = has; covered = covers_joined tailless tails q t in_range ∙ here; starts = refl; in_range = in_range }

      go : (b : Bool) → is_met t ms ≡ b → ((ns : List Met) → All Opened ns → All Opened (meet (text_start q) ns ts)) → All Opened (meet (text_start q) ms (t ∷ ts))
      go true e ih = rw (e, meet) (ih ms h)
      go false e ih = rw (e, meet) (ih (ms ++ met_at (text_start q) t ∷ []) (all_append Opened ms (met_at (text_start q) t ∷ []) h (opened, tt)))

  meet_all_opened : (qs : List Pat) → All (λ q. P q × (tailless_length q ≤ tailless)) qs → (ms : List Met) → All Opened ms → All Opened (meet_all tailless tails ms qs)
  unfolding meet_all
  meet_all_opened [] h ms k = k
  meet_all_opened (q ∷ qs) h ms k =
      meet_all_opened qs h.1 (meet (text_start q) ms (joined tailless tails q)) (meet_opened q h.0.0 h.0.1 (joined tailless tails q) (λ t e. e) ms k)

-- LEMMA: each case of a column was opened by a pattern of the column
pub cases_of_opened : (P : Pat → Type 0) (qs : List Pat) → All P qs → All (OpenedBy (longest tailless_length qs) (longest tailed_length qs) P) (cases_of qs)
unfolding cases_of
cases_of_opened P qs h =
    meet_all_opened (longest tailless_length qs) (longest tailed_length qs) P qs
    (all_both P (λ q. tailless_length q ≤ longest tailless_length qs) (λ q. P q × (tailless_length q ≤ longest tailless_length qs)) (λ q a b. (a, b)) qs h (longest_bounds tailless_length qs))
    [] tt

-- the longest is at most what each is at most
larger_most : (a b n : ℕ) → a ≤ n → b ≤ n → larger a b ≤ n
unfolding larger
larger_most a b n h k = go (leb a b) refl
  where
    go : (x : Bool) → leb a b ≡ x → larger a b ≤ n
    go true e = rw (larger, e) k
    go false e = rw (larger, e) h

pub longest_most : (f : Pat → ℕ) (n : ℕ) (qs : List Pat) → All (λ q. f q ≤ n) qs → longest f qs ≤ n
unfolding longest
longest_most f n [] h = omega arith
longest_most f n (q ∷ qs) h = larger_most (f q) (longest f qs) n h.0 (longest_most f n qs h.1)
