-- What the tests shared by the three files say: a run inside a section, whole records between two starts, and what was asked of every record.
-- Rests on the definitions of spec_rules and on arithmetic.
use Rattle.std.specs.Prelude.{◌≡◌, Bool, true, false, List, [], ◌∷◌, ℕ, zero, suc, ◌+◌, ◌-◌, ◌*◌, ◌/◌, ◌%◌, ◌≤◌, ◌<◌, eqb, leb, ltb, length, get_or}
use Rattle.std.proofs.Common.{sym, ⊎_elim, true≢false, arith, leb-true, ltb-true, eqb-true}
use Rattle.std.proofs.Math.Option.{none}
use Rattle.std.proofs.Math.Nat.{div-add-mod}
use Rattle.base_words.specs.Words.{either}
use Rattle.base_words.specs.WordsLaws.{both_true, either_true}
use Rattle.spec_rules.specs.Searching.{every, lowest}
use Rattle.spec_rules.specs.SearchingLaws.{every_true, lowest_none}
use Rattle.spec_rules.specs.SheetFile.{run_in}
use Rattle.spec_rules.specs.SheetRefusals.{whole_records, whole_between}

-- "first, count": the run from first on lies in a section of n records, and first is 0 where count is 0
pub record Run (first count n : ℕ) : Type 0 where
  pub inside : first + count ≤ n
  pub empty : count ≡ 0 → first ≡ 0

pub run_in_lem : (first count n : ℕ) → run_in first count n ≡ true → Run first count n
unfolding run_in
run_in_lem first count n h =
    let p = both_true (leb (first + count) n) (either (ltb 0 count) (eqb first 0)) h in
    record {
      inside = leb-true (first + count) n p.0;
      empty = λ z. ⊎_elim (λ f. let some_there = ltb-true 0 count f in absurd (omega arith)) (λ f. eqb-true first 0 f) (either_true (ltb 0 count) (eqb first 0) p.1);
    }

-- whole records between two starts: the section does not end before it begins, and its count times its size fills it
pub whole_rises : (size from to : ℕ) → whole_records size from to ≡ true → from ≤ to
unfolding whole_records
whole_rises size from to h = leb-true from to (both_true (leb from to) (eqb ((to - from) % size) 0) h).0

pub whole_fills : (size from to : ℕ) → whole_records size from to ≡ true → from + size * ((to - from) / size) ≡ to
unfolding whole_records
whole_fills size from to h =
    let rises = whole_rises size from to h in
    let even = eqb-true ((to - from) % size) 0 (both_true (leb from to) (eqb ((to - from) % size) 0) h).1 in
    omega (arith, div-add-mod (to - from) size)

-- ---- the sections of a file, by the sizes of their records and where they start: section k reaches from its start to the next one's
module _ (sizes places : List ℕ) where
  section_whole : whole_between sizes places ≡ true → (k : ℕ) → k < length sizes → whole_records (get_or sizes k 0) (get_or places k 0) (get_or places (suc k) 0) ≡ true
  section_whole = go sizes places
    where
      go : (xs ys : List ℕ) → whole_between xs ys ≡ true → (k : ℕ) → k < length xs → whole_records (get_or xs k 0) (get_or ys k 0) (get_or ys (suc k) 0) ≡ true
      go [] ys h k l = absurd (omega arith)
      go (x ∷ xs) [] h k l = absurd (true≢false (sym h))
      go (x ∷ xs) (y ∷ []) h k l = absurd (true≢false (sym h))
      go (x ∷ []) (y ∷ z ∷ zs) h zero l = h
      go (x ∷ []) (y ∷ z ∷ zs) h (suc k) l = absurd (omega arith)
      go (x ∷ w ∷ xs) (y ∷ z ∷ zs) h zero l = (both_true (whole_records x y z) (whole_between (w ∷ xs) (z ∷ zs)) h).0
      go (x ∷ w ∷ xs) (y ∷ z ∷ zs) h (suc k) l = go (w ∷ xs) (z ∷ zs) (both_true (whole_records x y z) (whole_between (w ∷ xs) (z ∷ zs)) h).1 k (omega arith)

  module _ (h : whole_between sizes places ≡ true) (k : ℕ) (l : k < length sizes) where
    pub section_rises : get_or places k 0 ≤ get_or places (suc k) 0
    section_rises = whole_rises (get_or sizes k 0) (get_or places k 0) (get_or places (suc k) 0) (section_whole h k l)

    pub section_fills : get_or places k 0 + get_or sizes k 0 * ((get_or places (suc k) 0 - get_or places k 0) / get_or sizes k 0) ≡ get_or places (suc k) 0
    section_fills = whole_fills (get_or sizes k 0) (get_or places k 0) (get_or places (suc k) 0) (section_whole h k l)

-- a pool reaches from its start to the trailer, and the trailer to the end
pub pool_fills : (from to : ℕ) → from ≤ to → from + (to - from) ≡ to
pool_fills from to h = omega arith

pub trailer_fills : (trailer long : ℕ) → trailer ≤ long → long - trailer + trailer ≡ long
trailer_fills trailer long h = omega arith

-- what was asked of every record of a section, and what was found in none
module _ (f : ℕ → Bool) (n : ℕ) where
  pub every_below : every f 0 n ≡ true → (k : ℕ) → k < n → f k ≡ true
  every_below h k l = every_true f 0 n h k (omega arith) (omega arith)

  pub none_below : lowest f 0 n ≡ none → (k : ℕ) → k < n → f k ≡ false
  none_below h k l = lowest_none f 0 n h k (omega arith) (omega arith)
