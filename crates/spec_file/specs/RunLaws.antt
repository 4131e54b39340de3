-- Runs of records: a rule over two runs next to each other, "first 0 at count 0", and a run inside its section.
-- Rests on the definitions alone.
use Rattle.std.specs.Prelude.{◌≡◌, refl, Bool, true, ℕ, zero, suc, ◌+◌, ◌≤◌, eqb, leb, ltb}
use Rattle.std.proofs.Common.{arith, add-zero, zero-add, le-leb, lt-ltb, eq-eqb}
use Rattle.base_words.specs.Words.{either}
use Rattle.base_words.specs.WordsLaws.{both_true, both_make, either_first_true}
use Rattle.spec_rules.specs.Searching.{every}
use Rattle.spec_rules.specs.SheetFile.{run_in}
use Rattle.spec_rules.specs.TreeFile.{first_of}

-- ---- the n numbers from i on, in two runs
pub every_append : (f : ℕ → Bool) (i m n : ℕ) → every f i m ≡ true → every f (i + m) n ≡ true → every f i (m + n) ≡ true
unfolding every
every_append f i zero n a b = rw zero-add (rw add-zero at b)
every_append f i (suc m) n a b =
    let p = both_true (f i) (every f (i + 1) m) a in
    let e : suc m + n ≡ suc (m + n) = omega arith in
    let d : i + suc m ≡ i + 1 + m = omega arith in
    rw e (both_make (f i) (every f (i + 1) (m + n)) p.0 (every_append f (i + 1) m n p.1 (rw d at b)))

-- ---- "first 0 at count 0"
pub first_of_some : (n first : ℕ) → 1 ≤ n → first_of n first ≡ first
unfolding first_of
first_of_some zero first h = absurd (omega arith)
first_of_some (suc n) first h = refl

pub run_make : (n first most : ℕ) → first + n ≤ most → (n ≡ 0 → first ≡ 0) → run_in first n most ≡ true
unfolding run_in
run_make zero first most h z =
    both_make (leb (first + 0) most) (eqb first 0) (le-leb (first + 0) most h) (eq-eqb first 0 (z refl))
run_make (suc n) first most h z =
    both_make (leb (first + suc n) most) (either (ltb 0 (suc n)) (eqb first 0)) (le-leb (first + suc n) most h)
    (either_first_true (ltb 0 (suc n)) (eqb first 0) (lt-ltb 0 (suc n) (omega arith)))

pub run_in_lem : (n first most : ℕ) → first + n ≤ most → run_in (first_of n first) n most ≡ true
unfolding first_of
run_in_lem zero first most h = run_make 0 0 most (omega arith) (λ z. z)
run_in_lem (suc n) first most h = run_make (suc n) first most h (λ z. absurd (omega arith))
