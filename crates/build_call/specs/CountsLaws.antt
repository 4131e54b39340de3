-- The laws of these sums: one clause after the other, and what they are of a tree in the arena.
-- Rests on the scopes that were found and on what stands in the arena.
use Rattle.std.specs.Prelude.{◌≡◌, Bool, List, [], ◌∷◌, leb, length, take, get_or, count_by, sum_by, cond}
use Rattle.std.proofs.Math.Path.{refl, ap}
use Rattle.std.proofs.Common.{sym, ap₂, ◌∙◌, add-one, le-leb}
use Rattle.std.proofs.Math.Bool.{true, false}
use Prim.Native.Nat.{ℕ, zero, suc, ◌+◌, ◌*◌, ◌≤◌, ◌<◌}
use native.Mathlib.Omega.{arith}
use Rattle.std.proofs.lemmas.Bool.{lt-leb}
use Rattle.std.proofs.lemmas.List.Sums.{sum_by-cons}
use Rattle.base_words.specs.Words.{Bytes, pick}
use Rattle.base_words.specs.WordsLaws.{word_at_small}
use Rattle.spec_rules.specs.Limits.{nodes_most, node_size}
use Rattle.spec_rules.specs.Kinds.{bindings_word}
use Rattle.spec_rules.specs.Searching.{times}
use Rattle.spec_rules.specs.Rows.{bit}
use Rattle.spec_hoist.specs.Trees.{sum}
use Rattle.build_arena.specs.Arena.{node_word}
use Rattle.build_call.specs.Counts.{leaf_bindings}

-- ---- a mark
pub bit_most : (b : Bool) → bit b ≤ 1
unfolding bit
bit_most true = omega arith
bit_most false = omega arith

bit_is : (b : Bool) → cond b 1 0 ≡ bit b
unfolding bit
bit_is true = refl
bit_is false = refl

-- ---- the bindings at a number
pub no_leaf : (w : List ℕ) (k : ℕ) → nodes_most ≤ k → 0 ≡ leaf_bindings w k
unfolding leaf_bindings
no_leaf w k l = rw (le-leb nodes_most k l)

pub some_leaf : (w : List ℕ) (k : ℕ) → k < nodes_most → node_word w k bindings_word ≡ leaf_bindings w k
unfolding leaf_bindings
some_leaf w k l = rw (lt-leb nodes_most k l)

-- a word, and so below 65,536
pub leaf_most : (w : List ℕ) (k : ℕ) → Bytes w → leaf_bindings w k ≤ 65535
unfolding leaf_bindings
leaf_most w k b = go (leb nodes_most k) refl
  where
    go : (x : Bool) → leb nodes_most k ≡ x → pick x 0 (node_word w k bindings_word) ≤ 65535
    go true e = omega arith
    go false e = omega (arith, word_at_small b (node_size * k + 2 + 2 * 2))

-- ---- sums over the first n of a list are those by number
times_from : (f : ℕ → Bool) (i n : ℕ) → times f i (suc n) ≡ bit (f i) + times f (i + 1) n
unfolding times bit
times_from f i n = go (f i) refl
  where
    go : (b : Bool) → f i ≡ b → times f i (suc n) ≡ bit (f i) + times f (i + 1) n
    go true e = rw (e, times) (omega arith)
    go false e = rw (e, times) (omega arith)

pub times_most : (f : ℕ → Bool) (i n : ℕ) → times f i n ≤ n
times_most f i zero = unfold times in (omega arith)
times_most f i (suc n) = omega (arith, times_from f i n, bit_most (f i), times_most f (i + 1) n)

times_next : (f : ℕ → Bool) (i n : ℕ) → times f (i + 1) n ≡ times (λ c. f (suc c)) i n
times_next f i zero = unfold times in refl
times_next f i (suc n) =
    times_from f (i + 1) n ∙ ap₂ ◌+◌ (ap (λ k. bit (f k)) (add-one i)) (times_next f (i + 1) n) ∙ sym (times_from (λ c. f (suc c)) i n)

pub count_times : (f : ℕ → Bool) (l : List ℕ) (n : ℕ) → n ≤ length l → count_by f (take n l) ≡ times (λ c. f (get_or l c 0)) 0 n
count_times f l zero h = unfold times in refl
count_times f [] (suc n) h = absurd (omega arith)
count_times f (x ∷ l) (suc n) h =
    sum_by-cons (λ y. cond (f y) 1 0) x (take n l)
    ∙ ap₂ ◌+◌ (bit_is (f x)) (count_times f l n (omega arith) ∙ sym (times_next (λ c. f (get_or (x ∷ l) c 0)) 0 n))
    ∙ sym (times_from (λ c. f (get_or (x ∷ l) c 0)) 0 n)

pub sum_most : (f : ℕ → ℕ) (b i n : ℕ) → ((k : ℕ) → f k ≤ b) → sum f i n ≤ b * n
unfolding sum
sum_most f b i zero h = omega arith
sum_most f b i (suc n) h = omega (arith, h i, sum_most f b (i + 1) n h)

sum_next : (f : ℕ → ℕ) (i n : ℕ) → sum f (i + 1) n ≡ sum (λ c. f (suc c)) i n
unfolding sum
sum_next f i zero = refl
sum_next f i (suc n) = ap₂ ◌+◌ (ap f (add-one i)) (sum_next f (i + 1) n)

pub sum_list : (f : ℕ → ℕ) (l : List ℕ) (n : ℕ) → n ≤ length l → sum_by f (take n l) ≡ sum (λ c. f (get_or l c 0)) 0 n
unfolding sum
sum_list f l zero h = refl
sum_list f [] (suc n) h = absurd (omega arith)
sum_list f (x ∷ l) (suc n) h =
    sum_by-cons f x (take n l) ∙ ap (λ z. f x + z) (sum_list f l n (omega arith) ∙ sym (sum_next (λ c. f (get_or (x ∷ l) c 0)) 0 n))
