-- The laws of stores: how they compose, what is read after one, and stores of zeros.
-- Rests on Stored, the laws of words and texts, and the library's laws of `sets`; only a law of what was stored asks for room.
use Rattle.std.specs.Prelude.{◌≡◌, length, get_or, set, take, drop}
use Rattle.std.proofs.Math.Path.{refl, ap}
use Rattle.std.proofs.Common.{sym, ◌∙◌, zero-add, add-one, set-set}
use mathlib.Core.List.{List, [], ◌∷◌, ◌++◌, append-nil}
use Prim.Native.Nat.{ℕ, zero, suc, ◌+◌, ◌-◌, ◌/◌, ◌%◌, ◌≤◌, ◌<◌}
use native.Mathlib.Omega.{arith}
use Rattle.std.proofs.Math.Nat.{add-zero}
use Rattle.std.proofs.Math.ListN.{length-set}
use Rattle.std.proofs.lemmas.List.{length-replicate, replicate-append-replicate, set_comm, set-get_or}
use Rattle.std.proofs.Math.Seq.{sets, sets-eq, length-sets, get_or-set_same, get_or-set_other, drop-length}
use Rattle.base_words.specs.Words.{word_bytes, set_word, text_at, zeros}
use Rattle.base_words.specs.WordsLaws.{texts_agree, drop_zeros}
use Rattle.base_words.specs.Stored.{stored}

module _ {ℓ} {A : Type ℓ} where
  -- ---- how stores compose

  pub length_stored : (l : List A) (i : ℕ) (vs : List A) → length (stored l i vs) ≡ length l
  unfolding stored
  length_stored l i vs = length-sets l i vs

  pub stored_nil : (l : List A) (i : ℕ) → stored l i [] ≡ l
  unfolding stored
  stored_nil l i = refl

  -- with room it is what stood before, the elements, and what stood after
  pub stored_is : (l : List A) (i : ℕ) (vs : List A) → i + length vs ≤ length l
      → stored l i vs ≡ take i l ++ vs ++ drop (i + length vs) l
  unfolding stored
  stored_is l i vs h = sets-eq vs l i h

  -- the store of one element, as an assignment leaves it
  pub set_stored : (l : List A) (i : ℕ) (x : A) → set l i x ≡ stored l i (x ∷ [])
  unfolding stored
  set_stored l i x = refl

  -- next to each other
  pub stored_append : (l : List A) (i j : ℕ) (a b : List A) → i + length a ≡ j → stored (stored l i a) j b ≡ stored l i (a ++ b)
  unfolding stored
  stored_append l i j [] b e = let f : j ≡ i = omega arith in ap (λ (k : ℕ). sets l k b) f
  stored_append l i j (x ∷ a) b e = stored_append (set l i x) (suc i) j a b (omega arith)

  -- one element, and a store above it: in either order
  set_below_stored : (l : List A) (i j : ℕ) (x : A) (b : List A) → i < j → set (stored l j b) i x ≡ stored (set l i x) j b
  unfolding stored
  set_below_stored l i j x [] h = refl
  set_below_stored l i j x (y ∷ b) h =
      set_below_stored (set l j y) i (suc j) x b (omega arith)
      ∙ ap (λ (r : List A). sets r (suc j) b) (set_comm l j i y x (omega arith))

  -- apart from each other: in either order
  pub stored_swap : (l : List A) (i j : ℕ) (a b : List A) → i + length a ≤ j → stored (stored l j b) i a ≡ stored (stored l i a) j b
  unfolding stored
  stored_swap l i j [] b h = refl
  stored_swap l i j (x ∷ a) b h =
      ap (λ (r : List A). sets r (suc i) a) (set_below_stored l i j x b (omega arith))
      ∙ stored_swap (set l i x) (suc i) j a b (omega arith)

  -- at the same place: the later one stands
  pub stored_again : (l : List A) (i : ℕ) (a b : List A) → length a ≡ length b → stored (stored l i a) i b ≡ stored l i b
  unfolding stored
  stored_again l i [] [] e = refl
  stored_again l i [] (y ∷ b) e = absurd (omega arith)
  stored_again l i (x ∷ a) [] e = absurd (omega arith)
  stored_again l i (x ∷ a) (y ∷ b) e =
      ap (λ (r : List A). sets r (suc i) b) (set_below_stored (set l i x) i (suc i) y a (omega arith))
      ∙ ap (λ (r : List A). sets (sets r (suc i) a) (suc i) b) (set-set l i x y)
      ∙ stored_again (set l i y) (suc i) a b (omega arith)

  -- ---- an element after a store

  pub get_or_stored_below : (l : List A) (i : ℕ) (vs : List A) (k : ℕ) (d : A) → k < i → get_or (stored l i vs) k d ≡ get_or l k d
  unfolding stored
  get_or_stored_below l i [] k d h = refl
  get_or_stored_below l i (x ∷ vs) k d h = get_or_stored_below (set l i x) (suc i) vs k d (omega arith) ∙ get_or-set_other l i k x d (omega arith)

  pub get_or_stored_above : (l : List A) (i : ℕ) (vs : List A) (k : ℕ) (d : A) → i + length vs ≤ k → get_or (stored l i vs) k d ≡ get_or l k d
  unfolding stored
  get_or_stored_above l i [] k d h = refl
  get_or_stored_above l i (x ∷ vs) k d h = get_or_stored_above (set l i x) (suc i) vs k d (omega arith) ∙ get_or-set_other l i k x d (omega arith)

  pub get_or_stored_inside : (l : List A) (i : ℕ) (vs : List A) (k : ℕ) (d : A) → k < length vs → i + k < length l
      → get_or (stored l i vs) (i + k) d ≡ get_or vs k d
  unfolding stored
  get_or_stored_inside l i [] k d h r = absurd (omega arith)
  get_or_stored_inside l i (x ∷ vs) zero d h r =
      rw add-zero (get_or_stored_below (set l i x) (suc i) vs i d (omega arith) ∙ get_or-set_same l i x d (omega arith))
  get_or_stored_inside l i (x ∷ vs) (suc k) d h r =
      let e : i + suc k ≡ suc i + k = omega arith in
      rw e (get_or_stored_inside (set l i x) (suc i) vs k d (omega arith) (simp length-set (omega arith)))

-- ---- a word after a store

pub set_word_stored : (l : List ℕ) (i v : ℕ) → set_word l i v ≡ stored l i (word_bytes v)
unfolding stored set_word
set_word_stored l i v = ap (λ (k : ℕ). set (set l i (v % 256)) k (v / 256)) (add-one i)

-- ---- a text after a store

pub text_at_stored_inside : (l : List ℕ) (i : ℕ) (vs : List ℕ) (k n : ℕ) → k + n ≤ length vs → i + k + n ≤ length l
    → text_at (stored l i vs) (i + k) n ≡ text_at vs k n
text_at_stored_inside l i vs k n h r = texts_agree (stored l i vs) vs (i + k) k n (rw (length_stored l i vs) r) h each
  where
    each : (m : ℕ) → m < n → get_or (stored l i vs) (i + k + m) 0 ≡ get_or vs (k + m) 0
    each m q =
        let e : i + k + m ≡ i + (k + m) = omega arith in
        rw e (get_or_stored_inside l i vs (k + m) 0 (omega arith) (omega arith))

-- a store at the front of zeros
pub stored_zeros : (n : ℕ) (vs : List ℕ) → length vs ≤ n → stored (zeros n) 0 vs ≡ vs ++ zeros (n - length vs)
stored_zeros n vs h = stored_is (zeros n) 0 vs (simp length-replicate (omega arith)) ∙ rw (zero-add, drop_zeros (length vs) n)

-- ---- zeros stored

-- behind zeros
pub zeros_next : (l : List ℕ) (i j k n : ℕ) → i + k ≡ j → stored (stored l i (zeros k)) j (zeros n) ≡ stored l i (zeros (k + n))
zeros_next l i j k n e =
    stored_append l i j (zeros k) (zeros n) (simp length-replicate e)
    ∙ ap (stored l i) (replicate-append-replicate k n 0)

-- one behind zeros, as an assignment leaves it
pub zeros_more : (l : List ℕ) (i j k : ℕ) → i + k ≡ j → set (stored l i (zeros k)) j 0 ≡ stored l i (zeros (k + 1))
zeros_more l i j k e = set_stored (stored l i (zeros k)) j 0 ∙ zeros_next l i j k 1 e

-- where zeros stand already
pub zeros_there : (l : List ℕ) (i n : ℕ) → ((k : ℕ) → k < n → get_or l (i + k) 0 ≡ 0) → stored l i (zeros n) ≡ l
zeros_there l i zero h = stored_nil l i
zeros_there l i (suc n) h =
    ap (λ (k : ℕ). stored l i (zeros k)) (sym (add-one n))
    ∙ sym (zeros_more l i (i + n) n refl)
    ∙ ap (λ (r : List ℕ). set r (i + n) 0) (zeros_there l i n (λ k q. h k (omega arith)))
    ∙ ap (set l (i + n)) (sym (h n (omega arith)))
    ∙ set-get_or l (i + n) 0

-- over a whole list
pub zeros_whole : (l : List ℕ) → stored l 0 (zeros (length l)) ≡ zeros (length l)
zeros_whole l =
    stored_is l 0 (zeros (length l)) (simp length-replicate (omega arith))
    ∙ rw (zero-add, length-replicate {A = ℕ} (length l) 0, drop-length l) (append-nil (zeros (length l)))
