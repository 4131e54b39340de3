-- Laws of how far nodes are moved: the loop over the clauses counts the hoists above each node, the loop over the nodes adds them up,
-- and the sums are those of the hoists before each node. Rests on where nodes come to stand.
use Rattle.std.specs.Prelude.{◌≡◌, Bool, true, false, List, length, get_or, set, ltb}
use Rattle.std.proofs.Math.Path.{refl, sym, ap, ap₂}
use Rattle.std.proofs.Common.{◌∙◌, add-zero, zero-add, length-set, get_or-set_same, get_or-set_other, eq-eqb, eqb-true}
use Prim.Native.Nat.{ℕ, zero, suc, ◌+◌, ◌≤◌, ◌<◌}
use native.Mathlib.Omega.{arith}
use Rattle.std.proofs.Math.Dec.{eqb}
use Rattle.std.proofs.lemmas.Bool.{eqb-false}
use Rattle.spec_rules.specs.Limits.{clauses_most, nodes_most}
use Rattle.spec_rules.specs.Searching.{times}
use Rattle.spec_rules.specs.Rows.{bit}
use Rattle.spec_rules.specs.SearchingLaws.{times_end, times_most, times_some}
use Rattle.build_scopes.specs.WriterLaws.{hoists_before, hoists_at, stands_at, stands_first, stands_next}
use Rattle.build_file_nodes.specs.Model.{ShiftAsked, HoistsCounted, sum_of, SumsAsked, SummedUp, Shifted}

hoists_before_few : (node : ℕ → ℕ) (n k : ℕ) → hoists_before node n k ≤ n
unfolding hoists_before
hoists_before_few node n k = times_most (λ c. ltb (node c) k) 0 n

before_next : (node : ℕ → ℕ) (n k : ℕ) → hoists_before node n (k + 1) ≡ hoists_before node n k + hoists_at node n k
unfolding stands_at
before_next node n k = omega (arith, stands_next node n k)

-- a node that is moved as far as the next has no hoists
pub no_hoists : (node : ℕ → ℕ) (n m : ℕ) (shift : List ℕ) → Shifted node n m shift → (k : ℕ) → k < m → get_or shift k 0 ≡ get_or shift (k + 1) 0 → (c : ℕ) → c < n → node c ≡ k → ⊥
unfolding hoists_at
no_hoists node n m shift h k l e c q f =
    let one = times_some (λ d. eqb (node d) k) 0 n c (omega arith) (omega arith) (eq-eqb (node c) k f) in
    omega (arith, h.shift_is k (omega arith), h.shift_is (k + 1) (omega arith), before_next node n k)

-- the first and the last of the numbers apart
times_first : (f : ℕ → Bool) (i n : ℕ) → times f i (suc n) ≡ bit (f i) + times f (i + 1) n
unfolding times bit
times_first f i n = go (f i)
  where
    go : (b : Bool) → (elim b [ true ↦ suc (times f (i + 1) n) | false ↦ times f (i + 1) n ]) ≡ bit b + times f (i + 1) n
    go true = omega arith
    go false = omega arith

times_last : (f : ℕ → Bool) (i n : ℕ) → times f i (suc n) ≡ times f i n + bit (f (i + n))
unfolding times
times_last f i zero = omega (arith, times_first f i 0, ap (λ z. bit (f z)) (add-zero i))
times_last f i (suc n) =
    let e : i + 1 + n ≡ i + suc n = omega arith in
    omega (arith, times_first f i (suc n), times_first f i n, times_last f (i + 1) n, ap (λ z. bit (f z)) e)

-- the clauses before c are counted
module _ (node : ℕ → ℕ) where
  pub count_start : {clauses : ℕ} {shift : List ℕ} → ShiftAsked node clauses shift → HoistsCounted node 0 shift
  unfolding hoists_at
  count_start a = record { long = a.long; count_is = λ k l. a.none_yet k l ∙ sym (times_end (λ d. eqb (node d) k) 0 0 (omega arith)) }

  module _ {c : ℕ} {shift : List ℕ} (h : HoistsCounted node c shift) where
    pub count_small : (k : ℕ) → k ≤ nodes_most → get_or shift k 0 ≤ c
    unfolding hoists_at
    count_small k l = omega (arith, h.count_is k l, times_most (λ d. eqb (node d) k) 0 c)

    pub count_next : (at : ℕ) → at ≡ node c → at ≤ nodes_most → HoistsCounted node (c + 1) (set shift at (get_or shift at 0 + 1))
    unfolding hoists_at bit
    count_next at e m = record { long = length-set shift at (get_or shift at 0 + 1) ∙ h.long; count_is = each }
      where
        more : (k : ℕ) → k ≤ nodes_most → times (λ d. eqb (node d) k) 0 (c + 1) ≡ get_or shift k 0 + bit (eqb at k)
        more k l =
            let one : c + 1 ≡ suc c = omega arith in
            rw one (times_last (λ d. eqb (node d) k) 0 c ∙ ap₂ (λ y z. y + bit (eqb z k)) (sym (h.count_is k l)) (ap node (zero-add c) ∙ sym e))

        each : (k : ℕ) → k ≤ nodes_most → get_or (set shift at (get_or shift at 0 + 1)) k 0 ≡ times (λ d. eqb (node d) k) 0 (c + 1)
        each k l = go (eqb at k) refl
          where
            go : (b : Bool) → eqb at k ≡ b → get_or (set shift at (get_or shift at 0 + 1)) k 0 ≡ times (λ d. eqb (node d) k) 0 (c + 1)
            go true x =
                let q = eqb-true at k x in
                ap (λ z. get_or (set shift at (get_or shift at 0 + 1)) z 0) (sym q)
                ∙ get_or-set_same shift at (get_or shift at 0 + 1) 0 (omega (arith, h.long))
                ∙ ap (λ z. get_or shift z 0 + 1) q
                ∙ sym (rw x at (more k l))
            go false x =
                get_or-set_other shift at k (get_or shift at 0 + 1) 0 (λ z. eqb-false at k x (sym z))
                ∙ sym (add-zero (get_or shift k 0))
                ∙ sym (rw x at (more k l))

-- the sums are those of the hoists before each node
module _ {node : ℕ → ℕ} {clauses : ℕ} {shift : List ℕ} (h : HoistsCounted node clauses shift) where
  sum_hoists : (k : ℕ) → k ≤ nodes_most + 1 → sum_of shift k ≡ hoists_before node clauses k
  unfolding sum_of stands_at
  sum_hoists zero l = omega (arith, stands_first node clauses)
  sum_hoists (suc k) l =
      ap₂ (λ y z. y + z) (sum_hoists k (omega arith)) (h.count_is k (omega arith)) ∙ sym (before_next node clauses k) ∙ ap (hoists_before node clauses) (omega arith)

  pub sums_asked : (nodes : ℕ) → nodes ≤ nodes_most → clauses ≤ clauses_most → SumsAsked nodes shift
  sums_asked nodes most few =
      record { most = most; long = h.long; small = λ k l. omega (arith, sum_hoists k (omega arith), hoists_before_few node clauses k) }

  pub shifted_by : {nodes : ℕ} {after : List ℕ} → nodes ≤ nodes_most → SummedUp nodes shift after → Shifted node clauses nodes after
  shifted_by most s = record { shift_is = λ k l. s.sum_is k l ∙ sum_hoists k (omega arith) }

-- the table has the sums before node k, and is as it was from k on
pub record SummedTo (before after : List ℕ) (k sum : ℕ) : Type 0 where
  pub long : length after ≡ nodes_most + 1
  pub sum_is : sum ≡ sum_of before k
  pub done : (j : ℕ) → j < k → get_or after j 0 ≡ sum_of before j
  pub left : (j : ℕ) → k ≤ j → get_or after j 0 ≡ get_or before j 0

pub sum_start : {nodes : ℕ} {before : List ℕ} → SumsAsked nodes before → SummedTo before before 0 0
unfolding sum_of
sum_start a = record { long = a.long; sum_is = refl; done = λ j l. absurd (omega arith); left = λ j l. refl }

module _ {nodes : ℕ} {before after : List ℕ} {k sum : ℕ} (a : SumsAsked nodes before) (h : SummedTo before after k sum) (l : k ≤ nodes) where
  next_sum : sum + get_or after k 0 ≡ sum_of before (k + 1)
  unfolding sum_of
  next_sum =
      let one : suc k ≡ k + 1 = omega arith in
      ap₂ (λ y z. y + z) h.sum_is (h.left k (omega arith)) ∙ ap (sum_of before) one

  pub sum_small : sum + get_or after k 0 ≤ clauses_most
  sum_small = omega (arith, next_sum, a.small (k + 1) (omega arith))

  pub sum_next : SummedTo before (set after k sum) (k + 1) (sum + get_or after k 0)
  sum_next =
      record {
        long = length-set after k sum ∙ h.long;
        sum_is = next_sum;
        done = λ j q. each j q (eqb j k) refl;
        left = λ j q. get_or-set_other after k j sum 0 (λ z. omega arith) ∙ h.left j (omega arith);
      }
    where
      each : (j : ℕ) → j < k + 1 → (b : Bool) → eqb j k ≡ b → get_or (set after k sum) j 0 ≡ sum_of before j
      each j q true e =
          let x = eqb-true j k e in
          ap (λ z. get_or (set after k sum) z 0) x ∙ get_or-set_same after k sum 0 (omega (arith, h.long, a.most)) ∙ h.sum_is ∙ ap (sum_of before) (sym x)
      each j q false e =
          let x = eqb-false j k e in
          get_or-set_other after k j sum 0 x ∙ h.done j (omega arith)
