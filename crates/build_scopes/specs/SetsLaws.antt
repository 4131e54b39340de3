-- Laws of sets of clauses, a bit by clause: what their bits are, and that the set of a node has the clauses with a mark there.
-- In a loop over a run of cases that ends before case `end`, end - j are left from case j on.
use Rattle.std.specs.Prelude.{◌≡◌, Bool, length, get_or, set, eqb, ltb}
use Rattle.std.proofs.Math.Path.{refl, sym, ap}
use Rattle.std.proofs.Common.{◌∙◌, true≢false, pow-suc, add_comm, pow-add, eq-eqb, eqb-true, lt-ltb, ltb-true, ltb-false}
use Rattle.std.proofs.Math.Bool.{true, false}
use mathlib.Core.List.{List, [], ◌∷◌}
use Prim.Native.Nat.{ℕ, zero, suc, ◌+◌, ◌-◌, ◌/◌, ◌%◌, ◌^◌, ◌≤◌, ◌<◌}
use native.Mathlib.Omega.{arith}
use Rattle.std.proofs.Math.Nat.{mul-mod_left}
use Rattle.std.proofs.Math.Pow.{pow-lt, high}
use Rattle.std.proofs.lemmas.Nat.{shl-shr, and_mask, or_shr, or_mod}
use Rattle.std.specs.Int.Bits.{bit_and, bit_or}
use Rattle.base_words.specs.Words.{pick}
use Rattle.spec_rules.specs.Kinds.{leaf_node, first_case_word, cases_word, tail_cases_word, default_word, clause_word}
use Rattle.spec_rules.specs.Rows.{bit}
use Rattle.build_arena.specs.Arena.{node_kind, node_word, case_child}
use Rattle.build_scopes.specs.Marks.{bit_at, column, marked_cases, marked_default, marked_children, node_marked, union_cases, default_set, node_set}

-- ---- the bits of a set
pub bit_at_most : (c x : ℕ) → bit_at c x ≤ 1
unfolding bit_at
bit_at_most c x = let q = x / 2 ^ c in omega arith

bit_at_none : (c : ℕ) → bit_at c 0 ≡ 0
unfolding bit_at
bit_at_none c = ap (λ z. z % 2) (ap (λ z. z / 2 ^ c) (omega arith) ∙ shl-shr 0 c)

bits_or : (x y : ℕ) → x ≤ 1 → y ≤ 1 → bit_or x y ≡ bit (ltb 0 (x + y))
unfolding bit
bits_or zero zero f g = refl
bits_or zero (suc zero) f g = refl
bits_or (suc zero) zero f g = refl
bits_or (suc zero) (suc zero) f g = refl
bits_or (suc (suc x)) y f g = absurd (omega arith)
bits_or zero (suc (suc y)) f g = absurd (omega arith)
bits_or (suc zero) (suc (suc y)) f g = absurd (omega arith)

bit_at_or : (c x y : ℕ) → bit_at c (bit_or x y) ≡ bit (ltb 0 (bit_at c x + bit_at c y))
unfolding bit_at
bit_at_or c x y =
    ap (λ z. z % 2) (or_shr x y c)
    ∙ or_mod (x / 2 ^ c) (y / 2 ^ c) 1
    ∙ bits_or (x / 2 ^ c % 2) (y / 2 ^ c % 2) (bit_at_most c x) (bit_at_most c y)

pub bit_at_is : (c x : ℕ) → bit_and (x / 2 ^ c) 1 ≡ bit_at c x
unfolding bit_at
bit_at_is c x = and_mask (x / 2 ^ c) 1

-- the set of one clause
one_same : (c : ℕ) → 2 ^ c / 2 ^ c % 2 ≡ 1
one_same c = ap (λ z. z % 2) (ap (λ z. z / 2 ^ c) (omega arith) ∙ shl-shr 1 c)

one_below : (c d : ℕ) → d < c → 2 ^ d / 2 ^ c % 2 ≡ 0
one_below c d l = ap (λ z. z % 2) (ap (λ z. z / 2 ^ c) (omega arith) ∙ high 0 c (pow-lt l))

one_above : (c e : ℕ) → 2 ^ (suc e + c) / 2 ^ c % 2 ≡ 0
one_above c e =
    ap (λ z. z % 2) (ap (λ z. z / 2 ^ c) (pow-add 2 (suc e) c) ∙ shl-shr (2 ^ suc e) c ∙ pow-suc 2 e) ∙ mul-mod_left (2 ^ e) 2

bit_at_one : (c d : ℕ) → bit_at c (2 ^ d) ≡ bit (eqb c d)
unfolding bit_at bit
bit_at_one c d = go (eqb c d) refl
  where
    other : (n : ℕ) → d - c ≡ n → (c ≡ d → ⊥) → 2 ^ d / 2 ^ c % 2 ≡ 0
    other zero e n = one_below c d (omega arith)
    other (suc m) e n = let f : d ≡ suc m + c = omega arith in ap (λ z. 2 ^ z / 2 ^ c % 2) f ∙ one_above c m

    go : (b : Bool) → eqb c d ≡ b → 2 ^ d / 2 ^ c % 2 ≡ bit (eqb c d)
    go true e = rw e (ap (λ z. 2 ^ z / 2 ^ c % 2) (sym (eqb-true c d e)) ∙ one_same c)
    go false e = rw e (other (d - c) refl (λ x. true≢false (sym (eq-eqb c d x) ∙ e)))

-- ---- the bits of one clause in a table of sets
module _ (c : ℕ) where
  pub get_or_column : (sets : List ℕ) (j : ℕ) → get_or (column c sets) j 0 ≡ bit_at c (get_or sets j 0)
  unfolding column
  get_or_column [] j = sym (bit_at_none c)
  get_or_column (x ∷ sets) zero = refl
  get_or_column (x ∷ sets) (suc j) = get_or_column sets j

  pub column_most : (sets : List ℕ) (j : ℕ) → get_or (column c sets) j 0 ≤ 1
  column_most sets j = omega (arith, get_or_column sets j, bit_at_most c (get_or sets j 0))

  pub length_column : (sets : List ℕ) → length (column c sets) ≡ length sets
  unfolding column
  length_column [] = refl
  length_column (x ∷ sets) = ap suc (length_column sets)

  pub column_set : (sets : List ℕ) (k x : ℕ) → column c (set sets k x) ≡ set (column c sets) k (bit_at c x)
  unfolding column
  column_set [] k x = refl
  column_set (y ∷ sets) zero x = refl
  column_set (y ∷ sets) (suc k) x = ap (λ z. bit_at c y ∷ z) (column_set sets k x)

  pub marked_default_column : (sets : List ℕ) (default : ℕ) → bit_at c (default_set sets default) ≡ marked_default (column c sets) default
  unfolding default_set marked_default
  marked_default_column sets default = go (eqb default 0)
    where
      go : (b : Bool) → bit_at c (pick b 0 (get_or sets (default - 1) 0)) ≡ pick b 0 (get_or (column c sets) (default - 1) 0)
      go true = bit_at_none c
      go false = sym (get_or_column sets (default - 1))

-- ---- the union of the cases
-- some of three counts, the first two of them first
some_of_three : (x y z : ℕ) → bit (ltb 0 (bit (ltb 0 (x + y)) + z)) ≡ bit (ltb 0 (x + (y + z)))
unfolding bit
some_of_three x y z = go (ltb 0 (x + y)) refl
  where
    go : (b : Bool) → ltb 0 (x + y) ≡ b → bit (ltb 0 (bit (ltb 0 (x + y)) + z)) ≡ bit (ltb 0 (x + (y + z)))
    go true e = let p = ltb-true 0 (x + y) e in rw (e, lt-ltb 0 (1 + z) (omega arith), lt-ltb 0 (x + (y + z)) (omega arith))
    go false e =
        let p = ltb-false 0 (x + y) e in
        let q : 0 + z ≡ x + (y + z) = omega arith in
        rw e (ap (λ n. bit (ltb 0 n)) q)

own_mark : (x : ℕ) → x ≤ 1 → x ≡ bit (ltb 0 (x + 0))
unfolding bit
own_mark zero l = refl
own_mark (suc zero) l = refl
own_mark (suc (suc x)) l = absurd (omega arith)

module _ (w sets : List ℕ) where
  -- THEOREM: a clause is in the union where it is in the first set, or where a case is marked
  union_marked : (c i n all : ℕ) → bit_at c (union_cases w sets i n all) ≡ bit (ltb 0 (bit_at c all + marked_cases w (column c sets) i n))
  unfolding union_cases marked_cases
  union_marked c i zero all = own_mark (bit_at c all) (bit_at_most c all)
  union_marked c i (suc n) all =
      union_marked c (i + 1) n (bit_or all (get_or sets (case_child w i) 0))
      ∙ ap (λ z. bit (ltb 0 (z + marked_cases w (column c sets) (i + 1) n))) (bit_at_or c all (get_or sets (case_child w i) 0))
      ∙ some_of_three (bit_at c all) (bit_at c (get_or sets (case_child w i) 0)) (marked_cases w (column c sets) (i + 1) n)
      ∙ ap (λ z. bit (ltb 0 (bit_at c all + (z + marked_cases w (column c sets) (i + 1) n)))) (sym (get_or_column c sets (case_child w i)))

  -- THEOREM: the set of a node has the clauses that are marked there
  pub node_set_marked : (c k : ℕ) → bit_at c (node_set w sets k) ≡ node_marked w (column c sets) c k
  unfolding node_set node_marked marked_children
  node_set_marked c k = go (eqb (node_kind w k) leaf_node)
    where
      cases : ℕ
      cases = marked_cases w (column c sets) (node_word w k first_case_word) (node_word w k cases_word + node_word w k tail_cases_word)

      default : ℕ
      default = marked_default (column c sets) (node_word w k default_word)

      go : (b : Bool)
          → bit_at c (pick b (2 ^ node_word w k clause_word) (union_cases w sets (node_word w k first_case_word) (node_word w k cases_word + node_word w k tail_cases_word) (default_set sets (node_word w k default_word))))
          ≡ pick b (bit (eqb c (node_word w k clause_word))) (bit (ltb 0 (cases + default)))
      go true = bit_at_one c (node_word w k clause_word)
      go false =
          union_marked c (node_word w k first_case_word) (node_word w k cases_word + node_word w k tail_cases_word) (default_set sets (node_word w k default_word))
          ∙ ap (λ z. bit (ltb 0 (z + cases))) (marked_default_column c sets (node_word w k default_word))
          ∙ ap (λ z. bit (ltb 0 z)) (add_comm default cases)

  pub union_next : (j end all : ℕ) → j < end → union_cases w sets j (end - j) all ≡ union_cases w sets (j + 1) (end - (j + 1)) (bit_or all (get_or sets (case_child w j) 0))
  unfolding union_cases
  union_next j end all l = let d : end - j ≡ suc (end - (j + 1)) = omega arith in rw d

  pub union_end : (j end all : ℕ) → end ≤ j → union_cases w sets j (end - j) all ≡ all
  unfolding union_cases
  union_end j end all l = let d : end - j ≡ 0 = omega arith in rw d
