-- The table as filling begins, with the fields of each clause's root in a table of zeros, and as it ends.
-- Rests on the standing of roots and the laws of `set`.
use Rattle.std.specs.Prelude.{◌≡◌, length, get_or, set}
use Rattle.std.proofs.Math.Path.{refl, sym, ap}
use Rattle.std.proofs.Common.{◌∙◌}
use Rattle.std.proofs.Math.Logic.{⊎_elim}
use mathlib.Core.List.{List}
use Prim.Native.Nat.{ℕ, zero, suc, ◌+◌, ◌*◌, ◌≤◌, ◌<◌}
use native.Mathlib.Omega.{arith}
use Rattle.std.proofs.Math.ListN.{length-set, length-replicate, get_or-replicate}
use Rattle.std.proofs.Math.Seq.{get_or-set_same, get_or-set_other}
use Rattle.base_words.specs.Words.{zeros}
use Rattle.spec_rules.specs.Limits.{patterns_most}
use Rattle.spec_rules.specs.Searching.{lowest}
use Rattle.spec_rules.specs.SearchingLaws.{first_or_rest}
use Rattle.spec_rules.specs.SheetFile.{subject, patterns, clauses, root}
use Rattle.spec_accepted.specs.SheetFacts.{Accepted, one_clause}
use Rattle.build_table.specs.Standing.{parent_of, step_number, class_of, is_cell, one_more, cell_of}
use Rattle.build_table.specs.StandingLaws.{Place, as_root, as_child, place, root_clause, root_type, root_owner, root_above, root_index, root_step, child_parent, parent_below, first_path}
use Rattle.build_table.specs.ClassLaws.{class_below}
use Rattle.build_table.specs.Table.{class_at, owner_at, above_at, type_at, step_at, index_at, depth_at, clause_at, cells_at, table_size, same_number, rooted, rooted_each}
use Rattle.build_table.specs.Tabled.{Placed, Classed, Tabled, Filled}
use Rattle.build_table.specs.ClassingLaws.{length_rooted}

-- ---- one root: three bytes stored one after the other
-- byte k is none of those set of r
abbrev Elsewhere : ℕ → ℕ → Type 0
Elsewhere r k = (k ≡ step_at + r → ⊥) × (k ≡ type_at + r → ⊥) × (k ≡ clause_at + r → ⊥)

-- what stands in them
record RootFields (u : List ℕ) (r c type : ℕ) : Type 0 where
  is_step : get_or u (step_at + r) 0 ≡ same_number
  is_type : get_or u (type_at + r) 0 ≡ type
  is_clause : get_or u (clause_at + r) 0 ≡ c

module _ (t : List ℕ) (r c type : ℕ) where
  rooted_other : (k : ℕ) → Elsewhere r k → get_or (rooted t r c type) k 0 ≡ get_or t k 0
  unfolding rooted
  rooted_other k free =
      get_or-set_other (set (set t (step_at + r) same_number) (type_at + r) type) (clause_at + r) k c 0 free.2
      ∙ get_or-set_other (set t (step_at + r) same_number) (type_at + r) k type 0 free.1
      ∙ get_or-set_other t (step_at + r) k same_number 0 free.0

  rooted_fields : length t ≡ table_size → r < patterns_most → RootFields (rooted t r c type) r c type
  unfolding rooted
  rooted_fields long known = record {
    is_step =
        get_or-set_other (set (set t (step_at + r) same_number) (type_at + r) type) (clause_at + r) (step_at + r) c 0 (λ e. omega arith)
        ∙ get_or-set_other (set t (step_at + r) same_number) (type_at + r) (step_at + r) type 0 (λ e. omega arith)
        ∙ get_or-set_same t (step_at + r) same_number 0 (omega arith);
    is_type =
        get_or-set_other (set (set t (step_at + r) same_number) (type_at + r) type) (clause_at + r) (type_at + r) c 0 (λ e. omega arith)
        ∙ get_or-set_same (set t (step_at + r) same_number) (type_at + r) type 0 (simp length-set (omega arith));
    is_clause = get_or-set_same (set (set t (step_at + r) same_number) (type_at + r) type) (clause_at + r) c 0 (simp length-set (omega arith));
  }

-- ---- the roots of the n clauses from c on
module _ {s : List ℕ} (ok : Accepted s) where
  roots_other : (t : List ℕ) (c n k : ℕ) → ((d : ℕ) → c ≤ d → d < c + n → Elsewhere (root s d) k) → get_or (rooted_each s t c n) k 0 ≡ get_or t k 0
  unfolding rooted_each
  roots_other t c zero k free = refl
  roots_other t c (suc n) k free =
      roots_other (rooted t (root s c) c (subject s)) (c + 1) n k (λ d low high. free d (omega arith) (omega arith))
      ∙ rooted_other t (root s c) c (subject s) k (free c (omega arith) (omega arith))

  length_rooted_each : (t : List ℕ) (c n : ℕ) → length (rooted_each s t c n) ≡ length t
  unfolding rooted_each
  length_rooted_each t c zero = refl
  length_rooted_each t c (suc n) = length_rooted_each (rooted t (root s c) c (subject s)) (c + 1) n ∙ length_rooted t (root s c) c (subject s)

  root_small : (c : ℕ) → c < clauses s → root s c < patterns_most
  root_small c l = omega (arith, ok.is_shaped.root_pattern c l, ok.is_counted.patterns_most_holds)

  roots_fields : (t : List ℕ) (c n : ℕ) → length t ≡ table_size → c + n ≤ clauses s → (d : ℕ) → c ≤ d → d < c + n → RootFields (rooted_each s t c n) (root s d) d (subject s)
  unfolding rooted_each
  roots_fields t c zero long all d low high = absurd (omega arith)
  roots_fields t c (suc n) long all d low high =
      ⊎_elim here (λ w. roots_fields u (c + 1) n (length_rooted t (root s c) c (subject s) ∙ long) (omega arith) d w.0 w.1) (first_or_rest c d n low high)
    where
      u : List ℕ
      u = rooted t (root s c) c (subject s)

      first : RootFields u (root s c) c (subject s)
      first = rooted_fields t (root s c) c (subject s) long (root_small c (omega arith))

      -- a later root is another pattern
      apart : (x : ℕ) → c + 1 ≤ x → x < c + 1 + n → root s c ≡ root s x → ⊥
      apart x l h e = let same = one_clause ok.is_shaped c x (omega arith) (omega arith) e in omega arith

      stays : (k : ℕ) → ((x : ℕ) → c + 1 ≤ x → x < c + 1 + n → Elsewhere (root s x) k) → get_or (rooted_each s u (c + 1) n) k 0 ≡ get_or u k 0
      stays k free = roots_other u (c + 1) n k free

      here : d ≡ c → RootFields (rooted_each s u (c + 1) n) (root s d) d (subject s)
      here e = rw e (record {
        is_step = stays (step_at + root s c) (λ x l h. (λ y. apart x l h (omega arith), λ y. omega (arith, root_small c (omega arith), root_small x (omega arith)), λ y. omega (arith, root_small c (omega arith), root_small x (omega arith)))) ∙ first.is_step;
        is_type = stays (type_at + root s c) (λ x l h. (λ y. omega (arith, root_small c (omega arith), root_small x (omega arith)), λ y. apart x l h (omega arith), λ y. omega (arith, root_small c (omega arith), root_small x (omega arith)))) ∙ first.is_type;
        is_clause = stays (clause_at + root s c) (λ x l h. (λ y. omega (arith, root_small c (omega arith), root_small x (omega arith)), λ y. omega (arith, root_small c (omega arith), root_small x (omega arith)), λ y. apart x l h (omega arith))) ∙ first.is_clause;
      })

  -- ---- in a table of zeros
  with_roots : List ℕ
  with_roots = rooted_each s (zeros table_size) 0 (clauses s)

  -- a byte that is no root's step, type or clause
  still_zero : (k : ℕ) → k < table_size → ((r : ℕ) → r < patterns_most → Elsewhere r k) → get_or with_roots k 0 ≡ 0
  unfolding with_roots
  still_zero k l free =
      roots_other (zeros table_size) 0 (clauses s) k (λ d low high. free (root s d) (root_small d (omega arith))) ∙ get_or-replicate table_size k 0 0 l

  root_placed : (c : ℕ) → c < clauses s → Placed s with_roots (root s c)
  unfolding with_roots step_number
  root_placed c l =
      let sh = ok.is_shaped in
      let small = root_small c l in
      let f = roots_fields (zeros table_size) 0 (clauses s) (length-replicate {A = ℕ} table_size 0) (omega arith) c (omega arith) (omega arith) in
      record {
        owner = still_zero (owner_at + root s c) (omega arith) (λ r x. (λ e. omega arith, λ e. omega arith, λ e. omega arith)) ∙ sym (root_owner sh c l);
        above = still_zero (above_at + root s c) (omega arith) (λ r x. (λ e. omega arith, λ e. omega arith, λ e. omega arith)) ∙ sym (root_above sh c l);
        type = f.is_type ∙ sym (root_type sh c l);
        step = f.is_step ∙ ap step_number (sym (root_step sh c l));
        index = still_zero (index_at + root s c) (omega arith) (λ r x. (λ e. omega arith, λ e. omega arith, λ e. omega arith)) ∙ sym (root_index sh c l);
        clause = f.is_clause ∙ sym (root_clause sh c l);
      }

  first_classed : Classed s with_roots 0
  first_classed =
      let some_pattern : 0 < patterns s = omega (arith, ok.is_shaped.root_pattern 0 (omega (arith, ok.is_counted.some_clause))) in
      let own : class_of s 0 ≡ 0 = omega (arith, class_below s 0 some_pattern) in
      record {
        class = still_zero (class_at + 0) (omega arith) (λ r x. (λ e. omega arith, λ e. omega arith, λ e. omega arith)) ∙ sym own;
        depth = still_zero (depth_at + 0) (omega arith) (λ r x. (λ e. omega arith, λ e. omega arith, λ e. omega arith)) ∙ ap length (sym (first_path ok.is_shaped some_pattern));
      }

  pub roots_filled : Filled s (rooted_each s (zeros table_size) 0 (clauses s)) 0 0 0 0
  unfolding with_roots lowest
  roots_filled = record {
    long = length_rooted_each (zeros table_size) 0 (clauses s) ∙ length-replicate {A = ℕ} table_size 0;
    first = first_classed;
    placed = λ q l below. root_only q below (place ok.is_shaped q l);
    classed = λ q l none_below. absurd (omega arith);
    indexed = λ q l none_below. absurd (omega arith);
    cell = λ c class l k. still_zero (cells_at + patterns_most * c + class) (omega (arith, ok.is_counted.clauses_most_holds)) (λ r x. (λ e. omega arith, λ e. omega arith, λ e. omega arith));
  }
    where
      root_only : (q : ℕ) → parent_of s q ≤ 0 → Place s q → Placed s with_roots q
      root_only q below (as_root c x e) = rw e at (root_placed c x)
      root_only q below (as_child r j x y o e) = absurd (omega (arith, ap (parent_of s) e, child_parent ok.is_shaped r j x o))

  -- ---- at the end
  pub all_filled : (t : List ℕ) (n : ℕ) → n ≡ patterns s → Filled s t n n n n → Tabled s t
  unfolding cell_of
  all_filled t n e filled = record {
    long = filled.long;
    placed = λ q l. filled.placed q l (omega (arith, parent_below ok.is_shaped q l));
    classed = λ q l. filled.classed q l (omega arith);
    indexed = λ q l. filled.indexed q l (omega arith);
    cell = λ c class l k. filled.cell c class l k ∙ ap (λ (m : ℕ). one_more (lowest (is_cell s c class) 0 m)) e;
  }
