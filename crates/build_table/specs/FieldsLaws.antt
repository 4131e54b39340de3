-- What is read after the children of a pattern are stored: each child's fields are its parent's gifts, and every other byte is as it was.
-- Rests on Table and the laws of `set`.
use Rattle.std.specs.Prelude.{◌≡◌, length, get_or, set}
use Rattle.std.proofs.Math.Path.{refl}
use Rattle.std.proofs.Common.{ap, ◌∙◌, arith, length-set, get_or-set_same, get_or-set_other}
use Rattle.std.proofs.Math.Logic.{⊎_elim}
use mathlib.Core.List.{List}
use Prim.Native.Nat.{ℕ, zero, suc, ◌+◌, ◌*◌, ◌≤◌, ◌<◌}
use Rattle.spec_rules.specs.Limits.{patterns_most}
use Rattle.spec_rules.specs.SearchingLaws.{first_or_rest}
use Rattle.spec_rules.specs.SheetFile.{pattern_first, child, entry}
use Rattle.build_table.specs.Table.{owner_at, above_at, type_at, step_at, index_at, clause_at, table_size, placed, placed_each}
use Rattle.build_table.specs.PlacingLaws.{length_placed}

-- byte k is one of those that a pattern's parent sets of q: field 1 to 5 or 7 of its 192 each
pub record FieldAt (q k : ℕ) : Type 0 where
  pub field : ℕ
  pub low : 1 ≤ field
  pub high : field ≤ 7
  pub other : field ≡ 6 → ⊥
  pub here : k ≡ patterns_most * field + q

pub one_field : (q r k : ℕ) → q < patterns_most → r < patterns_most → FieldAt q k → FieldAt r k → q ≡ r
one_field q r k a b f g = omega (arith, f.here, g.here)

-- what stands in the fields of q
pub record Fields (u : List ℕ) (q above step index type owner clause : ℕ) : Type 0 where
  pub is_above : get_or u (above_at + q) 0 ≡ above
  pub is_step : get_or u (step_at + q) 0 ≡ step
  pub is_index : get_or u (index_at + q) 0 ≡ index
  pub is_type : get_or u (type_at + q) 0 ≡ type
  pub is_owner : get_or u (owner_at + q) 0 ≡ owner
  pub is_clause : get_or u (clause_at + q) 0 ≡ clause

-- bytes that are the same keep fields
pub kept_fields : (t u : List ℕ) (q above step index type owner clause : ℕ) → ((k : ℕ) → FieldAt q k → get_or u k 0 ≡ get_or t k 0)
    → Fields t q above step index type owner clause → Fields u q above step index type owner clause
kept_fields t u q above step index type owner clause same f = record {
  is_above = same (above_at + q) (at_field 2 (omega arith) (omega arith) (λ e. omega arith) (omega arith)) ∙ f.is_above;
  is_step = same (step_at + q) (at_field 4 (omega arith) (omega arith) (λ e. omega arith) (omega arith)) ∙ f.is_step;
  is_index = same (index_at + q) (at_field 5 (omega arith) (omega arith) (λ e. omega arith) (omega arith)) ∙ f.is_index;
  is_type = same (type_at + q) (at_field 3 (omega arith) (omega arith) (λ e. omega arith) (omega arith)) ∙ f.is_type;
  is_owner = same (owner_at + q) (at_field 1 (omega arith) (omega arith) (λ e. omega arith) (omega arith)) ∙ f.is_owner;
  is_clause = same (clause_at + q) (at_field 7 (omega arith) (omega arith) (λ e. omega arith) (omega arith)) ∙ f.is_clause;
}
  where
    at_field : {k : ℕ} (n : ℕ) → 1 ≤ n → n ≤ 7 → (n ≡ 6 → ⊥) → k ≡ patterns_most * n + q → FieldAt q k
    at_field n low high other here = record { field = n; low = low; high = high; other = other; here = here }

-- fields by other names
pub fields_as : {u : List ℕ} {q above step index type owner clause above' step' index' type' owner' clause' : ℕ}
    → above ≡ above' → step ≡ step' → index ≡ index' → type ≡ type' → owner ≡ owner' → clause ≡ clause'
    → Fields u q above step index type owner clause → Fields u q above' step' index' type' owner' clause'
fields_as a s i t o c f = record {
  is_above = f.is_above ∙ a;
  is_step = f.is_step ∙ s;
  is_index = f.is_index ∙ i;
  is_type = f.is_type ∙ t;
  is_owner = f.is_owner ∙ o;
  is_clause = f.is_clause ∙ c;
}

-- those of the same pattern
pub fields_of : {u : List ℕ} {q r above step index type owner clause : ℕ} → q ≡ r → Fields u q above step index type owner clause → Fields u r above step index type owner clause
fields_of e f = rw e at f

-- ---- six bytes stored one after the other
-- a byte elsewhere
skip : (l : List ℕ) (i v k : ℕ) → (k ≡ i → ⊥) → get_or (set l i v) k 0 ≡ get_or l k 0
skip l i v k h = get_or-set_other l i k v 0 h

module _ (t : List ℕ) (p q step index type owner : ℕ) where
  -- after each store but the last
  abbrev after_above : List ℕ
  after_above = set t (above_at + q) p

  abbrev after_step : List ℕ
  after_step = set after_above (step_at + q) step

  abbrev after_index : List ℕ
  after_index = set after_step (index_at + q) index

  abbrev after_type : List ℕ
  after_type = set after_index (type_at + q) type

  abbrev after_owner : List ℕ
  after_owner = set after_type (owner_at + q) owner

  last_store : placed t p q step index type owner ≡ set after_owner (clause_at + q) (get_or t (clause_at + p) 0)
  unfolding placed
  last_store = refl

  -- ---- one child
  pub placed_other : (k : ℕ) → (FieldAt q k → ⊥) → get_or (placed t p q step index type owner) k 0 ≡ get_or t k 0
  placed_other k free =
      ap (λ (l : List ℕ). get_or l k 0) last_store
      ∙ skip after_owner (clause_at + q) (get_or t (clause_at + p) 0) k (λ e. free (record { field = 7; low = omega arith; high = omega arith; other = λ x. omega arith; here = omega arith }))
      ∙ skip after_type (owner_at + q) owner k (λ e. free (record { field = 1; low = omega arith; high = omega arith; other = λ x. omega arith; here = omega arith }))
      ∙ skip after_index (type_at + q) type k (λ e. free (record { field = 3; low = omega arith; high = omega arith; other = λ x. omega arith; here = omega arith }))
      ∙ skip after_step (index_at + q) index k (λ e. free (record { field = 5; low = omega arith; high = omega arith; other = λ x. omega arith; here = omega arith }))
      ∙ skip after_above (step_at + q) step k (λ e. free (record { field = 4; low = omega arith; high = omega arith; other = λ x. omega arith; here = omega arith }))
      ∙ skip t (above_at + q) p k (λ e. free (record { field = 2; low = omega arith; high = omega arith; other = λ x. omega arith; here = omega arith }))

  module _ (long : length t ≡ table_size) (known : q < patterns_most) where
    in_above : get_or after_owner (above_at + q) 0 ≡ p
    in_above =
        skip after_type (owner_at + q) owner (above_at + q) (λ e. omega arith)
        ∙ skip after_index (type_at + q) type (above_at + q) (λ e. omega arith)
        ∙ skip after_step (index_at + q) index (above_at + q) (λ e. omega arith)
        ∙ skip after_above (step_at + q) step (above_at + q) (λ e. omega arith)
        ∙ get_or-set_same t (above_at + q) p 0 (omega arith)

    in_step : get_or after_owner (step_at + q) 0 ≡ step
    in_step =
        skip after_type (owner_at + q) owner (step_at + q) (λ e. omega arith)
        ∙ skip after_index (type_at + q) type (step_at + q) (λ e. omega arith)
        ∙ skip after_step (index_at + q) index (step_at + q) (λ e. omega arith)
        ∙ get_or-set_same after_above (step_at + q) step 0 (simp length-set (omega arith))

    in_index : get_or after_owner (index_at + q) 0 ≡ index
    in_index =
        skip after_type (owner_at + q) owner (index_at + q) (λ e. omega arith)
        ∙ skip after_index (type_at + q) type (index_at + q) (λ e. omega arith)
        ∙ get_or-set_same after_step (index_at + q) index 0 (simp length-set (omega arith))

    in_type : get_or after_owner (type_at + q) 0 ≡ type
    in_type =
        skip after_type (owner_at + q) owner (type_at + q) (λ e. omega arith)
        ∙ get_or-set_same after_index (type_at + q) type 0 (simp length-set (omega arith))

    in_owner : get_or after_owner (owner_at + q) 0 ≡ owner
    in_owner =
        get_or-set_same after_type (owner_at + q) owner 0 (simp length-set (omega arith))

    pub placed_fields : Fields (placed t p q step index type owner) q p step index type owner (get_or t (clause_at + p) 0)
    placed_fields =
        rw last_store
        (record {
          is_above = skip after_owner (clause_at + q) (get_or t (clause_at + p) 0) (above_at + q) (λ e. omega arith) ∙ in_above;
          is_step = skip after_owner (clause_at + q) (get_or t (clause_at + p) 0) (step_at + q) (λ e. omega arith) ∙ in_step;
          is_index = skip after_owner (clause_at + q) (get_or t (clause_at + p) 0) (index_at + q) (λ e. omega arith) ∙ in_index;
          is_type = skip after_owner (clause_at + q) (get_or t (clause_at + p) 0) (type_at + q) (λ e. omega arith) ∙ in_type;
          is_owner = skip after_owner (clause_at + q) (get_or t (clause_at + p) 0) (owner_at + q) (λ e. omega arith) ∙ in_owner;
          is_clause = get_or-set_same after_owner (clause_at + q) (get_or t (clause_at + p) 0) 0 (simp length-set (omega arith));
        })

-- ---- several children
module _ (s : List ℕ) (p : ℕ) where
  -- the i-th child
  abbrev part : ℕ → ℕ
  part i = child s (pattern_first s p + i)

  -- the children are patterns, none of them p, and all different
  pub record Apart (i n : ℕ) : Type 0 where
    pub known : (j : ℕ) → i ≤ j → j < i + n → part j < patterns_most
    pub not_parent : (j : ℕ) → i ≤ j → j < i + n → part j ≡ p → ⊥
    pub different : (j k : ℕ) → i ≤ j → j < i + n → i ≤ k → k < i + n → part j ≡ part k → j ≡ k

  apart_rest : (i n : ℕ) → Apart i (suc n) → Apart (i + 1) n
  apart_rest i n a = record {
    known = λ j l h. a.known j (omega arith) (omega arith);
    not_parent = λ j l h. a.not_parent j (omega arith) (omega arith);
    different = λ j k l h u v. a.different j k (omega arith) (omega arith) (omega arith) (omega arith);
  }

  module _ (step e stride owner : ℕ) where
    pub each_other : (t : List ℕ) (i n k : ℕ) → ((j : ℕ) → i ≤ j → j < i + n → FieldAt (part j) k → ⊥) → get_or (placed_each s t p step e stride owner i n) k 0 ≡ get_or t k 0
    unfolding placed_each
    each_other t i zero k free = refl
    each_other t i (suc n) k free =
        each_other (placed t p (part i) step i (entry s (e + stride * i)) owner) (i + 1) n k (λ j low high. free j (omega arith) (omega arith))
        ∙ placed_other t p (part i) step i (entry s (e + stride * i)) owner k (free i (omega arith) (omega arith))

    pub each_fields : (t : List ℕ) (i n : ℕ) → length t ≡ table_size → p < patterns_most → Apart i n → (j : ℕ) → i ≤ j → j < i + n
        → Fields (placed_each s t p step e stride owner i n) (part j) p step j (entry s (e + stride * j)) owner (get_or t (clause_at + p) 0)
    unfolding placed_each
    each_fields t i zero long parent a j low high = absurd (omega arith)
    each_fields t i (suc n) long parent a j low high =
        ⊎_elim here (later (each_fields u (i + 1) n (length_placed t p (part i) step i (entry s (e + stride * i)) owner ∙ long) parent (apart_rest i n a) j)) (first_or_rest i j n low high)
      where
        u : List ℕ
        u = placed t p (part i) step i (entry s (e + stride * i)) owner

        -- the i-th stays as it was put
        stays : (k : ℕ) → FieldAt (part i) k → get_or (placed_each s u p step e stride owner (i + 1) n) k 0 ≡ get_or u k 0
        stays k f =
            each_other u (i + 1) n k
            (λ x l h g.
            let same = one_field (part i) (part x) k (a.known i (omega arith) (omega arith)) (a.known x (omega arith) (omega arith)) f g in
            let equal = a.different i x (omega arith) (omega arith) (omega arith) (omega arith) same in
            omega arith)

        here : j ≡ i → Fields (placed_each s u p step e stride owner (i + 1) n) (part j) p step j (entry s (e + stride * j)) owner (get_or t (clause_at + p) 0)
        here d =
            rw d
            (kept_fields u (placed_each s u p step e stride owner (i + 1) n) (part i) p step i (entry s (e + stride * i)) owner (get_or t (clause_at + p) 0) stays
            (placed_fields t p (part i) step i (entry s (e + stride * i)) owner long (a.known i (omega arith) (omega arith))))

        -- the parent's clause is not touched
        clause_stays : get_or u (clause_at + p) 0 ≡ get_or t (clause_at + p) 0
        clause_stays =
            placed_other t p (part i) step i (entry s (e + stride * i)) owner (clause_at + p)
            (λ f. a.not_parent i (omega arith) (omega arith) (omega (arith, f.here, f.high, a.known i (omega arith) (omega arith))))

        later : (i + 1 ≤ j → j < i + 1 + n → Fields (placed_each s u p step e stride owner (i + 1) n) (part j) p step j (entry s (e + stride * j)) owner (get_or u (clause_at + p) 0))
            → (i + 1 ≤ j) × (j < i + 1 + n) → Fields (placed_each s u p step e stride owner (i + 1) n) (part j) p step j (entry s (e + stride * j)) owner (get_or t (clause_at + p) 0)
        later ih w = fields_as refl refl refl refl refl clause_stays (ih w.0 w.1)
