-- What bindings put into the arena leave there: every byte elsewhere as it was, and, where there is room, the records of the tree file
-- over the sheet's own paths. Rests on the arena's laws of writing; a leaf's bindings are met in crate build_matrix, by their numbers.
use Rattle.std.specs.Prelude.{◌≡◌, ◌⊎◌, Bool, ℕ, ◌+◌, ◌*◌, ◌≤◌, ◌<◌, length}
use Rattle.std.proofs.Math.Path.{refl, sym, ap}
use Rattle.std.proofs.Common.{◌∙◌, inl, inr, lt-ltb, ltb-true}
use Rattle.std.proofs.Math.Bool.{true, false}
use mathlib.Core.List.{List, [], ◌∷◌, ◌++◌, map}
use native.Mathlib.Omega.{arith}
use Rattle.std.proofs.Math.Dec.{ltb}
use Rattle.std.proofs.Math.ListN.{get_or}
use Rattle.std.proofs.lemmas.List.{length-map}
use Rattle.std.proofs.Math.Seq.{slice}
use Rattle.base_words.specs.Words.{pick}
use Rattle.base_words.specs.Stored.{stored}
use Rattle.base_words.specs.StoredLaws.{stored_nil, stored_append, get_or_stored_below, get_or_stored_above}
use Rattle.spec_rules.specs.Limits.{nodes_most, bindings_most, binding_size}
use Rattle.spec_rules.specs.Rows.{Binding}
use Rattle.spec_rules.specs.Building.{leaf_of}
use Rattle.spec_rules.specs.TreeFile.{bindings_bytes}
use Rattle.spec_file.specs.StandingLaws.{Stands}
use Rattle.spec_file.specs.LengthLaws.{length_bindings_bytes}
use Rattle.spec_accepted.specs.SheetFacts.{Accepted}
use Rattle.build_table.specs.Standing.{class_of, sheet_paths}
use Rattle.build_table.specs.Seen.{binding_at}
use Rattle.build_arena.specs.Arena.{cases_start, cases_most, bindings_start, arena_end}
use Rattle.build_arena.specs.WritingLaws.{Kept, stands_stored}
use Rattle.build_matrix.specs.declared.Matrix.{Matrix}
use Rattle.build_matrix.specs.InNumbers.{in_numbers}
use Rattle.build_matrix.specs.Lists.{numbers_in, classes_in}
use Rattle.build_matrix.specs.Matrices.{rows_at}
use Rattle.build_matrix.specs.Bound.{clause_leaf}
use Rattle.build_matrix.specs.BoundLaws.{leaf_numbers_lem}
use Rattle.build_matrix.specs.ReadingLaws.{slice_on}
use Rattle.build_leaves.specs.Bindings.{capped, Bound, bound, binding_record, bound_one, bound_all, first_clause, Room, WithRow}
use Rattle.build_leaves.specs.BindingsLaws.{bound_top, bound_length}

-- byte k is before the bindings from `top` on, or behind the arena
abbrev pub Elsewhere : ℕ → ℕ → Type 0
Elsewhere top k = (k < bindings_start + binding_size * top) ⊎ (arena_end ≤ k)

module _ (s : List ℕ) where
  record_length : (q : ℕ) → length (binding_record s q) ≡ binding_size
  unfolding binding_record
  record_length q = refl

  -- ---- the frame
  module _ (k : ℕ) where
    stored_elsewhere : (w : List ℕ) (top q : ℕ) → top < bindings_most → Elsewhere top k
        → get_or (stored w (bindings_start + binding_size * top) (binding_record s q)) k 0 ≡ get_or w k 0
    stored_elsewhere w top q h (inl below) = get_or_stored_below w (bindings_start + binding_size * top) (binding_record s q) k 0 below
    stored_elsewhere w top q h (inr above) =
        get_or_stored_above w (bindings_start + binding_size * top) (binding_record s q) k 0 (omega (arith, record_length q))

    one_elsewhere : (x : Bound) (q : ℕ) → Elsewhere x.top k → get_or (bound_one s x q).work k 0 ≡ get_or x.work k 0
    unfolding bound_one
    one_elsewhere x q h = go (ltb x.top bindings_most) refl
      where
        go : (b : Bool) → ltb x.top bindings_most ≡ b
            → get_or (pick b (stored x.work (bindings_start + binding_size * x.top) (binding_record s q)) x.work) k 0 ≡ get_or x.work k 0
        go true e = stored_elsewhere x.work x.top q (ltb-true x.top bindings_most e) h
        go false e = refl

    elsewhere_on : (top next : ℕ) → top ≤ next → Elsewhere top k → Elsewhere next k
    elsewhere_on top next h (inl below) = inl (omega arith)
    elsewhere_on top next h (inr above) = inr above

    pub bound_elsewhere : (x : Bound) (qs : List ℕ) → x.top ≤ bindings_most + 1 → Elsewhere x.top k → get_or (bound_all s x qs).work k 0 ≡ get_or x.work k 0
    unfolding bound_all bound_one
    bound_elsewhere x [] h e = refl
    bound_elsewhere x (q ∷ qs) h e =
        bound_elsewhere (bound_one s x q) qs (omega arith) (elsewhere_on x.top (capped (x.top + 1)) (omega arith) e) ∙ one_elsewhere x q e

  -- all nodes, all cases, and the bindings that were there before
  pub bound_kept : (x : Bound) (qs : List ℕ) → x.top ≤ bindings_most + 1 → Kept nodes_most cases_most x.top x.work (bound_all s x qs).work
  bound_kept x qs h =
      record {
        same_length = bound_length s x qs;
        nodes = λ i l. bound_elsewhere i x qs h (inl (omega arith));
        cases = λ i l. bound_elsewhere (cases_start + i) x qs h (inl (omega arith));
        bindings = λ i l. bound_elsewhere (bindings_start + i) x qs h (inl (omega arith));
      }

  -- ---- the records
  record_is : (q : ℕ) (qs : List ℕ)
      → binding_record s q ++ bindings_bytes (sheet_paths s) (map (binding_at s) qs) ≡ bindings_bytes (sheet_paths s) (map (binding_at s) (q ∷ qs))
  unfolding binding_record bindings_bytes class_of
  record_is q qs = refl

  one_stored : (x : Bound) (q : ℕ) → x.top < bindings_most → bound_one s x q ≡ bound (stored x.work (bindings_start + binding_size * x.top) (binding_record s q)) (x.top + 1)
  unfolding bound_one
  one_stored x q h =
      let top_is : capped (x.top + 1) ≡ x.top + 1 = omega arith in
      rw (lt-ltb x.top bindings_most h, top_is)

  -- where there is room for all: one store
  pub bound_stored : (qs : List ℕ) (w : List ℕ) (top : ℕ) → top + length qs ≤ bindings_most
      → (bound_all s (bound w top) qs).work ≡ stored w (bindings_start + binding_size * top) (bindings_bytes (sheet_paths s) (map (binding_at s) qs))
  unfolding bound_all bindings_bytes
  bound_stored [] w top h = sym (stored_nil w (bindings_start + binding_size * top))
  bound_stored (q ∷ qs) w top h =
      let at = bindings_start + binding_size * top in
      let next = bindings_start + binding_size * (top + 1) in
      let rest = bindings_bytes (sheet_paths s) (map (binding_at s) qs) in
      ap (λ (x : Bound). (bound_all s x qs).work) (one_stored (bound w top) q (omega arith))
      ∙ bound_stored qs (stored w at (binding_record s q)) (top + 1) (omega arith)
      ∙ stored_append w at next (binding_record s q) rest (omega (arith, record_length q))
      ∙ ap (stored w at) (record_is q qs)

-- ---- all that is promised, of bindings bs: what `leaf_bindings` answers and leaves
pub record LeafBound (s : List ℕ) (bs : List Binding) (w : List ℕ) (top : ℕ) (w' : List ℕ) (r : ℕ) : Type 0 where
  pub count : r ≡ capped (top + length bs)
  pub kept : Kept nodes_most cases_most top w w'
  pub behind : (k : ℕ) → arena_end ≤ k → get_or w' k 0 ≡ get_or w k 0
  pub there : top + length bs ≤ bindings_most → Stands w' (bindings_start + binding_size * top) (bindings_bytes (sheet_paths s) bs)

pub all_bound : (s : List ℕ) (qs : List ℕ) (w : List ℕ) (top : ℕ) (w' : List ℕ) (r : ℕ) → Room w top → bound w' r ≡ bound_all s (bound w top) qs
    → LeafBound s (map (binding_at s) qs) w top w' r
all_bound s qs w top w' r room e =
    let bs = map (binding_at s) qs in
    let size : length bs ≡ length qs = length-map qs (binding_at s) in
    let work_is : w' ≡ (bound_all s (bound w top) qs).work = ap (λ (x : Bound). x.work) e in
    record {
      count = ap (λ (x : Bound). x.top) e ∙ bound_top s (bound w top) qs room.most ∙ rw size;
      kept = rw work_is (bound_kept s (bound w top) qs room.most);
      behind = λ k h. rw work_is (bound_elsewhere s k (bound w top) qs room.most (inr h));
      there = λ h.
          rw (work_is ∙ bound_stored s qs w top (omega arith))
          (stands_stored w (bindings_start + binding_size * top) (bindings_bytes (sheet_paths s) bs) (omega (arith, room.long, length_bindings_bytes (sheet_paths s) bs)));
    }

-- ---- a leaf
-- "a leaf of the first row, with its bindings in the order they were collected"
pub leaf_is : (s : List ℕ) (ok : Accepted s) (x : Matrix) (with : WithRow s x)
    → leaf_of (rows_at s (classes_in x.tested) (numbers_in x.rows)) ≡ clause_leaf s x.opened (classes_in x.tested) (first_clause x)
leaf_is s ok x with =
    let first = slice_on x.rows.list 0 x.rows.count with.some_row (omega (arith, with.rows)) in
    leaf_numbers_lem ok (in_numbers x) with.sound (first_clause x) (slice 1 x.rows.count x.rows.list) first
