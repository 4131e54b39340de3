-- Laws of bindings put into the arena: how runs of them follow each other, what their count comes to.
-- The laws that code asks are over plain values, as it has them.
use Rattle.std.specs.Prelude.{◌≡◌, Bool, ℕ, ◌+◌, ◌*◌, ◌≤◌, ◌<◌, ltb}
use Rattle.std.proofs.Math.Path.{refl}
use Rattle.std.proofs.Common.{◌∙◌, lt-ltb, le-ltb}
use Rattle.std.proofs.Math.Bool.{true, false}
use mathlib.Core.List.{List, [], ◌∷◌, ◌++◌}
use native.Mathlib.Omega.{arith}
use Rattle.std.proofs.Math.ListN.{length}
use Rattle.base_words.specs.Words.{word_bytes, pick}
use Rattle.base_words.specs.Stored.{stored}
use Rattle.base_words.specs.StoredLaws.{length_stored}
use Rattle.spec_rules.specs.Limits.{bindings_most, binding_size}
use Rattle.spec_rules.specs.SheetFile.{pattern_a}
use Rattle.build_table.specs.Standing.{class_of}
use Rattle.build_arena.specs.Arena.{bindings_start}
use Rattle.build_leaves.specs.Bindings.{capped, Bound, bound, binding_record, bound_one, bound_all}

module _ (s : List ℕ) where
  -- ---- one binding
  pub one_fits : (w w' : List ℕ) (top q name class : ℕ) → top < bindings_most → name ≡ pattern_a s q → class ≡ class_of s q
      → w' ≡ stored w (bindings_start + binding_size * top) (word_bytes name ++ word_bytes class) → bound w' (top + 1) ≡ bound_one s (bound w top) q
  unfolding bound_one binding_record
  one_fits w w' top q name class h e f x =
      let top_is : top + 1 ≡ capped (top + 1) = omega arith in
      rw (lt-ltb top bindings_most h, ← e, ← f, ← x, ← top_is)

  pub one_past : (w : List ℕ) (top q : ℕ) → bindings_most ≤ top → bound w (bindings_most + 1) ≡ bound_one s (bound w top) q
  unfolding bound_one
  one_past w top q h =
      let top_is : bindings_most + 1 ≡ capped (top + 1) = omega arith in
      rw (le-ltb top bindings_most h, ← top_is)

  -- ---- runs of bindings
  pub bound_none : (x : Bound) → bound_all s x [] ≡ x
  unfolding bound_all
  bound_none x = refl

  pub bound_single : (x : Bound) (q : ℕ) → bound_all s x (q ∷ []) ≡ bound_one s x q
  unfolding bound_all
  bound_single x q = refl

  pub bound_append : (x : Bound) (qs rs : List ℕ) → bound_all s x (qs ++ rs) ≡ bound_all s (bound_all s x qs) rs
  unfolding bound_all
  bound_append x [] rs = refl
  bound_append x (q ∷ qs) rs = bound_append (bound_one s x q) qs rs

  -- ---- their count, and the length of the buffer
  pub bound_top : (x : Bound) (qs : List ℕ) → x.top ≤ bindings_most + 1 → (bound_all s x qs).top ≡ capped (x.top + length qs)
  unfolding bound_all bound_one
  bound_top x [] h = omega arith
  bound_top x (q ∷ qs) h = bound_top (bound_one s x q) qs (omega arith) ∙ omega arith

  one_length : (x : Bound) (q : ℕ) → length (bound_one s x q).work ≡ length x.work
  unfolding bound_one
  one_length x q = go (ltb x.top bindings_most)
    where
      go : (b : Bool) → length (pick b (stored x.work (bindings_start + binding_size * x.top) (binding_record s q)) x.work) ≡ length x.work
      go true = length_stored x.work (bindings_start + binding_size * x.top) (binding_record s q)
      go false = refl

  pub bound_length : (x : Bound) (qs : List ℕ) → length (bound_all s x qs).work ≡ length x.work
  unfolding bound_all
  bound_length x [] = refl
  bound_length x (q ∷ qs) = bound_length (bound_one s x q) qs ∙ one_length x q
