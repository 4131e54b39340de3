-- Laws of lists held in arrays, as the loops over them use: moving up by one, appending one more, and looking up from the front.
use Rattle.std.specs.Prelude.{◌≡◌, refl, Bool, true, false, not, List, [], ◌∷◌, ◌++◌, length, get_or, take, drop, set, eqb, ltb, position, Option, Some, None}
use Rattle.std.proofs.Common.{sym, ap₂, ◌∙◌, append_assoc, add-one, length-append, length-drop, take-suc, take-take, length-take-le, take-suc-set}
use Rattle.std.proofs.Math.Path.{ap}
use Rattle.std.proofs.Math.Bool.{cond}
use Prim.Native.Nat.{ℕ, suc, ◌+◌, ◌-◌, ◌≤◌, ◌<◌}
use native.Mathlib.Omega.{arith}
use Rattle.std.specs.List.{copy_within, position_or_len}
use Rattle.std.specs.Option.{unwrap_or}
use Rattle.std.proofs.Math.Seq.{slice, append_snoc, take-set-lt}
use Rattle.std.proofs.lemmas.Bool.{ltb-false}
use Rattle.std.proofs.lemmas.List.{set_at, drop-take}
use Rattle.std.proofs.lemmas.List.Edits.{take-paste}
use Rattle.std.proofs.lemmas.List.Recursion.{is_position_or_len}
use Rattle.std.proofs.lemmas.List.Sums.{prefix_len-le-length}
use Rattle.spec_rules.specs.SheetRefusals.{is_in}
use Rattle.build_matrix.specs.declared.PerRow.{PerRow}
use Rattle.build_matrix.specs.declared.Classes.{Classes}
use Rattle.build_matrix.specs.Lists.{classes_in, Holds, HoldsRows, Whole, WholeRows, first_place}
use Rattle.build_matrix.specs.Ordered.{without_class, without_parts, place_inside}

-- ---- a part, as a slice is cut
pub cut : (l : List ℕ) (from to : ℕ) → from ≤ to → take (to - from) (drop from l) ≡ slice from to l
cut l from to h = let e : from + (to - from) ≡ to = omega arith in sym (drop-take from (to - from) l) ∙ ap (λ (m : ℕ). drop from (take m l)) e

-- ---- moving up
-- those from a place up to n are moved up by one, and the place is stored to
pub moved_up : (l : List ℕ) (n at k : ℕ) → n < length l → at ≤ n → take (n + 1) (set (copy_within l at n (at + 1)) at k) ≡ take at l ++ k ∷ slice at n l
moved_up l n at k room high =
    let x = get_or l at 0 in
    let rest = take (n - at) (drop at l) in
    let moved = copy_within l at n (at + 1) in
    let e : at + 1 + (n - at) ≡ n + 1 = omega arith in
    let front : take (n + 1) moved ≡ (take at l ++ x ∷ []) ++ rest =
    ap (λ (m : ℕ). take m moved) (sym e) ∙ take-paste l (at + 1) (drop at l) (n - at) (omega arith) (simp length-drop (omega arith))
    ∙ ap (λ (y : List ℕ). y ++ rest) (rw add-one (take-suc l at 0 (omega arith)))
    in
    take-set-lt (n + 1) moved at k (omega arith) ∙ ap (λ (y : List ℕ). set y at k) (front ∙ append_snoc (take at l) x rest)
    ∙ set_at (take at l) x rest k at (length-take-le at l (omega arith))
    ∙ ap (λ (y : List ℕ). take at l ++ k ∷ y) (cut l at n high)

-- ---- one more at the end
pub push_one : (l : List ℕ) (n x : ℕ) → n < length l → take (n + 1) (set l n x) ≡ take n l ++ x ∷ []
push_one l n x h = rw add-one (take-suc-set l n x h)

-- ---- looking up from the front
-- a place found, or else the length
pub found_or_end : (p : ℕ → Bool) (l : List ℕ) (r : Option ℕ) (n : ℕ) → r ≡ position p l → length l ≡ n → unwrap_or r n ≡ position_or_len p l
found_or_end p l r n e long = rw e (go (ltb (position_or_len p l) (length l)) refl)
  where
    go : (b : Bool) → ltb (position_or_len p l) (length l) ≡ b → unwrap_or (cond b (Some (position_or_len p l)) None) n ≡ position_or_len p l
    go true f = refl
    go false f = omega (arith, ltb-false (position_or_len p l) (length l) f, prefix_len-le-length (λ x. not (p x)) l)

pub place_found : (k : ℕ) (l : List ℕ) → first_place k l ≡ position_or_len (λ x. eqb x k) l
unfolding first_place
place_found k l = is_position_or_len (first_place k) (λ x. eqb x k) refl (λ x xs. go (eqb x k) (first_place k xs)) l
  where
    go : (b : Bool) (n : ℕ) → elim b [ true ↦ 0 | false ↦ suc n ] ≡ cond b 0 (1 + n)
    go true n = refl
    go false n = omega arith

-- ---- what it is to hold a list
pub holds_count : {o : Classes} {l : List ℕ} → Holds o l → o.count ≡ length l
holds_count {o} h = sym (length-take-le o.count o.list (omega (arith, h.long, h.most))) ∙ ap length h.are

pub holds_rows_count : {r : PerRow} {l : List ℕ} → HoldsRows r l → r.count ≡ length l
holds_rows_count {r} h = sym (length-take-le r.count r.list (omega (arith, h.long, h.most))) ∙ ap length h.are

pub holds_same : {o : Classes} {k l : List ℕ} → Holds o k → k ≡ l → Holds o l
holds_same h e = record { long = h.long; most = h.most; are = h.are ∙ e }

pub holds_rows_same : {r : PerRow} {k l : List ℕ} → HoldsRows r k → k ≡ l → HoldsRows r l
holds_rows_same h e = record { long = h.long; most = h.most; are = h.are ∙ e }

pub whole : {o : Classes} {l : List ℕ} → Holds o l → Whole o
whole h = record { long = h.long; most = h.most; are = refl }

pub whole_rows : {r : PerRow} {l : List ℕ} → HoldsRows r l → WholeRows r
whole_rows h = record { long = h.long; most = h.most; are = refl }

-- ---- the others put behind: all before the place of k, and all behind it
module _ (o cs front out : Classes) (k place : ℕ) (a : Whole o) (b : Whole cs) (there : is_in k (classes_in cs) ≡ true) (is : place ≡ first_place k (classes_in cs)) where
  pub rest_place : place < cs.count
  rest_place = omega (arith, place_inside k (classes_in cs) there, holds_count b)

  pub rest_count : Holds front (classes_in o ++ slice 0 place cs.list) → front.count ≡ o.count + place
  rest_count h = omega (arith, holds_count h, length-append (classes_in o) (take place cs.list), holds_count a, length-take-le place cs.list (omega (arith, rest_place, b.long, b.most)))

  pub rest_are : Holds front (classes_in o ++ slice 0 place cs.list) → Holds out (classes_in front ++ slice (place + 1) cs.count cs.list)
      → Holds out (classes_in o ++ without_class k (classes_in cs))
  rest_are h r =
      let front_part : take (first_place k (classes_in cs)) (classes_in cs) ≡ take place cs.list = rw (← is) (take-take place cs.count cs.list (omega (arith, rest_place))) in
      let parts : without_class k (classes_in cs) ≡ take place cs.list ++ slice (place + 1) cs.count cs.list =
      without_parts k (classes_in cs) ∙ ap₂ (λ (x y : List ℕ). x ++ y) front_part (ap (λ (n : ℕ). drop n (classes_in cs)) (ap suc (sym is) ∙ sym (add-one place)))
      in
      holds_same r
      (ap (λ (x : List ℕ). x ++ slice (place + 1) cs.count cs.list) h.are
      ∙ append_assoc (classes_in o) (take place cs.list) (slice (place + 1) cs.count cs.list)
      ∙ ap (λ (x : List ℕ). classes_in o ++ x) (sym parts))
