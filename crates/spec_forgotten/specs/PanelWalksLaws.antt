-- The walk on a panel file and the walk on the value that it holds end alike, in every tree: a position of the file is a part of the value
-- (`follow_agrees`), it shows the same test and has the same length, and so each switch takes the same branch (`walks_alike` of
-- proofs/PanelWalksLaws.antt).
use Prim.Native.Nat.{ℕ, zero, suc, ◌+◌, ◌-◌, ◌≤◌, ◌<◌}
use Rattle.std.proofs.Common.{zero-add, ◌∙◌}
use native.Mathlib.Omega.{arith}
use Rattle.std.specs.Prelude.{◌≡◌, Bool}
use Rattle.std.proofs.Math.Path.{refl, sym, ap}
use Rattle.std.proofs.Math.Bool.{true, false}
use mathlib.Core.List.{List, [], ◌∷◌}
use Rattle.std.proofs.Math.Option.{Option, none, some}
use Rattle.std.proofs.Math.Dec.{eqb, leb, ltb}
use borrow.Author.Tests.{eqb-true, eq-eqb, ltb-true, ltb-false, leb-true, leb-false}
use Rattle.base_words.specs.Words.{both, pick}
use Rattle.spec_rules.specs.PanelFile.{records, record_kind, record_a, record_first, record_count, part, RecordKind, Integer_record, Bytes_record, List_record, Pair_record, Tuple_record, Constructor_record, Unknown_record, record_kind_of}
use Rattle.spec_rules.specs.Rows.{Step, pair, tuple, constr, list, listtail, Path}
use Rattle.spec_rules.specs.Walking.{Position, Walked, reached, no_leaf, stuck, part_of, tail_of, take_step, follow}
use Rattle.spec_accepted.specs.KindsLaws.{record_number, record_byte, byte_record}
use Rattle.spec_accepted.specs.PanelFacts.{PanelAccepted, kind_holder}
use Rattle.spec_forgotten.specs.Values.{Value, Values, an_integer, a_byte_string, whole, a_list, a_pair, a_tuple, a_constructor, vnil, vcons, whole_kind, many_values, nth_of, rest_of, into_kind, step_into, part_along, Ended, at_clause, without, stuck_on, no_node}
use Rattle.spec_forgotten.specs.PuttingLaws.{and_on, along_step}
use Rattle.spec_forgotten.specs.PanelValues.{values_from, value_of_kind}
use Rattle.spec_forgotten.specs.PanelFitsLaws.{many_from, higher, no_unknown, record_value, value_here}

-- ---- a list without its first elements
unfoldable pub drop_values : ℕ → Values → Values
drop_values zero vs = vs
drop_values (suc d) vnil = vnil
drop_values (suc d) (vcons v vs) = drop_values d vs

drop_none : (d : ℕ) → drop_values d vnil ≡ vnil
unfolding drop_values
drop_none zero = refl
drop_none (suc d) = refl

nth_drop : (d : ℕ) (vs : Values) (i : ℕ) → nth_of (drop_values d vs) i ≡ nth_of vs (d + i)
unfolding drop_values nth_of
nth_drop zero vs i = ap (nth_of vs) (sym (zero-add i))
nth_drop (suc d) vnil i = refl
nth_drop (suc d) (vcons v vs) i = nth_drop d vs i ∙ sym (ap (nth_of (vcons v vs)) (move d i))
  where
    move : (d i : ℕ) → suc d + i ≡ suc (d + i)
    move d i = omega arith

many_drop : (d : ℕ) (vs : Values) → many_values (drop_values d vs) ≡ many_values vs - d
unfolding drop_values many_values
many_drop zero vs = omega arith
many_drop (suc d) vnil = omega arith
many_drop (suc d) (vcons v vs) = many_drop d vs ∙ move (many_values vs) d
  where
    move : (n d : ℕ) → n - d ≡ suc n - suc d
    move n d = omega arith

drop_drop : (d i : ℕ) (vs : Values) → drop_values i (drop_values d vs) ≡ drop_values (d + i) vs
unfolding drop_values
drop_drop zero i vs = ap (λ n. drop_values n vs) (sym (zero-add i))
drop_drop (suc d) i vnil = drop_none i ∙ sym (drop_none (suc d + i))
drop_drop (suc d) i (vcons v vs) = drop_drop d i vs ∙ sym (ap (λ n. drop_values n (vcons v vs)) (move d i))
  where
    move : (d i : ℕ) → suc d + i ≡ suc (d + i)
    move d i = omega arith

rest_there : (i : ℕ) (vs : Values) → i ≤ many_values vs → rest_of vs i ≡ some (whole a_list (drop_values i vs))
unfolding rest_of drop_values many_values
rest_there zero vs l = refl
rest_there (suc i) vnil l = absurd (omega arith)
rest_there (suc i) (vcons v vs) l = rest_there i vs (omega arith)

rest_past : (i : ℕ) (vs : Values) → many_values vs < i → rest_of vs i ≡ none
unfolding rest_of many_values
rest_past zero vs l = absurd (omega arith)
rest_past (suc i) vnil l = refl
rest_past (suc i) (vcons v vs) l = rest_past i vs (omega arith)

-- ---- part i of a record's parts
from_there : (g : ℕ → Value) (v : List ℕ) (j n i : ℕ) → i < n → nth_of (values_from g v j n) i ≡ some (g (part v (j + i)))
unfolding nth_of values_from
from_there g v j zero i l = absurd (omega arith)
from_there g v j (suc n) zero l = ap (λ k. some (g (part v k))) (same j)
  where
    same : (j : ℕ) → j ≡ j + 0
    same j = omega arith
from_there g v j (suc n) (suc i) l = from_there g v (j + 1) n i (omega arith) ∙ ap (λ k. some (g (part v k))) (next j i)
  where
    next : (j i : ℕ) → j + 1 + i ≡ j + suc i
    next j i = omega arith

from_past : (g : ℕ → Value) (v : List ℕ) (j n i : ℕ) → n ≤ i → nth_of (values_from g v j n) i ≡ none
unfolding nth_of values_from
from_past g v j zero i l = refl
from_past g v j (suc n) zero l = absurd (omega arith)
from_past g v j (suc n) (suc i) l = from_past g v (j + 1) n i (omega arith)

nth_from : (g : ℕ → Value) (v : List ℕ) (j n i : ℕ) → nth_of (values_from g v j n) i ≡ pick (ltb i n) (some (g (part v (j + i)))) none
nth_from g v j n i = go (ltb i n) refl
  where
    go : (b : Bool) → ltb i n ≡ b → nth_of (values_from g v j n) i ≡ pick b (some (g (part v (j + i)))) none
    go true e = from_there g v j n i (ltb-true i n e)
    go false e = from_past g v j n i (ltb-false i n e)

-- ---- kinds
unfoldable pub kind_of : Value → ℕ
unfolding whole_kind
kind_of (an_integer w) = 0
kind_of (a_byte_string w) = 1
kind_of (whole k vs) = whole_kind k

unfoldable pub drop_of : ℕ → Value → Value
unfolding drop_values
drop_of d (an_integer w) = an_integer w
drop_of d (a_byte_string w) = a_byte_string w
drop_of d (whole a_list vs) = whole a_list (drop_values d vs)
drop_of d (whole a_pair vs) = whole a_pair vs
drop_of d (whole a_tuple vs) = whole a_tuple vs
drop_of d (whole (a_constructor a) vs) = whole (a_constructor a) vs

kind_drop : (d : ℕ) (y : Value) → kind_of (drop_of d y) ≡ kind_of y
unfolding kind_of drop_of
kind_drop d (an_integer w) = refl
kind_drop d (a_byte_string w) = refl
kind_drop d (whole a_list vs) = refl
kind_drop d (whole a_pair vs) = refl
kind_drop d (whole a_tuple vs) = refl
kind_drop d (whole (a_constructor a) vs) = refl

pub drop_zero : (y : Value) → drop_of 0 y ≡ y
unfolding drop_of drop_values
drop_zero (an_integer w) = refl
drop_zero (a_byte_string w) = refl
drop_zero (whole a_list vs) = refl
drop_zero (whole a_pair vs) = refl
drop_zero (whole a_tuple vs) = refl
drop_zero (whole (a_constructor a) vs) = refl

-- a step that another kind asks leads nowhere; what is no list has no length
other_step : (u : Step) (y : Value) → eqb (kind_of y) (into_kind u) ≡ false → step_into u y ≡ none
unfolding kind_of step_into
other_step u (an_integer w) h = refl
other_step u (a_byte_string w) h = refl
other_step u (whole k vs) h = rw h

module _ (v : List ℕ) (a : PanelAccepted v) where
  abbrev pub val : ℕ → Value
  val = record_value v a

  -- ---- the value at a position
  unfoldable pub value_at : Position → Value
  unfolding drop_of
  value_at x = drop_of x.dropped (val x.place)

  pub record InFile (x : Position) : Type 0 where
    pub known : x.place < records v
    pub fewer : x.dropped ≤ record_count v x.place

  value_kind : (r : ℕ) → r < records v → kind_of (val r) ≡ record_kind v r
  value_kind r h = ap kind_of (value_here v a r h) ∙ go (record_kind_of (record_kind v r)) refl
    where
      go : (kind : RecordKind) → record_kind_of (record_kind v r) ≡ kind → kind_of (value_of_kind val v r kind) ≡ record_kind v r
      go Integer_record e = unfold kind_of value_of_kind in (sym (record_byte (record_kind v r) Integer_record e (omega arith)))
      go Bytes_record e = unfold kind_of value_of_kind in (sym (record_byte (record_kind v r) Bytes_record e (omega arith)))
      go List_record e = unfold kind_of value_of_kind in (sym (record_byte (record_kind v r) List_record e (omega arith)))
      go Pair_record e = unfold kind_of value_of_kind in (sym (record_byte (record_kind v r) Pair_record e (omega arith)))
      go Tuple_record e = unfold kind_of value_of_kind in (sym (record_byte (record_kind v r) Tuple_record e (omega arith)))
      go Constructor_record e = unfold kind_of value_of_kind in (sym (record_byte (record_kind v r) Constructor_record e (omega arith)))
      go Unknown_record e = absurd (no_unknown v a r h e)

  pub at_kind : (x : Position) → x.place < records v → kind_of (value_at x) ≡ record_kind v x.place
  unfolding value_at
  at_kind x h = kind_drop x.dropped (val x.place) ∙ value_kind x.place h

  pub parts : ℕ → Values
  parts r = values_from val v (record_first v r) (record_count v r)

  value_as : (r : ℕ) → r < records v → (kind : RecordKind) → record_kind v r ≡ record_number kind → val r ≡ value_of_kind val v r kind
  value_as r h kind e = value_here v a r h ∙ ap (value_of_kind val v r) (byte_record (record_kind v r) kind e)

  -- ---- what a position shows
  pub as_list : (x : Position) → x.place < records v → record_kind v x.place ≡ 2 → value_at x ≡ whole a_list (drop_values x.dropped (parts x.place))
  unfolding value_at value_of_kind drop_of parts
  as_list x h e = ap (drop_of x.dropped) (value_as x.place h List_record e)

  as_pair : (x : Position) → x.place < records v → record_kind v x.place ≡ 3 → value_at x ≡ whole a_pair (parts x.place)
  unfolding value_at value_of_kind drop_of parts
  as_pair x h e = ap (drop_of x.dropped) (value_as x.place h Pair_record e)

  as_tuple : (x : Position) → x.place < records v → record_kind v x.place ≡ 4 → value_at x ≡ whole a_tuple (parts x.place)
  unfolding value_at value_of_kind drop_of parts
  as_tuple x h e = ap (drop_of x.dropped) (value_as x.place h Tuple_record e)

  as_constructor : (x : Position) → x.place < records v → record_kind v x.place ≡ 5 → value_at x ≡ whole (a_constructor (record_a v x.place)) (parts x.place)
  unfolding value_at value_of_kind drop_of parts
  as_constructor x h e = ap (drop_of x.dropped) (value_as x.place h Constructor_record e)

  pub many_at : (x : Position) → many_values (drop_values x.dropped (parts x.place)) ≡ record_count v x.place - x.dropped
  unfolding parts
  many_at x = many_drop x.dropped (values_from val v (record_first v x.place) (record_count v x.place))
      ∙ ap (λ n. n - x.dropped) (many_from val v (record_first v x.place) (record_count v x.place))

  -- ---- a step
  abbrev pub of_position : Option Position → Option Value
  of_position none = none
  of_position (some x) = some (value_at x)

  pub record StepAgrees (u : Step) (x : Position) : Type 0 where
    pub same : step_into u (value_at x) ≡ of_position (take_step v u x)
    pub inside : (y : Position) → take_step v u x ≡ some y → InFile y

  no_position : (y : Position) → ◌≡◌ {A = Option Position} none (some y) → ⊥
  no_position y e = let z : ◌≡◌ {A = ℕ} 0 1 = cc in absurd (omega arith)

  -- part i of a record with parts
  part_place : (r kind i : ℕ) → r < records v → 2 ≤ kind → (y : Position) → part_of v kind r i ≡ some y → InFile y
  unfolding part_of
  part_place r kind i h low y e = go (eqb (record_kind v r) kind) refl (ltb i (record_count v r)) refl e
    where
      go : (b : Bool) → eqb (record_kind v r) kind ≡ b → (c : Bool) → ltb i (record_count v r) ≡ c
          → pick (both b c) (some (record { place = part v (record_first v r + i); dropped = 0 })) none ≡ some y → InFile y
      go true p true q w =
          let z : record { place = part v (record_first v r + i); dropped = 0 } ≡ y = cc in
          let k = eqb-true (record_kind v r) kind p in
          let l = ltb-true i (record_count v r) q in
          let has = kind_holder v r (omega (arith, k, low)) (a.is_shaped.record_kind_holds r h) in
          rw (← z) (record { known = (higher v a r h has (record_first v r + i) (omega arith) (omega (arith, l))).1; fewer = omega arith })
      go true p false q w = absurd (no_position y w)
      go false p c q w = absurd (no_position y w)

  part_value : (r kind i : ℕ) → record_kind v r ≡ kind → pick (ltb i (record_count v r)) (some (val (part v (record_first v r + i)))) none ≡ of_position (part_of v kind r i)
  unfolding part_of value_at
  part_value r kind i e = rw (eq-eqb (record_kind v r) kind e) (go (ltb i (record_count v r)))
    where
      go : (b : Bool) → pick b (some (val (part v (record_first v r + i)))) none ≡ of_position (pick b (some (record { place = part v (record_first v r + i); dropped = 0 })) none)
      go true = ap some (sym (drop_zero (val (part v (record_first v r + i)))))
      go false = refl

  other_part : (r kind i : ℕ) → eqb (record_kind v r) kind ≡ false → of_position (part_of v kind r i) ≡ none
  unfolding part_of
  other_part r kind i e = rw e

  pair_step : (i t : ℕ) (x : Position) → x.place < records v → step_into (pair i t) (value_at x) ≡ of_position (part_of v 3 x.place i)
  unfolding step_into parts
  pair_step i t x h = go (eqb (record_kind v x.place) 3) refl
    where
      go : (b : Bool) → eqb (record_kind v x.place) 3 ≡ b → step_into (pair i t) (value_at x) ≡ of_position (part_of v 3 x.place i)
      go true e =
          let k = eqb-true (record_kind v x.place) 3 e in
          ap (step_into (pair i t)) (as_pair x h k)
          ∙ nth_from val v (record_first v x.place) (record_count v x.place) i
          ∙ part_value x.place 3 i k
      go false e = other_step (pair i t) (value_at x) (unfold into_kind in (ap (λ n. eqb n 3) (at_kind x h) ∙ e)) ∙ sym (other_part x.place 3 i e)

  tuple_step : (i t : ℕ) (x : Position) → x.place < records v → step_into (tuple i t) (value_at x) ≡ of_position (part_of v 4 x.place i)
  unfolding step_into parts
  tuple_step i t x h = go (eqb (record_kind v x.place) 4) refl
    where
      go : (b : Bool) → eqb (record_kind v x.place) 4 ≡ b → step_into (tuple i t) (value_at x) ≡ of_position (part_of v 4 x.place i)
      go true e =
          let k = eqb-true (record_kind v x.place) 4 e in
          ap (step_into (tuple i t)) (as_tuple x h k)
          ∙ nth_from val v (record_first v x.place) (record_count v x.place) i
          ∙ part_value x.place 4 i k
      go false e = other_step (tuple i t) (value_at x) (unfold into_kind in (ap (λ n. eqb n 4) (at_kind x h) ∙ e)) ∙ sym (other_part x.place 4 i e)

  field_step : (i : ℕ) (c : Bool) (t : ℕ) (x : Position) → x.place < records v → step_into (constr i c t) (value_at x) ≡ of_position (part_of v 5 x.place i)
  unfolding step_into parts
  field_step i c t x h = go (eqb (record_kind v x.place) 5) refl
    where
      go : (b : Bool) → eqb (record_kind v x.place) 5 ≡ b → step_into (constr i c t) (value_at x) ≡ of_position (part_of v 5 x.place i)
      go true e =
          let k = eqb-true (record_kind v x.place) 5 e in
          ap (step_into (constr i c t)) (as_constructor x h k)
          ∙ nth_from val v (record_first v x.place) (record_count v x.place) i
          ∙ part_value x.place 5 i k
      go false e = other_step (constr i c t) (value_at x) (unfold into_kind in (ap (λ n. eqb n 5) (at_kind x h) ∙ e)) ∙ sym (other_part x.place 5 i e)

  element_step : (i t : ℕ) (x : Position) → x.place < records v → step_into (list i t) (value_at x) ≡ of_position (part_of v 2 x.place (x.dropped + i))
  unfolding step_into parts
  element_step i t x h = go (eqb (record_kind v x.place) 2) refl
    where
      go : (b : Bool) → eqb (record_kind v x.place) 2 ≡ b → step_into (list i t) (value_at x) ≡ of_position (part_of v 2 x.place (x.dropped + i))
      go true e =
          let k = eqb-true (record_kind v x.place) 2 e in
          ap (step_into (list i t)) (as_list x h k)
          ∙ nth_drop x.dropped (values_from val v (record_first v x.place) (record_count v x.place)) i
          ∙ nth_from val v (record_first v x.place) (record_count v x.place) (x.dropped + i)
          ∙ part_value x.place 2 (x.dropped + i) k
      go false e = other_step (list i t) (value_at x) (unfold into_kind in (ap (λ n. eqb n 2) (at_kind x h) ∙ e)) ∙ sym (other_part x.place 2 (x.dropped + i) e)

  -- what is left of a list
  tail_step : (i t : ℕ) (x : Position) → InFile x → step_into (listtail i t) (value_at x) ≡ of_position (tail_of v x.place (x.dropped + i))
  unfolding step_into tail_of
  tail_step i t x f = go (eqb (record_kind v x.place) 2) refl
    where
      at_rest : record_kind v x.place ≡ 2 → (c : Bool) → leb (x.dropped + i) (record_count v x.place) ≡ c
          → rest_of (drop_values x.dropped (parts x.place)) i ≡ of_position (pick c (some (record { place = x.place; dropped = x.dropped + i })) none)
      at_rest k true l =
          rest_there i (drop_values x.dropped (parts x.place)) (omega (arith, many_at x, leb-true (x.dropped + i) (record_count v x.place) l))
          ∙ ap (λ vs. some (whole a_list vs)) (drop_drop x.dropped i (parts x.place))
          ∙ ap some (sym (as_list (record { place = x.place; dropped = x.dropped + i }) f.known k))
      at_rest k false l = rest_past i (drop_values x.dropped (parts x.place)) (omega (arith, many_at x, f.fewer, leb-false (x.dropped + i) (record_count v x.place) l))

      go : (b : Bool) → eqb (record_kind v x.place) 2 ≡ b → step_into (listtail i t) (value_at x)
          ≡ of_position (pick (both b (leb (x.dropped + i) (record_count v x.place))) (some (record { place = x.place; dropped = x.dropped + i })) none)
      go true e =
          let k = eqb-true (record_kind v x.place) 2 e in
          ap (step_into (listtail i t)) (as_list x f.known k) ∙ at_rest k (leb (x.dropped + i) (record_count v x.place)) refl
      go false e = other_step (listtail i t) (value_at x) (unfold into_kind in (ap (λ n. eqb n 2) (at_kind x f.known) ∙ e))

  tail_place : (r i : ℕ) → r < records v → (y : Position) → tail_of v r i ≡ some y → InFile y
  unfolding tail_of
  tail_place r i h y e = go (eqb (record_kind v r) 2) (leb i (record_count v r)) refl e
    where
      go : (b c : Bool) → leb i (record_count v r) ≡ c → pick (both b c) (some (record { place = r; dropped = i })) none ≡ some y → InFile y
      go true true q w =
          let z : record { place = r; dropped = i } ≡ y = cc in
          rw (← z) (record { known = h; fewer = leb-true i (record_count v r) q })
      go true false q w = absurd (no_position y w)
      go false c q w = absurd (no_position y w)

  step_agrees : (u : Step) (x : Position) → InFile x → StepAgrees u x
  unfolding take_step
  step_agrees (pair i t) x f = record { same = pair_step i t x f.known; inside = λ y e. part_place x.place 3 i f.known (omega arith) y e }
  step_agrees (tuple i t) x f = record { same = tuple_step i t x f.known; inside = λ y e. part_place x.place 4 i f.known (omega arith) y e }
  step_agrees (constr i c t) x f = record { same = field_step i c t x f.known; inside = λ y e. part_place x.place 5 i f.known (omega arith) y e }
  step_agrees (list i t) x f = record { same = element_step i t x f.known; inside = λ y e. part_place x.place 2 (x.dropped + i) f.known (omega arith) y e }
  step_agrees (listtail i t) x f = record { same = tail_step i t x f; inside = λ y e. tail_place x.place (x.dropped + i) f.known y e }

  -- ---- along a path
  pub record FollowAgrees (p : Path) (x : Position) : Type 0 where
    pub same : part_along p (value_at x) ≡ of_position (follow v p x)
    pub inside : (y : Position) → follow v p x ≡ some y → InFile y

  pub follow_agrees : (p : Path) (x : Position) → InFile x → FollowAgrees p x
  unfolding follow part_along and_on
  follow_agrees [] x f = record { same = refl; inside = λ y e. let z : x ≡ y = cc in rw (← z) f }
  follow_agrees (u ∷ p) x f =
      let r = step_agrees u x f in
      let w = go (take_step v u x) (λ y e. r.inside y e) (λ y g. follow_agrees p y g) in
      record { same = along_step u p (value_at x) ∙ ap (and_on p) r.same ∙ w.0; inside = w.1 }
    where
      go : (o : Option Position) → ((y : Position) → o ≡ some y → InFile y) → ((y : Position) → InFile y → FollowAgrees p y)
          → (and_on p (of_position o) ≡ of_position (elim o as (λ z. Option Position) [ none ↦ none | some y ↦ follow v p y ]))
          × ((y : Position) → elim o as (λ z. Option Position) [ none ↦ none | some y ↦ follow v p y ] ≡ some y → InFile y)
      go none i ih = (refl, λ y e. absurd (no_position y e))
      go (some y) i ih = let g = ih y (i y refl) in (g.same, g.inside)

  -- ---- the walks
  abbrev pub EndsAlike : Walked → Ended → Type 0
  EndsAlike (reached c xs) (at_clause d) = c ≡ d
  EndsAlike (reached c xs) (without n ts) = ⊥
  EndsAlike (reached c xs) stuck_on = ⊥
  EndsAlike (reached c xs) no_node = ⊥
  EndsAlike no_leaf (at_clause d) = ⊥
  EndsAlike no_leaf (without n ts) = Unit {0}
  EndsAlike no_leaf stuck_on = ⊥
  EndsAlike no_leaf no_node = Unit {0}
  EndsAlike stuck (at_clause d) = Unit {0}
  EndsAlike stuck (without n ts) = ⊥
  EndsAlike stuck stuck_on = Unit {0}
  EndsAlike stuck no_node = ⊥
