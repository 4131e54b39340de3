-- A pattern's children after it gave them their fields: each has those of its standing, every other byte is as it was.
-- Rests on FieldsLaws, on the standing of a child, and on the shape of an accepted sheet.
use Rattle.std.specs.Prelude.{◌≡◌, Bool, true, false, not, List, ℕ, ◌+◌, ◌-◌, ◌*◌, ◌≤◌, ◌<◌, length, get_or}
use Rattle.std.proofs.Math.Path.{refl, sym, ap}
use Rattle.std.proofs.Common.{◌∙◌, ⊎_elim, true≢false, eq-or-lt_of_le, eqb-true}
use native.Mathlib.Omega.{arith}
use Rattle.std.proofs.lemmas.Bool.{eqb-false}
use Rattle.base_words.specs.Words.{pick}
use Rattle.spec_rules.specs.Limits.{patterns_most}
use Rattle.spec_rules.specs.Kinds.{assign_pattern, pair_step, tuple_step, constr_step, list_step, listtail_step}
use Rattle.spec_rules.specs.SheetFile.{patterns, type_first, constructor_first, entry, pattern_kind, pattern_a, pattern_first, pattern_count, child}
use Rattle.spec_rules.specs.Patterns.{PatternKind, Discard, Variable, Assign, Integer, ByteString, ListOfAll, ListWithRest, Constructor, Pair, Tuple, Unknown, one_constructor, constructor_of}
use Rattle.spec_rules.specs.SheetRefusals.{has_children}
use Rattle.spec_accepted.specs.KindsLaws.{pattern_byte}
use Rattle.spec_accepted.specs.SheetFacts.{Accepted, Owns, Parent, owned_entry, owned_pattern, one_entry}
use Rattle.build_table.specs.Standing.{test_of_kind, kind_of, is_tail, step_to, type_to, type_of, owner_of, is_test, parent_of, step_number}
use Rattle.build_table.specs.StandingLaws.{Place, as_root, as_child, place, root_parent, child_parent, child_above, child_index, child_step, child_clause, child_type, child_owner}
use Rattle.build_table.specs.PathsLaws.{path_short}
use Rattle.build_table.specs.ApartLaws.{assign_child}
use Rattle.build_table.specs.Table.{class_at, depth_at, clause_at, indices_at, cells_at, table_size, same_number, placed, placed_each, placed_below}
use Rattle.build_table.specs.Tabled.{Placed, Filled}
use Rattle.build_table.specs.PlacingLaws.{length_placed, length_placed_each}
use Rattle.build_table.specs.FieldsLaws.{FieldAt, one_field, Fields, kept_fields, fields_as, fields_of, placed_other, placed_fields, Apart, each_other, each_fields}
use Rattle.build_table.specs.FilledLaws.{fields_are_placed, kept_placed, kept_classed, kept_indexed}

length_placed_below : (s t : List ℕ) (p : ℕ) (kind : PatternKind) → length (placed_below s t p kind) ≡ length t
unfolding placed_below
length_placed_below s t p Discard = refl
length_placed_below s t p Variable = refl
length_placed_below s t p Assign = length_placed t p (child s (pattern_first s p)) same_number 0 (type_of s p) (owner_of s p)
length_placed_below s t p Integer = refl
length_placed_below s t p ByteString = refl
length_placed_below s t p ListOfAll = length_placed_each s t p list_step (type_first s (type_of s p)) 0 (p + 1) 0 (pattern_count s p)
length_placed_below s t p ListWithRest =
    length_placed (placed_each s t p list_step (type_first s (type_of s p)) 0 (p + 1) 0 (pattern_count s p - 1)) p (child s (pattern_first s p + (pattern_count s p - 1))) listtail_step (pattern_count s p - 1) (type_of s p) (p + 1)
    ∙ length_placed_each s t p list_step (type_first s (type_of s p)) 0 (p + 1) 0 (pattern_count s p - 1)
length_placed_below s t p Constructor =
    length_placed_each s t p constr_step (constructor_first s (constructor_of s (type_of s p) (pattern_a s p))) 1 (pick (one_constructor s (type_of s p)) (owner_of s p) (p + 1)) 0 (pattern_count s p)
length_placed_below s t p Pair = length_placed_each s t p pair_step (type_first s (type_of s p)) 1 (owner_of s p) 0 (pattern_count s p)
length_placed_below s t p Tuple = length_placed_each s t p tuple_step (type_first s (type_of s p)) 1 (owner_of s p) 0 (pattern_count s p)
length_placed_below s t p Unknown = refl

-- a pattern of one constructor is no test
pick_not : (one : Bool) (x y : ℕ) → pick one x y ≡ pick (not one) y x
pick_not true x y = refl
pick_not false x y = refl

module _ {s : List ℕ} (ok : Accepted s) {p : ℕ} (h : p < patterns s) (t : List ℕ) (long : length t ≡ table_size) where
  few : p < patterns_most
  few = omega (arith, ok.is_counted.patterns_most_holds)

  -- which child
  abbrev nth : ℕ → ℕ
  nth j = j - pattern_first s p

  -- the fields that child j has in u, if p is of this kind
  abbrev Given : List ℕ → PatternKind → ℕ → Type 0
  Given u kind j =
      Fields u (child s j) p (step_number (step_to s p (type_of s p) kind (nth j))) (nth j) (type_to s p (type_of s p) kind (nth j))
      (pick (test_of_kind s (type_of s p) kind) (p + 1) (owner_of s p)) (get_or t (clause_at + p) 0)

  record AllGiven (u : List ℕ) (kind : PatternKind) : Type 0 where
    each : (j : ℕ) → Owns s p j → Given u kind j
    others : (k : ℕ) → ((j : ℕ) → Owns s p j → FieldAt (child s j) k → ⊥) → get_or u k 0 ≡ get_or t k 0

  -- ---- children are apart
  child_known : (j : ℕ) → Owns s p j → child s j < patterns_most
  child_known j o = omega (arith, owned_pattern ok.is_shaped p j h o, ok.is_counted.patterns_most_holds)

  module _ (has : Parent s p) (n : ℕ) (most : n ≤ pattern_count s p) where
    nth_owned : (i : ℕ) → i < n → Owns s p (pattern_first s p + i)
    nth_owned i l = record { parent = has; from = omega arith; to = omega arith }

    apart : Apart s p 0 n
    apart = record {
      known = λ j low l. child_known (pattern_first s p + j) (nth_owned j (omega arith));
      not_parent = λ j low l e. omega (arith, ok.is_shaped.child_above p (pattern_first s p + j) h (nth_owned j (omega arith)));
      different = λ j k low l low' l' e.
          let same = one_entry ok.is_shaped (pattern_first s p + j) (pattern_first s p + k) (owned_entry ok.is_shaped p (pattern_first s p + j) h (nth_owned j (omega arith))) (owned_entry ok.is_shaped p (pattern_first s p + k) h (nth_owned k (omega arith))) e in
          omega arith;
    }

    -- ---- after a loop over the first n
    module _ (step e stride owner : ℕ) where
      several_given : (j : ℕ) → Owns s p j → nth j < n
          → Fields (placed_each s t p step e stride owner 0 n) (child s j) p step (nth j) (entry s (e + stride * nth j)) owner (get_or t (clause_at + p) 0)
      several_given j o l =
          let back : pattern_first s p + nth j ≡ j = omega (arith, o.from) in
          let f = each_fields s p step e stride owner t 0 n long few apart (nth j) (omega arith) (omega arith) in
          rw back at f

      several_others : (k : ℕ) → ((j : ℕ) → Owns s p j → FieldAt (child s j) k → ⊥) → get_or (placed_each s t p step e stride owner 0 n) k 0 ≡ get_or t k 0
      several_others k free = each_other s p step e stride owner t 0 n k (λ j low l. free (pattern_first s p + j) (nth_owned j (omega arith)))

  -- ---- by kind
  childless_given : (kind : PatternKind) → kind_of s p ≡ kind → has_children kind ≡ false → AllGiven t kind
  unfolding kind_of
  childless_given kind e childless = record { each = λ j o. absurd (true≢false (sym o.parent ∙ ap has_children e ∙ childless)); others = λ k free. refl }

  parent_is : (kind : PatternKind) → kind_of s p ≡ kind → has_children kind ≡ true → Parent s p
  unfolding kind_of
  parent_is kind e has = ap has_children e ∙ has

  inside : (j : ℕ) → Owns s p j → nth j < pattern_count s p
  inside j o = omega (arith, o.from, o.to)

  assign_given : kind_of s p ≡ Assign → AllGiven (placed_below s t p Assign) Assign
  unfolding placed_below kind_of step_to step_number type_to test_of_kind has_children
  assign_given e = record { each = each_one; others = λ k free. placed_other t p (child s (pattern_first s p)) same_number 0 (type_of s p) (owner_of s p) k (free (pattern_first s p) first_owned) }
    where
      byte : pattern_kind s p ≡ assign_pattern
      byte = pattern_byte (pattern_kind s p) Assign e (omega arith)

      first_owned : Owns s p (pattern_first s p)
      first_owned = record { parent = parent_is Assign e refl; from = omega arith; to = omega (arith, ok.is_shaped.assign_one p h byte) }

      each_one : (j : ℕ) → Owns s p j → Given (placed_below s t p Assign) Assign j
      each_one j o =
          let same : pattern_first s p ≡ j = sym (assign_child ok.is_shaped ok.is_counted p j h o byte) in
          let f = placed_fields t p (child s (pattern_first s p)) same_number 0 (type_of s p) (owner_of s p) long (child_known (pattern_first s p) first_owned) in
          fields_as refl refl (omega arith) refl refl refl (fields_of (ap (child s) same) f)

  -- a loop over all of them
  list_given : kind_of s p ≡ ListOfAll → AllGiven (placed_below s t p ListOfAll) ListOfAll
  unfolding placed_below step_to step_number type_to test_of_kind has_children
  list_given e =
      let has = parent_is ListOfAll e refl in
      let first = type_first s (type_of s p) in
      record {
        each = λ j o.
            let same : first + 0 * nth j ≡ first = omega arith in
            fields_as refl refl refl (ap (entry s) same) refl refl (several_given has (pattern_count s p) (omega arith) list_step first 0 (p + 1) j o (inside j o));
        others = several_others has (pattern_count s p) (omega arith) list_step first 0 (p + 1);
      }

  pair_given : kind_of s p ≡ Pair → AllGiven (placed_below s t p Pair) Pair
  unfolding placed_below step_to step_number type_to test_of_kind has_children
  pair_given e =
      let has = parent_is Pair e refl in
      let first = type_first s (type_of s p) in
      record {
        each = λ j o.
            let same : first + 1 * nth j ≡ first + nth j = omega arith in
            fields_as refl refl refl (ap (entry s) same) refl refl (several_given has (pattern_count s p) (omega arith) pair_step first 1 (owner_of s p) j o (inside j o));
        others = several_others has (pattern_count s p) (omega arith) pair_step first 1 (owner_of s p);
      }

  tuple_given : kind_of s p ≡ Tuple → AllGiven (placed_below s t p Tuple) Tuple
  unfolding placed_below step_to step_number type_to test_of_kind has_children
  tuple_given e =
      let has = parent_is Tuple e refl in
      let first = type_first s (type_of s p) in
      record {
        each = λ j o.
            let same : first + 1 * nth j ≡ first + nth j = omega arith in
            fields_as refl refl refl (ap (entry s) same) refl refl (several_given has (pattern_count s p) (omega arith) tuple_step first 1 (owner_of s p) j o (inside j o));
        others = several_others has (pattern_count s p) (omega arith) tuple_step first 1 (owner_of s p);
      }

  constructor_given : kind_of s p ≡ Constructor → AllGiven (placed_below s t p Constructor) Constructor
  unfolding placed_below step_to step_number type_to test_of_kind has_children
  constructor_given e =
      let has = parent_is Constructor e refl in
      let first = constructor_first s (constructor_of s (type_of s p) (pattern_a s p)) in
      let owner = pick (one_constructor s (type_of s p)) (owner_of s p) (p + 1) in
      record {
        each = λ j o.
            let same : first + 1 * nth j ≡ first + nth j = omega arith in
            fields_as refl refl refl (ap (entry s) same) (pick_not (one_constructor s (type_of s p)) (owner_of s p) (p + 1)) refl
            (several_given has (pattern_count s p) (omega arith) constr_step first 1 owner j o (inside j o));
        others = several_others has (pattern_count s p) (omega arith) constr_step first 1 owner;
      }

  -- a loop over all but the tail, and the tail
  tailed_given : kind_of s p ≡ ListWithRest → AllGiven (placed_below s t p ListWithRest) ListWithRest
  unfolding placed_below kind_of step_to step_number type_to test_of_kind has_children is_tail
  tailed_given e = record { each = each_one; others = λ k free. placed_other mid p tail listtail_step last (type_of s p) (p + 1) k (free (pattern_first s p + last) tail_owned) ∙ mid_others k free }
    where
      has : Parent s p
      has = parent_is ListWithRest e refl

      some_part : 2 ≤ pattern_count s p
      some_part = ok.is_shaped.tail_after_some p h (pattern_byte (pattern_kind s p) ListWithRest e (omega arith))

      last : ℕ
      last = pattern_count s p - 1

      tail : ℕ
      tail = child s (pattern_first s p + last)

      mid : List ℕ
      mid = placed_each s t p list_step (type_first s (type_of s p)) 0 (p + 1) 0 last

      tail_owned : Owns s p (pattern_first s p + last)
      tail_owned = record { parent = has; from = omega arith; to = omega (arith, some_part) }

      mid_others : (k : ℕ) → ((j : ℕ) → Owns s p j → FieldAt (child s j) k → ⊥) → get_or mid k 0 ≡ get_or t k 0
      mid_others = several_others has last (omega arith) list_step (type_first s (type_of s p)) 0 (p + 1)

      mid_long : length mid ≡ table_size
      mid_long = length_placed_each s t p list_step (type_first s (type_of s p)) 0 (p + 1) 0 last ∙ long

      -- the clause of p, which is no child of its own
      mid_clause : get_or mid (clause_at + p) 0 ≡ get_or t (clause_at + p) 0
      mid_clause =
          mid_others (clause_at + p)
          (λ j o f. omega (arith, ok.is_shaped.child_above p j h o, f.here, f.high, child_known j o, few))

      u : List ℕ
      u = placed mid p tail listtail_step last (type_of s p) (p + 1)

      tail_given : (j : ℕ) → Owns s p j → nth j + 1 ≡ pattern_count s p → Fields u (child s j) p listtail_step (nth j) (type_of s p) (p + 1) (get_or t (clause_at + p) 0)
      tail_given j o l =
          let same : pattern_first s p + last ≡ j = omega (arith, o.from, some_part) in
          let f = placed_fields mid p tail listtail_step last (type_of s p) (p + 1) mid_long (child_known (pattern_first s p + last) tail_owned) in
          let index : last ≡ nth j = omega (arith, o.from) in
          fields_as refl refl index refl refl mid_clause (fields_of (ap (child s) same) f)

      part_given : (j : ℕ) → Owns s p j → (nth j + 1 ≡ pattern_count s p → ⊥)
          → Fields u (child s j) p list_step (nth j) (entry s (type_first s (type_of s p))) (p + 1) (get_or t (clause_at + p) 0)
      part_given j o l =
          let same : type_first s (type_of s p) + 0 * nth j ≡ type_first s (type_of s p) = omega arith in
          let f = several_given has last (omega arith) list_step (type_first s (type_of s p)) 0 (p + 1) j o (omega (arith, inside j o)) in
          kept_fields mid u (child s j) p list_step (nth j) (entry s (type_first s (type_of s p))) (p + 1) (get_or t (clause_at + p) 0)
          (λ k g. placed_other mid p tail listtail_step last (type_of s p) (p + 1) k
          (λ x.
          let both_there = one_field (child s j) tail k (child_known j o) (child_known (pattern_first s p + last) tail_owned) g x in
          let equal = one_entry ok.is_shaped j (pattern_first s p + last) (owned_entry ok.is_shaped p j h o) (owned_entry ok.is_shaped p (pattern_first s p + last) h tail_owned) both_there in
          l (omega (arith, some_part))))
          (fields_as refl refl refl (ap (entry s) same) refl refl f)

      each_one : (j : ℕ) → Owns s p j → Given (placed_below s t p ListWithRest) ListWithRest j
      each_one j o = go (is_tail s p (nth j)) refl
        where
          go : (test : Bool) → is_tail s p (nth j) ≡ test → Given (placed_below s t p ListWithRest) ListWithRest j
          go true x = rw x (tail_given j o (eqb-true _ _ x))
          go false x = rw x (part_given j o (eqb-false _ _ x))

  given : (kind : PatternKind) → kind_of s p ≡ kind → AllGiven (placed_below s t p kind) kind
  unfolding placed_below has_children
  given Discard e = childless_given Discard e refl
  given Variable e = childless_given Variable e refl
  given Assign e = assign_given e
  given Integer e = childless_given Integer e refl
  given ByteString e = childless_given ByteString e refl
  given ListOfAll e = list_given e
  given ListWithRest e = tailed_given e
  given Constructor e = constructor_given e
  given Pair e = pair_given e
  given Tuple e = tuple_given e
  given Unknown e = childless_given Unknown e refl

-- ---- the children of p filled
module _ {s : List ℕ} (ok : Accepted s) {p : ℕ} (h : p < patterns s) {t : List ℕ} {b i d : ℕ} (filled : Filled s t p b i d) (here : Placed s t p) where
  after : List ℕ
  after = placed_below s t p (kind_of s p)

  all : AllGiven ok h t filled.long after (kind_of s p)
  unfolding after
  all = given ok h t filled.long (kind_of s p) refl

  child_filled : (j : ℕ) → Owns s p j → Placed s after (child s j)
  unfolding is_test
  child_filled j o =
      let sh = ok.is_shaped in
      let counts = ok.is_counted in
      fields_are_placed
      (fields_as (sym (child_above sh p j h o)) (ap step_number (sym (child_step sh p j h o))) (sym (child_index sh p j h o)) (sym (child_type sh p j h o counts))
      (sym (child_owner sh p j h o counts)) (here.clause ∙ sym (child_clause sh p j h o counts))
      (all.each j o))

  -- a byte that is no field of a pattern
  no_field : (k : ℕ) → ((q : ℕ) → q < patterns_most → FieldAt q k → ⊥) → get_or after k 0 ≡ get_or t k 0
  no_field k free = all.others k (λ j o f. free (child s j) (omega (arith, owned_pattern ok.is_shaped p j h o, ok.is_counted.patterns_most_holds)) f)

  class_stays : (q : ℕ) → q < patterns_most → get_or after (class_at + q) 0 ≡ get_or t (class_at + q) 0
  class_stays q l = no_field (class_at + q) (λ r x f. omega (arith, f.here, f.low))

  depth_stays : (q : ℕ) → q < patterns_most → get_or after (depth_at + q) 0 ≡ get_or t (depth_at + q) 0
  depth_stays q l = no_field (depth_at + q) (λ r x f. f.other (omega (arith, f.here)))

  later_stays : (k : ℕ) → indices_at ≤ k → get_or after k 0 ≡ get_or t k 0
  later_stays k l = no_field k (λ r x f. omega (arith, f.here, f.high))

  placed_more : (q : ℕ) → q < patterns s → parent_of s q ≤ p + 1 → Placed s after q
  placed_more q l below = ⊎_elim own other (eq-or-lt_of_le {n = parent_of s q} {m = p + 1} below)
    where
      own : parent_of s q ≡ p + 1 → Placed s after q
      own e = go (place ok.is_shaped q l)
        where
          go : Place s q → Placed s after q
          go (as_root c x y) = absurd (omega (arith, ap (parent_of s) y, root_parent ok.is_shaped c x))
          go (as_child r j x y o z) =
              let same : r ≡ p = omega (arith, ap (parent_of s) z, child_parent ok.is_shaped r j x o) in
              rw z at (child_filled j (rw same at o))

      other : parent_of s q < p + 1 → Placed s after q
      other less =
          kept_placed s t after q
          (λ k f.
          all.others k
          (λ j o g.
          let same = one_field q (child s j) k (omega (arith, ok.is_counted.patterns_most_holds)) (omega (arith, owned_pattern ok.is_shaped p j h o, ok.is_counted.patterns_most_holds)) f g in
          omega (arith, ap (parent_of s) same, child_parent ok.is_shaped p j h o)))
          (filled.placed q l (omega arith))

  pub children_filled : Filled s (placed_below s t p (kind_of s p)) (p + 1) b i d
  unfolding after
  children_filled = record {
    long = length_placed_below s t p (kind_of s p) ∙ filled.long;
    first = kept_classed s t after 0 (class_stays 0 (omega arith)) (depth_stays 0 (omega arith)) filled.first;
    placed = placed_more;
    classed = λ q l k.
        let small : q < patterns_most = omega (arith, ok.is_counted.patterns_most_holds) in
        kept_classed s t after q (class_stays q small) (depth_stays q small) (filled.classed q l k);
    indexed = λ q l k.
        kept_indexed s t after q (length_placed_below s t p (kind_of s p)) (λ x low high. later_stays x (omega arith)) (path_short ok.is_shaped ok.is_counted ok.root_depth q l) (filled.indexed q l k);
    cell = λ c class l k. later_stays (cells_at + patterns_most * c + class) (omega arith) ∙ filled.cell c class l k;
  }
