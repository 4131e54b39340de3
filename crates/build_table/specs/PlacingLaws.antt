-- What storing the children of a pattern asks and gives, over plain values as the code has them.
-- Rests on the facts of an accepted sheet and on Table.
use Rattle.std.specs.Prelude.{◌≡◌, Bool, true, List, eqb, length, get_or}
use Rattle.std.proofs.Math.Path.{refl, ap, ap₂}
use Rattle.std.proofs.Common.{sym, ◌∙◌, length-set}
use Rattle.std.proofs.Math.Logic.{inl, inr}
use Prim.Native.Nat.{ℕ, zero, suc, ◌+◌, ◌-◌, ◌*◌, ◌≤◌, ◌<◌}
use native.Mathlib.Omega.{arith}
use Rattle.base_words.specs.Words.{both, pick}
use Rattle.spec_rules.specs.Limits.{patterns_most}
use Rattle.spec_rules.specs.Kinds.{data_type, assign_pattern, list_pattern, list_with_tail_pattern, constructor_pattern, pair_pattern, tuple_pattern, pair_step, tuple_step, constr_step, list_step, listtail_step}
use Rattle.spec_rules.specs.SheetFile.{constructors, patterns, children, type_first, constructor_first, entry, pattern_kind, pattern_a, pattern_first, pattern_count, child}
use Rattle.spec_rules.specs.Patterns.{PatternKind, Discard, Variable, Assign, Integer, ByteString, ListOfAll, ListWithRest, Constructor, Pair, Tuple, Unknown, one_constructor, constructor_of, pattern, fits}
use Rattle.spec_rules.specs.SheetRefusals.{has_children}
use Rattle.spec_accepted.specs.KindsLaws.{pattern_number, byte_pattern, pattern_byte}
use Rattle.spec_accepted.specs.SheetFacts.{Owns, Parent, owned_entry, owned_pattern}
use Rattle.format_sheet.specs.declared.SheetMap.{SheetMap}
use Rattle.format_sheet.specs.declared.records.PatternRecord.{PatternRecord}
use Rattle.format_sheet.specs.declared.records.TypeRecord.{TypeRecord}
use Rattle.format_sheet.specs.declared.records.Run.{Run}
use Rattle.format_sheet.specs.Records.{pattern_of, constructor_of as run_of, type_of as type_of_record}
use Rattle.build_table.specs.Standing.{kind_of, type_of, owner_of}
use Rattle.build_table.specs.TypesLaws.{pattern_fits, type_known, list_entry, tailed_entry, pair_entry, tuple_entry, constructor_inside, constructor_entry}
use Rattle.build_table.specs.Table.{same_number, type_at, owner_at, table_size, placed, placed_each, placed_below}
use Rattle.format_sheet.specs.Check.{SheetAccepts}
use Rattle.build_table.specs.Tabled.{Placed, Parts, Reading}

-- ---- a record's fields, as numbers of the sheet
module _ (s : List ℕ) (p : ℕ) (r : PatternRecord) (e : r ≡ pattern_of s p) where
  pub kind_is : r.kind ≡ pattern_kind s p
  kind_is = ap (λ (x : PatternRecord). x.kind) e

  pub a_is : r.a ≡ pattern_a s p
  a_is = ap (λ (x : PatternRecord). x.a) e

  pub first_is : r.first ≡ pattern_first s p
  first_is = ap (λ (x : PatternRecord). x.first) e

  pub count_is : r.count ≡ pattern_count s p
  count_is = ap (λ (x : PatternRecord). x.count) e

-- ---- lengths
pub length_placed : (t : List ℕ) (p q step index type owner : ℕ) → length (placed t p q step index type owner) ≡ length t
unfolding placed
length_placed t p q step index type owner = simp length-set

pub length_placed_each : (s t : List ℕ) (p step e stride owner i n : ℕ) → length (placed_each s t p step e stride owner i n) ≡ length t
unfolding placed_each
length_placed_each s t p step e stride owner i zero = refl
length_placed_each s t p step e stride owner i (suc n) =
    length_placed_each s (placed t p (child s (pattern_first s p + i)) step i (entry s (e + stride * i)) owner) p step e stride owner (i + 1) n
    ∙ length_placed t p (child s (pattern_first s p + i)) step i (entry s (e + stride * i)) owner

-- ---- a loop over n children, from the i-th on
module _ (s : List ℕ) (p step e stride owner n : ℕ) where
  pub placed_each_next : (t : List ℕ) (i : ℕ) → i < n
      → placed_each s t p step e stride owner i (n - i)
      ≡ placed_each s (placed t p (child s (pattern_first s p + i)) step i (entry s (e + stride * i)) owner) p step e stride owner (i + 1) (n - (i + 1))
  unfolding placed_each
  placed_each_next t i l = let d : n - i ≡ suc (n - (i + 1)) = omega arith in rw d

  pub placed_each_end : (t : List ℕ) (i : ℕ) → n ≤ i → placed_each s t p step e stride owner i (n - i) ≡ t
  unfolding placed_each
  placed_each_end t i l = let d : n - i ≡ 0 = omega arith in rw d

  -- the child's number, index and type as the code has them
  pub placed_each_on : (t u : List ℕ) (i q v : ℕ) (r : PatternRecord) → i < n → r ≡ pattern_of s p → q ≡ child s (r.first + i) → v ≡ entry s (e + stride * i)
      → u ≡ placed t p q step i v owner → placed_each s u p step e stride owner (i + 1) (n - (i + 1)) ≡ placed_each s t p step e stride owner i (n - i)
  placed_each_on t u i q v r l er eq ev eu =
      let first : r.first ≡ pattern_first s p = ap (λ (x : PatternRecord). x.first) er in
      let number : q ≡ child s (pattern_first s p + i) = eq ∙ ap (λ (k : ℕ). child s (k + i)) first in
      rw (eu, number, ev) (sym (placed_each_next t i l))

-- ---- what the record of a pattern and of its type say, as the code has read them
pub reading_here : {s : List ℕ} {m : SheetMap} {t : List ℕ} {p tipo : ℕ} {r : PatternRecord} {ty : TypeRecord} → SheetAccepts s m → length t ≡ table_size → p < patterns s → Placed s t p
    → r ≡ pattern_of s p → tipo ≡ get_or t (type_at + p) 0 → ty ≡ type_of_record s tipo → Reading s m t p r ty (get_or t (owner_at + p) 0)
reading_here {s} ch long known placed_p er et ey =
    record { checked = ch; long = long; known = known; is_pattern = er; is_type = ey ∙ ap (type_of_record s) (et ∙ placed_p.type); is_owner = placed_p.owner }

module _ {s : List ℕ} {m : SheetMap} {t : List ℕ} {p : ℕ} {r : PatternRecord} {ty : TypeRecord} {owner : ℕ} (rd : Reading s m t p r ty owner) where
  pub reading_kind : (kind : PatternKind) → r.kind ≡ pattern_number kind → kind_of s p ≡ kind
  unfolding kind_of
  reading_kind kind e = byte_pattern (pattern_kind s p) kind (sym (kind_is s p r rd.is_pattern) ∙ e)

  reading_parent : (kind : PatternKind) → r.kind ≡ pattern_number kind → has_children kind ≡ true → Parent s p
  unfolding kind_of
  reading_parent kind e has = ap has_children (reading_kind kind e) ∙ has

  pub type_first_lem : ty.first ≡ type_first s (type_of s p)
  type_first_lem = ap (λ (x : TypeRecord). x.first) rd.is_type

  pub type_small : type_of s p < 256
  type_small = omega (arith, type_known rd.checked.ok p rd.known, rd.checked.ok.is_counted.types_most_holds)

  reading_fits : fits (pattern s p (type_of s p)) s ≡ true
  reading_fits = pattern_fits rd.checked.ok p rd.known

  pub known_small : p + 1 < 256
  known_small = omega (arith, rd.known, rd.checked.ok.is_counted.patterns_most_holds)

  -- ---- which children are placed, by the kind byte
  pub list_of_parts : r.kind ≡ list_pattern → Parts s p r.count ty.first 0
  unfolding has_children
  list_of_parts e =
      let ok = rd.checked.ok in
      let kind = reading_kind ListOfAll e in
      record {
        known = rd.known;
        has = reading_parent ListOfAll e refl;
        most = omega (arith, count_is s p r rd.is_pattern);
        enough = inl (refl, rw type_first_lem (list_entry ok.is_shaped ok.is_counted p (type_of s p) rd.known reading_fits ok.is_typed (type_known ok p rd.known) kind));
      }

  pub elements : r.kind ≡ list_with_tail_pattern → Parts s p (r.count - 1) ty.first 0
  unfolding has_children
  elements e =
      let ok = rd.checked.ok in
      let kind = reading_kind ListWithRest e in
      record {
        known = rd.known;
        has = reading_parent ListWithRest e refl;
        most = omega (arith, count_is s p r rd.is_pattern);
        enough = inl (refl, rw type_first_lem (tailed_entry ok.is_shaped ok.is_counted p (type_of s p) rd.known reading_fits ok.is_typed (type_known ok p rd.known) kind));
      }

  pub pair_of_parts : r.kind ≡ pair_pattern → Parts s p r.count ty.first 1
  unfolding has_children
  pair_of_parts e =
      let ok = rd.checked.ok in
      let kind = reading_kind Pair e in
      let room = pair_entry ok.is_shaped ok.is_counted p (type_of s p) rd.known reading_fits ok.is_typed (type_known ok p rd.known) kind in
      record {
        known = rd.known;
        has = reading_parent Pair e refl;
        most = omega (arith, count_is s p r rd.is_pattern);
        enough = inr (refl, omega (arith, type_first_lem, count_is s p r rd.is_pattern));
      }

  pub tuple_of_parts : r.kind ≡ tuple_pattern → Parts s p r.count ty.first 1
  unfolding has_children
  tuple_of_parts e =
      let ok = rd.checked.ok in
      let kind = reading_kind Tuple e in
      let room = tuple_entry ok.is_shaped ok.is_counted p (type_of s p) rd.known reading_fits ok.is_typed (type_known ok p rd.known) kind in
      record {
        known = rd.known;
        has = reading_parent Tuple e refl;
        most = omega (arith, count_is s p r rd.is_pattern);
        enough = inr (refl, omega (arith, type_first_lem, count_is s p r rd.is_pattern));
      }

  -- ---- a constructor
  pub constructor_is : ty.first + r.a ≡ constructor_of s (type_of s p) (pattern_a s p)
  unfolding constructor_of
  constructor_is = ap₂ ◌+◌ type_first_lem (a_is s p r rd.is_pattern)

  pub constructor_known : r.kind ≡ constructor_pattern → ty.first + r.a < constructors s
  constructor_known e =
      let ok = rd.checked.ok in
      rw constructor_is
      (constructor_inside ok.is_shaped ok.is_counted p (type_of s p) rd.known reading_fits ok.is_typed (type_known ok p rd.known) (reading_kind Constructor e))

  module _ (run : Run) (is_run : run ≡ run_of s (ty.first + r.a)) where
    fields_first : run.first ≡ constructor_first s (constructor_of s (type_of s p) (pattern_a s p))
    fields_first = ap (λ (x : Run). x.first) is_run ∙ ap (constructor_first s) constructor_is

    pub fields_of_parts : r.kind ≡ constructor_pattern → Parts s p r.count run.first 1
    unfolding has_children
    fields_of_parts e =
        let ok = rd.checked.ok in
        let kind = reading_kind Constructor e in
        let room = constructor_entry ok.is_shaped ok.is_counted p (type_of s p) rd.known reading_fits ok.is_typed (type_known ok p rd.known) kind in
        record {
          known = rd.known;
          has = reading_parent Constructor e refl;
          most = omega (arith, count_is s p r rd.is_pattern);
          enough = inr (refl, omega (arith, fields_first, count_is s p r rd.is_pattern));
        }

    pub fields_placed : (one : Bool) (u : List ℕ) (own : ℕ) → one ≡ both (eqb ty.kind data_type) (eqb ty.count 1) → own ≡ pick one owner (p + 1)
        → u ≡ placed_each s t p constr_step run.first 1 own 0 r.count → u ≡ placed_below s t p Constructor
    unfolding placed_below one_constructor
    fields_placed one u own eo ew e =
        let same : one ≡ one_constructor s (type_of s p) = eo ∙ ap (λ (x : TypeRecord). both (eqb x.kind data_type) (eqb x.count 1)) rd.is_type in
        let owns : own ≡ pick (one_constructor s (type_of s p)) (owner_of s p) (p + 1) = ew ∙ ap₂ (λ (b : Bool) (k : ℕ). pick b k (p + 1)) same rd.is_owner in
        e ∙ rw (fields_first, owns, count_is s p r rd.is_pattern)

  -- ---- what was placed, of each kind
  module _ (u : List ℕ) where
    of_kind : (kind : PatternKind) → r.kind ≡ pattern_number kind → u ≡ placed_below s t p kind → u ≡ placed_below s t p (kind_of s p)
    of_kind kind e x = x ∙ ap (placed_below s t p) (sym (reading_kind kind e))

    pub list_placed : r.kind ≡ list_pattern → u ≡ placed_each s t p list_step ty.first 0 (p + 1) 0 r.count → u ≡ placed_below s t p (kind_of s p)
    unfolding placed_below
    list_placed e x = of_kind ListOfAll e (x ∙ rw (type_first_lem, count_is s p r rd.is_pattern))

    pub pair_placed : r.kind ≡ pair_pattern → u ≡ placed_each s t p pair_step ty.first 1 owner 0 r.count → u ≡ placed_below s t p (kind_of s p)
    unfolding placed_below
    pair_placed e x = of_kind Pair e (x ∙ rw (type_first_lem, rd.is_owner, count_is s p r rd.is_pattern))

    pub tuple_placed : r.kind ≡ tuple_pattern → u ≡ placed_each s t p tuple_step ty.first 1 owner 0 r.count → u ≡ placed_below s t p (kind_of s p)
    unfolding placed_below
    tuple_placed e x = of_kind Tuple e (x ∙ rw (type_first_lem, rd.is_owner, count_is s p r rd.is_pattern))

    pub constructor_placed : r.kind ≡ constructor_pattern → u ≡ placed_below s t p Constructor → u ≡ placed_below s t p (kind_of s p)
    constructor_placed e x = of_kind Constructor e x

    pub tailed_placed : r.kind ≡ list_with_tail_pattern → u ≡ placed_below s t p ListWithRest → u ≡ placed_below s t p (kind_of s p)
    tailed_placed e x = of_kind ListWithRest e x

  -- ---- a list with tail
  module _ (e : r.kind ≡ list_with_tail_pattern) where
    pub tail_some : 2 ≤ r.count
    tail_some =
        omega (arith, count_is s p r rd.is_pattern, rd.checked.ok.is_shaped.tail_after_some p rd.known (sym (kind_is s p r rd.is_pattern) ∙ e))

    tail_owns : Owns s p (r.first + (r.count - 1))
    unfolding has_children
    tail_owns =
        record {
          parent = reading_parent ListWithRest e refl;
          from = omega (arith, first_is s p r rd.is_pattern);
          to = omega (arith, first_is s p r rd.is_pattern, count_is s p r rd.is_pattern, tail_some);
        }

    pub tail_entry : r.first + (r.count - 1) < children s
    tail_entry = owned_entry rd.checked.ok.is_shaped p (r.first + (r.count - 1)) rd.known tail_owns

    pub tail_put : (q : ℕ) → q ≡ child s (r.first + (r.count - 1)) → (p < patterns_most) × (q < patterns_most) × (r.count - 1 < 256)
    tail_put q eq =
        let known = owned_pattern rd.checked.ok.is_shaped p (r.first + (r.count - 1)) rd.known tail_owns in
        let most = rd.checked.ok.is_counted.patterns_most_holds in
        (omega (arith, rd.known), omega arith, omega (arith, tail_entry, rd.checked.ok.is_counted.children_most_holds))

    pub with_tail : (mid u : List ℕ) (q : ℕ) (tipo : ℕ) → q ≡ child s (r.first + (r.count - 1)) → tipo ≡ type_of s p
        → mid ≡ placed_each s t p list_step ty.first 0 (p + 1) 0 (r.count - 1) → u ≡ placed mid p q listtail_step (r.count - 1) tipo (p + 1) → u ≡ placed_below s t p ListWithRest
    unfolding placed_below
    with_tail mid u q tipo eq et em e = e ∙ rw (em, eq, et, type_first_lem, first_is s p r rd.is_pattern, count_is s p r rd.is_pattern)

  -- ---- an assign
  module _ (e : r.kind ≡ assign_pattern) where
    assign_owns : Owns s p r.first
    unfolding has_children
    assign_owns =
        let one = rd.checked.ok.is_shaped.assign_one p rd.known (sym (kind_is s p r rd.is_pattern) ∙ e) in
        record {
          parent = reading_parent Assign e refl;
          from = omega (arith, first_is s p r rd.is_pattern);
          to = omega (arith, first_is s p r rd.is_pattern);
        }

    pub assign_entry : r.first < children s
    assign_entry = owned_entry rd.checked.ok.is_shaped p r.first rd.known assign_owns

    pub assign_put : (q : ℕ) → q ≡ child s r.first → (p < patterns_most) × (q < patterns_most)
    assign_put q eq =
        let known = owned_pattern rd.checked.ok.is_shaped p r.first rd.known assign_owns in
        let most = rd.checked.ok.is_counted.patterns_most_holds in
        (omega (arith, rd.known), omega arith)

    pub assign_placed : (u : List ℕ) (q tipo : ℕ) → q ≡ child s r.first → tipo ≡ type_of s p → u ≡ placed t p q same_number 0 tipo owner → u ≡ placed_below s t p (kind_of s p)
    unfolding placed_below
    assign_placed u q tipo eq et x = of_kind u Assign e (x ∙ rw (eq, et, rd.is_owner, first_is s p r rd.is_pattern))

  -- ---- any other
  pub none_placed : (r.kind ≡ assign_pattern → ⊥) → (r.kind ≡ list_pattern → ⊥) → (r.kind ≡ list_with_tail_pattern → ⊥) → (r.kind ≡ constructor_pattern → ⊥) → (r.kind ≡ pair_pattern → ⊥) → (r.kind ≡ tuple_pattern → ⊥)
      → t ≡ placed_below s t p (kind_of s p)
  unfolding kind_of
  none_placed a b c d e f = go (kind_of s p) refl
    where
      is : (kind : PatternKind) → kind_of s p ≡ kind → pattern_number kind < suc tuple_pattern → r.kind ≡ pattern_number kind
      is kind x l = kind_is s p r rd.is_pattern ∙ pattern_byte (pattern_kind s p) kind x l

      go : (kind : PatternKind) → kind_of s p ≡ kind → t ≡ placed_below s t p kind
      go Discard x = unfold placed_below in refl
      go Variable x = unfold placed_below in refl
      go Assign x = absurd (a (is Assign x (omega arith)))
      go Integer x = unfold placed_below in refl
      go ByteString x = unfold placed_below in refl
      go ListOfAll x = absurd (b (is ListOfAll x (omega arith)))
      go ListWithRest x = absurd (c (is ListWithRest x (omega arith)))
      go Constructor x = absurd (d (is Constructor x (omega arith)))
      go Pair x = absurd (e (is Pair x (omega arith)))
      go Tuple x = absurd (f (is Tuple x (omega arith)))
      go Unknown x = unfold placed_below in refl
