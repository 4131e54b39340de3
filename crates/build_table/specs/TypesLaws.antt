-- The types of patterns: in an accepted sheet each pattern fits its own type, so the type of each is one of the sheet's.
-- Rests on StandingLaws, on a pattern opened one level, and on refusals 6 and 10.
use Rattle.std.specs.Prelude.{◌≡◌, Bool, List, ℕ, zero, suc, ◌+◌, ◌-◌, ◌*◌, ◌≤◌, ◌<◌, eqb, leb}
use Rattle.std.proofs.Math.Path.{refl, ap}
use Rattle.std.proofs.Common.{sym, ◌∙◌, add-zero, mul-zero}
use Rattle.std.proofs.Math.Bool.{true, false, true≢false}
use native.Mathlib.Omega.{arith}
use borrow.Author.Tests.{eqb-true, leb-true, eqb-false}
use Rattle.base_words.specs.Words.{both, pick}
use Rattle.base_words.specs.WordsLaws.{both_true}
use Rattle.spec_rules.specs.Kinds.{list_type, pair_type, tuple_type, data_type}
use Rattle.spec_rules.specs.SheetFile.{types, constructors, entries, patterns, clauses, type_kind, type_first, type_count, constructor_first, constructor_count, entry, pattern_kind, pattern_a, pattern_first, pattern_count, child, root}
use Rattle.spec_rules.specs.Patterns.{PatternKind, Discard, Variable, Assign, Integer, ByteString, ListOfAll, ListWithRest, Constructor, Pair, Tuple, Unknown, Pat, Pats, many, one_constructor, decorated, constructor_of, along, of_constructor, of_kind, pattern, clause_pattern, takes_arguments, opens_into, fits, fit_all}
use Rattle.spec_rules.specs.SheetRefusals.{has_children}
use Rattle.spec_accepted.specs.KindsLaws.{pattern_byte}
use Rattle.spec_accepted.specs.SheetFacts.{Counted, Typed, Owns, Shaped, Accepted, its_constructor}
use Rattle.spec_accepted.specs.PatternsLaws.{many_along, pattern_of_kind}
use Rattle.build_table.specs.Standing.{kind_of, is_tail, type_to, type_of, pattern_of}
use Rattle.build_table.specs.StandingLaws.{by_standing, root_type, child_type}

-- each of the patterns along the child list fits
fit_all_along : (f : ℕ → ℕ → Pat) (s : List ℕ) (j n e step : ℕ) → fit_all (along f s j n e step) s ≡ true
    → (k : ℕ) → k < n → fits (f (child s (j + k)) (entry s (e + step * k))) s ≡ true
unfolding fit_all along
fit_all_along f s j zero e step h k l = absurd (omega arith)
fit_all_along f s j (suc n) e step h zero l =
    rw (add-zero, mul-zero, add-zero) (both_true (fits (f (child s j) (entry s e)) s) (fit_all (along f s (j + 1) n (e + step) step) s) h).0
fit_all_along f s j (suc n) e step h (suc k) l =
    let rest = (both_true (fits (f (child s j) (entry s e)) s) (fit_all (along f s (j + 1) n (e + step) step) s) h).1 in
    let a : j + 1 + k ≡ j + suc k = omega arith in
    let b : e + step + step * k ≡ e + step * suc k = omega arith in
    rw (a, b) at (fit_all_along f s (j + 1) n (e + step) step rest k (omega arith))

-- ---- what a pattern p that fits type t says, kind by kind
module _ {s : List ℕ} (sh : Shaped s) (few : Counted s) (p t : ℕ) (known : p < patterns s) (fit : fits (pattern s p t) s ≡ true) where
  -- its first n parts fit the types at their entries: the first at e, each next one `step` further on
  abbrev PartsFit : ℕ → ℕ → ℕ → Type 0
  PartsFit n e step = (k : ℕ) → k < n → fits (pattern s (child s (pattern_first s p + k)) (entry s (e + step * k))) s ≡ true

  of_kind_lem : (kind : PatternKind) → kind_of s p ≡ kind → fits (of_kind (pattern s) s p t kind) s ≡ true
  unfolding kind_of
  of_kind_lem kind e = ap (λ (q : Pat). fits q s) (sym (pattern_of_kind s sh few p t known kind e)) ∙ fit

  pub assign_part : kind_of s p ≡ Assign → fits (pattern s (child s (pattern_first s p)) t) s ≡ true
  unfolding of_kind fits
  assign_part e = of_kind_lem Assign e

  pub list_parts : kind_of s p ≡ ListOfAll → (type_kind s t ≡ list_type) × PartsFit (pattern_count s p) (type_first s t) 0
  unfolding of_kind fits
  list_parts e =
      let f = both_true (eqb (type_kind s t) list_type) (fit_all (along (pattern s) s (pattern_first s p) (pattern_count s p) (type_first s t) 0) s) (of_kind_lem ListOfAll e) in
      (eqb-true _ _ f.0, fit_all_along (pattern s) s (pattern_first s p) (pattern_count s p) (type_first s t) 0 f.1)

  pub tailed_parts : kind_of s p ≡ ListWithRest
      → (type_kind s t ≡ list_type) × PartsFit (pattern_count s p - 1) (type_first s t) 0 × (fits (pattern s (child s (pattern_first s p + (pattern_count s p - 1))) t) s ≡ true)
  unfolding of_kind fits
  tailed_parts e =
      let f = both_true (eqb (type_kind s t) list_type) _ (of_kind_lem ListWithRest e) in
      let g = both_true (fit_all (along (pattern s) s (pattern_first s p) (pattern_count s p - 1) (type_first s t) 0) s) _ f.1 in
      (eqb-true _ _ f.0, fit_all_along (pattern s) s (pattern_first s p) (pattern_count s p - 1) (type_first s t) 0 g.0, g.1)

  pub pair_parts : kind_of s p ≡ Pair → (type_kind s t ≡ pair_type) × (type_count s t ≡ pattern_count s p) × PartsFit (pattern_count s p) (type_first s t) 1
  unfolding of_kind fits opens_into
  pair_parts e =
      let f = both_true (both (eqb (type_kind s t) pair_type) (eqb (type_count s t) (many (along (pattern s) s (pattern_first s p) (pattern_count s p) (type_first s t) 1)))) _ (of_kind_lem Pair e) in
      let g = both_true (eqb (type_kind s t) pair_type) _ f.0 in
      (eqb-true _ _ g.0, eqb-true _ _ g.1 ∙ many_along (pattern s) s (pattern_first s p) (pattern_count s p) (type_first s t) 1, fit_all_along (pattern s) s (pattern_first s p) (pattern_count s p) (type_first s t) 1 f.1)

  pub tuple_parts : kind_of s p ≡ Tuple → (type_kind s t ≡ tuple_type) × (type_count s t ≡ pattern_count s p) × PartsFit (pattern_count s p) (type_first s t) 1
  unfolding of_kind fits opens_into
  tuple_parts e =
      let f = both_true (both (eqb (type_kind s t) tuple_type) (eqb (type_count s t) (many (along (pattern s) s (pattern_first s p) (pattern_count s p) (type_first s t) 1)))) _ (of_kind_lem Tuple e) in
      let g = both_true (eqb (type_kind s t) tuple_type) _ f.0 in
      (eqb-true _ _ g.0, eqb-true _ _ g.1 ∙ many_along (pattern s) s (pattern_first s p) (pattern_count s p) (type_first s t) 1, fit_all_along (pattern s) s (pattern_first s p) (pattern_count s p) (type_first s t) 1 f.1)

  constructor_both : (one : Bool) (qs : Pats) → fits (of_constructor (record { number = p; type = t }) (pattern_a s p) (decorated s t) qs one) s ≡ true
      → both (takes_arguments s t (pattern_a s p) (many qs)) (fit_all qs s) ≡ true
  unfolding of_constructor fits opens_into
  constructor_both true qs h = h
  constructor_both false qs h = h

  pub constructor_parts : kind_of s p ≡ Constructor
      → (type_kind s t ≡ data_type) × (pattern_a s p < type_count s t) × (constructor_count s (constructor_of s t (pattern_a s p)) ≡ pattern_count s p)
      × PartsFit (pattern_count s p) (constructor_first s (constructor_of s t (pattern_a s p))) 1
  unfolding of_kind takes_arguments
  constructor_parts e =
      let c = constructor_first s (constructor_of s t (pattern_a s p)) in
      let qs = along (pattern s) s (pattern_first s p) (pattern_count s p) c 1 in
      let f = both_true (takes_arguments s t (pattern_a s p) (many qs)) (fit_all qs s) (constructor_both (one_constructor s t) qs (of_kind_lem Constructor e)) in
      let g = both_true (eqb (type_kind s t) data_type) _ f.0 in
      let h = both_true (leb (pattern_a s p + 1) (type_count s t)) _ g.1 in
      let least = leb-true (pattern_a s p + 1) (type_count s t) h.0 in
      (eqb-true _ _ g.0, omega arith, eqb-true _ _ h.1 ∙ many_along (pattern s) s (pattern_first s p) (pattern_count s p) c 1, fit_all_along (pattern s) s (pattern_first s p) (pattern_count s p) c 1 f.1)

  -- ---- each of its children fits the type that it has there
  at_entry : (n e step u j : ℕ) → PartsFit n e step → pattern_first s p ≤ j → j - pattern_first s p < n → e + step * (j - pattern_first s p) ≡ u
      → fits (pattern s (child s j) (entry s u)) s ≡ true
  at_entry n e step u j parts low inside same =
      let back : pattern_first s p + (j - pattern_first s p) ≡ j = omega arith in
      rw (back, same) at (parts (j - pattern_first s p) inside)

  no_parent : (j : ℕ) (kind : PatternKind) → Owns s p j → kind_of s p ≡ kind → has_children kind ≡ false → ⊥
  unfolding kind_of
  no_parent j kind o e f = true≢false (sym o.parent ∙ ap has_children e ∙ f)

  module _ (j : ℕ) (o : Owns s p j) where
    inside_count : j - pattern_first s p < pattern_count s p
    inside_count = omega (arith, o.from, o.to)

    tail_or_part : kind_of s p ≡ ListWithRest → (last : Bool) → is_tail s p (j - pattern_first s p) ≡ last
        → fits (pattern s (child s j) (pick last t (entry s (type_first s t)))) s ≡ true
    unfolding is_tail
    tail_or_part e true x =
        let q = eqb-true (j - pattern_first s p + 1) (pattern_count s p) x in
        let same : pattern_first s p + (pattern_count s p - 1) ≡ j = omega (arith, o.from) in
        rw same at (tailed_parts e).2
    tail_or_part e false x =
        let q = eqb-false (j - pattern_first s p + 1) (pattern_count s p) x in
        at_entry (pattern_count s p - 1) (type_first s t) 0 (type_first s t) j (tailed_parts e).1 o.from (omega (arith, inside_count)) (omega arith)

    fits_to : (kind : PatternKind) → kind_of s p ≡ kind → fits (pattern s (child s j) (type_to s p t kind (j - pattern_first s p))) s ≡ true
    unfolding type_to has_children
    fits_to Discard e = absurd (no_parent j Discard o e refl)
    fits_to Variable e = absurd (no_parent j Variable o e refl)
    fits_to Assign e =
        let one = sh.assign_one p known (pattern_byte (pattern_kind s p) Assign (unfold kind_of in e) (omega arith)) in
        let same : pattern_first s p ≡ j = omega (arith, o.from, o.to) in
        rw same at (assign_part e)
    fits_to Integer e = absurd (no_parent j Integer o e refl)
    fits_to ByteString e = absurd (no_parent j ByteString o e refl)
    fits_to ListOfAll e = at_entry (pattern_count s p) (type_first s t) 0 (type_first s t) j (list_parts e).1 o.from inside_count (omega arith)
    fits_to ListWithRest e = tail_or_part e (is_tail s p (j - pattern_first s p)) refl
    fits_to Constructor e = at_entry (pattern_count s p) _ 1 _ j (constructor_parts e).3 o.from inside_count (omega arith)
    fits_to Pair e = at_entry (pattern_count s p) (type_first s t) 1 _ j (pair_parts e).2 o.from inside_count (omega arith)
    fits_to Tuple e = at_entry (pattern_count s p) (type_first s t) 1 _ j (tuple_parts e).2 o.from inside_count (omega arith)
    fits_to Unknown e = absurd (no_parent j Unknown o e refl)

    pub part_fits : fits (pattern s (child s j) (type_to s p t (kind_of s p) (j - pattern_first s p))) s ≡ true
    part_fits = fits_to (kind_of s p) refl

  -- ---- the type entries of its parts are there
  module _ (ty : Typed s) (type_known : t < types s) where
    pub list_entry : kind_of s p ≡ ListOfAll → type_first s t < entries s
    list_entry e =
        let k = (list_parts e).0 in
        omega (arith, ty.list_one t type_known k, ty.type_entries t type_known (omega arith))

    pub tailed_entry : kind_of s p ≡ ListWithRest → type_first s t < entries s
    tailed_entry e =
        let k = (tailed_parts e).0 in
        omega (arith, ty.list_one t type_known k, ty.type_entries t type_known (omega arith))

    pub pair_entry : kind_of s p ≡ Pair → type_first s t + pattern_count s p ≤ entries s
    pair_entry e =
        let w = pair_parts e in
        omega (arith, w.1, ty.type_entries t type_known (omega (arith, w.0)))

    pub tuple_entry : kind_of s p ≡ Tuple → type_first s t + pattern_count s p ≤ entries s
    tuple_entry e =
        let w = tuple_parts e in
        omega (arith, w.1, ty.type_entries t type_known (omega (arith, w.0)))

    pub constructor_inside : kind_of s p ≡ Constructor → constructor_of s t (pattern_a s p) < constructors s
    constructor_inside e = let w = constructor_parts e in its_constructor ty t (pattern_a s p) type_known w.0 w.1

    pub constructor_entry : kind_of s p ≡ Constructor → constructor_first s (constructor_of s t (pattern_a s p)) + pattern_count s p ≤ entries s
    constructor_entry e =
        let w = constructor_parts e in
        let run = ty.constructor_entries (constructor_of s t (pattern_a s p)) (constructor_inside e) in
        omega (arith, w.2, run.inside)

    type_to_lem : (j : ℕ) → Owns s p j → (kind : PatternKind) → kind_of s p ≡ kind → type_to s p t kind (j - pattern_first s p) < types s
    unfolding type_to has_children
    type_to_lem j o Discard e = type_known
    type_to_lem j o Variable e = type_known
    type_to_lem j o Assign e = type_known
    type_to_lem j o Integer e = type_known
    type_to_lem j o ByteString e = type_known
    type_to_lem j o ListOfAll e = ty.entry_type (type_first s t) (list_entry e)
    type_to_lem j o ListWithRest e = go (is_tail s p (j - pattern_first s p))
      where
        go : (last : Bool) → pick last t (entry s (type_first s t)) < types s
        go true = type_known
        go false = ty.entry_type (type_first s t) (tailed_entry e)
    type_to_lem j o Constructor e = ty.entry_type _ (omega (arith, constructor_entry e, o.from, o.to))
    type_to_lem j o Pair e = ty.entry_type _ (omega (arith, pair_entry e, o.from, o.to))
    type_to_lem j o Tuple e = ty.entry_type _ (omega (arith, tuple_entry e, o.from, o.to))
    type_to_lem j o Unknown e = type_known

    pub part_type_known : (j : ℕ) → Owns s p j → type_to s p t (kind_of s p) (j - pattern_first s p) < types s
    part_type_known j o = type_to_lem j o (kind_of s p) refl

-- ---- of an accepted sheet
module _ {s : List ℕ} (ok : Accepted s) where
  pub pattern_fits : (p : ℕ) → p < patterns s → fits (pattern_of s p) s ≡ true
  pattern_fits = by_standing ok.is_shaped (λ p. fits (pattern_of s p) s ≡ true) at_root at_child
    where
      at_root : (c : ℕ) → c < clauses s → fits (pattern_of s (root s c)) s ≡ true
      at_root c h = rw (root_type ok.is_shaped c h) (unfold clause_pattern in (ok.clause_fits c h))

      at_child : (p j : ℕ) → p < patterns s → Owns s p j → fits (pattern_of s p) s ≡ true → fits (pattern_of s (child s j)) s ≡ true
      at_child p j h o ih =
          rw (child_type ok.is_shaped p j h o ok.is_counted) (part_fits ok.is_shaped ok.is_counted p (type_of s p) h ih j o)

  pub type_known : (p : ℕ) → p < patterns s → type_of s p < types s
  type_known = by_standing ok.is_shaped (λ p. type_of s p < types s) at_root at_child
    where
      at_root : (c : ℕ) → c < clauses s → type_of s (root s c) < types s
      at_root c h = rw (root_type ok.is_shaped c h) ok.is_typed.subject_type

      at_child : (p j : ℕ) → p < patterns s → Owns s p j → type_of s p < types s → type_of s (child s j) < types s
      at_child p j h o ih =
          rw (child_type ok.is_shaped p j h o ok.is_counted)
          (part_type_known ok.is_shaped ok.is_counted p (type_of s p) h (pattern_fits p h) ok.is_typed ih j o)
