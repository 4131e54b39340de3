-- The clause patterns of an accepted sheet are resolved against its subject, so that in every matrix that its tree is built from the
-- order of columns is total: `sheet_columns_ordered`.
use Prim.Native.Nat.{ℕ, zero, suc, ◌+◌, ◌-◌, ◌*◌, ◌≤◌, ◌<◌}
use native.Mathlib.Omega.{arith}
use Rattle.std.specs.Prelude.{◌≡◌, ◌⊎◌, Bool}
use Rattle.std.proofs.Math.Path.{refl, ap}
use Rattle.std.proofs.Common.{sym, ◌∙◌}
use Rattle.std.proofs.Math.Bool.{true, false}
use Rattle.std.proofs.lemmas.Bool.{false≢true}
use mathlib.Core.List.{List, []}
use Rattle.std.proofs.Math.Dec.{eqb}
use borrow.Author.Tests.{eqb-true, eqb-false}
use Rattle.base_words.specs.Words.{both, either}
use Rattle.base_words.specs.WordsLaws.{both_true, either_second_true}
use Rattle.spec_rules.specs.Limits.{patterns_most}
use Rattle.spec_rules.specs.Kinds.{int_type, bytes_type, list_type, pair_type, tuple_type, data_type, discard_pattern, variable_pattern}
use Rattle.spec_rules.specs.SheetFile.{subject, clauses, patterns, type_kind, type_first, type_count, constructor_first, entry, pattern_kind, pattern_a, pattern_first, pattern_count, child, root}
use Rattle.spec_rules.specs.Patterns.{PatternKind, Discard, Variable, Assign, Integer, ByteString, ListOfAll, ListWithRest, Constructor, Pair, Tuple, Unknown, pattern_kind_of, Pat, Pats, many, one_constructor, decorated, constructor_of, along, of_constructor, of_kind, pattern_to, pattern, clause_pattern, clause_patterns, takes_arguments, opens_into, fits, fit_all}
use Rattle.spec_rules.specs.Rows.{pair, tuple, constr, Path, Row}
use Rattle.spec_rules.specs.Columns.{before}
use Rattle.spec_rules.specs.SheetRefusals.{has_children, verdict, accepted}
use Rattle.spec_rules.specs.Calls.{sheet_patterns}
use Rattle.spec_rules.specs.SplittingLaws.{All}
use Rattle.spec_accepted.specs.KindsLaws.{pattern_byte}
use Rattle.spec_accepted.specs.SheetFacts.{Parent, Shaped, owned_pattern, Accepted, accepted_sheet}
use Rattle.spec_match.specs.Apart.{is_column}
use Rattle.spec_match.specs.Typing.{takes, one_of_one}
use Rattle.spec_match.specs.ColumnTypes.{is_open, open_step, open_part, is_plain, element_type, field_type, Resolved, ResolvedEach, Meets, columns_ordered}

module _ (s : List ℕ) (sh : Shaped s) where
  abbrev Known : ℕ → ℕ → Type 0
  Known j n = (k : ℕ) → k < n → child s (j + k) < patterns s

  along_resolved : (f : ℕ → ℕ → Pat) → ((p t : ℕ) → p < patterns s → fits (f p t) s ≡ true → Resolved s (f p t) t)
      → (types : ℕ → ℕ) (i j n e step : ℕ) → Known j n → ((k : ℕ) → types (i + k) ≡ entry s (e + k * step)) → fit_all (along f s j n e step) s ≡ true
      → ResolvedEach s (along f s j n e step) types i
  unfolding along Resolved fits
  along_resolved f each types i j zero e step known same h = tt
  along_resolved f each types i j (suc n) e step known same h =
      let (a, b) = both_true (fits (f (child s j) (entry s e)) s) (fit_all (along f s (j + 1) n (e + step) step) s) h in
      let x : j + 0 ≡ j = omega arith in
      let y : types i ≡ entry s e = ap types (first i) ∙ same 0 ∙ ap (entry s) (start e) in (
        rw y (each (child s j) (entry s e) (rw x at (known 0 (omega arith))) a),
        along_resolved f each types (i + 1) (j + 1) n (e + step) step
            (λ k l. rw (next j k) (known (suc k) (omega arith)))
            (λ k. ap types (next i k) ∙ same (suc k) ∙ ap (entry s) (further k)) b,
      )
    where
      first : (i : ℕ) → i ≡ i + 0
      first i = omega arith

      start : (e : ℕ) → e + 0 * step ≡ e
      start e = omega arith

      next : (i k : ℕ) → i + 1 + k ≡ i + suc k
      next i k = omega arith

      further : (k : ℕ) → e + suc k * step ≡ e + step + k * step
      further k = omega arith

  -- ---- kinds of types that are tested, and that open
  not_open : (t k : ℕ) → type_kind s t ≡ k → either (eqb k pair_type) (either (eqb k tuple_type) (eqb k data_type)) ≡ false → is_open s t ≡ false
  unfolding is_open one_constructor
  not_open t k e h = rw e (go (eqb k pair_type) (eqb k tuple_type) (eqb k data_type) h)
    where
      go : (a b c : Bool) → either a (either b c) ≡ false → either a (either b (both c (eqb (type_count s t) 1))) ≡ false
      go true b c h = h
      go false true c h = h
      go false false true h = absurd (false≢true (sym h))
      go false false false h = refl

  several_not_open : (t : ℕ) → type_kind s t ≡ data_type → one_constructor s t ≡ false → is_open s t ≡ false
  unfolding is_open
  several_not_open t e h = rw (h, e)

  module _ (t : ℕ) (one : one_constructor s t ≡ true) where
    one_kind : type_kind s t ≡ data_type
    unfolding one_constructor
    one_kind = eqb-true (type_kind s t) data_type (both_true (eqb (type_kind s t) data_type) (eqb (type_count s t) 1) one).0

    one_open : is_open s t ≡ true
    unfolding is_open
    one_open = either_second_true (eqb (type_kind s t) pair_type) (either (eqb (type_kind s t) tuple_type) (one_constructor s t)) (either_second_true (eqb (type_kind s t) tuple_type) (one_constructor s t) one)

    one_step : (i : ℕ) → constr i (decorated s t) t ≡ open_step s t i
    unfolding open_step
    one_step i = rw one_kind

    one_part : (a i : ℕ) → a ≡ 0 → open_part s t i ≡ field_type s t a i
    unfolding open_part
    one_part a i e = rw (one, e)

  module _ (t : ℕ) (is_pair : type_kind s t ≡ pair_type) where
    pair_open : is_open s t ≡ true
    unfolding is_open
    pair_open = rw is_pair

    pair_step : (i : ℕ) → pair i t ≡ open_step s t i
    unfolding open_step
    pair_step i = rw is_pair

    pair_not_one : one_constructor s t ≡ false
    unfolding one_constructor
    pair_not_one = rw is_pair

  module _ (t : ℕ) (is_tuple : type_kind s t ≡ tuple_type) where
    tuple_open : is_open s t ≡ true
    unfolding is_open
    tuple_open = rw is_tuple

    tuple_step : (i : ℕ) → tuple i t ≡ open_step s t i
    unfolding open_step
    tuple_step i = rw is_tuple

    tuple_not_one : one_constructor s t ≡ false
    unfolding one_constructor
    tuple_not_one = rw is_tuple

  -- ---- a pattern by its kind, of which f makes the children
  module _ (f : ℕ → ℕ → Pat) (below : (p t : ℕ) → p < patterns s → fits (f p t) s ≡ true → Resolved s (f p t) t) (p t : ℕ) (known : p < patterns s) where
    children_known : Parent s p → (n : ℕ) → n ≤ pattern_count s p → Known (pattern_first s p) n
    children_known has n l k b = owned_pattern sh p (pattern_first s p + k) known (record { parent = has; from = omega arith; to = omega arith })

    element_same : (k : ℕ) → element_type s t (0 + k) ≡ entry s (type_first s t + k * 0)
    element_same k = ap (entry s) (at (type_first s t))
      where
        at : (e : ℕ) → e ≡ e + k * 0
        at e = omega arith

    part_same : (e k : ℕ) → entry s (e + (0 + k)) ≡ entry s (e + k * 1)
    part_same e k = ap (entry s) (at e)
      where
        at : (e : ℕ) → e + (0 + k) ≡ e + k * 1
        at e = omega arith

    list_resolved : Parent s p → (n : ℕ) → n ≤ pattern_count s p → fit_all (along f s (pattern_first s p) n (type_first s t) 0) s ≡ true
        → ResolvedEach s (along f s (pattern_first s p) n (type_first s t) 0) (element_type s t) 0
    list_resolved has n l h =
        along_resolved f below (element_type s t) 0 (pattern_first s p) n (type_first s t) 0 (children_known has n l) element_same h

    -- the parts of a pair or a tuple
    parts_resolved : Parent s p → one_constructor s t ≡ false → fit_all (along f s (pattern_first s p) (pattern_count s p) (type_first s t) 1) s ≡ true
        → ResolvedEach s (along f s (pattern_first s p) (pattern_count s p) (type_first s t) 1) (open_part s t) 0
    unfolding open_part
    parts_resolved has o h =
        along_resolved f below (open_part s t) 0 (pattern_first s p) (pattern_count s p) (type_first s t) 1 (children_known has (pattern_count s p) (omega arith))
        (λ k. rw o (part_same (type_first s t) k)) h

    -- the fields of constructor a
    abbrev field_patterns : Pats
    field_patterns = along f s (pattern_first s p) (pattern_count s p) (constructor_first s (constructor_of s t (pattern_a s p))) 1

    fields_resolved : Parent s p → (types : ℕ → ℕ) → ((k : ℕ) → types (0 + k) ≡ field_type s t (pattern_a s p) (0 + k)) → fit_all field_patterns s ≡ true → ResolvedEach s field_patterns types 0
    fields_resolved has types same h =
        along_resolved f below types 0 (pattern_first s p) (pattern_count s p) (constructor_first s (constructor_of s t (pattern_a s p))) 1 (children_known has (pattern_count s p) (omega arith))
        (λ k. same k ∙ part_same (constructor_first s (constructor_of s t (pattern_a s p))) k) h

    constructor_resolved : Parent s p → fits (of_kind f s p t Constructor) s ≡ true → Resolved s (of_kind f s p t Constructor) t
    unfolding of_kind fits Resolved
    constructor_resolved has h = go (one_constructor s t) refl h
      where
        go : (b : Bool) → one_constructor s t ≡ b → fits (of_constructor (record { number = p; type = t }) (pattern_a s p) (decorated s t) field_patterns b) s ≡ true
            → Resolved s (of_constructor (record { number = p; type = t }) (pattern_a s p) (decorated s t) field_patterns b) t
        go true e w =
            let (a, b) = both_true (takes_arguments s t (pattern_a s p) (many field_patterns)) (fit_all field_patterns s) w in
            let (k, l, n) = takes s [] t (pattern_a s p) (many field_patterns) a in
            (one_open t e, one_step t e, fields_resolved has (open_part s t) (λ i. one_part t e (pattern_a s p) (0 + i) (sym (one_of_one s [] t (pattern_a s p) 0 e l (omega arith)))) b)
        go false e w =
            let (a, b) = both_true (takes_arguments s t (pattern_a s p) (many field_patterns)) (fit_all field_patterns s) w in
            (refl, several_not_open t (takes s [] t (pattern_a s p) (many field_patterns) a).0 e, fields_resolved has (field_type s t (pattern_a s p)) (λ k. refl) b)

    abbrev part_patterns : Pats
    part_patterns = along f s (pattern_first s p) (pattern_count s p) (type_first s t) 1

    pair_resolved : Parent s p → fits (of_kind f s p t Pair) s ≡ true → Resolved s (of_kind f s p t Pair) t
    unfolding of_kind fits Resolved opens_into
    pair_resolved has h =
        let (a, b) = both_true (both (eqb (type_kind s t) pair_type) (eqb (type_count s t) (many part_patterns))) (fit_all part_patterns s) h in
        let e = eqb-true (type_kind s t) pair_type (both_true (eqb (type_kind s t) pair_type) (eqb (type_count s t) (many part_patterns)) a).0 in
        (pair_open t e, pair_step t e, parts_resolved has (pair_not_one t e) b)

    tuple_resolved : Parent s p → fits (of_kind f s p t Tuple) s ≡ true → Resolved s (of_kind f s p t Tuple) t
    unfolding of_kind fits Resolved opens_into
    tuple_resolved has h =
        let (a, b) = both_true (both (eqb (type_kind s t) tuple_type) (eqb (type_count s t) (many part_patterns))) (fit_all part_patterns s) h in
        let e = eqb-true (type_kind s t) tuple_type (both_true (eqb (type_kind s t) tuple_type) (eqb (type_count s t) (many part_patterns)) a).0 in
        (tuple_open t e, tuple_step t e, parts_resolved has (tuple_not_one t e) b)

    kind_resolved : ((q u : ℕ) → pattern_kind s q ≤ variable_pattern → is_plain (f q u) ≡ true)
        → (kind : PatternKind) → pattern_kind_of (pattern_kind s p) ≡ kind → fits (of_kind f s p t kind) s ≡ true → Resolved s (of_kind f s p t kind) t
    unfolding of_kind fits Resolved has_children
    kind_resolved plain Discard e h = tt
    kind_resolved plain Variable e h = tt
    kind_resolved plain Assign e h =
        let one = sh.assign_one p known (pattern_byte _ Assign e (omega arith)) in
        below (child s (pattern_first s p)) t
        (owned_pattern sh p (pattern_first s p) known (record { parent = ap has_children e; from = omega arith; to = omega arith })) h
    kind_resolved plain Integer e h = (refl, not_open t int_type (eqb-true (type_kind s t) int_type h) refl)
    kind_resolved plain ByteString e h = (refl, not_open t bytes_type (eqb-true (type_kind s t) bytes_type h) refl)
    kind_resolved plain ListOfAll e h =
        let (a, b) = both_true (eqb (type_kind s t) list_type) (fit_all (along f s (pattern_first s p) (pattern_count s p) (type_first s t) 0) s) h in
        (refl, not_open t list_type (eqb-true (type_kind s t) list_type a) refl, list_resolved (ap has_children e) (pattern_count s p) (omega arith) b)
    kind_resolved plain ListWithRest e h =
        let byte = pattern_byte _ ListWithRest e (omega arith) in
        let (a, b) = both_true (eqb (type_kind s t) list_type) (both (fit_all (along f s (pattern_first s p) (pattern_count s p - 1) (type_first s t) 0) s) (fits (f last t) s)) h in
        let (c, d) = both_true (fit_all (along f s (pattern_first s p) (pattern_count s p - 1) (type_first s t) 0) s) (fits (f last t) s) b in
        (refl, not_open t list_type (eqb-true (type_kind s t) list_type a) refl, list_resolved (ap has_children e) (pattern_count s p - 1) (omega arith) c, plain last t (sh.tail_plain p known byte))
      where
        last : ℕ
        last = child s (pattern_first s p + (pattern_count s p - 1))
    kind_resolved plain Constructor e h = constructor_resolved (ap has_children e) h
    kind_resolved plain Pair e h = pair_resolved (ap has_children e) h
    kind_resolved plain Tuple e h = tuple_resolved (ap has_children e) h
    kind_resolved plain Unknown e h = tt

  -- a discard and a variable are plain
  plain_to : (deep p t : ℕ) → pattern_kind s p ≤ variable_pattern → is_plain (pattern_to deep s p t) ≡ true
  unfolding pattern_to is_plain of_kind pattern_kind_of
  plain_to zero p t l = refl
  plain_to (suc deep) p t l = go (eqb (pattern_kind s p) discard_pattern) refl
    where
      go : (b : Bool) → eqb (pattern_kind s p) discard_pattern ≡ b → is_plain (of_kind (pattern_to deep s) s p t (pattern_kind_of (pattern_kind s p))) ≡ true
      go true e = rw (eqb-true (pattern_kind s p) discard_pattern e)
      go false e = let one : pattern_kind s p ≡ variable_pattern = omega (arith, eqb-false (pattern_kind s p) discard_pattern e) in rw one

  -- LEMMA: a pattern that fits its type is resolved against it
  pub resolved_to : (deep p t : ℕ) → p < patterns s → fits (pattern_to deep s p t) s ≡ true → Resolved s (pattern_to deep s p t) t
  unfolding pattern_to Resolved
  resolved_to zero p t known h = tt
  resolved_to (suc deep) p t known h = kind_resolved (pattern_to deep s) (resolved_to deep) p t known (plain_to deep) (pattern_kind_of (pattern_kind s p)) refl h

module _ (s : List ℕ) (a : Accepted s) where
  clauses_resolved : (c n : ℕ) → c + n ≤ clauses s → All (λ q. Resolved s q (subject s)) (clause_patterns s c n)
  unfolding clause_patterns clause_pattern pattern
  clauses_resolved c zero l = tt
  clauses_resolved c (suc n) l = (
    resolved_to s a.is_shaped patterns_most (root s c) (subject s) (a.is_shaped.root_pattern c (omega arith)) (a.clause_fits c (omega arith)),
    clauses_resolved (c + 1) n (omega arith),
  )

  pub sheet_resolved : All (λ q. Resolved s q (subject s)) (sheet_patterns s)
  unfolding sheet_patterns
  sheet_resolved = clauses_resolved 0 (clauses s) (omega arith)

-- THEOREM: in the matrices that an accepted sheet's tree is built from, of two columns that are not the same one is before the other
pub sheet_columns_ordered : (s : List ℕ) → verdict s ≡ accepted → (ps : List Path) (rs : List Row) → Meets (sheet_patterns s) ps rs
    → (p q : Path) → is_column p ps ≡ true → is_column q ps ≡ true → (p ≡ q → ⊥) → (before p q ≡ true) ⊎ (before q p ≡ true)
sheet_columns_ordered s h = columns_ordered s (subject s) (sheet_patterns s) (sheet_resolved s (accepted_sheet s h))
