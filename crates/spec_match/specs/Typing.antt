-- A pattern that fits its type suits a part that is of the type: so each clause of an accepted sheet suits a panel that fits its
-- subject, and there the walk answers the first match (`sheet_first_match`). The pattern and the panel are read side by side, each as
-- deep as it goes.
use Prim.Native.Nat.{ℕ, zero, suc, ◌+◌, ◌-◌, ◌*◌, ◌≤◌, ◌<◌}
use native.Mathlib.Omega.{arith}
use Rattle.std.specs.Prelude.{◌≡◌, Bool, false, List, eqb, leb}
use Rattle.std.proofs.Math.Path.{refl, ap₂}
use Rattle.std.proofs.Common.{sym, ap, ◌∙◌}
use Rattle.std.proofs.Math.Bool.{true}
use Rattle.std.proofs.lemmas.Bool.{false≢true}
use borrow.Author.Tests.{eq-eqb, eqb-true, leb-true}
use Rattle.base_words.specs.Words.{both}
use Rattle.base_words.specs.WordsLaws.{both_true}
use Rattle.spec_rules.specs.Limits.{patterns_most, records_most}
use Rattle.spec_rules.specs.Kinds.{int_type, bytes_type, list_type, pair_type, tuple_type, data_type}
use Rattle.spec_rules.specs.SheetFile.{subject, clauses, type_kind, type_first, type_count, constructor_first, constructor_count, entry, pattern_kind, pattern_a, pattern_first, pattern_count, child, root}
use Rattle.spec_rules.specs.Patterns.{PatternKind, Discard, Variable, Assign, Integer, ByteString, ListOfAll, ListWithRest, Constructor, Pair, Tuple, Unknown, pattern_kind_of, Pat, Pats, many, one_constructor, decorated, constructor_of, along, of_constructor, of_kind, pattern_to, pattern, clause_pattern, clause_patterns, takes_arguments, opens_into, fits, fit_all}
use Rattle.spec_rules.specs.PanelFile.{record_kind, record_a, record_first, record_count, part, RecordKind, Integer_record, Bytes_record, List_record, Pair_record, Tuple_record, Constructor_record, Unknown_record, record_kind_of}
use Rattle.spec_rules.specs.Fitting.{parts_fit, record_fits, has_type_to, panel_fits}
use Rattle.spec_rules.specs.SheetRefusals.{verdict, accepted}
use Rattle.spec_rules.specs.Building.{plain_tree}
use Rattle.spec_rules.specs.Walking.{Position, panel_root, walk}
use Rattle.spec_rules.specs.Meaning.{elements_at, elements, after, open_kind, has_number, first_match}
use Rattle.spec_rules.specs.Calls.{sheet_patterns}
use Rattle.spec_rules.specs.SplittingLaws.{All}
use Rattle.spec_accepted.specs.KindsLaws.{record_number, record_byte, byte_record}
use Rattle.spec_accepted.specs.SheetFacts.{Accepted, accepted_sheet}
use Rattle.spec_accepted.specs.PatternsLaws.{many_along}
use Rattle.spec_match.specs.Suits.{Suits, SuitEach}
use Rattle.spec_match.specs.Answers.{SameAnswer}
use Rattle.spec_match.specs.FirstMatch.{first_match_lem}

module _ (s v : List ℕ) where
  -- ---- what a record of a type has: the type's kind, and parts of the types at its own entries
  abbrev PartsHave : (ℕ → ℕ → Bool) → ℕ → ℕ → ℕ → ℕ → Type 0
  PartsHave f j n e step = (i : ℕ) → i < n → f (part v (j + i)) (entry s (e + i * step)) ≡ true

  parts_have : (f : ℕ → ℕ → Bool) (j n e step : ℕ) → parts_fit f s v j n e step ≡ true → PartsHave f j n e step
  unfolding parts_fit
  parts_have f j zero e step h i l = absurd (omega arith)
  parts_have f j (suc n) e step h zero l =
      let a : j + 0 ≡ j = omega arith in
      let b : e + 0 * step ≡ e = omega arith in
      ap₂ (λ x y. f (part v x) (entry s y)) a b ∙ (both_true (f (part v j) (entry s e)) (parts_fit f s v (j + 1) n (e + step) step) h).0
  parts_have f j (suc n) e step h (suc i) l =
      let a : j + suc i ≡ j + 1 + i = omega arith in
      let b : e + suc i * step ≡ e + step + i * step = omega arith in
      ap₂ (λ x y. f (part v x) (entry s y)) a b
      ∙ parts_have f (j + 1) n (e + step) step (both_true (f (part v j) (entry s e)) (parts_fit f s v (j + 1) n (e + step) step) h).1 i (omega arith)

  number_of_type : (f : ℕ → ℕ → Bool) (r t : ℕ) (kind : RecordKind) → record_fits f s v r t kind ≡ true → (type_kind s t ≡ record_number kind) × (record_number kind < 6)
  unfolding record_fits takes_arguments
  number_of_type f r t Integer_record h = (eqb-true _ _ h, omega arith)
  number_of_type f r t Bytes_record h = (eqb-true _ _ h, omega arith)
  number_of_type f r t List_record h = (eqb-true _ _ (both_true (eqb (type_kind s t) list_type) _ h).0, omega arith)
  number_of_type f r t Pair_record h = (eqb-true _ _ (both_true (eqb (type_kind s t) pair_type) _ h).0, omega arith)
  number_of_type f r t Tuple_record h = (eqb-true _ _ (both_true (eqb (type_kind s t) tuple_type) _ h).0, omega arith)
  number_of_type f r t Constructor_record h = (
    eqb-true _ _ (both_true (eqb (type_kind s t) data_type) _ (both_true (takes_arguments s t (record_a v r) (record_count v r)) _ h).0).0,
    omega arith,
  )
  number_of_type f r t Unknown_record h = absurd (false≢true h)

  module _ (f : ℕ → ℕ → Bool) (r t : ℕ) (h : record_fits f s v r t (record_kind_of (record_kind v r)) ≡ true) where
    kind_of_type : record_kind v r ≡ type_kind s t
    kind_of_type =
        let (a, b) = number_of_type f r t (record_kind_of (record_kind v r)) h in
        record_byte (record_kind v r) (record_kind_of (record_kind v r)) refl b ∙ sym a

    as_kind : (kind : RecordKind) → type_kind s t ≡ record_number kind → record_fits f s v r t kind ≡ true
    as_kind kind e = rw (byte_record (record_kind v r) kind (kind_of_type ∙ e)) at h

    list_parts : type_kind s t ≡ list_type → PartsHave f (record_first v r) (record_count v r) (type_first s t) 0
    list_parts e =
        parts_have f (record_first v r) (record_count v r) (type_first s t) 0 (unfold record_fits in (both_true (eqb (type_kind s t) list_type) (parts_fit f s v (record_first v r) (record_count v r) (type_first s t) 0) (as_kind List_record e)).1)

    pair_parts : type_kind s t ≡ pair_type → (type_count s t ≡ record_count v r) × PartsHave f (record_first v r) (record_count v r) (type_first s t) 1
    unfolding record_fits
    pair_parts e =
        let a = both_true (eqb (type_kind s t) pair_type) (both (eqb (type_count s t) (record_count v r)) (parts_fit f s v (record_first v r) (record_count v r) (type_first s t) 1)) (as_kind Pair_record e) in
        let b = both_true (eqb (type_count s t) (record_count v r)) (parts_fit f s v (record_first v r) (record_count v r) (type_first s t) 1) a.1 in
        (eqb-true _ _ b.0, parts_have f (record_first v r) (record_count v r) (type_first s t) 1 b.1)

    tuple_parts : type_kind s t ≡ tuple_type → (type_count s t ≡ record_count v r) × PartsHave f (record_first v r) (record_count v r) (type_first s t) 1
    unfolding record_fits
    tuple_parts e =
        let a = both_true (eqb (type_kind s t) tuple_type) (both (eqb (type_count s t) (record_count v r)) (parts_fit f s v (record_first v r) (record_count v r) (type_first s t) 1)) (as_kind Tuple_record e) in
        let b = both_true (eqb (type_count s t) (record_count v r)) (parts_fit f s v (record_first v r) (record_count v r) (type_first s t) 1) a.1 in
        (eqb-true _ _ b.0, parts_have f (record_first v r) (record_count v r) (type_first s t) 1 b.1)

    field_parts : type_kind s t ≡ data_type
        → (takes_arguments s t (record_a v r) (record_count v r) ≡ true)
        × PartsHave f (record_first v r) (record_count v r) (constructor_first s (constructor_of s t (record_a v r))) 1
    unfolding record_fits
    field_parts e =
        let a =
        both_true (takes_arguments s t (record_a v r) (record_count v r)) (parts_fit f s v (record_first v r) (record_count v r) (constructor_first s (constructor_of s t (record_a v r))) 1)
        (as_kind Constructor_record e) in
        (a.0, parts_have f (record_first v r) (record_count v r) (constructor_first s (constructor_of s t (record_a v r))) 1 a.1)

  -- ---- constructor a of type t with n fields
  pub takes : (t a n : ℕ) → takes_arguments s t a n ≡ true → (type_kind s t ≡ data_type) × (a < type_count s t) × (constructor_count s (constructor_of s t a) ≡ n)
  unfolding takes_arguments
  takes t a n h =
      let x = both_true (eqb (type_kind s t) data_type) (both (leb (a + 1) (type_count s t)) (eqb (constructor_count s (constructor_of s t a)) n)) h in
      let y = both_true (leb (a + 1) (type_count s t)) (eqb (constructor_count s (constructor_of s t a)) n) x.1 in
      (eqb-true _ _ x.0, omega (arith, leb-true (a + 1) (type_count s t) y.0), eqb-true _ _ y.1)

  pub one_of_one : (t a b : ℕ) → one_constructor s t ≡ true → a < type_count s t → b < type_count s t → b ≡ a
  unfolding one_constructor
  one_of_one t a b h l k = omega (arith, eqb-true (type_count s t) 1 (both_true (eqb (type_kind s t) data_type) (eqb (type_count s t) 1) h).1)

  -- ---- patterns along a child list suit the parts along another, of the same types
  along_suits : (f : ℕ → ℕ → Pat) (g : ℕ → ℕ → Bool) → ((p t r : ℕ) → fits (f p t) s ≡ true → g r t ≡ true → Suits (f p t) v (record { place = r; dropped = 0 }))
      → (j n e step d : ℕ) → fit_all (along f s j n e step) s ≡ true → PartsHave g d n e step → SuitEach (along f s j n e step) v d
  unfolding along Suits fits
  along_suits f g each j zero e step d h parts = tt
  along_suits f g each j (suc n) e step d h parts =
      let (a, b) = both_true (fits (f (child s j) (entry s e)) s) (fit_all (along f s (j + 1) n (e + step) step) s) h in
      let x : d + 0 ≡ d = omega arith in
      let y : e + 0 * step ≡ e = omega arith in
      (each (child s j) (entry s e) (part v d) a (ap₂ (λ k l. g (part v k) (entry s l)) (sym x) (sym y) ∙ parts 0 (omega arith)), along_suits f g each (j + 1) n (e + step) step (d + 1) b (later parts))
    where
      later : PartsHave g d (suc n) e step → PartsHave g (d + 1) n (e + step) step
      later q i l =
          let x : d + 1 + i ≡ d + suc i = omega arith in
          let y : e + step + i * step ≡ e + suc i * step = omega arith in
          ap₂ (λ k l. g (part v k) (entry s l)) x y ∙ q (suc i) (omega arith)

  fewer_parts : (g : ℕ → ℕ → Bool) (j m n e step : ℕ) → n ≡ m → PartsHave g j m e step → PartsHave g j n e step
  fewer_parts g j m n e step q h i l = h i (omega arith)

  -- ---- a pattern by its kind, of which f makes the children
  module _ (f : ℕ → ℕ → Pat)
      (below : (k p t : ℕ) (x : Position) → fits (f p t) s ≡ true → has_type_to k s v x.place t ≡ true → x.dropped ≤ record_count v x.place → Suits (f p t) v x)
      (k p t : ℕ) (x : Position) (typed : record_fits (has_type_to k s v) s v x.place t (record_kind_of (record_kind v x.place)) ≡ true) (inside : x.dropped ≤ record_count v x.place)
    where
      abbrev g : ℕ → ℕ → Bool
      g = has_type_to k s v

      abbrev r : ℕ
      r = x.place

      each_suits : (q u z : ℕ) → fits (f q u) s ≡ true → g z u ≡ true → Suits (f q u) v (record { place = z; dropped = 0 })
      each_suits q u z a b = below k q u (record { place = z; dropped = 0 }) a b (omega arith)

      kind_is : (n : ℕ) → type_kind s t ≡ n → record_kind v r ≡ n
      kind_is n e = kind_of_type g r t typed ∙ e

      -- the elements of a list from the dropped ones on, n of them
      elements_suit : (n : ℕ) → type_kind s t ≡ list_type → fit_all (along f s (pattern_first s p) n (type_first s t) 0) s ≡ true → n ≤ elements v x
          → SuitEach (along f s (pattern_first s p) n (type_first s t) 0) v (elements_at v x)
      unfolding elements elements_at
      elements_suit n e h l = along_suits f g each_suits (pattern_first s p) n (type_first s t) 0 (record_first v r + x.dropped) h from_dropped
        where
          from_dropped : PartsHave g (record_first v r + x.dropped) n (type_first s t) 0
          from_dropped i b =
              let y : record_first v r + x.dropped + i ≡ record_first v r + (x.dropped + i) = omega arith in
              let z : type_first s t + i * 0 ≡ type_first s t + (x.dropped + i) * 0 = omega arith in
              ap₂ (λ c d. g (part v c) (entry s d)) y z ∙ list_parts g r t typed e (x.dropped + i) (omega arith)

      list_suits : fits (of_kind f s p t ListOfAll) s ≡ true → Suits (of_kind f s p t ListOfAll) v x
      unfolding of_kind fits Suits
      list_suits h =
          let (a, b) = both_true (eqb (type_kind s t) list_type) (fit_all (along f s (pattern_first s p) (pattern_count s p) (type_first s t) 0) s) h in
          let e = eqb-true (type_kind s t) list_type a in
          (kind_is list_type e, λ q. elements_suit (pattern_count s p) e b (omega (arith, q, many_along f s (pattern_first s p) (pattern_count s p) (type_first s t) 0)))

      tail_suits : has_type_to (suc k) s v r t ≡ true → fits (of_kind f s p t ListWithRest) s ≡ true → Suits (of_kind f s p t ListWithRest) v x
      unfolding of_kind fits Suits
      tail_suits whole h =
          let (a, b) = both_true (eqb (type_kind s t) list_type) (both (fit_all (along f s (pattern_first s p) (pattern_count s p - 1) (type_first s t) 0) s) (fits (f last t) s)) h in
          let (c, d) = both_true (fit_all (along f s (pattern_first s p) (pattern_count s p - 1) (type_first s t) 0) s) (fits (f last t) s) b in
          let e = eqb-true (type_kind s t) list_type a in (
            kind_is list_type e,
            inside,
            λ q. (
              elements_suit (pattern_count s p - 1) e c (omega (arith, q, many_along f s (pattern_first s p) (pattern_count s p - 1) (type_first s t) 0)),
              below (suc k) last t (after (many (along f s (pattern_first s p) (pattern_count s p - 1) (type_first s t) 0)) x) d whole
                  (still (many (along f s (pattern_first s p) (pattern_count s p - 1) (type_first s t) 0)) q),
            ),
          )
        where
          last : ℕ
          last = child s (pattern_first s p + (pattern_count s p - 1))

          still : (n : ℕ) → n ≤ elements v x → (after n x).dropped ≤ record_count v (after n x).place
          still n q = unfold elements after in (omega (arith, q))

      -- the fields of the pattern's constructor, as many as the part has, if it is the part's own
      abbrev field_patterns : Pats
      field_patterns = along f s (pattern_first s p) (pattern_count s p) (constructor_first s (constructor_of s t (pattern_a s p))) 1

      fields_suit : takes_arguments s t (pattern_a s p) (many field_patterns) ≡ true → fit_all field_patterns s ≡ true → record_a v r ≡ pattern_a s p
          → (record_count v r ≡ many field_patterns) × SuitEach field_patterns v (record_first v r)
      fields_suit h b e =
          let (d, l, c) = takes t (pattern_a s p) (many field_patterns) h in
          let (w, q) = field_parts g r t typed d in
          let (d', l', c') = takes t (record_a v r) (record_count v r) w in
          let i : record_count v r ≡ many field_patterns = sym c' ∙ ap (λ z. constructor_count s (constructor_of s t z)) e ∙ c in (
            i,
            along_suits f g each_suits (pattern_first s p) (pattern_count s p) (constructor_first s (constructor_of s t (pattern_a s p))) 1 (record_first v r) b
                (fewer_parts g (record_first v r) (record_count v r) (pattern_count s p) (constructor_first s (constructor_of s t (pattern_a s p))) 1
                (sym (i ∙ many_along f s (pattern_first s p) (pattern_count s p) (constructor_first s (constructor_of s t (pattern_a s p))) 1))
                (rw e at q)),
          )

      constructor_suits : fits (of_kind f s p t Constructor) s ≡ true → Suits (of_kind f s p t Constructor) v x
      unfolding of_kind fits Suits open_kind has_number
      constructor_suits h = go (one_constructor s t) refl h
        where
          the_one : one_constructor s t ≡ true → takes_arguments s t (pattern_a s p) (many field_patterns) ≡ true → record_a v r ≡ pattern_a s p
          the_one e w =
              let (d, l, c) = takes t (pattern_a s p) (many field_patterns) w in
              let (d', l', c') = takes t (record_a v r) (record_count v r) (field_parts g r t typed d).0 in
              one_of_one t (pattern_a s p) (record_a v r) e l l'

          go : (b : Bool) → one_constructor s t ≡ b → fits (of_constructor (record { number = p; type = t }) (pattern_a s p) (decorated s t) field_patterns b) s ≡ true
              → Suits (of_constructor (record { number = p; type = t }) (pattern_a s p) (decorated s t) field_patterns b) v x
          go true e w =
              let (a, b) = both_true (takes_arguments s t (pattern_a s p) (many field_patterns)) (fit_all field_patterns s) w in
              let (c, d) = fields_suit a b (the_one e a) in
              (kind_is data_type (takes t (pattern_a s p) (many field_patterns) a).0, eq-eqb _ _ (the_one e a), c, d)
          go false e w =
              let (a, b) = both_true (takes_arguments s t (pattern_a s p) (many field_patterns)) (fit_all field_patterns s) w in
              (kind_is data_type (takes t (pattern_a s p) (many field_patterns) a).0, fields_suit a b)

      -- the parts of a pair or a tuple
      abbrev part_patterns : Pats
      part_patterns = along f s (pattern_first s p) (pattern_count s p) (type_first s t) 1

      parts_suit : type_count s t ≡ many part_patterns → fit_all part_patterns s ≡ true → (type_count s t ≡ record_count v r) × PartsHave g (record_first v r) (record_count v r) (type_first s t) 1
          → (record_count v r ≡ many part_patterns) × SuitEach part_patterns v (record_first v r)
      parts_suit c b (d, q) = (
        sym d ∙ c,
        along_suits f g each_suits (pattern_first s p) (pattern_count s p) (type_first s t) 1 (record_first v r) b
            (fewer_parts g (record_first v r) (record_count v r) (pattern_count s p) (type_first s t) 1 (sym (many_along f s (pattern_first s p) (pattern_count s p) (type_first s t) 1) ∙ sym c ∙ d) q),
      )

      pair_suits : fits (of_kind f s p t Pair) s ≡ true → Suits (of_kind f s p t Pair) v x
      unfolding of_kind fits Suits open_kind has_number opens_into
      pair_suits h =
          let (a, b) = both_true (both (eqb (type_kind s t) pair_type) (eqb (type_count s t) (many part_patterns))) (fit_all part_patterns s) h in
          let (c, d) = both_true (eqb (type_kind s t) pair_type) (eqb (type_count s t) (many part_patterns)) a in
          let e = eqb-true (type_kind s t) pair_type c in
          let (m, n) = parts_suit (eqb-true _ _ d) b (pair_parts g r t typed e) in
          (kind_is pair_type e, refl, m, n)

      tuple_suits : fits (of_kind f s p t Tuple) s ≡ true → Suits (of_kind f s p t Tuple) v x
      unfolding of_kind fits Suits open_kind has_number opens_into
      tuple_suits h =
          let (a, b) = both_true (both (eqb (type_kind s t) tuple_type) (eqb (type_count s t) (many part_patterns))) (fit_all part_patterns s) h in
          let (c, d) = both_true (eqb (type_kind s t) tuple_type) (eqb (type_count s t) (many part_patterns)) a in
          let e = eqb-true (type_kind s t) tuple_type c in
          let (m, n) = parts_suit (eqb-true _ _ d) b (tuple_parts g r t typed e) in
          (kind_is tuple_type e, refl, m, n)

      kind_suits : has_type_to (suc k) s v r t ≡ true → (kind : PatternKind) → fits (of_kind f s p t kind) s ≡ true → Suits (of_kind f s p t kind) v x
      unfolding of_kind fits Suits
      kind_suits whole Discard h = tt
      kind_suits whole Variable h = tt
      kind_suits whole Assign h = below (suc k) (child s (pattern_first s p)) t x h whole inside
      kind_suits whole Integer h = kind_is int_type (eqb-true (type_kind s t) int_type h)
      kind_suits whole ByteString h = kind_is bytes_type (eqb-true (type_kind s t) bytes_type h)
      kind_suits whole ListOfAll h = list_suits h
      kind_suits whole ListWithRest h = tail_suits whole h
      kind_suits whole Constructor h = constructor_suits h
      kind_suits whole Pair h = pair_suits h
      kind_suits whole Tuple h = tuple_suits h
      kind_suits whole Unknown h = tt

  -- ---- LEMMA: a pattern that fits its type suits a part of the type, as far as each is read
  pub suits_to : (deep k p t : ℕ) (x : Position) → fits (pattern_to deep s p t) s ≡ true → has_type_to k s v x.place t ≡ true → x.dropped ≤ record_count v x.place
      → Suits (pattern_to deep s p t) v x
  unfolding pattern_to has_type_to Suits
  suits_to zero k p t x h typed inside = tt
  suits_to (suc deep) zero p t x h typed inside = absurd (false≢true typed)
  suits_to (suc deep) (suc k) p t x h typed inside = kind_suits (pattern_to deep s) (suits_to deep) k p t x typed inside typed (pattern_kind_of (pattern_kind s p)) h

  -- a clause's pattern that fits the subject's type suits a panel that fits it
  pub clause_suits : (c : ℕ) → fits (clause_pattern s c) s ≡ true → panel_fits s v ≡ true → Suits (clause_pattern s c) v panel_root
  unfolding clause_pattern pattern panel_fits
  clause_suits c h typed = suits_to patterns_most records_most (root s c) (subject s) panel_root h typed (omega arith)

  pub clauses_suit : (c n : ℕ) → ((i : ℕ) → c ≤ i → i < c + n → fits (clause_pattern s i) s ≡ true) → panel_fits s v ≡ true → All (λ q. Suits q v panel_root) (clause_patterns s c n)
  unfolding clause_patterns
  clauses_suit c zero h typed = tt
  clauses_suit c (suc n) h typed = (clause_suits c (h c (omega arith) (omega arith)) typed, clauses_suit (c + 1) n (λ i a b. h i (omega arith) (omega arith)) typed)

  pub sheet_suits : Accepted s → panel_fits s v ≡ true → All (λ q. Suits q v panel_root) (sheet_patterns s)
  unfolding sheet_patterns
  sheet_suits a typed = clauses_suit 0 (clauses s) (λ i l h. a.clause_fits i (omega arith)) typed

  -- THEOREM: for an accepted sheet and a panel that fits its subject, the walk of the plain tree answers the first match
  pub sheet_first_match : verdict s ≡ accepted → panel_fits s v ≡ true → SameAnswer (walk (plain_tree (sheet_patterns s)) v) (first_match 0 (sheet_patterns s) v)
  sheet_first_match h typed = first_match_lem v (sheet_patterns s) (sheet_suits (accepted_sheet s h) typed)
