-- The patterns of an accepted sheet: each stands somewhere, an integer's and a byte string's text is a part of the pool, each name is a
-- pattern's, and what is tested at a path is of its type's kind. So a clause has no more names than the sheet has patterns.
use Prim.Native.Nat.{ℕ, zero, suc, ◌+◌, ◌-◌, ◌*◌, ◌≤◌, ◌<◌}
use native.Mathlib.Omega.{arith}
use Rattle.std.specs.Prelude.{◌≡◌, Bool, eqb}
use Rattle.std.proofs.Math.Path.{refl, ap}
use Rattle.std.proofs.Common.{◌∙◌, eqb-true, eq-eqb, ne_eqb}
use Rattle.std.proofs.Math.Bool.{true, false}
use mathlib.Core.List.{List, []}
use Rattle.base_words.specs.Words.{both}
use Rattle.base_words.specs.WordsLaws.{both_true}
use Rattle.spec_rules.specs.Limits.{patterns_most, children_most}
use Rattle.spec_rules.specs.Kinds.{int_type, bytes_type, list_type, integer_pattern, byte_string_pattern}
use Rattle.spec_rules.specs.SheetFile.{subject, clauses, patterns, type_kind, type_first, constructor_first, entry, pattern_kind, pattern_a, pattern_first, pattern_count, child, root, pool_text, pool}
use Rattle.spec_rules.specs.Patterns.{PatternKind, Discard, Variable, Assign, Integer, ByteString, ListOfAll, ListWithRest, Constructor, Pair, Tuple, Unknown, pairs, tuples, Pat, Pats, many, one_constructor, decorated, constructor_of, along, of_constructor, of_kind, pattern_to, pattern, clause_pattern, clause_patterns, takes_arguments, opens_into, fits, fit_all}
use Rattle.spec_rules.specs.Rows.{Step, pair, tuple, constr, list, listtail, Path, into, opening}
use Rattle.spec_rules.specs.SheetRefusals.{has_children}
use Rattle.spec_rules.specs.Calls.{sheet_patterns}
use Rattle.spec_rules.specs.SplittingLaws.{All}
use Rattle.spec_accepted.specs.KindsLaws.{pattern_byte}
use Rattle.spec_accepted.specs.SheetFacts.{Parent, owned_pattern, Accepted}
use Rattle.spec_accepted.specs.PatternsLaws.{many_along}
use Rattle.spec_file.specs.Writable.{InPool}
use Rattle.spec_match.specs.Typing.{takes}
use Rattle.spec_theorems.specs.Stands.{part_path, part_type, kind_at, Stands, Used}
use Rattle.spec_theorems.specs.EachPattern.{Everywhere, EverywhereIn}
use Rattle.spec_theorems.specs.SheetPatterns.{text_in_pool, FieldA, Facts}

module _ (s : List ℕ) where
  module _ (a : Accepted s) (f : ℕ → ℕ → Pat)
      (below : (n k : ℕ) (x : Path) (t : ℕ) → k < patterns s → Stands s n k x t → fits (f k t) s ≡ true → Everywhere (Facts s) x (f k t))
      (n k : ℕ) (x : Path) (t : ℕ) (known : k < patterns s) (stands : Stands s n k x t)
    where
      used : Used s x
      used = record { level = n; number = k; type = t; known = known; stands = stands }

      name : FieldA s (pattern_a s k)
      name = record { number = k; known = known; is = refl }

      count_most : Parent s k → pattern_count s k ≤ children_most
      count_most has = omega (arith, a.is_shaped.children_run k known has, a.is_counted.children_most_holds)

      part_known : Parent s k → (i : ℕ) → i < pattern_count s k → child s (pattern_first s k + i) < patterns s
      part_known has i l = owned_pattern a.is_shaped k (pattern_first s k + i) known (record { parent = has; from = omega arith; to = omega arith })

      -- part i, where the kind is known
      part_stands : (kind : PatternKind) → kind_at s k ≡ kind → has_children kind ≡ true → (i : ℕ) → i < pattern_count s k
          → Stands s (suc n) (child s (pattern_first s k + i)) (part_path s k t x i kind) (part_type s k t i kind)
      unfolding Stands
      part_stands kind e has i l =
          let d : pattern_first s k + i - pattern_first s k ≡ i = omega arith in
          record {
            owner = k;
            its_path = x;
            its_type = t;
            above = stands;
            known = known;
            item = pattern_first s k + i;
            owns = record { parent = ap has_children e ∙ has; from = omega arith; to = omega arith };
            is = refl;
            path_is = rw (d, e);
            type_is = rw (d, e);
          }

      -- m parts along the child list from j on, each of which stands as its own type entry says
      abbrev Part : (ℕ → Step) → ℕ → ℕ → ℕ → ℕ → ℕ → Type 0
      Part step i j e stride l =
          (child s (j + l) < patterns s) × Stands s (suc n) (child s (j + l)) (into x (step (i + l))) (entry s (e + l * stride))

      along_everywhere : (step : ℕ → Step) (i j m e stride : ℕ) → ((l : ℕ) → l < m → Part step i j e stride l) → fit_all (along f s j m e stride) s ≡ true
          → EverywhereIn (Facts s) x step i (along f s j m e stride)
      unfolding along fits Everywhere
      along_everywhere step i j zero e stride parts h = tt
      along_everywhere step i j (suc m) e stride parts h =
          let (fit, rest) = both_true (fits (f (child s j) (entry s e)) s) (fit_all (along f s (j + 1) m (e + stride) stride) s) h in
          let (there, first) = parts 0 (omega arith) in (
            below (suc n) (child s j) (into x (step i)) (entry s e) (rw (none j) at there) (rw (none j, none i, start) at first) fit,
            along_everywhere step (i + 1) (j + 1) m (e + stride) stride
                (λ l b. let (c, d) = parts (suc l) (omega arith) in (rw (next j l) c, rw (next j l, next i l, further l) d)) rest,
          )
        where
          none : (j : ℕ) → j + 0 ≡ j
          none j = omega arith

          start : e + 0 * stride ≡ e
          start = omega arith

          next : (i l : ℕ) → i + 1 + l ≡ i + suc l
          next i l = omega arith

          further : (l : ℕ) → e + stride + l * stride ≡ e + suc l * stride
          further l = omega arith

      -- ---- by kind
      list_everywhere : (kind : PatternKind) → kind_at s k ≡ kind → has_children kind ≡ true → (m : ℕ) → m ≤ pattern_count s k
          → ((i : ℕ) → i < m → part_path s k t x i kind ≡ into x (list i t)) → ((i : ℕ) → i < m → part_type s k t i kind ≡ entry s (type_first s t))
          → fit_all (along f s (pattern_first s k) m (type_first s t) 0) s ≡ true
          → EverywhereIn (Facts s) x (λ i. list i t) 0 (along f s (pattern_first s k) m (type_first s t) 0)
      list_everywhere kind e has m most path type h =
          along_everywhere (λ i. list i t) 0 (pattern_first s k) m (type_first s t) 0
          (λ l b. (part_known (ap has_children e ∙ has) l (omega arith), rw (from_none l, no_stride l, ← path l b, ← type l b) (part_stands kind e has l (omega arith)))) h
        where
          from_none : (l : ℕ) → 0 + l ≡ l
          from_none l = omega arith

          no_stride : (l : ℕ) → type_first s t + l * 0 ≡ type_first s t
          no_stride l = omega arith

      parts_everywhere : (kind : PatternKind) → kind_at s k ≡ kind → has_children kind ≡ true → (step : ℕ → Step) (e : ℕ)
          → ((i : ℕ) → part_path s k t x i kind ≡ into x (step i)) → ((i : ℕ) → part_type s k t i kind ≡ entry s (e + i))
          → fit_all (along f s (pattern_first s k) (pattern_count s k) e 1) s ≡ true
          → EverywhereIn (Facts s) x step 0 (along f s (pattern_first s k) (pattern_count s k) e 1)
      parts_everywhere kind d has step e path type h =
          along_everywhere step 0 (pattern_first s k) (pattern_count s k) e 1
          (λ l b. (part_known (ap has_children d ∙ has) l b, rw (from_none l, one_stride l, ← path l, ← type l) (part_stands kind d has l b))) h
        where
          from_none : (l : ℕ) → 0 + l ≡ l
          from_none l = omega arith

          one_stride : (l : ℕ) → e + l * 1 ≡ e + l
          one_stride l = omega arith

      assign_everywhere : kind_at s k ≡ Assign → fits (of_kind f s k t Assign) s ≡ true → Everywhere (Facts s) x (of_kind f s k t Assign)
      unfolding of_kind fits Everywhere part_path part_type has_children
      assign_everywhere e h =
          let one = a.is_shaped.assign_one k known (pattern_byte _ Assign e (omega arith)) in
          let z : pattern_first s k + 0 ≡ pattern_first s k = omega arith in (
            (used, name),
            below (suc n) (child s (pattern_first s k)) x t (rw z at (part_known (ap has_children e) 0 (omega arith))) (rw z at (part_stands Assign e refl 0 (omega arith))) h,
          )

      text_everywhere : (kind : PatternKind) → kind_at s k ≡ kind → integer_pattern ≤ pattern_kind s k → pattern_kind s k ≤ byte_string_pattern
          → InPool (pool s) (pattern_first s k) (pool_text s (pattern_first s k) (pattern_count s k))
      text_everywhere kind e low high = text_in_pool s a.is_laid (pattern_first s k) (pattern_count s k) (a.is_shaped.text_run k known low high)

      integer_everywhere : kind_at s k ≡ Integer → fits (of_kind f s k t Integer) s ≡ true → Everywhere (Facts s) x (of_kind f s k t Integer)
      unfolding of_kind fits Everywhere
      integer_everywhere e h =
          let byte = pattern_byte _ Integer e (omega arith) in
          (used, (eqb-true (type_kind s t) int_type h, text_everywhere Integer e (omega arith) (omega arith)))

      bytestring_everywhere : kind_at s k ≡ ByteString → fits (of_kind f s k t ByteString) s ≡ true → Everywhere (Facts s) x (of_kind f s k t ByteString)
      unfolding of_kind fits Everywhere
      bytestring_everywhere e h =
          let byte = pattern_byte _ ByteString e (omega arith) in
          (used, (eqb-true (type_kind s t) bytes_type h, text_everywhere ByteString e (omega arith) (omega arith)))

      listed_everywhere : kind_at s k ≡ ListOfAll → fits (of_kind f s k t ListOfAll) s ≡ true → Everywhere (Facts s) x (of_kind f s k t ListOfAll)
      unfolding of_kind fits Everywhere part_path part_type has_children
      listed_everywhere e h =
          let (kind, all) = both_true (eqb (type_kind s t) list_type) (fit_all (along f s (pattern_first s k) (pattern_count s k) (type_first s t) 0) s) h in (
            (used, (eqb-true (type_kind s t) list_type kind, omega (arith, many_along f s (pattern_first s k) (pattern_count s k) (type_first s t) 0, count_most (ap has_children e)))),
            list_everywhere ListOfAll e refl (pattern_count s k) (omega arith) (λ i l. refl) (λ i l. refl) all,
          )

      -- the tail is part `pattern_count s k - 1`, the last
      tailed_everywhere : kind_at s k ≡ ListWithRest → fits (of_kind f s k t ListWithRest) s ≡ true → Everywhere (Facts s) x (of_kind f s k t ListWithRest)
      unfolding of_kind fits Everywhere part_path part_type has_children
      tailed_everywhere e h =
          let two = a.is_shaped.tail_after_some k known (pattern_byte _ ListWithRest e (omega arith)) in
          let (kind, rest) = both_true (eqb (type_kind s t) list_type) (both (fit_all elements s) (fits tail s)) h in
          let (all, end) = both_true (fit_all elements s) (fits tail s) rest in
          let many_is : many elements ≡ last = many_along f s (pattern_first s k) last (type_first s t) 0 in (
            (used, (eqb-true (type_kind s t) list_type kind, omega (arith, count_most (ap has_children e)))),
            list_everywhere ListWithRest e refl last (omega arith) (λ i l. rw (not_last i l)) (λ i l. rw (not_last i l)) all,
            rw many_is
                (below (suc n) (child s (pattern_first s k + last)) (into x (listtail last t)) t (part_known (ap has_children e) last (omega arith))
                (rw (is_last two) at (part_stands ListWithRest e refl last (omega arith))) end),
          )
        where
          last : ℕ
          last = pattern_count s k - 1

          elements : Pats
          elements = along f s (pattern_first s k) last (type_first s t) 0

          tail : Pat
          tail = f (child s (pattern_first s k + last)) t

          not_last : (i : ℕ) → i < last → eqb (i + 1) (pattern_count s k) ≡ false
          not_last i l = ne_eqb (i + 1) (pattern_count s k) (λ q. omega arith)

          is_last : 2 ≤ pattern_count s k → eqb (last + 1) (pattern_count s k) ≡ true
          is_last two = eq-eqb (last + 1) (pattern_count s k) (omega arith)

      -- the fields of the pattern's constructor
      abbrev field_patterns : Pats
      field_patterns = along f s (pattern_first s k) (pattern_count s k) (constructor_first s (constructor_of s t (pattern_a s k))) 1

      fields_everywhere : kind_at s k ≡ Constructor → (b : Bool) → both (one_constructor s t) (decorated s t) ≡ b → fit_all field_patterns s ≡ true
          → EverywhereIn (Facts s) x (λ i. constr i b t) 0 field_patterns
      unfolding part_path part_type has_children
      fields_everywhere e b same all =
          parts_everywhere Constructor e refl (λ i. constr i b t) (constructor_first s (constructor_of s t (pattern_a s k))) (λ i. rw same) (λ i. refl) all

      constructor_everywhere : kind_at s k ≡ Constructor → fits (of_kind f s k t Constructor) s ≡ true → Everywhere (Facts s) x (of_kind f s k t Constructor)
      unfolding of_kind fits Everywhere opening opens_into
      constructor_everywhere e h = go (one_constructor s t) refl h
        where
          go : (b : Bool) → one_constructor s t ≡ b → fits (of_constructor (record { number = k; type = t }) (pattern_a s k) (decorated s t) field_patterns b) s ≡ true
              → Everywhere (Facts s) x (of_constructor (record { number = k; type = t }) (pattern_a s k) (decorated s t) field_patterns b)
          go true one w =
              let (arguments, all) = both_true (takes_arguments s t (pattern_a s k) (many field_patterns)) (fit_all field_patterns s) w in
              ((used, tt), fields_everywhere e (decorated s t) (rw one) all)
          go false one w =
              let (arguments, all) = both_true (takes_arguments s t (pattern_a s k) (many field_patterns)) (fit_all field_patterns s) w in
              ((used, ((takes s [] t (pattern_a s k) (many field_patterns) arguments).0, name)), fields_everywhere e false (rw one) all)

      abbrev part_patterns : Pats
      part_patterns = along f s (pattern_first s k) (pattern_count s k) (type_first s t) 1

      pair_everywhere : kind_at s k ≡ Pair → fits (of_kind f s k t Pair) s ≡ true → Everywhere (Facts s) x (of_kind f s k t Pair)
      unfolding of_kind fits Everywhere opening part_path part_type has_children
      pair_everywhere e h =
          let (into_two, all) = both_true (opens_into s t pairs (many part_patterns)) (fit_all part_patterns s) h in
          ((used, tt), parts_everywhere Pair e refl (λ i. pair i t) (type_first s t) (λ i. refl) (λ i. refl) all)

      tuple_everywhere : kind_at s k ≡ Tuple → fits (of_kind f s k t Tuple) s ≡ true → Everywhere (Facts s) x (of_kind f s k t Tuple)
      unfolding of_kind fits Everywhere opening part_path part_type has_children
      tuple_everywhere e h =
          let (into_many, all) = both_true (opens_into s t tuples (many part_patterns)) (fit_all part_patterns s) h in
          ((used, tt), parts_everywhere Tuple e refl (λ i. tuple i t) (type_first s t) (λ i. refl) (λ i. refl) all)

      kind_everywhere : (kind : PatternKind) → kind_at s k ≡ kind → fits (of_kind f s k t kind) s ≡ true → Everywhere (Facts s) x (of_kind f s k t kind)
      unfolding of_kind Everywhere
      kind_everywhere Discard e h = (used, tt)
      kind_everywhere Variable e h = (used, name)
      kind_everywhere Assign e h = assign_everywhere e h
      kind_everywhere Integer e h = integer_everywhere e h
      kind_everywhere ByteString e h = bytestring_everywhere e h
      kind_everywhere ListOfAll e h = listed_everywhere e h
      kind_everywhere ListWithRest e h = tailed_everywhere e h
      kind_everywhere Constructor e h = constructor_everywhere e h
      kind_everywhere Pair e h = pair_everywhere e h
      kind_everywhere Tuple e h = tuple_everywhere e h
      kind_everywhere Unknown e h = (used, tt)

  -- LEMMA: a pattern that fits, and every pattern inside it
  pub pattern_everywhere : Accepted s → (deep n k : ℕ) (x : Path) (t : ℕ) → k < patterns s → Stands s n k x t → fits (pattern_to deep s k t) s ≡ true
      → Everywhere (Facts s) x (pattern_to deep s k t)
  unfolding pattern_to Everywhere
  pattern_everywhere a zero n k x t known stands h = (record { level = n; number = k; type = t; known = known; stands = stands }, tt)
  pattern_everywhere a (suc deep) n k x t known stands h =
      kind_everywhere a (pattern_to deep s) (pattern_everywhere a deep) n k x t known stands (kind_at s k) refl h

  module _ (a : Accepted s) where
    pub clause_everywhere : (c : ℕ) → c < clauses s → Everywhere (Facts s) [] (clause_pattern s c)
    unfolding clause_pattern pattern Stands
    clause_everywhere c l =
        pattern_everywhere a patterns_most 0 (root s c) [] (subject s) (a.is_shaped.root_pattern c l)
        (record { clause = c; known = l; is = refl; path_is = refl; type_is = refl }) (a.clause_fits c l)

    clauses_everywhere : (c n : ℕ) → c + n ≤ clauses s → All (Everywhere (Facts s) []) (clause_patterns s c n)
    unfolding clause_patterns
    clauses_everywhere c zero l = tt
    clauses_everywhere c (suc n) l = (clause_everywhere c (omega arith), clauses_everywhere (c + 1) n (omega arith))

    pub sheet_everywhere : All (Everywhere (Facts s) []) (sheet_patterns s)
    unfolding sheet_patterns
    sheet_everywhere = clauses_everywhere 0 (clauses s) (omega arith)
