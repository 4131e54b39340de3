-- The matrices that the tree of an accepted sheet is built from, as a value meets them. Their patterns fit their types and have the texts
-- that a panel may have (`Kept`); a column's path has no tail in it, and what a case opens stands within what the case has (`NewIn`).
-- `Good` goes over from a matrix to its cases and to its default.
use Rattle.std.specs.Prelude.{ℕ, ◌+◌, ◌≤◌, ◌<◌, ◌≡◌, Bool, eqb}
use Rattle.std.proofs.Common.{le_refl, ap, ◌∙◌, eqb-true, leb-true}
use native.Mathlib.Omega.{arith}
use Rattle.std.proofs.Math.Path.{refl, sym}
use Rattle.std.proofs.Math.Bool.{true, false}
use Rattle.std.proofs.lemmas.Bool.{false≢true}
use mathlib.Core.List.{List, [], ◌∷◌, ◌++◌, append-nil, append_assoc}
use Rattle.std.proofs.Math.Option.{Option, none, some}
use Rattle.base_words.specs.Words.{both, pick}
use Rattle.base_words.specs.WordsLaws.{both_true}
use Rattle.spec_rules.specs.SheetFile.{type_kind, type_count, constructor_count}
use Rattle.spec_rules.specs.Patterns.{Opens, pairs, tuples, fields, Mark, Pat, Pats, discard, variable, assign, integer, bytestring, listed, tailed, constructor, opened, pnil, pcons, many, decorated, constructor_of, takes_arguments, opens_into, fits, fit_all}
use Rattle.spec_rules.specs.Texts.{canonical}
use Rattle.spec_rules.specs.Rows.{Step, pair, tuple, constr, list, listtail, Path, into, opening, same_path, Cell, Row, columns_of, columns_of_each, opened_columns, clause_row, clause_rows}
use Rattle.spec_rules.specs.Columns.{union, all_tests, columns, without, test_at}
use Rattle.spec_rules.specs.Splitting.{Test, Constr, Int, Bytes, ListOf, ListWithTail, without_test, open_row, covers, case_rows, case_opens, default_rows}
use Rattle.spec_rules.specs.SplittingLaws.{All, same_test_sound}
use Rattle.spec_match.specs.Lists.{all_append, all_map, all_both}
use Rattle.spec_match.specs.Tests.{take_test, taken_has, others_have, default_all, case_all}
use Rattle.spec_match.specs.Depth.{case_columns}
use Rattle.spec_match.specs.Apart.{Neat, is_column}
use Rattle.spec_match.specs.Order.{TidyPaths, SameOrApart, union_all}
use Rattle.spec_match.specs.Typing.{takes, one_of_one}
use Rattle.spec_match.specs.ColumnTypes.{is_open, is_plain, open_step, open_part, open_step_index, Legal, legal_beside, type_after, case_step, case_part, element_type, field_type, Resolved, ResolvedEach, new_beside, TypedBy, Sound, column_typed, retyped, sound_case, sound_default, sound_root, case_types, default_types, root_types}
use Rattle.spec_forgotten.specs.Values.{are_bytes}
use Rattle.spec_forgotten.specs.PuttingLaws.{NoTails}
use Rattle.spec_forgotten.specs.OpenedParts.{open_count, plain_count, data_one, one_count, Bounded, legal_plain, case_count, case_plain}

-- ---- a pattern's texts: an integer's is canonical, a byte string's is of bytes
unfoldable mutual
  unfolding canonical are_bytes

  pub texts_fit : Pat → Bool
  texts_fit (discard m) = true
  texts_fit (variable m x) = true
  texts_fit (assign m x q) = texts_fit q
  texts_fit (integer m at w) = canonical w
  texts_fit (bytestring m at w) = are_bytes w
  texts_fit (listed m qs) = texts_fit_all qs
  texts_fit (tailed m qs q) = both (texts_fit_all qs) (texts_fit q)
  texts_fit (constructor m a qs) = texts_fit_all qs
  texts_fit (opened m o qs) = texts_fit_all qs

  pub texts_fit_all : Pats → Bool
  texts_fit_all pnil = true
  texts_fit_all (pcons q qs) = both (texts_fit q) (texts_fit_all qs)

-- ---- lists
pub all_without : (P : Path → Type 0) (p : Path) (zs : List Path) → All P zs → All P (without p zs)
unfolding without
all_without P p [] a = tt
all_without P p (z ∷ zs) a = at (same_path p z) refl (all_without P p zs a.1)
  where
    at : (b : Bool) → same_path p z ≡ b → All P (without p zs) → All P (without p (z ∷ zs))
    at true x ih = rw (x, without) a.1
    at false x ih = rw (x, without) (a.0, ih)

no_tails_append : (x y : Path) → NoTails x → NoTails y → NoTails (x ++ y)
no_tails_append [] y a b = b
no_tails_append (u ∷ x) y a b = (a.0, no_tails_append x y a.1 b)

module _ (s : List ℕ) where
  abbrev pub Kept : Pat → Type 0
  Kept q = (fits q s ≡ true) × (texts_fit q ≡ true)

  abbrev KeptAll : Pats → Type 0
  KeptAll qs = (fit_all qs s ≡ true) × (texts_fit_all qs ≡ true)

  kept_both : (q : Pat) (qs : Pats) → KeptAll (pcons q qs) → Kept q × KeptAll qs
  unfolding fits texts_fit
  kept_both q qs (f, t) =
      let (a, b) = both_true (fits q s) (fit_all qs s) f in
      let (c, d) = both_true (texts_fit q) (texts_fit_all qs) t in
      ((a, c), (b, d))

  -- ---- the columns of a pattern of type t at p: within what the type opens to
  abbrev Within : Path → ℕ → Cell → Type 0
  Within p t c = (x : Path) × (c.path ≡ p ++ x) × Legal s t x × Bounded s t x × Kept c.pattern

  -- below one of the n parts that `step` leads to
  abbrev pub WithinParts : Path → (ℕ → Step) → (ℕ → ℕ) → ℕ → Cell → Type 0
  WithinParts p step types n c = (i : ℕ) × (x : Path) × (c.path ≡ p ++ step i ∷ x) × (i < n) × Legal s (types i) x × Bounded s (types i) x × Kept c.pattern

  within_part : (p : Path) (step : ℕ → Step) (types : ℕ → ℕ) (n i : ℕ) → i < n → (c : Cell) → Within (into p (step i)) (types i) c → WithinParts p step types n c
  unfolding into
  within_part p step types n i k c (x, e, l, b, h) = (i, x, e ∙ append_assoc p (step i ∷ []) x, k, l, b, h)

  within_open : (p : Path) (step : ℕ → Step) (t n : ℕ) → is_open s t ≡ true → ((i : ℕ) → step i ≡ open_step s t i) → n ≤ open_count s t
      → (c : Cell) → WithinParts p step (open_part s t) n c → Within p t c
  within_open p step t n o same most c (i, x, e, k, l, b, h) =
      let j = open_step_index s t i in
      (open_step s t i ∷ x, e ∙ ap (λ u. p ++ u ∷ x) (same i), (o, ap (open_step s t) (sym j), rw j l), (rw j (omega (arith, k, most)), rw j b), h)

  -- a pattern that opens is of the type whose steps it opens by
  step_type : Step → ℕ
  step_type (pair i t) = t
  step_type (tuple i t) = t
  step_type (constr i b t) = t
  step_type (list i t) = t
  step_type (listtail i t) = t

  opening_type : (o : Opens) (t : ℕ) → step_type (opening o t 0) ≡ t
  unfolding step_type opening
  opening_type pairs t = refl
  opening_type tuples t = refl
  opening_type (fields a b) t = refl

  open_step_type : (t : ℕ) → step_type (open_step s t 0) ≡ t
  unfolding step_type open_step
  open_step_type t = go (eqb (type_kind s t) 3) (eqb (type_kind s t) 4)
    where
      go : (a b : Bool) → step_type (pick a (pair 0 t) (pick b (tuple 0 t) (constr 0 (decorated s t) t))) ≡ t
      go true b = refl
      go false true = refl
      go false false = refl

  same_type : (o : Opens) (t t' : ℕ) → ((i : ℕ) → opening o t' i ≡ open_step s t i) → t' ≡ t
  same_type o t t' e = sym (opening_type o t') ∙ ap step_type (e 0) ∙ open_step_type t

  -- it has as many parts as the type
  opens_count : (o : Opens) (t n : ℕ) → is_open s t ≡ true → opens_into s t o n ≡ true → n ≡ open_count s t
  unfolding opens_into
  opens_count pairs t n o h =
      let (a, b) = both_true (eqb (type_kind s t) 3) (eqb (type_count s t) n) h in
      sym (eqb-true _ _ b) ∙ sym (plain_count s t 3 (eqb-true _ _ a) refl)
  opens_count tuples t n o h =
      let (a, b) = both_true (eqb (type_kind s t) 4) (eqb (type_count s t) n) h in
      sym (eqb-true _ _ b) ∙ sym (plain_count s t 4 (eqb-true _ _ a) refl)
  opens_count (fields a l) t n o h =
      let (k, m, c) = takes s [] t a n h in
      let one = data_one s t k o in
      sym c ∙ sym (one_count s t a one (sym (one_of_one s [] t a 0 one m (omega arith))))

  most_parts : (m : Mark) (o : Opens) (qs : Pats) (t : ℕ) → is_open s t ≡ true → ((i : ℕ) → opening o m.type i ≡ open_step s t i)
      → opens_into s m.type o (many qs) ≡ true → 0 + many qs ≤ open_count s t
  most_parts m o qs t i e h =
      let same = opens_count o t (many qs) i (rw (same_type o t m.type e) at h) in
      omega (arith, same)

  room : (i n : ℕ) (q : Pat) (qs : Pats) → i + many (pcons q qs) ≤ n → (i < n) × (i + 1 + many qs ≤ n)
  unfolding many
  room i n q qs l = (omega arith, omega arith)

  mutual
    unfolding columns_of Resolved fits texts_fit

    columns_of_within : (p : Path) (q : Pat) (t : ℕ) → Resolved s q t → Kept q → All (Within p t) (columns_of p q)
    columns_of_within p (discard m) t r k = tt
    columns_of_within p (variable m x) t r k = tt
    columns_of_within p (assign m x q) t r k = columns_of_within p q t r k
    columns_of_within p (integer m at w) t r k = (([], sym (append-nil p), r.1, tt, k), tt)
    columns_of_within p (bytestring m at w) t r k = (([], sym (append-nil p), r.1, tt, k), tt)
    columns_of_within p (listed m qs) t r k = (([], sym (append-nil p), r.1, tt, k), tt)
    columns_of_within p (tailed m qs q) t r k = (([], sym (append-nil p), r.1, tt, k), tt)
    columns_of_within p (constructor m a qs) t r k = (([], sym (append-nil p), r.1, tt, k), tt)
    columns_of_within p (opened m o qs) t r k =
        let (a, b) = both_true (opens_into s m.type o (many qs)) (fit_all qs s) k.0 in
        let most = most_parts m o qs t r.0 r.1 a in
        all_map (WithinParts p (opening o m.type) (open_part s t) (0 + many qs)) (Within p t)
        (within_open p (opening o m.type) t (0 + many qs) r.0 r.1 most)
        (columns_of_each p (opening o m.type) 0 qs)
        (columns_of_each_within p (opening o m.type) 0 qs (open_part s t) (0 + many qs) (le_refl (0 + many qs)) r.2 (b, k.1))

    columns_of_each_within : (p : Path) (step : ℕ → Step) (i : ℕ) (qs : Pats) (types : ℕ → ℕ) (n : ℕ) → i + many qs ≤ n → ResolvedEach s qs types i → KeptAll qs
        → All (WithinParts p step types n) (columns_of_each p step i qs)
    columns_of_each_within p step i pnil types n l r k = tt
    columns_of_each_within p step i (pcons q qs) types n l r k =
        let (a, b) = kept_both q qs k in
        let (here, rest) = room i n q qs l in
        all_append (WithinParts p step types n) (columns_of (into p (step i)) q) (columns_of_each p step (i + 1) qs)
        (all_map (Within (into p (step i)) (types i)) (WithinParts p step types n) (within_part p step types n i here) (columns_of (into p (step i)) q)
        (columns_of_within (into p (step i)) q (types i) r.0 a))
        (columns_of_each_within p step (i + 1) qs types n rest r.1 b)

  -- ---- what a test of type t opens to where its case holds: within what the case has
  abbrev CaseParts : Path → Test → ℕ → Cell → Type 0
  CaseParts p u t = WithinParts p (case_step u t) (case_part s u t) (case_count s u t)

  elements_within : (p : Path) (qs : Pats) (t n : ℕ) → 0 + many qs ≤ n → ResolvedEach s qs (element_type s t) 0 → KeptAll qs
      → All (WithinParts p (λ i. list i t) (element_type s t) n) (columns_of_each p (λ i. list i t) 0 qs)
  elements_within p qs t n l r k = columns_of_each_within p (λ i. list i t) 0 qs (element_type s t) n l r k

  plain_none : (p : Path) (q : Pat) → is_plain q ≡ true → columns_of p q ≡ []
  unfolding columns_of is_plain
  plain_none p (discard m) h = refl
  plain_none p (variable m x) h = refl
  plain_none p (assign m x q) h = absurd (false≢true h)
  plain_none p (integer m at w) h = absurd (false≢true h)
  plain_none p (bytestring m at w) h = absurd (false≢true h)
  plain_none p (listed m qs) h = absurd (false≢true h)
  plain_none p (tailed m qs q) h = absurd (false≢true h)
  plain_none p (constructor m a qs) h = absurd (false≢true h)
  plain_none p (opened m o qs) h = absurd (false≢true h)

  tailed_within : (p : Path) (m : Mark) (qs : Pats) (q : Pat) (t n : ℕ) → many qs ≤ n → Resolved s (tailed m qs q) t → Kept (tailed m qs q)
      → All (WithinParts p (λ i. list i t) (element_type s t) n) (opened_columns p (tailed m qs q))
  unfolding opened_columns Resolved fits texts_fit
  tailed_within p m qs q t n l r k =
      let (a, b) = both_true (eqb (type_kind s m.type) 2) (both (fit_all qs s) (fits q s)) k.0 in
      let c = (both_true (fit_all qs s) (fits q s) b).0 in
      let d = (both_true (texts_fit_all qs) (texts_fit q) k.1).0 in
      rw (plain_none (into p (listtail (many qs) m.type)) q r.3, append-nil (columns_of_each p (λ i. list i m.type) 0 qs), r.0)
      (elements_within p qs t n (omega (arith, l)) r.2 (c, d))

  opened_within : (p : Path) (q : Pat) (t : ℕ) (u : Test) → Resolved s q t → Kept q → covers q u ≡ true → All (CaseParts p u t) (opened_columns p q)
  unfolding opened_columns Resolved fits texts_fit covers case_step case_part case_count
  opened_within p (discard m) t u r k c = tt
  opened_within p (variable m x) t u r k c = tt
  opened_within p (assign m x q) t u r k c = tt
  opened_within p (integer m at w) t u r k c = tt
  opened_within p (bytestring m at w) t u r k c = tt
  opened_within p (listed m qs) t u r k c =
      let (a, b) = both_true (eqb (type_kind s m.type) 2) (fit_all qs s) k.0 in
      rw (same_test_sound u (ListOf (many qs)) c, r.0) (elements_within p qs t (many qs) (omega arith) r.2 (b, k.1))
  opened_within p (tailed m qs q) t (Constr a) r k c = absurd (false≢true c)
  opened_within p (tailed m qs q) t (Int w) r k c = absurd (false≢true c)
  opened_within p (tailed m qs q) t (Bytes w) r k c = absurd (false≢true c)
  opened_within p (tailed m qs q) t (ListOf n) r k c = tailed_within p m qs q t n (leb-true (many qs) n c) r k
  opened_within p (tailed m qs q) t (ListWithTail n) r k c = tailed_within p m qs q t n (leb-true (many qs) n c) r k
  opened_within p (constructor m a qs) t u r k c =
      let (d, e) = both_true (takes_arguments s m.type a (many qs)) (fit_all qs s) k.0 in
      let n = (takes s [] t a (many qs) (rw r.0 at d)).2 in
      rw (same_test_sound u (Constr a) c, r.0)
      (columns_of_each_within p (λ i. constr i false t) 0 qs (field_type s t a) (constructor_count s (constructor_of s t a)) (omega (arith, n)) r.2 (e, k.1))
  opened_within p (opened m o qs) t u r k c = tt

  -- ---- a matrix as a value meets it
  abbrev KeptRow : Row → Type 0
  KeptRow r = All (λ c. Kept c.pattern) r.tests

  abbrev TypedRow : (Path → ℕ) → Row → Type 0
  TypedRow types r = All (TypedBy s types) r.tests

  pub record Good (types : Path → ℕ) (ps : List Path) (rs : List Row) : Type 0 where
    pub apart : TidyPaths ps
    pub neat : All (Neat ps) rs
    pub typed : All (TypedRow types) rs
    pub kept : All KeptRow rs
    pub plain : All NoTails ps

  sound : (types : Path → ℕ) (ps : List Path) (rs : List Row) → Good types ps rs → Sound s ps rs
  sound types ps rs g = record { types = types; apart = g.apart; neat = g.neat; typed = g.typed }

  -- the pattern in a column
  pub column_kept : (p : Path) (r : Row) (q : Pat) → test_at p r.tests ≡ some q → KeptRow r → Kept q
  column_kept p r q x h = taken_has (λ c. Kept c.pattern) p q r.tests (take_test p r.tests q x) h

  -- what a case opens
  case_opens_within : (types : Path → ℕ) (p : Path) (u : Test) (rs : List Row) → All (TypedRow types) rs → All KeptRow rs → All (CaseParts p u (types p)) (case_opens p u rs)
  unfolding case_opens
  case_opens_within types p u [] h k = tt
  case_opens_within types p u (r ∷ rs) h k = go (test_at p r.tests) refl (case_opens_within types p u rs h.1 k.1)
    where
      P : Cell → Type 0
      P = CaseParts p u (types p)

      go : (o : Option Pat) → test_at p r.tests ≡ o → All P (case_opens p u rs) → All P (case_opens p u (r ∷ rs))
      go none x ih = rw (x, case_opens) ih
      go (some q) x ih = test (covers q u) refl
        where
          test : (b : Bool) → covers q u ≡ b → All P (case_opens p u (r ∷ rs))
          test true y =
              rw (x, y, case_opens)
              (all_append P (opened_columns p q) (case_opens p u rs) (opened_within p q (types p) u (column_typed s types p r q x h.0) (column_kept p r q x k.0) y) ih)
          test false y = rw (x, y, case_opens) ih

  -- a path that a case of a column at p opens
  abbrev pub NewIn : Path → Test → ℕ → Path → Type 0
  NewIn p u t z = (i : ℕ) × (x : Path) × (z ≡ p ++ case_step u t i ∷ x) × (i < case_count s u t) × Legal s (case_part s u t i) x × Bounded s (case_part s u t i) x

  new_in_beside : (p : Path) (u : Test) (t : ℕ) (y z : Path) → NewIn p u t y → NewIn p u t z → SameOrApart y z
  new_in_beside p u t y z (i, x, e, a, l, b) (j, w, f, c, k, d) = new_beside s p u t y z (i, x, e, l) (j, w, f, k)

  pub new_columns : (types : Path → ℕ) (ps : List Path) (rs : List Row) (p : Path) (u : Test) → Good types ps rs → All (NewIn p u (types p)) (union (case_opens p u rs))
  new_columns types ps rs p u g =
      union_all (NewIn p u (types p)) (new_in_beside p u (types p)) (case_opens p u rs)
      (all_map (CaseParts p u (types p)) (λ c. NewIn p u (types p) c.path) (λ c (i, x, e, k, l, b, h). (i, x, e, k, l, b)) (case_opens p u rs)
      (case_opens_within types p u rs g.typed g.kept))

  new_plain : (p : Path) → NoTails p → (u : Test) (t : ℕ) (z : Path) → NewIn p u t z → NoTails z
  new_plain p n u t z (i, x, e, k, l, b) = rw e (no_tails_append p (case_step u t i ∷ x) n (case_plain s u t i, legal_plain s (case_part s u t i) x l))

  pub good_case : (types : Path → ℕ) (ps : List Path) (rs : List Row) (p : Path) (u : Test) → is_column p ps ≡ true → NoTails p → Good types ps rs
      → Good (retyped s types p u) (case_columns p u ps rs) (case_rows p u rs)
  unfolding case_columns sound
  good_case types ps rs p u k n g =
      let h = sound_case s ps rs p u k (sound types ps rs g) in
      record {
        apart = h.apart;
        neat = h.neat;
        typed = rw (case_types s ps rs p u k (sound types ps rs g)) at h.typed;
        kept = case_all Fine KeptRow p (λ r x w. w.1) u open_kept rs (all_both (TypedRow types) KeptRow Fine (λ r a b. (a, b)) rs g.typed g.kept);
        plain = all_append NoTails (union (case_opens p u rs)) (without p ps)
            (all_map (NewIn p u (types p)) NoTails (new_plain p n u (types p)) (union (case_opens p u rs)) (new_columns types ps rs p u g))
            (all_without NoTails p ps g.plain);
      }
    where
      Fine : Row → Type 0
      Fine r = TypedRow types r × KeptRow r

      open_kept : (r : Row) (q : Pat) → test_at p r.tests ≡ some q → covers q u ≡ true → Fine r → KeptRow (open_row p q r)
      open_kept r q x y w =
          unfold open_row in (all_append (λ c. Kept c.pattern) (opened_columns p q) (without_test p r.tests)
          (all_map (CaseParts p u (types p)) (λ c. Kept c.pattern) (λ c (i, z, e, k, l, b, h). h) (opened_columns p q)
          (opened_within p q (types p) u (column_typed s types p r q x w.0) (column_kept p r q x w.1) y))
          (others_have (λ c. Kept c.pattern) p q r.tests (take_test p r.tests q x) w.1))

  pub good_default : (types : Path → ℕ) (ps : List Path) (rs : List Row) (p : Path) → is_column p ps ≡ true → Good types ps rs → Good types (without p ps) (default_rows p rs)
  unfolding sound
  good_default types ps rs p k g =
      let h = sound_default s ps rs p k (sound types ps rs g) in
      record {
        apart = h.apart;
        neat = h.neat;
        typed = rw (default_types s ps rs p k (sound types ps rs g)) at h.typed;
        kept = default_all KeptRow KeptRow p (λ r x w. w) rs g.kept;
        plain = all_without NoTails p ps g.plain;
      }

  -- ---- the root: rows of clauses whose patterns are resolved against one type
  module _ (t : ℕ) where
    root_kept : (c : ℕ) (qs : List Pat) → All (λ q. Resolved s q t) qs → All Kept qs → All KeptRow (clause_rows c qs)
    unfolding clause_rows clause_row
    root_kept c [] r k = tt
    root_kept c (q ∷ qs) r k = (
      all_map (Within [] t) (λ c. Kept c.pattern) (λ c (x, e, l, b, h). h) (columns_of [] q) (columns_of_within [] q t r.0 k.0),
      root_kept (c + 1) qs r.1 k.1,
    )

    -- each column stands within what the type opens to
    abbrev pub Open : Path → Type 0
    Open z = Legal s t z × Bounded s t z

    root_open : (c : ℕ) (qs : List Pat) → All (λ q. Resolved s q t) qs → All Kept qs → All (λ d. Open d.path) (all_tests (clause_rows c qs))
    unfolding clause_rows clause_row all_tests
    root_open c [] r k = tt
    root_open c (q ∷ qs) r k =
        all_append (λ d. Open d.path) (columns_of [] q) (all_tests (clause_rows (c + 1) qs))
        (all_map (Within [] t) (λ d. Open d.path) (λ d (x, e, l, b, h). rw e (l, b)) (columns_of [] q) (columns_of_within [] q t r.0 k.0))
        (root_open (c + 1) qs r.1 k.1)

    pub root_columns_lem : (qs : List Pat) → All (λ q. Resolved s q t) qs → All Kept qs → All Open (columns (clause_rows 0 qs))
    unfolding columns
    root_columns_lem qs r k = union_all Open (λ y z a b. legal_beside s t y z a.0 b.0) (all_tests (clause_rows 0 qs)) (root_open 0 qs r k)

    pub good_root : (qs : List Pat) → All (λ q. Resolved s q t) qs → All Kept qs → Good (type_after s t) (columns (clause_rows 0 qs)) (clause_rows 0 qs)
    good_root qs r k =
        let h = sound_root s t qs r in
        record {
          apart = h.apart;
          neat = h.neat;
          typed = rw (root_types s t qs r) at h.typed;
          kept = root_kept 0 qs r k;
          plain = all_map Open NoTails (λ z o. legal_plain s t z o.0) (columns (clause_rows 0 qs)) (root_columns_lem qs r k);
        }
