-- A pattern and a part of a panel that are of one type, as far as matching asks: `Suits`. Then the part at each column's path is there,
-- the columns of a pattern hold exactly if it matches, and a pattern that matches gives its names what its bindings' paths lead to.
use Rattle.std.specs.Prelude.{ℕ, ◌+◌, ◌≤◌, ◌<◌, Bool, ltb}
use Rattle.std.proofs.Common.{add-zero, add_assoc, sym, ap₂, ◌∙◌}
use native.Mathlib.Omega.{arith}
use Rattle.std.proofs.Math.Path.{◌≡◌, refl, ap}
use Rattle.std.proofs.Math.Bool.{true, false}
use Rattle.std.proofs.lemmas.Bool.{false≢true}
use mathlib.Core.List.{List, [], ◌∷◌, ◌++◌}
use Rattle.std.proofs.Math.Option.{Option, none, some}
use Rattle.std.proofs.Math.Dec.{eqb, leb}
use borrow.Author.Tests.{eqb-true, eq-eqb, leb-true, le-leb, lt-ltb}
use Rattle.base_words.specs.Words.{both, same_text}
use Rattle.base_words.specs.WordsLaws.{both_true, both_make, both_second_false, both_assoc}
use Rattle.spec_rules.specs.Kinds.{integer_record, bytes_record, list_record, pair_record, tuple_record, constructor_record}
use Rattle.spec_rules.specs.Patterns.{Opens, pairs, tuples, fields, Pat, Pats, discard, variable, assign, integer, bytestring, listed, tailed, constructor, opened, pnil, pcons, many}
use Rattle.spec_rules.specs.Rows.{Step, pair, tuple, constr, list, listtail, Path, into, opening, Binding, Cell, columns_of, columns_of_each, opened_columns}
use Rattle.spec_rules.specs.PanelFile.{record_kind, record_a, record_first, record_count, record_text}
use Rattle.spec_rules.specs.Walking.{Position, panel_root, part_of, tail_of, take_step, follow, Bound, bound}
use Rattle.spec_rules.specs.Meaning.{part_at, elements_at, elements, after, open_kind, has_number, matches, match_each, gives, gives_each}
use Rattle.spec_rules.specs.SplittingLaws.{All, both_end}
use Rattle.spec_match.specs.Lists.{all_append}
use Rattle.spec_match.specs.Tests.{is_test, cell}
use Rattle.spec_match.specs.Bindings.{all_bindings, all_bindings_of_each}

-- At each place the panel has the kind that the pattern asks; the parts are as many as the pattern's where the type says how many.
-- What is inside a list or a constructor need suit only where the pattern's own test holds.
unfoldable mutual
  unfolding many open_kind has_number elements_at elements after

  pub Suits : Pat → List ℕ → Position → Type 0
  Suits (discard m) v x = Unit {0}
  Suits (variable m name) v x = Unit {0}
  Suits (assign m name q) v x = Suits q v x
  Suits (integer m at w) v x = record_kind v x.place ≡ integer_record
  Suits (bytestring m at w) v x = record_kind v x.place ≡ bytes_record
  Suits (listed m qs) v x = (record_kind v x.place ≡ list_record) × (elements v x ≡ many qs → SuitEach qs v (elements_at v x))
  Suits (tailed m qs q) v x =
      (record_kind v x.place ≡ list_record)
      × (x.dropped ≤ record_count v x.place)
      × (many qs ≤ elements v x → SuitEach qs v (elements_at v x) × Suits q v (after (many qs) x))
  Suits (constructor m a qs) v x =
      (record_kind v x.place ≡ constructor_record)
      × (record_a v x.place ≡ a → (record_count v x.place ≡ many qs) × SuitEach qs v (record_first v x.place))
  Suits (opened m o qs) v x =
      (record_kind v x.place ≡ open_kind o)
      × (has_number o (record_a v x.place) ≡ true)
      × (record_count v x.place ≡ many qs)
      × SuitEach qs v (record_first v x.place)

  -- each pattern suits its part: the first at child entry j, each next at the next
  pub SuitEach : Pats → List ℕ → ℕ → Type 0
  SuitEach pnil v j = Unit {0}
  SuitEach (pcons q qs) v j = Suits q v (part_at v j) × SuitEach qs v (j + 1)

module _ (v : List ℕ) where
  -- ---- following a path one step further
  and_then : Option Position → Step → Option Position
  and_then none s = none
  and_then (some x) s = take_step v s x

  follow_into : (p : Path) (s : Step) (x : Position) → follow v (into p s) x ≡ and_then (follow v p x) s
  unfolding follow into and_then
  follow_into [] s x = go (take_step v s x)
    where
      go : (o : Option Position) → elim o as (λ z. Option Position) [ none ↦ none | some y ↦ some y ] ≡ o
      go none = refl
      go (some y) = refl
  follow_into (t ∷ p) s x = go (take_step v t x) (follow_into p s)
    where
      go : (o : Option Position) → ((y : Position) → follow v (p ++ s ∷ []) y ≡ and_then (follow v p y) s)
          → elim o as (λ z. Option Position) [ none ↦ none | some y ↦ follow v (p ++ s ∷ []) y ]
          ≡ and_then (elim o as (λ z. Option Position) [ none ↦ none | some y ↦ follow v p y ]) s
      go none ih = refl
      go (some y) ih = ih y

  one_step : (p : Path) (s : Step) (x y : Position) → follow v p panel_root ≡ some x → take_step v s x ≡ some y → follow v (into p s) panel_root ≡ some y
  unfolding and_then
  one_step p s x y e f = follow_into p s panel_root ∙ ap (λ o. and_then o s) e ∙ f

  part_there : (kind r i : ℕ) → record_kind v r ≡ kind → i < record_count v r → part_of v kind r i ≡ some (part_at v (record_first v r + i))
  unfolding part_of
  part_there kind r i k l = rw (both_make (eqb (record_kind v r) kind) (ltb i (record_count v r)) (eq-eqb (record_kind v r) kind k) (lt-ltb i (record_count v r) l))

  tail_there : (r i : ℕ) → record_kind v r ≡ list_record → i ≤ record_count v r → tail_of v r i ≡ some (record { place = r; dropped = i })
  unfolding tail_of
  tail_there r i k l = rw (both_make (eqb (record_kind v r) list_record) (leb i (record_count v r)) (eq-eqb (record_kind v r) list_record k) (le-leb i (record_count v r) l))

  -- the steps from p lead to n parts: the first at child entry d, each next at the next
  abbrev pub Leads : Path → (ℕ → Step) → ℕ → ℕ → Type 0
  Leads p step d n = (i : ℕ) → i < n → follow v (into p (step i)) panel_root ≡ some (part_at v (d + i))

  opening_leads : (p : Path) (x : Position) (t : ℕ) (o : Opens) → follow v p panel_root ≡ some x → record_kind v x.place ≡ open_kind o
      → Leads p (opening o t) (record_first v x.place) (record_count v x.place)
  unfolding opening open_kind take_step
  opening_leads p x t pairs e k i l = one_step p (pair i t) x (part_at v (record_first v x.place + i)) e (part_there pair_record x.place i k l)
  opening_leads p x t tuples e k i l = one_step p (tuple i t) x (part_at v (record_first v x.place + i)) e (part_there tuple_record x.place i k l)
  opening_leads p x t (fields a b) e k i l = one_step p (constr i b t) x (part_at v (record_first v x.place + i)) e (part_there constructor_record x.place i k l)

  constr_leads : (p : Path) (x : Position) (t : ℕ) → follow v p panel_root ≡ some x → record_kind v x.place ≡ constructor_record
      → Leads p (λ i. constr i false t) (record_first v x.place) (record_count v x.place)
  unfolding take_step
  constr_leads p x t e k i l = one_step p (constr i false t) x (part_at v (record_first v x.place + i)) e (part_there constructor_record x.place i k l)

  list_leads : (p : Path) (x : Position) (t : ℕ) → follow v p panel_root ≡ some x → record_kind v x.place ≡ list_record → Leads p (λ i. list i t) (elements_at v x) (elements v x)
  unfolding take_step elements_at elements
  list_leads p x t e k i l =
      one_step p (list i t) x (part_at v (record_first v x.place + x.dropped + i)) e
      (part_there list_record x.place (x.dropped + i) k (omega arith) ∙ ap (λ j. some (part_at v j)) (sym (add_assoc (record_first v x.place) x.dropped i)))

  tail_leads : (p : Path) (x : Position) (n t : ℕ) → follow v p panel_root ≡ some x → record_kind v x.place ≡ list_record → x.dropped ≤ record_count v x.place → n ≤ elements v x
      → follow v (into p (listtail n t)) panel_root ≡ some (after n x)
  unfolding take_step elements after
  tail_leads p x n t e k d l = one_step p (listtail n t) x (after n x) e (tail_there x.place (x.dropped + n) k (omega arith))

  -- ---- a test, and the tests of a row
  unfoldable pub holds_at : Path → Pat → Bool
  unfolding follow matches
  holds_at p q = elim (follow v p panel_root) [ none ↦ false | some x ↦ matches q v x ]

  unfoldable pub hold_all : List Cell → Bool
  unfolding holds_at
  hold_all [] = true
  hold_all (c ∷ cs) = both (holds_at c.path c.pattern) (hold_all cs)

  pub hold_all_append : (cs ds : List Cell) → hold_all (cs ++ ds) ≡ both (hold_all cs) (hold_all ds)
  unfolding hold_all
  hold_all_append [] ds = refl
  hold_all_append (c ∷ cs) ds = rw (hold_all_append cs ds) (sym (both_assoc (holds_at c.path c.pattern) (hold_all cs) (hold_all ds)))

  pub hold_none : hold_all [] ≡ true
  unfolding hold_all
  hold_none = refl

  pub holds_at_matches : (p : Path) (q : Pat) (x : Position) → follow v p panel_root ≡ some x → holds_at p q ≡ matches q v x
  unfolding holds_at
  holds_at_matches p q x e = rw (e, holds_at)

  -- the test's part is there, and its pattern suits it
  pub record Good (c : Cell) : Type 0 where
    pub position : Position
    pub found : follow v c.path panel_root ≡ some position
    pub test : is_test c.pattern ≡ true
    pub suits : Suits c.pattern v position

  -- columns that hold exactly if b does, and are all good
  abbrev Read : List Cell → Bool → Type 0
  Read cs b = (hold_all cs ≡ b) × All Good cs

  read_none : Read [] true
  read_none = (hold_none, tt)

  read_one : (p : Path) (q : Pat) (x : Position) → follow v p panel_root ≡ some x → is_test q ≡ true → Suits q v x → Read (cell p q ∷ []) (matches q v x)
  read_one p q x e i s = (
    unfold hold_all in (both_end (holds_at p q)) ∙ holds_at_matches p q x e,
    (record { position = x; found = e; test = i; suits = s }, tt),
  )

  read_append : (cs ds : List Cell) (a b : Bool) → Read cs a → Read ds b → Read (cs ++ ds) (both a b)
  read_append cs ds a b (e, f) (g, h) = (hold_all_append cs ds ∙ ap₂ both e g, all_append Good cs ds f h)

  from_first : (P : ℕ → Type 0) (d : ℕ) → P (d + 0) → P d
  from_first P d h = rw add-zero at h

  to_first : (P : ℕ → Type 0) (d : ℕ) → P d → P (d + 0)
  to_first P d h = rw add-zero h

  no_more : (n count : ℕ) → count ≡ n → 0 + n ≤ count
  no_more n count e = omega arith

  next_entry : (d i : ℕ) → d + i + 1 ≡ d + (i + 1)
  next_entry d i = add_assoc d i 1

  fits_parts : (i n : ℕ) (q : Pat) (qs : Pats) → i + many (pcons q qs) ≤ n → (i < n) × (i + 1 + many qs ≤ n)
  unfolding many
  fits_parts i n q qs l = (omega arith, omega arith)

  mutual
    unfolding columns_of matches Suits is_test

    pub columns_read : (p : Path) (q : Pat) (x : Position) → follow v p panel_root ≡ some x → Suits q v x → Read (columns_of p q) (matches q v x)
    columns_read p (discard m) x e s = read_none
    columns_read p (variable m name) x e s = read_none
    columns_read p (assign m name q) x e s = columns_read p q x e s
    columns_read p (integer m at w) x e s = read_one p (integer m at w) x e refl s
    columns_read p (bytestring m at w) x e s = read_one p (bytestring m at w) x e refl s
    columns_read p (listed m qs) x e s = read_one p (listed m qs) x e refl s
    columns_read p (tailed m qs q) x e s = read_one p (tailed m qs q) x e refl s
    columns_read p (constructor m a qs) x e s = read_one p (constructor m a qs) x e refl s
    columns_read p (opened m o qs) x e s =
        rw (eq-eqb (record_kind v x.place) (open_kind o) s.0, s.1, eq-eqb (record_count v x.place) (many qs) s.2)
        (from_first (λ j. Read (columns_of_each p (opening o m.type) 0 qs) (match_each qs v j)) (record_first v x.place)
        (columns_of_each_read p (opening o m.type) (record_first v x.place) 0 (record_count v x.place) qs (opening_leads p x m.type o e s.0)
        (no_more (many qs) (record_count v x.place) s.2) (to_first (λ j. SuitEach qs v j) (record_first v x.place) s.3)))

    pub columns_of_each_read : (p : Path) (step : ℕ → Step) (d i n : ℕ) (qs : Pats) → Leads p step d n → i + many qs ≤ n → SuitEach qs v (d + i)
        → Read (columns_of_each p step i qs) (match_each qs v (d + i))
    columns_of_each_read p step d i n pnil f l s = read_none
    columns_of_each_read p step d i n (pcons q qs) f l s =
        let (a, b) = fits_parts i n q qs l in
        read_append (columns_of (into p (step i)) q) (columns_of_each p step (i + 1) qs) (matches q v (part_at v (d + i))) (match_each qs v (d + i + 1))
        (columns_read (into p (step i)) q (part_at v (d + i)) (f i a) s.0)
        (rw (next_entry d i) (columns_of_each_read p step d (i + 1) n qs f b (rw (next_entry d i) at s.1)))

  -- ---- a test pattern's own test, nothing of what is inside
  unfoldable pub head_holds : Pat → Position → Bool
  unfolding same_text many elements
  head_holds (discard m) x = false
  head_holds (variable m name) x = false
  head_holds (assign m name q) x = false
  head_holds (integer m at w) x = same_text (record_text v x.place) w
  head_holds (bytestring m at w) x = same_text (record_text v x.place) w
  head_holds (listed m qs) x = eqb (elements v x) (many qs)
  head_holds (tailed m qs q) x = leb (many qs) (elements v x)
  head_holds (constructor m a qs) x = eqb (record_a v x.place) a
  head_holds (opened m o qs) x = false

  -- where it holds, the pattern matches exactly if what it opens to holds
  pub opened_read : (p : Path) (q : Pat) (x : Position) → follow v p panel_root ≡ some x → is_test q ≡ true → Suits q v x → head_holds q x ≡ true → Read (opened_columns p q) (matches q v x)
  unfolding opened_columns matches Suits is_test head_holds
  opened_read p (discard m) x e i s h = absurd (false≢true i)
  opened_read p (variable m name) x e i s h = absurd (false≢true i)
  opened_read p (assign m name q) x e i s h = absurd (false≢true i)
  opened_read p (integer m at w) x e i s h = rw (eq-eqb (record_kind v x.place) integer_record s, h) read_none
  opened_read p (bytestring m at w) x e i s h = rw (eq-eqb (record_kind v x.place) bytes_record s, h) read_none
  opened_read p (listed m qs) x e i s h =
      let n = eqb-true (elements v x) (many qs) h in
      rw (eq-eqb (record_kind v x.place) list_record s.0, h)
      (from_first (λ j. Read (columns_of_each p (λ i. list i m.type) 0 qs) (match_each qs v j)) (elements_at v x)
      (columns_of_each_read p (λ i. list i m.type) (elements_at v x) 0 (elements v x) qs (list_leads p x m.type e s.0)
      (no_more (many qs) (elements v x) n) (to_first (λ j. SuitEach qs v j) (elements_at v x) (s.1 n))))
  opened_read p (tailed m qs q) x e i s h =
      let n = leb-true (many qs) (elements v x) h in
      let (a, b) = s.2 n in
      rw (eq-eqb (record_kind v x.place) list_record s.0, h)
      (read_append (columns_of_each p (λ i. list i m.type) 0 qs) (columns_of (into p (listtail (many qs) m.type)) q)
      (match_each qs v (elements_at v x)) (matches q v (after (many qs) x))
      (from_first (λ j. Read (columns_of_each p (λ i. list i m.type) 0 qs) (match_each qs v j)) (elements_at v x)
      (columns_of_each_read p (λ i. list i m.type) (elements_at v x) 0 (elements v x) qs (list_leads p x m.type e s.0)
      (omega arith) (to_first (λ j. SuitEach qs v j) (elements_at v x) a)))
      (columns_read (into p (listtail (many qs) m.type)) q (after (many qs) x) (tail_leads p x (many qs) m.type e s.0 s.1 n) b))
  opened_read p (constructor m a qs) x e i s h =
      let (n, f) = s.1 (eqb-true (record_a v x.place) a h) in
      rw (eq-eqb (record_kind v x.place) constructor_record s.0, h, eq-eqb (record_count v x.place) (many qs) n)
      (from_first (λ j. Read (columns_of_each p (λ i. constr i false m.type) 0 qs) (match_each qs v j)) (record_first v x.place)
      (columns_of_each_read p (λ i. constr i false m.type) (record_first v x.place) 0 (record_count v x.place) qs (constr_leads p x m.type e s.0)
      (no_more (many qs) (record_count v x.place) n) (to_first (λ j. SuitEach qs v j) (record_first v x.place) f)))
  opened_read p (opened m o qs) x e i s h = absurd (false≢true i)

  pub head_fails : (q : Pat) (x : Position) → is_test q ≡ true → head_holds q x ≡ false → matches q v x ≡ false
  unfolding matches is_test head_holds
  head_fails (discard m) x i h = absurd (false≢true i)
  head_fails (variable m name) x i h = absurd (false≢true i)
  head_fails (assign m name q) x i h = absurd (false≢true i)
  head_fails (integer m at w) x i h = both_second_false (eqb (record_kind v x.place) integer_record) (same_text (record_text v x.place) w) h
  head_fails (bytestring m at w) x i h = both_second_false (eqb (record_kind v x.place) bytes_record) (same_text (record_text v x.place) w) h
  head_fails (listed m qs) x i h = rw h (both_second_false (eqb (record_kind v x.place) list_record) false refl)
  head_fails (tailed m qs q) x i h = rw h (both_second_false (eqb (record_kind v x.place) list_record) false refl)
  head_fails (constructor m a qs) x i h = rw h (both_second_false (eqb (record_kind v x.place) constructor_record) false refl)
  head_fails (opened m o qs) x i h = absurd (false≢true i)

  -- ---- what a matching pattern gives its names
  bound_one : (name : ℕ) (p : Path) (x : Position) (bs : List Binding) (ys : List Bound) → follow v p panel_root ≡ some x → bound v bs ≡ some ys
      → bound v (record { name = name; path = p } ∷ bs) ≡ some (record { name = name; position = x } ∷ ys)
  unfolding bound
  bound_one name p x bs ys e f = rw (e, bound) (rw f)

  bound_none : bound v [] ≡ some []
  unfolding bound
  bound_none = refl

  bound_append : (bs cs : List Binding) (ys : List Bound) → bound v cs ≡ some ys → (xs : List Bound) → bound v bs ≡ some xs → bound v (bs ++ cs) ≡ some (xs ++ ys)
  unfolding bound
  bound_append [] cs ys f xs e = rw (← same_bound [] xs e) f
    where
      same_bound : (a b : List Bound) → ◌≡◌ {A = Option (List Bound)} (some a) (some b) → a ≡ b
      same_bound a b z = cc
  bound_append (b ∷ bs) cs ys f xs e = go (follow v b.path panel_root) refl (bound v bs) refl (bound_append bs cs ys f)
    where
      same_bound : (a b : List Bound) → ◌≡◌ {A = Option (List Bound)} (some a) (some b) → a ≡ b
      same_bound a b z = cc

      no_none : ◌≡◌ {A = Option (List Bound)} none (some xs) → ⊥
      no_none z = let y : false ≡ true = cc in false≢true y

      go : (o : Option Position) → follow v b.path panel_root ≡ o → (w : Option (List Bound)) → bound v bs ≡ w
          → ((xs : List Bound) → bound v bs ≡ some xs → bound v (bs ++ cs) ≡ some (xs ++ ys)) → bound v (b ∷ (bs ++ cs)) ≡ some (xs ++ ys)
      go none x w z ih = absurd (no_none (rw (x, bound) at e))
      go (some y) x none z ih = absurd (no_none (rw (x, z, bound) at e))
      go (some y) x (some zs) z ih =
          bound_one b.name b.path y (bs ++ cs) (zs ++ ys) x (ih zs z)
          ∙ ap (λ l. some (l ++ ys)) (same_bound (record { name = b.name; position = y } ∷ zs) xs (sym (bound_one b.name b.path y bs zs x z) ∙ e))

  bound_both : (bs cs : List Binding) (xs ys : List Bound) → bound v bs ≡ some xs → bound v cs ≡ some ys → bound v (bs ++ cs) ≡ some (xs ++ ys)
  bound_both bs cs xs ys e f = bound_append bs cs ys f xs e

  mutual
    unfolding all_bindings gives matches Suits

    pub gives_bound : (p : Path) (q : Pat) (x : Position) → follow v p panel_root ≡ some x → Suits q v x → matches q v x ≡ true → bound v (all_bindings p q) ≡ some (gives q v x)
    gives_bound p (discard m) x e s h = bound_none
    gives_bound p (variable m name) x e s h = bound_one name p x [] [] e bound_none
    gives_bound p (assign m name q) x e s h = bound_one name p x (all_bindings p q) (gives q v x) e (gives_bound p q x e s h)
    gives_bound p (integer m at w) x e s h = bound_none
    gives_bound p (bytestring m at w) x e s h = bound_none
    gives_bound p (listed m qs) x e s h =
        let (k, f) = both_true (eqb (record_kind v x.place) list_record) (both (eqb (elements v x) (many qs)) (match_each qs v (elements_at v x))) h in
        let (l, g) = both_true (eqb (elements v x) (many qs)) (match_each qs v (elements_at v x)) f in
        let n = eqb-true (elements v x) (many qs) l in
        from_first (λ j. bound v (all_bindings_of_each p (λ i. list i m.type) 0 qs) ≡ some (gives_each qs v j)) (elements_at v x)
        (gives_each_bound p (λ i. list i m.type) (elements_at v x) 0 (elements v x) qs (list_leads p x m.type e s.0)
        (no_more (many qs) (elements v x) n) (to_first (λ j. SuitEach qs v j) (elements_at v x) (s.1 n))
        (to_first (λ j. match_each qs v j ≡ true) (elements_at v x) g))
    gives_bound p (tailed m qs q) x e s h =
        let (k, f) = both_true (eqb (record_kind v x.place) list_record) (both (leb (many qs) (elements v x)) (both (match_each qs v (elements_at v x)) (matches q v (after (many qs) x)))) h in
        let (l, g) = both_true (leb (many qs) (elements v x)) (both (match_each qs v (elements_at v x)) (matches q v (after (many qs) x))) f in
        let (c, d) = both_true (match_each qs v (elements_at v x)) (matches q v (after (many qs) x)) g in
        let n = leb-true (many qs) (elements v x) l in
        let (a, b) = s.2 n in
        bound_both (all_bindings_of_each p (λ i. list i m.type) 0 qs) (all_bindings (into p (listtail (many qs) m.type)) q)
        (gives_each qs v (elements_at v x)) (gives q v (after (many qs) x))
        (from_first (λ j. bound v (all_bindings_of_each p (λ i. list i m.type) 0 qs) ≡ some (gives_each qs v j)) (elements_at v x)
        (gives_each_bound p (λ i. list i m.type) (elements_at v x) 0 (elements v x) qs (list_leads p x m.type e s.0)
        (omega arith) (to_first (λ j. SuitEach qs v j) (elements_at v x) a)
        (to_first (λ j. match_each qs v j ≡ true) (elements_at v x) c)))
        (gives_bound (into p (listtail (many qs) m.type)) q (after (many qs) x) (tail_leads p x (many qs) m.type e s.0 s.1 n) b d)
    gives_bound p (constructor m a qs) x e s h =
        let (k, f) = both_true (eqb (record_kind v x.place) constructor_record) (both (eqb (record_a v x.place) a) (both (eqb (record_count v x.place) (many qs)) (match_each qs v (record_first v x.place)))) h in
        let (l, g) = both_true (eqb (record_a v x.place) a) (both (eqb (record_count v x.place) (many qs)) (match_each qs v (record_first v x.place))) f in
        let (c, d) = both_true (eqb (record_count v x.place) (many qs)) (match_each qs v (record_first v x.place)) g in
        let (n, b) = s.1 (eqb-true (record_a v x.place) a l) in
        from_first (λ j. bound v (all_bindings_of_each p (λ i. constr i false m.type) 0 qs) ≡ some (gives_each qs v j)) (record_first v x.place)
        (gives_each_bound p (λ i. constr i false m.type) (record_first v x.place) 0 (record_count v x.place) qs (constr_leads p x m.type e s.0)
        (no_more (many qs) (record_count v x.place) n) (to_first (λ j. SuitEach qs v j) (record_first v x.place) b)
        (to_first (λ j. match_each qs v j ≡ true) (record_first v x.place) d))
    gives_bound p (opened m o qs) x e s h =
        let (k, f) = both_true (eqb (record_kind v x.place) (open_kind o)) (both (has_number o (record_a v x.place)) (both (eqb (record_count v x.place) (many qs)) (match_each qs v (record_first v x.place)))) h in
        let (l, g) = both_true (has_number o (record_a v x.place)) (both (eqb (record_count v x.place) (many qs)) (match_each qs v (record_first v x.place))) f in
        let (c, d) = both_true (eqb (record_count v x.place) (many qs)) (match_each qs v (record_first v x.place)) g in
        from_first (λ j. bound v (all_bindings_of_each p (opening o m.type) 0 qs) ≡ some (gives_each qs v j)) (record_first v x.place)
        (gives_each_bound p (opening o m.type) (record_first v x.place) 0 (record_count v x.place) qs (opening_leads p x m.type o e s.0)
        (no_more (many qs) (record_count v x.place) s.2) (to_first (λ j. SuitEach qs v j) (record_first v x.place) s.3)
        (to_first (λ j. match_each qs v j ≡ true) (record_first v x.place) d))

    pub gives_each_bound : (p : Path) (step : ℕ → Step) (d i n : ℕ) (qs : Pats) → Leads p step d n → i + many qs ≤ n → SuitEach qs v (d + i) → match_each qs v (d + i) ≡ true
        → bound v (all_bindings_of_each p step i qs) ≡ some (gives_each qs v (d + i))
    gives_each_bound p step d i n pnil f l s h = bound_none
    gives_each_bound p step d i n (pcons q qs) f l s h =
        let (a, b) = fits_parts i n q qs l in
        let (g, k) = both_true (matches q v (part_at v (d + i))) (match_each qs v (d + i + 1)) h in
        bound_both (all_bindings (into p (step i)) q) (all_bindings_of_each p step (i + 1) qs) (gives q v (part_at v (d + i))) (gives_each qs v (d + i + 1))
        (gives_bound (into p (step i)) q (part_at v (d + i)) (f i a) s.0 g)
        (rw (next_entry d i) (gives_each_bound p step d (i + 1) n qs f b (rw (next_entry d i) at s.1) (rw (next_entry d i) at k)))
