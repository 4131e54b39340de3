-- The tests of a row stand apart from each other, and each in a column of its matrix. So a column that is tested is gone from
-- the row too, and where no column is chosen the first row has no test.
use Rattle.std.specs.Prelude.{ℕ, ◌+◌, ◌≤◌, ◌<◌, ◌≡◌, refl, ◌⊎◌, Bool, true, false, List, [], ◌∷◌, ◌++◌}
use Rattle.std.proofs.Common.{le_refl, arith, sym, ap, ◌∙◌, inl, inr, subst, true≢false, append-nil, append_assoc}
use Rattle.std.proofs.lemmas.Bool.{false≢true}
use Rattle.std.proofs.Math.Option.{Option, none, some}
use Rattle.base_words.specs.Words.{either}
use Rattle.base_words.specs.WordsLaws.{either_true, either_first_true, either_second_true}
use Rattle.spec_rules.specs.Patterns.{Opens, pairs, tuples, fields, Pat, Pats, discard, variable, assign, integer, bytestring, listed, tailed, constructor, opened, pnil, pcons, many}
use Rattle.spec_rules.specs.Rows.{Step, constr, list, listtail, Path, into, opening, same_path, Cell, Row, columns_of, columns_of_each, opened_columns, clause_row, clause_rows}
use Rattle.spec_rules.specs.Columns.{step_index, before, put, union, all_tests, columns, without, test_at, count, choice}
use Rattle.spec_rules.specs.Splitting.{Test, without_test, open_row, covers, case_rows, case_opens, default_rows}
use Rattle.spec_rules.specs.SplittingLaws.{All, either_assoc}
use Rattle.spec_match.specs.Lists.{all_append, all_map, all_both}
use Rattle.spec_match.specs.Paths.{same_path_sound, same_path_refl, same_path_false}
use Rattle.spec_match.specs.Tests.{cell, Taken, take_test, others_have, default_all, case_all}
use Rattle.spec_match.specs.Depth.{case_columns, choice_none}

-- ---- paths apart: a shared start, then steps of different index
pub record Apart (p q : Path) : Type 0 where
  pub shared : Path
  pub one : Step
  pub two : Step
  pub end_one : Path
  pub end_two : Path
  pub left : p ≡ shared ++ one ∷ end_one
  pub right : q ≡ shared ++ two ∷ end_two
  pub differ : step_index one ≡ step_index two → ⊥

pub apart_sym : {p q : Path} → Apart p q → Apart q p
apart_sym a =
    record {
      shared = a.shared;
      one = a.two;
      two = a.one;
      end_one = a.end_two;
      end_two = a.end_one;
      left = a.right;
      right = a.left;
      differ = λ e. a.differ (sym e);
    }

pub apart_longer : (p q : Path) → Apart p q → (x : Path) → Apart (p ++ x) q
apart_longer p q a x =
    record {
      shared = a.shared;
      one = a.one;
      two = a.two;
      end_one = a.end_one ++ x;
      end_two = a.end_two;
      left = ap (λ z. z ++ x) a.left ∙ append_assoc a.shared (a.one ∷ a.end_one) x;
      right = a.right;
      differ = a.differ;
    }

same_next : (p : Path) (s t : Step) (x y : Path) → p ++ s ∷ x ≡ p ++ t ∷ y → s ≡ t
same_next [] s t x y e = cc
same_next (u ∷ p) s t x y e = same_next p s t x y (same_rest (p ++ s ∷ x) (p ++ t ∷ y) e)
  where
    same_rest : (a b : Path) → ◌≡◌ {A = Path} (u ∷ a) (u ∷ b) → a ≡ b
    same_rest a b z = cc

pub apart_not_same : (p q : Path) → Apart p q → p ≡ q → ⊥
apart_not_same p q a e = a.differ (ap step_index (same_next a.shared a.one a.two a.end_one a.end_two (sym a.left ∙ e ∙ a.right)))

abbrev Away : Cell → Cell → Type 0
Away c d = Apart c.path d.path

abbrev pub Tidy : List Cell → Type 0
Tidy [] = Unit {0}
Tidy (c ∷ cs) = All (Away c) cs × Tidy cs

tidy_append : (cs ds : List Cell) → Tidy cs → Tidy ds → All (λ c. All (Away c) ds) cs → Tidy (cs ++ ds)
tidy_append [] ds a b h = b
tidy_append (c ∷ cs) ds a b h = (all_append (Away c) cs ds a.0 h.0, tidy_append cs ds a.1 b h.1)

all_away : (P Q : Cell → Type 0) → ((c d : Cell) → P c → Q d → Away c d) → (cs ds : List Cell) → All P cs → All Q ds → All (λ c. All (Away c) ds) cs
all_away P Q f cs ds a b = all_map P (λ c. All (Away c) ds) (λ c h. all_map Q (Away c) (λ d k. f c d h k) ds b) cs a

-- ---- the columns of one pattern
abbrev Under : Path → Cell → Type 0
Under p c = (x : Path) × (c.path ≡ p ++ x)

-- under the parts i, i + 1, .. below n
abbrev UnderParts : Path → (ℕ → Step) → ℕ → ℕ → Cell → Type 0
UnderParts p step i n c = (j : ℕ) × (i ≤ j) × (j < n) × ((x : Path) × (c.path ≡ p ++ step j ∷ x))

abbrev Indexed : (ℕ → Step) → Type 0
Indexed step = (i : ℕ) → step_index (step i) ≡ i

opening_indexed : (o : Opens) (t : ℕ) → Indexed (opening o t)
unfolding opening step_index
opening_indexed pairs t i = refl
opening_indexed tuples t i = refl
opening_indexed (fields a b) t i = refl

list_indexed : (t : ℕ) → Indexed (λ i. list i t)
unfolding step_index
list_indexed t i = refl

constr_indexed : (t : ℕ) → Indexed (λ i. constr i false t)
unfolding step_index
constr_indexed t i = refl

under_part : (p : Path) (step : ℕ → Step) (i n : ℕ) → i < n → (c : Cell) → Under (into p (step i)) c → UnderParts p step i n c
unfolding into
under_part p step i n l c (x, e) = (i, le_refl i, l, (x, e ∙ append_assoc p (step i ∷ []) x))

under_more : (p : Path) (step : ℕ → Step) (i n : ℕ) (c : Cell) → UnderParts p step (i + 1) n c → UnderParts p step i n c
under_more p step i n c (j, l, k, h) = (j, omega arith, k, h)

under_parts : (p : Path) (step : ℕ → Step) (i n : ℕ) (c : Cell) → UnderParts p step i n c → Under p c
under_parts p step i n c (j, l, k, (x, e)) = (step j ∷ x, e)

under_into : (p : Path) (s : Step) (c : Cell) → Under (into p s) c → Under p c
unfolding into
under_into p s c (x, e) = (s ∷ x, e ∙ append_assoc p (s ∷ []) x)

part_fits : (i n : ℕ) (q : Pat) (qs : Pats) → i + many (pcons q qs) ≤ n → (i < n) × (i + 1 + many qs ≤ n)
unfolding many
part_fits i n q qs l = (omega arith, omega arith)

mutual
  unfolding columns_of

  columns_of_under : (p : Path) (q : Pat) → All (Under p) (columns_of p q)
  columns_of_under p (discard m) = tt
  columns_of_under p (variable m x) = tt
  columns_of_under p (assign m x q) = columns_of_under p q
  columns_of_under p (integer m at w) = (([], sym (append-nil p)), tt)
  columns_of_under p (bytestring m at w) = (([], sym (append-nil p)), tt)
  columns_of_under p (listed m qs) = (([], sym (append-nil p)), tt)
  columns_of_under p (tailed m qs q) = (([], sym (append-nil p)), tt)
  columns_of_under p (constructor m a qs) = (([], sym (append-nil p)), tt)
  columns_of_under p (opened m o qs) =
      all_map (UnderParts p (opening o m.type) 0 (0 + many qs)) (Under p) (under_parts p (opening o m.type) 0 (0 + many qs)) (columns_of_each p (opening o m.type) 0 qs)
      (columns_of_each_under p (opening o m.type) 0 (0 + many qs) qs (le_refl (0 + many qs)))

  columns_of_each_under : (p : Path) (step : ℕ → Step) (i n : ℕ) (qs : Pats) → i + many qs ≤ n → All (UnderParts p step i n) (columns_of_each p step i qs)
  columns_of_each_under p step i n pnil l = tt
  columns_of_each_under p step i n (pcons q qs) l =
      let (h, k) = part_fits i n q qs l in
      all_append (UnderParts p step i n) (columns_of (into p (step i)) q) (columns_of_each p step (i + 1) qs)
      (all_map (Under (into p (step i))) (UnderParts p step i n) (under_part p step i n h) (columns_of (into p (step i)) q) (columns_of_under (into p (step i)) q))
      (all_map (UnderParts p step (i + 1) n) (UnderParts p step i n) (under_more p step i n) (columns_of_each p step (i + 1) qs) (columns_of_each_under p step (i + 1) n qs k))

parts_apart : (p : Path) (s : ℕ → Step) (i n : ℕ) → Indexed s → (c d : Cell) → Under (into p (s i)) c → UnderParts p s (i + 1) n d → Away c d
unfolding into
parts_apart p s i n h c d (x, e) (j, l, k, (y, f)) =
    record {
      shared = p;
      one = s i;
      two = s j;
      end_one = x;
      end_two = y;
      left = e ∙ append_assoc p (s i ∷ []) x;
      right = f;
      differ = λ z. omega (arith, h i, h j);
    }

mutual
  unfolding columns_of

  pub columns_of_tidy : (p : Path) (q : Pat) → Tidy (columns_of p q)
  columns_of_tidy p (discard m) = tt
  columns_of_tidy p (variable m x) = tt
  columns_of_tidy p (assign m x q) = columns_of_tidy p q
  columns_of_tidy p (integer m at w) = (tt, tt)
  columns_of_tidy p (bytestring m at w) = (tt, tt)
  columns_of_tidy p (listed m qs) = (tt, tt)
  columns_of_tidy p (tailed m qs q) = (tt, tt)
  columns_of_tidy p (constructor m a qs) = (tt, tt)
  columns_of_tidy p (opened m o qs) = columns_of_each_tidy p (opening o m.type) 0 qs (opening_indexed o m.type)

  columns_of_each_tidy : (p : Path) (step : ℕ → Step) (i : ℕ) (qs : Pats) → Indexed step → Tidy (columns_of_each p step i qs)
  columns_of_each_tidy p step i pnil h = tt
  columns_of_each_tidy p step i (pcons q qs) h =
      tidy_append (columns_of (into p (step i)) q) (columns_of_each p step (i + 1) qs) (columns_of_tidy (into p (step i)) q) (columns_of_each_tidy p step (i + 1) qs h)
      (all_away (Under (into p (step i))) (UnderParts p step (i + 1) (i + 1 + many qs)) (parts_apart p step i (i + 1 + many qs) h)
      (columns_of (into p (step i)) q) (columns_of_each p step (i + 1) qs)
      (columns_of_under (into p (step i)) q) (columns_of_each_under p step (i + 1) (i + 1 + many qs) qs (le_refl (i + 1 + many qs))))

tail_apart : (p : Path) (k t : ℕ) (c d : Cell) → UnderParts p (λ i. list i t) 0 k c → Under (into p (listtail k t)) d → Away c d
unfolding into step_index
tail_apart p k t c d (j, l, h, (x, e)) (y, f) =
    record {
      shared = p;
      one = list j t;
      two = listtail k t;
      end_one = x;
      end_two = y;
      left = e;
      right = f ∙ append_assoc p (listtail k t ∷ []) y;
      differ = λ z. omega arith;
    }

zero_many : (qs : Pats) → 0 + many qs ≤ many qs
zero_many qs = omega arith

opened_columns_tidy : (p : Path) (q : Pat) → Tidy (opened_columns p q)
unfolding opened_columns
opened_columns_tidy p (discard m) = tt
opened_columns_tidy p (variable m x) = tt
opened_columns_tidy p (assign m x q) = tt
opened_columns_tidy p (integer m at w) = tt
opened_columns_tidy p (bytestring m at w) = tt
opened_columns_tidy p (listed m qs) = columns_of_each_tidy p (λ i. list i m.type) 0 qs (list_indexed m.type)
opened_columns_tidy p (tailed m qs q) =
    tidy_append (columns_of_each p (λ i. list i m.type) 0 qs) (columns_of (into p (listtail (many qs) m.type)) q)
    (columns_of_each_tidy p (λ i. list i m.type) 0 qs (list_indexed m.type)) (columns_of_tidy (into p (listtail (many qs) m.type)) q)
    (all_away (UnderParts p (λ i. list i m.type) 0 (many qs)) (Under (into p (listtail (many qs) m.type))) (tail_apart p (many qs) m.type)
    (columns_of_each p (λ i. list i m.type) 0 qs) (columns_of (into p (listtail (many qs) m.type)) q)
    (columns_of_each_under p (λ i. list i m.type) 0 (many qs) qs (zero_many qs)) (columns_of_under (into p (listtail (many qs) m.type)) q))
opened_columns_tidy p (constructor m a qs) = columns_of_each_tidy p (λ i. constr i false m.type) 0 qs (constr_indexed m.type)
opened_columns_tidy p (opened m o qs) = tt

each_under : (p : Path) (step : ℕ → Step) (qs : Pats) → All (Under p) (columns_of_each p step 0 qs)
each_under p step qs =
    all_map (UnderParts p step 0 (many qs)) (Under p) (under_parts p step 0 (many qs)) (columns_of_each p step 0 qs) (columns_of_each_under p step 0 (many qs) qs (zero_many qs))

opened_columns_under : (p : Path) (q : Pat) → All (Under p) (opened_columns p q)
unfolding opened_columns
opened_columns_under p (discard m) = tt
opened_columns_under p (variable m x) = tt
opened_columns_under p (assign m x q) = tt
opened_columns_under p (integer m at w) = tt
opened_columns_under p (bytestring m at w) = tt
opened_columns_under p (listed m qs) = each_under p (λ i. list i m.type) qs
opened_columns_under p (tailed m qs q) =
    all_append (Under p) (columns_of_each p (λ i. list i m.type) 0 qs) (columns_of (into p (listtail (many qs) m.type)) q)
    (each_under p (λ i. list i m.type) qs)
    (all_map (Under (into p (listtail (many qs) m.type))) (Under p) (under_into p (listtail (many qs) m.type))
    (columns_of (into p (listtail (many qs) m.type)) q) (columns_of_under (into p (listtail (many qs) m.type)) q))
opened_columns_under p (constructor m a qs) = each_under p (λ i. constr i false m.type) qs
opened_columns_under p (opened m o qs) = tt

-- ---- a tidy row with its test at p taken out, and with what that opens to
all_skip : (P : Cell → Type 0) (cs : List Cell) (d : Cell) (ds : List Cell) → All P (cs ++ d ∷ ds) → P d × All P (cs ++ ds)
all_skip P [] d ds h = h
all_skip P (c ∷ cs) d ds h = let (a, b) = all_skip P cs d ds h.1 in (a, (h.0, b))

tidy_skip : (cs : List Cell) (d : Cell) (ds : List Cell) → Tidy (cs ++ d ∷ ds) → All (Away d) (cs ++ ds) × Tidy (cs ++ ds)
tidy_skip [] d ds h = h
tidy_skip (c ∷ cs) d ds h =
    let (a, b) = tidy_skip cs d ds h.1 in
    let (e, f) = all_skip (Away c) cs d ds h.0 in
    ((apart_sym e, a), (f, b))

abbrev pub ApartFrom : Path → Cell → Type 0
ApartFrom p d = Apart p d.path

pub taken_tidy : (p : Path) (q : Pat) (cs : List Cell) → Taken p q cs → Tidy cs → All (ApartFrom p) (without_test p cs) × Tidy (without_test p cs)
taken_tidy p q cs o h =
    let (a, b) = tidy_skip o.front (cell p q) o.back (rw o.whole at h) in
    (rw o.rest a, rw o.rest b)

under_apart : (p : Path) (c d : Cell) → Under p c → ApartFrom p d → Away c d
under_apart p c d (x, e) a = rw e (apart_longer p d.path a x)

pub open_tidy : (p : Path) (q : Pat) (r : Row) → Taken p q r.tests → Tidy r.tests → Tidy (open_row p q r).tests
unfolding open_row
open_tidy p q r o h =
    let (a, b) = taken_tidy p q r.tests o h in
    tidy_append (opened_columns p q) (without_test p r.tests) (opened_columns_tidy p q) b
    (all_away (Under p) (ApartFrom p) (under_apart p) (opened_columns p q) (without_test p r.tests) (opened_columns_under p q) a)

-- ---- a path among the columns, and among the paths of tests
unfoldable pub is_column : Path → List Path → Bool
unfolding same_path
is_column p [] = false
is_column p (q ∷ qs) = either (same_path p q) (is_column p qs)

unfoldable pub is_path_of : Path → List Cell → Bool
unfolding same_path
is_path_of p [] = false
is_path_of p (c ∷ cs) = either (same_path p c.path) (is_path_of p cs)

is_column_append : (p : Path) (qs zs : List Path) → is_column p (qs ++ zs) ≡ either (is_column p qs) (is_column p zs)
unfolding is_column
is_column_append p [] zs = refl
is_column_append p (q ∷ qs) zs = rw (is_column_append p qs zs) (sym (either_assoc (same_path p q) (is_column p qs) (is_column p zs)))

is_path_of_append : (p : Path) (cs ds : List Cell) → is_path_of p (cs ++ ds) ≡ either (is_path_of p cs) (is_path_of p ds)
unfolding is_path_of
is_path_of_append p [] ds = refl
is_path_of_append p (c ∷ cs) ds = rw (is_path_of_append p cs ds) (sym (either_assoc (same_path p c.path) (is_path_of p cs) (is_path_of p ds)))

is_column_put : (r p : Path) (ps : List Path) → is_column r (put p ps) ≡ either (same_path r p) (is_column r ps)
unfolding put is_column
is_column_put r p [] = refl
is_column_put r p (q ∷ qs) = go (same_path p q) refl (before p q) refl (is_column_put r p qs)
  where
    once : (a b c : Bool) → (a ≡ true → b ≡ true) → either b c ≡ either a (either b c)
    once true true c h = refl
    once true false c h = absurd (false≢true (h refl))
    once false b c h = refl

    swap : (a b c : Bool) → either b (either a c) ≡ either a (either b c)
    swap true true c = refl
    swap true false c = refl
    swap false true c = refl
    swap false false c = refl

    go : (x : Bool) → same_path p q ≡ x → (y : Bool) → before p q ≡ y → is_column r (put p qs) ≡ either (same_path r p) (is_column r qs)
        → is_column r (put p (q ∷ qs)) ≡ either (same_path r p) (either (same_path r q) (is_column r qs))
    go true x y e ih =
        rw (x, put)
        (once (same_path r p) (same_path r q) (is_column r qs) (λ z. rw (same_path_sound r p z) x))
    go false x true e ih = rw (x, e, put)
    go false x false e ih = rw (x, e, put) (ap (either (same_path r q)) ih ∙ swap (same_path r p) (same_path r q) (is_column r qs))

pub is_column_union : (p : Path) (cs : List Cell) → is_column p (union cs) ≡ is_path_of p cs
unfolding union is_column is_path_of
is_column_union p [] = refl
is_column_union p (c ∷ cs) = is_column_put p c.path (union cs) ∙ ap (either (same_path p c.path)) (is_column_union p cs)

is_column_without : (r p : Path) (ps : List Path) → (p ≡ r → ⊥) → is_column r ps ≡ true → is_column r (without p ps) ≡ true
unfolding without is_column
is_column_without r p [] d e = e
is_column_without r p (q ∷ qs) d e = go (same_path p q) refl (either_true (same_path r q) (is_column r qs) e) (is_column_without r p qs d)
  where
    go : (b : Bool) → same_path p q ≡ b → (same_path r q ≡ true) ⊎ (is_column r qs ≡ true) → (is_column r qs ≡ true → is_column r (without p qs) ≡ true)
        → is_column r (without p (q ∷ qs)) ≡ true
    go true x (inl a) ih = absurd (d (same_path_sound p q x ∙ sym (same_path_sound r q a)))
    go true x (inr b) ih = rw (x, without) b
    go false x (inl a) ih = rw (x, without) (either_first_true (same_path r q) (is_column r (without p qs)) a)
    go false x (inr b) ih = rw (x, without) (either_second_true (same_path r q) (is_column r (without p qs)) (ih b))

own_paths : (cs : List Cell) → All (λ c. is_path_of c.path cs ≡ true) cs
unfolding is_path_of
own_paths [] = tt
own_paths (c ∷ cs) = (
  either_first_true (same_path c.path c.path) (is_path_of c.path cs) (same_path_refl c.path),
  all_map (λ d. is_path_of d.path cs ≡ true) (λ d. is_path_of d.path (c ∷ cs) ≡ true)
      (λ d h. either_second_true (same_path d.path c.path) (is_path_of d.path cs) h) cs (own_paths cs),
)

-- ---- a row whose tests are tidy and stand in the columns
abbrev pub Within : List Path → List Cell → Type 0
Within ps cs = All (λ c. is_column c.path ps ≡ true) cs

abbrev pub Neat : List Path → Row → Type 0
Neat ps r = Tidy r.tests × Within ps r.tests

within_left : (ps qs : List Path) (cs : List Cell) → Within ps cs → Within (ps ++ qs) cs
within_left ps qs cs w =
    all_map (λ c. is_column c.path ps ≡ true) (λ c. is_column c.path (ps ++ qs) ≡ true)
    (λ c h. is_column_append c.path ps qs ∙ either_first_true (is_column c.path ps) (is_column c.path qs) h) cs w

within_right : (ps qs : List Path) (cs : List Cell) → Within qs cs → Within (ps ++ qs) cs
within_right ps qs cs w =
    all_map (λ c. is_column c.path qs ≡ true) (λ c. is_column c.path (ps ++ qs) ≡ true)
    (λ c h. is_column_append c.path ps qs ∙ either_second_true (is_column c.path ps) (is_column c.path qs) h) cs w

within_without : (p : Path) (ps : List Path) (cs : List Cell) → Within ps cs → All (λ c. p ≡ c.path → ⊥) cs → Within (without p ps) cs
within_without p ps [] w n = tt
within_without p ps (c ∷ cs) w n = (is_column_without c.path p ps n.0 w.0, within_without p ps cs w.1 n.1)

pub no_test_at : (p : Path) (cs : List Cell) → test_at p cs ≡ none → All (λ c. p ≡ c.path → ⊥) cs
unfolding test_at
no_test_at p [] e = tt
no_test_at p (c ∷ cs) e = go (same_path p c.path) refl (no_test_at p cs)
  where
    no_some : ◌≡◌ {A = Option Pat} (some c.pattern) none → ⊥
    no_some z = let y : true ≡ false = cc in true≢false y

    go : (b : Bool) → same_path p c.path ≡ b → (test_at p cs ≡ none → All (λ c. p ≡ c.path → ⊥) cs) → All (λ c. p ≡ c.path → ⊥) (c ∷ cs)
    go true x ih = absurd (no_some (rw (x, test_at) at e))
    go false x ih = (same_path_false p c.path x, ih (rw (x, test_at) at e))

wild_neat : (p : Path) (ps : List Path) (r : Row) → test_at p r.tests ≡ none → Neat ps r → Neat (without p ps) r
wild_neat p ps r x (h, w) = (h, within_without p ps r.tests w (no_test_at p r.tests x))

pub default_neat : (p : Path) (ps : List Path) (rs : List Row) → All (Neat ps) rs → All (Neat (without p ps)) (default_rows p rs)
default_neat p ps rs h = default_all (Neat ps) (Neat (without p ps)) p (wild_neat p ps) rs h

-- what a row of the case opens to stands among all that the case opens
abbrev OpensIn : Path → Test → List Cell → Row → Type 0
OpensIn p t ds r = (q : Pat) → test_at p r.tests ≡ some q → covers q t ≡ true → All (λ c. is_path_of c.path ds ≡ true) (opened_columns p q)

more_paths : (ds es cs : List Cell) → All (λ c. is_path_of c.path es ≡ true) cs → All (λ c. is_path_of c.path (ds ++ es) ≡ true) cs
more_paths ds es cs w =
    all_map (λ c. is_path_of c.path es ≡ true) (λ c. is_path_of c.path (ds ++ es) ≡ true)
    (λ c h. is_path_of_append c.path ds es ∙ either_second_true (is_path_of c.path ds) (is_path_of c.path es) h) cs w

first_paths : (ds es : List Cell) → All (λ c. is_path_of c.path (ds ++ es) ≡ true) ds
first_paths ds es =
    all_map (λ c. is_path_of c.path ds ≡ true) (λ c. is_path_of c.path (ds ++ es) ≡ true)
    (λ c h. is_path_of_append c.path ds es ∙ either_first_true (is_path_of c.path ds) (is_path_of c.path es) h) ds (own_paths ds)

-- what a row adds to the columns that a case opens
opens_none : (p : Path) (t : Test) (r : Row) (rs : List Row) → test_at p r.tests ≡ none → case_opens p t (r ∷ rs) ≡ case_opens p t rs
unfolding case_opens
opens_none p t r rs x = rw (x, case_opens)

opens_covered : (p : Path) (t : Test) (r : Row) (rs : List Row) (z : Pat) → test_at p r.tests ≡ some z → covers z t ≡ true
    → case_opens p t (r ∷ rs) ≡ opened_columns p z ++ case_opens p t rs
unfolding case_opens
opens_covered p t r rs z x y = rw (x, y, case_opens)

opens_missed : (p : Path) (t : Test) (r : Row) (rs : List Row) (z : Pat) → test_at p r.tests ≡ some z → covers z t ≡ false
    → case_opens p t (r ∷ rs) ≡ case_opens p t rs
unfolding case_opens
opens_missed p t r rs z x y = rw (x, y, case_opens)

case_opens_in : (p : Path) (t : Test) (rs : List Row) → All (OpensIn p t (case_opens p t rs)) rs
unfolding case_opens
case_opens_in p t [] = tt
case_opens_in p t (r ∷ rs) = go (test_at p r.tests) refl (case_opens_in p t rs)
  where
    carried : (os : List Cell) → case_opens p t (r ∷ rs) ≡ os → All (OpensIn p t os) (r ∷ rs) → All (OpensIn p t (case_opens p t (r ∷ rs))) (r ∷ rs)
    carried os e h = subst (λ (o : List Cell). All (OpensIn p t o) (r ∷ rs)) (sym e) h

    same_pattern : (a b : Pat) → ◌≡◌ {A = Option Pat} (some a) (some b) → a ≡ b
    same_pattern a b e = cc

    no_some : (a : Pat) → ◌≡◌ {A = Option Pat} none (some a) → ⊥
    no_some a e = let z : false ≡ true = cc in false≢true z

    go : (o : Option Pat) → test_at p r.tests ≡ o → All (OpensIn p t (case_opens p t rs)) rs → All (OpensIn p t (case_opens p t (r ∷ rs))) (r ∷ rs)
    go none x ih = carried (case_opens p t rs) (opens_none p t r rs x) (λ q e c. absurd (no_some q (sym x ∙ e)), ih)
    go (some z) x ih = test (covers z t) refl
      where
        test : (b : Bool) → covers z t ≡ b → All (OpensIn p t (case_opens p t (r ∷ rs))) (r ∷ rs)
        test true y =
            carried (opened_columns p z ++ case_opens p t rs) (opens_covered p t r rs z x y) (
              λ q e c. rw (← same_pattern z q (sym x ∙ e)) (first_paths (opened_columns p z) (case_opens p t rs)),
              all_map (OpensIn p t (case_opens p t rs)) (OpensIn p t (opened_columns p z ++ case_opens p t rs))
                  (λ s h q e c. more_paths (opened_columns p z) (case_opens p t rs) (opened_columns p q) (h q e c)) rs ih,
            )
        test false y =
            carried (case_opens p t rs) (opens_missed p t r rs z x y)
            (λ q e c. absurd (true≢false (sym c ∙ ap (λ k. covers k t) (sym (same_pattern z q (sym x ∙ e))) ∙ y)), ih)

pub case_neat : (p : Path) (t : Test) (ps : List Path) (rs : List Row) → All (Neat ps) rs → All (Neat (case_columns p t ps rs)) (case_rows p t rs)
unfolding case_columns
case_neat p t ps rs h =
    case_all (λ r. Neat ps r × OpensIn p t (case_opens p t rs) r) (Neat (union (case_opens p t rs) ++ without p ps)) p
    (λ r x (n, o). let (a, b) = wild_neat p ps r x n in (a, within_right (union (case_opens p t rs)) (without p ps) r.tests b))
    t
    (λ r q x y (n, o). (
      open_tidy p q r (take_test p r.tests q x) n.0,
      unfold open_row in (all_append (λ c. is_column c.path (union (case_opens p t rs) ++ without p ps) ≡ true) (opened_columns p q) (without_test p r.tests)
          (within_left (union (case_opens p t rs)) (without p ps) (opened_columns p q)
          (all_map (λ c. is_path_of c.path (case_opens p t rs) ≡ true) (λ c. is_column c.path (union (case_opens p t rs)) ≡ true)
          (λ c k. is_column_union c.path (case_opens p t rs) ∙ k) (opened_columns p q) (o q x y)))
          (within_right (union (case_opens p t rs)) (without p ps) (without_test p r.tests)
          (within_without p ps (without_test p r.tests)
          (others_have (λ c. is_column c.path ps ≡ true) p q r.tests (take_test p r.tests q x) n.1)
          (all_map (ApartFrom p) (λ c. p ≡ c.path → ⊥) (λ d k. apart_not_same p d.path k) (without_test p r.tests) (taken_tidy p q r.tests (take_test p r.tests q x) n.0).0)))),
    ))
    rs
    (all_both (Neat ps) (OpensIn p t (case_opens p t rs)) (λ r. Neat ps r × OpensIn p t (case_opens p t rs) r) (λ r a b. (a, b)) rs h (case_opens_in p t rs))

-- ---- the rows of clauses
columns_more : (r s : Row) (rs : List Row) → Within (columns rs) s.tests → Within (columns (r ∷ rs)) s.tests
unfolding columns all_tests
columns_more r s rs w =
    all_map (λ c. is_column c.path (union (all_tests rs)) ≡ true) (λ c. is_column c.path (union (r.tests ++ all_tests rs)) ≡ true)
    (λ c h. is_column_union c.path (r.tests ++ all_tests rs) ∙ is_path_of_append c.path r.tests (all_tests rs)
    ∙ either_second_true (is_path_of c.path r.tests) (is_path_of c.path (all_tests rs)) (sym (is_column_union c.path (all_tests rs)) ∙ h))
    s.tests w

columns_first : (r : Row) (rs : List Row) → Within (columns (r ∷ rs)) r.tests
unfolding columns all_tests
columns_first r rs =
    all_map (λ c. is_path_of c.path (r.tests ++ all_tests rs) ≡ true) (λ c. is_column c.path (union (r.tests ++ all_tests rs)) ≡ true)
    (λ c h. is_column_union c.path (r.tests ++ all_tests rs) ∙ h) r.tests (first_paths r.tests (all_tests rs))

pub clause_rows_neat : (c : ℕ) (qs : List Pat) → All (Neat (columns (clause_rows c qs))) (clause_rows c qs)
unfolding clause_rows
clause_rows_neat c [] = tt
clause_rows_neat c (q ∷ qs) = (
  (columns_of_tidy [] q, columns_first (clause_row c q) (clause_rows (c + 1) qs)),
  all_map (Neat (columns (clause_rows (c + 1) qs))) (Neat (columns (clause_row c q ∷ clause_rows (c + 1) qs)))
      (λ s n. (n.0, columns_more (clause_row c q) s (clause_rows (c + 1) qs) n.1)) (clause_rows (c + 1) qs) (clause_rows_neat (c + 1) qs),
)

-- ---- LEMMA: where no column is chosen the first row has no test
test_counts : (c : Cell) (cs : List Cell) (r : Row) (rs : List Row) → r.tests ≡ c ∷ cs → 0 < count c.path (r ∷ rs)
unfolding count
test_counts c cs r rs e = rw (at_first, count) (omega arith)
  where
    at_first : test_at c.path r.tests ≡ some c.pattern
    at_first = rw e (unfold test_at in (rw (same_path_refl c.path, test_at)))

pub all_column : (P : Path → Type 0) (p : Path) (ps : List Path) → All P ps → is_column p ps ≡ true → P p
unfolding is_column
all_column P p [] h e = absurd (false≢true e)
all_column P p (q ∷ ps) h e = go (either_true (same_path p q) (is_column p ps) e) (all_column P p ps h.1)
  where
    go : (same_path p q ≡ true) ⊎ (is_column p ps ≡ true) → (is_column p ps ≡ true → P p) → P p
    go (inl a) ih = rw (same_path_sound p q a) h.0
    go (inr b) ih = ih b

pub no_tests : (ps : List Path) (r : Row) (rs : List Row) → choice ps (r ∷ rs) ≡ none → Within ps r.tests → r.tests ≡ []
no_tests ps r rs x w = go r.tests refl
  where
    go : (cs : List Cell) → r.tests ≡ cs → r.tests ≡ []
    go [] e = e
    go (c ∷ cs) e =
        let w' : Within ps (c ∷ cs) = rw e at w in
        absurd (omega (arith, all_column (λ p. count p (r ∷ rs) ≤ 0) c.path ps (choice_none ps (r ∷ rs) x) w'.0, test_counts c cs r rs e))
