-- Laws of the matrices as their loops make them: the rows of all clauses, the columns of the clauses from the last up, and the rows,
-- the tests opened and the columns of a case.
use Rattle.std.specs.Prelude.{◌≡◌, Bool, ℕ, zero, suc, ◌+◌, ◌-◌, ◌≤◌, ◌<◌, get_or, take, set, Some, None}
use Rattle.std.proofs.Math.Path.{refl, sym, ap, ap₂}
use Rattle.std.proofs.Common.{◌∙◌, take-append-drop}
use Rattle.std.proofs.Math.Bool.{true, false}
use mathlib.Core.List.{List, [], ◌∷◌, ◌++◌, append_assoc, append-nil}
use native.Mathlib.Omega.{arith}
use Rattle.std.proofs.Math.ListN.{length, length-append}
use Rattle.std.proofs.Math.Seq.{slice, append_snoc}
use Rattle.base_words.specs.Words.{pick}
use Rattle.spec_rules.specs.Limits.{patterns_most}
use Rattle.spec_rules.specs.SheetFile.{patterns, clauses, root}
use Rattle.spec_rules.specs.SheetRefusals.{is_in}
use Rattle.spec_rules.specs.Splitting.{Test as RuleTest}
use Rattle.spec_rules.specs.SplittingLaws.{All}
use Rattle.spec_accepted.specs.SheetFacts.{Accepted}
use Rattle.format_sheet.specs.declared.SheetMap.{SheetMap}
use Rattle.build_table.specs.Standing.{class_of}
use Rattle.build_table.specs.Seen.{tests_of, opened_tests}
use Rattle.build_matrix.specs.declared.Classes.{Classes}
use Rattle.build_matrix.specs.declared.PerRow.{PerRow}
use Rattle.build_matrix.specs.declared.Matrix.{Matrix}
use Rattle.build_matrix.specs.Columns.{Held}
use Rattle.build_matrix.specs.Live.{live_in}
use Rattle.build_matrix.specs.LiveLaws.{live_test_lem}
use Rattle.build_matrix.specs.HeldRows.{join_of, opens_of, joins_case}
use Rattle.build_matrix.specs.Lists.{classes_in, numbers_in, Holds, WholeRows}
use Rattle.build_matrix.specs.ListsLaws.{holds_same, holds_rows_same, holds_count, holds_rows_count, push_one, whole}
use Rattle.build_matrix.specs.Ordered.{put_each, path_before, each_append, without_class, without_one}
use Rattle.build_matrix.specs.RowStates.{up_from}
use Rattle.build_matrix.specs.Matrices.{TestIn, gather, root_tests, marked}
use Rattle.build_matrix.specs.Numbered.{SoundOf, first_numbered, opens_in, case_numbered}
use Rattle.build_matrix.specs.TreesLaws.{sound_first, few_columns, sound_case, opens_known}
use Rattle.build_matrix.specs.ReadingLaws.{all_at, left_on, left_end, slice_on, slice_end}
use Rattle.build_matrix.specs.Ready.{ReadyTable, Listed, put_tests, Roomy, TestKnown}
use Rattle.build_matrix.specs.PuttingLaws.{each_least, all_map, tests_known, opened_known, listed}
use Rattle.build_matrix.specs.InNumbers.{in_numbers, WholeMatrix, StandsFor}
use Rattle.build_matrix.specs.InNumbersLaws.{stands_for}
use Rattle.build_matrix.specs.Meant.{HeldKnown, join_row, open_row, JoinsTo}

-- ---- the rows of all clauses: c are there
up_on : (c n : ℕ) → c < n → up_from c (n - c) ≡ c ∷ up_from (c + 1) (n - (c + 1))
unfolding up_from
up_on c n h = let e : n - c ≡ suc (n - (c + 1)) = omega arith in rw e

pub rows_more : (l : List ℕ) (c n : ℕ) (whole : List ℕ) → c < length l → c < n → take c l ++ up_from c (n - c) ≡ whole
    → take (c + 1) (set l c c) ++ up_from (c + 1) (n - (c + 1)) ≡ whole
rows_more l c n whole room h e =
    rw (push_one l c c room) (append_snoc (take c l) c (up_from (c + 1) (n - (c + 1))) ∙ ap (λ (x : List ℕ). take c l ++ x) (sym (up_on c n h)) ∙ e)

pub rows_all : (l : List ℕ) (c n : ℕ) (whole : List ℕ) → c ≡ n → take c l ++ up_from c (n - c) ≡ whole → take n l ≡ whole
unfolding up_from
rows_all l c n whole d e =
    let z : n - n ≡ 0 = omega arith in
    let f : take n l ++ up_from n (n - n) ≡ whole = rw d at e in
    let g : take n l ++ [] ≡ whole = rw z at f in
    sym (append-nil (take n l)) ∙ g

-- ---- what is gathered, from the last up
pub gather_append : (f : ℕ → List ℕ) (xs ys : List ℕ) → gather f (xs ++ ys) ≡ gather f xs ++ gather f ys
unfolding gather
gather_append f [] ys = refl
gather_append f (x ∷ xs) ys = ap (λ (l : List ℕ). f x ++ l) (gather_append f xs ys) ∙ sym (append_assoc (f x) (gather f xs) (gather f ys))

up_parts : (a k m : ℕ) → up_from a (k + m) ≡ up_from a k ++ up_from (a + k) m
unfolding up_from
up_parts a zero m =
    let e : a + 0 ≡ a = omega arith in
    let f : 0 + m ≡ m = omega arith in
    rw (e, f)
up_parts a (suc k) m =
    let d : suc k + m ≡ suc (k + m) = omega arith in
    let e : a + 1 + k ≡ a + suc k = omega arith in
    rw d (ap (λ (l : List ℕ). a ∷ l) (up_parts (a + 1) k m ∙ ap (λ (n : ℕ). up_from (a + 1) k ++ up_from n m) e))

-- less is put where fewer are put
pub each_shorter : (s xs ys : List ℕ) → length (put_tests s ys []) ≤ length (put_tests s (xs ++ ys) [])
each_shorter s xs ys =
    omega (arith, each_least (path_before s) (class_of s) xs (put_tests s ys []), ap length (each_append (path_before s) (class_of s) xs ys []))

-- the columns of the clauses from c on
abbrev pub columns_from : List ℕ → ℕ → List ℕ
columns_from s c = put_tests s (gather (root_tests s) (up_from c (clauses s - c))) []

pub columns_none : (s : List ℕ) → columns_from s (clauses s) ≡ []
unfolding up_from gather put_each
columns_none s = let e : clauses s - clauses s ≡ 0 = omega arith in rw e

module _ {s : List ℕ} {m : SheetMap} {t : List ℕ} (ready : ReadyTable s m t) where
  ok : Accepted s
  ok = ready.checked.ok

  columns_few : (c : ℕ) → c ≤ clauses s → length (columns_from s c) ≤ patterns_most
  columns_few c h =
      let e : c + (clauses s - c) ≡ clauses s = omega arith in
      let parts : gather (root_tests s) (up_from 0 (clauses s)) ≡ gather (root_tests s) (up_from 0 c) ++ gather (root_tests s) (up_from c (clauses s - c)) =
      ap (λ (n : ℕ). gather (root_tests s) (up_from 0 n)) (sym e) ∙ ap (gather (root_tests s)) (up_parts 0 c (clauses s - c))
      ∙ gather_append (root_tests s) (up_from 0 c) (up_from (0 + c) (clauses s - c)) ∙ ap (λ (n : ℕ). gather (root_tests s) (up_from 0 c) ++ gather (root_tests s) (up_from n (clauses s - c))) (omega arith)
      in
      omega (
        arith,
        each_shorter s (gather (root_tests s) (up_from 0 c)) (gather (root_tests s) (up_from c (clauses s - c))),
        ap (λ (l : List ℕ). length (put_tests s l [])) parts,
        first_few,
      )
    where
      first_few : length (put_tests s (gather (root_tests s) (up_from 0 (clauses s))) []) ≤ patterns_most
      first_few = unfold first_numbered in omega (arith, few_columns ok (first_numbered s) (sound_first ok))

  module _ (c : ℕ) (low : 0 < c) (high : c ≤ clauses s) (r : ℕ) (is : r ≡ root s (c - 1)) (o : Classes) (l : Listed s o) (h : Holds o (columns_from s c)) where
    pub root_known : r < patterns s
    root_known = rw is (ok.is_shaped.root_pattern (c - 1) (omega arith))

    columns_more : put_tests s (tests_of s r) (classes_in o) ≡ columns_from s (c - 1)
    unfolding gather
    columns_more =
        let e : c - 1 + 1 ≡ c = omega arith in
        ap₂ (λ (x : ℕ) (ks : List ℕ). put_tests s (tests_of s x) ks) is h.are
        ∙ sym (each_append (path_before s) (class_of s) (root_tests s (c - 1)) (gather (root_tests s) (up_from c (clauses s - c))) [])
        ∙ ap (λ (n : ℕ). put_tests s (root_tests s (c - 1) ++ gather (root_tests s) (up_from n (clauses s - n))) []) (sym e)
        ∙ ap (λ (x : List ℕ). put_tests s (gather (root_tests s) x) []) (sym (up_on (c - 1) (clauses s) (omega arith)))

    pub root_room : Roomy s (tests_of s r) o
    root_room = rw columns_more (columns_few (c - 1) (omega arith))

    module _ {next : Classes} (n : Holds next (put_tests s (tests_of s r) (classes_in o))) where
      pub next_listed : Listed s next
      next_listed = listed ready (tests_of s r) (tests_known ready r root_known) l n

      pub next_columns : Holds next (columns_from s (c - 1))
      next_columns = holds_same n columns_more

-- ---- the rows of a case, one by one
pub held_live : (s opened : List ℕ) (class c : ℕ) (h : Held) → h ≡ live_in s opened class c → HeldKnown s h
held_live s opened class c (Some p) e = let x = (live_test_lem s opened c class p (sym e)).0.test_of in record { known = x.known; test = x.test }
held_live s opened class c None e = tt

-- at most one row more, and one test
pub join_most : (joins : ℕ → Bool) (h : Held) (c : ℕ) → length (join_row joins h c) ≤ 1
join_most joins (Some p) c = go (joins p)
  where
    go : (b : Bool) → length (pick b (c ∷ []) []) ≤ 1
    go true = omega arith
    go false = omega arith
join_most joins None c = omega arith

pub open_most : (joins : ℕ → Bool) (h : Held) → length (open_row joins h) ≤ 1
open_most joins (Some p) = go (joins p)
  where
    go : (b : Bool) → length (pick b (p ∷ []) []) ≤ 1
    go true = omega arith
    go false = omega arith
open_most joins None = omega arith

-- the rows joined so far and those that are left are all
pub record Joining (joins : ℕ → Bool) (held : ℕ → Held) (joined opens : PerRow) (left rows : List ℕ) : Type 0 where
  pub rows_are : numbers_in joined ++ join_of joins held left ≡ join_of joins held rows
  pub opens_are : numbers_in opens ++ opens_of joins held left ≡ opens_of joins held rows

module _ (joins : ℕ → Bool) (held : ℕ → Held) where
  join_more : (c : ℕ) (cs : List ℕ) → join_of joins held (c ∷ cs) ≡ join_row joins (held c) c ++ join_of joins held cs
  unfolding join_of
  join_more c cs = go (held c)
    where
      tested : (b : Bool) → pick b (c ∷ join_of joins held cs) (join_of joins held cs) ≡ pick b (c ∷ []) [] ++ join_of joins held cs
      tested true = refl
      tested false = refl

      go : (h : Held) → elim h [ Some p ↦ pick (joins p) (c ∷ join_of joins held cs) (join_of joins held cs) | None ↦ c ∷ join_of joins held cs ]
          ≡ join_row joins h c ++ join_of joins held cs
      go (Some p) = tested (joins p)
      go None = refl

  open_more : (c : ℕ) (cs : List ℕ) → opens_of joins held (c ∷ cs) ≡ open_row joins (held c) ++ opens_of joins held cs
  unfolding opens_of
  open_more c cs = go (held c)
    where
      tested : (p : ℕ) (b : Bool) → pick b (p ∷ opens_of joins held cs) (opens_of joins held cs) ≡ pick b (p ∷ []) [] ++ opens_of joins held cs
      tested p true = refl
      tested p false = refl

      go : (h : Held) → elim h [ Some p ↦ pick (joins p) (p ∷ opens_of joins held cs) (opens_of joins held cs) | None ↦ opens_of joins held cs ]
          ≡ open_row joins h ++ opens_of joins held cs
      go (Some p) = tested p (joins p)
      go None = refl

  module _ (joined opens next next_opens : PerRow) (rows : List ℕ) (h : Held) (c : ℕ) (is : h ≡ held c)
      (j : JoinsTo next next_opens (numbers_in joined ++ join_row joins h c) (numbers_in opens ++ open_row joins h)) where
    pub joining_on : (left : List ℕ) → Joining joins held joined opens (c ∷ left) rows → Joining joins held next next_opens left rows
    joining_on left e = record {
      rows_are = ap (λ (x : List ℕ). x ++ join_of joins held left) j.has_rows.are ∙ append_assoc (numbers_in joined) (join_row joins h c) (join_of joins held left)
          ∙ ap (λ (x : List ℕ). numbers_in joined ++ x) (ap (λ (x : Held). join_row joins x c ++ join_of joins held left) is ∙ sym (join_more c left)) ∙ e.rows_are;
      opens_are = ap (λ (x : List ℕ). x ++ opens_of joins held left) j.has_opens.are ∙ append_assoc (numbers_in opens) (open_row joins h) (opens_of joins held left)
          ∙ ap (λ (x : List ℕ). numbers_in opens ++ x) (ap (λ (x : Held). open_row joins x ++ opens_of joins held left) is ∙ sym (open_more c left)) ∙ e.opens_are;
    }

    pub joining_few : WholeRows joined → WholeRows opens → (next.count ≤ joined.count + 1) × (next_opens.count ≤ opens.count + 1)
    joining_few a b = (
      omega (arith, holds_rows_count j.has_rows, length-append (numbers_in joined) (join_row joins h c), join_most joins h c, holds_rows_count a),
      omega (arith, holds_rows_count j.has_opens, length-append (numbers_in opens) (open_row joins h), open_most joins h, holds_rows_count b),
    )

  pub joining_end : (joined opens : PerRow) (left rows : List ℕ) → left ≡ [] → WholeRows joined → WholeRows opens → Joining joins held joined opens left rows
      → JoinsTo joined opens (join_of joins held rows) (opens_of joins held rows)
  unfolding join_of opens_of
  joining_end joined opens left rows z a b e =
      let rows_are : numbers_in joined ++ [] ≡ join_of joins held rows = rw z at e.rows_are in
      let opens_are : numbers_in opens ++ [] ≡ opens_of joins held rows = rw z at e.opens_are in
      record {
        has_rows = holds_rows_same a (sym (append-nil (numbers_in joined)) ∙ rows_are);
        has_opens = holds_rows_same b (sym (append-nil (numbers_in opens)) ∙ opens_are);
      }

-- ---- tests marked from the front
pub mark_on : (time : ℕ) (out whole l : List ℕ) (n i p : ℕ) → i < length (take n l) → p ≡ get_or (take n l) i 0 → marked time out (slice i n l) ≡ whole
    → marked time (set out p time) (slice (i + 1) n l) ≡ whole
unfolding marked
mark_on time out whole l n i p h is e =
    let f : marked time out (get_or (take n l) i 0 ∷ slice (i + 1) n l) ≡ whole = rw (left_on l n i h) at e in
    rw is f

pub mark_end : (time : ℕ) (out whole l : List ℕ) (n i : ℕ) → length (take n l) ≤ i → marked time out (slice i n l) ≡ whole → out ≡ whole
unfolding marked
mark_end time out whole l n i d e = let f : marked time out [] ≡ whole = rw (left_end l n i d) at e in f

-- ---- the columns that tests open to, from the last up: those of the tests from place i on
abbrev pub opens_from : List ℕ → List ℕ → ℕ → ℕ → List ℕ
opens_from s l n i = put_tests s (gather (opened_tests s) (slice i n l)) []

pub opens_none : (s l : List ℕ) (n : ℕ) → opens_from s l n n ≡ []
unfolding gather put_each
opens_none s l n = rw (slice_end l n n refl)

module _ {s : List ℕ} {m : SheetMap} {t : List ℕ} (ready : ReadyTable s m t) (l : List ℕ) (n : ℕ) (enough : n ≤ length l) (known : All (TestKnown s) (take n l)) where
  module _ (room : length (put_tests s (gather (opened_tests s) (take n l)) []) ≤ patterns_most) where
    opens_few : (i : ℕ) → i ≤ n → length (opens_from s l n i) ≤ patterns_most
    opens_few i h =
        let parts : gather (opened_tests s) (take n l) ≡ gather (opened_tests s) (take i (take n l)) ++ gather (opened_tests s) (slice i n l) =
        ap (gather (opened_tests s)) (sym (take-append-drop i (take n l))) ∙ gather_append (opened_tests s) (take i (take n l)) (slice i n l)
        in
        omega (arith, each_shorter s (gather (opened_tests s) (take i (take n l))) (gather (opened_tests s) (slice i n l)), ap (λ (x : List ℕ). length (put_tests s x [])) parts, room)

    module _ (i : ℕ) (low : 0 < i) (high : i ≤ n) (p : ℕ) (is : p ≡ get_or l (i - 1) 0) (o : Classes) (listed_o : Listed s o) (h : Holds o (opens_from s l n i)) where
      pub test_known : TestKnown s p
      test_known = rw is (all_at (TestKnown s) l n (i - 1) (omega arith) enough known)

      opens_more : put_tests s (opened_tests s p) (classes_in o) ≡ opens_from s l n (i - 1)
      unfolding gather
      opens_more =
          let e : i - 1 + 1 ≡ i = omega arith in
          let front : slice (i - 1) n l ≡ p ∷ slice i n l =
          slice_on l (i - 1) n (omega arith) enough ∙ ap₂ (λ (x : ℕ) (k : ℕ). x ∷ slice k n l) (sym is) e
          in
          ap (put_tests s (opened_tests s p)) h.are
          ∙ sym (each_append (path_before s) (class_of s) (opened_tests s p) (gather (opened_tests s) (slice i n l)) [])
          ∙ ap (λ (x : List ℕ). put_tests s (gather (opened_tests s) x) []) (sym front)

      pub test_room : Roomy s (opened_tests s p) o
      test_room = rw opens_more (opens_few (i - 1) (omega arith))

      module _ {next : Classes} (k : Holds next (put_tests s (opened_tests s p) (classes_in o))) where
        pub opened_listed : Listed s next
        opened_listed = listed ready (opened_tests s p) (opened_known ready p test_known) listed_o k

        pub opened_columns : Holds next (opens_from s l n (i - 1))
        opened_columns = holds_same k opens_more

-- ---- room for the columns of a case
module _ {s : List ℕ} {m : SheetMap} {t : List ℕ} (ready : ReadyTable s m t) (x : Matrix) (whole : WholeMatrix x) (sound : SoundOf s (in_numbers x))
    (class : ℕ) (there : is_in class (classes_in x.columns) ≡ true) (u : RuleTest) where
  case_few : length (case_numbered s class u (in_numbers x)).columns + length (case_numbered s class u (in_numbers x)).tested ≤ patterns_most
  case_few = few_columns ready.checked.ok (case_numbered s class u (in_numbers x)) (sound_case ready.checked.ok (in_numbers x) sound class there u)

  opened_few : length (put_tests s (gather (opened_tests s) (opens_in s class u (in_numbers x))) []) + x.columns.count ≤ patterns_most
  unfolding case_numbered
  opened_few =
      omega (
        arith,
        case_few,
        length-append (put_tests s (gather (opened_tests s) (opens_in s class u (in_numbers x))) []) (without_class class (classes_in x.columns)),
        without_one class (classes_in x.columns) there,
        holds_count whole.whole_columns,
        length-append (classes_in x.tested) (class ∷ []),
      )

  pub tests_there : All (TestKnown s) (opens_in s class u (in_numbers x))
  tests_there =
      all_map (TestIn s class) (TestKnown s) (λ p y. record { known = y.known; test = y.test }) (opens_in s class u (in_numbers x)) (opens_known s (in_numbers x) class u)

  pub tests_low : All (λ p. p < patterns_most) (opens_in s class u (in_numbers x))
  tests_low =
      all_map (TestKnown s) (λ p. p < patterns_most) (λ p y. omega (arith, y.known, ready.checked.ok.is_counted.patterns_most_holds)) (opens_in s class u (in_numbers x)) tests_there

  pub case_opens_room : length (put_tests s (gather (opened_tests s) (opens_in s class u (in_numbers x))) []) ≤ patterns_most
  case_opens_room = omega (arith, opened_few)

  pub case_rest_room : {o : Classes} → Holds o (put_tests s (gather (opened_tests s) (opens_in s class u (in_numbers x))) []) → o.count + x.columns.count ≤ suc patterns_most
  case_rest_room h = omega (arith, opened_few, holds_count h)

  -- ---- a case of what its parts are
  module _ {joined opens : PerRow} (is : JoinsTo joined opens (join_of (joins_case s u) (live_in s x.opened class) (numbers_in x.rows)) (opens_of (joins_case s u) (live_in s x.opened class) (numbers_in x.rows))) where
    opens_are : numbers_in opens ≡ opens_in s class u (in_numbers x)
    unfolding opens_in
    opens_are = is.has_opens.are

    pub joined_there : All (TestKnown s) (numbers_in opens)
    joined_there = rw opens_are tests_there

    pub joined_low : All (λ p. p < patterns_most) (numbers_in opens)
    joined_low = rw opens_are tests_low

    pub joined_room : length (put_tests s (gather (opened_tests s) (numbers_in opens)) []) ≤ patterns_most
    joined_room = rw opens_are case_opens_room

    module _ {o : Classes} (h : Holds o (put_tests s (gather (opened_tests s) (numbers_in opens)) [])) where
      opened_are : Holds o (put_tests s (gather (opened_tests s) (opens_in s class u (in_numbers x))) [])
      opened_are = holds_same h (ap (λ (ps : List ℕ). put_tests s (gather (opened_tests s) ps) []) opens_are)

      pub joined_rest : o.count + x.columns.count ≤ suc patterns_most
      joined_rest = case_rest_room opened_are

      pub case_stands : {columns tested : Classes} {opened : List ℕ} → Holds columns (classes_in o ++ without_class class (classes_in x.columns))
          → Holds tested (classes_in x.tested ++ class ∷ []) → opened ≡ marked (x.tested.count + 1) x.opened (numbers_in opens)
          → StandsFor (record { rows = joined; columns = columns; tested = tested; opened = opened }) (case_numbered s class u (in_numbers x))
      unfolding case_numbered
      case_stands {columns} {tested} {opened} a b c =
          let marks : opened ≡ marked (length (classes_in x.tested) + 1) x.opened (opens_in s class u (in_numbers x)) =
          c ∙ ap₂ (λ (n : ℕ) (ps : List ℕ). marked (n + 1) x.opened ps) (holds_count whole.whole_tested) opens_are
          in
          stands_for (record { rows = joined; columns = columns; tested = tested; opened = opened }) (case_numbered s class u (in_numbers x))
          is.has_rows (holds_same a (ap (λ (l : List ℕ). l ++ without_class class (classes_in x.columns)) opened_are.are)) b marks
          (ap length marks ∙ (sound_case ready.checked.ok (in_numbers x) sound class there u).long)
