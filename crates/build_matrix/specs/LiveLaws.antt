-- What a row has in a column is what the numbers say, and the state of a row is kept: by the column that is tested, whether the row
-- has a wildcard there or a test that is opened, and by what is opened in other rows. Rests on MeetingLaws and on the rows of RowStates.
use Rattle.std.specs.Prelude.{◌≡◌, Bool, ltb, get_or, set, Some, None}
use Rattle.std.proofs.Math.Path.{refl, sym, ap}
use Rattle.std.proofs.Common.{ap₂, ◌∙◌, true≢false, length-append, get_or-set_same, get_or-set_other}
use Rattle.std.proofs.Math.Bool.{true, false}
use Rattle.std.proofs.lemmas.Bool.{false≢true}
use mathlib.Core.List.{List, [], ◌∷◌, ◌++◌, map, map-append, append_assoc, append-nil}
use Rattle.std.proofs.Math.Option.{Option, none, some}
use Prim.Native.Nat.{ℕ, zero, suc, ◌+◌, ◌-◌, ◌≤◌, ◌<◌}
use native.Mathlib.Omega.{arith}
use borrow.Author.Tests.{ltb-true, lt-ltb, eqb-true, eqb-false, eq-eqb, ne_eqb}
use Rattle.std.proofs.Math.Dec.{eqb}
use Rattle.std.proofs.Math.ListN.{length}
use Rattle.base_words.specs.Words.{both, pick}
use Rattle.base_words.specs.WordsLaws.{both_true, both_make, both_second_false}
use Rattle.spec_rules.specs.SheetFile.{patterns, clauses, root}
use Rattle.spec_rules.specs.Patterns.{Pat, clause_pattern}
use Rattle.spec_rules.specs.Rows.{Path, Cell, Binding, bit, bindings_of, opened_columns, opened_bindings, clause_row}
use Rattle.spec_rules.specs.Columns.{test_at}
use Rattle.spec_rules.specs.Splitting.{without_test, open_row}
use Rattle.spec_rules.specs.SplittingLaws.{All, either_none}
use Rattle.spec_rules.specs.Searching.{lowest}
use Rattle.spec_rules.specs.SearchingLaws.{lowest_some, lowest_none}
use Rattle.spec_accepted.specs.SheetFacts.{Accepted}
use Rattle.build_table.specs.Standing.{clause_of, path_of, owner_of, pattern_of, is_test, class_of, is_cell, cell_of}
use Rattle.build_table.specs.StandingLaws.{Owner, inside_none, inside_test, owner, owner_below}
use Rattle.build_table.specs.ClassLaws.{same_path_class_lem, same_class_path}
use Rattle.build_table.specs.Seen.{tests_of, opened_tests, cell_at}
use Rattle.build_matrix.specs.RowStates.{row_after, row_of, row_of_wild, row_of_test}
use Rattle.build_matrix.specs.Numbers.{copies, first_with, less_first, copies_append, first_with_some, first_with_none, copies_less_first, all_copies}
use Rattle.build_matrix.specs.Live.{available, is_live, live_cell, live_test, pattern_held, opened_cell, opened_test, bindings_held, bound_by, is_test_of, is_inside, is_live_of, IsClass, Lives, State}
use Rattle.build_matrix.specs.MeetingLaws.{Meeting}

-- ---- tests of a clause
pub record TestOf (s : List ℕ) (c p : ℕ) : Type 0 where
  pub known : p < patterns s
  pub test : is_test s p ≡ true
  pub clause : clause_of s p ≡ c

pub test_of_true : (s : List ℕ) (c p : ℕ) → is_test_of s c p ≡ true → TestOf s c p
unfolding is_test_of
test_of_true s c p h =
    let a = both_true (ltb p (patterns s)) (both (is_test s p) (eqb (clause_of s p) c)) h in
    let b = both_true (is_test s p) (eqb (clause_of s p) c) a.1 in
    record { known = ltb-true p (patterns s) a.0; test = b.0; clause = eqb-true (clause_of s p) c b.1 }

pub test_of_make : (s : List ℕ) (c p : ℕ) → TestOf s c p → is_test_of s c p ≡ true
unfolding is_test_of
test_of_make s c p t =
    both_make (ltb p (patterns s)) (both (is_test s p) (eqb (clause_of s p) c)) (lt-ltb p (patterns s) t.known)
    (both_make (is_test s p) (eqb (clause_of s p) c) t.test (eq-eqb (clause_of s p) c t.clause))

-- a number that is counted by a bit
bit_some : (b : Bool) (n : ℕ) → n ≡ bit b → 1 ≤ n → b ≡ true
unfolding bit
bit_some true n e l = refl
bit_some false n e l = absurd (omega arith)

bit_true : (b : Bool) → b ≡ true → bit b ≡ 1
unfolding bit
bit_true b e = rw e

-- ---- cells by number
abbrev same_class : List ℕ → ℕ → ℕ → Bool
same_class s k q = eqb (class_of s k) (class_of s q)

abbrev pattern_found : List ℕ → Option ℕ → Option Pat
pattern_found s none = none
pattern_found s (some p) = some (pattern_of s p)

abbrev Known : List ℕ → ℕ → Type 0
Known s q = q < patterns s

module _ (s : List ℕ) (k : ℕ) (known : k < patterns s) where
  test_at_numbers : (qs : List ℕ) → All (Known s) qs → test_at (path_of s k) (map (cell_at s) qs) ≡ pattern_found s (first_with (same_class s k) qs)
  unfolding test_at first_with
  test_at_numbers [] h = refl
  test_at_numbers (q ∷ qs) h = go (same_class s k q) refl (test_at_numbers qs h.1)
    where
      go : (b : Bool) → same_class s k q ≡ b → test_at (path_of s k) (map (cell_at s) qs) ≡ pattern_found s (first_with (same_class s k) qs)
          → test_at (path_of s k) (map (cell_at s) (q ∷ qs)) ≡ pattern_found s (first_with (same_class s k) (q ∷ qs))
      go true e ih = rw (same_path_class_lem s k q known h.0 ∙ e, test_at, e, first_with)
      go false e ih = rw (same_path_class_lem s k q known h.0 ∙ e, test_at, e, first_with) ih

  without_test_numbers : (qs : List ℕ) → All (Known s) qs → without_test (path_of s k) (map (cell_at s) qs) ≡ map (cell_at s) (less_first (same_class s k) qs)
  unfolding without_test less_first
  without_test_numbers [] h = refl
  without_test_numbers (q ∷ qs) h = go (same_class s k q) refl (without_test_numbers qs h.1)
    where
      go : (b : Bool) → same_class s k q ≡ b → without_test (path_of s k) (map (cell_at s) qs) ≡ map (cell_at s) (less_first (same_class s k) qs)
          → without_test (path_of s k) (map (cell_at s) (q ∷ qs)) ≡ map (cell_at s) (less_first (same_class s k) (q ∷ qs))
      go true e ih = rw (same_path_class_lem s k q known h.0 ∙ e, without_test, e, less_first)
      go false e ih = rw (same_path_class_lem s k q known h.0 ∙ e, without_test, e, less_first) (ap (λ (cs : List Cell). cell_at s q ∷ cs) ih)

-- ---- the cell of a clause and a class
pub record IsCell (s : List ℕ) (c class p : ℕ) : Type 0 where
  pub test_of : TestOf s c p
  pub class_of_holds : class_of s p ≡ class

is_cell_lem : (s : List ℕ) (c class p : ℕ) → p < patterns s → is_cell s c class p ≡ true → IsCell s c class p
unfolding is_cell
is_cell_lem s c class p known h =
    let a = both_true (is_test s p) (both (eqb (clause_of s p) c) (eqb (class_of s p) class)) h in
    let b = both_true (eqb (clause_of s p) c) (eqb (class_of s p) class) a.1 in
    record {
      test_of = record { known = known; test = a.0; clause = eqb-true (clause_of s p) c b.0 };
      class_of_holds = eqb-true (class_of s p) class b.1;
    }

pub cell_some : (s : List ℕ) (c class p : ℕ) → cell_of s c class ≡ suc p → IsCell s c class p
unfolding cell_of
cell_some s c class p e = go (lowest (is_cell s c class) 0 (patterns s)) refl e
  where
    go : (o : Option ℕ) → lowest (is_cell s c class) 0 (patterns s) ≡ o → cell_of s c class ≡ suc p → IsCell s c class p
    go none x y = let z : 0 ≡ suc p = rw x at y in absurd (omega arith)
    go (some q) x y =
        let z : q + 1 ≡ suc p = rw x at y in
        let d : q ≡ p = omega arith in
        let l = lowest_some (is_cell s c class) 0 (patterns s) p (x ∙ ap some d) in
        is_cell_lem s c class p (omega (arith, l.to)) l.has

-- the parts of being live
live_parts : (s opened : List ℕ) (c p : ℕ) → is_live_of s opened c p ≡ true → TestOf s c p × (is_live s opened p ≡ true)
unfolding is_live_of
live_parts s opened c p h = let a = both_true (is_test_of s c p) (is_live s opened p) h in (test_of_true s c p a.0, a.1)

pub record Live (s opened : List ℕ) (p : ℕ) : Type 0 where
  pub shut : get_or opened p 0 ≡ 0
  pub free : available s opened p ≡ true

pub live_true : (s opened : List ℕ) (p : ℕ) → is_live s opened p ≡ true → Live s opened p
unfolding is_live
live_true s opened p h =
    let a = both_true (eqb (get_or opened p 0) 0) (available s opened p) h in
    record { shut = eqb-true (get_or opened p 0) 0 a.0; free = a.1 }

pub live_make : (s opened : List ℕ) (p : ℕ) → Live s opened p → is_live s opened p ≡ true
unfolding is_live
live_make s opened p l = both_make (eqb (get_or opened p 0) 0) (available s opened p) (eq-eqb (get_or opened p 0) 0 l.shut) l.free

module _ {s : List ℕ} (m : Meeting s) where
  -- a test of the clause with the class is the one that is found
  pub cell_is : (c class p : ℕ) → IsCell s c class p → cell_of s c class ≡ suc p
  unfolding cell_of is_cell
  cell_is c class p x = go (lowest (is_cell s c class) 0 (patterns s)) refl
    where
      t : TestOf s c p
      t = x.test_of

      here : is_cell s c class p ≡ true
      here =
          both_make (is_test s p) (both (eqb (clause_of s p) c) (eqb (class_of s p) class)) t.test
          (both_make (eqb (clause_of s p) c) (eqb (class_of s p) class) (eq-eqb (clause_of s p) c t.clause) (eq-eqb (class_of s p) class x.class_of_holds))

      go : (o : Option ℕ) → lowest (is_cell s c class) 0 (patterns s) ≡ o → cell_of s c class ≡ suc p
      go none e = absurd (true≢false (sym here ∙ lowest_none (is_cell s c class) 0 (patterns s) e p (omega arith) (omega (arith, t.known))))
      go (some q) e =
          let l = lowest_some (is_cell s c class) 0 (patterns s) q e in
          let y = is_cell_lem s c class q (omega (arith, l.to)) l.has in
          let u = y.test_of in
          let d = m.one_test q p u.known t.known u.test t.test (u.clause ∙ sym t.clause) (y.class_of_holds ∙ sym x.class_of_holds) in
          rw e (omega arith)

  -- ---- a column by number
  module _ {opened : List ℕ} {c : ℕ} {cells : List Cell} (v : Lives s opened c cells) where
    here_live : (q : ℕ) → 1 ≤ copies q v.numbers → TestOf s c q × (is_live s opened q ≡ true)
    here_live q l = live_parts s opened c q (bit_some (is_live_of s opened c q) (copies q v.numbers) (v.once q) l)

    live_here : (q : ℕ) → TestOf s c q → is_live s opened q ≡ true → 1 ≤ copies q v.numbers
    unfolding is_live_of
    live_here q t l =
        let e = v.once q ∙ bit_true (is_live_of s opened c q) (both_make (is_test_of s c q) (is_live s opened q) (test_of_make s c q t) l) in
        omega arith

    numbers_known : All (Known s) v.numbers
    numbers_known = all_copies (Known s) v.numbers (λ q l. (here_live q l).0.known)

    module _ (k : ℕ) (known : k < patterns s) where
      -- the first of the numbers with the class is the live test
      found_live : (o : Option ℕ) → first_with (same_class s k) v.numbers ≡ o → pattern_found s o ≡ pattern_held s (live_test s opened c (class_of s k))
      unfolding live_test
      found_live (some p) e =
          let f = first_with_some (same_class s k) v.numbers p e in
          let l = here_live p f.1 in
          let x : IsCell s c (class_of s k) p = record { test_of = l.0; class_of_holds = sym (eqb-true (class_of s k) (class_of s p) f.0) } in
          rw (cell_is c (class_of s k) p x, l.1)
      found_live none e = go (cell_of s c (class_of s k)) refl
        where
          shut : (p : ℕ) → IsCell s c (class_of s k) p → is_live s opened p ≡ false
          shut p x = off (is_live s opened p) refl
            where
              off : (b : Bool) → is_live s opened p ≡ b → is_live s opened p ≡ false
              off false y = y
              off true y =
                  let z = first_with_none (same_class s k) v.numbers e p (live_here p x.test_of y) in
                  absurd (true≢false (sym (eq-eqb (class_of s k) (class_of s p) (sym x.class_of_holds)) ∙ z))

          go : (n : ℕ) → cell_of s c (class_of s k) ≡ n → ◌≡◌ {A = Option Pat} none (pattern_held s (live_cell s opened (cell_of s c (class_of s k))))
          go zero y = rw y
          go (suc p) y = rw (y, shut p (cell_some s c (class_of s k) p y))

      first_live : (p : ℕ) → IsCell s c (class_of s k) p → is_live s opened p ≡ true → first_with (same_class s k) v.numbers ≡ some p
      first_live p x on = go (first_with (same_class s k) v.numbers) refl
        where
          t : TestOf s c p
          t = x.test_of

          go : (o : Option ℕ) → first_with (same_class s k) v.numbers ≡ o → first_with (same_class s k) v.numbers ≡ some p
          go none e =
              let z = first_with_none (same_class s k) v.numbers e p (live_here p t on) in
              absurd (true≢false (sym (eq-eqb (class_of s k) (class_of s p) (sym x.class_of_holds)) ∙ z))
          go (some q) e =
              let f = first_with_some (same_class s k) v.numbers q e in
              let u = (here_live q f.1).0 in
              let d = m.one_test q p u.known t.known u.test t.test (u.clause ∙ sym t.clause) (sym (eqb-true (class_of s k) (class_of s q) f.0) ∙ sym x.class_of_holds) in
              e ∙ ap some d

      pub test_at_lem : test_at (path_of s k) cells ≡ pattern_held s (live_test s opened c (class_of s k))
      test_at_lem =
          ap (test_at (path_of s k)) v.are
          ∙ test_at_numbers s k known v.numbers numbers_known
          ∙ found_live (first_with (same_class s k) v.numbers) refl

-- ---- what is bound, in order
module _ (s opened : List ℕ) (c : ℕ) where
  bound_by_next : (time : ℕ) (classes : List ℕ) (class : ℕ)
      → bound_by s opened c time (classes ++ class ∷ []) ≡ bound_by s opened c time classes ++ bindings_held s (opened_test s opened c (time + length classes) class)
  unfolding bound_by
  bound_by_next time [] class =
      let e : time ≡ time + 0 = omega arith in
      append-nil (bindings_held s (opened_test s opened c time class)) ∙ ap (λ (t : ℕ). bindings_held s (opened_test s opened c t class)) e
  bound_by_next time (k ∷ classes) class =
      let e : time + 1 + length classes ≡ time + suc (length classes) = omega arith in
      ap (λ (bs : List Binding). bindings_held s (opened_test s opened c time k) ++ bs)
      (bound_by_next (time + 1) classes class ∙ ap (λ (t : ℕ). bound_by s opened c (time + 1) classes ++ bindings_held s (opened_test s opened c t class)) e)
      ∙ sym (append_assoc (bindings_held s (opened_test s opened c time k)) (bound_by s opened c (time + 1) classes) (bindings_held s (opened_test s opened c (time + suc (length classes)) class)))

-- two accounts of what is opened that name the same tests at each time
bound_by_same : (s a b : List ℕ) (c time : ℕ) (classes : List ℕ)
    → ((t class : ℕ) → t < time + length classes → opened_test s a c t class ≡ opened_test s b c t class)
    → bound_by s a c time classes ≡ bound_by s b c time classes
unfolding bound_by
bound_by_same s a b c time [] e = refl
bound_by_same s a b c time (k ∷ classes) e =
    ap₂ ◌++◌ (ap (bindings_held s) (e time k (omega arith))) (bound_by_same s a b c (time + 1) classes (λ t class l. e t class (omega arith)))

opened_test_not : (s opened : List ℕ) (c time class : ℕ) → ((p : ℕ) → IsCell s c class p → get_or opened p 0 ≡ time + 1 → ⊥)
    → opened_test s opened c time class ≡ None
unfolding opened_test
opened_test_not s opened c time class h = go (cell_of s c class) refl
  where
    go : (n : ℕ) → cell_of s c class ≡ n → opened_cell opened time (cell_of s c class) ≡ None
    go zero e = rw e
    go (suc p) e = rw (e, ne_eqb (get_or opened p 0) (time + 1) (h p (cell_some s c class p e)))

pub opened_test_lem : (s opened : List ℕ) (c time class p : ℕ) → opened_test s opened c time class ≡ Some p → IsCell s c class p
unfolding opened_test
opened_test_lem s opened c time class p e = go (cell_of s c class) refl
  where
    found : (q : ℕ) → cell_of s c class ≡ suc q → (b : Bool) → pick b (Some q) None ≡ Some p → IsCell s c class p
    found q x true z = let d : q ≡ p = cc in cell_some s c class p (x ∙ ap suc d)
    found q x false z = let w : ◌≡◌ {A = ℕ} 0 1 = cc in absurd (omega arith)

    go : (n : ℕ) → cell_of s c class ≡ n → IsCell s c class p
    go zero x = let w : None ≡ Some p = rw x at e in let z : ◌≡◌ {A = ℕ} 0 1 = cc in absurd (omega arith)
    go (suc q) x = found q x (eqb (get_or opened q 0) (time + 1)) (rw x at e)

opened_test_same : (s a b : List ℕ) (c time class : ℕ) → ((p : ℕ) → IsCell s c class p → eqb (get_or a p 0) (time + 1) ≡ eqb (get_or b p 0) (time + 1))
    → opened_test s a c time class ≡ opened_test s b c time class
unfolding opened_test
opened_test_same s a b c time class h = go (cell_of s c class) refl
  where
    go : (n : ℕ) → cell_of s c class ≡ n → opened_cell a time (cell_of s c class) ≡ opened_cell b time (cell_of s c class)
    go zero e = rw e
    go (suc p) e = rw (e, h p (cell_some s c class p e))

-- ---- a state by what is opened in its own clause
module _ {s : List ℕ} (ok : Accepted s) where
  -- the test that a pattern is inside of is of its own clause
  owner_clause : (q w : ℕ) → q < patterns s → owner_of s q ≡ suc w → (w < patterns s) × (clause_of s w ≡ clause_of s q)
  owner_clause q w h e = go (owner ok.is_shaped ok.is_counted q h)
    where
      go : Owner s q → (w < patterns s) × (clause_of s w ≡ clause_of s q)
      go (inside_none x) = absurd (omega arith)
      go (inside_test u x l t x2) = let d : u ≡ w = omega arith in (omega arith, ap (clause_of s) (sym d) ∙ x2)

  module _ (a b : List ℕ) (c : ℕ) (agree : (q : ℕ) → q < patterns s → clause_of s q ≡ c → get_or a q 0 ≡ get_or b q 0) where
    available_agree : (q : ℕ) → q < patterns s → clause_of s q ≡ c → available s a q ≡ available s b q
    unfolding available
    available_agree q h e = go (owner_of s q) refl
      where
        go : (n : ℕ) → owner_of s q ≡ n → available s a q ≡ available s b q
        go zero x = rw x
        go (suc w) x =
            let y = owner_clause q w h x in
            let d : owner_of s q - 1 ≡ w = omega arith in
            rw (d, agree w y.0 (y.1 ∙ e))

    live_agree : (q : ℕ) → is_live_of s a c q ≡ is_live_of s b c q
    unfolding is_live_of is_live
    live_agree q = go (is_test_of s c q) refl
      where
        go : (x : Bool) → is_test_of s c q ≡ x → is_live_of s a c q ≡ is_live_of s b c q
        go false e = rw e
        go true e =
            let t = test_of_true s c q e in
            rw (e, agree q t.known t.clause, available_agree q t.known t.clause)

    pub state_agree : (tested : List ℕ) → State s tested a c → State s tested b c
    state_agree tested st = record {
      tests = record { numbers = st.tests.numbers; are = st.tests.are; once = λ q. st.tests.once q ∙ ap bit (live_agree q) };
      bindings =
          st.bindings
          ∙ ap (λ (bs : List Binding). bindings_of [] (clause_pattern s c) ++ bs)
          (bound_by_same s a b c 0 tested
          (λ t class l. opened_test_same s a b c t class (λ p x. ap (λ (n : ℕ). eqb n (t + 1)) (agree p x.test_of.known x.test_of.clause))));
      closed = λ q h e n. sym (available_agree q h e) ∙ st.closed q h e (λ z. n (sym (agree q h e) ∙ z));
      timely = λ q h e. rw (← agree q h e) (st.timely q h e);
    }

-- ---- opening one test
-- of the test p, which is not opened, at the time v
module _ (s opened : List ℕ) (p v : ℕ) (room : p < length opened) (some_time : v ≡ 0 → ⊥) (shut : get_or opened p 0 ≡ 0) where
  pub after_there : get_or (set opened p v) p 0 ≡ v
  after_there = get_or-set_same opened p v 0 room

  pub after_other : (q : ℕ) → (q ≡ p → ⊥) → get_or (set opened p v) q 0 ≡ get_or opened q 0
  after_other q h = get_or-set_other opened p q v 0 h

  pub inside_shut : (q : ℕ) → owner_of s q ≡ p + 1 → available s opened q ≡ false
  unfolding available
  inside_shut q e =
      let d : p + 1 - 1 ≡ p = omega arith in
      rw (e, ne_eqb (p + 1) 0 (λ z. omega arith), d, shut)

  pub inside_free : (q : ℕ) → owner_of s q ≡ p + 1 → available s (set opened p v) q ≡ true
  unfolding available
  inside_free q e =
      let d : p + 1 - 1 ≡ p = omega arith in
      rw (e, ne_eqb (p + 1) 0 (λ z. omega arith), d, after_there, ne_eqb v 0 some_time)

  pub elsewhere : (q : ℕ) → (owner_of s q ≡ p + 1 → ⊥) → available s (set opened p v) q ≡ available s opened q
  unfolding available
  elsewhere q n = go (owner_of s q) refl
    where
      go : (w : ℕ) → owner_of s q ≡ w → available s (set opened p v) q ≡ available s opened q
      go zero x = rw x
      go (suc w) x =
          let d : owner_of s q - 1 ≡ w = omega arith in
          rw (d, after_other w (λ z. n (omega arith)))

  pub still_free : (q : ℕ) → available s opened q ≡ true → available s (set opened p v) q ≡ true
  still_free q e = go (eqb (owner_of s q) (p + 1)) refl
    where
      go : (b : Bool) → eqb (owner_of s q) (p + 1) ≡ b → available s (set opened p v) q ≡ true
      go true x = inside_free q (eqb-true (owner_of s q) (p + 1) x)
      go false x = elsewhere q (eqb-false (owner_of s q) (p + 1) x) ∙ e

  pub not_inside : (q : ℕ) → (owner_of s q ≡ p + 1 → ⊥) → is_inside s p q ≡ false
  unfolding is_inside
  not_inside q n =
      both_second_false (ltb q (patterns s)) (both (is_test s q) (eqb (owner_of s q) (p + 1)))
      (both_second_false (is_test s q) (eqb (owner_of s q) (p + 1)) (ne_eqb (owner_of s q) (p + 1) n))

  -- p is of clause c, in whose row it is live
  module _ (ok : Accepted s) (c : ℕ) (t : TestOf s c p) (l : Live s opened p)
      (closed : (q : ℕ) → q < patterns s → clause_of s q ≡ c → (get_or opened q 0 ≡ 0 → ⊥) → available s opened q ≡ true) where
    inside_true : (q : ℕ) → is_inside s p q ≡ true → TestOf s c q × (owner_of s q ≡ p + 1)
    unfolding is_inside
    inside_true q h =
        let a = both_true (ltb q (patterns s)) (both (is_test s q) (eqb (owner_of s q) (p + 1))) h in
        let b = both_true (is_test s q) (eqb (owner_of s q) (p + 1)) a.1 in
        let known = ltb-true q (patterns s) a.0 in
        let e = eqb-true (owner_of s q) (p + 1) b.1 in
        let w = owner_clause ok q p known (omega arith) in
        (record { known = known; test = b.0; clause = sym w.1 ∙ t.clause }, e)

    inside_make : (q : ℕ) → TestOf s c q → owner_of s q ≡ p + 1 → is_inside s p q ≡ true
    unfolding is_inside
    inside_make q u e =
        both_make (ltb q (patterns s)) (both (is_test s q) (eqb (owner_of s q) (p + 1))) (lt-ltb q (patterns s) u.known)
        (both_make (is_test s q) (eqb (owner_of s q) (p + 1)) u.test (eq-eqb (owner_of s q) (p + 1) e))

    no_test_inside : (q : ℕ) → is_test_of s c q ≡ false → is_inside s p q ≡ false
    no_test_inside q x = go (is_inside s p q) refl
      where
        go : (b : Bool) → is_inside s p q ≡ b → is_inside s p q ≡ false
        go true y = absurd (true≢false (sym (test_of_make s c q (inside_true q y).0) ∙ x))
        go false y = y

    -- what is inside p was not opened before p
    inside_unopened : (q : ℕ) → TestOf s c q → owner_of s q ≡ p + 1 → get_or opened q 0 ≡ 0
    inside_unopened q u e = go (get_or opened q 0) refl
      where
        go : (n : ℕ) → get_or opened q 0 ≡ n → get_or opened q 0 ≡ 0
        go zero x = x
        go (suc n) x = absurd (false≢true (sym (inside_shut q e) ∙ closed q u.known u.clause (λ z. omega arith)))

    -- the tests inside p come, p goes, the others stay
    opening_bits : (q : ℕ) → bit (is_inside s p q) + bit (is_live_of s opened c q) ≡ bit (eqb q p) + bit (is_live_of s (set opened p v) c q)
    unfolding bit is_live_of is_live
    opening_bits q = same (eqb q p) refl
      where
        others : (q ≡ p → ⊥) → TestOf s c q → (b : Bool) → eqb (owner_of s q) (p + 1) ≡ b
            → bit (is_inside s p q) + bit (is_live s opened q) ≡ bit (is_live s (set opened p v) q)
        others n u true x =
            let e = eqb-true (owner_of s q) (p + 1) x in
            rw (inside_make q u e, after_other q n, inside_unopened q u e, inside_shut q e, inside_free q e)
        others n u false x =
            let e = eqb-false (owner_of s q) (p + 1) x in
            rw (not_inside q e, after_other q n, elsewhere q e) (omega arith)

        apart : (q ≡ p → ⊥) → (b : Bool) → is_test_of s c q ≡ b → bit (is_inside s p q) + bit (is_live_of s opened c q) ≡ 0 + bit (is_live_of s (set opened p v) c q)
        apart n true x = let u = test_of_true s c q x in rw x (omega (arith, others n u (eqb (owner_of s q) (p + 1)) refl))
        apart n false x = rw (x, no_test_inside q x)

        same : (b : Bool) → eqb q p ≡ b → bit (is_inside s p q) + bit (is_live_of s opened c q) ≡ bit b + bit (is_live_of s (set opened p v) c q)
        same true x =
            let d = eqb-true q p x in
            let low = owner_below ok.is_shaped ok.is_counted p t.known in
            rw (d, not_inside p (λ e. omega arith), test_of_make s c p t, live_make s opened p l, after_there, ne_eqb v 0 some_time)
        same false x = apart (eqb-false q p x) (is_test_of s c q) refl

-- ---- a live test is the clause's cell, and is live
pub live_test_lem : (s opened : List ℕ) (c class p : ℕ) → live_test s opened c class ≡ Some p → IsCell s c class p × Live s opened p
unfolding live_test
live_test_lem s opened c class p e = go (cell_of s c class) refl
  where
    found : (q : ℕ) → cell_of s c class ≡ suc q → (b : Bool) → is_live s opened q ≡ b → pick b (Some q) None ≡ Some p → IsCell s c class p × Live s opened p
    found q x true y z =
        let d : q ≡ p = cc in
        (cell_some s c class p (x ∙ ap suc d), live_true s opened p (ap (is_live s opened) (sym d) ∙ y))
    found q x false y z = let w : ◌≡◌ {A = ℕ} 0 1 = cc in absurd (omega arith)

    go : (n : ℕ) → cell_of s c class ≡ n → IsCell s c class p × Live s opened p
    go zero x = let w : None ≡ Some p = rw x at e in let z : ◌≡◌ {A = ℕ} 0 1 = cc in absurd (omega arith)
    go (suc q) x = found q x (is_live s opened q) refl (rw x at e)

pub paths_next : (s : List ℕ) (tested : List ℕ) (k : ℕ) → map (path_of s) (tested ++ k ∷ []) ≡ map (path_of s) tested ++ path_of s k ∷ []
paths_next s [] k = refl
paths_next s (z ∷ tested) k = ap (λ (ps : List Path). path_of s z ∷ ps) (paths_next s tested k)

pub length_next : (tested : List ℕ) (k : ℕ) → length (tested ++ k ∷ []) ≡ length tested + 1
length_next tested k = length-append tested (k ∷ [])

module _ {s : List ℕ} (ok : Accepted s) (m : Meeting s) where
  -- before any test
  pub state_first : (opened : List ℕ) → ((q : ℕ) → get_or opened q 0 ≡ 0) → (c : ℕ) → c < clauses s → State s [] opened c
  unfolding row_of row_after clause_row bound_by is_live_of is_live available
  state_first opened none_opened c h = record {
    tests = record { numbers = tests_of s (root s c); are = m.root_cells c h; once = λ q. m.root_once c q h ∙ ap bit (live_first q) };
    bindings = sym (append-nil (bindings_of [] (clause_pattern s c)));
    closed = λ q l e n. absurd (n (none_opened q));
    timely = λ q l e. rw (none_opened q) (omega arith);
  }
    where
      live_first : (q : ℕ) → both (is_test_of s c q) (eqb (owner_of s q) 0) ≡ is_live_of s opened c q
      live_first q = rw (none_opened q, none_opened (owner_of s q - 1), either_none (eqb (owner_of s q) 0))

  module _ (tested opened : List ℕ) (c k : ℕ) (class : IsClass s k) (st : State s tested opened c) where
    -- what the row has in the column
    pub held : test_at (path_of s k) (row_of s (map (path_of s) tested) c).tests ≡ pattern_held s (live_test s opened c k)
    held = test_at_lem m st.tests k class.known ∙ ap (λ (n : ℕ). pattern_held s (live_test s opened c n)) class.itself

    pub state_wild : live_test s opened c k ≡ None → State s (tested ++ k ∷ []) opened c
    state_wild e = record {
      tests = rw same st.tests;
      bindings =
          rw same
          (st.bindings
          ∙ ap (λ (bs : List Binding). bindings_of [] (clause_pattern s c) ++ bs)
          (sym (bound_by_next s opened c 0 tested k ∙ rw none_bound (append-nil (bound_by s opened c 0 tested)))));
      closed = st.closed;
      timely = λ q h x. omega (arith, st.timely q h x, length_next tested k);
    }
      where
        same : row_of s (map (path_of s) (tested ++ k ∷ [])) c ≡ row_of s (map (path_of s) tested) c
        same = ap (λ (ps : List Path). row_of s ps c) (paths_next s tested k) ∙ row_of_wild s (map (path_of s) tested) (path_of s k) c (held ∙ ap (pattern_held s) e)

        none_bound : opened_test s opened c (0 + length tested) k ≡ None
        none_bound = opened_test_not s opened c (0 + length tested) k (λ p x z. omega (arith, st.timely p x.test_of.known x.test_of.clause))

    pub state_open : patterns s ≤ length opened → (p : ℕ) → live_test s opened c k ≡ Some p → State s (tested ++ k ∷ []) (set opened p (length tested + 1)) c
    unfolding open_row
    state_open long p e = record {
      tests = rw same (record { numbers = next; are = cells; once = counted });
      bindings = rw same (ap₂ ◌++◌ st.bindings opens_bindings ∙ regroup);
      closed = λ q h x n. still_closed q h x n (eqb q p) refl;
      timely = λ q h x. omega (arith, length_next tested k, still_timely q h x (eqb q p) refl);
    }
      where
        v : ℕ
        v = length tested + 1

        some_time : v ≡ 0 → ⊥
        some_time z = omega arith

        l : IsCell s c k p × Live s opened p
        l = live_test_lem s opened c k p e

        t : TestOf s c p
        t = l.0.test_of

        room : p < length opened
        room = omega (arith, t.known)

        shut : get_or opened p 0 ≡ 0
        shut = l.1.shut

        path : path_of s k ≡ path_of s p
        path = same_class_path s k p class.known t.known (class.itself ∙ sym l.0.class_of_holds)

        same : row_of s (map (path_of s) (tested ++ k ∷ [])) c ≡ open_row (path_of s k) (pattern_of s p) (row_of s (map (path_of s) tested) c)
        same =
            ap (λ (ps : List Path). row_of s ps c) (paths_next s tested k)
            ∙ row_of_test s (map (path_of s) tested) (path_of s k) c (pattern_of s p) (held ∙ ap (pattern_held s) e)

        first : first_with (same_class s k) st.tests.numbers ≡ some p
        first =
            first_live m st.tests k class.known p (record { test_of = t; class_of_holds = l.0.class_of_holds ∙ sym class.itself }) (live_make s opened p l.1)

        next : List ℕ
        next = opened_tests s p ++ less_first (same_class s k) st.tests.numbers

        cells : opened_columns (path_of s k) (pattern_of s p) ++ without_test (path_of s k) (row_of s (map (path_of s) tested) c).tests ≡ map (cell_at s) next
        cells =
            let opens : opened_columns (path_of s k) (pattern_of s p) ≡ map (cell_at s) (opened_tests s p) = rw path (m.opened_cells p t.known t.test) in
            ap₂ ◌++◌ opens
            (ap (without_test (path_of s k)) st.tests.are ∙ without_test_numbers s k class.known st.tests.numbers (numbers_known m st.tests))
            ∙ sym (map-append (cell_at s) (opened_tests s p) (less_first (same_class s k) st.tests.numbers))

        counted : (q : ℕ) → copies q next ≡ bit (is_live_of s (set opened p v) c q)
        counted q =
            omega (
              arith,
              copies_append q (opened_tests s p) (less_first (same_class s k) st.tests.numbers),
              m.opened_once p q t.known t.test,
              copies_less_first (same_class s k) st.tests.numbers p q first,
              st.tests.once q,
              opening_bits s opened p v room some_time shut ok c t l.1 st.closed q,
            )

        after : get_or (set opened p v) p 0 ≡ v
        after = after_there s opened p v room some_time shut

        other : (q : ℕ) → (q ≡ p → ⊥) → get_or (set opened p v) q 0 ≡ get_or opened q 0
        other = after_other s opened p v room some_time shut

        -- p was not opened at an earlier time, and is opened now
        earlier : (time z : ℕ) → time < 0 + length tested → opened_test s (set opened p v) c time z ≡ opened_test s opened c time z
        earlier time z h = opened_test_same s (set opened p v) opened c time z (λ q x. at_time q (eqb q p) refl)
          where
            at_time : (q : ℕ) (b : Bool) → eqb q p ≡ b → eqb (get_or (set opened p v) q 0) (time + 1) ≡ eqb (get_or opened q 0) (time + 1)
            at_time q true y =
                let d = eqb-true q p y in
                rw (d, after, l.1.shut, ne_eqb v (time + 1) (λ w. omega arith), ne_eqb 0 (time + 1) (λ w. omega arith))
            at_time q false y = rw (other q (eqb-false q p y))

        now : opened_test s (set opened p v) c (0 + length tested) k ≡ Some p
        now =
            unfold opened_test in (rw (cell_is m c k p l.0, after, eq-eqb v (0 + length tested + 1) (omega arith)))

        bound : bound_by s opened c 0 tested ++ opened_bindings (path_of s p) (pattern_of s p) ≡ bound_by s (set opened p v) c 0 (tested ++ k ∷ [])
        bound =
            sym (bound_by_next s (set opened p v) c 0 tested k
            ∙ ap₂ ◌++◌ (bound_by_same s (set opened p v) opened c 0 tested earlier) (ap (bindings_held s) now))

        opens_bindings : opened_bindings (path_of s k) (pattern_of s p) ≡ opened_bindings (path_of s p) (pattern_of s p)
        opens_bindings = rw path

        regroup : (bindings_of [] (clause_pattern s c) ++ bound_by s opened c 0 tested) ++ opened_bindings (path_of s p) (pattern_of s p)
            ≡ bindings_of [] (clause_pattern s c) ++ bound_by s (set opened p v) c 0 (tested ++ k ∷ [])
        regroup =
            append_assoc (bindings_of [] (clause_pattern s c)) (bound_by s opened c 0 tested) (opened_bindings (path_of s p) (pattern_of s p))
            ∙ ap (λ (bs : List Binding). bindings_of [] (clause_pattern s c) ++ bs) bound

        still_closed : (q : ℕ) → q < patterns s → clause_of s q ≡ c → (get_or (set opened p v) q 0 ≡ 0 → ⊥) → (b : Bool) → eqb q p ≡ b → available s (set opened p v) q ≡ true
        still_closed q h x n true y = still_free s opened p v room some_time shut q (rw (← eqb-true q p y) at l.1.free)
        still_closed q h x n false y =
            still_free s opened p v room some_time shut q (st.closed q h x (λ z. n (other q (eqb-false q p y) ∙ z)))

        still_timely : (q : ℕ) → q < patterns s → clause_of s q ≡ c → (b : Bool) → eqb q p ≡ b → get_or (set opened p v) q 0 ≤ v
        still_timely q h x true y = let d = eqb-true q p y in rw (d, after) (omega arith)
        still_timely q h x false y = rw (other q (eqb-false q p y)) (omega (arith, st.timely q h x))
