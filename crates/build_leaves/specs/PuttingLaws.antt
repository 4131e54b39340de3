-- What is put at each way through the code, over plain values as it has them: a pattern's bindings by its kind, those of its children one
-- after the other, what a test opened. Rests on what is seen at a pattern, one level at a time.
use Rattle.std.specs.Prelude.{◌≡◌, refl, ◌⊎◌, Bool, List, [], ◌∷◌, ◌++◌, ℕ, suc, ◌+◌, ◌-◌, ◌*◌, ◌≤◌, ◌<◌, eqb, length, get_or, take}
use Rattle.std.proofs.Common.{sym, ap, ap₂, ◌∙◌, inl, inr, append-nil, arith}
use Rattle.std.proofs.Math.Bool.{true, false}
use borrow.Author.Tests.{eq-eqb, ne_eqb, eqb-true, eqb-false}
use Rattle.std.proofs.Math.Seq.{slice}
use Rattle.base_words.specs.Words.{pick}
use Rattle.base_words.specs.WordsLaws.{pick_true, pick_false}
use Rattle.spec_rules.specs.Limits.{patterns_most}
use Rattle.spec_rules.specs.Kinds.{discard_pattern, variable_pattern, assign_pattern, constructor_pattern, tuple_pattern}
use Rattle.spec_rules.specs.SheetFile.{patterns, clauses, pattern_kind, pattern_first, pattern_count, child, root}
use Rattle.spec_rules.specs.Patterns.{pattern_kind_of}
use Rattle.spec_rules.specs.SheetRefusals.{has_children}
use Rattle.spec_rules.specs.SplittingLaws.{All}
use Rattle.spec_accepted.specs.SheetFacts.{Counted, Parent, Owns, Shaped, Accepted, assign_parent, many_parent, owned_pattern}
use Rattle.format_sheet.specs.declared.SheetMap.{SheetMap}
use Rattle.format_sheet.specs.declared.records.PatternRecord.{PatternRecord}
use Rattle.format_sheet.specs.declared.records.Run.{Run}
use Rattle.format_sheet.specs.Records.{pattern_of}
use Rattle.format_sheet.specs.SectionsLaws.{mapped}
use Rattle.format_sheet.specs.Shape.{children_first, children_count, children_of}
use Rattle.format_sheet.specs.CollectLaws.{run_owned}
use Rattle.build_table.specs.Standing.{kind_of, owner_of, is_test, cell_of}
use Rattle.build_table.specs.StandingLaws.{child_owner, owner_below}
use Rattle.build_table.specs.Seen.{inside_of, binds_of, binds_of_each, opened_binds}
use Rattle.build_table.specs.SeenLaws.{no_test_of_plain, binds_a_name, binds_no_name, binds_of_test, binds_of_name, binds_of_parts, opened_binds_each, binds_discard, binds_variable, binds_text_or_list, binds_each_none, binds_each_some}
use Rattle.build_table.specs.Table.{owner_at, cells_at}
use Rattle.build_table.specs.Tabled.{Tabled}
use Rattle.build_matrix.specs.declared.Matrix.{Matrix}
use Rattle.build_matrix.specs.Live.{opened_test, IsClass}
use Rattle.build_matrix.specs.LiveLaws.{cell_some}
use Rattle.build_matrix.specs.Bound.{numbers_held, opened_numbers, leaf_numbers}
use Rattle.build_matrix.specs.InNumbersLaws.{rising_below}
use Rattle.build_matrix.specs.ReadingLaws.{all_at, slice_on, slice_end}
use Rattle.build_matrix.specs.Ready.{ReadyTable}
use Rattle.build_matrix.specs.Lists.{numbers_in, classes_in}
use Rattle.build_leaves.specs.declared.Given.{Given}
use Rattle.build_leaves.specs.Bindings.{Bound, bound, bound_one, bound_all, own_of, first_clause, Room, Started, Entries, Parts, Gives, LeafAsked, WithRow}
use Rattle.build_leaves.specs.BindingsLaws.{bound_none, bound_single, bound_append, bound_top, bound_length}

-- ---- the store, by its answers
module _ (s : List ℕ) (x y : Bound) where
  pub put_one : (p : ℕ) → y ≡ bound_one s x p → y ≡ bound_all s x (p ∷ [])
  put_one p e = e ∙ sym (bound_single s x p)

  pub put_run : (qs rs : List ℕ) → rs ≡ qs → y ≡ bound_all s x qs → y ≡ bound_all s x rs
  put_run qs rs e f = f ∙ ap (bound_all s x) (sym e)

  pub put_more : (z : Bound) (qs rs all : List ℕ) → all ≡ qs ++ rs → y ≡ bound_all s x qs → z ≡ bound_all s y rs → z ≡ bound_all s x all
  put_more z qs rs all e f g = g ∙ ap (λ (v : Bound). bound_all s v rs) f ∙ sym (bound_append s x qs rs) ∙ ap (bound_all s x) (sym e)

pub put_turn : (s : List ℕ) (x y : Bound) (qs rs all : List ℕ) → all ≡ qs ++ rs → y ≡ bound_all s x qs → bound_all s y rs ≡ bound_all s x all
put_turn s x y qs rs all e f = ap (λ (v : Bound). bound_all s v rs) f ∙ sym (bound_append s x qs rs) ∙ ap (bound_all s x) (sym e)

pub put_nothing : (s : List ℕ) (x : Bound) (all : List ℕ) → all ≡ [] → x ≡ bound_all s x all
put_nothing s x all e = sym (ap (bound_all s x) e ∙ bound_none s x)

pub length_after : (s w w' : List ℕ) (top r : ℕ) (qs : List ℕ) → bound w' r ≡ bound_all s (bound w top) qs → length w' ≡ length w
length_after s w w' top r qs e = ap (λ (x : Bound). length x.work) e ∙ bound_length s (bound w top) qs

pub room_after : (s w w' : List ℕ) (top r : ℕ) (qs : List ℕ) → Room w top → bound w' r ≡ bound_all s (bound w top) qs → Room w' r
room_after s w w' top r qs h e =
    let most = ap (λ (x : Bound). x.top) e ∙ bound_top s (bound w top) qs h.most in
    record { long = omega (arith, h.long, length_after s w w' top r qs e); most = omega arith }

-- ---- where the records are
pub started : {s : List ℕ} {m : SheetMap} {t : List ℕ} → ReadyTable s m t → Started s t m.patterns.start m.children.start
started {s = s} {m = m} ready =
    let at = mapped s m ready.checked.is_map in
    record { ok = ready.checked.ok; tabled = ready.tabled; from_patterns = at.at_patterns; from_children = at.at_children }

-- ---- the bindings of pattern p, by what was read of it
module _ (s : List ℕ) (ok : Accepted s) (p : ℕ) where
  sh : Shaped s
  sh = ok.is_shaped

  few : Counted s
  few = ok.is_counted

  -- its own name at most
  own_gives : p < patterns s → (named : Bool) → binds_of s p ≡ own_of named p → Gives s p (record { named = named; first = 0; count = 0 })
  own_gives h named e =
      record {
        entries = record { known = h; owns = λ i from to. absurd (omega arith) };
        these = e ∙ sym (ap (λ (l : List ℕ). own_of named p ++ l) (binds_each_none s 0) ∙ append-nil (own_of named p));
      }

  -- and all its children
  all_give : p < patterns s → Parent s p → (named : Bool) (first count : ℕ) → first ≡ pattern_first s p → count ≡ pattern_count s p → binds_of s p ≡ own_of named p ++ opened_binds s p
      → Gives s p (record { named = named; first = first; count = count })
  all_give h parent named first count is_first is_count e =
      record {
        entries = record { known = h; owns = λ i from to. record { parent = parent; from = omega (arith, is_first); to = omega (arith, is_first, is_count) } };
        these = e ∙ ap (λ (l : List ℕ). own_of named p ++ l) (opened_binds_each sh few p h parent ∙ ap₂ (binds_of_each s) (sym is_first) (sym is_count));
      }

  pub nothing_more : (g : Given) → Gives s p g → g.count ≡ 0 → binds_of s p ≡ own_of g.named p
  nothing_more g x e =
      x.these ∙ ap (λ (l : List ℕ). own_of g.named p ++ l) (ap (binds_of_each s g.first) e ∙ binds_each_none s g.first) ∙ append-nil (own_of g.named p)

  -- ---- by its kind
  module _ (h : p < patterns s) (r : PatternRecord) (is : r ≡ pattern_of s p) where
    kind_is : r.kind ≡ pattern_kind s p
    kind_is = ap (λ (x : PatternRecord). x.kind) is

    pub variable_gives : r.kind ≡ variable_pattern → Gives s p (record { named = true; first = 0; count = 0 })
    variable_gives k = own_gives h true (binds_variable sh few p h (sym kind_is ∙ k))

    pub assign_gives : r.kind ≡ assign_pattern → Gives s p (record { named = true; first = r.first; count = r.count })
    assign_gives k =
        let e = sym kind_is ∙ k in
        all_give h (assign_parent s p e) true r.first r.count (ap (λ (x : PatternRecord). x.first) is) (ap (λ (x : PatternRecord). x.count) is)
        (binds_of_name sh few p h (no_test_of_plain s p (omega arith)) (binds_a_name s p (omega arith) (omega arith)))

    pub parts_here : constructor_pattern ≤ r.kind → r.kind < suc tuple_pattern → Parts s p r.first r.count
    parts_here low high =
        record {
          known = h;
          parent = many_parent s p (omega (arith, kind_is)) (omega (arith, kind_is));
          nameless = binds_no_name s p (inr (omega (arith, kind_is)));
          is_first = ap (λ (x : PatternRecord). x.first) is;
          is_count = ap (λ (x : PatternRecord). x.count) is;
        }

    pub others_give : (r.kind ≡ variable_pattern → ⊥) → (r.kind ≡ assign_pattern → ⊥) → (r.kind < constructor_pattern) ⊎ (tuple_pattern < r.kind) → Gives s p (record { named = false; first = 0; count = 0 })
    others_give n1 n2 (inr high) = absurd (omega (arith, kind_is, sh.pattern_kind_holds p h))
    others_give n1 n2 (inl low) = own_gives h false (go (eqb r.kind discard_pattern) refl)
      where
        go : (b : Bool) → eqb r.kind discard_pattern ≡ b → binds_of s p ≡ []
        go true e = binds_discard sh few p h (sym kind_is ∙ eqb-true r.kind discard_pattern e)
        go false e = binds_text_or_list sh few p h (omega (arith, kind_is, eqb-false r.kind discard_pattern e)) (omega (arith, kind_is))

  -- ---- of a constructor, pair or tuple
  module _ (first count : ℕ) (x : Parts s p first count) where
    open_parts : is_test s p ≡ false → binds_of s p ≡ opened_binds s p
    open_parts e = binds_of_parts sh few p x.known e x.nameless

    pub none_give : count ≡ 0 → Gives s p (record { named = false; first = 0; count = 0 })
    none_give e = own_gives x.known false (go (is_test s p) refl)
      where
        go : (b : Bool) → is_test s p ≡ b → binds_of s p ≡ []
        go true y = binds_of_test sh few p x.known y
        go false y =
            open_parts y ∙ opened_binds_each sh few p x.known x.parent ∙ ap (binds_of_each s (pattern_first s p)) (sym x.is_count ∙ e) ∙ binds_each_none s (pattern_first s p)

    module _ (some : count ≡ 0 → ⊥) where
      pub first_owned : Owns s p first
      first_owned = record { parent = x.parent; from = omega (arith, x.is_first); to = omega (arith, x.is_first, x.is_count) }

      -- the test that the first child is inside of, as it was read
      pub owner_read : {t : List ℕ} (q owner : ℕ) → Tabled s t → q ≡ child s first → owner ≡ get_or t (owner_at + q) 0 → owner ≡ owner_of s (child s first)
      owner_read q owner tabled e o =
          o ∙ (tabled.placed q (omega (arith, owned_pattern sh p first x.known first_owned))).owner ∙ ap (owner_of s) e

      module _ (owner : ℕ) (read : owner ≡ owner_of s (child s first)) where
        owner_is : owner ≡ pick (is_test s p) (p + 1) (owner_of s p)
        owner_is = read ∙ child_owner sh p first x.known first_owned few

        pub test_gives : owner ≡ p + 1 → Gives s p (record { named = false; first = 0; count = 0 })
        test_gives e = own_gives x.known false (go (is_test s p) refl)
          where
            go : (b : Bool) → is_test s p ≡ b → binds_of s p ≡ []
            go true y = binds_of_test sh few p x.known y
            go false y = absurd (omega (arith, e, owner_is ∙ pick_false (is_test s p) (p + 1) (owner_of s p) y, owner_below sh few p x.known))

        pub parts_give : (owner ≡ p + 1 → ⊥) → Gives s p (record { named = false; first = first; count = count })
        parts_give n = go (is_test s p) refl
          where
            go : (b : Bool) → is_test s p ≡ b → Gives s p (record { named = false; first = first; count = count })
            go true y = absurd (n (owner_is ∙ pick_true (is_test s p) (p + 1) (owner_of s p) y))
            go false y = all_give x.known x.parent false first count x.is_first x.is_count (open_parts y)

-- ---- children one after the other
-- what the children bind after the first k of n, from entry j on
abbrev pub each_from : List ℕ → ℕ → ℕ → ℕ → List ℕ
each_from s j n k = binds_of_each s (j + k) (n - k)

module _ (s : List ℕ) (j n : ℕ) where
  pub each_more : (k q : ℕ) → k < n → q ≡ child s (j + k) → each_from s j n k ≡ binds_of s q ++ each_from s j n (k + 1)
  each_more k q h e =
      binds_each_some s (j + k) (n - k) (omega arith) ∙ ap₂ ◌++◌ (ap (binds_of s) (sym e)) (ap₂ (binds_of_each s) (omega arith) (omega arith))

  pub each_none : (k : ℕ) → k ≡ n → each_from s j n k ≡ []
  each_none k e = ap (binds_of_each s (j + k)) (omega arith) ∙ binds_each_none s (j + k)

-- ---- what a test opened
-- a pattern's children, as they were read
module _ (s : List ℕ) (p : ℕ) (h : p < patterns s) (run : Run) (is : run ≡ children_of s p) where
  pub run_entries : Entries s p run.first run.count
  run_entries =
      record {
        known = h;
        owns = λ i from to.
            let e : i ≡ run.first + (i - run.first) = omega arith in
            rw e (run_owned s p run is (i - run.first) (omega arith));
      }

  pub run_opened : opened_binds s p ≡ binds_of_each s run.first run.count
  unfolding inside_of kind_of children_first children_count
  run_opened = rw is (go (has_children (pattern_kind_of (pattern_kind s p))) refl)
    where
      go : (b : Bool) → has_children (pattern_kind_of (pattern_kind s p)) ≡ b
          → inside_of (binds_of s) s p ≡ binds_of_each s (pick (has_children (pattern_kind_of (pattern_kind s p))) (pattern_first s p) 0) (pick (has_children (pattern_kind_of (pattern_kind s p))) (pattern_count s p) 0)
      go true e = rw (e, inside_of)
      go false e = rw (e, inside_of) (sym (binds_each_none s 0))

  pub run_empty : run.count ≡ 0 → opened_binds s p ≡ []
  run_empty e = run_opened ∙ ap (binds_of_each s run.first) e ∙ binds_each_none s run.first

-- the cell of the class, as it was read
module _ (s t : List ℕ) (tabled : Tabled s t) (c class : ℕ) (hc : c < clauses s) (hk : class < patterns_most) (cell : ℕ) (is : cell ≡ get_or t (cells_at + patterns_most * c + class) 0) where
  cell_is : cell ≡ cell_of s c class
  cell_is = is ∙ tabled.cell c class hc hk

  module _ (opened : List ℕ) (time : ℕ) where
    pub empty_cell : cell ≡ 0 → numbers_held s (opened_test s opened c time class) ≡ []
    unfolding opened_test
    empty_cell e = rw (sym cell_is ∙ e)

  -- of test p
  module _ (p : ℕ) (some : cell ≡ p + 1) where
    cell_back : cell_of s c class ≡ suc p
    cell_back = sym cell_is ∙ omega arith

    pub cell_known : p < patterns s
    cell_known = (cell_some s c class p cell_back).test_of.known

    -- when it was opened, as that was read
    module _ (opened : List ℕ) (time when : ℕ) (is_when : when ≡ get_or opened p 0) where
      pub other_time : (when ≡ time + 1 → ⊥) → numbers_held s (opened_test s opened c time class) ≡ []
      unfolding opened_test
      other_time n = rw (cell_back, ← is_when, ne_eqb when (time + 1) n)

      pub same_time : when ≡ time + 1 → numbers_held s (opened_test s opened c time class) ≡ opened_binds s p
      unfolding opened_test
      same_time e = rw (cell_back, ← is_when, eq-eqb when (time + 1) e)

-- ---- the columns tested, one after the other
-- what is left to put from the column `time` on
abbrev pub left_from : List ℕ → List ℕ → List ℕ → ℕ → ℕ → ℕ → List ℕ
left_from s opened list count c time = opened_numbers s opened c time (slice time count list)

module _ (s opened list : List ℕ) (count c : ℕ) (most : count ≤ length list) where
  pub left_more : (time class : ℕ) → time < count → class ≡ get_or list time 0
      → left_from s opened list count c time ≡ numbers_held s (opened_test s opened c time class) ++ left_from s opened list count c (time + 1)
  unfolding opened_numbers
  left_more time class h e = rw (slice_on list time count h most, ← e, opened_numbers)

  pub left_none : (time : ℕ) → time ≡ count → left_from s opened list count c time ≡ []
  unfolding opened_numbers
  left_none time e = rw (slice_end list time count e)

-- ---- a leaf
module _ (s : List ℕ) (x : Matrix) (with : WithRow s x) where
  row_clause : (c : ℕ) → c ≡ first_clause x → c < clauses s
  row_clause c e = rw e (all_at (λ k. k < clauses s) x.rows.list x.rows.count 0 with.some_row (omega (arith, with.rows)) (rising_below (clauses s) 0 (numbers_in x.rows) with.sound.rising))

  -- the sheet's patterns are numbers of classes
  pub leaf_asked : patterns s ≤ patterns_most → (c : ℕ) → c ≡ first_clause x → LeafAsked s c x.tested.list x.tested.count
  leaf_asked most c e = record { clause = row_clause c e; whole = with.tested; known = below (classes_in x.tested) with.sound.were_classes }
    where
      below : (ks : List ℕ) → All (IsClass s) ks → All (λ k. k < patterns_most) ks
      below [] a = tt
      below (k ∷ ks) a = (omega (arith, most, a.0.known), below ks a.1)

module _ (s opened tested : List ℕ) (c n : ℕ) (asked : LeafAsked s c tested n) where
  pub tested_known : (time class : ℕ) → time < n → class ≡ get_or tested time 0 → class < patterns_most
  tested_known time class h e = rw e (all_at (λ k. k < patterns_most) tested n time h (omega (arith, asked.whole)) asked.known)

  pub leaf_put : (time : ℕ) (a b z : Bound) → time ≡ n → b ≡ bound_all s a (binds_of s (root s c))
      → bound_all s z (left_from s opened tested n c time) ≡ bound_all s b (left_from s opened tested n c 0) → z ≡ bound_all s a (leaf_numbers s opened (take n tested) c)
  leaf_put time a b z done e f =
      put_nothing s z (left_from s opened tested n c time) (left_none s opened tested n c (omega (arith, asked.whole)) time done)
      ∙ f
      ∙ put_turn s a b (binds_of s (root s c)) (left_from s opened tested n c 0) (leaf_numbers s opened (take n tested) c) refl e
