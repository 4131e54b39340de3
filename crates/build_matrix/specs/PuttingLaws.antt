-- Laws of columns put in order: a class put into an array from the front, and what a pattern and its children give, in the order that
-- the table tells. Rests on Ordered, on what a filled table says (crate build_table), and on the tests of a pattern by its children.
use Rattle.std.specs.Prelude.{◌≡◌, refl, Bool, true, false, ℕ, suc, ◌+◌, ◌-◌, ◌≤◌, ◌<◌, eqb, length}
use Rattle.std.proofs.Math.Path.{sym, ap, ap₂}
use Rattle.std.proofs.Common.{◌∙◌, inr, arith, add-one, length-append, length-take-le, take-take}
use mathlib.Core.List.{List, [], ◌∷◌, ◌++◌}
use borrow.Author.Tests.{eq-eqb, ne_eqb}
use Rattle.std.proofs.Math.ListN.{get_or, take, take-append-drop}
use Rattle.std.proofs.Math.Seq.{slice, slice-cons, slice_empty, length-slice, take-suc, append_snoc}
use Rattle.base_words.specs.Words.{pick}
use Rattle.spec_rules.specs.Kinds.{variable_pattern, assign_pattern, integer_pattern, list_pattern, list_with_tail_pattern, constructor_pattern, pair_pattern, tuple_pattern}
use Rattle.spec_rules.specs.SheetFile.{patterns, pattern_kind, child}
use Rattle.spec_rules.specs.SheetRefusals.{is_in}
use Rattle.spec_rules.specs.SplittingLaws.{All}
use Rattle.spec_accepted.specs.SheetFacts.{Accepted, Parent, Owns, owned_pattern, assign_parent, many_parent}
use Rattle.format_sheet.specs.declared.SheetMap.{SheetMap}
use Rattle.format_sheet.specs.declared.records.PatternRecord.{PatternRecord}
use Rattle.format_sheet.specs.Records.{pattern_of}
use Rattle.build_table.specs.Standing.{class_of, is_test}
use Rattle.build_table.specs.Table.{class_at}
use Rattle.build_table.specs.TabledLaws.{depth_inside, before_paths}
use Rattle.build_table.specs.Seen.{tests_of, tests_of_each, opened_tests}
use Rattle.build_table.specs.SeenLaws.{tests_of_test, tests_of_parts, tests_plain, tests_text_or_list, opened_tests_each, opened_tests_none, no_test_of_plain, no_test_of_pair, test_kind, test_kind_most, tests_each_none, tests_each_some}
use Rattle.build_table.specs.MembersLaws.{is_in_head, is_in_tail, is_in_each_of, test_at, test_inside}
use Rattle.build_matrix.specs.declared.Classes.{Classes}
use Rattle.build_matrix.specs.declared.columns.Given.{Given}
use Rattle.build_matrix.specs.declared.columns.Given.TheVariants.{Nothing, Itself, Inside}
use Rattle.build_matrix.specs.Live.{IsClass}
use Rattle.build_matrix.specs.Lists.{classes_in, Holds}
use Rattle.build_matrix.specs.ListsLaws.{holds_same, whole}
use Rattle.build_matrix.specs.Ordered.{put_class, put_each, path_before, is_class, each_classes, each_append}
use Rattle.build_matrix.specs.Reading.{first_in, Ranked}
use Rattle.build_matrix.specs.Ready.{ReadyTable, Listed, Puts, put_tests, Roomy, Children, Gives, itself_or_inside, TestKnown}

-- ---- a class put from the front of an array: i are passed
abbrev pub Passed : (ℕ → ℕ → Bool) → ℕ → List ℕ → ℕ → ℕ → Type 0
Passed first k l n i = put_class first k (take n l) ≡ take i l ++ put_class first k (slice i n l)

module _ (first : ℕ → ℕ → Bool) (k : ℕ) (l : List ℕ) (n i : ℕ) (enough : n ≤ length l) (passed : Passed first k l n i) where
  module _ (h : i < n) where
    put_head : slice i n l ≡ get_or l i 0 ∷ slice (suc i) n l
    put_head = slice-cons i n l 0 h enough

    pub put_there : get_or l i 0 ≡ k → put_class first k (take n l) ≡ take n l
    unfolding put_class
    put_there e =
        let same : put_class first k (slice i n l) ≡ slice i n l = rw (put_head, eq-eqb (get_or l i 0) k e) in
        passed ∙ ap₂ (λ (x y : List ℕ). x ++ y) (sym (take-take i n l (omega arith))) same ∙ take-append-drop i (take n l)

    module _ (other : get_or l i 0 ≡ k → ⊥) where
      pub put_before : first k (get_or l i 0) ≡ true → put_class first k (take n l) ≡ take i l ++ k ∷ slice i n l
      unfolding put_class
      put_before e = passed ∙ ap (λ (x : List ℕ). take i l ++ x) (rw (put_head, ne_eqb (get_or l i 0) k other, e))

      pub put_behind : first k (get_or l i 0) ≡ false → Passed first k l n (i + 1)
      unfolding put_class
      put_behind e =
          let on : put_class first k (slice i n l) ≡ get_or l i 0 ∷ put_class first k (slice (suc i) n l) = rw (put_head, ne_eqb (get_or l i 0) k other, e) in
          rw (add-one i, take-suc l i 0 (omega arith))
          (passed ∙ ap (λ (x : List ℕ). take i l ++ x) on ∙ sym (append_snoc (take i l) (get_or l i 0) (put_class first k (slice (suc i) n l))))

  pub put_last : i ≡ n → put_class first k (take n l) ≡ take i l ++ k ∷ slice i n l
  unfolding put_class
  put_last e =
      let none_left : slice i n l ≡ [] = ap (λ (j : ℕ). slice j n l) e ∙ slice_empty n l in
      passed ∙ ap (λ (x : List ℕ). take i l ++ x) (rw none_left)

-- where a class was inserted there was room
pub insert_room : (l : List ℕ) (n i k : ℕ) → i ≤ n → n ≤ length l → length (take i l ++ k ∷ slice i n l) ≡ n + 1
insert_room l n i k h e =
    omega (arith, length-append (take i l) (k ∷ slice i n l), length-take-le i l (omega arith), length-slice i n l e)

-- ---- the same order, the same list
pub put_same : (f g : ℕ → ℕ → Bool) (k : ℕ) (ks : List ℕ) → All (λ q. f k q ≡ g k q) ks → put_class f k ks ≡ put_class g k ks
unfolding put_class
put_same f g k [] h = refl
put_same f g k (q ∷ ks) h =
    ap₂ (λ (b : Bool) (l : List ℕ). pick (eqb q k) (q ∷ ks) (pick b (k ∷ q ∷ ks) (q ∷ l))) h.0 (put_same f g k ks h.1)

-- none is lost
pub put_least : (first : ℕ → ℕ → Bool) (k : ℕ) (ks : List ℕ) → length ks ≤ length (put_class first k ks)
unfolding put_class
put_least first k [] = omega arith
put_least first k (q ∷ ks) = go (eqb q k) (first k q) (put_least first k ks)
  where
    go : (x y : Bool) → length ks ≤ length (put_class first k ks) → length (q ∷ ks) ≤ length (pick x (q ∷ ks) (pick y (k ∷ q ∷ ks) (q ∷ put_class first k ks)))
    go true y ih = omega arith
    go false true ih = omega arith
    go false false ih = omega arith

pub each_least : (first : ℕ → ℕ → Bool) (class : ℕ → ℕ) (qs ks : List ℕ) → length ks ≤ length (put_each first class qs ks)
unfolding put_each
each_least first class [] ks = omega arith
each_least first class (q ∷ qs) ks = omega (arith, put_least first (class q) (put_each first class qs ks), each_least first class qs ks)

pub all_from : (P : ℕ → Type 0) (xs : List ℕ) → ((x : ℕ) → is_in x xs ≡ true → P x) → All P xs
all_from P [] f = tt
all_from P (x ∷ xs) f = (f x (is_in_head x xs), all_from P xs (λ y i. f y (is_in_tail y x xs i)))

pub all_map : (P Q : ℕ → Type 0) → ((x : ℕ) → P x → Q x) → (xs : List ℕ) → All P xs → All Q xs
all_map P Q f [] h = tt
all_map P Q f (x ∷ xs) h = (f x h.0, all_map P Q f xs h.1)

-- ---- of a sheet and its table
module _ {s : List ℕ} {m : SheetMap} {t : List ℕ} (ready : ReadyTable s m t) where
  ok : Accepted s
  ok = ready.checked.ok

  pub ranked : (k : ℕ) → IsClass s k → Ranked t k
  ranked k h = record { known = omega (arith, h.known, ok.is_counted.patterns_most_holds); depth = depth_inside ok ready.tabled k h.known }

  put_read : (k : ℕ) (ks : List ℕ) → IsClass s k → All (IsClass s) ks → put_class (first_in t) k ks ≡ put_class (path_before s) k ks
  put_read k ks a h = put_same (first_in t) (path_before s) k ks (all_map (IsClass s) (λ q. first_in t k q ≡ path_before s k q) (λ q b. before_paths ok ready.tabled k q a.known b.known) ks h)

  abbrev Known : ℕ → Type 0
  Known q = q < patterns s

  pub tests_known : (p : ℕ) → p < patterns s → All Known (tests_of s p)
  tests_known p h = all_from Known (tests_of s p) (λ q i. (test_at ok.is_shaped ok.is_counted p q h i).1.known)

  pub each_known : (p j n : ℕ) → Children s p j n → All Known (tests_of_each s j n)
  each_known p j n c =
      all_from Known (tests_of_each s j n)
      (λ q i.
      let w = is_in_each_of (tests_of s) s q j n i in
      let o : Owns s p w.0 = record { parent = c.parent; from = omega (arith, c.from, w.1); to = omega (arith, c.to, w.2) } in
      (test_at ok.is_shaped ok.is_counted (child s w.0) q (owned_pattern ok.is_shaped p w.0 c.known o) w.3).1.known)

  pub opened_known : (p : ℕ) → TestKnown s p → All Known (opened_tests s p)
  opened_known p k = all_from Known (opened_tests s p) (λ q i. (test_inside ok.is_shaped ok.is_counted p q k.known k.test i).1.known)

  -- ---- what a pattern gives, by its record
  module _ (p : ℕ) (h : p < patterns s) (r : PatternRecord) (is : r ≡ pattern_of s p) where
    kind_is : r.kind ≡ pattern_kind s p
    kind_is = ap (λ (x : PatternRecord). x.kind) is

    all_children : Parent s p → Children s p r.first r.count
    all_children parent = rw is (record { known = h; parent = parent; from = omega arith; to = omega arith })

    each_child : Parent s p → is_test s p ≡ false → tests_of s p ≡ tests_of_each s r.first r.count
    each_child parent e = rw is (tests_of_parts ok.is_shaped ok.is_counted p h e ∙ opened_tests_each ok.is_shaped ok.is_counted p h parent)

    pub gives_none : r.kind ≤ variable_pattern → Gives s p Nothing
    gives_none k = tests_plain ok.is_shaped ok.is_counted p h (omega (arith, kind_is))

    pub gives_assigned : r.kind ≡ assign_pattern → Gives s p (Inside r.first r.count)
    gives_assigned k =
        let parent = assign_parent s p (sym kind_is ∙ k) in
        (each_child parent (no_test_of_plain s p (omega (arith, kind_is))), all_children parent)

    pub gives_parts : pair_pattern ≤ r.kind → r.kind ≤ tuple_pattern → Gives s p (Inside r.first r.count)
    gives_parts low high =
        let parent = many_parent s p (omega (arith, kind_is)) (omega (arith, kind_is)) in
        (each_child parent (no_test_of_pair s p (omega (arith, kind_is))), all_children parent)

    module _ (class : ℕ) (told : class ≡ get_or t (class_at + p) 0) where
      class_told : class ≡ class_of s p
      class_told = told ∙ (ready.tabled.classed p h).class

      pub gives_itself : integer_pattern ≤ r.kind → r.kind ≤ list_with_tail_pattern → Gives s p (Itself class)
      gives_itself low high = (tests_text_or_list ok.is_shaped ok.is_counted p h (omega (arith, kind_is)) (omega (arith, kind_is)), class_told)

      pub gives_by_test : r.kind ≡ constructor_pattern → (test : Bool) → test ≡ is_test s p → (g : Given) → g ≡ itself_or_inside test class r.first r.count → Gives s p g
      gives_by_test k true e g f = rw f (tests_of_test ok.is_shaped ok.is_counted p h (sym e), class_told)
      gives_by_test k false e g f =
          let parent = many_parent s p (omega (arith, kind_is)) (omega (arith, kind_is)) in
          rw f (each_child parent (sym e), all_children parent)

  -- ---- what was put is a list of classes
  pub listed : {o r : Classes} (tests : List ℕ) → All Known tests → Listed s o → Holds r (put_tests s tests (classes_in o)) → Listed s r
  listed {o} {r} tests known l h = record { whole = whole h; each = rw h.are (each_classes s tests (classes_in o) known l.each) }

  module _ {o : Classes} (l : Listed s o) (p : ℕ) (h : p < patterns s) (room : Roomy s (tests_of s p) o) where
    pub nothing_is : {g : Given} → Gives s p g → g ≡ Nothing → Holds o (put_tests s (tests_of s p) (classes_in o))
    unfolding put_each
    nothing_is x e =
        let none_there : tests_of s p ≡ [] = rw e at x in
        holds_same l.whole (sym (ap (λ (qs : List ℕ). put_tests s qs (classes_in o)) none_there))

    module _ {g : Given} {class : ℕ} (x : Gives s p g) (e : g ≡ Itself class) where
      told : (tests_of s p ≡ p ∷ []) × (class ≡ class_of s p)
      told = rw e at x

      is_own : IsClass s class
      is_own = rw told.1 (is_class s p h)

      itself_tests : put_class (first_in t) class (classes_in o) ≡ put_tests s (tests_of s p) (classes_in o)
      unfolding put_each
      itself_tests =
          put_read class (classes_in o) is_own l.each
          ∙ ap (λ (k : ℕ). put_class (path_before s) k (classes_in o)) told.1
          ∙ sym (ap (λ (qs : List ℕ). put_tests s qs (classes_in o)) told.0)

      pub itself_puts : Puts t o class
      itself_puts = record {
        long = ready.tabled.long;
        whole = l.whole;
        ranked = ranked class is_own;
        each = all_map (IsClass s) (Ranked t) ranked (classes_in o) l.each;
        room = rw itself_tests room;
      }

      pub itself_is : {r : Classes} → Holds r (put_class (first_in t) class (classes_in o)) → Holds r (put_tests s (tests_of s p) (classes_in o))
      itself_is r = holds_same r itself_tests

  -- ---- the children of p, the last first
  module _ {o : Classes} (l : Listed s o) (p j n : ℕ) (c : Children s p j n) (room : Roomy s (tests_of_each s j n) o) where
    pub none_is : n ≡ 0 → Holds o (put_tests s (tests_of_each s j n) (classes_in o))
    unfolding put_each
    none_is e =
        holds_same l.whole
        (sym (ap (λ (qs : List ℕ). put_tests s qs (classes_in o)) (ap (tests_of_each s j) e ∙ tests_each_none s j)))

    module _ (some_left : n ≡ 0 → ⊥) where
      owns : Owns s p j
      owns = record { parent = c.parent; from = c.from; to = omega (arith, c.to) }

      pub child_known : child s j < patterns s
      child_known = owned_pattern ok.is_shaped p j c.known owns

      pub child_higher : p < child s j
      child_higher = ok.is_shaped.child_above p j c.known owns

      pub next_children : Children s p (j + 1) (n - 1)
      next_children = record { known = c.known; parent = c.parent; from = omega (arith, c.from); to = omega (arith, c.to) }

      parts : put_tests s (tests_of_each s j n) (classes_in o) ≡ put_tests s (tests_of s (child s j)) (put_tests s (tests_of_each s (j + 1) (n - 1)) (classes_in o))
      parts =
          ap (λ (qs : List ℕ). put_tests s qs (classes_in o)) (tests_each_some s j n some_left)
          ∙ each_append (path_before s) (class_of s) (tests_of s (child s j)) (tests_of_each s (j + 1) (n - 1)) (classes_in o)

      pub next_room : Roomy s (tests_of_each s (j + 1) (n - 1)) o
      next_room =
          omega (arith, ap length parts, room, each_least (path_before s) (class_of s) (tests_of s (child s j)) (put_tests s (tests_of_each s (j + 1) (n - 1)) (classes_in o)))

      module _ {rest : Classes} (h : Holds rest (put_tests s (tests_of_each s (j + 1) (n - 1)) (classes_in o))) (q : ℕ) (is : q ≡ child s j) where
        pub rest_listed : Listed s rest
        rest_listed = listed (tests_of_each s (j + 1) (n - 1)) (each_known p (j + 1) (n - 1) next_children) l h

        rest_parts : put_tests s (tests_of s q) (classes_in rest) ≡ put_tests s (tests_of_each s j n) (classes_in o)
        rest_parts = ap₂ (λ (x : ℕ) (ks : List ℕ). put_tests s (tests_of s x) ks) is h.are ∙ sym parts

        pub rest_room : Roomy s (tests_of s q) rest
        rest_room = rw rest_parts room

        pub each_is : {r : Classes} → Holds r (put_tests s (tests_of s q) (classes_in rest)) → Holds r (put_tests s (tests_of_each s j n) (classes_in o))
        each_is r = holds_same r rest_parts

  -- ---- what test p opens to: nothing for a text, else what its children give
  module _ {o : Classes} (l : Listed s o) (p : ℕ) (k : TestKnown s p) (room : Roomy s (opened_tests s p) o) (r : PatternRecord) (is : r ≡ pattern_of s p) where
    pub open_none : r.kind < list_pattern → Holds o (put_tests s (opened_tests s p) (classes_in o))
    unfolding put_each
    open_none low =
        let none_there = opened_tests_none ok.is_shaped ok.is_counted p k.known (inr (test_kind s p k.test, omega (arith, kind_is p k.known r is))) in
        holds_same l.whole (sym (ap (λ (qs : List ℕ). put_tests s qs (classes_in o)) none_there))

    module _ (high : list_pattern ≤ r.kind) where
      parent : Parent s p
      parent = many_parent s p (omega (arith, kind_is p k.known r is)) (omega (arith, test_kind_most s p k.test))

      opened_are : opened_tests s p ≡ tests_of_each s r.first r.count
      opened_are = rw is (opened_tests_each ok.is_shaped ok.is_counted p k.known parent)

      pub open_children : Children s p r.first r.count
      open_children = all_children p k.known r is parent

      pub open_room : Roomy s (tests_of_each s r.first r.count) o
      open_room = rw (← opened_are) room

      pub open_is : {out : Classes} → Holds out (put_tests s (tests_of_each s r.first r.count) (classes_in o)) → Holds out (put_tests s (opened_tests s p) (classes_in o))
      open_is h = holds_same h (sym (ap (λ (qs : List ℕ). put_tests s qs (classes_in o)) opened_are))
