-- The tests of a switch are such as a part of the tested type shows (`NodeFits`): so on every part of that type a switch goes on, by a
-- case or by its default (`goes_on_somewhere`).
use Rattle.std.specs.Prelude.{ℕ, ◌<◌, ◌≡◌, true, List}
use Rattle.std.proofs.Common.{arith}
use Rattle.std.proofs.Math.Path.{refl}
use Rattle.std.proofs.Math.Option.{Option, some}
use borrow.Author.Tests.{eq-eqb}
use Rattle.spec_rules.specs.SheetFile.{types, type_kind, type_count}
use Rattle.spec_rules.specs.Texts.{canonical}
use Rattle.spec_rules.specs.Splitting.{Test, Constr, Int, Bytes, ListOf, ListWithTail}
use Rattle.spec_rules.specs.Building.{Tree, Cases, absent, leaf, hoist, switch, listswitch, cnil, ccons}
use Rattle.spec_rules.specs.Hoisting.{how_many}
use Rattle.spec_rules.specs.Walking.{test_kind, first_kind}
use Rattle.spec_forgotten.specs.Values.{Value, an_integer, a_byte_string, whole, a_list, a_pair, a_tuple, a_constructor, whole_kind, many_values, are_bytes, of_type, shows_whole, shows, length_of}
use Rattle.spec_forgotten.specs.OpenedParts.{kinds_differ, integer_kind, bytes_kind, whole_kind_lem}
use Rattle.spec_forgotten.specs.Choosing.{Chosen, by_test, by_length, Node, node_of}
use Rattle.spec_forgotten.specs.ReachingLaws.{no_node_there}

unfoldable pub EachTest : (Test → Type 0) → Cases → Type 0
EachTest P cnil = Unit {0}
EachTest P (ccons u at a cs) = P u × EachTest P cs

module _ (s : List ℕ) where
  -- a part of type t may show u
  unfoldable pub MayShow : ℕ → Test → Type 0
  unfolding type_kind type_count canonical are_bytes
  MayShow t (Constr a) = (type_kind s t ≡ 5) × (a < type_count s t)
  MayShow t (Int w) = (type_kind s t ≡ 0) × (canonical w ≡ true)
  MayShow t (Bytes w) = (type_kind s t ≡ 1) × (are_bytes w ≡ true)
  MayShow t (ListOf n) = ⊥
  MayShow t (ListWithTail n) = ⊥

  unfoldable pub NodeFits : ℕ → Tree → Type 0
  unfolding how_many EachTest MayShow types type_kind
  NodeFits t absent = Unit {0}
  NodeFits t (leaf c bs) = Unit {0}
  NodeFits t (hoist c bs a) = Unit {0}
  NodeFits t (switch p cs d) = (t < types s) × (0 < how_many cs) × EachTest (MayShow t) cs
  NodeFits t (listswitch p cs ts d) = (t < types s) × (type_kind s t ≡ 2)

  -- ---- what parts of a type show
  pub record Showing (kind : ℕ) (x : Value) : Type 0 where
    pub test : Test
    pub shown : shows x ≡ some test
    pub alike : test_kind test ≡ kind

  shows_number : (t : ℕ) → type_kind s t ≡ 5 → (x : Value) → of_type s t x ≡ true → Showing 0 x
  unfolding shows shows_whole test_kind whole_kind
  shows_number t e (an_integer w) h = absurd (kinds_differ s t 5 0 e (integer_kind s t w h) refl)
  shows_number t e (a_byte_string w) h = absurd (kinds_differ s t 5 1 e (bytes_kind s t w h) refl)
  shows_number t e (whole a_list vs) h = absurd (kinds_differ s t 5 2 e (whole_kind_lem s t a_list vs h) refl)
  shows_number t e (whole a_pair vs) h = absurd (kinds_differ s t 5 3 e (whole_kind_lem s t a_pair vs h) refl)
  shows_number t e (whole a_tuple vs) h = absurd (kinds_differ s t 5 4 e (whole_kind_lem s t a_tuple vs h) refl)
  shows_number t e (whole (a_constructor a) vs) h = record { test = Constr a; shown = refl; alike = refl }

  shows_integer : (t : ℕ) → type_kind s t ≡ 0 → (x : Value) → of_type s t x ≡ true → Showing 1 x
  unfolding shows test_kind whole_kind
  shows_integer t e (an_integer w) h = record { test = Int w; shown = refl; alike = refl }
  shows_integer t e (a_byte_string w) h = absurd (kinds_differ s t 0 1 e (bytes_kind s t w h) refl)
  shows_integer t e (whole a_list vs) h = absurd (kinds_differ s t 0 2 e (whole_kind_lem s t a_list vs h) refl)
  shows_integer t e (whole a_pair vs) h = absurd (kinds_differ s t 0 3 e (whole_kind_lem s t a_pair vs h) refl)
  shows_integer t e (whole a_tuple vs) h = absurd (kinds_differ s t 0 4 e (whole_kind_lem s t a_tuple vs h) refl)
  shows_integer t e (whole (a_constructor a) vs) h = absurd (kinds_differ s t 0 5 e (whole_kind_lem s t (a_constructor a) vs h) refl)

  shows_bytes : (t : ℕ) → type_kind s t ≡ 1 → (x : Value) → of_type s t x ≡ true → Showing 2 x
  unfolding shows test_kind whole_kind
  shows_bytes t e (an_integer w) h = absurd (kinds_differ s t 1 0 e (integer_kind s t w h) refl)
  shows_bytes t e (a_byte_string w) h = record { test = Bytes w; shown = refl; alike = refl }
  shows_bytes t e (whole a_list vs) h = absurd (kinds_differ s t 1 2 e (whole_kind_lem s t a_list vs h) refl)
  shows_bytes t e (whole a_pair vs) h = absurd (kinds_differ s t 1 3 e (whole_kind_lem s t a_pair vs h) refl)
  shows_bytes t e (whole a_tuple vs) h = absurd (kinds_differ s t 1 4 e (whole_kind_lem s t a_tuple vs h) refl)
  shows_bytes t e (whole (a_constructor a) vs) h = absurd (kinds_differ s t 1 5 e (whole_kind_lem s t (a_constructor a) vs h) refl)

  pub has_length : (t : ℕ) → type_kind s t ≡ 2 → (x : Value) → of_type s t x ≡ true → (n : ℕ) × (length_of x ≡ some n)
  unfolding length_of whole_kind
  has_length t e (an_integer w) h = absurd (kinds_differ s t 2 0 e (integer_kind s t w h) refl)
  has_length t e (a_byte_string w) h = absurd (kinds_differ s t 2 1 e (bytes_kind s t w h) refl)
  has_length t e (whole a_list vs) h = (many_values vs, refl)
  has_length t e (whole a_pair vs) h = absurd (kinds_differ s t 2 3 e (whole_kind_lem s t a_pair vs h) refl)
  has_length t e (whole a_tuple vs) h = absurd (kinds_differ s t 2 4 e (whole_kind_lem s t a_tuple vs h) refl)
  has_length t e (whole (a_constructor a) vs) h = absurd (kinds_differ s t 2 5 e (whole_kind_lem s t (a_constructor a) vs h) refl)

  -- a part of a type shows what its kind of test asks
  pub shows_alike : (t : ℕ) (u : Test) → MayShow t u → (x : Value) → of_type s t x ≡ true → Showing (test_kind u) x
  unfolding MayShow test_kind
  shows_alike t (Constr a) m x h = shows_number t m.0 x h
  shows_alike t (Int w) m x h = shows_integer t m.0 x h
  shows_alike t (Bytes w) m x h = shows_bytes t m.0 x h
  shows_alike t (ListOf n) m x h = absurd m
  shows_alike t (ListWithTail n) m x h = absurd m

  -- ---- so a node goes on
  switch_goes : (k t : ℕ) (cs : Cases) → 0 < how_many cs → EachTest (MayShow t) cs → (x : Value) → of_type s t x ≡ true → (o : Option Chosen) × (by_test k cs (shows x) ≡ some o)
  unfolding how_many EachTest by_test first_kind
  switch_goes k t cnil l m x h = absurd (omega arith)
  switch_goes k t (ccons u at a cs) l m x h =
      let r = shows_alike t u m.0 x h in
      rw (r.shown, eq-eqb _ _ r.alike) (_, refl)

  list_goes : (k t : ℕ) (cs ts : Cases) → type_kind s t ≡ 2 → (x : Value) → of_type s t x ≡ true → (o : Option Chosen) × (by_length k cs ts (length_of x) ≡ some o)
  unfolding by_length
  list_goes k t cs ts e x h = let (n, l) = has_length t e x h in rw l (_, refl)

  pub goes_on_somewhere : (k t : ℕ) (a : Tree) (w : Node) → node_of k a ≡ some w → NodeFits t a → (x : Value) → of_type s t x ≡ true
      → (o : Option Chosen) × (w.choose (shows x) (length_of x) ≡ some o)
  unfolding node_of NodeFits
  goes_on_somewhere k t absent w e f x h = absurd (no_node_there w e)
  goes_on_somewhere k t (leaf c bs) w e f x h = absurd (no_node_there w e)
  goes_on_somewhere k t (hoist c bs a) w e f x h = absurd (no_node_there w e)
  goes_on_somewhere k t (switch p cs d) w e f x h =
      let choose : (λ y n. by_test k cs y) ≡ w.choose = cc in
      rw (← choose) (switch_goes k t cs f.1 f.2 x h)
  goes_on_somewhere k t (listswitch p cs ts d) w e f x h =
      let choose : (λ y n. by_length k cs ts n) ≡ w.choose = cc in
      rw (← choose) (list_goes k t cs ts f.1 x h)
