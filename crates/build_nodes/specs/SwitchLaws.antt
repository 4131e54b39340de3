-- A switch made of its node, its cases and its default: the tree is held, its counts come to those of its parts.
-- Rests on the switch by the filters of rule 4; exact cases stand before tail cases, and a switch that is no list switch has no tail case.
use Rattle.std.specs.Prelude.{◌≡◌, Bool, ℕ, ◌+◌, ◌*◌, ◌≤◌, ◌<◌, get_or}
use Rattle.std.proofs.Math.Path.{refl, sym, ap}
use Rattle.std.proofs.Common.{◌∙◌, inl}
use Rattle.std.proofs.Math.Bool.{true, false}
use Rattle.std.proofs.lemmas.Bool.{false≢true}
use mathlib.Core.List.{List, [], ◌∷◌, ◌++◌, append_assoc, append-nil}
use native.Mathlib.Omega.{arith}
use Rattle.std.proofs.Math.ListN.{length, length-append}
use Rattle.base_words.specs.Words.{either, pick}
use Rattle.base_words.specs.Stored.{stored}
use Rattle.spec_rules.specs.Limits.{nodes_most, bindings_most, node_size, case_size}
use Rattle.spec_rules.specs.Patterns.{Pat, discard, variable, assign, integer, bytestring, listed, tailed, constructor, opened}
use Rattle.spec_rules.specs.Rows.{Path}
use Rattle.spec_rules.specs.Splitting.{Test, joined as joined_tests, longest, tailless_length, tailed_length, text_start, Met, is_met, meet, meet_all, cases_of}
use Rattle.spec_rules.specs.SplittingLaws.{All}
use Rattle.spec_rules.specs.Building.{Tree, Cases, switch, listswitch, is_list, has_list}
use Rattle.spec_rules.specs.Hoisting.{how_many, nodes_in, nodes_in_of, bindings_in, bindings_in_of, has_leaf, has_leaf_of}
use Rattle.spec_rules.specs.TreeFile.{path_number, first_of, node_bytes, cases_in, cases_in_of, default_field, own_cases}
use Rattle.spec_file.specs.StandingLaws.{Stands}
use Rattle.spec_file.specs.TreeStands.{TreeStands}
use Rattle.spec_file.specs.LengthLaws.{length_own_cases}
use Rattle.spec_match.specs.Depth.{cases_on, is_tail, is_exact, only, node_on}
use Rattle.spec_match.specs.Lists.{all_append}
use Rattle.format_parts.specs.SectionsLaws.{first_some}
use Rattle.build_arena.specs.Arena.{nodes_start, cases_start, cases_most, Held, HeldOf}
use Rattle.build_arena.specs.WritingLaws.{Kept, kept_trans, kept_weaken, kept_node, cases_kept, nodes_kept, held_of_kept, node_stored}
use Rattle.build_arena.specs.Numbered.{joined}
use Rattle.build_arena.specs.NumberedLaws.{nodes_in_of_joined}
use Rattle.build_cases.specs.Passes.{case_records}
use Rattle.build_nodes.specs.declared.tops.Tops.{Tops}
use Rattle.build_nodes.specs.Built.{Counted, Roomy, Put, TooMany, CasesPut, TooManyOf}
use Rattle.build_nodes.specs.CasesLaws.{There, each_node}
use Rattle.build_nodes.specs.JoinedLaws.{cases_in_of_joined, bindings_in_of_joined, has_leaf_of_joined, own_cases_joined, cases_on_append, how_many_cases_on, front_held, back_held}
use Rattle.build_nodes.specs.BuiltLaws.{stands_apart, held_of_apart, counted_then, counted_as}

-- ---- the cases in the order of their records
unfoldable pub in_order : List Pat → List Met
unfolding only cases_of
in_order qs = only is_exact (cases_of qs) ++ only is_tail (cases_of qs)

-- ---- no list, no tail case
abbrev NoTail : Met → Type 0
NoTail m = is_tail m.test ≡ false

joined_no_tail : (tailless tails : ℕ) (q : Pat) → is_list q ≡ false → All (λ t. is_tail t ≡ false) (joined_tests tailless tails q)
unfolding is_list joined_tests is_tail
joined_no_tail tailless tails (discard m) e = tt
joined_no_tail tailless tails (variable m x) e = tt
joined_no_tail tailless tails (assign m x q) e = tt
joined_no_tail tailless tails (integer m at w) e = (refl, tt)
joined_no_tail tailless tails (bytestring m at w) e = (refl, tt)
joined_no_tail tailless tails (listed m qs) e = (refl, tt)
joined_no_tail tailless tails (tailed m qs q) e = absurd (false≢true (sym e))
joined_no_tail tailless tails (constructor m a qs) e = (refl, tt)
joined_no_tail tailless tails (opened m o qs) e = tt

meet_no_tail : (start : ℕ) (ms : List Met) (us : List Test) → All NoTail ms → All (λ t. is_tail t ≡ false) us → All NoTail (meet start ms us)
unfolding meet
meet_no_tail start ms [] h g = h
meet_no_tail start ms (u ∷ us) h g = go (is_met u ms) refl (λ ns k. meet_no_tail start ns us k g.1)
  where
    go : (b : Bool) → is_met u ms ≡ b → ((ns : List Met) → All NoTail ns → All NoTail (meet start ns us)) → All NoTail (meet start ms (u ∷ us))
    go true x ih = rw (x, meet) (ih ms h)
    go false x ih = rw (x, meet) (ih (ms ++ record { test = u; start = start } ∷ []) (all_append NoTail ms (record { test = u; start = start } ∷ []) h (g.0, tt)))

meet_all_no_tail : (tailless tails : ℕ) (ms : List Met) (qs : List Pat) → All NoTail ms → has_list qs ≡ false → All NoTail (meet_all tailless tails ms qs)
unfolding meet_all has_list
meet_all_no_tail tailless tails ms [] h e = h
meet_all_no_tail tailless tails ms (q ∷ qs) h e = go (is_list q) refl e (λ ns. meet_all_no_tail tailless tails ns qs)
  where
    go : (b : Bool) → is_list q ≡ b → either b (has_list qs) ≡ false
        → ((ns : List Met) → All NoTail ns → has_list qs ≡ false → All NoTail (meet_all tailless tails ns qs)) → All NoTail (meet_all tailless tails ms (q ∷ qs))
    go true x y ih = absurd (false≢true (sym y))
    go false x y ih =
        ih (meet (text_start q) ms (joined_tests tailless tails q))
        (meet_no_tail (text_start q) ms (joined_tests tailless tails q) h (joined_no_tail tailless tails q x)) y

all_exact : (ms : List Met) → All NoTail ms → only is_exact ms ≡ ms
unfolding only
all_exact [] h = refl
all_exact (m ∷ ms) h = rw (h.0, only) (ap (λ z. m ∷ z) (all_exact ms h.1))

none_tailed : (ms : List Met) → All NoTail ms → only is_tail ms ≡ []
unfolding only
none_tailed [] h = refl
none_tailed (m ∷ ms) h = rw (h.0, only) (none_tailed ms h.1)

module _ (qs : List Pat) (e : has_list qs ≡ false) where
  no_tail : All NoTail (cases_of qs)
  unfolding cases_of
  no_tail = meet_all_no_tail (longest tailless_length qs) (longest tailed_length qs) [] qs tt e

  pub exact_all : only is_exact (cases_of qs) ≡ cases_of qs
  exact_all = all_exact (cases_of qs) no_tail

  pub tail_none : only is_tail (cases_of qs) ≡ []
  tail_none = none_tailed (cases_of qs) no_tail

  pub order_same : in_order qs ≡ cases_of qs
  unfolding in_order
  order_same = rw (exact_all, tail_none) (append-nil (cases_of qs))

-- ---- the counts of a switch
module _ (p : Path) (qs : List Pat) (f : Test → Tree) (d : Tree) where
  abbrev below : Cases
  below = cases_on f (in_order qs)

  below_list : below ≡ joined (cases_on f (only is_exact (cases_of qs))) (cases_on f (only is_tail (cases_of qs)))
  unfolding in_order
  below_list = cases_on_append f (only is_exact (cases_of qs)) (only is_tail (cases_of qs))

  pub node_on_list : has_list qs ≡ true → node_on p qs f d ≡ listswitch p (cases_on f (only is_exact (cases_of qs))) (cases_on f (only is_tail (cases_of qs))) d
  unfolding node_on
  node_on_list e = rw (e, node_on)

  pub node_on_plain : has_list qs ≡ false → node_on p qs f d ≡ switch p below d
  unfolding node_on
  node_on_plain e = rw (e, node_on) (ap (λ z. switch p (cases_on f z) d) (sym (order_same qs e)))

  pub nodes_in_on : nodes_in (node_on p qs f d) ≡ 1 + (nodes_in_of below + nodes_in d)
  unfolding nodes_in
  nodes_in_on = go (has_list qs) refl
    where
      go : (b : Bool) → has_list qs ≡ b → nodes_in (node_on p qs f d) ≡ 1 + (nodes_in_of below + nodes_in d)
      go true e =
          ap nodes_in (node_on_list e)
          ∙ omega (arith, ap nodes_in_of below_list, nodes_in_of_joined (cases_on f (only is_exact (cases_of qs))) (cases_on f (only is_tail (cases_of qs))))
      go false e = ap nodes_in (node_on_plain e) ∙ omega arith

  pub cases_in_on : cases_in (node_on p qs f d) ≡ length (in_order qs) + (cases_in_of below + cases_in d)
  unfolding cases_in
  cases_in_on = go (has_list qs) refl
    where
      es : List Met
      es = only is_exact (cases_of qs)

      ts : List Met
      ts = only is_tail (cases_of qs)

      order_length : length (in_order qs) ≡ length es + length ts
      order_length = unfold in_order in length-append es ts

      go : (b : Bool) → has_list qs ≡ b → cases_in (node_on p qs f d) ≡ length (in_order qs) + (cases_in_of below + cases_in d)
      go true e =
          ap cases_in (node_on_list e)
          ∙ omega (arith, ap cases_in_of below_list, cases_in_of_joined (cases_on f es) (cases_on f ts), how_many_cases_on f es, how_many_cases_on f ts, order_length)
      go false e = ap cases_in (node_on_plain e) ∙ omega (arith, how_many_cases_on f (in_order qs))

  pub bindings_in_on : bindings_in (node_on p qs f d) ≡ bindings_in_of below ++ bindings_in d
  unfolding bindings_in
  bindings_in_on = go (has_list qs) refl
    where
      es : Cases
      es = cases_on f (only is_exact (cases_of qs))

      ts : Cases
      ts = cases_on f (only is_tail (cases_of qs))

      go : (b : Bool) → has_list qs ≡ b → bindings_in (node_on p qs f d) ≡ bindings_in_of below ++ bindings_in d
      go true e =
          ap bindings_in (node_on_list e)
          ∙ sym (ap (λ z. z ++ bindings_in d) (ap bindings_in_of below_list ∙ bindings_in_of_joined es ts) ∙ append_assoc (bindings_in_of es) (bindings_in_of ts) (bindings_in d))
      go false e = ap bindings_in (node_on_plain e)

  pub has_leaf_on : (i : ℕ) → has_leaf i (node_on p qs f d) ≡ either (has_leaf_of i below) (has_leaf i d)
  unfolding has_leaf
  has_leaf_on i = go (has_list qs) refl
    where
      es : Cases
      es = cases_on f (only is_exact (cases_of qs))

      ts : Cases
      ts = cases_on f (only is_tail (cases_of qs))

      assoc : (x y z : Bool) → either x (either y z) ≡ either (either x y) z
      assoc true y z = refl
      assoc false y z = refl

      go : (b : Bool) → has_list qs ≡ b → has_leaf i (node_on p qs f d) ≡ either (has_leaf_of i below) (has_leaf i d)
      go true e =
          ap (has_leaf i) (node_on_list e)
          ∙ assoc (has_leaf_of i es) (has_leaf_of i ts) (has_leaf i d)
          ∙ ap (λ z. either z (has_leaf i d)) (sym (ap (has_leaf_of i) below_list ∙ has_leaf_of_joined i es ts))
      go false e = ap (has_leaf i) (node_on_plain e)

-- ---- held
module _ (w : List ℕ) (table : List Path) (k c b : ℕ) (p : Path) (f : Test → Tree) (d : Tree) where
  -- a node with these cases and tail cases
  abbrev NodeOf : ℕ → List Met → List Met → Cases → Type 0
  NodeOf kind es ts cs = Stands w (nodes_start + node_size * k) (node_bytes kind (path_number table p) c (length es) (length ts) (default_field (k + 1 + nodes_in_of cs) d))

  abbrev DefaultOf : ℕ → Cases → Type 0
  DefaultOf n cs = Held w table (k + 1 + nodes_in_of cs) (c + n + cases_in_of cs) (b + length (bindings_in_of cs)) d

  switch_on : (ms : List Met) → 1 ≤ length ms → NodeOf 0 ms [] (cases_on f ms) → Stands w (cases_start + case_size * c) (own_cases (k + 1) (cases_on f ms))
      → HeldOf w table (k + 1) (c + length ms) b (cases_on f ms) → DefaultOf (length ms) (cases_on f ms) → Held w table k c b (switch p (cases_on f ms) d)
  unfolding TreeStands
  switch_on ms l node own under default =
      let cs = cases_on f ms in
      let n : how_many cs ≡ length ms = how_many_cases_on f ms in
      let first : first_of (how_many cs) c ≡ c = sym (first_some (how_many cs) c (λ z. omega arith)) in
      (rw (first, n) node, own, rw n under, rw n default)

  list_switch_on : (es ts : List Met) (all : Cases) → all ≡ joined (cases_on f es) (cases_on f ts) → 1 ≤ length es + length ts → NodeOf 1 es ts all
      → Stands w (cases_start + case_size * c) (own_cases (k + 1) all) → HeldOf w table (k + 1) (c + (length es + length ts)) b all → DefaultOf (length es + length ts) all
      → Held w table k c b (listswitch p (cases_on f es) (cases_on f ts) d)
  unfolding TreeStands
  list_switch_on es ts all e l node own under default =
      let cs = cases_on f es in
      let ds = cases_on f ts in
      let n : how_many cs ≡ length es = how_many_cases_on f es in
      let m : how_many ds ≡ length ts = how_many_cases_on f ts in
      let first : first_of (how_many cs + how_many ds) c ≡ c = sym (first_some (how_many cs + how_many ds) c (λ z. omega arith)) in
      let nodes_sum : k + 1 + nodes_in_of all ≡ k + 1 + nodes_in_of cs + nodes_in_of ds = omega (arith, ap nodes_in_of e, nodes_in_of_joined cs ds) in
      let cases_at : c + (length es + length ts) ≡ c + how_many cs + how_many ds = omega arith in
      let cases_sum : c + (length es + length ts) + cases_in_of all ≡ c + how_many cs + how_many ds + cases_in_of cs + cases_in_of ds =
      omega (arith, ap cases_in_of e, cases_in_of_joined cs ds) in
      let bindings_sum : b + length (bindings_in_of all) ≡ b + length (bindings_in_of cs) + length (bindings_in_of ds) =
      omega (arith, ap length (ap bindings_in_of e ∙ bindings_in_of_joined cs ds), length-append (bindings_in_of cs) (bindings_in_of ds)) in
      let both : HeldOf w table (k + 1) (c + how_many cs + how_many ds) b (joined cs ds) = rw (← cases_at, ← e) under in (
        rw (first, n, m, ← nodes_sum) node,
        rw (← own_cases_joined (k + 1) cs ds, ← e) own,
        front_held w table (k + 1) (c + how_many cs + how_many ds) b cs ds both,
        back_held w table (k + 1) (c + how_many cs + how_many ds) b cs ds both,
        rw (← nodes_sum, ← cases_sum, ← bindings_sum) default,
      )

-- a node's kind
abbrev pub switch_kind : List Pat → ℕ
switch_kind qs = pick (has_list qs) 1 0

module _ (w : List ℕ) (table : List Path) (k c b : ℕ) (p : Path) (qs : List Pat) (f : Test → Tree) (d : Tree) where
  node_on_held : 1 ≤ length (in_order qs)
      → Stands w (nodes_start + node_size * k)
      (node_bytes (switch_kind qs) (path_number table p) c (length (only is_exact (cases_of qs))) (length (only is_tail (cases_of qs))) (default_field (k + 1 + nodes_in_of (cases_on f (in_order qs))) d))
      → Stands w (cases_start + case_size * c) (own_cases (k + 1) (cases_on f (in_order qs)))
      → HeldOf w table (k + 1) (c + length (in_order qs)) b (cases_on f (in_order qs))
      → Held w table (k + 1 + nodes_in_of (cases_on f (in_order qs))) (c + length (in_order qs) + cases_in_of (cases_on f (in_order qs)))
      (b + length (bindings_in_of (cases_on f (in_order qs)))) d → Held w table k c b (node_on p qs f d)
  node_on_held l node own under default = go (has_list qs) refl
    where
      es : List Met
      es = only is_exact (cases_of qs)

      ts : List Met
      ts = only is_tail (cases_of qs)

      order_length : length (in_order qs) ≡ length es + length ts
      order_length = unfold in_order in length-append es ts

      go : (x : Bool) → has_list qs ≡ x → Held w table k c b (node_on p qs f d)
      go true e =
          rw (node_on_list p qs f d e)
          (list_switch_on w table k c b p f d es ts (cases_on f (in_order qs)) (below_list p qs f d) (omega (arith, order_length)) (rw e at node) own (rw order_length at under) (rw order_length at default))
      go false e =
          rw (node_on_plain p qs f d e)
          (switch_on w table k c b p f d (in_order qs) l (rw (e, exact_all qs e, tail_none qs e, ← order_same qs e) at node) own under default)

-- ---- a switch put
-- the cases are put from `from` on, up to `at`, and then the default up to `to`
pub record SwitchPut (table : List Path) (p : Path) (qs : List Pat) (f : Test → Tree) (d : Tree) (w w₁ w₂ w₃ w' : List ℕ) (tops from at to : Tops) : Type 0 where
  pub room : Roomy w tops
  pub node_room : tops.nodes < nodes_most
  pub some_case : 1 ≤ length (in_order qs)
  pub kept : Kept tops.nodes tops.cases tops.bindings w w₁
  pub from_nodes : from.nodes ≡ tops.nodes + 1
  pub from_cases : from.cases ≡ tops.cases + length (in_order qs)
  pub from_bindings : from.bindings ≡ tops.bindings
  pub from_leaves : from.leaves ≡ tops.leaves
  pub cases : CasesPut table f (in_order qs) [] tops.cases w₁ w₂ from at
  pub node :
      w₃
      ≡ stored w₂ (node_size * tops.nodes)
      (node_bytes (switch_kind qs) (path_number table p) tops.cases (length (only is_exact (cases_of qs))) (length (only is_tail (cases_of qs))) (default_field at.nodes d))
  pub default : Put table w₃ w' d at to

module _ {table : List Path} {p : Path} {qs : List Pat} {f : Test → Tree} {d : Tree} {w w₁ w₂ w₃ w' : List ℕ} {tops from at to : Tops}
    (x : SwitchPut table p qs f d w w₁ w₂ w₃ w' tops from at to) where
  pub switch_put : Put table w w' (node_on p qs f d) tops to
  unfolding node_bytes case_records
  switch_put =
      record {
        counted =
            counted_as (sym (nodes_in_on p qs f d)) (sym (cases_in_on p qs f d)) (sym (bindings_in_on p qs f d)) (λ i. sym (has_leaf_on p qs f d i))
            (counted_then start (counted_then x.cases.counted x.default.counted));
        room = x.default.room;
        kept = kept_trans x.kept (kept_trans kept₂ (kept_trans kept₃ kept₄));
        held = held;
      }
    where
      cs : Cases
      cs = cases_on f (in_order qs)

      start : Counted 1 (length (in_order qs)) [] (λ i. false) tops from
      start =
          record {
            nodes = x.from_nodes;
            cases = x.from_cases;
            bindings = omega (arith, x.from_bindings, x.room.bindings_most_holds);
            leaves = λ i l. ap (λ z. get_or z i 0) x.from_leaves;
          }

      nodes_at : at.nodes ≡ tops.nodes + 1 + nodes_in_of cs
      nodes_at = omega (arith, x.cases.counted.nodes, x.from_nodes)

      cases_at : at.cases ≡ tops.cases + length (in_order qs) + cases_in_of cs
      cases_at = omega (arith, x.cases.counted.cases, x.from_cases)

      kept₂ : Kept tops.nodes tops.cases tops.bindings w₁ w₂
      kept₂ = kept_weaken (omega (arith, x.from_nodes)) (omega arith) (omega (arith, x.from_bindings)) x.cases.kept

      bytes : List ℕ
      bytes =
          node_bytes (switch_kind qs) (path_number table p) tops.cases (length (only is_exact (cases_of qs))) (length (only is_tail (cases_of qs))) (default_field at.nodes d)

      kept₃ : Kept tops.nodes tops.cases tops.bindings w₂ w₃
      kept₃ = rw x.node (kept_node tops.nodes tops.cases tops.bindings tops.nodes w₂ bytes (omega arith) x.node_room refl)

      kept₄ : Kept tops.nodes tops.cases tops.bindings w₃ w'
      kept₄ =
          kept_weaken (omega arith) (omega arith) (omega (arith, x.cases.counted.bindings, x.from_bindings, x.room.bindings_most_holds)) x.default.kept

      held : tops.bindings + length (bindings_in (node_on p qs f d)) ≤ bindings_most → Held w' table tops.nodes tops.cases tops.bindings (node_on p qs f d)
      held h =
          let few : tops.bindings + length (bindings_in_of cs) + length (bindings_in d) ≤ bindings_most =
          omega (arith, ap length (bindings_in_on p qs f d), length-append (bindings_in_of cs) (bindings_in d)) in
          let bindings_at : at.bindings ≡ tops.bindings + length (bindings_in_of cs) = omega (arith, x.cases.counted.bindings, x.from_bindings) in
          let under₂ : HeldOf w₂ table (tops.nodes + 1) (tops.cases + length (in_order qs)) tops.bindings cs =
          rw (← x.from_nodes, ← x.from_cases, ← x.from_bindings) (x.cases.held (omega (arith, x.from_bindings))) in
          let under₃ : HeldOf w₃ table (tops.nodes + 1) (tops.cases + length (in_order qs)) tops.bindings cs =
          rw x.node
          (held_of_apart w₂ table (tops.nodes + 1) (tops.cases + length (in_order qs)) tops.bindings cs (node_size * tops.nodes) bytes (inl (omega arith))
          (omega (arith, x.node_room)) (omega (arith, x.node_room)) under₂) in
          let own₂ : Stands w₂ (cases_start + case_size * tops.cases) (own_cases (tops.nodes + 1) cs) =
          rw (← x.from_nodes) (rw (append-nil (own_cases from.nodes cs)) at x.cases.own) in
          let own₃ : Stands w₃ (cases_start + case_size * tops.cases) (own_cases (tops.nodes + 1) cs) =
          rw x.node
          (stands_apart w₂ (cases_start + case_size * tops.cases) (own_cases (tops.nodes + 1) cs) (node_size * tops.nodes) bytes (inl (omega (arith, x.node_room))) own₂) in
          let node₃ : Stands w₃ (nodes_start + node_size * tops.nodes) bytes =
          rw x.node
          (node_stored w₂ tops.nodes bytes (omega (arith, x.node_room, x.cases.room.long))) in
          node_on_held w' table tops.nodes tops.cases tops.bindings p qs f d x.some_case
          (rw (← nodes_at) (nodes_kept x.default.kept tops.nodes bytes (omega arith) node₃))
          (cases_kept x.default.kept tops.cases (own_cases (tops.nodes + 1) cs)
          (omega (arith, length_own_cases (tops.nodes + 1) cs, how_many_cases_on f (in_order qs))) own₃)
          (held_of_kept x.default.kept table (tops.nodes + 1) (tops.cases + length (in_order qs)) tops.bindings cs (omega arith) (omega arith) (omega arith) under₃)
          (rw (← nodes_at, ← cases_at, ← bindings_at) (x.default.held (omega arith)))

  pub switch_fewer : cases_in d ≤ nodes_in d → cases_in (node_on p qs f d) < nodes_in (node_on p qs f d)
  switch_fewer l = omega (arith, x.cases.fewer_cases, cases_in_on p qs f d, nodes_in_on p qs f d)

-- ---- too many nodes
pub full_over : (a : Tree) (tops : Tops) → tops.nodes ≡ nodes_most → 1 ≤ nodes_in a → TooMany a tops
full_over a tops e l pending h = omega arith

module _ (p : Path) (qs : List Pat) (f : Test → Tree) (d : Tree) (tops : Tops) where
  -- there is no room for the records of the cases
  pub met_over : All (There f) (in_order qs) → cases_most ≤ tops.cases + length (in_order qs) → TooMany (node_on p qs f d) tops
  met_over there l pending h = omega (arith, nodes_in_on p qs f d, each_node f (in_order qs) there)

  -- the cases have too many
  pub cases_over : (from : Tops) → from.nodes ≡ tops.nodes + 1 → TooManyOf f (in_order qs) tops.cases from → TooMany (node_on p qs f d) tops
  cases_over from e over pending h = omega (arith, nodes_in_on p qs f d, over pending (omega arith))

  -- the default has too many, the cases being built
  pub default_over : (w w' : List ℕ) (table : List Path) (from at : Tops) → from.nodes ≡ tops.nodes + 1 → from.cases ≡ tops.cases + length (in_order qs)
      → CasesPut table f (in_order qs) [] tops.cases w w' from at → TooMany d at → TooMany (node_on p qs f d) tops
  default_over w w' table from at e g x over pending h =
      omega (arith, nodes_in_on p qs f d, x.counted.nodes, over pending (omega (arith, x.counted.nodes, x.counted.cases, x.fewer_cases)))
