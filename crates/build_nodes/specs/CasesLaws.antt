-- The loop over the cases of a switch, as laws over plain values: where it begins, a turn that builds one more case, where it ends, and
-- the number of nodes where a case has too many.
use Rattle.std.specs.Prelude.{◌≡◌, Bool, ℕ, ◌+◌, ◌*◌, ◌≤◌, ◌<◌}
use Rattle.std.proofs.Math.Path.{refl, sym, ap}
use Rattle.std.proofs.Common.{◌∙◌, inl, inr}
use Rattle.std.proofs.Math.Bool.{true, false}
use mathlib.Core.List.{List, [], ◌∷◌, ◌++◌, append_assoc, append-nil}
use native.Mathlib.Omega.{arith}
use Rattle.std.proofs.Math.ListN.{length, length-append}
use Rattle.base_words.specs.Words.{word_bytes, either}
use Rattle.base_words.specs.Stored.{stored}
use Rattle.spec_rules.specs.Limits.{bindings_most, case_size}
use Rattle.spec_rules.specs.Rows.{Path}
use Rattle.spec_rules.specs.Splitting.{Test, Met}
use Rattle.spec_rules.specs.SplittingLaws.{All}
use Rattle.spec_rules.specs.Building.{Tree, Cases, cnil, ccons}
use Rattle.spec_rules.specs.Hoisting.{nodes_in, nodes_in_of, bindings_in, bindings_in_of, has_leaf, has_leaf_of}
use Rattle.spec_rules.specs.TreeFile.{cases_in, cases_in_of, case_bytes, own_cases}
use Rattle.spec_file.specs.StandingLaws.{Stands, stands_left, stands_right}
use Rattle.spec_file.specs.TreeStands.{TreeStands}
use Rattle.spec_file.specs.Writable.{test_kind}
use Rattle.spec_file.specs.RecordsLaws.{test_number, test_length, case_fields, case_bytes_fields}
use Rattle.spec_file.specs.LengthLaws.{length_case_bytes, length_own_cases}
use Rattle.spec_match.specs.Depth.{cases_on}
use Rattle.spec_match.specs.Lists.{all_back}
use Rattle.build_arena.specs.Arena.{cases_start, Held, HeldOf}
use Rattle.build_arena.specs.WritingLaws.{Kept, kept_refl, kept_trans, kept_weaken, kept_case, cases_kept, held_of_kept, stands_room, stands_join, stands_stored}
use Rattle.build_arena.specs.Numbered.{joined}
use Rattle.build_arena.specs.NumberedLaws.{nodes_in_of_joined}
use Rattle.build_cases.specs.Passes.{case_records}
use Rattle.build_cases.specs.SoFarLaws.{length_case_records}
use Rattle.build_nodes.specs.declared.tops.Tops.{Tops}
use Rattle.build_nodes.specs.Built.{Put, TooMany, CasesPut, Partly, TooManyOf, CasesOpen}
use Rattle.build_nodes.specs.JoinedLaws.{cases_in_of_joined, bindings_in_of_joined, has_leaf_of_joined, own_cases_joined, cases_on_append, how_many_cases_on, held_of_joined}
use Rattle.build_nodes.specs.BuiltLaws.{stands_apart, held_of_apart, counted_then, counted_as}

-- ---- a child written into a case that stands
child_put : (w : List ℕ) (at : ℕ) (u : Test) (start before child : ℕ) → Stands w at (case_bytes u start before) → Stands (stored w (at + 6) (word_bytes child)) at (case_bytes u start child)
unfolding case_fields
child_put w at u start before child s =
    let front = test_kind u ∷ 0 ∷ (word_bytes (test_number start u) ++ word_bytes (test_length u)) in
    let whole : Stands w at (front ++ word_bytes before) = rw (case_bytes_fields u start before) at s in
    rw (case_bytes_fields u start child)
    (stands_join (stored w (at + 6) (word_bytes child)) at (at + 6) front (word_bytes child) refl
    (stands_apart w at front (at + 6) (word_bytes child) (inr (omega arith)) (stands_left front (word_bytes before) whole))
    (stands_stored w (at + 6) (word_bytes child) (omega (arith, stands_room whole))))

-- among others, behind xs and before ys
child_put_among : (w : List ℕ) (i : ℕ) (xs : List ℕ) (u : Test) (start child : ℕ) (ys : List ℕ) (at : ℕ) → i + length xs ≡ at
    → Stands w i (xs ++ (case_bytes u start 0 ++ ys)) → Stands (stored w (at + 6) (word_bytes child)) i ((xs ++ case_bytes u start child) ++ ys)
child_put_among w i xs u start child ys at e s =
    let w' = stored w (at + 6) (word_bytes child) in
    let one = case_bytes u start 0 in
    let size = length_case_bytes u start 0 in
    let size' = length_case_bytes u start child in
    let back : Stands w at (one ++ ys) = stands_right xs (one ++ ys) at e s in
    let rest : Stands w (at + case_size) ys = stands_right one ys (at + case_size) (omega arith) back in
    let x : Stands w' i xs = stands_apart w i xs (at + 6) (word_bytes child) (inr (omega arith)) (stands_left xs (one ++ ys) s) in
    let c : Stands w' at (case_bytes u start child) = child_put w at u start 0 child (stands_left one ys back) in
    let y : Stands w' (at + case_size) ys = stands_apart w (at + case_size) ys (at + 6) (word_bytes child) (inl (omega arith)) rest in
    stands_join w' i (at + case_size) (xs ++ case_bytes u start child) ys (omega (arith, length-append xs (case_bytes u start child)))
    (stands_join w' i at xs (case_bytes u start child) e x c) y

-- ---- one more case
one_more : (f : Test → Tree) (ms : List Met) (m : Met) → cases_on f (ms ++ m ∷ []) ≡ joined (cases_on f ms) (ccons m.test m.start (f m.test) cnil)
unfolding cases_on
one_more f ms m = cases_on_append f ms (m ∷ [])

module _ (t : Test) (start : ℕ) (a : Tree) where
  abbrev single : Cases
  single = ccons t start a cnil

  single_nodes : nodes_in_of single ≡ nodes_in a
  unfolding nodes_in_of
  single_nodes = omega arith

  single_cases : cases_in_of single ≡ cases_in a
  unfolding cases_in_of
  single_cases = omega arith

  single_bindings : bindings_in_of single ≡ bindings_in a
  unfolding bindings_in_of
  single_bindings = append-nil (bindings_in a)

  single_leaf : (i : ℕ) → has_leaf_of i single ≡ has_leaf i a
  unfolding has_leaf_of
  single_leaf i = go (has_leaf i a)
    where
      go : (b : Bool) → either b false ≡ b
      go true = refl
      go false = refl

  single_own : (k : ℕ) → own_cases k single ≡ case_bytes t start k
  unfolding own_cases
  single_own k = append-nil (case_bytes t start k)

-- ---- each case has a node
abbrev pub There : (Test → Tree) → Met → Type 0
There f m = 1 ≤ nodes_in (f m.test)

pub each_node : (f : Test → Tree) (ms : List Met) → All (There f) ms → length ms ≤ nodes_in_of (cases_on f ms)
unfolding cases_on nodes_in_of
each_node f [] h = omega arith
each_node f (m ∷ ms) h = omega (arith, h.0, each_node f ms h.1)

-- ---- the loop
module _ (table : List Path) (f : Test → Tree) (ms : List Met) (first : ℕ) (w₀ : List ℕ) (from : Tops) where
  -- no case is built yet
  pub cases_begin : CasesOpen ms first w₀ from → Partly table f ms first 0 w₀ w₀ from from
  unfolding cases_on nodes_in_of cases_in_of bindings_in_of has_leaf_of own_cases TreeStands
  cases_begin o =
      record {
        done = [];
        rest = ms;
        whole = refl;
        so_far = refl;
        put = record {
          counted = record { nodes = omega arith; cases = omega arith; bindings = omega (arith, o.room.bindings_most_holds); leaves = λ i l. refl };
          fewer_cases = omega arith;
          room = o.room;
          kept = kept_refl from.nodes first from.bindings w₀;
          own = o.written;
          held = λ h. tt;
        };
      }

  -- the case to build next
  pub record Next (i : ℕ) (w : List ℕ) (at : Tops) : Type 0 where
    pub done : List Met
    pub case : Met
    pub rest : List Met
    pub whole : ms ≡ done ++ case ∷ rest
    pub so_far : length done ≡ i
    pub put : CasesPut table f done (case ∷ rest) first w₀ w from at

  pub next_case : (i : ℕ) (w : List ℕ) (at : Tops) → i < length ms → Partly table f ms first i w₀ w from at → Next i w at
  next_case i w at l p = go p.rest refl
    where
      go : (rs : List Met) → p.rest ≡ rs → Next i w at
      go [] e = absurd (omega (arith, p.so_far, ap length p.whole, length-append p.done p.rest, ap length e))
      go (m ∷ rs) e =
          record {
            done = p.done;
            case = m;
            rest = rs;
            whole = p.whole ∙ ap (λ z. p.done ++ z) e;
            so_far = p.so_far;
            put = rw e at p.put;
          }

  module _ (begun : CasesOpen ms first w₀ from) (i : ℕ) (w : List ℕ) (at : Tops) (n : Next i w at) where
    at_most : first + i < from.cases
    at_most = omega (arith, begun.to_come, n.so_far, ap length n.whole, length-append n.done (n.case ∷ n.rest))

    -- its record stands where the loop is
    pub next_stands : Stands w (cases_start + case_size * (first + i)) (case_bytes n.case.test n.case.start 0)
    unfolding case_records
    next_stands =
        let front = own_cases from.nodes (cases_on f n.done) in
        let one = case_bytes n.case.test n.case.start 0 in
        stands_left one (case_records n.rest)
        (stands_right front (one ++ case_records n.rest) (cases_start + case_size * (first + i))
        (omega (arith, n.so_far, length_own_cases from.nodes (cases_on f n.done), how_many_cases_on f n.done)) n.put.own)

    -- the case is built: its child was written, and then its tree
    pub case_built : (w₁ w₂ : List ℕ) (to : Tops) → w₁ ≡ stored w (cases_start + case_size * (first + i) + 6) (word_bytes at.nodes)
        → Put table w₁ w₂ (f n.case.test) at to → cases_in (f n.case.test) < nodes_in (f n.case.test) → Partly table f ms first (i + 1) w₀ w₂ from to
    unfolding case_records TreeStands
    case_built w₁ w₂ to e p fewer =
        record {
          done = n.done ++ n.case ∷ [];
          rest = n.rest;
          whole = n.whole ∙ sym (append_assoc n.done (n.case ∷ []) n.rest);
          so_far = length-append n.done (n.case ∷ []) ∙ omega (arith, n.so_far);
          put = put;
        }
      where
        u : Test
        u = n.case.test

        cs : Cases
        cs = cases_on f n.done

        new : Cases
        new = single u n.case.start (f u)

        all : cases_on f (n.done ++ n.case ∷ []) ≡ joined cs new
        all = one_more f n.done n.case

        nodes_at : at.nodes ≡ from.nodes + nodes_in_of cs
        nodes_at = n.put.counted.nodes

        cases_at : at.cases ≡ from.cases + cases_in_of cs
        cases_at = n.put.counted.cases

        kept₁ : Kept from.nodes first from.bindings w w₁
        kept₁ =
            rw e
            (kept_case from.nodes first from.bindings (first + i) 6 w (word_bytes at.nodes) (omega (arith, n.put.room.nodes_most_holds)) (omega arith)
            (omega (arith, at_most, n.put.room.cases_most_holds)) (omega arith))

        kept₂ : Kept from.nodes first from.bindings w₁ w₂
        kept₂ = kept_weaken (omega arith) (omega (arith, at_most)) (omega (arith, n.put.counted.bindings, begun.room.bindings_most_holds)) p.kept

        own₁ : Stands w₁ (cases_start + case_size * first) ((own_cases from.nodes cs ++ case_bytes u n.case.start at.nodes) ++ case_records n.rest)
        own₁ =
            rw e
            (child_put_among w (cases_start + case_size * first) (own_cases from.nodes cs) u n.case.start at.nodes (case_records n.rest) (cases_start + case_size * (first + i))
            (omega (arith, n.so_far, length_own_cases from.nodes cs, how_many_cases_on f n.done)) n.put.own)

        a : Tree
        a = f u

        nodes_sum : nodes_in_of (cases_on f (n.done ++ n.case ∷ [])) ≡ nodes_in_of cs + nodes_in a
        nodes_sum = ap nodes_in_of all ∙ nodes_in_of_joined cs new ∙ ap (λ z. nodes_in_of cs + z) (single_nodes u n.case.start a)

        cases_sum : cases_in_of (cases_on f (n.done ++ n.case ∷ [])) ≡ cases_in_of cs + cases_in a
        cases_sum = ap cases_in_of all ∙ cases_in_of_joined cs new ∙ ap (λ z. cases_in_of cs + z) (single_cases u n.case.start a)

        bindings_sum : bindings_in_of (cases_on f (n.done ++ n.case ∷ [])) ≡ bindings_in_of cs ++ bindings_in a
        bindings_sum = ap bindings_in_of all ∙ bindings_in_of_joined cs new ∙ ap (λ z. bindings_in_of cs ++ z) (single_bindings u n.case.start a)

        leaf_either : (x : ℕ) → has_leaf_of x (cases_on f (n.done ++ n.case ∷ [])) ≡ either (has_leaf_of x cs) (has_leaf x a)
        leaf_either x = ap (has_leaf_of x) all ∙ has_leaf_of_joined x cs new ∙ ap (either (has_leaf_of x cs)) (single_leaf u n.case.start a x)

        own_sum : own_cases from.nodes (cases_on f (n.done ++ n.case ∷ [])) ≡ own_cases from.nodes cs ++ case_bytes u n.case.start at.nodes
        own_sum =
            ap (own_cases from.nodes) all
            ∙ own_cases_joined from.nodes cs new
            ∙ ap (λ z. own_cases from.nodes cs ++ z) (single_own u n.case.start a (from.nodes + nodes_in_of cs) ∙ ap (case_bytes u n.case.start) (sym nodes_at))

        own_length : length ((own_cases from.nodes cs ++ case_bytes u n.case.start at.nodes) ++ case_records n.rest) ≡ case_size * length ms
        own_length =
            omega (
              arith,
              length-append (own_cases from.nodes cs ++ case_bytes u n.case.start at.nodes) (case_records n.rest),
              length-append (own_cases from.nodes cs) (case_bytes u n.case.start at.nodes),
              length_own_cases from.nodes cs,
              how_many_cases_on f n.done,
              length_case_bytes u n.case.start at.nodes,
              length_case_records n.rest,
              ap length n.whole,
              length-append n.done (n.case ∷ n.rest),
            )

        held : from.bindings + length (bindings_in_of (cases_on f (n.done ++ n.case ∷ []))) ≤ bindings_most
            → HeldOf w₂ table from.nodes from.cases from.bindings (cases_on f (n.done ++ n.case ∷ []))
        held h =
            let k₂ = from.nodes + nodes_in_of cs in
            let c₂ = from.cases + cases_in_of cs in
            let b₂ = from.bindings + length (bindings_in_of cs) in
            let few : b₂ + length (bindings_in a) ≤ bindings_most = omega (arith, ap length bindings_sum, length-append (bindings_in_of cs) (bindings_in a)) in
            let bindings_at : at.bindings ≡ b₂ = omega (arith, n.put.counted.bindings) in
            let old : HeldOf w₂ table from.nodes from.cases from.bindings cs =
            held_of_kept p.kept table from.nodes from.cases from.bindings cs (omega arith) (omega arith) (omega arith)
            (rw e
            (held_of_apart w table from.nodes from.cases from.bindings cs (cases_start + case_size * (first + i) + 6) (word_bytes at.nodes)
            (inr (omega (arith, n.put.room.nodes_most_holds))) (omega (arith, at_most)) (omega (arith, at_most, n.put.room.cases_most_holds)) (n.put.held (omega arith)))) in
            let one : Held w₂ table k₂ c₂ b₂ a = rw (← nodes_at, ← cases_at, ← bindings_at) (p.held (omega arith)) in
            rw all (held_of_joined w₂ table from.nodes from.cases from.bindings cs new old (one, tt))

        put : CasesPut table f (n.done ++ n.case ∷ []) n.rest first w₀ w₂ from to
        put =
            record {
              counted = counted_as (sym nodes_sum) (sym cases_sum) (sym bindings_sum) (λ x. sym (leaf_either x)) (counted_then n.put.counted p.counted);
              fewer_cases = omega (arith, n.put.fewer_cases, nodes_sum, cases_sum, length-append n.done (n.case ∷ []), fewer);
              room = p.room;
              kept = kept_trans n.put.kept (kept_trans kept₁ kept₂);
              own =
                  rw own_sum
                  (cases_kept p.kept first ((own_cases from.nodes cs ++ case_bytes u n.case.start at.nodes) ++ case_records n.rest)
                  (omega (arith, own_length, begun.to_come)) own₁);
              held = held;
            }

    -- the case has too many nodes
    pub case_over : All (There f) ms → TooMany (f n.case.test) at → TooManyOf f ms first from
    unfolding cases_on nodes_in_of
    case_over there over pending l =
        omega (
          arith,
          over (pending + length n.rest)
              (omega (arith, n.put.counted.nodes, n.put.counted.cases, n.put.fewer_cases, begun.to_come, ap length n.whole, length-append n.done (n.case ∷ n.rest))),
          n.put.counted.nodes,
          ap (λ z. nodes_in_of (cases_on f z)) n.whole,
          ap nodes_in_of (cases_on_append f n.done (n.case ∷ n.rest)),
          nodes_in_of_joined (cases_on f n.done) (cases_on f (n.case ∷ n.rest)),
          each_node f n.rest (all_back (There f) n.done (n.case ∷ n.rest) (rw n.whole at there)).1,
        )

  -- all cases are built
  pub cases_end : (i : ℕ) (w : List ℕ) (at : Tops) → length ms ≤ i → Partly table f ms first i w₀ w from at → CasesPut table f ms [] first w₀ w from at
  cases_end i w at l p = go p.rest refl
    where
      go : (rs : List Met) → p.rest ≡ rs → CasesPut table f ms [] first w₀ w from at
      go [] e = rw (p.whole ∙ ap (λ z. p.done ++ z) e ∙ append-nil p.done) (rw e at p.put)
      go (m ∷ rs) e = absurd (omega (arith, p.so_far, ap length p.whole, length-append p.done p.rest, ap length e))
