-- The steps of building a tree, as laws over plain values: the counts of what is put one after the other, a leaf put, nothing put.
-- Rests on the arena's laws of stores.
use Rattle.std.specs.Prelude.{◌≡◌, refl, Bool, true, false, List, ◌++◌, ◌⊎◌, ℕ, ◌+◌, ◌-◌, ◌*◌, ◌≤◌, ◌<◌, eqb, length, get_or, set}
use Rattle.std.proofs.Common.{ap, ◌∙◌, inl, inr, arith, length-append, length-set, get_or-set_same, get_or-set_other, eqb-true}
use Rattle.std.proofs.lemmas.Bool.{eqb-false}
use Rattle.base_words.specs.Words.{either, pick}
use Rattle.base_words.specs.Stored.{stored}
use Rattle.base_words.specs.StoredLaws.{length_stored, get_or_stored_below, get_or_stored_above}
use Rattle.spec_rules.specs.Limits.{clauses_most, nodes_most, bindings_most, node_size, case_size, binding_size}
use Rattle.spec_rules.specs.Kinds.{leaf_node}
use Rattle.spec_rules.specs.Rows.{Path, Binding}
use Rattle.spec_rules.specs.Building.{Cases, absent, leaf}
use Rattle.spec_rules.specs.Hoisting.{nodes_in, nodes_in_of, bindings_in, bindings_in_of, has_leaf}
use Rattle.spec_rules.specs.TreeFile.{first_of, node_bytes, cases_in, cases_in_of, bindings_bytes}
use Rattle.spec_file.specs.StandingLaws.{Stands, stands_byte}
use Rattle.spec_file.specs.TreeStands.{TreeStands}
use Rattle.build_arena.specs.Arena.{nodes_start, cases_start, cases_most, bindings_start, Held, HeldOf}
use Rattle.build_arena.specs.WritingLaws.{Kept, kept_refl, kept_trans, kept_weaken, kept_node, stands_room, stands_bytes, node_stored, Carried, held_of_carried}
use Rattle.build_leaves.specs.Bindings.{capped}
use Rattle.build_nodes.specs.declared.tops.Tops.{Tops}
use Rattle.build_nodes.specs.Built.{Counted, Roomy, Put}

-- ---- what stands apart from a store stays
pub stands_apart : (t : List ℕ) (i : ℕ) (xs : List ℕ) (j : ℕ) (vs : List ℕ) → (j + length vs ≤ i) ⊎ (i + length xs ≤ j) → Stands t i xs → Stands (stored t j vs) i xs
stands_apart t i xs j vs o s =
    stands_bytes (stored t j vs) i xs (omega (arith, length_stored t j vs, stands_room s)) (λ k h. byte o k h ∙ stands_byte s k h)
  where
    byte : (j + length vs ≤ i) ⊎ (i + length xs ≤ j) → (k : ℕ) → k < length xs → get_or (stored t j vs) (i + k) 0 ≡ get_or t (i + k) 0
    byte (inl l) k h = get_or_stored_above t j vs (i + k) 0 (omega arith)
    byte (inr l) k h = get_or_stored_below t j vs (i + k) 0 (omega arith)

-- the records below cases stay where a store is apart from their nodes and before their cases
pub held_of_apart : (w : List ℕ) (table : List Path) (k c b : ℕ) (cs : Cases) (at : ℕ) (vs : List ℕ)
    → (at + length vs ≤ node_size * k) ⊎ (node_size * (k + nodes_in_of cs) ≤ at) → at + length vs ≤ cases_start + case_size * c → at + length vs ≤ bindings_start
    → HeldOf w table k c b cs → HeldOf (stored w at vs) table k c b cs
held_of_apart w table k c b cs at vs o l m h =
    held_of_carried carried table cs k c b h (omega arith) (omega arith) (omega arith) (omega arith) (omega arith) (omega arith)
  where
    apart : (at + length vs ≤ node_size * k) ⊎ (node_size * (k + nodes_in_of cs) ≤ at) → (i : ℕ) (xs : List ℕ) → k ≤ i → node_size * i + length xs ≤ node_size * (k + nodes_in_of cs)
        → (at + length vs ≤ nodes_start + node_size * i) ⊎ (nodes_start + node_size * i + length xs ≤ at)
    apart (inl x) i xs y z = inl (omega arith)
    apart (inr x) i xs y z = inr (omega arith)

    carried : Carried k c b (k + nodes_in_of cs) (c + cases_in_of cs) (b + length (bindings_in_of cs)) w (stored w at vs)
    carried =
        record {
          nodes = λ i xs s y z. stands_apart w (nodes_start + node_size * i) xs at vs (apart o i xs y z) s;
          cases = λ i xs s y z. stands_apart w (cases_start + case_size * i) xs at vs (inl (omega arith)) s;
          bindings = λ table i bs s y z. stands_apart w (bindings_start + binding_size * i) (bindings_bytes table bs) at vs (inl (omega arith)) s;
        }

-- a run of cases stored at number i or at a later one
pub kept_cases : (k c b i : ℕ) (w xs : List ℕ) → k ≤ nodes_most → c ≤ i → cases_start + case_size * i + length xs ≤ bindings_start
    → Kept k c b w (stored w (cases_start + case_size * i) xs)
kept_cases k c b i w xs f g h =
    record {
      same_length = length_stored w (cases_start + case_size * i) xs;
      nodes = λ j l. get_or_stored_below w (cases_start + case_size * i) xs j 0 (omega arith);
      cases = λ j l. get_or_stored_below w (cases_start + case_size * i) xs (cases_start + j) 0 (omega arith);
      bindings = λ j l. get_or_stored_above w (cases_start + case_size * i) xs (bindings_start + j) 0 (omega arith);
    }

-- ---- counts
either_pick : (x y : Bool) (n : ℕ) → pick y 1 (pick x 1 n) ≡ pick (either x y) 1 n
either_pick true true n = refl
either_pick true false n = refl
either_pick false y n = refl

pub counted_then : {n c n' c' : ℕ} {bs bs' : List Binding} {has has' : ℕ → Bool} {x y z : Tops}
    → Counted n c bs has x y → Counted n' c' bs' has' y z → Counted (n + n') (c + c') (bs ++ bs') (λ i. either (has i) (has' i)) x z
counted_then {n} {c} {n'} {c'} {bs} {bs'} {has} {has'} {x} {y} {z} f g =
    record {
      nodes = omega (arith, f.nodes, g.nodes);
      cases = omega (arith, f.cases, g.cases);
      bindings = omega (arith, f.bindings, g.bindings, length-append bs bs');
      leaves = λ i l.
          g.leaves i l ∙ ap (pick (has' i) 1) (f.leaves i l) ∙ either_pick (has i) (has' i) (get_or x.leaves i 0);
    }

-- the same counts in other words
pub counted_as : {n c n' c' : ℕ} {bs bs' : List Binding} {has has' : ℕ → Bool} {x y : Tops}
    → n ≡ n' → c ≡ c' → bs ≡ bs' → ((i : ℕ) → has i ≡ has' i) → Counted n c bs has x y → Counted n' c' bs' has' x y
counted_as {x = x} e f g h k =
    record {
      nodes = k.nodes ∙ ap (λ z. x.nodes + z) e;
      cases = k.cases ∙ ap (λ z. x.cases + z) f;
      bindings = k.bindings ∙ ap (λ z. capped (x.bindings + length z)) g;
      leaves = λ i l. k.leaves i l ∙ ap (λ z. pick z 1 (get_or x.leaves i 0)) (h i);
    }

-- ---- nothing put
pub absent_put : (table : List Path) (w : List ℕ) (tops : Tops) → Roomy w tops → Put table w w absent tops tops
unfolding nodes_in cases_in bindings_in has_leaf TreeStands
absent_put table w tops r =
    record {
      counted = record { nodes = omega arith; cases = omega arith; bindings = omega (arith, r.bindings_most_holds); leaves = λ i l. refl };
      room = r;
      kept = kept_refl tops.nodes tops.cases tops.bindings w;
      held = λ h. tt;
    }

-- ---- a leaf
-- w₁ is the buffer once the bindings are there, w' with the leaf's record too
pub leaf_put : (table : List Path) (w w₁ w' : List ℕ) (x : ℕ) (bs : List Binding) (from to : Tops) (first n : ℕ)
    → Roomy w from → from.nodes < nodes_most → x < clauses_most
    → Kept nodes_most cases_most from.bindings w w₁
    → (from.bindings + length bs ≤ bindings_most → Stands w₁ (bindings_start + binding_size * from.bindings) (bindings_bytes table bs))
    → w' ≡ stored w₁ (node_size * from.nodes) (node_bytes leaf_node x first n 0 0)
    → n ≡ to.bindings - from.bindings → first ≡ first_of n from.bindings
    → to.nodes ≡ from.nodes + 1 → to.cases ≡ from.cases → to.bindings ≡ capped (from.bindings + length bs) → to.leaves ≡ set from.leaves x 1
    → Put table w w' (leaf x bs) from to
unfolding nodes_in cases_in bindings_in has_leaf node_bytes TreeStands
leaf_put table w w₁ w' x bs from to first n r k_room x_room kept₁ bound stored_is n_is first_is nodes_is cases_is bindings_is leaves_is =
    record {
      counted = record { nodes = nodes_is; cases = omega arith; bindings = bindings_is; leaves = λ i l. ap (λ z. get_or z i 0) leaves_is ∙ flag i };
      room = record {
        long = omega (arith, long', r.long);
        nodes_most_holds = omega arith;
        cases_most_holds = omega (arith, r.cases_most_holds);
        bindings_most_holds = omega arith;
        leaves_long = ap length leaves_is ∙ length-set from.leaves x 1 ∙ r.leaves_long;
      };
      kept = kept_trans (kept_weaken (omega (arith, r.nodes_most_holds)) (omega (arith, r.cases_most_holds)) (omega arith) kept₁) kept₂;
      held = held;
    }
  where
    record₁ : List ℕ
    record₁ = node_bytes leaf_node x first n 0 0

    kept₂ : Kept from.nodes from.cases from.bindings w₁ w'
    kept₂ = rw stored_is (kept_node from.nodes from.cases from.bindings from.nodes w₁ record₁ (omega arith) k_room refl)

    long' : length w' ≡ length w
    long' = kept₂.same_length ∙ kept₁.same_length

    flag : (i : ℕ) → get_or (set from.leaves x 1) i 0 ≡ pick (eqb i x) 1 (get_or from.leaves i 0)
    flag i = go (eqb i x) refl
      where
        go : (b : Bool) → eqb i x ≡ b → get_or (set from.leaves x 1) i 0 ≡ pick (eqb i x) 1 (get_or from.leaves i 0)
        go true e =
            let q : i ≡ x = eqb-true i x e in
            rw e (ap (λ z. get_or (set from.leaves x 1) z 0) q ∙ get_or-set_same from.leaves x 1 0 (omega (arith, r.leaves_long)))
        go false e = rw e (get_or-set_other from.leaves x i 1 0 (eqb-false i x e))

    held : from.bindings + length bs ≤ bindings_most → Held w' table from.nodes from.cases from.bindings (leaf x bs)
    held h =
        let count : n ≡ length bs = omega arith in (
          rw (stored_is, first_is, count) (node_stored w₁ from.nodes (node_bytes leaf_node x (first_of (length bs) from.bindings) (length bs) 0 0) (omega (arith, kept₁.same_length, r.long))),
          rw stored_is (stands_apart w₁ (bindings_start + binding_size * from.bindings) (bindings_bytes table bs) (node_size * from.nodes) record₁ (inl (omega arith)) (bound h)),
        )
