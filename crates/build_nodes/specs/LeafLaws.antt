-- The leaf of a matrix in which no column is chosen, as the code puts it; and a matrix for whose tree there is no node more.
-- Rests on the bindings put by the crate build_leaves.
use Rattle.std.specs.Prelude.{◌≡◌, List, map, ℕ, ◌+◌, ◌-◌, ◌*◌, ◌≤◌, ◌<◌, length, take, set, Some, None}
use Rattle.std.proofs.Math.Path.{sym}
use Rattle.std.proofs.Common.{ap, ◌∙◌, arith}
use Rattle.base_words.specs.Stored.{stored}
use Rattle.spec_rules.specs.Limits.{clauses_most, nodes_most, bindings_most, node_size}
use Rattle.spec_rules.specs.Kinds.{leaf_node}
use Rattle.spec_rules.specs.Rows.{Binding}
use Rattle.spec_rules.specs.Building.{leaf}
use Rattle.spec_rules.specs.Hoisting.{nodes_in}
use Rattle.spec_rules.specs.TreeFile.{first_of, node_bytes, cases_in}
use Rattle.spec_accepted.specs.SheetFacts.{Accepted}
use Rattle.format_sheet.specs.declared.SheetMap.{SheetMap}
use Rattle.build_table.specs.Standing.{sheet_paths}
use Rattle.build_table.specs.Seen.{binding_at}
use Rattle.build_matrix.specs.declared.Matrix.{Matrix}
use Rattle.build_matrix.specs.Columns.{Choice}
use Rattle.build_matrix.specs.HeldRows.{count_of, best_of}
use Rattle.build_matrix.specs.Lists.{classes_in, numbers_in}
use Rattle.build_matrix.specs.Reading.{held_in}
use Rattle.build_matrix.specs.Numbered.{chosen_in, tree_at}
use Rattle.build_matrix.specs.InNumbers.{in_numbers, Readable, chosen_read}
use Rattle.build_matrix.specs.InNumbersLaws.{chosen_read_lem, readable}
use Rattle.build_matrix.specs.Bound.{leaf_numbers, clause_leaf}
use Rattle.build_matrix.specs.TreesLaws.{some_tree, tree_leaf}
use Rattle.build_leaves.specs.Bindings.{bound, bound_all, LeafAsked, first_clause, WithRow}
use Rattle.build_leaves.specs.PuttingLaws.{leaf_asked}
use Rattle.build_leaves.specs.StandsLaws.{all_bound, leaf_is}
use Rattle.build_nodes.specs.declared.tops.Tops.{Tops}
use Rattle.build_nodes.specs.Built.{Roomy, Put, Builds, TooMany}
use Rattle.build_nodes.specs.BuiltLaws.{leaf_put}
use Rattle.build_nodes.specs.SwitchLaws.{full_over}
use Rattle.build_nodes.specs.ColumnLaws.{rows_count}
use Rattle.build_nodes.specs.Steps.{MatrixThere, Asked}

leaf_fewer : (c : ℕ) (bs : List Binding) → cases_in (leaf c bs) < nodes_in (leaf c bs)
unfolding cases_in nodes_in
leaf_fewer c bs = omega arith

-- ---- the leaf of a clause
module _ {s : List ℕ} (ok : Accepted s) {c n : ℕ} {tested : List ℕ} (asked : LeafAsked s c tested n) (opened : List ℕ) where
  abbrev numbers : List ℕ
  numbers = leaf_numbers s opened (take n tested) c

  pub clause_small : c < clauses_most
  clause_small = omega (arith, asked.clause, ok.is_counted.clauses_most_holds)

  pub leaf_top : {w w₁ : List ℕ} {tops : Tops} {top : ℕ} → Roomy w tops → bound w₁ top ≡ bound_all s (bound w tops.bindings) numbers
      → (tops.bindings ≤ top) × (top ≤ bindings_most + 1) × (length w₁ ≡ length w)
  leaf_top {w} {w₁} {tops} {top} room bs =
      let b = all_bound s numbers w tops.bindings w₁ top (record { long = room.long; most = room.bindings_most_holds }) bs in
      (omega (arith, b.count, room.bindings_most_holds), omega (arith, b.count), b.kept.same_length)

  -- the leaf's record behind its bindings
  pub leaf_step : (w w₁ w' : List ℕ) (tops to : Tops) (top count first : ℕ) → Roomy w tops → tops.nodes < nodes_most
      → bound w₁ top ≡ bound_all s (bound w tops.bindings) numbers → count ≡ top - tops.bindings → first ≡ first_of count tops.bindings
      → w' ≡ stored w₁ (node_size * tops.nodes) (node_bytes leaf_node c first count 0 0)
      → to ≡ record { nodes = tops.nodes + 1; cases = tops.cases; bindings = top; leaves = set tops.leaves c 1 }
      → Put (sheet_paths s) w w' (clause_leaf s opened (take n tested) c) tops to
  leaf_step w w₁ w' tops to top count first room l bs count_is first_is put to_is =
      let b = all_bound s numbers w tops.bindings w₁ top (record { long = room.long; most = room.bindings_most_holds }) bs in
      leaf_put (sheet_paths s) w w₁ w' c (map (binding_at s) numbers) tops to first count room l clause_small b.kept b.there put
      (count_is ∙ ap (λ z. z - tops.bindings) (sym (ap (λ (z : Tops). z.bindings) to_is))) first_is
      (ap (λ (z : Tops). z.nodes) to_is) (ap (λ (z : Tops). z.cases) to_is) (ap (λ (z : Tops). z.bindings) to_is ∙ b.count)
      (ap (λ (z : Tops). z.leaves) to_is)

-- ---- the leaf of a matrix
module _ {s : List ℕ} (ok : Accepted s) {x : Matrix} (there : MatrixThere s x) where
  with_row : WithRow s x
  with_row =
      record {
        rows = there.whole.whole_rows;
        tested = there.whole.whole_tested;
        sound = there.sound;
        some_row = omega (arith, there.some_row, rows_count there.whole);
      }

  -- as the code has it
  pub clause_asked : (c : ℕ) → c ≡ first_clause x → LeafAsked s c x.tested.list x.tested.count
  clause_asked c e = leaf_asked s x with_row ok.is_counted.patterns_most_holds c e

  leaf_tree : chosen_in s (in_numbers x) ≡ None → (c : ℕ) → c ≡ first_clause x → tree_at s (in_numbers x) ≡ clause_leaf s x.opened (classes_in x.tested) c
  leaf_tree e c is = tree_leaf ok (in_numbers x) there.sound e ∙ leaf_is s ok x with_row ∙ ap (clause_leaf s x.opened (classes_in x.tested)) (sym is)

  -- it is built
  pub leaf_builds : (w w' : List ℕ) (tops to : Tops) (c : ℕ) → chosen_in s (in_numbers x) ≡ None → c ≡ first_clause x
      → Put (sheet_paths s) w w' (clause_leaf s x.opened (classes_in x.tested) c) tops to → Builds (sheet_paths s) w w' (tree_at s (in_numbers x)) tops (Some to)
  leaf_builds w w' tops to c e is p =
      rw (leaf_tree e c is)
      (record { put = p; fewer_cases = leaf_fewer c (map (binding_at s) (leaf_numbers s x.opened (classes_in x.tested) c)) })

  -- ---- no node more
  pub full_builds : (tops : Tops) → tops.nodes ≡ nodes_most → TooMany (tree_at s (in_numbers x)) tops
  full_builds tops e = full_over (tree_at s (in_numbers x)) tops e (some_tree s (in_numbers x) there.some_row)

-- the column that the table tells
module _ {s : List ℕ} {m : SheetMap} {t : List ℕ} {x : Matrix} {w : List ℕ} {tops : Tops} (asked : Asked s m t x w tops) where
  pub asked_readable : Readable t x
  asked_readable = readable asked.ready x asked.there.whole asked.there.sound

  pub asked_chosen : (r : Choice) → r ≡ best_of (λ k. count_of (held_in t x.opened k) (numbers_in x.rows)) None 0 (classes_in x.columns) → {o : Choice} → r ≡ o
      → chosen_in s (in_numbers x) ≡ o
  unfolding chosen_read
  asked_chosen r e f = sym (chosen_read_lem asked.ready (in_numbers x) asked.there.sound) ∙ sym e ∙ f

pub node_left : {n : ℕ} → n ≤ nodes_most → (n ≡ nodes_most → ⊥) → n < nodes_most
node_left l h = omega arith
