-- The file of a writable tree passes what a reader asks, else 31.
-- Rests on the laws of its sections, of its records and of its order.
use Rattle.std.specs.Prelude.{◌≡◌, true, List, [], ◌∷◌, ℕ, ◌+◌, ◌-◌, ◌%◌, ◌≤◌, eqb, leb}
use Rattle.std.proofs.Common.{arith, add-zero}
use Rattle.std.proofs.Math.ListN.{length}
use borrow.Author.Tests.{le-leb, eq-eqb}
use Rattle.base_words.specs.WordsLaws.{both_make}
use Rattle.spec_rules.specs.Limits.{node_size, case_size, binding_size, path_size, step_size, tree_trailer}
use Rattle.spec_rules.specs.Searching.{every}
use Rattle.spec_rules.specs.SheetRefusals.{whole_records}
use Rattle.spec_rules.specs.Rows.{Path}
use Rattle.spec_rules.specs.Building.{Tree}
use Rattle.spec_rules.specs.Hoisting.{nodes_in, bindings_in}
use Rattle.spec_rules.specs.TreeFile.{cases_in, paths_used, path_table, tree_file}
use Rattle.spec_rules.specs.TreeReader.{tree_length, tree_nodes_at, tree_cases_at, tree_bindings_at, tree_paths_at, tree_steps_at, tree_pool_at, tree_pool_end, length_true, starts_rise, binding_keeps_rules, path_keeps_rules, step_keeps_rules, in_pre_order, tree_fits}
use Rattle.spec_file.specs.PathsLaws.{Covers, table_covers, bindings_covered}
use Rattle.spec_file.specs.FileLaws.{Filed, tree_filed}
use Rattle.spec_file.specs.Writable.{steps_in, present, Writable}
use Rattle.spec_file.specs.TableLaws.{steps_keep_rules, paths_keep_rules, bindings_keep_rules}
use Rattle.spec_file.specs.PlacedLaws.{root_placed, table_read}
use Rattle.spec_file.proofs.RulesLaws.{Keeps, tree_keeps_rules}
use Rattle.spec_file.specs.OrderLaws.{nodes_in_order}

whole : (size from to : ℕ) → from ≤ to → (to - from) % size ≡ 0 → whole_records size from to ≡ true
unfolding whole_records
whole size from to l e = both_make (leb from to) (eqb ((to - from) % size) 0) (le-leb from to l) (eq-eqb ((to - from) % size) 0 e)

module _ (t pool : List ℕ) (table : List Path) (a : Tree) (h : Filed t pool table a) where
  length_true_lem : length_true t ≡ true
  unfolding length_true
  length_true_lem =
      both_make (leb tree_trailer (length t)) (eqb (tree_length t) (length t)) (le-leb tree_trailer (length t) (omega (arith, h.length_is)))
      (eq-eqb (tree_length t) (length t) h.tree_length_is)

  starts_rise_lem : starts_rise t ≡ true
  unfolding starts_rise tree_pool_end
  starts_rise_lem =
      let n = h.nodes_at_is in
      let c = h.cases_at_is in
      let b = h.bindings_at_is in
      let p = h.paths_at_is in
      let s = h.steps_at_is in
      let o = h.tree_pool_at_is in
      let e : length t - tree_trailer ≡ tree_pool_at t + length pool = omega (arith, h.length_is) in
      rw (
        eq-eqb (tree_nodes_at t) 0 n,
        whole node_size (tree_nodes_at t) (tree_cases_at t) (omega arith) (rw (n, c) (omega arith)),
        whole case_size (tree_cases_at t) (tree_bindings_at t) (omega arith) (rw (c, b) (omega arith)),
        whole binding_size (tree_bindings_at t) (tree_paths_at t) (omega arith) (rw (b, p) (omega arith)),
        whole path_size (tree_paths_at t) (tree_steps_at t) (omega arith) (rw (p, s) (omega arith)),
        whole step_size (tree_steps_at t) (tree_pool_at t) (omega arith) (rw (s, o) (omega arith)),
        whole 1 (tree_pool_at t) (length t - tree_trailer) (omega arith) (omega arith),
      )

  module _ (v : Covers table (paths_used a)) (r : present a ≡ true) (w : Writable pool a) where
    records_keep : Keeps t 0 0 (nodes_in a) (cases_in a)
    records_keep =
        tree_keeps_rules t pool h.tree_pool_size_is table (table_read h) a 0 0 0 w (root_placed h v) (omega (arith, h.nodes_are)) (omega (arith, h.cases_are))
        (omega (arith, h.bindings_are))

    bindings_keep : every (binding_keeps_rules t) 0 (length (bindings_in a)) ≡ true
    bindings_keep = bindings_keep_rules t table (table_read h) (bindings_in a) 0 (rw add-zero h.bindings_stand) (bindings_covered table a v)

    paths_keep : every (path_keeps_rules t) 0 (length table) ≡ true
    paths_keep = paths_keep_rules t table 0 0 (rw add-zero h.paths_stand) (omega (arith, h.steps_are))

    steps_keep : every (step_keeps_rules t) 0 (steps_in table) ≡ true
    steps_keep = steps_keep_rules t table 0 (rw add-zero h.steps_stand)

    in_order : in_pre_order t 0 (nodes_in a) (0 ∷ []) ≡ true
    in_order = nodes_in_order t pool table (table_read h) a r w (root_placed h v)

    filed_fits : tree_fits t ≡ true
    unfolding tree_fits
    filed_fits =
        rw (
          length_true_lem,
          starts_rise_lem,
          h.nodes_are,
          h.cases_are,
          h.bindings_are,
          h.paths_are,
          h.steps_are,
          records_keep.nodes_keep,
          records_keep.cases_keep,
          bindings_keep,
          paths_keep,
          steps_keep,
        )
        in_order

-- the written file passes the reader's conditions
pub file_fits : (pool : List ℕ) (a : Tree) → present a ≡ true → Writable pool a → tree_fits (tree_file pool a) ≡ true
unfolding path_table
file_fits pool a r w = filed_fits (tree_file pool a) pool (path_table a) a (tree_filed pool a) (table_covers (paths_used a)) r w
