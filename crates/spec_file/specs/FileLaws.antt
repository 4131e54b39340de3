-- The tree file counted: how long it is, where its sections start, and how many records each has, all by the tree's own counts.
-- Rests on the laws of sections and of their lengths; nothing is asked of the tree.
use Rattle.std.specs.Prelude.{◌≡◌, List, [], ℕ, ◌+◌, ◌-◌, ◌*◌, ◌<◌, length, get_or}
use Rattle.std.proofs.Common.{◌∙◌, arith, length-append}
use Rattle.base_words.specs.Words.{word_at}
use Rattle.spec_rules.specs.Limits.{word_size, node_size, case_size, binding_size, path_size, step_size, tree_trailer}
use Rattle.spec_rules.specs.Sections.{back_to_back, starts_from, file_of}
use Rattle.spec_rules.specs.Rows.{Path}
use Rattle.spec_rules.specs.Building.{Tree}
use Rattle.spec_rules.specs.Hoisting.{nodes_in, bindings_in}
use Rattle.spec_rules.specs.TreeFile.{cases_in, nodes_from, cases_from, bindings_bytes, paths_bytes, steps_bytes, path_table, tree_sections, tree_file}
use Rattle.spec_rules.specs.TreeReader.{tree_start, tree_length, tree_nodes_at, tree_cases_at, tree_bindings_at, tree_paths_at, tree_steps_at, tree_pool_at, tree_pool_end, nodes, cases, bindings, paths, steps, tree_pool_size}
use Rattle.spec_file.specs.StandingLaws.{Stands}
use Rattle.spec_file.specs.Writable.{steps_in}
use Rattle.spec_file.specs.LengthLaws.{length_nodes_from, length_cases_from, length_bindings_bytes, length_paths_bytes, length_steps_bytes}
use Rattle.spec_file.specs.SectionsLaws.{trailer_size, Sectioned, file_sections}

-- t has the sections of the tree a, whose paths are numbered by the table
pub record Filed (t pool : List ℕ) (table : List Path) (a : Tree) : Type 0 where
  pub length_is :
      length t ≡ node_size * nodes_in a + case_size * cases_in a + binding_size * length (bindings_in a) + path_size * length table + step_size * steps_in table
      + length pool
      + tree_trailer
  pub tree_length_is : tree_length t ≡ length t
  pub nodes_at_is : tree_nodes_at t ≡ 0
  pub cases_at_is : tree_cases_at t ≡ node_size * nodes_in a
  pub bindings_at_is : tree_bindings_at t ≡ node_size * nodes_in a + case_size * cases_in a
  pub paths_at_is : tree_paths_at t ≡ node_size * nodes_in a + case_size * cases_in a + binding_size * length (bindings_in a)
  pub steps_at_is : tree_steps_at t ≡ node_size * nodes_in a + case_size * cases_in a + binding_size * length (bindings_in a) + path_size * length table
  pub tree_pool_at_is :
      tree_pool_at t ≡ node_size * nodes_in a + case_size * cases_in a + binding_size * length (bindings_in a) + path_size * length table + step_size * steps_in table
  pub nodes_are : nodes t ≡ nodes_in a
  pub cases_are : cases t ≡ cases_in a
  pub bindings_are : bindings t ≡ length (bindings_in a)
  pub paths_are : paths t ≡ length table
  pub steps_are : steps t ≡ steps_in table
  pub tree_pool_size_is : tree_pool_size t ≡ length pool
  pub nodes_stand : Stands t (tree_nodes_at t) (nodes_from table 0 0 0 a)
  pub cases_stand : Stands t (tree_cases_at t) (cases_from 0 a)
  pub bindings_stand : Stands t (tree_bindings_at t) (bindings_bytes table (bindings_in a))
  pub paths_stand : Stands t (tree_paths_at t) (paths_bytes 0 table)
  pub steps_stand : Stands t (tree_steps_at t) (steps_bytes table)
  pub pool_stands : Stands t (tree_pool_at t) pool

length_sections : (pool : List ℕ) (table : List Path) (a : Tree)
    → length (back_to_back (tree_sections pool table a)) + tree_trailer
    ≡ node_size * nodes_in a + case_size * cases_in a + binding_size * length (bindings_in a) + path_size * length table + step_size * steps_in table
    + length pool
    + tree_trailer
unfolding back_to_back tree_sections
length_sections pool table a =
    simp (length-append, length_nodes_from, length_cases_from, length_bindings_bytes, length_paths_bytes, length_steps_bytes) (omega arith)

-- a section stands where the trailer says
section_at : {t more : List ℕ} {xs : List (List ℕ)} → Sectioned t more xs → (k : ℕ) → k < length xs
    → Stands t (word_at t (length t - trailer_size more xs + word_size * k)) (get_or xs k [])
section_at s k l = rw (s.start_told k l) (s.stands k l)

pub filed : (t pool : List ℕ) (table : List Path) (a : Tree) → Sectioned t [] (tree_sections pool table a) → Filed t pool table a
unfolding tree_sections starts_from tree_start tree_length tree_nodes_at tree_cases_at tree_bindings_at tree_paths_at tree_steps_at tree_pool_at tree_pool_end nodes cases bindings paths steps tree_pool_size
filed t pool table a s =
    let n = length_nodes_from table 0 0 0 a in
    let c = length_cases_from 0 a in
    let b = length_bindings_bytes table (bindings_in a) in
    let p = length_paths_bytes 0 table in
    let e = length_steps_bytes table in
    let at_nodes : tree_nodes_at t ≡ 0 = s.start_told 0 (omega arith) in
    let at_cases : tree_cases_at t ≡ node_size * nodes_in a = omega (arith, s.start_told 1 (omega arith)) in
    let at_bindings : tree_bindings_at t ≡ node_size * nodes_in a + case_size * cases_in a = omega (arith, s.start_told 2 (omega arith)) in
    let at_paths : tree_paths_at t ≡ node_size * nodes_in a + case_size * cases_in a + binding_size * length (bindings_in a) =
    omega (arith, s.start_told 3 (omega arith)) in
    let at_steps : tree_steps_at t ≡ node_size * nodes_in a + case_size * cases_in a + binding_size * length (bindings_in a) + path_size * length table =
    omega (arith, s.start_told 4 (omega arith)) in
    let at_pool :
    tree_pool_at t ≡ node_size * nodes_in a + case_size * cases_in a + binding_size * length (bindings_in a) + path_size * length table + step_size * steps_in table =
    omega (arith, s.start_told 5 (omega arith)) in
    let long :
    length t ≡ node_size * nodes_in a + case_size * cases_in a + binding_size * length (bindings_in a) + path_size * length table + step_size * steps_in table
    + length pool
    + tree_trailer =
    s.length_is ∙ length_sections pool table a in
    record {
      length_is = long;
      tree_length_is = s.length_told;
      nodes_at_is = at_nodes;
      cases_at_is = at_cases;
      bindings_at_is = at_bindings;
      paths_at_is = at_paths;
      steps_at_is = at_steps;
      tree_pool_at_is = at_pool;
      nodes_are = rw (at_cases, at_nodes) (omega arith);
      cases_are = rw (at_bindings, at_cases) (omega arith);
      bindings_are = rw (at_paths, at_bindings) (omega arith);
      paths_are = rw (at_steps, at_paths) (omega arith);
      steps_are = rw (at_pool, at_steps) (omega arith);
      tree_pool_size_is = omega (arith, long);
      nodes_stand = section_at s 0 (omega arith);
      cases_stand = section_at s 1 (omega arith);
      bindings_stand = section_at s 2 (omega arith);
      paths_stand = section_at s 3 (omega arith);
      steps_stand = section_at s 4 (omega arith);
      pool_stands = section_at s 5 (omega arith);
    }

pub tree_filed : (pool : List ℕ) (a : Tree) → Filed (tree_file pool a) pool (path_table a) a
unfolding tree_file file_of
tree_filed pool a = filed (tree_file pool a) pool (path_table a) a (file_sections [] (tree_sections pool (path_table a) a))

-- ---- the counts of the answer are those of the records written
pub file_length : (pool : List ℕ) (a : Tree)
    → length (tree_file pool a)
    ≡ node_size * nodes_in a + case_size * cases_in a + binding_size * length (bindings_in a) + path_size * length (path_table a) + step_size * steps_in (path_table a)
    + length pool
    + tree_trailer
file_length pool a = (tree_filed pool a).length_is

pub file_nodes : (pool : List ℕ) (a : Tree) → nodes (tree_file pool a) ≡ nodes_in a
file_nodes pool a = (tree_filed pool a).nodes_are

pub file_bindings : (pool : List ℕ) (a : Tree) → bindings (tree_file pool a) ≡ length (bindings_in a)
file_bindings pool a = (tree_filed pool a).bindings_are
