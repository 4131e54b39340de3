-- The file as one: its first three sections stored from 0 on, and the tail behind them, are the tree file stored from 0 on.
-- Rests on the definition of the file and the laws of its lengths and of stores; who writes a whole tree file cites these alone.
use Rattle.std.specs.Prelude.{◌≡◌, ℕ, ◌+◌, ◌*◌, ◌≤◌, ◌<◌}
use Rattle.std.proofs.Math.Path.{refl, sym, ap}
use Rattle.std.proofs.Common.{◌∙◌}
use mathlib.Core.List.{List, [], ◌∷◌, ◌++◌, append_assoc, append-nil}
use native.Mathlib.Omega.{arith}
use Rattle.std.proofs.Math.ListN.{length, length-append}
use Rattle.base_words.specs.Stored.{stored}
use Rattle.base_words.specs.StoredLaws.{stored_append}
use Rattle.spec_rules.specs.Limits.{node_size, case_size, binding_size, path_size, step_size, tree_trailer, tree_room}
use Rattle.spec_rules.specs.Sections.{back_to_back, starts_from, words_of, trailer_of, file_with, file_of}
use Rattle.spec_rules.specs.SheetFile.{patterns, pool}
use Rattle.spec_rules.specs.Rows.{Path}
use Rattle.spec_rules.specs.Building.{Tree}
use Rattle.spec_rules.specs.Hoisting.{nodes_in, bindings_in}
use Rattle.spec_rules.specs.TreeFile.{cases_in, nodes_from, cases_from, bindings_bytes, paths_bytes, steps_bytes, path_table, tree_sections, tree_file}
use Rattle.spec_file.specs.Writable.{steps_in}
use Rattle.spec_file.specs.LengthLaws.{length_nodes_from, length_cases_from, length_bindings_bytes, length_paths_bytes, length_steps_bytes}
use Rattle.format_sheet.specs.declared.SheetMap.{SheetMap}
use Rattle.format_sheet.specs.Check.{SheetAccepts}
use Rattle.build_table.specs.Tabled.{Tabled}
use Rattle.build_file_tail.specs.Tail.{Puts, Used, used_paths, trailer_bytes, front_bytes, tail_bytes, TailReady}

-- ---- how long the tail is
pub length_trailer : (cases bindings paths steps pool end : ℕ) → length (trailer_bytes cases bindings paths steps pool end) ≡ tree_trailer
unfolding trailer_bytes
length_trailer cases bindings paths steps pool end = refl

pub length_tail : (pool : List ℕ) (table : List Path) (cases bindings at : ℕ)
    → length (tail_bytes pool table cases bindings at) ≡ path_size * length table + step_size * steps_in table + length pool + tree_trailer
unfolding tail_bytes
length_tail pool table cases bindings at =
    simp (length-append, length_trailer, length_paths_bytes, length_steps_bytes) (omega arith)

-- ---- the trailer, by where the sections start
module _ (ns cs bs ps ss pool : List ℕ) where
  trailer_is : (x y z u v end : ℕ) → x ≡ length ns → y ≡ x + length cs → z ≡ y + length bs → u ≡ z + length ps → v ≡ u + length ss → end ≡ v + length pool
      → words_of (trailer_of [] (ns ∷ cs ∷ bs ∷ ps ∷ ss ∷ pool ∷ [])) ≡ trailer_bytes x y z u v end
  unfolding trailer_of starts_from back_to_back trailer_bytes
  trailer_is x y z u v end a b c d e f =
      let whole : length (ns ++ (cs ++ (bs ++ (ps ++ (ss ++ (pool ++ [])))))) ≡ end = simp length-append (omega arith) in
      let at_cases : 0 + length ns ≡ x = omega arith in
      let at_bindings : 0 + length ns + length cs ≡ y = omega arith in
      let at_paths : 0 + length ns + length cs + length bs ≡ z = omega arith in
      let at_steps : 0 + length ns + length cs + length bs + length ps ≡ u = omega arith in
      let at_pool : 0 + length ns + length cs + length bs + length ps + length ss ≡ v = omega arith in
      ap words_of (λ i. 0 ∷ at_cases i ∷ at_bindings i ∷ at_paths i ∷ at_steps i ∷ at_pool i ∷ (whole i + tree_trailer) ∷ [])

  file_parts : (trailer : List ℕ)
      → (ns ++ (cs ++ (bs ++ (ps ++ (ss ++ (pool ++ [])))))) ++ trailer ≡ (ns ++ (cs ++ bs)) ++ (ps ++ (ss ++ (pool ++ trailer)))
  file_parts trailer = simp (append_assoc, append-nil)

-- ---- the file of tree a, whose sections behind the nodes start at these places
module _ (pool : List ℕ) (a : Tree) (table : List Path) (is_table : table ≡ path_table a) (cases bindings paths : ℕ) (cases_start : cases ≡ node_size * nodes_in a)
    (bindings_start : bindings ≡ cases + case_size * cases_in a) (paths_start : paths ≡ bindings + binding_size * length (bindings_in a)) where
  pub front_length : length (front_bytes table a) ≡ paths
  unfolding front_bytes
  front_length =
      omega (
        arith,
        length-append (nodes_from table 0 0 0 a) (cases_from 0 a ++ bindings_bytes table (bindings_in a)),
        length-append (cases_from 0 a) (bindings_bytes table (bindings_in a)),
        length_nodes_from table 0 0 0 a,
        length_cases_from 0 a,
        length_bindings_bytes table (bindings_in a),
      )

  pub file_is : front_bytes table a ++ tail_bytes pool table cases bindings paths ≡ tree_file pool a
  unfolding tree_file tree_sections file_of file_with back_to_back front_bytes tail_bytes
  file_is =
      let ns = nodes_from table 0 0 0 a in
      let cs = cases_from 0 a in
      let bs = bindings_bytes table (bindings_in a) in
      let ps = paths_bytes 0 table in
      let ss = steps_bytes table in
      let to_steps = paths + length ps in
      let to_pool = to_steps + length ss in
      let end = to_pool + length pool in
      let n = length_nodes_from table 0 0 0 a in
      let c = length_cases_from 0 a in
      let b = length_bindings_bytes table (bindings_in a) in
      sym (file_parts ns cs bs ps ss pool (trailer_bytes cases bindings paths to_steps to_pool end))
      ∙ ap (λ (xs : List ℕ). (ns ++ (cs ++ (bs ++ (ps ++ (ss ++ (pool ++ [])))))) ++ xs)
      (sym (trailer_is ns cs bs ps ss pool cases bindings paths to_steps to_pool end (omega arith) (omega arith) (omega arith) refl refl refl))
      ∙ ap (λ (z : List Path). file_of (tree_sections pool z a)) is_table

  -- where the tail ends, the file does
  pub tail_ends : paths + length (tail_bytes pool table cases bindings paths) ≡ length (tree_file pool a)
  tail_ends =
      omega (arith, front_length, ap length file_is, length-append (front_bytes table a) (tail_bytes pool table cases bindings paths))

  pub file_stored : (l : List ℕ) → stored (stored l 0 (front_bytes table a)) paths (tail_bytes pool table cases bindings paths) ≡ stored l 0 (tree_file pool a)
  file_stored l =
      stored_append l 0 paths (front_bytes table a) (tail_bytes pool table cases bindings paths) (omega (arith, front_length)) ∙ ap (stored l 0) file_is

  -- the same of what two writers leave, with where the file ends
  pub file_put : {l middle after : List ℕ} {end : ℕ} → middle ≡ stored l 0 (front_bytes table a)
      → Puts middle after paths end (tail_bytes pool table cases bindings paths) → Puts l after 0 end (tree_file pool a)
  file_put {l} e w = record {
    is_stored = w.is_stored ∙ ap (λ (x : List ℕ). stored x paths (tail_bytes pool table cases bindings paths)) e ∙ file_stored l;
    is_end = omega (arith, w.is_end, tail_ends);
  }

-- a tree whose file has room: the tail can be written, once the table is that of the classes' paths
pub tail_ready : {s : List ℕ} {m : SheetMap} {t classes tree : List ℕ} {n : ℕ} (a : Tree) → SheetAccepts s m → Tabled s t → Used (patterns s) classes n
    → used_paths s classes 0 n ≡ path_table a → (cases bindings paths : ℕ) → cases ≡ node_size * nodes_in a → bindings ≡ cases + case_size * cases_in a
    → paths ≡ bindings + binding_size * length (bindings_in a) → length (tree_file (pool s) a) < tree_room → tree_room ≤ length tree
    → TailReady s m t classes n tree cases bindings paths
tail_ready {s} {m} {t} {classes} {tree} {n} a ch tabled used is_table cases bindings paths cs bs ps small room =
    let ends = tail_ends (pool s) a (used_paths s classes 0 n) is_table cases bindings paths cs bs ps in
    record {
      checked = ch;
      tabled = tabled;
      used = used;
      cases_first = omega arith;
      bindings_first = omega arith;
      inside = omega (arith, ends);
      small = omega (arith, ends);
    }
