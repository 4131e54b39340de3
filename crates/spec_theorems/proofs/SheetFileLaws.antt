-- The tree file of an accepted sheet: it passes its reader, says the tree, is small where the sheet builds, and is bytes if the sheet is.
-- The laws of spec_file at the tree that the sheet has.
use Rattle.std.specs.Prelude.{ℕ, ◌<◌, ◌≡◌, true, List, length}
use Rattle.base_words.specs.Words.{Bytes}
use Rattle.spec_rules.specs.Limits.{tree_room}
use Rattle.spec_rules.specs.SheetFile.{clauses, pool}
use Rattle.spec_rules.specs.SheetRefusals.{verdict, accepted}
use Rattle.spec_rules.specs.Hoisting.{nodes_in, bindings_in}
use Rattle.spec_rules.specs.TreeReader.{nodes, bindings, tree_fits, tree_of}
use Rattle.spec_rules.specs.Calls.{sheet_tree, sheet_tree_file}
use Rattle.spec_accepted.specs.SheetFacts.{accepted_sheet}
use Rattle.spec_file.specs.FileLaws.{file_nodes, file_bindings}
use Rattle.spec_file.proofs.ReadLaws.{file_read}
use Rattle.spec_file.proofs.FitsLaws.{file_fits}
use Rattle.spec_file.proofs.BoundLaws.{file_small}
use Rattle.spec_file.proofs.BytesLaws.{file_bytes}
use Rattle.spec_theorems.specs.Said.{Builds}
use Rattle.spec_theorems.specs.Refusals.{tree_accepted}
use Rattle.spec_theorems.proofs.BuiltTree.{sheet_present, sheet_writable, sheet_in_words, sheet_bounded, pool_bytes}

module _ (s : List ℕ) (h : verdict s ≡ accepted) where
  pub sheet_file_fits : tree_fits (sheet_tree_file s) ≡ true
  unfolding sheet_tree_file
  sheet_file_fits = file_fits (pool s) (sheet_tree s) (sheet_present s (accepted_sheet s h)) (sheet_writable s (accepted_sheet s h))

  pub sheet_file_read : tree_of (sheet_tree_file s) ≡ sheet_tree s
  unfolding sheet_tree_file
  sheet_file_read = file_read (pool s) (sheet_tree s) (sheet_present s (accepted_sheet s h)) (sheet_writable s (accepted_sheet s h))

pub sheet_file_nodes : (s : List ℕ) → nodes (sheet_tree_file s) ≡ nodes_in (sheet_tree s)
unfolding sheet_tree_file
sheet_file_nodes s = file_nodes (pool s) (sheet_tree s)

pub sheet_file_bindings : (s : List ℕ) → bindings (sheet_tree_file s) ≡ length (bindings_in (sheet_tree s))
unfolding sheet_tree_file
sheet_file_bindings s = file_bindings (pool s) (sheet_tree s)

module _ (s : List ℕ) (b : Builds s) where
  pub sheet_file_small : length (sheet_tree_file s) < tree_room
  unfolding sheet_tree_file
  sheet_file_small =
      let a = accepted_sheet s b.sheet in
      let ((few_nodes, few_bindings), leaves) = (tree_accepted (clauses s) (sheet_tree s)).0 b.tree in
      file_small (pool s) (sheet_tree s) (sheet_present s a) (sheet_writable s a) (sheet_bounded s a few_nodes few_bindings)

  pub sheet_file_bytes : Bytes s → Bytes (sheet_tree_file s)
  unfolding sheet_tree_file
  sheet_file_bytes bytes =
      let a = accepted_sheet s b.sheet in
      file_bytes (pool s) (sheet_tree s) (sheet_writable s a) (sheet_in_words s a bytes) (pool_bytes s bytes) sheet_file_small
