-- DEMAND 2. For every accepted sheet the tree is the one that document 01's rules give: node for node, case order, bindings, hoists.
--
-- An answer that fits the build's contract and is no refusal says: the sheet builds (none of 2 to 14), the buffer begins with the file of
-- its tree `sheet_tree s`, with zeros after it, the work buffer is zero, and the three numbers are the file's own. The file says the whole tree: a reader accepts it and reads
-- that tree back. `sheet_tree` is rules 1 to 7 of 01 (crate spec_rules: Rows, Columns, Splitting, Building, Hoisting), and nothing else.
use Rattle.std.proofs.Math.Path.{◌≡◌, ap}
use Rattle.std.specs.Prelude.{refl, Result, Ok, Err, true, List, ◌++◌, ℕ, ◌-◌, ◌<◌, ◌≤◌, length}
use Rattle.std.proofs.Common.{sym, ◌∙◌, arith}
use Rattle.base_words.specs.Words.{zeros}
use Rattle.spec_rules.specs.Limits.{tree_room, work_room}
use Rattle.spec_rules.specs.TreeReader.{tree_fits, tree_of, nodes, bindings}
use Rattle.spec_rules.specs.Calls.{answers, Built, BuildCall, built_of, build_answer, build_call, sheet_tree, sheet_tree_file}
use Rattle.spec_theorems.specs.Said.{Builds}
use Rattle.spec_theorems.specs.CallsLaws.{build_answers, build_answers_only, build_writes}
use Rattle.spec_theorems.proofs.Theorems.{the_file_fits, the_file_says_the_tree, the_answer_tells_the_file}
use Rattle.format_parts.specs.declared.refusals.Refusal.{Refusal}
use Rattle.build_call.specs.declared.BuiltTree.{BuiltTree}
use Rattle.build_call.specs.Answers.{answer_of}
use Rattle.dewmycel.specs.Promises.{BuildFits}

-- what holds of the answer of so many bytes, nodes and bindings, with these buffers
pub record IsTheTree (s : List ℕ) (n m : ℕ) (bytes node_count binding_count : ℕ) (tree work : List ℕ) : Type 0 where
  pub builds : Builds s
  pub tree_buffer : tree ≡ sheet_tree_file s ++ zeros (n - bytes)
  pub work_buffer : work ≡ zeros m
  pub length_told : bytes ≡ length (sheet_tree_file s)
  pub length_small : bytes < tree_room
  pub nodes_told : node_count ≡ nodes (sheet_tree_file s)
  pub bindings_told : binding_count ≡ bindings (sheet_tree_file s)
  pub file_read : tree_fits (sheet_tree_file s) ≡ true
  pub file_says : tree_of (sheet_tree_file s) ≡ sheet_tree s

module _ (s : List ℕ) (n m : ℕ) (r : Result BuiltTree Refusal) (tree work : List ℕ) (fits : BuildFits s n m r tree work) where
  the_answer : answer_of r ≡ build_answer s n m
  unfolding build_call
  the_answer = ap (λ (x : BuildCall). x.answer) fits

  pub the_tree_is_the_rules : (a : BuiltTree) → r ≡ Ok a → IsTheTree s n m a.length a.nodes a.bindings tree work
  the_tree_is_the_rules a e =
      let x : Built = record { bytes = a.length; nodes = a.nodes; bindings = a.bindings } in
      let is : build_answer s n m ≡ answers x = sym the_answer ∙ ap answer_of e in
      let o = build_answers_only s n m x is in
      let told = the_answer_tells_the_file s n m x is in
      let w = build_writes s n m o.tree_room_holds o.work_room_holds o.builds in
      record {
        builds = o.builds;
        tree_buffer = ap (λ (y : BuildCall). y.tree) fits ∙ w.0 ∙ ap (λ k. sheet_tree_file s ++ zeros (n - k)) (sym told.bytes_told);
        work_buffer = ap (λ (y : BuildCall). y.work) fits ∙ w.1;
        length_told = told.bytes_told;
        length_small = told.bytes_few;
        nodes_told = told.nodes_told;
        bindings_told = told.bindings_told;
        file_read = the_file_fits s o.builds.sheet;
        file_says = the_file_says_the_tree s o.builds.sheet;
      }

  -- and a sheet that builds, in buffers of 65,536 bytes, is answered with its tree
  pub a_sheet_that_builds_is_answered : Builds s → tree_room ≤ n → work_room ≤ m → (a : BuiltTree) × (r ≡ Ok a)
  unfolding built_of
  a_sheet_that_builds_is_answered b room work_room_holds = go r (the_answer ∙ build_answers s n m room work_room_holds b)
    where
      go : (q : Result BuiltTree Refusal) → answer_of q ≡ answers (built_of (sheet_tree_file s) (sheet_tree s)) → (a : BuiltTree) × (q ≡ Ok a)
      go (Ok a) e = (a, refl)
      go (Err why) e = let z : ◌≡◌ {A = ℕ} 0 1 = cc in absurd (omega arith)
