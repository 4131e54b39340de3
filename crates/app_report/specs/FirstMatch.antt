-- What the walker says of a sheet that builds and a panel that fits it: the first clause whose pattern matches, with a line for each of its names; or
-- that none matches. Rests on what the walk of the sheet's tree file is.
use Rattle.std.specs.Prelude.{◌≡◌, List, ◌++◌, ℕ}
use Rattle.std.proofs.Common.{arith}
use Rattle.spec_rules.specs.Limits.{tree_room, work_room}
use Rattle.spec_rules.specs.TreeReader.{tree_of}
use Rattle.spec_rules.specs.Walking.{walk}
use Rattle.spec_rules.specs.Calls.{sheet_tree_file}
use Rattle.spec_theorems.specs.Said.{Builds, Fits, FirstMatch, NoMatch}
use Rattle.spec_theorems.specs.CallsLaws.{build_answers, fit_accepts}
use Rattle.spec_theorems.proofs.Theorems.{the_walk_ends_at_the_first_match, the_walk_ends_without_leaf}
use Rattle.app_report.specs.Telling.{no_leaf_line, leaf_line, binding_lines, walked_text, built_text, telling}

module _ (s v : List ℕ) (b : Builds s) (f : Fits s v) where
  says_the_walk : telling s v ≡ walked_text (sheet_tree_file s) v (walk (tree_of (sheet_tree_file s)) v)
  unfolding telling built_text
  says_the_walk = rw (fit_accepts s v b.sheet f, build_answers s tree_room work_room (omega arith) (omega arith) b)

  pub the_walker_says_the_first_match : (c : ℕ) (l : FirstMatch s v c)
      → telling s v ≡ leaf_line c ++ binding_lines v (the_walk_ends_at_the_first_match s v b f c l).bounds
  unfolding walked_text
  the_walker_says_the_first_match c l = rw (says_the_walk, (the_walk_ends_at_the_first_match s v b f c l).at_leaf)

  pub the_walker_says_no_leaf : NoMatch s v → telling s v ≡ no_leaf_line
  unfolding walked_text
  the_walker_says_no_leaf none = rw (says_the_walk, the_walk_ends_without_leaf s v b f none)
