-- What the functions of records use: a switch's run of cases.
-- Rests on Reading and the rules' definitions.
use Rattle.std.specs.Prelude.{◌≡◌, true, List, ltb, leb}
use Prim.Native.Nat.{ℕ, ◌+◌, ◌≤◌}
use native.Mathlib.Omega.{arith}
use Rattle.base_words.specs.Words.{both}
use Rattle.base_words.specs.WordsLaws.{both_true}
use Rattle.spec_rules.specs.Kinds.{first_case_word, cases_word, tail_cases_word}
use Rattle.spec_rules.specs.SheetFile.{run_in}
use Rattle.spec_rules.specs.TreeReader.{nodes, cases, paths, node_word, node_path, node_first_case, node_cases, node_tail_cases, node_default, switch_parts}
use Rattle.spec_accepted.specs.RunsLaws.{run_in_lem}
use Rattle.format_tree.specs.declared.layout.TreeMap.{TreeMap}
use Rattle.format_tree.specs.Reading.{Mapped}
use Rattle.format_tree.specs.ReadingLaws.{cases_count}

-- the run of cases of a switch whose parts are in their sections, as its words were read
pub switch_run_in : {t : List ℕ} {m : TreeMap} → Mapped t m → (k f n u : ℕ) → switch_parts t k ≡ true → f ≡ node_word t k first_case_word → n ≡ node_word t k cases_word → u ≡ node_word t k tail_cases_word
    → f + (n + u) ≤ m.cases.count
unfolding switch_parts node_first_case node_cases node_tail_cases
switch_run_in {t} w k f n u h ef en eu =
    let p = both_true (ltb (node_path t k) (paths t)) (both (run_in (node_word t k first_case_word) (node_word t k cases_word + node_word t k tail_cases_word) (cases t)) (leb (node_default t k) (nodes t))) h in
    let q = both_true (run_in (node_word t k first_case_word) (node_word t k cases_word + node_word t k tail_cases_word) (cases t)) (leb (node_default t k) (nodes t)) p.1 in
    let r = run_in_lem (node_word t k first_case_word) (node_word t k cases_word + node_word t k tail_cases_word) (cases t) q.0 in
    omega (arith, r.inside, cases_count w)
