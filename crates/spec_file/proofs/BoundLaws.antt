-- A tree file is under 65,536 bytes long: the counts of refusals 12 and 13 with the sheet's limits, each case with a node of its own, the
-- table with each path once (specs/BoundLaws.antt).
use Rattle.std.specs.Prelude.{◌≡◌, true, List, [], ◌∷◌, ℕ, ◌-◌, ◌*◌, ◌≤◌, ◌<◌, length}
use Rattle.std.proofs.Common.{arith}
use Rattle.spec_rules.specs.Limits.{depth_most, tree_room}
use Rattle.spec_rules.specs.Rows.{Path}
use Rattle.spec_rules.specs.Building.{Tree}
use Rattle.spec_rules.specs.TreeFile.{path_table, tree_file}
use Rattle.spec_file.specs.PathsLaws.{is_among_first, is_among_rest}
use Rattle.spec_file.specs.FileLaws.{file_length}
use Rattle.spec_file.specs.Writable.{present, Writable, steps_in, Short, Bounded}
use Rattle.spec_file.specs.BoundLaws.{cases_under_nodes, table_short, file_most}

-- ---- the steps of short paths
steps_most : (ps : List Path) → Short ps → steps_in ps ≤ (depth_most - 1) * length ps
unfolding steps_in
steps_most [] s = omega arith
steps_most (p ∷ ps) s =
    let rest : Short ps = record { short = λ q h. s.short q (is_among_rest q p ps h) } in
    omega (arith, s.short p (is_among_first p ps), steps_most ps rest)

-- ---- the bound: 1,024 nodes, 1,023 cases, 4,096 bindings, 192 paths of at most 11 steps, a pool of at most 8,192 bytes; 58,502 in all
pub file_most_lem : (pool : List ℕ) (a : Tree) → present a ≡ true → Writable pool a → Bounded pool a → length (tree_file pool a) ≤ file_most
file_most_lem pool a r w m =
    let n = m.nodes_most_holds in
    let b = m.bindings_most_holds in
    let p = m.paths_most in
    let s = steps_most (path_table a) (table_short a m.paths_short) in
    let l = m.pool_most in
    let c = cases_under_nodes pool a r w in
    omega (arith, file_length pool a)

pub file_small : (pool : List ℕ) (a : Tree) → present a ≡ true → Writable pool a → Bounded pool a → length (tree_file pool a) < tree_room
file_small pool a r w m = omega (arith, file_most_lem pool a r w m)
