-- The tree of 01's listing: the pieces of its thirteen nodes before hoisting, one after another, are the file's sections after it.
-- Node 7, a leaf under one hoist, gives a hoist and a leaf; what stood at 7 before stands at 9 after, behind two hoists.
use Rattle.std.specs.Prelude.{ℕ, ◌≡◌, refl, List}
use Rattle.spec_rules.specs.Rows.{Path, Binding}
use Rattle.spec_rules.specs.Building.{Tree, plain_tree}
use Rattle.spec_rules.specs.Hoisting.{first_bindings}
use Rattle.spec_rules.specs.TreeFile.{path_table}
use Rattle.spec_rules.specs.Calls.{sheet_patterns, sheet_tree}
use Rattle.spec_rules.specs.Samples.{sheet1}
use Rattle.build_arena.specs.Numbered.{subtrees, subtree_at}
use Rattle.build_scopes.specs.Numbers.{scope_node}
use Rattle.build_scopes.specs.WriterLaws.{stands_at}
use Rattle.build_file_nodes.specs.Pieces.{tree_piece, node_piece, over_piece}

abbrev listing : Tree
listing = plain_tree (sheet_patterns sheet1)

abbrev table : List Path
table = path_table (sheet_tree sheet1)

abbrev node : ℕ → ℕ
node c = scope_node c listing

abbrev bound : ℕ → List Binding
bound c = first_bindings c listing

listing_pieces : over_piece table node 3 bound 0 0 0 (subtrees listing) ≡ tree_piece table 0 0 0 (sheet_tree sheet1)
unfolding plain_tree sheet_patterns sheet_tree scope_node first_bindings subtrees path_table over_piece tree_piece
listing_pieces = refl

listing_hoist : (stands_at node 3 7 ≡ 9) × ((node_piece table node 3 bound 7 6 3 (subtree_at listing 7)).nodes ≡ 2)
unfolding plain_tree sheet_patterns sheet_tree scope_node first_bindings subtree_at path_table stands_at node_piece
listing_hoist = (refl, refl)
