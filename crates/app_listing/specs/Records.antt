-- The text of one record as the code writes it: a case, a binding, a node's line; and of a test and a node as the reader gives them, with
-- what is asked of them so that their parts lie in the file. Each is a piece of the rules' definition of a listing.
use Rattle.std.specs.Prelude.{Bool, true, false, List, [], ◌∷◌, ◌++◌, ℕ, ◌+◌, ◌<◌, ◌≤◌, eqb}
use Rattle.base_words.specs.Words.{text_at}
use Rattle.spec_rules.specs.Kinds.{int_case}
use Rattle.spec_rules.specs.TreeReader.{tree_pool_at, node_kind, node_kind_of, case_test, case_child, binding_name, binding_path, path_at}
use Rattle.spec_rules.specs.Listing.{switch_word, listswitch_word, leaf_word, hoist_word, then_word, ConstrTest, IntTest, BytesTest, ListTest, ListWithTailTest, decimal, hex, path_text, test_text, cases_text, bindings_text, default_text, node_text}
use Rattle.format_tree.specs.declared.layout.TreeMap.{TreeMap}
use Rattle.format_records.specs.declared.reading.Test.{Test}
use Rattle.format_tree.specs.declared.reading.Node.{Node}

-- ` TEST:CHILD`
unfoldable pub case_line : List ℕ → ℕ → List ℕ
case_line t i = 32 ∷ (test_text (case_test t i) ++ (58 ∷ decimal (case_child t i)))

-- ` nNAME=PATH`
unfoldable pub binding_line : List ℕ → ℕ → List ℕ
binding_line t b = 32 ∷ 110 ∷ (decimal (binding_name t b) ++ (61 ∷ path_text (path_at t (binding_path t b))))

-- a node's number, its text, and the end of the line
unfoldable pub node_line : List ℕ → ℕ → List ℕ
node_line t k = decimal k ++ (32 ∷ (node_text t k (node_kind_of (node_kind t k)) ++ 10 ∷ []))

-- ---- a test that was read
abbrev pub text_test : Bool → List ℕ → List ℕ
text_test true w = IntTest ++ (w ++ 41 ∷ [])
text_test false w = BytesTest ++ (hex w ++ 41 ∷ [])

abbrev pub test_read : List ℕ → Test → List ℕ
test_read t (Test.Constr a) = ConstrTest ++ (decimal a ++ 41 ∷ [])
test_read t (Test.Text kind start count) = text_test (eqb kind int_case) (text_at t (tree_pool_at t + start) count)
test_read t (Test.List n) = ListTest ++ (decimal n ++ 41 ∷ [])
test_read t (Test.Tailed n) = ListWithTailTest ++ (decimal n ++ 41 ∷ [])

-- its text lies in the pool
abbrev pub TestInside : TreeMap → Test → Type 0
TestInside m (Test.Constr a) = Unit {0}
TestInside m (Test.Text kind start count) = start + count ≤ m.pool.count
TestInside m (Test.List n) = Unit {0}
TestInside m (Test.Tailed n) = Unit {0}

-- ---- a node that was read
-- what stands behind `switch` or `listswitch`
abbrev pub switch_read : List ℕ → ℕ → ℕ → ℕ → ℕ → List ℕ
switch_read t path first cases default = 32 ∷ (path_text (path_at t path) ++ (cases_text t first cases ++ default_text default))

abbrev pub node_read : List ℕ → Node → List ℕ
node_read t (Node.Switch path first cases default test) = switch_word ++ switch_read t path first cases default
node_read t (Node.ListSwitch path first cases tails default) = listswitch_word ++ switch_read t path first (cases + tails) default
node_read t (Node.Leaf clause first count) = leaf_word ++ (32 ∷ (decimal clause ++ bindings_text t first count))
node_read t (Node.Hoist clause first count child) =
    hoist_word ++ (32 ∷ (decimal clause ++ (32 ∷ (then_word ++ (32 ∷ (decimal child ++ bindings_text t first count))))))

-- its path, its cases and its bindings are records of the file
abbrev pub NodeInside : TreeMap → Node → Type 0
NodeInside m (Node.Switch path first cases default test) = (path < m.paths.count) × (first + cases ≤ m.cases.count)
NodeInside m (Node.ListSwitch path first cases tails default) = (path < m.paths.count) × (first + (cases + tails) ≤ m.cases.count)
NodeInside m (Node.Leaf clause first count) = first + count ≤ m.bindings.count
NodeInside m (Node.Hoist clause first count child) = first + count ≤ m.bindings.count
