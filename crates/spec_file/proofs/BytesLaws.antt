-- The file of a writable tree is bytes, where its numbers are those that two bytes hold and it is under 65,536 bytes long.
-- Rests on the laws of its length; the counts that are written are bounded by the length.
use Rattle.std.specs.Prelude.{◌≡◌, refl, Bool, true, false, ℕ, zero, suc, ◌+◌, ◌/◌, ◌%◌, ◌≤◌, ◌<◌, length, get_or}
use mathlib.Core.List.{List, [], ◌∷◌, ◌++◌}
use Rattle.std.proofs.Common.{arith, length-append}
use Rattle.base_words.specs.Words.{word_bytes, Bytes as AllBytes}
use Rattle.spec_rules.specs.Kinds.{switch_node, list_switch_node, leaf_node, hoist_node, constr_case, int_case, bytes_case, list_case, list_with_tail_case, pair_step, tuple_step, constr_step, list_step, listtail_step}
use Rattle.spec_rules.specs.Sections.{back_to_back, starts_from, words_of, trailer_of, file_with, file_of}
use Rattle.spec_rules.specs.Rows.{Step, pair, tuple, constr, list, listtail, Path, bit, same_path, Binding}
use Rattle.spec_rules.specs.Splitting.{Test, Constr, Int, Bytes, ListOf, ListWithTail}
use Rattle.spec_rules.specs.Building.{Tree, Cases, absent, leaf, hoist, switch, listswitch, cnil, ccons}
use Rattle.spec_rules.specs.Hoisting.{how_many, nodes_in, nodes_in_of, bindings_in, bindings_in_of}
use Rattle.spec_rules.specs.TreeFile.{is_among, path_number, path_table, first_of, node_bytes, cases_in, cases_in_of, default_field, nodes_from, nodes_from_of, case_bytes, own_cases, cases_from, cases_from_of, bindings_bytes, paths_bytes, step_bytes, path_steps, steps_bytes, tree_sections, tree_file}
use Rattle.spec_file.specs.PathsLaws.{is_among_first, is_among_rest, path_number_first, path_number_rest}
use Rattle.spec_file.specs.SectionsLaws.{trailer_size, file_sections}
use Rattle.spec_file.specs.FileLaws.{file_length}
use Rattle.spec_file.specs.Writable.{steps_in, TextStarts, Writable, WritableOf, SmallStep, SmallPath, SmallNames, SmallTest, SmallNumbers, SmallNumbersOf, InWords}
use Rattle.spec_file.proofs.RulesLaws.{default_inside}
use Rattle.spec_file.specs.BoundLaws.{table_used}

-- ---- bytes of parts
bytes_nil : AllBytes []
bytes_nil = record { byte = λ i. omega arith }

bytes_cons : (x : ℕ) (xs : List ℕ) → x < 256 → AllBytes xs → AllBytes (x ∷ xs)
bytes_cons x xs h r = record { byte = each }
  where
    each : (i : ℕ) → get_or (x ∷ xs) i 0 < 256
    each zero = h
    each (suc i) = r.byte i

bytes_append : (xs ys : List ℕ) → AllBytes xs → AllBytes ys → AllBytes (xs ++ ys)
bytes_append [] ys r s = s
bytes_append (x ∷ xs) ys r s = bytes_cons x (xs ++ ys) (r.byte 0) (bytes_append xs ys (record { byte = λ i. r.byte (suc i) }) s)

-- a word before bytes
bytes_word : (v : ℕ) (xs : List ℕ) → v < 65536 → AllBytes xs → AllBytes (word_bytes v ++ xs)
bytes_word v xs h r = bytes_cons (v % 256) (v / 256 ∷ xs) (omega arith) (bytes_cons (v / 256) xs (omega arith) r)

last_word : (v : ℕ) → v < 65536 → AllBytes (word_bytes v)
last_word v h = bytes_word v [] h bytes_nil

first_of_most : (n first : ℕ) → first_of n first ≤ first
unfolding first_of
first_of_most zero first = omega arith
first_of_most (suc n) first = omega arith

path_number_most : (table : List Path) (p : Path) → path_number table p ≤ length table
unfolding path_number
path_number_most [] p = omega arith
path_number_most (q ∷ qs) p = go (same_path p q) refl (path_number_most qs p)
  where
    go : (b : Bool) → same_path p q ≡ b → path_number qs p ≤ length qs → path_number (q ∷ qs) p ≤ suc (length qs)
    go true e h = rw (path_number_first q qs p e) (omega arith)
    go false e h = rw (path_number_rest q qs p e) (omega arith)

-- ---- nodes
node_bytes_lem : (kind a b c d e : ℕ) → kind < 256 → a < 65536 → b < 65536 → c < 65536 → d < 65536 → e < 65536 → AllBytes (node_bytes kind a b c d e)
unfolding node_bytes
node_bytes_lem kind a b c d e k h i j l m =
    bytes_cons kind (0 ∷ (word_bytes a ++ (word_bytes b ++ (word_bytes c ++ (word_bytes d ++ word_bytes e))))) k
    (bytes_cons 0 (word_bytes a ++ (word_bytes b ++ (word_bytes c ++ (word_bytes d ++ word_bytes e)))) (omega arith)
    (bytes_word a (word_bytes b ++ (word_bytes c ++ (word_bytes d ++ word_bytes e))) h
    (bytes_word b (word_bytes c ++ (word_bytes d ++ word_bytes e)) i
    (bytes_word c (word_bytes d ++ word_bytes e) j
    (bytes_word d (word_bytes e) l (last_word e m))))))

module _ (table : List Path) (few : length table < 65536) where
  number_small : (p : Path) → path_number table p < 65536
  number_small p = omega (arith, path_number_most table p)

  mutual
    unfolding nodes_from nodes_in cases_in bindings_in SmallNumbers

    nodes_bytes : (a : Tree) (k c b : ℕ) → SmallNumbers a → k + nodes_in a < 65536 → c + cases_in a < 65536 → b + length (bindings_in a) < 65536
        → AllBytes (nodes_from table k c b a)
    nodes_bytes absent k c b s l m n = bytes_nil
    nodes_bytes (leaf x bs) k c b s l m n =
        node_bytes_lem leaf_node x (first_of (length bs) b) (length bs) 0 0 (omega arith) s (omega (arith, first_of_most (length bs) b)) (omega arith) (omega arith) (omega arith)
    nodes_bytes (hoist x bs a) k c b s l m n =
        let e = length-append bs (bindings_in a) in
        bytes_append (node_bytes hoist_node x (first_of (length bs) b) (length bs) (k + 1) 0) (nodes_from table (k + 1) c (b + length bs) a)
        (node_bytes_lem hoist_node x (first_of (length bs) b) (length bs) (k + 1) 0 (omega arith) s.0 (omega (arith, first_of_most (length bs) b)) (omega arith) (omega arith)
        (omega arith))
        (nodes_bytes a (k + 1) c (b + length bs) s.1 (omega arith) (omega arith) (omega arith))
    nodes_bytes (switch p cs d) k c b s l m n =
        let e = length-append (bindings_in_of cs) (bindings_in d) in
        let c₁ = c + how_many cs in
        let k₂ = k + 1 + nodes_in_of cs in
        let c₂ = c₁ + cases_in_of cs in
        let b₂ = b + length (bindings_in_of cs) in
        bytes_append (node_bytes switch_node (path_number table p) (first_of (how_many cs) c) (how_many cs) 0 (default_field k₂ d))
        (nodes_from_of table (k + 1) c₁ b cs ++ nodes_from table k₂ c₂ b₂ d)
        (node_bytes_lem switch_node (path_number table p) (first_of (how_many cs) c) (how_many cs) 0 (default_field k₂ d) (omega arith) (number_small p)
        (omega (arith, first_of_most (how_many cs) c))
        (omega arith)
        (omega arith)
        (omega (arith, default_inside k₂ d)))
        (bytes_append (nodes_from_of table (k + 1) c₁ b cs) (nodes_from table k₂ c₂ b₂ d)
        (nodes_bytes_of cs (k + 1) c₁ b s.0 (omega arith) (omega arith) (omega arith))
        (nodes_bytes d k₂ c₂ b₂ s.1 (omega arith) (omega arith) (omega arith)))
    nodes_bytes (listswitch p cs ts d) k c b s l m n =
        let e = length-append (bindings_in_of cs) (bindings_in_of ts ++ bindings_in d) in
        let e' = length-append (bindings_in_of ts) (bindings_in d) in
        let c₁ = c + how_many cs + how_many ts in
        let k₂ = k + 1 + nodes_in_of cs in
        let c₂ = c₁ + cases_in_of cs in
        let b₂ = b + length (bindings_in_of cs) in
        let k₃ = k₂ + nodes_in_of ts in
        let c₃ = c₂ + cases_in_of ts in
        let b₃ = b₂ + length (bindings_in_of ts) in
        bytes_append (node_bytes list_switch_node (path_number table p) (first_of (how_many cs + how_many ts) c) (how_many cs) (how_many ts) (default_field k₃ d))
        (nodes_from_of table (k + 1) c₁ b cs ++ (nodes_from_of table k₂ c₂ b₂ ts ++ nodes_from table k₃ c₃ b₃ d))
        (node_bytes_lem list_switch_node (path_number table p) (first_of (how_many cs + how_many ts) c) (how_many cs) (how_many ts) (default_field k₃ d) (omega arith) (number_small p)
        (omega (arith, first_of_most (how_many cs + how_many ts) c))
        (omega arith)
        (omega arith)
        (omega (arith, default_inside k₃ d)))
        (bytes_append (nodes_from_of table (k + 1) c₁ b cs) (nodes_from_of table k₂ c₂ b₂ ts ++ nodes_from table k₃ c₃ b₃ d)
        (nodes_bytes_of cs (k + 1) c₁ b s.0 (omega arith) (omega arith) (omega arith))
        (bytes_append (nodes_from_of table k₂ c₂ b₂ ts) (nodes_from table k₃ c₃ b₃ d)
        (nodes_bytes_of ts k₂ c₂ b₂ s.1 (omega arith) (omega arith) (omega arith))
        (nodes_bytes d k₃ c₃ b₃ s.2 (omega arith) (omega arith) (omega arith))))

    nodes_bytes_of : (cs : Cases) (k c b : ℕ) → SmallNumbersOf cs → k + nodes_in_of cs < 65536 → c + cases_in_of cs < 65536 → b + length (bindings_in_of cs) < 65536
        → AllBytes (nodes_from_of table k c b cs)
    nodes_bytes_of cnil k c b s l m n = bytes_nil
    nodes_bytes_of (ccons t start a cs) k c b s l m n =
        let e = length-append (bindings_in a) (bindings_in_of cs) in
        let k₂ = k + nodes_in a in
        let c₂ = c + cases_in a in
        let b₂ = b + length (bindings_in a) in
        bytes_append (nodes_from table k c b a) (nodes_from_of table k₂ c₂ b₂ cs)
        (nodes_bytes a k c b s.1 (omega arith) (omega arith) (omega arith))
        (nodes_bytes_of cs k₂ c₂ b₂ s.2 (omega arith) (omega arith) (omega arith))

  -- ---- bindings
  bindings_bytes_lem : (bs : List Binding) → SmallNames bs → AllBytes (bindings_bytes table bs)
  unfolding bindings_bytes SmallNames
  bindings_bytes_lem [] s = bytes_nil
  bindings_bytes_lem (x ∷ bs) s =
      bytes_word x.name (word_bytes (path_number table x.path) ++ bindings_bytes table bs) s.0
      (bytes_word (path_number table x.path) (bindings_bytes table bs) (number_small x.path) (bindings_bytes_lem bs s.1))

-- ---- cases
module _ (pool : List ℕ) (few : length pool < 65536) where
  test_bytes : (kind a b child : ℕ) → kind < 256 → a < 65536 → b < 65536 → child < 65536
      → AllBytes (kind ∷ 0 ∷ (word_bytes a ++ (word_bytes b ++ word_bytes child)))
  test_bytes kind a b child k h i j =
      bytes_cons kind (0 ∷ (word_bytes a ++ (word_bytes b ++ word_bytes child))) k
      (bytes_cons 0 (word_bytes a ++ (word_bytes b ++ word_bytes child)) (omega arith)
      (bytes_word a (word_bytes b ++ word_bytes child) h (bytes_word b (word_bytes child) i (last_word child j))))

  case_bytes_lem : (u : Test) (start child : ℕ) → TextStarts pool start u → SmallTest u → child < 65536 → AllBytes (case_bytes u start child)
  unfolding case_bytes TextStarts SmallTest
  case_bytes_lem (Constr a) start child w s l = test_bytes constr_case a 0 child (omega arith) s (omega arith) l
  case_bytes_lem (Int v) start child w s l = test_bytes int_case start (length v) child (omega arith) (omega (arith, w.inside)) (omega (arith, w.inside)) l
  case_bytes_lem (Bytes v) start child w s l = test_bytes bytes_case start (length v) child (omega arith) (omega (arith, w.inside)) (omega (arith, w.inside)) l
  case_bytes_lem (ListOf n) start child w s l = test_bytes list_case n 0 child (omega arith) s (omega arith) l
  case_bytes_lem (ListWithTail n) start child w s l = test_bytes list_with_tail_case n 0 child (omega arith) s (omega arith) l

  own_bytes : (cs : Cases) (k : ℕ) → WritableOf pool cs → SmallNumbersOf cs → k + nodes_in_of cs < 65536 → AllBytes (own_cases k cs)
  unfolding own_cases WritableOf SmallNumbersOf nodes_in_of
  own_bytes cnil k w s l = bytes_nil
  own_bytes (ccons u start a cs) k w s l =
      bytes_append (case_bytes u start k) (own_cases (k + nodes_in a) cs) (case_bytes_lem u start k w.0 s.0 (omega arith))
      (own_bytes cs (k + nodes_in a) w.3 s.2 (omega arith))

  mutual
    unfolding cases_from nodes_in Writable SmallNumbers

    cases_bytes : (a : Tree) (k : ℕ) → Writable pool a → SmallNumbers a → k + nodes_in a < 65536 → AllBytes (cases_from k a)
    cases_bytes absent k w s l = bytes_nil
    cases_bytes (leaf x bs) k w s l = bytes_nil
    cases_bytes (hoist x bs a) k w s l = cases_bytes a (k + 1) w.2 s.1 (omega arith)
    cases_bytes (switch p cs d) k w s l =
        let k₂ = k + 1 + nodes_in_of cs in
        bytes_append (own_cases (k + 1) cs) (cases_from_of (k + 1) cs ++ cases_from k₂ d) (own_bytes cs (k + 1) w.1 s.0 (omega arith))
        (bytes_append (cases_from_of (k + 1) cs) (cases_from k₂ d) (cases_bytes_of cs (k + 1) w.1 s.0 (omega arith)) (cases_bytes d k₂ w.2 s.1 (omega arith)))
    cases_bytes (listswitch p cs ts d) k w s l =
        let k₂ = k + 1 + nodes_in_of cs in
        let k₃ = k₂ + nodes_in_of ts in
        bytes_append (own_cases (k + 1) cs) (own_cases k₂ ts ++ (cases_from_of (k + 1) cs ++ (cases_from_of k₂ ts ++ cases_from k₃ d)))
        (own_bytes cs (k + 1) w.1 s.0 (omega arith))
        (bytes_append (own_cases k₂ ts) (cases_from_of (k + 1) cs ++ (cases_from_of k₂ ts ++ cases_from k₃ d)) (own_bytes ts k₂ w.2 s.1 (omega arith))
        (bytes_append (cases_from_of (k + 1) cs) (cases_from_of k₂ ts ++ cases_from k₃ d) (cases_bytes_of cs (k + 1) w.1 s.0 (omega arith))
        (bytes_append (cases_from_of k₂ ts) (cases_from k₃ d) (cases_bytes_of ts k₂ w.2 s.1 (omega arith)) (cases_bytes d k₃ w.3 s.2 (omega arith)))))

    cases_bytes_of : (cs : Cases) (k : ℕ) → WritableOf pool cs → SmallNumbersOf cs → k + nodes_in_of cs < 65536 → AllBytes (cases_from_of k cs)
    cases_bytes_of cnil k w s l = bytes_nil
    cases_bytes_of (ccons u start a cs) k w s l =
        bytes_append (cases_from k a) (cases_from_of (k + nodes_in a) cs) (cases_bytes a k w.2 s.1 (omega arith))
        (cases_bytes_of cs (k + nodes_in a) w.3 s.2 (omega arith))

-- ---- paths and steps
paths_bytes_lem : (ps : List Path) (at : ℕ) → at + steps_in ps < 65536 → AllBytes (paths_bytes at ps)
unfolding paths_bytes steps_in
paths_bytes_lem [] at l = bytes_nil
paths_bytes_lem (p ∷ ps) at l =
    bytes_word (first_of (length p) at) (word_bytes (length p) ++ paths_bytes (at + length p) ps) (omega (arith, first_of_most (length p) at))
    (bytes_word (length p) (paths_bytes (at + length p) ps) (omega arith) (paths_bytes_lem ps (at + length p) (omega arith)))

step_record_bytes : (kind flag i t : ℕ) → kind < 256 → flag < 256 → i < 65536 → t < 65536 → AllBytes (kind ∷ flag ∷ (word_bytes i ++ word_bytes t))
step_record_bytes kind flag i t a b c d =
    bytes_cons kind (flag ∷ (word_bytes i ++ word_bytes t)) a (bytes_cons flag (word_bytes i ++ word_bytes t) b (bytes_word i (word_bytes t) c (last_word t d)))

step_bytes_lem : (s : Step) → SmallStep s → AllBytes (step_bytes s)
unfolding step_bytes SmallStep bit
step_bytes_lem (pair i t) h = step_record_bytes pair_step 0 i t (omega arith) (omega arith) h.0 h.1
step_bytes_lem (tuple i t) h = step_record_bytes tuple_step 0 i t (omega arith) (omega arith) h.0 h.1
step_bytes_lem (constr i true t) h = step_record_bytes constr_step 1 i t (omega arith) (omega arith) h.0 h.1
step_bytes_lem (constr i false t) h = step_record_bytes constr_step 0 i t (omega arith) (omega arith) h.0 h.1
step_bytes_lem (list i t) h = step_record_bytes list_step 0 i t (omega arith) (omega arith) h.0 h.1
step_bytes_lem (listtail i t) h = step_record_bytes listtail_step 0 i t (omega arith) (omega arith) h.0 h.1

path_bytes : (p : Path) → SmallPath p → AllBytes (path_steps p)
unfolding path_steps SmallPath
path_bytes [] h = bytes_nil
path_bytes (s ∷ ss) h = bytes_append (step_bytes s) (path_steps ss) (step_bytes_lem s h.0) (path_bytes ss h.1)

steps_bytes_lem : (ps : List Path) → ((p : Path) → is_among p ps ≡ true → SmallPath p) → AllBytes (steps_bytes ps)
unfolding steps_bytes
steps_bytes_lem [] h = bytes_nil
steps_bytes_lem (p ∷ ps) h =
    bytes_append (path_steps p) (steps_bytes ps) (path_bytes p (h p (is_among_first p ps))) (steps_bytes_lem ps (λ q g. h q (is_among_rest q p ps g)))

-- ---- the file
unfoldable EachBytes : List (List ℕ) → Type 0
EachBytes [] = Unit {0}
EachBytes (x ∷ xs) = AllBytes x × EachBytes xs

sections_bytes : (xs : List (List ℕ)) → EachBytes xs → AllBytes (back_to_back xs)
unfolding back_to_back EachBytes
sections_bytes [] h = bytes_nil
sections_bytes (x ∷ xs) h = bytes_append x (back_to_back xs) h.0 (sections_bytes xs h.1)

starts_bytes : (xs : List (List ℕ)) (at : ℕ) (rest : List ℕ) → at + length (back_to_back xs) < 65536 → AllBytes (words_of rest)
    → AllBytes (words_of (starts_from at xs ++ rest))
unfolding back_to_back starts_from
starts_bytes [] at rest l h = h
starts_bytes (x ∷ xs) at rest l h =
    let e = length-append x (back_to_back xs) in
    bytes_word at (words_of (starts_from (at + length x) xs ++ rest)) (omega arith) (starts_bytes xs (at + length x) rest (omega arith) h)

file_of_bytes : (xs : List (List ℕ)) → EachBytes xs → length (file_of xs) < 65536 → AllBytes (file_of xs)
unfolding file_of file_with trailer_of
file_of_bytes xs h l =
    let long = (file_sections [] xs).length_is in
    let end = length (back_to_back xs) + trailer_size [] xs in
    bytes_append (back_to_back xs) (words_of (starts_from 0 xs ++ end ∷ [])) (sections_bytes xs h)
    (starts_bytes xs 0 (end ∷ []) (omega arith) (last_word end (omega arith)))

-- the written file is bytes
pub file_bytes : (pool : List ℕ) (a : Tree) → Writable pool a → InWords a → AllBytes pool → length (tree_file pool a) < 65536 → AllBytes (tree_file pool a)
unfolding tree_file tree_sections EachBytes
file_bytes pool a w s o l =
    let table = path_table a in
    let e = file_length pool a in
    file_of_bytes (tree_sections pool table a) (
      nodes_bytes table (omega arith) a 0 0 0 s.numbers (omega arith) (omega arith) (omega arith),
      (
        cases_bytes pool (omega arith) a 0 w s.numbers (omega arith),
        (
          bindings_bytes_lem table (omega arith) (bindings_in a) s.names,
          (paths_bytes_lem table 0 (omega arith), (steps_bytes_lem table (λ p h. s.paths p ((table_used a).among p h)), (o, tt))),
        ),
      ),
    )
    l
