-- The records of a tree file read back: bytes of a record that stand at its place give its fields.
-- Rests on the laws of standing bytes; a record's bytes are as the tree file's definition writes them.
use Rattle.std.specs.Prelude.{◌≡◌, refl, List, ◌∷◌, ◌++◌, ℕ, ◌+◌, ◌*◌, length, get_or}
use Rattle.std.proofs.Common.{arith}
use Rattle.base_words.specs.Words.{word_at, word_bytes}
use Rattle.spec_rules.specs.Limits.{node_size, case_size, binding_size, path_size, step_size}
use Rattle.spec_rules.specs.Rows.{Step, pair, tuple, constr, list, listtail, step_fields}
use Rattle.spec_rules.specs.Splitting.{Test, Constr, Int, Bytes, ListOf, ListWithTail}
use Rattle.spec_rules.specs.TreeFile.{node_bytes, case_bytes, step_bytes}
use Rattle.spec_rules.specs.TreeReader.{tree_nodes_at, tree_cases_at, tree_bindings_at, tree_paths_at, tree_steps_at, node_kind, node_zero, node_word, case_kind, case_zero, case_number, case_length, case_child, binding_name, binding_path, path_first, path_count, step_kind, step_flag, step_index_at, step_type, step_at}
use Rattle.spec_file.specs.PathsLaws.{step_of, step_of_step_fields}
use Rattle.spec_file.specs.StandingLaws.{Stands, byte_field, word_field}
use Rattle.spec_file.specs.Writable.{test_kind}

-- ---- nodes
pub record NodeIs (t : List ℕ) (k kind a b c d e : ℕ) : Type 0 where
  pub kind_is : node_kind t k ≡ kind
  pub zero_is : node_zero t k ≡ 0
  pub word_0 : node_word t k 0 ≡ a
  pub word_1 : node_word t k 1 ≡ b
  pub word_2 : node_word t k 2 ≡ c
  pub word_3 : node_word t k 3 ≡ d
  pub word_4 : node_word t k 4 ≡ e

pub node_is : {t : List ℕ} {k kind a b c d e : ℕ} → Stands t (tree_nodes_at t + node_size * k) (node_bytes kind a b c d e) → NodeIs t k kind a b c d e
unfolding node_kind node_zero node_word node_bytes word_at
node_is {t} {k} {kind} {a} {b} {c} {d} {e} s =
    let i = tree_nodes_at t + node_size * k in
    record {
      kind_is = byte_field s i 0 kind (omega arith) (omega arith) refl;
      zero_is = byte_field s (i + 1) 1 0 (omega arith) (omega arith) refl;
      word_0 = word_field s (i + 2 + 2 * 0) 2 a (omega arith) (omega arith) (omega arith);
      word_1 = word_field s (i + 2 + 2 * 1) 4 b (omega arith) (omega arith) (omega arith);
      word_2 = word_field s (i + 2 + 2 * 2) 6 c (omega arith) (omega arith) (omega arith);
      word_3 = word_field s (i + 2 + 2 * 3) 8 d (omega arith) (omega arith) (omega arith);
      word_4 = word_field s (i + 2 + 2 * 4) 10 e (omega arith) (omega arith) (omega arith);
    }

-- ---- cases
-- a case's number field and its text length
unfoldable pub test_number : ℕ → Test → ℕ
test_number start (Constr a) = a
test_number start (Int w) = start
test_number start (Bytes w) = start
test_number start (ListOf n) = n
test_number start (ListWithTail n) = n

unfoldable pub test_length : Test → ℕ
test_length (Constr a) = 0
test_length (Int w) = length w
test_length (Bytes w) = length w
test_length (ListOf n) = 0
test_length (ListWithTail n) = 0

-- a case's record from its fields
unfoldable pub case_fields : ℕ → ℕ → ℕ → ℕ → List ℕ
case_fields kind number count child = kind ∷ 0 ∷ (word_bytes number ++ (word_bytes count ++ word_bytes child))

pub case_bytes_fields : (u : Test) (start child : ℕ) → case_bytes u start child ≡ case_fields (test_kind u) (test_number start u) (test_length u) child
unfolding case_bytes case_fields test_kind test_number test_length
case_bytes_fields (Constr a) start child = refl
case_bytes_fields (Int w) start child = refl
case_bytes_fields (Bytes w) start child = refl
case_bytes_fields (ListOf n) start child = refl
case_bytes_fields (ListWithTail n) start child = refl

pub record CaseIs (t : List ℕ) (i : ℕ) (u : Test) (start child : ℕ) : Type 0 where
  pub kind_is : case_kind t i ≡ test_kind u
  pub zero_is : case_zero t i ≡ 0
  pub number_is : case_number t i ≡ test_number start u
  pub length_is : case_length t i ≡ test_length u
  pub child_is : case_child t i ≡ child

case_fields_lem : (t : List ℕ) (i : ℕ) (u : Test) (start child : ℕ)
    → Stands t (tree_cases_at t + case_size * i) (case_fields (test_kind u) (test_number start u) (test_length u) child) → CaseIs t i u start child
unfolding case_kind case_zero case_number case_length case_child case_fields word_at
case_fields_lem t i u start child s =
    let j = tree_cases_at t + case_size * i in
    record {
      kind_is = byte_field s j 0 (test_kind u) (omega arith) (omega arith) refl;
      zero_is = byte_field s (j + 1) 1 0 (omega arith) (omega arith) refl;
      number_is = word_field s (j + 2) 2 (test_number start u) refl (omega arith) (omega arith);
      length_is = word_field s (j + 4) 4 (test_length u) refl (omega arith) (omega arith);
      child_is = word_field s (j + 6) 6 child refl (omega arith) (omega arith);
    }

pub case_is : (t : List ℕ) (i : ℕ) (u : Test) (start child : ℕ) → Stands t (tree_cases_at t + case_size * i) (case_bytes u start child) → CaseIs t i u start child
case_is t i u start child s = case_fields_lem t i u start child (rw (case_bytes_fields u start child) at s)

-- ---- steps
-- a step's record from its fields: kind, flag, index, type
step_record : List ℕ → List ℕ
step_record fields = get_or fields 0 0 ∷ get_or fields 1 0 ∷ (word_bytes (get_or fields 2 0) ++ word_bytes (get_or fields 3 0))

step_bytes_fields : (s : Step) → step_bytes s ≡ step_record (step_fields s)
unfolding step_bytes step_fields step_record
step_bytes_fields (pair i t) = refl
step_bytes_fields (tuple i t) = refl
step_bytes_fields (constr i b t) = refl
step_bytes_fields (list i t) = refl
step_bytes_fields (listtail i t) = refl

pub record StepIs (t : List ℕ) (i : ℕ) (fields : List ℕ) : Type 0 where
  pub kind_is : step_kind t i ≡ get_or fields 0 0
  pub flag_is : step_flag t i ≡ get_or fields 1 0
  pub index_is : step_index_at t i ≡ get_or fields 2 0
  pub type_is : step_type t i ≡ get_or fields 3 0

step_fields_lem : (t : List ℕ) (i : ℕ) (fields : List ℕ) → Stands t (tree_steps_at t + step_size * i) (step_record fields) → StepIs t i fields
unfolding step_kind step_flag step_index_at step_type step_record word_at
step_fields_lem t i fields s =
    let j = tree_steps_at t + step_size * i in
    record {
      kind_is = byte_field s j 0 (get_or fields 0 0) (omega arith) (omega arith) refl;
      flag_is = byte_field s (j + 1) 1 (get_or fields 1 0) refl (omega arith) refl;
      index_is = word_field s (j + 2) 2 (get_or fields 2 0) refl (omega arith) (omega arith);
      type_is = word_field s (j + 4) 4 (get_or fields 3 0) refl (omega arith) (omega arith);
    }

pub step_is : (t : List ℕ) (i : ℕ) (s : Step) → Stands t (tree_steps_at t + step_size * i) (step_bytes s) → StepIs t i (step_fields s)
step_is t i s h = step_fields_lem t i (step_fields s) (rw (step_bytes_fields s) at h)

pub step_at_is : (t : List ℕ) (i : ℕ) (s : Step) → StepIs t i (step_fields s) → step_at t i ≡ s
unfolding step_at step_of
step_at_is t i s h = rw (h.kind_is, h.flag_is, h.index_is, h.type_is) (step_of_step_fields s)

-- ---- bindings and paths
pub record BindingIs (t : List ℕ) (i name path : ℕ) : Type 0 where
  pub name_is : binding_name t i ≡ name
  pub path_is : binding_path t i ≡ path

pub binding_is : (t : List ℕ) (i name path : ℕ) → Stands t (tree_bindings_at t + binding_size * i) (word_bytes name ++ word_bytes path) → BindingIs t i name path
unfolding binding_name binding_path word_at
binding_is t i name path s =
    let j = tree_bindings_at t + binding_size * i in
    record {
      name_is = word_field s j 0 name (omega arith) (omega arith) (omega arith);
      path_is = word_field s (j + 2) 2 path refl (omega arith) (omega arith);
    }

pub record PathIs (t : List ℕ) (i first count : ℕ) : Type 0 where
  pub first_is : path_first t i ≡ first
  pub count_is : path_count t i ≡ count

pub path_is : (t : List ℕ) (i first count : ℕ) → Stands t (tree_paths_at t + path_size * i) (word_bytes first ++ word_bytes count) → PathIs t i first count
unfolding path_first path_count word_at
path_is t i first count s =
    let j = tree_paths_at t + path_size * i in
    record {
      first_is = word_field s j 0 first (omega arith) (omega arith) (omega arith);
      count_is = word_field s (j + 2) 2 count refl (omega arith) (omega arith);
    }
