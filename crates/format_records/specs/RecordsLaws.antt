-- Records read back: bytes of a record that stand at a place give its fields there, and the case that is read is the one that stands there.
-- Rests on the laws of standing bytes; a record's bytes are as the tree file's definition writes them.
use Rattle.std.specs.Prelude.{◌≡◌, refl, List, ◌++◌, ℕ, ◌+◌, ◌*◌}
use Rattle.std.proofs.Common.{sym, ◌∙◌, arith}
use Rattle.base_words.specs.Words.{word_at, word_bytes}
use Rattle.spec_rules.specs.Splitting as splitting
use Rattle.spec_rules.specs.TreeFile.{node_bytes, case_bytes}
use Rattle.spec_rules.specs.TreeReader.{case_kind_of}
use Rattle.spec_file.specs.StandingLaws.{Stands, byte_field, word_field}
use Rattle.spec_file.specs.Writable.{test_kind}
use Rattle.spec_file.specs.RecordsLaws.{test_number, test_length, case_fields, case_bytes_fields}
use Rattle.format_records.specs.Records.{kind_in, zero_in, node_word_in, case_number_in, case_length_in, case_child_in, test_from, test_in, case_in, case_record, test_for}

-- ---- nodes
pub record NodeIs (w : List ℕ) (at kind a b c d e : ℕ) : Type 0 where
  pub kind_is : kind_in w at ≡ kind
  pub zero_is : zero_in w at ≡ 0
  pub word_0 : node_word_in w at 0 ≡ a
  pub word_1 : node_word_in w at 1 ≡ b
  pub word_2 : node_word_in w at 2 ≡ c
  pub word_3 : node_word_in w at 3 ≡ d
  pub word_4 : node_word_in w at 4 ≡ e

pub node_is : {w : List ℕ} {at kind a b c d e : ℕ} → Stands w at (node_bytes kind a b c d e) → NodeIs w at kind a b c d e
unfolding node_bytes word_at
node_is {w} {at} {kind} {a} {b} {c} {d} {e} s =
    record {
      kind_is = byte_field s at 0 kind (omega arith) (omega arith) refl;
      zero_is = byte_field s (at + 1) 1 0 refl (omega arith) refl;
      word_0 = word_field s (at + 2 + 2 * 0) 2 a (omega arith) (omega arith) (omega arith);
      word_1 = word_field s (at + 2 + 2 * 1) 4 b (omega arith) (omega arith) (omega arith);
      word_2 = word_field s (at + 2 + 2 * 2) 6 c (omega arith) (omega arith) (omega arith);
      word_3 = word_field s (at + 2 + 2 * 3) 8 d (omega arith) (omega arith) (omega arith);
      word_4 = word_field s (at + 2 + 2 * 4) 10 e (omega arith) (omega arith) (omega arith);
    }

-- ---- cases
pub record CaseIs (w : List ℕ) (at : ℕ) (u : splitting.Test) (start child : ℕ) : Type 0 where
  pub kind_is : kind_in w at ≡ test_kind u
  pub zero_is : zero_in w at ≡ 0
  pub number_is : case_number_in w at ≡ test_number start u
  pub length_is : case_length_in w at ≡ test_length u
  pub child_is : case_child_in w at ≡ child

case_fields_lem : (w : List ℕ) (at : ℕ) (u : splitting.Test) (start child : ℕ)
    → Stands w at (case_fields (test_kind u) (test_number start u) (test_length u) child) → CaseIs w at u start child
unfolding case_fields word_at
case_fields_lem w at u start child s =
    record {
      kind_is = byte_field s at 0 (test_kind u) (omega arith) (omega arith) refl;
      zero_is = byte_field s (at + 1) 1 0 refl (omega arith) refl;
      number_is = word_field s (at + 2) 2 (test_number start u) refl (omega arith) (omega arith);
      length_is = word_field s (at + 4) 4 (test_length u) refl (omega arith) (omega arith);
      child_is = word_field s (at + 6) 6 child refl (omega arith) (omega arith);
    }

pub case_is : (w : List ℕ) (at : ℕ) (u : splitting.Test) (start child : ℕ) → Stands w at (case_bytes u start child) → CaseIs w at u start child
case_is w at u start child s = case_fields_lem w at u start child (rw (case_bytes_fields u start child) at s)

test_fields : (u : splitting.Test) (start : ℕ) → test_from (case_kind_of (test_kind u)) (test_number start u) (test_length u) ≡ test_for start u
unfolding test_from case_kind_of test_kind test_number test_length test_for
test_fields (splitting.Constr a) start = refl
test_fields (splitting.Int v) start = refl
test_fields (splitting.Bytes v) start = refl
test_fields (splitting.ListOf n) start = refl
test_fields (splitting.ListWithTail n) start = refl

-- the case that is read is the one that stands there
pub case_read : (w : List ℕ) (at : ℕ) (u : splitting.Test) (start child : ℕ) → CaseIs w at u start child
    → case_in w at ≡ record { test = test_for start u; child = child }
unfolding test_in
case_read w at u start child h =
    λ j. record { test = ((λ l. test_from (case_kind_of (h.kind_is l)) (h.number_is l) (h.length_is l)) ∙ test_fields u start) j; child = h.child_is j }

-- a case is written as the tree file has it
pub case_written : (u : splitting.Test) (start child : ℕ) → case_record (record { test = test_for start u; child = child }) ≡ case_bytes u start child
unfolding case_record test_for test_kind test_number test_length
case_written (splitting.Constr a) start child = sym (case_bytes_fields (splitting.Constr a) start child)
case_written (splitting.Int v) start child = sym (case_bytes_fields (splitting.Int v) start child)
case_written (splitting.Bytes v) start child = sym (case_bytes_fields (splitting.Bytes v) start child)
case_written (splitting.ListOf n) start child = sym (case_bytes_fields (splitting.ListOf n) start child)
case_written (splitting.ListWithTail n) start child = sym (case_bytes_fields (splitting.ListWithTail n) start child)

-- ---- bindings
pub record BindingIs (w : List ℕ) (at name path : ℕ) : Type 0 where
  pub name_is : word_at w at ≡ name
  pub path_is : word_at w (at + 2) ≡ path

pub binding_is : (w : List ℕ) (at name path : ℕ) → Stands w at (word_bytes name ++ word_bytes path) → BindingIs w at name path
unfolding word_at
binding_is w at name path s =
    record {
      name_is = word_field s at 0 name (omega arith) (omega arith) (omega arith);
      path_is = word_field s (at + 2) 2 path refl (omega arith) (omega arith);
    }
