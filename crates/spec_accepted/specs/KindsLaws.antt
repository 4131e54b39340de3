-- What the four tables of kinds say: a byte has a known kind exactly if it is that kind's number, and past the last number the kind
-- is unknown. Each table is one chain of tests for 0, 1, ..; the laws of such a chain are proved once.
use Rattle.std.specs.Prelude.{◌≡◌, Bool}
use Rattle.std.proofs.Math.Path.{refl}
use Rattle.std.proofs.Common.{ap}
use Rattle.std.proofs.Math.Bool.{true, false}
use mathlib.Core.List.{List, [], ◌∷◌}
use Prim.Native.Nat.{ℕ, suc, ◌+◌, ◌≤◌, ◌<◌, min}
use native.Mathlib.Omega.{arith}
use borrow.Author.Tests.{eqb-true, eqb-false, ne_eqb}
use Rattle.std.proofs.Math.Dec.{eqb}
use Rattle.std.proofs.Math.ListN.{length}
use Rattle.base_words.specs.Words.{pick}
use Rattle.spec_rules.specs.Kinds.{discard_pattern, variable_pattern, assign_pattern, integer_pattern, byte_string_pattern, list_pattern, list_with_tail_pattern, constructor_pattern, pair_pattern, tuple_pattern, integer_record, bytes_record, list_record, pair_record, tuple_record, constructor_record, switch_node, list_switch_node, leaf_node, hoist_node, constr_case, int_case, bytes_case, list_case, list_with_tail_case}
use Rattle.spec_rules.specs.Patterns.{PatternKind, Discard, Variable, Assign, Integer, ByteString, ListOfAll, ListWithRest, Constructor, Pair, Tuple, Unknown, pattern_kind_of}
use Rattle.spec_rules.specs.PanelFile.{RecordKind, Integer_record, Bytes_record, List_record, Pair_record, Tuple_record, Constructor_record, Unknown_record, record_kind_of}
use Rattle.spec_rules.specs.TreeReader.{NodeKind, Switch, List_switch, Leaf, Hoist_node, Unknown_node, node_kind_of, CaseKind, Constr_case, Int_case, Bytes_case, List_case, List_with_tail_case, Unknown_case, case_kind_of}

-- ---- a chain of tests
module _ {A : Type 0} where
  -- the kind in xs at place k, where the first of xs has place i; past the last one `unknown`
  chain : ℕ → List A → A → ℕ → A
  chain i [] unknown k = unknown
  chain i (x ∷ xs) unknown k = pick (eqb k i) x (chain (i + 1) xs unknown k)

  -- each of xs has its place as its number, where the first has place i
  abbrev Numbered : (A → ℕ) → ℕ → List A → Type 0
  Numbered number i [] = Unit {0}
  Numbered number i (x ∷ xs) = (number x ≡ i) × Numbered number (i + 1) xs

  chain_past : (i : ℕ) (xs : List A) (unknown : A) (k : ℕ) → i + length xs ≤ k → chain i xs unknown k ≡ unknown
  unfolding chain
  chain_past i [] unknown k h = refl
  chain_past i (x ∷ xs) unknown k h = rw (ne_eqb k i (λ e. omega arith)) (chain_past (i + 1) xs unknown k (omega arith))

  chain_number : (number : A → ℕ) (i : ℕ) (xs : List A) (unknown : A) (k : ℕ) → Numbered number i xs → number unknown ≡ i + length xs → i ≤ k
      → number (chain i xs unknown k) ≡ min k (i + length xs)
  unfolding chain
  chain_number number i [] unknown k each last low = omega arith
  chain_number number i (x ∷ xs) unknown k each last low = go (eqb k i) refl (chain_number number (i + 1) xs unknown k each.1 (omega arith))
    where
      go : (b : Bool) → eqb k i ≡ b → (i + 1 ≤ k → number (chain (i + 1) xs unknown k) ≡ min k (i + 1 + length xs))
          → number (pick b x (chain (i + 1) xs unknown k)) ≡ min k (i + suc (length xs))
      go true e ih = let d = eqb-true k i e in omega (arith, each.0)
      go false e ih = let d = eqb-false k i e in omega (arith, ih (omega arith))

  -- from a kind with a number of its own, the byte; from a byte past the last number, none such
  chain_byte : (number : A → ℕ) (n : ℕ) (kind_of : ℕ → A) (k : ℕ) (kind : A) → number (kind_of k) ≡ min k n → kind_of k ≡ kind → number kind < n → k ≡ number kind
  chain_byte number n kind_of k kind e f h = let g : number (kind_of k) ≡ number kind = ap number f in omega arith

  chain_unknown : (number : A → ℕ) (n : ℕ) (kind_of : ℕ → A) (k : ℕ) (kind : A) → number (kind_of k) ≡ min k n → kind_of k ≡ kind → number kind ≡ n → n ≤ k
  chain_unknown number n kind_of k kind e f h = let g : number (kind_of k) ≡ number kind = ap number f in omega arith

-- ---- patterns
abbrev pub pattern_number : PatternKind → ℕ
pattern_number Discard = discard_pattern
pattern_number Variable = variable_pattern
pattern_number Assign = assign_pattern
pattern_number Integer = integer_pattern
pattern_number ByteString = byte_string_pattern
pattern_number ListOfAll = list_pattern
pattern_number ListWithRest = list_with_tail_pattern
pattern_number Constructor = constructor_pattern
pattern_number Pair = pair_pattern
pattern_number Tuple = tuple_pattern
pattern_number Unknown = suc tuple_pattern

abbrev pattern_kinds : List PatternKind
pattern_kinds = Discard ∷ Variable ∷ Assign ∷ Integer ∷ ByteString ∷ ListOfAll ∷ ListWithRest ∷ Constructor ∷ Pair ∷ Tuple ∷ []

-- the number of a byte's kind is the byte, or 10 for every byte from 10 on
pub pattern_number_lem : (k : ℕ) → pattern_number (pattern_kind_of k) ≡ min k (suc tuple_pattern)
unfolding pattern_kind_of chain
pattern_number_lem k =
    chain_number pattern_number 0 pattern_kinds Unknown k
    (refl, (refl, (refl, (refl, (refl, (refl, (refl, (refl, (refl, (refl, tt)))))))))) refl (omega arith)

-- from a known kind, the byte: `pattern_byte k Integer e (omega arith) : k ≡ 3`
pub pattern_byte : (k : ℕ) (kind : PatternKind) → pattern_kind_of k ≡ kind → pattern_number kind < suc tuple_pattern → k ≡ pattern_number kind
pattern_byte k kind = chain_byte pattern_number (suc tuple_pattern) pattern_kind_of k kind (pattern_number_lem k)

-- from the byte, the kind: `byte_pattern k Integer e`, where e : k ≡ 3
pub byte_pattern : (k : ℕ) (kind : PatternKind) → k ≡ pattern_number kind → pattern_kind_of k ≡ kind
unfolding pattern_kind_of
byte_pattern k Discard e = rw e
byte_pattern k Variable e = rw e
byte_pattern k Assign e = rw e
byte_pattern k Integer e = rw e
byte_pattern k ByteString e = rw e
byte_pattern k ListOfAll e = rw e
byte_pattern k ListWithRest e = rw e
byte_pattern k Constructor e = rw e
byte_pattern k Pair e = rw e
byte_pattern k Tuple e = rw e
byte_pattern k Unknown e = rw e

pub pattern_unknown : (k : ℕ) → tuple_pattern < k → pattern_kind_of k ≡ Unknown
unfolding pattern_kind_of chain
pattern_unknown k h = chain_past 0 pattern_kinds Unknown k h

pub unknown_pattern : (k : ℕ) → pattern_kind_of k ≡ Unknown → tuple_pattern < k
unknown_pattern k e = chain_unknown pattern_number (suc tuple_pattern) pattern_kind_of k Unknown (pattern_number_lem k) e refl

-- ---- panel records
abbrev pub record_number : RecordKind → ℕ
record_number Integer_record = integer_record
record_number Bytes_record = bytes_record
record_number List_record = list_record
record_number Pair_record = pair_record
record_number Tuple_record = tuple_record
record_number Constructor_record = constructor_record
record_number Unknown_record = suc constructor_record

abbrev record_kinds : List RecordKind
record_kinds = Integer_record ∷ Bytes_record ∷ List_record ∷ Pair_record ∷ Tuple_record ∷ Constructor_record ∷ []

pub record_number_lem : (k : ℕ) → record_number (record_kind_of k) ≡ min k (suc constructor_record)
unfolding record_kind_of chain
record_number_lem k =
    chain_number record_number 0 record_kinds Unknown_record k (refl, (refl, (refl, (refl, (refl, (refl, tt)))))) refl (omega arith)

pub record_byte : (k : ℕ) (kind : RecordKind) → record_kind_of k ≡ kind → record_number kind < suc constructor_record → k ≡ record_number kind
record_byte k kind = chain_byte record_number (suc constructor_record) record_kind_of k kind (record_number_lem k)

pub byte_record : (k : ℕ) (kind : RecordKind) → k ≡ record_number kind → record_kind_of k ≡ kind
unfolding record_kind_of
byte_record k Integer_record e = rw e
byte_record k Bytes_record e = rw e
byte_record k List_record e = rw e
byte_record k Pair_record e = rw e
byte_record k Tuple_record e = rw e
byte_record k Constructor_record e = rw e
byte_record k Unknown_record e = rw e

pub record_unknown : (k : ℕ) → constructor_record < k → record_kind_of k ≡ Unknown_record
unfolding record_kind_of chain
record_unknown k h = chain_past 0 record_kinds Unknown_record k h

-- ---- tree nodes
abbrev pub node_number : NodeKind → ℕ
node_number Switch = switch_node
node_number List_switch = list_switch_node
node_number Leaf = leaf_node
node_number Hoist_node = hoist_node
node_number Unknown_node = suc hoist_node

abbrev node_kinds : List NodeKind
node_kinds = Switch ∷ List_switch ∷ Leaf ∷ Hoist_node ∷ []

pub node_number_lem : (k : ℕ) → node_number (node_kind_of k) ≡ min k (suc hoist_node)
unfolding node_kind_of chain
node_number_lem k = chain_number node_number 0 node_kinds Unknown_node k (refl, (refl, (refl, (refl, tt)))) refl (omega arith)

pub node_byte : (k : ℕ) (kind : NodeKind) → node_kind_of k ≡ kind → node_number kind < suc hoist_node → k ≡ node_number kind
node_byte k kind = chain_byte node_number (suc hoist_node) node_kind_of k kind (node_number_lem k)

pub byte_node : (k : ℕ) (kind : NodeKind) → k ≡ node_number kind → node_kind_of k ≡ kind
unfolding node_kind_of
byte_node k Switch e = rw e
byte_node k List_switch e = rw e
byte_node k Leaf e = rw e
byte_node k Hoist_node e = rw e
byte_node k Unknown_node e = rw e

pub node_unknown : (k : ℕ) → hoist_node < k → node_kind_of k ≡ Unknown_node
unfolding node_kind_of chain
node_unknown k h = chain_past 0 node_kinds Unknown_node k h

pub unknown_node : (k : ℕ) → node_kind_of k ≡ Unknown_node → hoist_node < k
unknown_node k e = chain_unknown node_number (suc hoist_node) node_kind_of k Unknown_node (node_number_lem k) e refl

-- ---- tree cases
abbrev pub case_kind_number : CaseKind → ℕ
case_kind_number Constr_case = constr_case
case_kind_number Int_case = int_case
case_kind_number Bytes_case = bytes_case
case_kind_number List_case = list_case
case_kind_number List_with_tail_case = list_with_tail_case
case_kind_number Unknown_case = suc list_with_tail_case

abbrev case_kinds : List CaseKind
case_kinds = Constr_case ∷ Int_case ∷ Bytes_case ∷ List_case ∷ List_with_tail_case ∷ []

pub case_number : (k : ℕ) → case_kind_number (case_kind_of k) ≡ min k (suc list_with_tail_case)
unfolding case_kind_of chain
case_number k = chain_number case_kind_number 0 case_kinds Unknown_case k (refl, (refl, (refl, (refl, (refl, tt))))) refl (omega arith)

pub case_byte : (k : ℕ) (kind : CaseKind) → case_kind_of k ≡ kind → case_kind_number kind < suc list_with_tail_case → k ≡ case_kind_number kind
case_byte k kind = chain_byte case_kind_number (suc list_with_tail_case) case_kind_of k kind (case_number k)

pub byte_case : (k : ℕ) (kind : CaseKind) → k ≡ case_kind_number kind → case_kind_of k ≡ kind
unfolding case_kind_of
byte_case k Constr_case e = rw e
byte_case k Int_case e = rw e
byte_case k Bytes_case e = rw e
byte_case k List_case e = rw e
byte_case k List_with_tail_case e = rw e
byte_case k Unknown_case e = rw e

pub case_unknown : (k : ℕ) → list_with_tail_case < k → case_kind_of k ≡ Unknown_case
unfolding case_kind_of chain
case_unknown k h = chain_past 0 case_kinds Unknown_case k h

pub unknown_case : (k : ℕ) → case_kind_of k ≡ Unknown_case → list_with_tail_case < k
unknown_case k e = chain_unknown case_kind_number (suc list_with_tail_case) case_kind_of k Unknown_case (case_number k) e refl
