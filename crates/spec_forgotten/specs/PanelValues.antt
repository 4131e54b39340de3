-- The value that a panel file holds: what Values says of it and what Fitting and Walking say of the file are one (statements: ForgettingSaid).
-- A part's record has a larger number than its owner's, so that the number of records is deep enough.
use Rattle.std.specs.Prelude.{ℕ, zero, suc, ◌+◌, List}
use Rattle.spec_rules.specs.Limits.{records_most}
use Rattle.spec_rules.specs.PanelFile.{record_kind, record_a, record_first, record_count, part, record_text, RecordKind, Integer_record, Bytes_record, List_record, Pair_record, Tuple_record, Constructor_record, Unknown_record, record_kind_of}
use Rattle.spec_forgotten.specs.Values.{Value, Values, an_integer, a_byte_string, whole, a_list, a_pair, a_tuple, a_constructor, vnil, vcons}

-- the n parts from child entry j on, each made by f
unfoldable pub values_from : (ℕ → Value) → List ℕ → ℕ → ℕ → Values
unfolding part
values_from f v j zero = vnil
values_from f v j (suc n) = vcons (f (part v j)) (values_from f v (j + 1) n)

unfoldable pub value_of_kind : (ℕ → Value) → List ℕ → ℕ → RecordKind → Value
unfolding values_from record_a record_first record_count record_text
value_of_kind f v r Integer_record = an_integer (record_text v r)
value_of_kind f v r Bytes_record = a_byte_string (record_text v r)
value_of_kind f v r List_record = whole a_list (values_from f v (record_first v r) (record_count v r))
value_of_kind f v r Pair_record = whole a_pair (values_from f v (record_first v r) (record_count v r))
value_of_kind f v r Tuple_record = whole a_tuple (values_from f v (record_first v r) (record_count v r))
value_of_kind f v r Constructor_record = whole (a_constructor (record_a v r)) (values_from f v (record_first v r) (record_count v r))
value_of_kind f v r Unknown_record = whole a_list vnil

unfoldable pub value_to : ℕ → List ℕ → ℕ → Value
unfolding record_kind record_kind_of value_of_kind
value_to zero v r = whole a_list vnil
value_to (suc deep) v r = value_of_kind (value_to deep v) v r (record_kind_of (record_kind v r))

unfoldable pub panel_value : List ℕ → Value
unfolding value_to
panel_value v = value_to records_most v 0
