-- 01, refusal 25: a panel "doesn't fit the subject type".
-- A type may contain itself; a part's record has a larger number than its owner's, so that the number of records is deep enough.
use Rattle.std.specs.Prelude.{ℕ, zero, suc, ◌+◌, Bool, true, false, List, eqb}
use Rattle.base_words.specs.Words.{both}
use Rattle.spec_rules.specs.Limits.{records_most}
use Rattle.spec_rules.specs.Kinds.{int_type, bytes_type, list_type, pair_type, tuple_type}
use Rattle.spec_rules.specs.SheetFile.{subject, type_kind, type_first, type_count, constructor_first, entry}
use Rattle.spec_rules.specs.Patterns.{constructor_of, takes_arguments}
use Rattle.spec_rules.specs.PanelFile.{record_kind, record_a, record_first, record_count, part, RecordKind, Integer_record, Bytes_record, List_record, Pair_record, Tuple_record, Constructor_record, Unknown_record, record_kind_of}

-- the n parts from child entry j on fit, by f, the types at their own type entries: the first at e, each next one `step` further on
unfoldable pub parts_fit : (ℕ → ℕ → Bool) → List ℕ → List ℕ → ℕ → ℕ → ℕ → ℕ → Bool
unfolding entry part
parts_fit f s v j zero e step = true
parts_fit f s v j (suc n) e step = both (f (part v j) (entry s e)) (parts_fit f s v (j + 1) n (e + step) step)

unfoldable pub record_fits : (ℕ → ℕ → Bool) → List ℕ → List ℕ → ℕ → ℕ → RecordKind → Bool
unfolding type_kind type_first type_count constructor_first constructor_of takes_arguments record_a record_first record_count parts_fit
record_fits f s v r t Integer_record = eqb (type_kind s t) int_type
record_fits f s v r t Bytes_record = eqb (type_kind s t) bytes_type
record_fits f s v r t List_record = both (eqb (type_kind s t) list_type) (parts_fit f s v (record_first v r) (record_count v r) (type_first s t) 0)
record_fits f s v r t Pair_record =
    both (eqb (type_kind s t) pair_type) (both (eqb (type_count s t) (record_count v r)) (parts_fit f s v (record_first v r) (record_count v r) (type_first s t) 1))
record_fits f s v r t Tuple_record =
    both (eqb (type_kind s t) tuple_type) (both (eqb (type_count s t) (record_count v r)) (parts_fit f s v (record_first v r) (record_count v r) (type_first s t) 1))
record_fits f s v r t Constructor_record =
    both (takes_arguments s t (record_a v r) (record_count v r))
    (parts_fit f s v (record_first v r) (record_count v r) (constructor_first s (constructor_of s t (record_a v r))) 1)
record_fits f s v r t Unknown_record = false

-- record r of the panel v is of type t of the sheet s, as far as `deep` parts go down
unfoldable pub has_type_to : ℕ → List ℕ → List ℕ → ℕ → ℕ → Bool
unfolding record_kind record_kind_of record_fits
has_type_to zero s v r t = false
has_type_to (suc deep) s v r t = record_fits (has_type_to deep s v) s v r t (record_kind_of (record_kind v r))

unfoldable pub panel_fits : List ℕ → List ℕ → Bool
unfolding has_type_to subject
panel_fits s v = has_type_to records_most s v 0 (subject s)
