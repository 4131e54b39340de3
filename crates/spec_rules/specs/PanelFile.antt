-- 01, "Panels and the walk": the panel file, and refusals 21 to 24.
-- A panel is the list of its bytes; a field that is not there reads 0.
use Rattle.std.specs.Prelude.{ℕ, zero, suc, ◌+◌, ◌-◌, ◌*◌, ◌/◌, Bool, true, false, List, [], ◌∷◌, length, get_or, eqb, leb, ltb}
use Rattle.base_words.specs.Words.{word_at, text_at, both, pick}
use Rattle.spec_rules.specs.Limits.{record_size, part_size, panel_trailer, panel_most, records_most, panel_depth_most}
use Rattle.spec_rules.specs.Kinds.{integer_record, bytes_record, list_record, pair_record, tuple_record, constructor_record}
use Rattle.spec_rules.specs.RefusalNumbers.{panel_length_refusal, panel_layout_refusal, panel_shape_refusal, panel_text_refusal}
use Rattle.spec_rules.specs.Searching.{every, times}
use Rattle.spec_rules.specs.SheetFile.{run_in}
use Rattle.spec_rules.specs.Texts.{canonical, short_text}
use Rattle.spec_rules.specs.SheetRefusals.{Verdict, accepted, require, whole_records, whole_between}

-- ---- sections: "Panel records are 8 bytes like patterns ..; then children, pool, and a trailer of three starts and the length"
unfoldable pub panel_start : List ℕ → ℕ → ℕ
unfolding word_at
panel_start v k = word_at v (length v - panel_trailer + 2 * k)

unfoldable pub panel_length : List ℕ → ℕ
unfolding word_at
panel_length v = word_at v (length v - 2)

unfoldable pub records_at : List ℕ → ℕ
unfolding panel_start
records_at v = panel_start v 0

unfoldable pub parts_at : List ℕ → ℕ
unfolding panel_start
parts_at v = panel_start v 1

unfoldable pub panel_pool_at : List ℕ → ℕ
unfolding panel_start
panel_pool_at v = panel_start v 2

unfoldable pub panel_pool_end : List ℕ → ℕ
panel_pool_end v = length v - panel_trailer

-- in this order: the sizes of their records (of the pool, of a byte), and where they start; the last ends where the trailer starts
abbrev pub panel_sizes : List ℕ
panel_sizes = record_size ∷ part_size ∷ 1 ∷ []

abbrev pub panel_places : List ℕ → List ℕ
panel_places v = records_at v ∷ parts_at v ∷ panel_pool_at v ∷ panel_pool_end v ∷ []

unfoldable pub records : List ℕ → ℕ
unfolding records_at parts_at
records v = (parts_at v - records_at v) / record_size

unfoldable pub parts : List ℕ → ℕ
unfolding parts_at panel_pool_at
parts v = (panel_pool_at v - parts_at v) / part_size

unfoldable pub panel_pool_size : List ℕ → ℕ
unfolding panel_pool_at panel_pool_end
panel_pool_size v = panel_pool_end v - panel_pool_at v

-- ---- fields: kind byte, zero byte, a, first, count; a child entry
unfoldable pub record_kind : List ℕ → ℕ → ℕ
unfolding records_at
record_kind v r = get_or v (records_at v + record_size * r) 0

unfoldable pub record_zero : List ℕ → ℕ → ℕ
unfolding records_at
record_zero v r = get_or v (records_at v + record_size * r + 1) 0

unfoldable pub record_a : List ℕ → ℕ → ℕ
unfolding records_at word_at
record_a v r = word_at v (records_at v + record_size * r + 2)

unfoldable pub record_first : List ℕ → ℕ → ℕ
unfolding records_at word_at
record_first v r = word_at v (records_at v + record_size * r + 4)

unfoldable pub record_count : List ℕ → ℕ → ℕ
unfolding records_at word_at
record_count v r = word_at v (records_at v + record_size * r + 6)

unfoldable pub part : List ℕ → ℕ → ℕ
unfolding parts_at word_at
part v j = word_at v (parts_at v + part_size * j)

unfoldable pub record_text : List ℕ → ℕ → List ℕ
unfolding panel_pool_at record_first record_count
record_text v r = text_at v (panel_pool_at v + record_first v r) (record_count v r)

-- "0 integer, 1 bytes, 2 list, 3 pair, 4 tuple, 5 constructor (a)"
pub data RecordKind : Type 0 where
  Integer_record Bytes_record List_record Pair_record Tuple_record Constructor_record Unknown_record : RecordKind

unfoldable pub record_kind_of : ℕ → RecordKind
record_kind_of k =
    pick (eqb k integer_record) Integer_record
    (pick (eqb k bytes_record) Bytes_record
    (pick (eqb k list_record) List_record
    (pick (eqb k pair_record) Pair_record
    (pick (eqb k tuple_record) Tuple_record
    (pick (eqb k constructor_record) Constructor_record
    Unknown_record)))))

-- ---- 21: "length (under 8, over 16,384, or trailer differs)"
unfoldable pub panel_length_fits : List ℕ → Bool
unfolding panel_length
panel_length_fits v = both (leb panel_trailer (length v)) (both (leb (length v) panel_most) (eqb (panel_length v) (length v)))

-- ---- 22: "layout, no record or over 512"
unfoldable pub panel_layout_fits : List ℕ → Bool
unfolding records_at parts_at panel_pool_at panel_pool_end records whole_records
panel_layout_fits v =
    both (eqb (records_at v) 0)
    (both (whole_between panel_sizes (panel_places v))
    (both (leb 1 (records v)) (leb (records v) records_most)))

-- ---- 23: shape
unfoldable pub has_parts : RecordKind → Bool
has_parts Integer_record = false
has_parts Bytes_record = false
has_parts List_record = true
has_parts Pair_record = true
has_parts Tuple_record = true
has_parts Constructor_record = true
has_parts Unknown_record = false

-- the fields of a record "like patterns": unused ones 0, "first is 0 where count is 0", a pair of two
unfoldable pub record_fields_fit : List ℕ → ℕ → RecordKind → Bool
unfolding parts panel_pool_size record_a record_first record_count run_in
record_fields_fit v r Integer_record = both (eqb (record_a v r) 0) (run_in (record_first v r) (record_count v r) (panel_pool_size v))
record_fields_fit v r Bytes_record = both (eqb (record_a v r) 0) (run_in (record_first v r) (record_count v r) (panel_pool_size v))
record_fields_fit v r List_record = both (eqb (record_a v r) 0) (run_in (record_first v r) (record_count v r) (parts v))
record_fields_fit v r Pair_record = both (eqb (record_a v r) 0) (both (eqb (record_count v r) 2) (run_in (record_first v r) (record_count v r) (parts v)))
record_fields_fit v r Tuple_record = both (eqb (record_a v r) 0) (run_in (record_first v r) (record_count v r) (parts v))
record_fields_fit v r Constructor_record = run_in (record_first v r) (record_count v r) (parts v)
record_fields_fit v r Unknown_record = false

-- "every other is one entry, of a lower record"
unfoldable pub is_higher : List ℕ → ℕ → ℕ → Bool
unfolding part records
is_higher v r j = both (ltb r (part v j)) (ltb (part v j) (records v))

unfoldable pub parts_higher : List ℕ → ℕ → RecordKind → Bool
unfolding every has_parts is_higher record_first record_count
parts_higher v r k = pick (has_parts k) (every (is_higher v r) (record_first v r) (record_count v r)) true

unfoldable pub record_keeps_rules : List ℕ → ℕ → Bool
unfolding record_kind record_zero record_kind_of record_fields_fit parts_higher
record_keeps_rules v r =
    both (eqb (record_zero v r) 0)
    (both (record_fields_fit v r (record_kind_of (record_kind v r)))
    (parts_higher v r (record_kind_of (record_kind v r))))

unfoldable pub is_part : List ℕ → ℕ → ℕ → Bool
unfolding part
is_part v r j = eqb (part v j) r

unfoldable pub is_one_part : List ℕ → ℕ → Bool
unfolding times parts is_part
is_one_part v r = eqb (times (is_part v r) 0 (parts v)) 1

-- "each entry in one list"
unfoldable pub holds : List ℕ → ℕ → ℕ → Bool
unfolding record_kind record_kind_of has_parts record_first record_count
holds v j r = both (has_parts (record_kind_of (record_kind v r))) (both (leb (record_first v r) j) (ltb j (record_first v r + record_count v r)))

unfoldable pub part_keeps_rules : List ℕ → ℕ → Bool
unfolding times records part holds
part_keeps_rules v j = both (ltb (part v j) (records v)) (eqb (times (holds v j) 0 (records v)) 1)

-- "depth at most 32": record r and what is inside it reach no further than `deep` levels
unfoldable pub record_within : ℕ → List ℕ → ℕ → Bool
unfolding every record_kind record_kind_of has_parts record_first record_count part
record_within zero v r = false
record_within (suc deep) v r =
    elim (has_parts (record_kind_of (record_kind v r))) [
      | true ↦ every (λ j. record_within deep v (part v j)) (record_first v r) (record_count v r)
      | false ↦ true
    ]

unfoldable pub panel_shape_fits : List ℕ → Bool
unfolding every records parts record_keeps_rules is_one_part part_keeps_rules record_within
panel_shape_fits v =
    both (every (record_keeps_rules v) 0 (records v))
    (both (every (is_one_part v) 1 (records v - 1))
    (both (every (part_keeps_rules v) 0 (parts v))
    (record_within panel_depth_most v 0)))

-- ---- 24: "text as in 9"
unfoldable pub record_text_of_kind : List ℕ → ℕ → RecordKind → Bool
unfolding record_count record_text canonical short_text
record_text_of_kind v r Integer_record = both (short_text (record_count v r)) (canonical (record_text v r))
record_text_of_kind v r Bytes_record = short_text (record_count v r)
record_text_of_kind v r List_record = true
record_text_of_kind v r Pair_record = true
record_text_of_kind v r Tuple_record = true
record_text_of_kind v r Constructor_record = true
record_text_of_kind v r Unknown_record = true

unfoldable pub record_text_fits : List ℕ → ℕ → Bool
unfolding record_kind record_kind_of record_text_of_kind
record_text_fits v r = record_text_of_kind v r (record_kind_of (record_kind v r))

unfoldable pub panel_texts_fit : List ℕ → Bool
unfolding every records record_text_fits
panel_texts_fit v = every (record_text_fits v) 0 (records v)

-- ---- the verdict, in 01's order
unfoldable pub panel_verdict : List ℕ → Verdict
unfolding panel_length_fits panel_layout_fits panel_shape_fits panel_texts_fit
panel_verdict v =
    require (panel_length_fits v) panel_length_refusal
    (require (panel_layout_fits v) panel_layout_refusal
    (require (panel_shape_fits v) panel_shape_refusal
    (require (panel_texts_fit v) panel_text_refusal
    accepted)))
