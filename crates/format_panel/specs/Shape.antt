-- The pass that checks the shape of a panel (refusal 23), as the code makes it: the records in order, the parts of each in order,
-- with the depth of each record that was met. It answers what `panel_shape_fits` says: that is proved in ShapeAnswer.
use Rattle.std.specs.Prelude.{ℕ, zero, suc, ◌+◌, Bool, true, false, List, get_or, set, eqb, ltb}
use Rattle.base_words.specs.Words.{both, pick, zeros}
use Rattle.spec_rules.specs.Limits.{records_most, panel_depth_most}
use Rattle.spec_rules.specs.PanelFile.{records, parts, record_kind, record_zero, record_first, record_count, part, record_kind_of, has_parts, record_fields_fit, is_higher}

-- the zero byte and the fields of record r by its kind
unfoldable pub fields_fit : List ℕ → ℕ → Bool
unfolding record_zero record_kind record_kind_of record_fields_fit
fields_fit v r = both (eqb (record_zero v r) 0) (record_fields_fit v r (record_kind_of (record_kind v r)))

-- what the pass has met: the depth of each record, 0 for one that was not met yet, and whether no rule is broken
pub record Seen : Type 0 where
  pub depths : List ℕ
  pub sound : Bool

abbrev pub seen : List ℕ → Bool → Seen
seen depths sound = record { depths = depths; sound = sound }

-- no rule is broken
abbrev pub met : List ℕ → Seen
met depths = seen depths true

-- a rule is broken
abbrev pub broken : Seen → Seen
broken s = seen s.depths false

-- an entry of record r: its record is higher than r and of the panel, is met for the first time, and is not too deep
unfoldable pub enters_first : List ℕ → List ℕ → ℕ → ℕ → Bool
unfolding is_higher part
enters_first v depths r j =
    both (is_higher v r j)
    (both (eqb (get_or depths (part v j) 0) 0)
    (ltb (get_or depths r 0) panel_depth_most))

unfoldable pub enter_part : List ℕ → Seen → ℕ → ℕ → Seen
unfolding part enters_first
enter_part v s r j =
    pick (enters_first v s.depths r j)
    (seen (set s.depths (part v j) (get_or s.depths r 0 + 1)) s.sound)
    (broken s)

-- the n entries of record r from entry j on, as long as none breaks a rule
unfoldable pub enter_parts : List ℕ → Seen → ℕ → ℕ → ℕ → Seen
unfolding enter_part
enter_parts v s r j zero = s
enter_parts v s r j (suc n) =
    elim (enter_part v s r j).sound [
      | true ↦ enter_parts v (enter_part v s r j) r (j + 1) n
      | false ↦ enter_part v s r j
    ]

-- record r was met, its fields fit, and then its entries
unfoldable pub record_met : List ℕ → List ℕ → ℕ → Bool
unfolding fields_fit
record_met v depths r = both (ltb 0 (get_or depths r 0)) (fields_fit v r)

unfoldable pub enter_record : List ℕ → Seen → ℕ → Seen
unfolding record_met enter_parts record_kind record_kind_of has_parts record_first record_count
enter_record v s r =
    pick (record_met v s.depths r)
    (pick (has_parts (record_kind_of (record_kind v r))) (enter_parts v s r (record_first v r) (record_count v r)) s)
    (broken s)

-- the n records from record r on, as long as none breaks a rule
unfoldable pub enter_records : List ℕ → Seen → ℕ → ℕ → Seen
unfolding enter_record
enter_records v s r zero = s
enter_records v s r (suc n) =
    elim (enter_record v s r).sound [
      | true ↦ enter_records v (enter_record v s r) (r + 1) n
      | false ↦ enter_record v s r
    ]

-- at first the root alone is met, at depth 1
unfoldable pub at_root : Seen
at_root = met (set (zeros records_most) 0 1)

-- every record but the root is one part: so there is one part fewer than there are records
unfoldable pub shape_passes : List ℕ → Bool
unfolding records parts enter_records at_root
shape_passes v = both (eqb (parts v + 1) (records v)) (enter_records v at_root 0 (records v)).sound
