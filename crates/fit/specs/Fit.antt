-- Fitting a record to a type (refusal 25) one level at a time, as the code goes: what is left to fit once kind and count agree; and
-- what the code asks of a checked sheet and a checked panel.
use Rattle.std.specs.Prelude.{◌≡◌, ◌⊎◌, Bool, false, List, ℕ, ◌+◌, ◌≤◌, ◌<◌, eqb, leb}
use Rattle.base_words.specs.Words.{both, pick}
use Rattle.spec_rules.specs.Kinds.{int_type, bytes_type, list_type, pair_type, tuple_type, data_type}
use Rattle.spec_rules.specs.SheetFile.{constructors, entries, constructor_first, constructor_count}
use Rattle.spec_rules.specs.PanelFile.{records, record_kind, RecordKind, Integer_record, Bytes_record, List_record, Pair_record, Tuple_record, Constructor_record, Unknown_record, record_kind_of}
use Rattle.spec_rules.specs.Fitting.{parts_fit}
use Rattle.spec_accepted.specs.SheetFacts.{Laid, Typed}
use Rattle.spec_accepted.specs.PanelFacts.{Holds, PanelShaped}
use Rattle.format_sheet.specs.declared.SheetMap.{SheetMap}
use Rattle.format_sheet.specs.declared.records.TypeRecord.{TypeRecord}
use Rattle.format_sheet.specs.Sections.{map_of as sheet_map_of}
use Rattle.format_sheet.specs.Records.{type_of}
use Rattle.format_panel.specs.declared.PanelMap.{PanelMap}
use Rattle.format_panel.specs.declared.records.Record.{Record}
use Rattle.fit.specs.declared.fitting.Below.{Below}
use Rattle.fit.specs.declared.fitting.Below.TheVariants.{Alone, Parts}
use Rattle.format_panel.specs.Opened.{Opened, record_of}

-- the elements of a list are all of the type at its one entry
abbrev pub list_below : Record → TypeRecord → Below
list_below x y = pick (eqb y.kind list_type) (Parts x.first x.count y.first 0) (Alone false)

-- a pair and a tuple have as many parts as their type has entries
abbrev pub parts_below : Record → TypeRecord → ℕ → Below
parts_below x y kind = pick (both (eqb y.kind kind) (eqb y.count x.count)) (Parts x.first x.count y.first 1) (Alone false)

-- a constructor is one of its type's, and has as many parts as that has fields
abbrev pub fields_below : List ℕ → Record → TypeRecord → Below
fields_below s x y =
    pick (both (eqb y.kind data_type) (both (leb (x.a + 1) y.count) (eqb (constructor_count s (y.first + x.a)) x.count)))
    (Parts x.first x.count (constructor_first s (y.first + x.a)) 1)
    (Alone false)

unfoldable pub below_of_kind : List ℕ → Record → TypeRecord → RecordKind → Below
below_of_kind s x y Integer_record = Alone (eqb y.kind int_type)
below_of_kind s x y Bytes_record = Alone (eqb y.kind bytes_type)
below_of_kind s x y List_record = list_below x y
below_of_kind s x y Pair_record = parts_below x y pair_type
below_of_kind s x y Tuple_record = parts_below x y tuple_type
below_of_kind s x y Constructor_record = fields_below s x y
below_of_kind s x y Unknown_record = Alone false

unfoldable pub below : List ℕ → List ℕ → ℕ → ℕ → Below
unfolding below_of_kind record_kind record_kind_of
below s v r t = below_of_kind s (record_of v r) (type_of s t) (record_kind_of (record_kind v r))

-- what is left fits, where f says whether a record is of a type
unfoldable pub fits_below : (ℕ → ℕ → Bool) → List ℕ → List ℕ → Below → Bool
unfolding parts_fit
fits_below f s v (Alone fits) = fits
fits_below f s v (Parts first count entry step) = parts_fit f s v first count entry step

-- a sheet whose types fit and a panel whose shape does, each with its map
pub record ReadyToFit (s : List ℕ) (sm : SheetMap) (v : List ℕ) (vm : PanelMap) : Type 0 where
  pub sheet_laid : Laid s
  pub sheet_map : sm ≡ sheet_map_of s
  pub is_typed : Typed s
  pub is_open : Opened v vm
  pub is_shaped : PanelShaped v

-- a type of such a sheet
pub record Typing (s : List ℕ) (sm : SheetMap) (y : TypeRecord) : Type 0 where
  pub sheet_laid : Laid s
  pub sheet_map : sm ≡ sheet_map_of s
  pub own : y.kind ≡ data_type → y.first + y.count ≤ constructors s

-- n parts have each its type entry, from e on: all the same one, or one each
abbrev pub EachTyped : List ℕ → ℕ → ℕ → ℕ → Type 0
EachTyped s e n step = ((step ≡ 0) × (e < entries s)) ⊎ ((step ≡ 1) × (e + n ≤ entries s))

-- the n parts from j on are in the owner's list, and each has its type entry
pub record Run (s v : List ℕ) (owner j n e step : ℕ) : Type 0 where
  pub known : owner < records v
  pub listed : (k : ℕ) → j ≤ k → k < j + n → Holds v owner k
  pub typed : EachTyped s e n step
