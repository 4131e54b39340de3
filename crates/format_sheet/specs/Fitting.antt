-- What is left to ask of a pattern, once its own kind and count were held against its type (refusal 10), and what makes asking safe.
use Rattle.std.specs.Prelude.{ℕ, ◌+◌, ◌-◌, ◌≤◌, ◌<◌, ◌≡◌, ◌⊎◌, Bool, true, false, List, eqb, leb}
use Rattle.base_words.specs.Words.{both}
use Rattle.spec_rules.specs.Kinds.{int_type, bytes_type, list_type, pair_type, tuple_type, data_type}
use Rattle.spec_rules.specs.SheetFile.{patterns, entries, type_kind, type_first, type_count, constructor_first, constructor_count, pattern_a, pattern_first, pattern_count, child}
use Rattle.spec_rules.specs.Patterns.{PatternKind, Discard, Variable, Assign, Integer, ByteString, ListOfAll, ListWithRest, Constructor, Pair, Tuple, Unknown, pattern, along, constructor_of, takes_arguments, fits, fit_all}
use Rattle.spec_accepted.specs.SheetFacts.{Laid, Counted, Typed, Shaped, Parent}
use Rattle.format_sheet.specs.declared.SheetMap.{SheetMap}
use Rattle.format_sheet.specs.declared.records.PatternRecord.{PatternRecord}
use Rattle.format_sheet.specs.declared.records.TypeRecord.{TypeRecord}
use Rattle.format_sheet.specs.declared.fitting.Question.{Question}
use Rattle.format_sheet.specs.declared.fitting.Question.TheVariants.{Settled, Inside, Each}
use Rattle.format_sheet.specs.Sections.{map_of}

-- a sheet that passed refusals 2 to 8, and its map
pub record ReadySheet (s : List ℕ) (m : SheetMap) : Type 0 where
  pub is_map : m ≡ map_of s
  pub is_laid : Laid s
  pub is_counted : Counted s
  pub is_typed : Typed s
  pub is_shaped : Shaped s

-- n children of `parent` from entry j on, with a type entry for each: the same at e for all, or one after the other from e on
pub record Room (s : List ℕ) (parent j n e step : ℕ) : Type 0 where
  pub known : parent < patterns s
  pub has : Parent s parent
  pub from : pattern_first s parent ≤ j
  pub to : j + n ≤ pattern_first s parent + pattern_count s parent
  pub enough : ((step ≡ 0) × (e < entries s)) ⊎ ((step ≡ 1) × (e + n ≤ entries s))

-- the children, if the pattern's own kind and count fit
abbrev pub asks_for : Bool → ℕ → ℕ → ℕ → ℕ → Question
asks_for true first count entry step = Each first count entry step
asks_for false first count entry step = Settled false

-- a constructor pattern held against a type
unfoldable pub arguments_fit : List ℕ → PatternRecord → TypeRecord → Question
arguments_fit s r ty =
    asks_for (both (eqb ty.kind data_type) (both (leb (r.a + 1) ty.count) (eqb (constructor_count s (ty.first + r.a)) r.count)))
    r.first r.count (constructor_first s (ty.first + r.a)) 1

-- pattern p, of a kind, held against type t
unfoldable pub asked : List ℕ → ℕ → ℕ → PatternKind → Question
asked s p t Discard = Settled true
asked s p t Variable = Settled true
asked s p t Assign = Inside (child s (pattern_first s p))
asked s p t Integer = Settled (eqb (type_kind s t) int_type)
asked s p t ByteString = Settled (eqb (type_kind s t) bytes_type)
asked s p t ListOfAll = asks_for (eqb (type_kind s t) list_type) (pattern_first s p) (pattern_count s p) (type_first s t) 0
asked s p t ListWithRest = asks_for (eqb (type_kind s t) list_type) (pattern_first s p) (pattern_count s p - 1) (type_first s t) 0
asked s p t Constructor =
    asks_for (takes_arguments s t (pattern_a s p) (pattern_count s p)) (pattern_first s p) (pattern_count s p) (constructor_first s (constructor_of s t (pattern_a s p))) 1
asked s p t Pair = asks_for (both (eqb (type_kind s t) pair_type) (eqb (type_count s t) (pattern_count s p))) (pattern_first s p) (pattern_count s p) (type_first s t) 1
asked s p t Tuple = asks_for (both (eqb (type_kind s t) tuple_type) (eqb (type_count s t) (pattern_count s p))) (pattern_first s p) (pattern_count s p) (type_first s t) 1
asked s p t Unknown = Settled true

-- the answer of what is left to ask
unfoldable pub answered : List ℕ → ℕ → Question → Bool
answered s t (Settled fit) = fit
answered s t (Inside q) = fits (pattern s q t) s
answered s t (Each j n e step) = fit_all (along (pattern s) s j n e step) s
