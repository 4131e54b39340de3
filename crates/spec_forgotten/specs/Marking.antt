-- 15 Hollow type, by marking: in rounds, each type that the marked ones fill is marked, until a round would add none; "the lowest type with
-- no finite value" is the lowest that is left unmarked.
use Rattle.std.specs.Prelude.{ℕ, zero, suc, ◌+◌, Bool, true, false, not, List, [], ◌∷◌, leb, get_or}
use Rattle.std.proofs.Math.Option.{Option, none, some}
use Rattle.base_words.specs.Words.{both, either, pick}
use Rattle.spec_rules.specs.Searching.{every, lowest}
use Rattle.spec_rules.specs.SheetFile.{types, type_kind, type_first, type_count, constructor_first, constructor_count, entry}

-- ---- the rule: a type is filled if the marked ones are
unfoldable pub all_marked : (ℕ → Bool) → List ℕ → ℕ → ℕ → Bool
unfolding every entry
all_marked marked s e n = every (λ j. marked (entry s j)) e n

unfoldable pub full_constructor : (ℕ → Bool) → List ℕ → ℕ → Bool
unfolding all_marked constructor_first constructor_count
full_constructor marked s c = all_marked marked s (constructor_first s c) (constructor_count s c)

abbrev pub found : Option ℕ → Bool
found none = false
found (some k) = true

-- an integer, a byte string or a list is always filled; a pair or tuple if its parts are; a Data if all fields of one constructor are
unfoldable pub fills : (ℕ → Bool) → List ℕ → ℕ → Bool
unfolding type_kind type_first type_count all_marked full_constructor lowest
fills marked s t =
    pick (leb (type_kind s t) 2) true
    (pick (leb (type_kind s t) 4) (all_marked marked s (type_first s t) (type_count s t))
    (found (lowest (full_constructor marked s) (type_first s t) (type_count s t))))

-- ---- rounds
-- a mark for each type
abbrev pub is_marked : List Bool → ℕ → Bool
is_marked ms t = get_or ms t false

-- f of n types from t on
unfoldable pub marks_by : (ℕ → Bool) → ℕ → ℕ → List Bool
marks_by f t zero = []
marks_by f t (suc n) = f t ∷ marks_by f (t + 1) n

-- the marks after a round
unfoldable pub round : List ℕ → List Bool → List Bool
unfolding marks_by fills types
round s ms = marks_by (λ t. either (is_marked ms t) (fills (is_marked ms) s t)) 0 (types s)

-- the lowest type that a round would add
unfoldable pub added : List ℕ → List Bool → Option ℕ
unfolding lowest fills types
added s ms = lowest (λ t. both (not (is_marked ms t)) (fills (is_marked ms) s t)) 0 (types s)

unfoldable pub rounds_to : ℕ → List ℕ → List Bool → List Bool
unfolding added round
rounds_to zero s ms = ms
rounds_to (suc n) s ms = elim (added s ms) [ none ↦ ms | some t ↦ rounds_to n s (round s ms) ]

-- each round adds one at least, so that the number of types is enough
unfoldable pub filled_types : List ℕ → List Bool
unfolding rounds_to types
filled_types s = rounds_to (types s) s []

unfoldable pub hollow_type : List ℕ → Option ℕ
unfolding lowest filled_types types
hollow_type s = lowest (λ t. not (is_marked (filled_types s) t)) 0 (types s)
