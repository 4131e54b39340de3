-- What a sheet means on a panel: the first clause whose pattern matches, with the position that the pattern gives each name.
-- By patterns and panel alone: there is no path, column, matrix or tree in it.
use Rattle.std.specs.Prelude.{ℕ, ◌+◌, ◌-◌, Bool, true, false, List, [], ◌∷◌, ◌++◌, eqb, leb}
use Rattle.base_words.specs.Words.{both, same_text}
use Rattle.spec_rules.specs.Kinds.{integer_record, bytes_record, list_record, pair_record, tuple_record, constructor_record}
use Rattle.spec_rules.specs.Patterns.{Opens, pairs, tuples, fields, Pat, Pats, discard, variable, assign, integer, bytestring, listed, tailed, constructor, opened, pnil, pcons, many}
use Rattle.spec_rules.specs.PanelFile.{record_kind, record_a, record_first, record_count, part, record_text}
use Rattle.spec_rules.specs.Positions.{Position, Bound, panel_root, Walked, reached, no_leaf}

-- the part with child entry j of a panel
abbrev pub part_at : List ℕ → ℕ → Position
part_at v j = record { place = part v j; dropped = 0 }

-- the first element of the list at a position: its child entry; how many elements it has
unfoldable pub elements_at : List ℕ → Position → ℕ
unfolding record_first
elements_at v x = record_first v x.place + x.dropped

unfoldable pub elements : List ℕ → Position → ℕ
unfolding record_count
elements v x = record_count v x.place - x.dropped

unfoldable pub after : ℕ → Position → Position
after n x = record { place = x.place; dropped = x.dropped + n }

unfoldable pub open_kind : Opens → ℕ
open_kind pairs = pair_record
open_kind tuples = tuple_record
open_kind (fields a decorated) = constructor_record

-- a constructor's number is asked also where its type has no other
unfoldable pub has_number : Opens → ℕ → Bool
has_number pairs n = true
has_number tuples n = true
has_number (fields a decorated) n = eqb n a

-- the pattern matches what stands at the position
unfoldable mutual
  unfolding same_text many open_kind has_number elements_at elements after record_kind record_a record_first record_count record_text part

  pub matches : Pat → List ℕ → Position → Bool
  matches (discard m) v x = true
  matches (variable m name) v x = true
  matches (assign m name q) v x = matches q v x
  matches (integer m at w) v x = both (eqb (record_kind v x.place) integer_record) (same_text (record_text v x.place) w)
  matches (bytestring m at w) v x = both (eqb (record_kind v x.place) bytes_record) (same_text (record_text v x.place) w)
  matches (listed m qs) v x = both (eqb (record_kind v x.place) list_record) (both (eqb (elements v x) (many qs)) (match_each qs v (elements_at v x)))
  matches (tailed m qs q) v x =
      both (eqb (record_kind v x.place) list_record)
      (both (leb (many qs) (elements v x))
      (both (match_each qs v (elements_at v x))
      (matches q v (after (many qs) x))))
  matches (constructor m a qs) v x =
      both (eqb (record_kind v x.place) constructor_record)
      (both (eqb (record_a v x.place) a)
      (both (eqb (record_count v x.place) (many qs))
      (match_each qs v (record_first v x.place))))
  matches (opened m o qs) v x =
      both (eqb (record_kind v x.place) (open_kind o))
      (both (has_number o (record_a v x.place))
      (both (eqb (record_count v x.place) (many qs))
      (match_each qs v (record_first v x.place))))

  -- each pattern matches its part: the first at child entry j, each next at the next
  pub match_each : Pats → List ℕ → ℕ → Bool
  match_each pnil v j = true
  match_each (pcons q qs) v j = both (matches q v (part_at v j)) (match_each qs v (j + 1))

-- the position that a matching pattern gives each of its names
unfoldable mutual
  unfolding many elements_at after record_first part

  pub gives : Pat → List ℕ → Position → List Bound
  gives (discard m) v x = []
  gives (variable m name) v x = record { name = name; position = x } ∷ []
  gives (assign m name q) v x = record { name = name; position = x } ∷ gives q v x
  gives (integer m at w) v x = []
  gives (bytestring m at w) v x = []
  gives (listed m qs) v x = gives_each qs v (elements_at v x)
  gives (tailed m qs q) v x = gives_each qs v (elements_at v x) ++ gives q v (after (many qs) x)
  gives (constructor m a qs) v x = gives_each qs v (record_first v x.place)
  gives (opened m o qs) v x = gives_each qs v (record_first v x.place)

  pub gives_each : Pats → List ℕ → ℕ → List Bound
  gives_each pnil v j = []
  gives_each (pcons q qs) v j = gives q v (part_at v j) ++ gives_each qs v (j + 1)

-- Of clauses c, c + 1, .. the first whose pattern matches, each name bound to the part that the pattern gives it; without a leaf if
-- none matches. A meaning is never stuck.
unfoldable pub first_match : ℕ → List Pat → List ℕ → Walked
unfolding matches gives
first_match c [] v = no_leaf
first_match c (q ∷ qs) v = elim (matches q v panel_root) [ true ↦ reached c (gives q v panel_root) | false ↦ first_match (c + 1) qs v ]
