-- 01, "The sheet file": the pattern that a number stands for, resolved against the type that it is fitted to.
-- Each pattern keeps its number and its type, so that later definitions recurse on the pattern and need no bytes.
use Rattle.std.specs.Prelude.{ℕ, zero, suc, ◌+◌, ◌-◌, Bool, true, false, List, [], ◌∷◌, ◌++◌, eqb, leb}
use Rattle.base_words.specs.Words.{both, pick}
use Rattle.spec_rules.specs.Limits.{patterns_most}
use Rattle.spec_rules.specs.Kinds.{int_type, bytes_type, list_type, pair_type, tuple_type, data_type, decorated_flag, discard_pattern, variable_pattern, assign_pattern, integer_pattern, byte_string_pattern, list_pattern, list_with_tail_pattern, constructor_pattern, pair_pattern, tuple_pattern}
use Rattle.spec_rules.specs.SheetFile.{subject, type_kind, type_flag, type_first, type_count, constructor_first, constructor_count, entry, pattern_kind, pattern_a, pattern_first, pattern_count, child, root, pool_text}

abbrev pub Text : Type 0
Text = List ℕ

-- "Kinds: 0 discard, 1 variable (..), 2 assign (..), 3 integer and 4 byte string (..), 5 list, 6 list with tail (..), 7 constructor (..),
-- 8 pair (..), 9 tuple"
pub data PatternKind : Type 0 where
  Discard Variable Assign Integer ByteString ListOfAll ListWithRest Constructor Pair Tuple Unknown : PatternKind

unfoldable pub pattern_kind_of : ℕ → PatternKind
pattern_kind_of k =
    pick (eqb k discard_pattern) Discard
    (pick (eqb k variable_pattern) Variable
    (pick (eqb k assign_pattern) Assign
    (pick (eqb k integer_pattern) Integer
    (pick (eqb k byte_string_pattern) ByteString
    (pick (eqb k list_pattern) ListOfAll
    (pick (eqb k list_with_tail_pattern) ListWithRest
    (pick (eqb k constructor_pattern) Constructor
    (pick (eqb k pair_pattern) Pair
    (pick (eqb k tuple_pattern) Tuple
    Unknown)))))))))

-- A pattern's own number, and the number of the type that it is fitted to.
pub record Mark : Type 0 where
  pub number : ℕ
  pub type : ℕ

-- What opens in order without a test: a pair, a tuple, or a type of one constructor (its number as the pattern has it, and
-- whether the type is list-decorated).
pub data Opens : Type 0 where
  pairs tuples : Opens
  fields : ℕ → Bool → Opens

-- A pattern with its parts. An integer and a byte string keep where their text starts in the pool, and the text; a list with
-- tail has its tail apart. (A list type of its own, since antt takes no `List Pat` inside `Pat`.)
mutual
  pub data Pat : Type 0 where
    discard : Mark → Pat
    variable : Mark → ℕ → Pat
    assign : Mark → ℕ → Pat → Pat
    integer : Mark → ℕ → Text → Pat
    bytestring : Mark → ℕ → Text → Pat
    listed : Mark → Pats → Pat
    tailed : Mark → Pats → Pat → Pat
    constructor : Mark → ℕ → Pats → Pat
    opened : Mark → Opens → Pats → Pat

  pub data Pats : Type 0 where
    pnil : Pats
    pcons : Pat → Pats → Pats

-- how many
unfoldable pub many : Pats → ℕ
many pnil = 0
many (pcons q qs) = suc (many qs)

-- "5 Data (1 or more constructors)", "one-constructor types", and the flags "1 opaque, 2 list-decorated, 3 both"
unfoldable pub one_constructor : List ℕ → ℕ → Bool
unfolding type_kind type_count
one_constructor s t = both (eqb (type_kind s t) data_type) (eqb (type_count s t) 1)

unfoldable pub decorated : List ℕ → ℕ → Bool
unfolding type_flag
decorated s t = leb decorated_flag (type_flag s t)

-- a constructor's number is its place among its own type's constructors, from 0
unfoldable pub constructor_of : List ℕ → ℕ → ℕ → ℕ
unfolding type_first
constructor_of s t a = type_first s t + a

-- The patterns of n children from entry j on, made by f, each of the type at its own type entry: the first at e, each next
-- one `step` further on (0: all are of one type, as the elements of a list are).
unfoldable pub along : (ℕ → ℕ → Pat) → List ℕ → ℕ → ℕ → ℕ → ℕ → Pats
unfolding child entry
along f s j zero e step = pnil
along f s j (suc n) e step = pcons (f (child s j) (entry s e)) (along f s (j + 1) n (e + step) step)

-- constructor a of type t, opened or tested by whether it is the only one
unfoldable pub of_constructor : Mark → ℕ → Bool → Pats → Bool → Pat
of_constructor m a list qs true = opened m (fields a list) qs
of_constructor m a list qs false = constructor m a qs

-- pattern p of type t by its kind; f makes its children
unfoldable pub of_kind : (ℕ → ℕ → Pat) → List ℕ → ℕ → ℕ → PatternKind → Pat
unfolding type_first constructor_first entry pattern_a pattern_first pattern_count child pool_text one_constructor decorated constructor_of along of_constructor
of_kind f s p t Discard = discard (record { number = p; type = t })
of_kind f s p t Variable = variable (record { number = p; type = t }) (pattern_a s p)
of_kind f s p t Assign = assign (record { number = p; type = t }) (pattern_a s p) (f (child s (pattern_first s p)) t)
of_kind f s p t Integer = integer (record { number = p; type = t }) (pattern_first s p) (pool_text s (pattern_first s p) (pattern_count s p))
of_kind f s p t ByteString = bytestring (record { number = p; type = t }) (pattern_first s p) (pool_text s (pattern_first s p) (pattern_count s p))
of_kind f s p t ListOfAll = listed (record { number = p; type = t }) (along f s (pattern_first s p) (pattern_count s p) (type_first s t) 0)
of_kind f s p t ListWithRest =
    tailed (record { number = p; type = t })
    (along f s (pattern_first s p) (pattern_count s p - 1) (type_first s t) 0)
    (f (child s (pattern_first s p + (pattern_count s p - 1))) t)
of_kind f s p t Constructor =
    of_constructor (record { number = p; type = t }) (pattern_a s p) (decorated s t)
    (along f s (pattern_first s p) (pattern_count s p) (constructor_first s (constructor_of s t (pattern_a s p))) 1)
    (one_constructor s t)
of_kind f s p t Pair = opened (record { number = p; type = t }) pairs (along f s (pattern_first s p) (pattern_count s p) (type_first s t) 1)
of_kind f s p t Tuple = opened (record { number = p; type = t }) tuples (along f s (pattern_first s p) (pattern_count s p) (type_first s t) 1)
of_kind f s p t Unknown = discard (record { number = p; type = t })

-- pattern p of type t, as far as `deep` children go down; "Every child has a larger number than its parent", so that the
-- number of patterns is deep enough
unfoldable pub pattern_to : ℕ → List ℕ → ℕ → ℕ → Pat
unfolding pattern_kind pattern_kind_of of_kind
pattern_to zero s p t = discard (record { number = p; type = t })
pattern_to (suc deep) s p t = of_kind (pattern_to deep s) s p t (pattern_kind_of (pattern_kind s p))

unfoldable pub pattern : List ℕ → ℕ → ℕ → Pat
unfolding pattern_to
pattern s p t = pattern_to patterns_most s p t

-- the pattern of clause c, of the subject's type; those of the n clauses from c on
unfoldable pub clause_pattern : List ℕ → ℕ → Pat
unfolding pattern root subject
clause_pattern s c = pattern s (root s c) (subject s)

unfoldable pub clause_patterns : List ℕ → ℕ → ℕ → List Pat
unfolding clause_pattern
clause_patterns s c zero = []
clause_patterns s c (suc n) = clause_pattern s c ∷ clause_patterns s (c + 1) n

-- Refusal 10: a pattern fits its type, argument counts included. Its parts were resolved against the types of the parts, so
-- each is asked for its own kind and count alone.
unfoldable pub takes_arguments : List ℕ → ℕ → ℕ → ℕ → Bool
unfolding type_kind type_count constructor_count constructor_of
takes_arguments s t a n = both (eqb (type_kind s t) data_type) (both (leb (a + 1) (type_count s t)) (eqb (constructor_count s (constructor_of s t a)) n))

unfoldable pub opens_into : List ℕ → ℕ → Opens → ℕ → Bool
unfolding type_kind type_count takes_arguments
opens_into s t pairs n = both (eqb (type_kind s t) pair_type) (eqb (type_count s t) n)
opens_into s t tuples n = both (eqb (type_kind s t) tuple_type) (eqb (type_count s t) n)
opens_into s t (fields a list) n = takes_arguments s t a n

unfoldable mutual
  unfolding type_kind many takes_arguments opens_into

  pub fits : Pat → List ℕ → Bool
  fits (discard m) s = true
  fits (variable m x) s = true
  fits (assign m x q) s = fits q s
  fits (integer m at w) s = eqb (type_kind s m.type) int_type
  fits (bytestring m at w) s = eqb (type_kind s m.type) bytes_type
  fits (listed m qs) s = both (eqb (type_kind s m.type) list_type) (fit_all qs s)
  fits (tailed m qs q) s = both (eqb (type_kind s m.type) list_type) (both (fit_all qs s) (fits q s))
  fits (constructor m a qs) s = both (takes_arguments s m.type a (many qs)) (fit_all qs s)
  fits (opened m o qs) s = both (opens_into s m.type o (many qs)) (fit_all qs s)

  pub fit_all : Pats → List ℕ → Bool
  fit_all pnil s = true
  fit_all (pcons q qs) s = both (fits q s) (fit_all qs s)

-- the names that a pattern binds, from left to right
unfoldable mutual
  pub names : Pat → List ℕ
  names (discard m) = []
  names (variable m x) = x ∷ []
  names (assign m x q) = x ∷ names q
  names (integer m at w) = []
  names (bytestring m at w) = []
  names (listed m qs) = names_of qs
  names (tailed m qs q) = names_of qs ++ names q
  names (constructor m a qs) = names_of qs
  names (opened m o qs) = names_of qs

  pub names_of : Pats → List ℕ
  names_of pnil = []
  names_of (pcons q qs) = names q ++ names_of qs
