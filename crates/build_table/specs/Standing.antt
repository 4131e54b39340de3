-- Where each pattern of a sheet stands, by its number alone: its clause, its path, its type, and the test that it is inside of.
-- A pattern has one parent or is a root, so all of these are functions of its number; rules 1 to 4 speak of them by structure.
use Rattle.std.specs.Prelude.{ℕ, zero, suc, ◌+◌, ◌-◌, Bool, true, false, not, List, [], ◌∷◌, eqb}
use Rattle.std.proofs.Math.Option.{Option, none, some}
use Rattle.base_words.specs.Words.{both, pick}
use Rattle.spec_rules.specs.Limits.{patterns_most}
use Rattle.spec_rules.specs.Kinds.{pair_step, tuple_step, constr_step, list_step, listtail_step}
use Rattle.spec_rules.specs.Searching.{lowest}
use Rattle.spec_rules.specs.SheetFile.{subject, patterns, children, clauses, type_first, constructor_first, entry, pattern_kind, pattern_a, pattern_first, pattern_count}
use Rattle.spec_rules.specs.Patterns.{PatternKind, Discard, Variable, Assign, Integer, ByteString, ListOfAll, ListWithRest, Constructor, Pair, Tuple, Unknown, pattern_kind_of, Pat, one_constructor, decorated, constructor_of, pattern}
use Rattle.spec_rules.specs.SheetRefusals.{is_root, is_entry, lists}
use Rattle.spec_rules.specs.Rows.{Step, pair, tuple, constr, list, listtail, Path, into}
use Rattle.spec_rules.specs.TreeFile.{path_number}

-- `owner` is one more than the number of the nearest test that it is inside of, or 0.
pub record Standing : Type 0 where
  pub clause : ℕ
  pub path : Path
  pub type : ℕ
  pub owner : ℕ

-- ---- what a pattern p of type t is to its children
-- it stands in a column: "Integer, byte string, list and constructor of a several-constructor type become one column"
unfoldable pub test_of_kind : List ℕ → ℕ → PatternKind → Bool
unfolding one_constructor
test_of_kind s t Discard = false
test_of_kind s t Variable = false
test_of_kind s t Assign = false
test_of_kind s t Integer = true
test_of_kind s t ByteString = true
test_of_kind s t ListOfAll = true
test_of_kind s t ListWithRest = true
test_of_kind s t Constructor = not (one_constructor s t)
test_of_kind s t Pair = false
test_of_kind s t Tuple = false
test_of_kind s t Unknown = false

unfoldable pub kind_of : List ℕ → ℕ → PatternKind
unfolding pattern_kind pattern_kind_of
kind_of s p = pattern_kind_of (pattern_kind s p)

-- is child i the tail of the list with tail p?
unfoldable pub is_tail : List ℕ → ℕ → ℕ → Bool
unfolding pattern_count
is_tail s p i = eqb (i + 1) (pattern_count s p)

-- the step from p to its child i; none where the child has the path of p itself
unfoldable pub step_to : List ℕ → ℕ → ℕ → PatternKind → ℕ → Option Step
unfolding is_tail one_constructor decorated
step_to s p t Discard i = none
step_to s p t Variable i = none
step_to s p t Assign i = none
step_to s p t Integer i = none
step_to s p t ByteString i = none
step_to s p t ListOfAll i = some (list i t)
step_to s p t ListWithRest i = some (pick (is_tail s p i) (listtail i t) (list i t))
step_to s p t Constructor i = some (constr i (both (one_constructor s t) (decorated s t)) t)
step_to s p t Pair i = some (pair i t)
step_to s p t Tuple i = some (tuple i t)
step_to s p t Unknown i = none

-- the type of child i
unfoldable pub type_to : List ℕ → ℕ → ℕ → PatternKind → ℕ → ℕ
unfolding is_tail type_first constructor_first constructor_of entry pattern_a
type_to s p t Discard i = t
type_to s p t Variable i = t
type_to s p t Assign i = t
type_to s p t Integer i = t
type_to s p t ByteString i = t
type_to s p t ListOfAll i = entry s (type_first s t)
type_to s p t ListWithRest i = pick (is_tail s p i) t (entry s (type_first s t))
type_to s p t Constructor i = entry s (constructor_first s (constructor_of s t (pattern_a s p)) + i)
type_to s p t Pair i = entry s (type_first s t + i)
type_to s p t Tuple i = entry s (type_first s t + i)
type_to s p t Unknown i = t

unfoldable pub follows : Path → Option Step → Path
unfolding into
follows p none = p
follows p (some step) = into p step

-- where child i of p stands, if p stands at x
unfoldable pub child_standing : List ℕ → ℕ → Standing → ℕ → Standing
unfolding kind_of step_to type_to test_of_kind follows
child_standing s p x i = record {
  clause = x.clause;
  path = follows x.path (step_to s p x.type (kind_of s p) i);
  type = type_to s p x.type (kind_of s p) i;
  owner = pick (test_of_kind s x.type (kind_of s p)) (p + 1) x.owner;
}

unfoldable pub root_standing : List ℕ → ℕ → Standing
unfolding subject
root_standing s c = record { clause = c; path = []; type = subject s; owner = 0 }

-- ---- where pattern p stands
abbrev pub or_zero : Option ℕ → ℕ
or_zero none = 0
or_zero (some k) = k

abbrev pub or_self : Option ℕ → ℕ → ℕ
or_self none p = p
or_self (some k) p = k

-- the entry that names p, and the pattern whose list has entry j
unfoldable pub entry_of : List ℕ → ℕ → ℕ
unfolding lowest is_entry children
entry_of s p = or_zero (lowest (is_entry s p) 0 (children s))

unfoldable pub holder_of : List ℕ → ℕ → ℕ
unfolding lowest lists patterns
holder_of s j = or_zero (lowest (lists s j) 0 (patterns s))

-- by its clause if it is a root; else by its parent, which has a lower number
unfoldable pub standing_to : ℕ → List ℕ → ℕ → Standing
unfolding lowest is_root clauses root_standing entry_of holder_of child_standing pattern_first
standing_to zero s p = root_standing s 0
standing_to (suc deep) s p =
    elim (lowest (is_root s p) 0 (clauses s)) [
      | some c ↦ root_standing s c
      | none ↦
          child_standing s (holder_of s (entry_of s p)) (standing_to deep s (holder_of s (entry_of s p)))
          (entry_of s p - pattern_first s (holder_of s (entry_of s p)))
    ]

unfoldable pub standing : List ℕ → ℕ → Standing
unfolding standing_to
standing s p = standing_to patterns_most s p

abbrev pub clause_of : List ℕ → ℕ → ℕ
clause_of s p = (standing s p).clause

abbrev pub path_of : List ℕ → ℕ → Path
path_of s p = (standing s p).path

abbrev pub type_of : List ℕ → ℕ → ℕ
type_of s p = (standing s p).type

abbrev pub owner_of : List ℕ → ℕ → ℕ
owner_of s p = (standing s p).owner

-- the pattern of number p, of its own type
abbrev pub pattern_of : List ℕ → ℕ → Pat
pattern_of s p = pattern s p (type_of s p)

unfoldable pub is_test : List ℕ → ℕ → Bool
unfolding standing kind_of test_of_kind
is_test s p = test_of_kind s (type_of s p) (kind_of s p)

-- ---- how pattern p is reached
-- one more than the number of its parent, or 0 for a root
unfoldable pub parent_of : List ℕ → ℕ → ℕ
unfolding lowest is_root clauses entry_of holder_of
parent_of s p = elim (lowest (is_root s p) 0 (clauses s)) [ some c ↦ 0 | none ↦ holder_of s (entry_of s p) + 1 ]

-- the pattern that its path goes on from; pattern 0, which is a root, for a root
unfoldable pub above_of : List ℕ → ℕ → ℕ
unfolding parent_of
above_of s p = parent_of s p - 1

-- its place among its parent's children; 0 for a root
unfoldable pub index_of : List ℕ → ℕ → ℕ
unfolding lowest is_root clauses entry_of holder_of pattern_first
index_of s p = elim (lowest (is_root s p) 0 (clauses s)) [ some c ↦ 0 | none ↦ entry_of s p - pattern_first s (holder_of s (entry_of s p)) ]

-- the last step of its path, or none where it has the path of the pattern above
unfoldable pub step_of : List ℕ → ℕ → Option Step
unfolding lowest is_root clauses above_of standing kind_of index_of step_to
step_of s p =
    elim (lowest (is_root s p) 0 (clauses s)) [
      | some c ↦ none
      | none ↦ step_to s (above_of s p) (type_of s (above_of s p)) (kind_of s (above_of s p)) (index_of s p)
    ]

-- the number of no step
abbrev pub same_number : ℕ
same_number = suc listtail_step

-- a step's number in the tree file, or that of none
unfoldable pub step_number : Option Step → ℕ
step_number none = same_number
step_number (some (pair i t)) = pair_step
step_number (some (tuple i t)) = tuple_step
step_number (some (constr i b t)) = constr_step
step_number (some (list i t)) = list_step
step_number (some (listtail i t)) = listtail_step

-- the type of the part stepped from
unfoldable pub step_type : Step → ℕ
step_type (pair i t) = t
step_type (tuple i t) = t
step_type (constr i b t) = t
step_type (list i t) = t
step_type (listtail i t) = t

-- ---- classes: the lowest pattern with the same path stands for it
unfoldable pub paths_from : List ℕ → ℕ → ℕ → List Path
unfolding standing
paths_from s p zero = []
paths_from s p (suc n) = path_of s p ∷ paths_from s (p + 1) n

unfoldable pub sheet_paths : List ℕ → List Path
unfolding paths_from patterns
sheet_paths s = paths_from s 0 (patterns s)

unfoldable pub class_of : List ℕ → ℕ → ℕ
unfolding path_number sheet_paths standing
class_of s p = path_number (sheet_paths s) (path_of s p)

-- the same step, from patterns of the same class and type
unfoldable pub same_step_as : List ℕ → ℕ → ℕ → Bool
unfolding step_number step_of index_of class_of above_of standing
same_step_as s q p =
    both (eqb (step_number (step_of s q)) (step_number (step_of s p)))
    (both (eqb (index_of s q) (index_of s p))
    (both (eqb (class_of s (above_of s q)) (class_of s (above_of s p)))
    (eqb (type_of s (above_of s q)) (type_of s (above_of s p)))))

-- ---- the test of clause c in the column of a class: one more than its number, or 0
unfoldable pub is_cell : List ℕ → ℕ → ℕ → ℕ → Bool
unfolding standing is_test class_of
is_cell s c class p = both (is_test s p) (both (eqb (clause_of s p) c) (eqb (class_of s p) class))

abbrev pub one_more : Option ℕ → ℕ
one_more none = 0
one_more (some k) = k + 1

unfoldable pub cell_of : List ℕ → ℕ → ℕ → ℕ
unfolding lowest is_cell patterns
cell_of s c class = one_more (lowest (is_cell s c class) 0 (patterns s))
