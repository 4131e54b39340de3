-- Lists held in arrays of a fixed length: the numbers in them, and what it is to hold a list.
use Rattle.std.specs.Prelude.{true, false, List, [], ◌∷◌, ◌≡◌, ℕ, suc, ◌≤◌, eqb, length, take}
use Rattle.spec_rules.specs.Limits.{patterns_most, clauses_most}
use Rattle.build_matrix.specs.declared.PerRow.{PerRow}
use Rattle.build_matrix.specs.declared.Classes.{Classes}

abbrev pub classes_in : Classes → List ℕ
classes_in o = take o.count o.list

abbrev pub numbers_in : PerRow → List ℕ
numbers_in r = take r.count r.list

-- the first n of an array
abbrev pub as_classes : List ℕ → ℕ → Classes
as_classes l n = record { list = l; count = n }

abbrev pub as_rows : List ℕ → ℕ → PerRow
as_rows l n = record { list = l; count = n }

pub record Holds (o : Classes) (classes : List ℕ) : Type 0 where
  pub long : length o.list ≡ patterns_most
  pub most : o.count ≤ patterns_most
  pub are : classes_in o ≡ classes

pub record HoldsRows (r : PerRow) (numbers : List ℕ) : Type 0 where
  pub long : length r.list ≡ clauses_most
  pub most : r.count ≤ clauses_most
  pub are : numbers_in r ≡ numbers

-- it holds what is in it
abbrev pub Whole : Classes → Type 0
Whole o = Holds o (classes_in o)

abbrev pub WholeRows : PerRow → Type 0
WholeRows r = HoldsRows r (numbers_in r)

-- the first place of k in the list, or its length
unfoldable pub first_place : ℕ → List ℕ → ℕ
first_place k [] = 0
first_place k (x ∷ xs) = elim (eqb x k) [ true ↦ 0 | false ↦ suc (first_place k xs) ]
