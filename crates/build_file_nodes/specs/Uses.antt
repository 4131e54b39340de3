-- Path numbers by first use, as the code keeps them: by class one more than the path's number, and the classes in order.
-- The table of the paths so far is the list of those classes' paths.
use Rattle.std.specs.Prelude.{◌≡◌, true, List, [], ◌∷◌, ◌++◌, ℕ, ◌+◌, ◌-◌, length, get_or, set, take, eqb, ltb}
use Rattle.base_words.specs.Words.{pick}
use Rattle.spec_rules.specs.Limits.{patterns_most}
use Rattle.spec_rules.specs.Rows.{Path, bit}
use Rattle.spec_rules.specs.TreeFile.{is_among, path_number}

-- the code's two buffers and its count: by class one more than the number of its path, or 0 where it has none; the classes in the order
-- of their numbers; and how many have one
pub record Uses : Type 0 where
  pub number : List ℕ
  pub list : List ℕ
  pub count : ℕ

abbrev pub uses_of : List ℕ → List ℕ → ℕ → Uses
uses_of number list count = record { number = number; list = list; count = count }

-- how many elements are not 0
unfoldable pub numbered : List ℕ → ℕ
unfolding bit
numbered [] = 0
numbered (x ∷ xs) = bit (ltb 0 x) + numbered xs

-- as many classes have a number as are in the list
pub record Counted (u : Uses) : Type 0 where
  pub number_long : length u.number ≡ patterns_most
  pub list_long : length u.list ≡ patterns_most
  pub count_is : numbered u.number ≡ u.count

unfoldable pub with_class : Uses → ℕ → Uses
with_class u class =
    pick (eqb (get_or u.number class 0) 0)
    (record { number = set u.number class (u.count + 1); list = set u.list u.count class; count = u.count + 1 })
    u

-- the number of a class's path
abbrev pub number_in : Uses → ℕ → ℕ
number_in u class = get_or u.number class 0 - 1

-- the classes in the order of their numbers
abbrev pub classes_in : Uses → List ℕ
classes_in u = take u.count u.list

unfoldable pub with_classes : Uses → List ℕ → Uses
unfolding with_class
with_classes u [] = u
with_classes u (c ∷ cs) = with_classes (with_class u c) cs

-- ---- what the classes stand for
-- the paths' classes: their numbers in the table `all`
unfoldable pub class_numbers : List Path → List Path → List ℕ
unfolding path_number
class_numbers all [] = []
class_numbers all (p ∷ ps) = path_number all p ∷ class_numbers all ps

-- one more than a path's number in a table, or 0 where it is not there
unfoldable pub place_in : List Path → Path → ℕ
unfolding is_among path_number
place_in table p = pick (is_among p table) (path_number table p + 1) 0

-- a table with p in it
unfoldable pub with_path : List Path → Path → List Path
unfolding is_among
with_path table p = pick (is_among p table) table (table ++ p ∷ [])

-- u stands for the table so far, over the paths of `all`
pub record Stand (all : List Path) (u : Uses) (table : List Path) : Type 0 where
  pub counted : Counted u
  pub classes : classes_in u ≡ class_numbers all table
  pub places : (p : Path) → is_among p all ≡ true → get_or u.number (path_number all p) 0 ≡ place_in table p
