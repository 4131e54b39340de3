-- The bindings of a leaf as the code writes them: whether every path leads somewhere, or at which step the first one sticks that does
-- not; and the words of the buffer after it.
-- Rests on the rules' bindings of a leaf and on stores.
use Rattle.std.specs.Prelude.{◌≡◌, Result, Ok, Err, List, ℕ, length}
use Rattle.std.proofs.Math.Option.{Option, none, some}
use Rattle.base_words.specs.Words.{zeros}
use Rattle.base_words.specs.Stored.{stored}
use Rattle.spec_rules.specs.Rows.{Binding}
use Rattle.spec_rules.specs.Walking.{Bound, bound}
use Rattle.spec_rules.specs.WalkPlaces.{first_stuck}
use Rattle.spec_rules.specs.Calls.{bound_words}
use Rattle.walk.specs.declared.follow.StuckAt.{StuckAt}
use Rattle.walk.specs.Positions.{stuck_at}

abbrev pub given_of : Option (List Bound) → ℕ → Result (Unit {0}) StuckAt
given_of none step = Err (stuck_at step)
given_of (some xs) step = Ok tt

abbrev pub given_by : List ℕ → List Binding → Result (Unit {0}) StuckAt
given_by v bs = given_of (bound v bs) (first_stuck v bs)

-- the words of l after the bindings are written from `at` on; all zero where one of them leads nowhere
abbrev pub words_after : List ℕ → ℕ → Option (List Bound) → List ℕ
words_after l at none = zeros (length l)
words_after l at (some xs) = stored l at (bound_words xs)

pub record Binds (v : List ℕ) (bs : List Binding) (l l' : List ℕ) (r : Result (Unit {0}) StuckAt) : Type 0 where
  pub answer : r ≡ given_by v bs
  pub words : l' ≡ words_after l 0 (bound v bs)
