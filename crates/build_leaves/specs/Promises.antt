-- What the contracts say more than once, in a word: the sheet, and the work buffer before and after.
use Rattle.std.specs.Prelude.{◌≡◌, List, ℕ}
use Rattle.build_leaves.specs.Bindings.{bound, bound_all}

-- the bindings of the patterns qs are put behind the `top` bindings of the work buffer, and r is the number of all
abbrev pub Binds : List ℕ → List ℕ → List ℕ → ℕ → List ℕ → ℕ → Type 0
Binds sheet work work' top qs r = bound work' r ≡ bound_all sheet (bound work top) qs
