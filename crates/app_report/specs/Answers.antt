-- What a caller of `tell` finds in the buffer that it lent: the whole text with zeros after it, and how many bytes the text has; where it has
-- no room, zeros alone, and no end. `out` is the buffer after the call, `first` before it.
use Rattle.std.specs.Prelude.{List, ℕ, length, Option}
use Rattle.app_listing.specs.Answers.{shown}
use Rattle.app_io.specs.Shown.{Shows}
use Rattle.app_report.specs.Telling.{telling}

abbrev pub Tells : List ℕ → List ℕ → List ℕ → Option ℕ → List ℕ → Type 0
Tells s v first r out = Shows (shown (telling s v) (length first)) r out
