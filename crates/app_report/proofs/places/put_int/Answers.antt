-- `app_report::places::put_int` meets its contract: the word, and the part of the panel that the text call gives.
use mathlib.Core.Path.{ap}
use mathlib.Core.List.{List, ◌++◌}
use Prim.Native.Nat.{ℕ}
use Rattle.app_listing.specs.WritingLaws.{writes_then, writes_as}
use Rattle.app_report.specs.Telling.{int_word}
use Rattle.app_report.proofs.places.put_int.Goals as goal

pub returns : goal.returns
returns c =
    writes_as (writes_then c.put_text-end.ensures c.put_text.ensures)
    (ap (λ (l : List ℕ). int_word ++ l) c.text_part.ensures)
