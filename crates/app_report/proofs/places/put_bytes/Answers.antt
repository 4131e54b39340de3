-- `app_report::places::put_bytes` meets its contract: the word, and in hex the part of the panel that the text call gives.
use mathlib.Core.Path.{ap}
use mathlib.Core.List.{List, ◌++◌}
use Prim.Native.Nat.{ℕ}
use Rattle.spec_rules.specs.Listing.{hex}
use Rattle.app_listing.specs.WritingLaws.{writes_then, writes_as}
use Rattle.app_report.specs.Telling.{bytes_word}
use Rattle.app_report.proofs.places.put_bytes.Goals as goal

pub returns : goal.returns
returns c =
    writes_as (writes_then c.put_text-end.ensures c.put_hex.ensures)
    (ap (λ (l : List ℕ). bytes_word ++ hex l) c.text_part.ensures)
