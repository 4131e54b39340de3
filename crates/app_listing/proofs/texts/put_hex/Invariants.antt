use Rattle.std.specs.Prelude.{drop}
use Rattle.spec_rules.specs.Listing.{hex}
use Rattle.app_listing.specs.Writing.{Begun}
use Rattle.app_listing.proofs.texts.put_hex.Given as goal

abbrev pub invariant-loop-b : goal.invariant-loop-b
invariant-loop-b l = Begun l.initial.out l.out l.at l.end (hex l.text) (hex (drop l.b-index l.text))
