use Rattle.std.specs.Prelude.{drop}
use Rattle.app_listing.specs.Writing.{Begun}
use Rattle.app_listing.proofs.texts.put_text.Given as goal

abbrev pub invariant-loop-b : goal.invariant-loop-b
invariant-loop-b l = Begun l.initial.out l.out l.at l.end l.text (drop l.b-index l.text)
