use Rattle.std.specs.Prelude.{refl}
use Rattle.std.proofs.lemmas.List.{drop_more, drop_all}
use Rattle.app_listing.specs.WritingLaws.{begun, begun_more, begun_all}
use Rattle.app_listing.proofs.texts.put_text.Goals as goal

pub loop-b-init : goal.loop-b-init
loop-b-init c = begun _ _ _ _ refl

pub loop-b-preserved : goal.loop-b-preserved
loop-b-preserved c = begun_more c.loop-b.invariant c.put-end.ensures _ (drop_more _ _ 0 c.loop-b-test.true)

pub returns : goal.returns
returns c = begun_all c.loop-b.invariant (drop_all _ _ c.loop-b-test.false)
