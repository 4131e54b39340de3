use Rattle.std.specs.Prelude.{refl}
use Rattle.app_listing.specs.TextsLaws.{hex_next, hex_none}
use Rattle.app_listing.specs.WritingLaws.{begun, begun_more, begun_all}
use Rattle.app_listing.proofs.texts.put_hex.Goals as goal

pub loop-b-init : goal.loop-b-init
loop-b-init c = begun _ _ _ _ refl

pub loop-b-preserved : goal.loop-b-preserved
loop-b-preserved c = begun_more c.loop-b.invariant c.put_hex_byte-end.ensures _ (hex_next _ _ c.loop-b-test.true)

pub returns : goal.returns
returns c = begun_all c.loop-b.invariant (hex_none _ _ c.loop-b-test.false)
