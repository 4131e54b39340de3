use Rattle.app_listing.specs.WritingLaws.{writes_then, begun, begun_more, begun_all}
use Rattle.app_listing.specs.RecordsLaws.{run_start, steps_next, steps_none}
use Rattle.spec_rules.specs.Listing.{more_steps}
use Rattle.spec_rules.specs.TreeReader.{steps_from}
use Rattle.app_listing.proofs.parts.put_more_steps.Goals as goal

pub loop-j-init : goal.loop-j-init
loop-j-init c = begun _ _ _ _ (run_start (λ k m. more_steps (steps_from c.args.tree.now k m)) _ _)

pub loop-j-preserved : goal.loop-j-preserved
loop-j-preserved c = begun_more c.loop-j.invariant (writes_then c.put-dot.ensures c.put_step-end.ensures) _ (steps_next _ _ _ _ c.loop-j-test.true)

pub returns : goal.returns
returns c = begun_all c.loop-j.invariant (steps_none _ _ _ _ c.loop-j-test.false)
