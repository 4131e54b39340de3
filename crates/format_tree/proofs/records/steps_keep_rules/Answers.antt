-- `format_tree::records::steps_keep_rules` meets its contract: the first that fails, one more, and the end.
use Rattle.std.proofs.Common.{sym, ◌∙◌}
use Rattle.spec_rules.specs.SearchingLaws.{every_on, every_stop, every_end}
use Rattle.spec_rules.specs.TreeReader.{step_keeps_rules}
use Rattle.format_tree.proofs.records.steps_keep_rules.Goals as goal

pub returns-then-not-step_keeps_rules : goal.returns-then-not-step_keeps_rules
returns-then-not-step_keeps_rules c =
    sym (every_stop (step_keeps_rules c.args.tree.now) c.loop-i.i c.args.map.steps.count c.loop-i-test.true (sym c.step_keeps_rules.ensures ∙ c.if-not-step_keeps_rules.true)) ∙ c.loop-i.invariant

pub loop-i-preserved : goal.loop-i-preserved
loop-i-preserved c =
    every_on (step_keeps_rules c.args.tree.now) c.loop-i.i c.args.map.steps.count c.loop-i-test.true (sym c.step_keeps_rules.ensures ∙ c.if-not-step_keeps_rules.false) ∙ c.loop-i.invariant

pub returns : goal.returns
returns c = sym (every_end (step_keeps_rules c.args.tree.now) c.loop-i.i c.args.map.steps.count c.loop-i-test.false) ∙ c.loop-i.invariant
