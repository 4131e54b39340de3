-- `format_tree::records::bindings_keep_rules` meets its contract: the first that fails, one more, and the end.
use Rattle.std.proofs.Common.{sym, ◌∙◌}
use Rattle.spec_rules.specs.SearchingLaws.{every_on, every_stop, every_end}
use Rattle.spec_rules.specs.TreeReader.{binding_keeps_rules}
use Rattle.format_tree.proofs.records.bindings_keep_rules.Goals as goal

pub returns-then-not-binding_keeps_rules : goal.returns-then-not-binding_keeps_rules
returns-then-not-binding_keeps_rules c =
    sym (every_stop (binding_keeps_rules c.args.tree.now) c.loop-b.b c.args.map.bindings.count c.loop-b-test.true (sym c.binding_keeps_rules.ensures ∙ c.if-not-binding_keeps_rules.true)) ∙ c.loop-b.invariant

pub loop-b-preserved : goal.loop-b-preserved
loop-b-preserved c =
    every_on (binding_keeps_rules c.args.tree.now) c.loop-b.b c.args.map.bindings.count c.loop-b-test.true (sym c.binding_keeps_rules.ensures ∙ c.if-not-binding_keeps_rules.false) ∙ c.loop-b.invariant

pub returns : goal.returns
returns c = sym (every_end (binding_keeps_rules c.args.tree.now) c.loop-b.b c.args.map.bindings.count c.loop-b-test.false) ∙ c.loop-b.invariant
