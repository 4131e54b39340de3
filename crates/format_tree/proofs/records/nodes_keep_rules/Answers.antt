-- `format_tree::records::nodes_keep_rules` meets its contract: the first that fails, one more, and the end.
use Rattle.std.proofs.Common.{sym, ◌∙◌}
use Rattle.spec_rules.specs.SearchingLaws.{every_on, every_stop, every_end}
use Rattle.spec_rules.specs.TreeReader.{node_keeps_rules}
use Rattle.format_tree.proofs.records.nodes_keep_rules.Goals as goal

pub returns-then-not-node_keeps_rules : goal.returns-then-not-node_keeps_rules
returns-then-not-node_keeps_rules c =
    sym (every_stop (node_keeps_rules c.args.tree.now) c.loop-k.k c.args.map.nodes.count c.loop-k-test.true (sym c.node_keeps_rules.ensures ∙ c.if-not-node_keeps_rules.true)) ∙ c.loop-k.invariant

pub loop-k-preserved : goal.loop-k-preserved
loop-k-preserved c =
    every_on (node_keeps_rules c.args.tree.now) c.loop-k.k c.args.map.nodes.count c.loop-k-test.true (sym c.node_keeps_rules.ensures ∙ c.if-not-node_keeps_rules.false) ∙ c.loop-k.invariant

pub returns : goal.returns
returns c = sym (every_end (node_keeps_rules c.args.tree.now) c.loop-k.k c.args.map.nodes.count c.loop-k-test.false) ∙ c.loop-k.invariant
