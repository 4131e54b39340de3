-- `format_tree::records::paths_keep_rules` meets its contract: the first that fails, one more, and the end.
use Rattle.std.proofs.Common.{sym, ◌∙◌}
use Rattle.spec_rules.specs.SearchingLaws.{every_on, every_stop, every_end}
use Rattle.spec_rules.specs.TreeReader.{path_keeps_rules}
use Rattle.format_tree.proofs.records.paths_keep_rules.Goals as goal

pub returns-then-not-path_keeps_rules : goal.returns-then-not-path_keeps_rules
returns-then-not-path_keeps_rules c =
    sym (every_stop (path_keeps_rules c.args.tree.now) c.loop-p.p c.args.map.paths.count c.loop-p-test.true (sym c.path_keeps_rules.ensures ∙ c.if-not-path_keeps_rules.true)) ∙ c.loop-p.invariant

pub loop-p-preserved : goal.loop-p-preserved
loop-p-preserved c =
    every_on (path_keeps_rules c.args.tree.now) c.loop-p.p c.args.map.paths.count c.loop-p-test.true (sym c.path_keeps_rules.ensures ∙ c.if-not-path_keeps_rules.false) ∙ c.loop-p.invariant

pub returns : goal.returns
returns c = sym (every_end (path_keeps_rules c.args.tree.now) c.loop-p.p c.args.map.paths.count c.loop-p-test.false) ∙ c.loop-p.invariant
