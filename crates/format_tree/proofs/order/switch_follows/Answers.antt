-- `format_tree::order::switch_follows` meets its contract: the default comes after the last case.
use Rattle.std.proofs.Common.{◌+◌, arith}
use Rattle.std.proofs.lemmas.Grind.{common_steps}
use Rattle.format_tree.specs.OrderLaws.{chain_default}
use Rattle.format_tree.proofs.order.switch_follows.Goals as goal

pub returns-then-default-eq0 : goal.returns-then-default-eq0
returns-then-default-eq0 c = let a = c.args in rw (chain_default a.tree.now (a.k + 1) a.i a.n a.default c.requires.2) (grind (arith, common_steps))

pub returns-else-default-eq0 : goal.returns-else-default-eq0
returns-else-default-eq0 c = let a = c.args in rw (chain_default a.tree.now (a.k + 1) a.i a.n a.default c.requires.2) (grind (arith, common_steps))

pub returns-else-cases_follow : goal.returns-else-cases_follow
returns-else-cases_follow c = let a = c.args in rw (chain_default a.tree.now (a.k + 1) a.i a.n a.default c.requires.2) (grind (arith, common_steps))
