-- `walk::nodes::default_of` meets its contract: a default is one more than its node.
use Rattle.walk.specs.TurnsLaws.{turns_no_default, turns_default}
use Rattle.walk.proofs.nodes.default_of.Goals as goal

pub returns-then-default-eq0 : goal.returns-then-default-eq0
returns-then-default-eq0 c = λ t v s. turns_no_default t v s c.args.default c.if-default-eq0.true

pub returns : goal.returns
returns c = λ t v s. turns_default t v s c.args.default c.if-default-eq0.false
