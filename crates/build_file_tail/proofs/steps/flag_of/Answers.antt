-- `build_file_tail::steps::flag_of` meets its contract: all its tests in one.
use Rattle.std.proofs.Common.{rules}
use Rattle.spec_rules.specs.Rows.{bit}
use Rattle.build_file_tail.proofs.steps.flag_of.Goals as goal

pub returns : goal.returns
unfolding bit
returns c = search rules
