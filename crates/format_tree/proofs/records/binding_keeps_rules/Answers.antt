-- `format_tree::records::binding_keeps_rules` meets its contract: its tests are those of the definition, of the words as they were read.
use Rattle.std.proofs.Common.{arith}
use Rattle.std.proofs.lemmas.Grind.{common_steps}
use Rattle.spec_rules.specs.TreeReader.{binding_keeps_rules}
use Rattle.format_tree.specs.ReadingLaws.{paths_count}
use Rattle.format_tree.proofs.records.binding_keeps_rules.Goals as goal

pub returns : goal.returns
unfolding binding_keeps_rules
returns c = grind (arith, common_steps, paths_count c.requires.0)
