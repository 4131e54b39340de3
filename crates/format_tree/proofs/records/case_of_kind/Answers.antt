-- `format_tree::records::case_of_kind` meets its contract: each kind byte has its kind's test, and any other byte is unknown.
use Rattle.std.proofs.Common.{arith}
use Rattle.std.proofs.lemmas.Grind.{common_steps}
use Rattle.spec_rules.specs.TreeReader.{case_of_kind, case_kind_of}
use Rattle.format_tree.specs.ReadingLaws.{pool_count}
use Rattle.format_tree.proofs.records.case_of_kind.Goals as goal

pub returns-in-0 : goal.returns-in-0
unfolding case_of_kind case_kind_of
returns-in-0 c = grind (arith, common_steps, pool_count c.requires.0)

pub returns-in-1 : goal.returns-in-1
unfolding case_of_kind case_kind_of
returns-in-1 c = grind (arith, common_steps, pool_count c.requires.0)

pub returns-in_default : goal.returns-in_default
unfolding case_of_kind case_kind_of
returns-in_default c = grind (arith, common_steps, pool_count c.requires.0)
