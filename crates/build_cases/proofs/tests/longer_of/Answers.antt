-- `build_cases::tests::longer_of` meets its contract: by the pattern's kind one of the lengths is the larger.
use Rattle.build_cases.specs.RowsLaws.{longer_list, longer_tailed}
use Rattle.build_cases.proofs.tests.longer_of.Goals as goal

pub returns-in-5 : goal.returns-in-5
returns-in-5 c = longer_list c.args.r c.args.longest c.max.result c.in-5.is c.max.ensures

pub returns-in-6 : goal.returns-in-6
returns-in-6 c = longer_tailed c.args.r c.args.longest c.max-in-6.result c.in-6.is c.max-in-6.ensures
