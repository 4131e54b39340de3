use mathlib.Core.Path.{◌∙◌}
use native.Mathlib.Omega.{arith}
use Rattle.build_table.specs.TypesLaws.{type_known}
use Rattle.build_table.specs.ClassingLaws.{constructor_tests, plain_tests_not, text_or_list_tests, pair_tests_not}
use Rattle.build_table.proofs.is_test.Goals as goal

pub type_at-ty-requires : goal.type_at-ty-requires
type_at-ty-requires c = (c.requires.0.ok.is_laid, c.requires.0.is_map, omega (arith, c.at.ensures, c.requires.3, type_known c.requires.0.ok c.args.p c.requires.2))

pub returns-in-7 : goal.returns-in-7
returns-in-7 c = constructor_tests c.args.sheet.now c.args.p c.pattern_at-r.result c.pattern_at-r.ensures c.type_at-ty.result c.at.result c.one_constructor.result (c.at.ensures ∙ c.requires.3) c.type_at-ty.ensures c.one_constructor.ensures c.in-7.is

pub returns-in-3 : goal.returns-in-3
returns-in-3 c = text_or_list_tests c.args.sheet.now c.args.p c.pattern_at-r.result c.pattern_at-r.ensures (omega arith) (omega arith)

pub returns-in_default : goal.returns-in_default
returns-in_default c = plain_tests_not c.args.sheet.now c.args.p c.pattern_at-r.result c.pattern_at-r.ensures (omega arith)

pub returns-in_default-2 : goal.returns-in_default-2
returns-in_default-2 c = pair_tests_not c.args.sheet.now c.args.p c.pattern_at-r.result c.pattern_at-r.ensures (omega arith) (λ e. omega arith)
