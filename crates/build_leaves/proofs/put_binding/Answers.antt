use mathlib.Core.Path.{ap, ◌∙◌}
use native.Mathlib.Omega.{arith}
use Rattle.base_words.specs.WordsLaws.{bytes_of_fits}
use Rattle.format_sheet.specs.declared.records.PatternRecord.{PatternRecord}
use Rattle.format_sheet.specs.NamesLaws.{name_small}
use Rattle.build_leaves.specs.BindingsLaws.{one_fits, one_past}
use Rattle.build_leaves.proofs.put_binding.Goals as goal

pub returns-then-top-ge-BINDINGS_MOST : goal.returns-then-top-ge-BINDINGS_MOST
returns-then-top-ge-BINDINGS_MOST c = one_past c.args.sheet.now c.args.work.now c.args.top c.args.p c.if-top-ge-BINDINGS_MOST.true

pub overflow_cast-r : goal.overflow_cast-r
overflow_cast-r c = omega (arith, name_small c.args.sheet.now c.args.p c.pattern_in-r.result c.pattern_in-r.ensures (bytes_of_fits c.args.sheet.now c.shared_slice_known-1.given))

pub returns : goal.returns
returns c =
    one_fits c.args.sheet.now c.args.work.now c.put_binding.new.work c.args.top c.args.p c.pattern_in-r.result.a c.at-class.result c.if-top-ge-BINDINGS_MOST.false
    (ap (λ (r : PatternRecord). r.a) c.pattern_in-r.ensures) (c.at-class.ensures ∙ (c.requires.1.classed c.args.p c.requires.3).class) c.put_binding.ensures
