-- `build_cases::column::longest_of` meets its contract. The loop's invariant: the longest lengths of the tests from i on.
use borrow.Author.Rules.{rules}
use Prim.Native.Nat.{◌-◌}
use native.Mathlib.Omega.{arith}
use Rattle.base_words.specs.WordsLaws.{bytes_of_fits}
use Rattle.build_matrix.specs.Ready.{TestKnown}
use Rattle.build_cases.specs.RowsLaws.{record_small}
use Rattle.build_cases.specs.ColumnLaws.{all_here, longest_starts, longest_step, longest_ends}
use Rattle.build_cases.proofs.column.longest_of.Goals as goal

pub loop-i-init : goal.loop-i-init
loop-i-init c = longest_starts c.args.sheet.now c.args.tests.now _ (search rules)

pub pattern_at-requires : goal.pattern_at-requires
pattern_at-requires c =
    let a = c.args in
    let known = all_here (TestKnown a.sheet.now) a.tests.now (c.loop-i.i - 1) (omega arith) c.requires.1 in
    (c.requires.0.ok.is_laid, c.requires.0.is_map, rw c.from.ensures known.known)

pub longer_of-longest-requires : goal.longer_of-longest-requires
longer_of-longest-requires c =
    record_small (bytes_of_fits c.args.sheet.now c.type_inv.sheet) c.from.result c.pattern_at.result c.pattern_at.ensures

pub loop-i-preserved : goal.loop-i-preserved
loop-i-preserved c =
    let l = c.loop-i in
    longest_step c.requires.0.ok c.args.tests.now l.i (omega arith) (omega arith) c.requires.1
    c.from.result c.from.ensures c.pattern_at.result c.pattern_at.ensures l.longest c.longer_of-longest.result l.invariant c.longer_of-longest.ensures

pub returns : goal.returns
returns c =
    let l = c.loop-i in
    longest_ends c.args.sheet.now c.args.tests.now l.i l.longest (omega arith) l.invariant
