-- `build_call::trees::write_hoisted` meets its contract: by 13, by 14, or by the file.
use Rattle.std.specs.Prelude.{Err}
use borrow.Author.Rules.{rules}
use mathlib.Core.Path.{◌≡◌}
use Prim.Native.Nat.{◌+◌, ◌≤◌}
use native.Mathlib.Omega.{arith}
use borrow.Author.Tests.{leb-true, leb-false}
use lib.ListN.{length, get_or}
use Rattle.base_words.specs.WordsLaws.{bytes_of_fits}
use Rattle.spec_rules.specs.Limits.{bindings_most}
use Rattle.spec_rules.specs.Hoisting.{bindings_in}
use Rattle.build_call.specs.VerdictLaws.{raw_tree, hoist_bindings}
use Rattle.build_call.specs.Counts.{leaf_bindings}
use Rattle.build_call.specs.CountsLaws.{leaf_most, sum_most}
use Rattle.format_sheet.specs.SectionsLaws.{mapped}
use Rattle.build_call.specs.AnswersLaws.{gives_refusal, gives_unless, passed}
use Rattle.build_call.specs.RawLaws.{end_13, end_14, all_bindings, idle_found, whole}
use Rattle.build_call.proofs.trees.write_hoisted.Goals.{After-hoist_bindings-more}
use Rattle.build_call.proofs.trees.write_hoisted.Goals as goal

pub hoist_bindings-more-requires : goal.hoist_bindings-more-requires
hoist_bindings-more-requires c =
    let a = c.requires.sheet_accepts in
    (a.2.fitting.long, omega (arith, (mapped c.args.sheet.now c.args.map a.0.is_map).of_clauses, a.0.ok.is_counted.clauses_most_holds))

pub overflow_add-tops : goal.overflow_add-tops
overflow_add-tops c =
    let a = c.requires.sheet_accepts in
    omega (
      arith,
      a.2.fitting.bindings_are,
      a.2.fitting.bindings_most_holds,
      c.hoist_bindings-more.ensures,
      (mapped c.args.sheet.now c.args.map a.0.is_map).of_clauses,
      a.0.ok.is_counted.clauses_most_holds,
      sum_most (λ k. leaf_bindings c.args.work.now (get_or c.args.scopes.leaf k 0)) 65535 0 c.args.map.clauses.count
          (λ k. leaf_most c.args.work.now (get_or c.args.scopes.leaf k 0) (bytes_of_fits c.args.work.now c.type_inv.work)),
    )

all : (c : After-hoist_bindings-more) → c.args.tops.bindings + c.hoist_bindings-more.result ≡ length (bindings_in (raw_tree c.args.sheet.now)) + hoist_bindings c.args.sheet.now
all c =
    let a = c.requires.sheet_accepts in
    all_bindings a.0.ok _ _ _ _ _ a.2 _ _ (mapped c.args.sheet.now c.args.map a.0.is_map).of_clauses c.hoist_bindings-more.ensures

pub returns-in_err-require : goal.returns-in_err-require
returns-in_err-require c =
    let a = c.requires.sheet_accepts in
    let sum = all (goal.at.returns-in_err-require c).After-hoist_bindings-more in
    let is : c.from_residual.result ≡ Err c.in_err-require.field-0.0 = search rules in
    rw is
    (gives_unless c.args.sheet.now _ _ _ _ _ c.in_err-require.ensures
    (λ e. end_13 c.args.sheet.now a.2.fitting.nodes_fit (omega (arith, sum, leb-false _ _ e))) c.requires.clear_tree.1)

pub returns-then-idle-lt-CLAUSES_MOST : goal.returns-then-idle-lt-CLAUSES_MOST
returns-then-idle-lt-CLAUSES_MOST c =
    let a = c.requires.sheet_accepts in
    let sum = all (goal.at.returns-then-idle-lt-CLAUSES_MOST c).After-hoist_bindings-more in
    let few : length (bindings_in (raw_tree c.args.sheet.now)) + hoist_bindings c.args.sheet.now ≤ bindings_most = omega (arith, sum, leb-true _ _ (passed _ _ c.in_ok-require.ensures)) in
    gives_refusal c.args.sheet.now _ _ _ (end_14 c.args.sheet.now a.2.fitting.nodes_fit few _ (idle_found a.0.ok _ _ _ _ _ a.2 c.if-idle-lt-CLAUSES_MOST.true)) c.requires.clear_tree.1

pub write_tree-requires-clause-sheet_accepts : goal.write_tree-requires-clause-sheet_accepts
write_tree-requires-clause-sheet_accepts c =
    let a = c.requires.sheet_accepts in
    let sum = all (goal.at.write_tree-requires-clause-sheet_accepts c).After-hoist_bindings-more in
    (a.0, a.1, whole a.0.ok _ _ _ _ _ a.2 (omega (arith, sum, leb-true _ _ (passed _ _ c.in_ok-require.ensures))) c.if-idle-lt-CLAUSES_MOST.false)
