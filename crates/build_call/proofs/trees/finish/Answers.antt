-- `build_call::trees::finish` meets its contract: by 12, by 13, or by the tree with its scopes.
use Rattle.std.specs.Prelude.{Err}
use borrow.Author.Rules.{rules}
use mathlib.Core.Path.{◌≡◌}
use Prim.Native.Nat.{◌+◌, ◌≤◌}
use native.Mathlib.Omega.{arith}
use borrow.Author.Tests.{leb-true, leb-false}
use lib.ListN.{get_or}
use Rattle.spec_rules.specs.Limits.{nodes_most}
use Rattle.spec_rules.specs.Hoisting.{nodes_in}
use Rattle.build_call.specs.VerdictLaws.{raw_tree, hoists_of}
use Rattle.build_call.specs.Counts.{is_marked}
use Rattle.build_call.specs.CountsLaws.{times_most}
use Rattle.format_sheet.specs.SectionsLaws.{mapped}
use Rattle.build_call.specs.AnswersLaws.{gives_unless, passed}
use Rattle.build_call.specs.RawLaws.{end_12, end_13, hoists_counted, raw_over, fitting}
use Rattle.build_call.proofs.trees.finish.Goals.{After-hoists-more}
use Rattle.build_call.proofs.trees.finish.Goals as goal

pub hoists-more-requires : goal.hoists-more-requires
hoists-more-requires c =
    let a = c.requires.sheet_accepts in
    omega (arith, (mapped c.args.sheet.now c.args.map a.0.is_map).of_clauses, a.0.ok.is_counted.clauses_most_holds)

pub overflow_add-tops : goal.overflow_add-tops
overflow_add-tops c =
    let a = c.requires.sheet_accepts in
    omega (
      arith,
      a.2.nodes_are,
      a.2.nodes_most_holds,
      c.hoists-more.ensures,
      (mapped c.args.sheet.now c.args.map a.0.is_map).of_clauses,
      a.0.ok.is_counted.clauses_most_holds,
      times_most (λ k. is_marked (get_or c.args.tops.leaves k 0)) 0 c.args.map.clauses.count,
    )

counted : (c : After-hoists-more) → c.hoists-more.result ≡ hoists_of c.args.sheet.now
counted c =
    let a = c.requires.sheet_accepts in
    hoists_counted a.0.ok _ _ _ _ _ a.2 _ _ (mapped c.args.sheet.now c.args.map a.0.is_map).of_clauses c.hoists-more.ensures

pub returns-in_err-require : goal.returns-in_err-require
returns-in_err-require c =
    let a = c.requires.sheet_accepts in
    let hoists = counted (goal.at.returns-in_err-require c).After-hoists-more in
    let is : c.from_residual.result ≡ Err c.in_err-require.field-0.0 = search rules in
    rw is
    (gives_unless c.args.sheet.now _ _ _ _ _ c.in_err-require.ensures
    (λ e. end_12 c.args.sheet.now (omega (arith, hoists, a.2.nodes_are, leb-false _ _ e))) c.requires.clear_tree.1)

pub returns-in_err-require-2 : goal.returns-in_err-require-2
returns-in_err-require-2 c =
    let a = c.requires.sheet_accepts in
    let hoists = counted (goal.at.returns-in_err-require-2 c).After-hoists-more in
    let few : nodes_in (raw_tree c.args.sheet.now) + hoists_of c.args.sheet.now ≤ nodes_most = omega (arith, hoists, a.2.nodes_are, leb-true _ _ (passed _ _ c.in_ok-require.ensures)) in
    let is : c.from_residual-in_err-require-2.result ≡ Err c.in_err-require-2.field-0.0 = search rules in
    rw is
    (gives_unless c.args.sheet.now _ _ _ _ _ c.in_err-require-2.ensures
    (λ e. end_13 c.args.sheet.now few (raw_over a.0.ok _ _ _ _ _ a.2 (leb-false _ _ e))) c.requires.clear_tree.1)

pub hoist_tree-requires-clause-sheet_accepts : goal.hoist_tree-requires-clause-sheet_accepts
hoist_tree-requires-clause-sheet_accepts c =
    let a = c.requires.sheet_accepts in
    let hoists = counted (goal.at.hoist_tree-requires-clause-sheet_accepts c).After-hoists-more in
    let few : nodes_in (raw_tree c.args.sheet.now) + hoists_of c.args.sheet.now ≤ nodes_most = omega (arith, hoists, a.2.nodes_are, leb-true _ _ (passed _ _ c.in_ok-require.ensures)) in
    (a.0, a.1, fitting a.0.ok _ _ _ _ _ a.2 few (leb-true _ _ (passed _ _ c.in_ok-require-2.ensures)))
