-- `build_call::build_clear` meets its contract: a buffer that is too small is refused by 1, else the sheet decides, and then its tree.
use Rattle.std.specs.Prelude.{Err}
use Rattle.std.proofs.Common.{rules, ◌≡◌, inl, inr, arith, sym, ◌∙◌, ◌≤◌, length}
use borrow.Author.Tests.{leb-true, leb-false}
use Rattle.spec_rules.specs.Limits.{tree_room, work_room}
use Rattle.format_sheet.specs.CheckLaws.{sheet_accepts}
use Rattle.build_call.specs.AnswersLaws.{gives_refusal, gives_same, gives_unless, passed, no_room, sheet_accepted, sheet_refused}
use Rattle.build_call.proofs.build_clear.Goals.{In_ok-require, then-tree-ge-TREE_ROOM, else-tree-ge-TREE_ROOM}
use Rattle.build_call.proofs.build_clear.Goals as goal

pub returns-in_err-require : goal.returns-in_err-require
returns-in_err-require c =
    let a = c.args in
    let is : c.from_residual.result ≡ Err c.in_err-require.field-0.0 = search rules in
    rw is
    (gives_unless a.sheet.now _ _ _ _ _ c.in_err-require.ensures
    (λ e.
    no_room a.sheet.now _ _
    (elim c.if-tree-ge-TREE_ROOM.branch [
      | then-tree-ge-TREE_ROOM w ↦ inr (omega (arith, leb-false _ _ (sym w.room-is ∙ e)))
      | else-tree-ge-TREE_ROOM w ↦ inl (omega (arith, w.if-tree-ge-TREE_ROOM.false))
    ]))
    c.requires)

room : (c : In_ok-require) → (tree_room ≤ length c.args.tree.now) × (work_room ≤ length c.args.work.now)
room c =
    let fits = passed _ _ c.in_ok-require.ensures in
    elim c.if-tree-ge-TREE_ROOM.branch [
      | then-tree-ge-TREE_ROOM w ↦ (w.if-tree-ge-TREE_ROOM.true, leb-true _ _ (sym w.room-is ∙ fits))
      | else-tree-ge-TREE_ROOM w ↦ absurd (omega (arith, leb-true _ _ (sym w.room-is ∙ fits), w.if-tree-ge-TREE_ROOM.false))
    ]

pub returns-in_err-map : goal.returns-in_err-map
returns-in_err-map c =
    let a = c.args in
    let r = room (goal.at.returns-in_err-map c).In_ok-require in
    let is : c.from_residual-in_err-map.result ≡ Err c.in_err-map.field-0.0 = search rules in
    rw is (gives_refusal a.sheet.now _ _ _ (sheet_refused a.sheet.now _ _ r.0 r.1 _ _ (sym c.in_err-map.ensures.verdict)) c.requires)

pub build_tree-requires : goal.build_tree-requires
build_tree-requires c =
    let r = room (goal.at.build_tree-requires c).In_ok-require in
    (sheet_accepts c.args.sheet.now c.in_ok-map.map c.in_ok-map.ensures.verdict c.in_ok-map.ensures.map, r.0, r.1, c.requires)

pub returns : goal.returns
returns c =
    let r = room (goal.at.returns c).In_ok-require in
    gives_same c.args.sheet.now _ _ _ _ _ (sym (sheet_accepted c.args.sheet.now _ _ r.0 r.1 (sym c.in_ok-map.ensures.verdict))) c.build_tree.ensures
