-- `build_cases::search::same_case` meets its contract. Of the outer loop: what the search gives from here is what it gives from the start; of
-- the inner one: the bytes so far are equal.
use borrow.Author.Rules.{rules}
use borrow.Author.Count.{below_more}
use native.Mathlib.Omega.{arith}
use mathlib.Core.Path.{◌≡◌, sym, ◌∙◌}
use mathlib.Core.Bool.{true, false}
use Prim.Native.Nat.{◌+◌}
use Rattle.build_cases.specs.Fields.{has_test}
use Rattle.build_cases.specs.FieldsLaws.{not_alike, read_inside, texts_same, texts_other, first_end, first_here, first_past}
use Rattle.build_cases.proofs.search.same_case.Goals as goal
use Rattle.build_cases.proofs.search.same_case.Goals.{then-is_alike+else-k-len+then-sheet-other, else-is_alike}

pub bounds-sheet-other : goal.bounds-sheet-other
bounds-sheet-other c =
    (read_inside c.requires.laid.0 c.args.work.now c.cases.i c.requires.laid.2 (c.requires.arena_end_in_bounds.3.fields c.cases.i (omega arith) (omega arith))
    (c.args.pool + c.from-then-is_alike.result) (c.args.pool + c.from.result)
    (omega (arith, c.requires.laid.1, c.from-then-is_alike.ensures, c.case_number.ensures)) (omega (arith, c.requires.laid.1, c.from.ensures))
    (sym c.is_alike.ensures ∙ c.if-is_alike.true) c.loop-k.k (omega arith)).0

pub bounds-sheet-start : goal.bounds-sheet-start
bounds-sheet-start c =
    (read_inside c.requires.laid.0 c.args.work.now c.cases.i c.requires.laid.2 (c.requires.arena_end_in_bounds.3.fields c.cases.i (omega arith) (omega arith))
    (c.args.pool + c.from-then-is_alike.result) (c.args.pool + c.from.result)
    (omega (arith, c.requires.laid.1, c.from-then-is_alike.ensures, c.case_number.ensures)) (omega (arith, c.requires.laid.1, c.from.ensures))
    (sym c.is_alike.ensures ∙ c.if-is_alike.true) c.loop-k.k (omega arith)).1

pub loop-k-preserved : goal.loop-k-preserved
loop-k-preserved c = (search rules, below_more _ _ c.loop-k.invariant.1 c.if-sheet-other.false)

pub cases-preserved : goal.cases-preserved
cases-preserved c =
    let i = c.cases.i in
    let h = has_test c.args.sheet.now c.args.work.now c.args.fields.kind c.args.fields.number c.args.fields.len in
    let past : h i ≡ false =
    elim c.if-is_alike.branch [
      | then-is_alike+else-k-len+then-sheet-other w ↦
          texts_other c.requires.laid.0 c.args.work.now i c.requires.laid.2 (c.requires.arena_end_in_bounds.3.fields i (omega arith) (omega arith))
          (c.args.pool + w.from-then-is_alike.result) (c.args.pool + c.from.result)
          (omega (arith, c.requires.laid.1, w.from-then-is_alike.ensures, w.case_number.ensures)) (omega (arith, c.requires.laid.1, c.from.ensures))
          (sym c.is_alike.ensures ∙ w.if-is_alike.true) w.loop-k.k (omega arith) w.if-sheet-other.true
      | else-is_alike w ↦
          not_alike c.requires.laid.0 c.args.work.now i c.requires.laid.2 (c.requires.arena_end_in_bounds.3.fields i (omega arith) (omega arith))
          (sym c.is_alike.ensures ∙ w.if-is_alike.false)
    ] in
    (search rules, search rules, first_past h i c.args.to (omega arith) past ∙ c.cases.invariant.2)

pub returns-then-i-to : goal.returns-then-i-to
returns-then-i-to c =
    let h = has_test c.args.sheet.now c.args.work.now c.args.fields.kind c.args.fields.number c.args.fields.len in
    sym c.if-i-to.true ∙ sym (first_end h c.cases.i c.args.to (omega arith)) ∙ c.cases.invariant.2

pub returns-then-k-len : goal.returns-then-k-len
returns-then-k-len c =
    let h = has_test c.args.sheet.now c.args.work.now c.args.fields.kind c.args.fields.number c.args.fields.len in
    let here : h c.cases.i ≡ true =
    texts_same c.requires.laid.0 c.args.work.now c.cases.i c.requires.laid.2 (c.requires.arena_end_in_bounds.3.fields c.cases.i (omega arith) (omega arith))
    (c.args.pool + c.from-then-is_alike.result) (c.args.pool + c.from.result)
    (omega (arith, c.requires.laid.1, c.from-then-is_alike.ensures, c.case_number.ensures)) (omega (arith, c.requires.laid.1, c.from.ensures))
    (sym c.is_alike.ensures ∙ c.if-is_alike.true) (λ k q. c.loop-k.invariant.1 k (omega arith)) in
    sym (first_here h c.cases.i c.args.to (omega arith) here) ∙ c.cases.invariant.2
