-- `build_file_tail::steps::put_step` meets its contract: what the table has of the pattern is its own step, or that it has none.
use Rattle.build_file_tail.specs.ReadingLaws.{above_type_known, none_put, own_size, own_step_put}
use native.Mathlib.Omega.{arith}
use Prim.Native.Nat.{ℕ, ◌+◌, ◌-◌}
use mathlib.Core.Path.{sym, ap, ◌∙◌}
use lib.ListN.{get_or}
use Rattle.base_words.specs.Stored.{stored}
use Rattle.format_records.specs.Records.{step_record}
use Rattle.build_file_tail.proofs.steps.put_step.Goals as goal

pub returns-then-step-eq-SAME : goal.returns-then-step-eq-SAME
returns-then-step-eq-SAME c = none_put c.requires.sheet_accepts.0 c.requires.sheet_accepts.1 c.args.p c.requires.sheet_accepts.2 c.if-step-eq-SAME.true c.args.tree.now c.args.end

pub type_at-requires : goal.type_at-requires
type_at-requires c =
    let q = c.requires.sheet_accepts in
    (q.0.ok.is_laid, q.0.is_map, above_type_known q.0 q.1 c.args.p q.2 c.at-above.result c.from.result c.at-above.ensures c.from.ensures)

pub overflow_sub-start : goal.overflow_sub-start
overflow_sub-start c =
    let q = c.requires.sheet_accepts in
    omega (arith, own_size q.0 q.1 c.args.p q.2 c.if-step-eq-SAME.false, c.requires.p_len_bound.0)

pub put_step-requires : goal.put_step-requires
put_step-requires c =
    let q = c.requires.sheet_accepts in
    omega (arith, own_size q.0 q.1 c.args.p q.2 c.if-step-eq-SAME.false, c.requires.p_len_bound.0, c.requires.p_len_bound.1)

pub returns : goal.returns
returns c =
    let q = c.requires.sheet_accepts in
    let ty = c.type_at in
    let stored = c.put_step.ensures ∙ ap (λ (v : ℕ). stored c.args.tree.now (c.args.end - 6) (step_record (get_or c.args.table.now (768 + c.args.p) 0) c.flag_of-flag.result c.from-index.result v)) (c.from-2.ensures ∙ sym c.from.ensures) in
    own_step_put q.0 q.1 c.args.p q.2 c.if-step-eq-SAME.false c.at-above.result c.from.result c.flag_of-flag.result c.from-index.result ty.result c.at-above.ensures c.from.ensures ty.ensures c.flag_of-flag.ensures c.from-index.ensures c.args.tree.now c.args.end c.requires.p_len_bound.0 stored
