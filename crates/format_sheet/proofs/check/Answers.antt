-- `format_sheet::check` meets its contract: it goes through the verdict's conditions in their order, each asked of what the earlier ones found.
use Rattle.std.proofs.Common.{◌≡◌, true, rules}
use Rattle.spec_rules.specs.SheetRefusals.{length_fits}
use Rattle.spec_accepted.specs.SheetFacts.{Laid, Counted, Typed, laid, counted, typed, shaped}
use Rattle.format_sheet.specs.Fitting.{ReadySheet}
use Rattle.format_sheet.specs.CheckLaws.{Left, all_left, goes_on, stops, held, tested, searched, long_enough, few_enough_read, has_clause_read}
use Rattle.format_sheet.proofs.check.Goals.{In_ok-require, In_ok-require-2, In_ok-require-3, In_ok-require-4, In_ok-require-5, In_ok-require-6, In_ok-require_none, In_ok-require_none-2, In_ok-require_none-3, In_ok-require_none-4}
use Rattle.format_sheet.proofs.check.Goals as goal

pub returns-in_err-require-clause-verdict : goal.returns-in_err-require-clause-verdict
returns-in_err-require-clause-verdict c =
    let e = stops c.args.sheet.now 0 (all_left c.args.sheet.now) c.in_err-require.ensures (tested _ c.length_fits.ensures) in
    search rules

left-1 : (c : In_ok-require) → Left 1 c.args.sheet.now
left-1 c = goes_on c.args.sheet.now 0 (all_left c.args.sheet.now) c.in_ok-require.ensures (tested _ c.length_fits.ensures)

long : (c : In_ok-require) → length_fits c.args.sheet.now ≡ true
long c = held _ _ c.in_ok-require.ensures (tested _ c.length_fits.ensures)

pub layout_fits-requires : goal.layout_fits-requires
layout_fits-requires c = long_enough c.args.sheet.now (long c)

pub returns-in_err-require-2-clause-verdict : goal.returns-in_err-require-2-clause-verdict
returns-in_err-require-2-clause-verdict c =
    let e = stops c.args.sheet.now 1 (left-1 (goal.at.returns-in_err-require-2-clause-verdict c).In_ok-require) c.in_err-require-2.ensures (tested _ c.layout_fits.ensures) in
    search rules

left-2 : (c : In_ok-require-2) → Left 2 c.args.sheet.now
left-2 c = goes_on c.args.sheet.now 1 (left-1 (goal.at.map_of-map-requires c).In_ok-require) c.in_ok-require-2.ensures (tested _ c.layout_fits.ensures)

is_laid : (c : In_ok-require-2) → Laid c.args.sheet.now
is_laid c = laid c.args.sheet.now (long (goal.at.map_of-map-requires c).In_ok-require) (held _ _ c.in_ok-require-2.ensures (tested _ c.layout_fits.ensures))

pub map_of-map-requires : goal.map_of-map-requires
map_of-map-requires c = is_laid c

pub returns-in_err-require-3-clause-verdict : goal.returns-in_err-require-3-clause-verdict
returns-in_err-require-3-clause-verdict c =
    let e = stops c.args.sheet.now 2 (left-2 (goal.at.returns-in_err-require-3-clause-verdict c).In_ok-require-2) c.in_err-require-3.ensures (tested _ (has_clause_read _ c.map_of-map.ensures)) in
    search rules

pub returns-in_err-require-4-clause-verdict : goal.returns-in_err-require-4-clause-verdict
returns-in_err-require-4-clause-verdict c =
    let e = stops c.args.sheet.now 3 (goes_on c.args.sheet.now 2 (left-2 (goal.at.returns-in_err-require-4-clause-verdict c).In_ok-require-2) c.in_ok-require-3.ensures (tested _ (has_clause_read _ c.map_of-map.ensures))) c.in_err-require-4.ensures (tested _ (few_enough_read _ c.map_of-map.ensures c.counts_fit.ensures)) in
    search rules

left-4 : (c : In_ok-require-4) → Left 4 c.args.sheet.now
left-4 c = goes_on c.args.sheet.now 3 (goes_on c.args.sheet.now 2 (left-2 (goal.at.types_fit-requires c).In_ok-require-2) c.in_ok-require-3.ensures (tested _ (has_clause_read _ c.map_of-map.ensures))) c.in_ok-require-4.ensures (tested _ (few_enough_read _ c.map_of-map.ensures c.counts_fit.ensures))

is_counted : (c : In_ok-require-4) → Counted c.args.sheet.now
is_counted c =
    counted c.args.sheet.now (held _ _ c.in_ok-require-3.ensures (tested _ (has_clause_read _ c.map_of-map.ensures)))
    (held _ _ c.in_ok-require-4.ensures (tested _ (few_enough_read _ c.map_of-map.ensures c.counts_fit.ensures)))

pub types_fit-requires : goal.types_fit-requires
types_fit-requires c = (is_laid (goal.at.types_fit-requires c).In_ok-require-2, c.map_of-map.ensures)

pub returns-in_err-require-5-clause-verdict : goal.returns-in_err-require-5-clause-verdict
returns-in_err-require-5-clause-verdict c =
    let e = stops c.args.sheet.now 4 (left-4 (goal.at.returns-in_err-require-5-clause-verdict c).In_ok-require-4) c.in_err-require-5.ensures (tested _ c.types_fit.ensures) in
    search rules

left-5 : (c : In_ok-require-5) → Left 5 c.args.sheet.now
left-5 c = goes_on c.args.sheet.now 4 (left-4 (goal.at.lowest_transparent-requires c).In_ok-require-4) c.in_ok-require-5.ensures (tested _ c.types_fit.ensures)

is_typed : (c : In_ok-require-5) → Typed c.args.sheet.now
is_typed c = typed c.args.sheet.now (held _ _ c.in_ok-require-5.ensures (tested _ c.types_fit.ensures))

pub lowest_transparent-requires : goal.lowest_transparent-requires
lowest_transparent-requires c =
    let from = goal.at.lowest_transparent-requires c in
    (is_laid from.In_ok-require-2, is_counted from.In_ok-require-4, is_typed from.In_ok-require-5, c.map_of-map.ensures)

pub returns-in_err-require_none-clause-verdict : goal.returns-in_err-require_none-clause-verdict
returns-in_err-require_none-clause-verdict c =
    let e = stops c.args.sheet.now 5 (left-5 (goal.at.returns-in_err-require_none-clause-verdict c).In_ok-require-5) c.in_err-require_none.ensures (searched _ _ c.lowest_transparent.ensures) in
    search rules

left-6 : (c : In_ok-require_none) → Left 6 c.args.sheet.now
left-6 c = goes_on c.args.sheet.now 5 (left-5 (goal.at.shape_fits-requires c).In_ok-require-5) c.in_ok-require_none.ensures (searched _ _ c.lowest_transparent.ensures)

pub shape_fits-requires : goal.shape_fits-requires
shape_fits-requires c = let from = goal.at.shape_fits-requires c in (is_laid from.In_ok-require-2, c.map_of-map.ensures, is_counted from.In_ok-require-4)

pub returns-in_err-require-6-clause-verdict : goal.returns-in_err-require-6-clause-verdict
returns-in_err-require-6-clause-verdict c =
    let e = stops c.args.sheet.now 6 (left-6 (goal.at.returns-in_err-require-6-clause-verdict c).In_ok-require_none) c.in_err-require-6.ensures (tested _ c.shape_fits.ensures) in
    search rules

left-7 : (c : In_ok-require-6) → Left 7 c.args.sheet.now
left-7 c = goes_on c.args.sheet.now 6 (left-6 (goal.at.lowest_bad_text-requires c).In_ok-require_none) c.in_ok-require-6.ensures (tested _ c.shape_fits.ensures)

is_ready : (c : In_ok-require-6) → ReadySheet c.args.sheet.now c.map_of-map.result
is_ready c =
    let from = goal.at.lowest_bad_text-requires c in
    record {
      is_map = c.map_of-map.ensures;
      is_laid = is_laid from.In_ok-require-2;
      is_counted = is_counted from.In_ok-require-4;
      is_typed = is_typed from.In_ok-require-5;
      is_shaped = shaped c.args.sheet.now (held _ _ c.in_ok-require-6.ensures (tested _ c.shape_fits.ensures));
    }

pub lowest_bad_text-requires : goal.lowest_bad_text-requires
lowest_bad_text-requires c = let ready = is_ready c in (ready.is_laid, ready.is_map, ready.is_counted, ready.is_shaped)

pub returns-in_err-require_none-2-clause-verdict : goal.returns-in_err-require_none-2-clause-verdict
returns-in_err-require_none-2-clause-verdict c =
    let e = stops c.args.sheet.now 7 (left-7 (goal.at.returns-in_err-require_none-2-clause-verdict c).In_ok-require-6) c.in_err-require_none-2.ensures (searched _ _ c.lowest_bad_text.ensures) in
    search rules

left-8 : (c : In_ok-require_none-2) → Left 8 c.args.sheet.now
left-8 c = goes_on c.args.sheet.now 7 (left-7 (goal.at.lowest_misfit-requires c).In_ok-require-6) c.in_ok-require_none-2.ensures (searched _ _ c.lowest_bad_text.ensures)

pub lowest_misfit-requires : goal.lowest_misfit-requires
lowest_misfit-requires c = is_ready (goal.at.lowest_misfit-requires c).In_ok-require-6

pub returns-in_err-require_none-3-clause-verdict : goal.returns-in_err-require_none-3-clause-verdict
returns-in_err-require_none-3-clause-verdict c =
    let e = stops c.args.sheet.now 8 (left-8 (goal.at.returns-in_err-require_none-3-clause-verdict c).In_ok-require_none-2) c.in_err-require_none-3.ensures (searched _ _ c.lowest_misfit.ensures) in
    search rules

left-9 : (c : In_ok-require_none-3) → Left 9 c.args.sheet.now
left-9 c = goes_on c.args.sheet.now 8 (left-8 (goal.at.lowest_name_twice-requires c).In_ok-require_none-2) c.in_ok-require_none-3.ensures (searched _ _ c.lowest_misfit.ensures)

pub lowest_name_twice-requires : goal.lowest_name_twice-requires
lowest_name_twice-requires c = is_ready (goal.at.lowest_name_twice-requires c).In_ok-require-6

pub returns-in_err-require_none-4-clause-verdict : goal.returns-in_err-require_none-4-clause-verdict
returns-in_err-require_none-4-clause-verdict c =
    let e = stops c.args.sheet.now 9 (left-9 (goal.at.returns-in_err-require_none-4-clause-verdict c).In_ok-require_none-3) c.in_err-require_none-4.ensures (searched _ _ c.lowest_name_twice.ensures) in
    search rules

left-10 : (c : In_ok-require_none-4) → Left 10 c.args.sheet.now
left-10 c = goes_on c.args.sheet.now 9 (left-9 (goal.at.returns-clause-verdict c).In_ok-require_none-3) c.in_ok-require_none-4.ensures (searched _ _ c.lowest_name_twice.ensures)

pub returns-clause-verdict : goal.returns-clause-verdict
returns-clause-verdict c = let e : Left 10 c.args.sheet.now = left-10 c in search rules
