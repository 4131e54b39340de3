-- `build_file_tail::steps::put_steps` meets its contract. The loop's invariant: the steps behind those of p are there; the number of p falls, since a path of some steps
-- goes on from a lower pattern.
use Rattle.build_file_tail.specs.StepsLaws.{climbs, climbs_room, climbs_more, climbs_lower, climbs_all}
use Rattle.build_file_tail.specs.ReadingLaws.{above_is, depth_is}
use native.Mathlib.Omega.{arith}
use Prim.Native.Nat.{ℕ, ◌+◌, ◌*◌}
use mathlib.Core.Path.{ap}
use Rattle.build_file_tail.proofs.steps.put_steps.Goals as goal

pub loop-to-init : goal.loop-to-init
loop-to-init c =
    let a = c.args in
    climbs a.sheet.now a.tree.now a.at a.class c.requires.sheet_accepts.2 (a.at + 6 * c.at.result) (ap (λ (n : ℕ). a.at + n) (depth_is c.requires.sheet_accepts.0 c.requires.sheet_accepts.1 c.args.class c.requires.sheet_accepts.2 c.at.result c.at.ensures))

pub put_step-to-requires-clause-p_len_bound : goal.put_step-to-requires-clause-p_len_bound
put_step-to-requires-clause-p_len_bound c =
    let l = c.loop-to in
    (omega (arith, climbs_room c.requires.sheet_accepts.0.ok l.invariant), omega (arith, l.invariant.inside, l.invariant.as_long, c.requires.class_in_bounds))

pub loop-to-smaller : goal.loop-to-smaller
loop-to-smaller c =
    let l = c.loop-to in
    omega (arith, above_is c.requires.sheet_accepts.0 c.requires.sheet_accepts.1 l.p l.invariant.known c.at-p.result c.at-p.ensures, climbs_lower c.requires.sheet_accepts.0.ok l.invariant c.loop-to-test.true)

pub loop-to-preserved : goal.loop-to-preserved
loop-to-preserved c =
    let l = c.loop-to in
    climbs_more c.requires.sheet_accepts.0.ok l.invariant c.put_step-to.ensures (above_is c.requires.sheet_accepts.0 c.requires.sheet_accepts.1 l.p l.invariant.known c.at-p.result c.at-p.ensures)

pub returns : goal.returns
returns c =
    let a = c.args in
    let l = c.loop-to in
    record {
      is_stored = climbs_all c.requires.sheet_accepts.0.ok l.invariant c.loop-to-test.false;
      is_end = ap (λ (n : ℕ). a.at + n) (depth_is c.requires.sheet_accepts.0 c.requires.sheet_accepts.1 c.args.class c.requires.sheet_accepts.2 c.at.result c.at.ensures);
    }
