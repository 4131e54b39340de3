-- `fit::fitting::record_fits` meets its contract: the loop's invariant is that the parts left have their types, and fit where all of them do.
-- It ends, since a part's record has a larger number than its owner.
use Rattle.std.proofs.Common.{◌≡◌, ◌+◌, ◌-◌}
use Rattle.spec_rules.specs.Limits.{records_most}
use Rattle.spec_rules.specs.Fitting.{parts_fit, has_type_to}
use Rattle.fit.specs.Fit.{Run}
use Rattle.fit.proofs.fitting.+record_fits.Given as goal

abbrev pub decreases-record_fits : goal.decreases-record_fits
decreases-record_fits l = records_most - l.r

abbrev pub invariant-loop-k : goal.invariant-loop-k
invariant-loop-k l = Run l.sheet l.panel l.r (l.first + l.k) (l.count - l.k) l.e l.step
    × (parts_fit (has_type_to records_most l.sheet l.panel) l.sheet l.panel (l.first + l.k) (l.count - l.k) l.e l.step
    ≡ parts_fit (has_type_to records_most l.sheet l.panel) l.sheet l.panel l.first l.count l.entry l.step)
