-- `format_panel::shape::enter_records` meets its contract. The loop's invariant: the records that are left, from what was seen so far, give what
-- all of them give from the start.
use Prim.Native.Nat.{◌-◌}
use mathlib.Core.Path.{◌≡◌}
use Rattle.spec_rules.specs.PanelFile.{records}
use Rattle.format_panel.specs.Shape.{met, enter_records}
use Rattle.format_panel.proofs.shape.enter_records.Given as goal

abbrev pub invariant-loop-r : goal.invariant-loop-r
invariant-loop-r l = enter_records l.panel (met l.depths) l.r (records l.panel - l.r) ≡ enter_records l.panel (met l.initial.depths) 0 (records l.panel)
