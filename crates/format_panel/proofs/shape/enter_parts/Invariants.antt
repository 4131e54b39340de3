-- `format_panel::shape::enter_parts` meets its contract. The loop's invariant: the entries that are left, from what was seen so far, give what
-- all of them give from the start.
use Prim.Native.Nat.{◌+◌, ◌-◌}
use mathlib.Core.Path.{◌≡◌}
use Rattle.format_panel.specs.Shape.{met, enter_parts}
use Rattle.format_panel.proofs.shape.enter_parts.Given as goal

abbrev pub invariant-loop-k : goal.invariant-loop-k
invariant-loop-k l = enter_parts l.panel (met l.depths) l.r (l.j + l.k) (l.n - l.k) ≡ enter_parts l.panel (met l.initial.depths) l.r l.j l.n
