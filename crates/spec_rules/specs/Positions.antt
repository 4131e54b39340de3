-- 01, "Panels and the walk": positions of a panel, names bound to them, and the answers that a walk and a sheet's meaning give.
-- Nothing here knows of paths or trees.
use Rattle.std.specs.Prelude.{ℕ, List}

-- "A position is a record and a number of list elements dropped"
pub record Position : Type 0 where
  pub place : ℕ
  pub dropped : ℕ

-- the panel itself: "Record 0 is the root"
abbrev pub panel_root : Position
panel_root = record { place = 0; dropped = 0 }

-- "(name, record, dropped) for each binding"
pub record Bound : Type 0 where
  pub name : ℕ
  pub position : Position

-- "The answer is a clause with (name, record, dropped) for each binding, or No leaf with no bindings", or 32
pub data Walked : Type 0 where
  reached : ℕ → List Bound → Walked
  no_leaf : Walked
  stuck : Walked
