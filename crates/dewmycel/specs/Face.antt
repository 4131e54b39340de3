-- What the C face promises of a call with a writable buffer: its answer packed, and the buffer that the call leaves.
use Rattle.std.specs.Prelude.{◌≡◌, List, ℕ}
use Rattle.spec_rules.specs.Calls.{BuildCall, WalkCall}
use Rattle.dewmycel.specs.Packed.{packed_build, packed_walk}

pub record BuildFace (r : ℕ) (tree work : List ℕ) (call : BuildCall) : Type 0 where
  pub answer : r ≡ packed_build call.answer
  pub tree_bytes : tree ≡ call.tree
  pub work_bytes : work ≡ call.work

pub record WalkFace (r : ℕ) (bound : List ℕ) (call : WalkCall) : Type 0 where
  pub answer : r ≡ packed_walk call.answer
  pub words : bound ≡ call.bound
