-- The answers of the calls in one number of 64 bits, as the C face gives them: four words, the first lowest.
-- The first is the refusal number, 0 for none; of a refusal the second is its place. 32 has two: the second is the node, the third the step.
use Rattle.std.specs.Prelude.{ℕ, ◌+◌, ◌*◌}
use Rattle.spec_rules.specs.RefusalNumbers.{stuck_refusal}
use Rattle.spec_rules.specs.SheetRefusals.{Verdict, accepted, refused}
use Rattle.spec_rules.specs.Calls.{Answer, answers, refuses, Built, WalkEnd, leaf_of, without_leaf, stuck_at, Span}

unfoldable pub packed : ℕ → ℕ → ℕ → ℕ → ℕ
packed a b c d = a + 65536 * b + 4294967296 * c + 281474976710656 * d

-- all 0 where it fits
unfoldable pub packed_fit : Verdict → ℕ
unfolding packed
packed_fit accepted = 0
packed_fit (refused number place) = packed number place 0 0

-- tree length, nodes, bindings
unfoldable pub packed_build : Answer Built → ℕ
unfolding packed
packed_build (answers x) = packed 0 x.bytes x.nodes x.bindings
packed_build (refuses number place) = packed number place 0 0

-- at a leaf its clause, how many bindings, and 1; all 0 without a leaf; stuck, 32 with its node and its step
unfoldable pub packed_walk : Answer WalkEnd → ℕ
unfolding packed
packed_walk (answers (leaf_of clause count)) = packed 0 clause count 1
packed_walk (answers without_leaf) = 0
packed_walk (answers (stuck_at node step)) = packed stuck_refusal node step 0
packed_walk (refuses number place) = packed number place 0 0

-- start and length
unfoldable pub packed_text : Answer Span → ℕ
unfolding packed
packed_text (answers x) = packed 0 x.start x.count 0
packed_text (refuses number place) = packed number place 0 0
