-- Elements stored at a place of a list.
-- Rests on the library's `sets`; the laws are in StoredLaws.
use Rattle.std.specs.Prelude.{List, ℕ}
use Rattle.std.proofs.lemmas.List.Edits.{sets}

-- l with vs from index i on; what would lie past the end of l is not stored
module _ {ℓ} {A : Type ℓ} where
  unfoldable pub stored : List A → ℕ → List A → List A
  stored l i vs = sets l i vs
