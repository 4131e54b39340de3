-- Going over the numbers i, i + 1, .. of a section's records: all, the lowest, how many.
-- Each goes from the front, as a loop does.
use Rattle.std.specs.Prelude.{ℕ, zero, suc, ◌+◌, Bool, true, false}
use Rattle.std.proofs.Math.Option.{Option, none, some}
use Rattle.base_words.specs.Words.{both}

-- f holds of each of the n numbers from i on
unfoldable pub every : (ℕ → Bool) → ℕ → ℕ → Bool
every f i zero = true
every f i (suc n) = both (f i) (every f (i + 1) n)

-- the lowest of the n numbers from i on of which f holds
unfoldable pub lowest : (ℕ → Bool) → ℕ → ℕ → Option ℕ
lowest f i zero = none
lowest f i (suc n) = elim (f i) [ true ↦ some i | false ↦ lowest f (i + 1) n ]

-- of how many of the n numbers from i on f holds
unfoldable pub times : (ℕ → Bool) → ℕ → ℕ → ℕ
times f i zero = 0
times f i (suc n) = elim (f i) [ true ↦ suc (times f (i + 1) n) | false ↦ times f (i + 1) n ]
