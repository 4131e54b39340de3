-- What a writer leaves: a text stored from a position on, and the position after it. A writer asks for no room: what would lie past the
-- end is not stored, and the position answered is then past the end, whatever it is.
use Rattle.std.specs.Prelude.{◌≡◌, List, ℕ, ◌+◌, ◌≤◌, ◌<◌, length}
use Rattle.base_words.specs.Stored.{stored}

pub record Writes (before after : List ℕ) (at end : ℕ) (text : List ℕ) : Type 0 where
  pub bytes : after ≡ stored before at text
  pub inside : at + length text ≤ length before → end ≡ at + length text
  pub past : length before < at + length text → length before < end

-- A loop that writes a whole text stands before the rest of it: whoever writes the rest from here on has written the whole.
pub record Begun (before now : List ℕ) (from at : ℕ) (whole rest : List ℕ) : Type 0 where
  pub as_long : length now ≡ length before
  pub ends : (after : List ℕ) (end : ℕ) → Writes now after at end rest → Writes before after from end whole
