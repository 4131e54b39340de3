-- What a row has in a column and which column is tested, in the code's words.
use Rattle.std.specs.Prelude.{ℕ, Option}

-- a test, by its pattern's number; none for a wildcard
abbrev pub Held : Type 0
Held = Option ℕ

-- a column, by its class; none for the first row's leaf
abbrev pub Choice : Type 0
Choice = Option ℕ
