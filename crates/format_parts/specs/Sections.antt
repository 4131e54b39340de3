-- A section of a file, from its start to its end.
use Rattle.std.specs.Prelude.{ℕ, ◌-◌, ◌/◌}
use Rattle.format_parts.specs.declared.sections.Section.{Section}

abbrev pub section_of : ℕ → ℕ → ℕ → Section
section_of start end size = record { start = start; count = (end - start) / size }
