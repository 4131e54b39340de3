-- The lines of bindings as the code reads them: the n bindings from word i of a binding buffer on, three words each.
use Rattle.std.specs.Prelude.{ℕ, zero, suc, ◌+◌, List, [], ◌++◌, get_or}
use Rattle.app_report.specs.Telling.{binding_line}

unfoldable pub word_lines : List ℕ → List ℕ → ℕ → ℕ → List ℕ
word_lines v words i zero = []
word_lines v words i (suc n) = binding_line v (get_or words i 0) (get_or words (i + 1) 0) (get_or words (i + 2) 0) ++ word_lines v words (i + 3) n
