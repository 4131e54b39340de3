-- Closed examples over P1's sheet: the definitions compute.
use Rattle.std.specs.Prelude.{◌≡◌, refl, [], ◌∷◌}
use Rattle.spec_rules.specs.Rows.{list, listtail}
use Rattle.spec_rules.specs.Samples.{sheet1}
use Rattle.build_table.specs.Standing.{standing, class_of, cell_of}

tail_stands : standing sheet1 2 ≡ record { clause = 0; path = listtail 1 0 ∷ []; type = 0; owner = 1 }
unfolding standing
tail_stands = refl

second_stands : standing sheet1 5 ≡ record { clause = 1; path = list 1 0 ∷ []; type = 1; owner = 4 }
unfolding standing
second_stands = refl

-- pattern 4, n2, has the path of pattern 1
same_class : class_of sheet1 4 ≡ 1
unfolding class_of
same_class = refl

cell_of_second : cell_of sheet1 1 5 ≡ 6
unfolding cell_of
cell_of_second = refl
