-- The definition at work on the sheet and the panels of 01's proved cases: `n1 the root less one`, `n2 its first element`, and a panel of no bytes.
-- Each holds by computing.
use Rattle.std.specs.Prelude.{◌≡◌, refl, [], ◌∷◌}
use Rattle.spec_rules.specs.Sections.{panel_file_of}
use Rattle.spec_rules.specs.Samples.{sheet1, panel2, panel3, panel4}
use Rattle.app_report.specs.Telling.{telling}

-- leaf 0
-- n1 record 0 dropped 1 list 1
P2_told : telling sheet1 panel2
    ≡ 108 ∷ 101 ∷ 97 ∷ 102 ∷ 32 ∷ 48 ∷ 10
    ∷ 110 ∷ 49 ∷ 32 ∷ 114 ∷ 101 ∷ 99 ∷ 111 ∷ 114 ∷ 100 ∷ 32 ∷ 48 ∷ 32 ∷ 100 ∷ 114 ∷ 111 ∷ 112 ∷ 112 ∷ 101 ∷ 100 ∷ 32 ∷ 49
    ∷ 32 ∷ 108 ∷ 105 ∷ 115 ∷ 116 ∷ 32 ∷ 49 ∷ 10 ∷ []
unfolding telling
P2_told = refl

-- leaf 1
-- n2 record 1 dropped 0 int 5
P3_told : telling sheet1 panel3
    ≡ 108 ∷ 101 ∷ 97 ∷ 102 ∷ 32 ∷ 49 ∷ 10
    ∷ 110 ∷ 50 ∷ 32 ∷ 114 ∷ 101 ∷ 99 ∷ 111 ∷ 114 ∷ 100 ∷ 32 ∷ 49 ∷ 32 ∷ 100 ∷ 114 ∷ 111 ∷ 112 ∷ 112 ∷ 101 ∷ 100 ∷ 32 ∷ 48
    ∷ 32 ∷ 105 ∷ 110 ∷ 116 ∷ 32 ∷ 53 ∷ 10 ∷ []
unfolding telling panel_file_of
P3_told = refl

-- leaf 2
P4_told : telling sheet1 panel4 ≡ 108 ∷ 101 ∷ 97 ∷ 102 ∷ 32 ∷ 50 ∷ 10 ∷ []
unfolding telling panel_file_of
P4_told = refl

-- refused 21 0
no_panel_told : telling sheet1 [] ≡ 114 ∷ 101 ∷ 102 ∷ 117 ∷ 115 ∷ 101 ∷ 100 ∷ 32 ∷ 50 ∷ 49 ∷ 32 ∷ 48 ∷ 10 ∷ []
unfolding telling
no_panel_told = refl
