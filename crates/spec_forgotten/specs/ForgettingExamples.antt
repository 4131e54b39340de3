-- The definitions at work on the bytes of P1, P7, P9 and P11: each holds by computing.
use Rattle.std.specs.Prelude.{◌≡◌, refl, false, [], ◌∷◌}
use Rattle.spec_rules.specs.SheetFile.{subject}
use Rattle.spec_rules.specs.Sections.{sheet_file_of}
use Rattle.spec_rules.specs.Calls.{sheet_tree}
use Rattle.spec_rules.specs.Samples.{sheet1, sheet7, sheet9, sheet11}
use Rattle.spec_forgotten.specs.Values.{Value, an_integer, whole, a_list, a_tuple, a_constructor, vnil, vcons, of_type, at_clause, walk_on}
use Rattle.spec_forgotten.specs.Forgetting.{Forgets, Forgotten}

-- P7: `7` alone. 8 is forgotten, at node 1, below the hoist, with no test before it.
eight : Value
eight = an_integer (56 ∷ [])

P7_forgets : Forgets sheet7 eight 1 []
unfolding of_type walk_on sheet_tree subject eight sheet_file_of
P7_forgets = record { typed = refl; ends = refl }

-- P1: [5,2,7] ends at clause 2
P1_walk : walk_on 0 (sheet_tree sheet1) (whole a_list (vcons (an_integer (53 ∷ [])) (vcons (an_integer (50 ∷ [])) (vcons (an_integer (55 ∷ [])) vnil)))) ≡ at_clause 2
unfolding walk_on sheet_tree
P1_walk = refl

-- P9: constructors 0 and 1 end at clauses 1 and 0; there is no third
P9_zero : walk_on 0 (sheet_tree sheet9) (whole (a_constructor 0) vnil) ≡ at_clause 1
unfolding walk_on sheet_tree sheet_file_of
P9_zero = refl

P9_two : of_type sheet9 (subject sheet9) (whole (a_constructor 2) vnil) ≡ false
unfolding of_type subject sheet_file_of
P9_two = refl

-- P11: (1,2), (3,4). (5,2) falls out of the first switch, node 1; (3,2) passes it by Case(1), written 2, and falls out of node 5
P11_first : Forgotten sheet11 1 []
unfolding of_type walk_on sheet_tree subject sheet_file_of
P11_first = (whole a_tuple (vcons (an_integer (53 ∷ [])) (vcons (an_integer (50 ∷ [])) vnil)), record { typed = refl; ends = refl })

P11_later : Forgotten sheet11 5 (record { node = 1; branch = 2 } ∷ [])
unfolding of_type walk_on sheet_tree subject sheet_file_of
P11_later = (whole a_tuple (vcons (an_integer (51 ∷ [])) (vcons (an_integer (50 ∷ [])) vnil)), record { typed = refl; ends = refl })
