-- 01, "Proved cases": P1 to P12 over the definitions, from the bytes of sheets and panels; four sheets and a list switch more (P13 to P17),
-- 32 with its place (P18 to P22), and refusal 1.
-- Each holds by computing; the bytes are in Samples.
use Rattle.std.specs.Prelude.{ℕ, ◌-◌, ◌≡◌, refl, true, false, List, [], ◌∷◌}
use Rattle.base_words.specs.Words.{text_at, zeros}
use Rattle.spec_rules.specs.Limits.{tree_room, work_room, bound_room}
use Rattle.spec_rules.specs.Sections.{sheet_file_of, panel_file_of}
use Rattle.spec_rules.specs.SheetRefusals.{accepted, refused, verdict}
use Rattle.spec_rules.specs.SheetFile.{subject, types_at, constructors_at, entries_at, patterns_at, children_at, clauses_at, pool_at, pool_end}
use Rattle.spec_rules.specs.PanelFile.{records_at, parts_at, panel_pool_at, panel_pool_end}
use Rattle.spec_rules.specs.Rows.{pair, tuple, constr, list, listtail, Path, Binding}
use Rattle.spec_rules.specs.Splitting.{Constr, Int, ListOf, ListWithTail}
use Rattle.spec_rules.specs.Building.{Tree, absent, leaf, hoist, switch, listswitch, cnil, ccons}
use Rattle.spec_rules.specs.TreeFile.{tree_file}
use Rattle.spec_rules.specs.TreeReader.{tree_fits, tree_of}
use Rattle.spec_rules.specs.Walking.{reached, no_leaf, walk}
use Rattle.spec_rules.specs.Calls.{answers, refuses, leaf_of, without_leaf, stuck_at, sheet_tree, sheet_tree_file, build_answer, fit_call, walk_call, text_part, meaning}
use Rattle.spec_rules.specs.Listing.{sheet_listing}
use Rattle.spec_rules.specs.Samples.{sheet1, panel2, panel3, panel4, panel5, sheet6, sheet7, panel7, panel18, sheet8, sheet9, sheet10, sheet11, sheet12, sheet13, sheet14, sheet15, sheet16, file1, listing1}

-- ---- P1 "this tree"
abbrev n1 : List Binding
n1 = record { name = 1; path = listtail 1 0 ∷ [] } ∷ []

abbrev n2 : List Binding
n2 = record { name = 2; path = list 0 0 ∷ [] } ∷ []

-- the text `1` starts at 0 of the pool, `2` at 1
abbrev tree1 : Tree
tree1 =
    hoist 0 n1
    (hoist 2 []
    (listswitch []
    (ccons (ListOf 1) 0 (switch (list 0 0 ∷ []) (ccons (Int (49 ∷ [])) 0 (leaf 0 n1) cnil) (leaf 2 []))
    (ccons (ListOf 2) 0
    (switch (list 0 0 ∷ []) (ccons (Int (49 ∷ [])) 0 (leaf 0 n1) cnil)
    (switch (list 1 0 ∷ []) (ccons (Int (50 ∷ [])) 1 (hoist 1 n2 (leaf 1 n2)) cnil) (leaf 2 [])))
    cnil))
    (ccons (ListWithTail 1) 0 (switch (list 0 0 ∷ []) (ccons (Int (49 ∷ [])) 0 (leaf 0 n1) cnil) (leaf 2 [])) cnil)
    (leaf 2 [])))

P1 : sheet_tree sheet1 ≡ tree1
unfolding sheet_tree
P1 = refl

P1_accepted : verdict sheet1 ≡ accepted
unfolding verdict
P1_accepted = refl

-- What is computed for the other sheets and panels is what stands here: the file of its own sections, trailer included.
abbrev between : List ℕ → ℕ → ℕ → List ℕ
between s from to = text_at s from (to - from)

P1_sections : sheet_file_of (record {
  types = between sheet1 (types_at sheet1) (constructors_at sheet1);
  constructors = between sheet1 (constructors_at sheet1) (entries_at sheet1);
  entries = between sheet1 (entries_at sheet1) (patterns_at sheet1);
  patterns = between sheet1 (patterns_at sheet1) (children_at sheet1);
  children = between sheet1 (children_at sheet1) (clauses_at sheet1);
  clauses = between sheet1 (clauses_at sheet1) (pool_at sheet1);
  pool = between sheet1 (pool_at sheet1) (pool_end sheet1);
  subject = subject sheet1;
}) ≡ sheet1
unfolding sheet_file_of types_at constructors_at entries_at patterns_at children_at clauses_at pool_at pool_end subject
P1_sections = refl

P2_sections : panel_file_of (record {
  records = between panel2 (records_at panel2) (parts_at panel2);
  parts = between panel2 (parts_at panel2) (panel_pool_at panel2);
  pool = between panel2 (panel_pool_at panel2) (panel_pool_end panel2);
}) ≡ panel2
unfolding panel_file_of records_at parts_at panel_pool_at panel_pool_end
P2_sections = refl

P1_built : build_answer sheet1 tree_room work_room ≡ answers (record { bytes = 322; nodes = 16; bindings = 6 })
unfolding build_answer
P1_built = refl

P1_file : sheet_tree_file sheet1 ≡ file1
unfolding sheet_tree_file
P1_file = refl

P1_reads : tree_fits file1 ≡ true
unfolding tree_fits
P1_reads = refl

P1_read : tree_of file1 ≡ tree1
unfolding tree_of
P1_read = refl

P1_listing : sheet_listing sheet1 ≡ listing1
unfolding sheet_listing
P1_listing = refl

-- ---- P2 to P5, "walks on it": the answer and every word of the binding buffer, and what the sheet means on the panel
-- "n1 the root less one"
P2 : walk_call file1 panel2 bound_room ≡ record { answer = answers (leaf_of 0 1); bound = 1 ∷ 0 ∷ 1 ∷ zeros 573 }
unfolding walk_call
P2 = refl

-- "n2 its first element", which the panel shows as 5
P3 : walk_call file1 panel3 bound_room ≡ record { answer = answers (leaf_of 1 1); bound = 2 ∷ 1 ∷ 0 ∷ zeros 573 }
unfolding walk_call panel_file_of
P3 = refl

P3_text : text_part panel3 1 0 ≡ 53 ∷ []
unfolding text_part panel_file_of
P3_text = refl

P4 : walk_call file1 panel4 bound_room ≡ record { answer = answers (leaf_of 2 0); bound = zeros 576 }
unfolding walk_call panel_file_of
P4 = refl

P5 : walk_call file1 panel5 bound_room ≡ record { answer = answers (leaf_of 2 0); bound = zeros 576 }
unfolding walk_call panel_file_of
P5 = refl

P2_meaning : walk tree1 panel2 ≡ meaning sheet1 panel2
unfolding walk meaning
P2_meaning = refl

P3_meaning : walk tree1 panel3 ≡ meaning sheet1 panel3
unfolding walk meaning panel_file_of
P3_meaning = refl

P4_meaning : walk tree1 panel4 ≡ meaning sheet1 panel4
unfolding walk meaning panel_file_of
P4_meaning = refl

P5_meaning : walk tree1 panel5 ≡ meaning sheet1 panel5
unfolding walk meaning panel_file_of
P5_meaning = refl

P5_fits : fit_call sheet1 panel5 ≡ accepted
unfolding fit_call panel_file_of
P5_fits = refl

-- ---- P6 "clause 1 hoists at the root, clause 0 at its leaf"
P6 : sheet_tree sheet6 ≡ hoist 1 [] (switch [] (ccons (Int (55 ∷ [])) 0 (hoist 0 [] (leaf 0 [])) cnil) (leaf 1 []))
unfolding sheet_tree sheet_file_of
P6 = refl

-- ---- P7 "`7` alone on 8: no leaf"
P7 : walk_call (sheet_tree_file sheet7) panel7 bound_room ≡ record { answer = answers without_leaf; bound = zeros 576 }
unfolding walk_call sheet_tree_file sheet_file_of panel_file_of
P7 = refl

P7_meaning : meaning sheet7 panel7 ≡ no_leaf
unfolding meaning sheet_file_of panel_file_of
P7_meaning = refl

-- an integer does not fit a sheet of lists
P7_misfit : fit_call sheet1 panel7 ≡ refused 25 0
unfolding fit_call panel_file_of
P7_misfit = refl

-- ---- P8 "refusal 14, clause 1"
P8 : build_answer sheet8 tree_room work_room ≡ refuses 14 1
unfolding build_answer sheet_file_of
P8 = refl

-- ---- P9 "accepted, default leaf 2"
P9 : sheet_tree sheet9
    ≡ hoist 2 []
    (switch []
    (ccons (Constr 1) 0 (hoist 0 [] (leaf 0 []))
    (ccons (Constr 0) 0 (hoist 1 [] (leaf 1 [])) cnil))
    (leaf 2 []))
unfolding sheet_tree sheet_file_of
P9 = refl

P9_built : build_answer sheet9 tree_room work_room ≡ answers (record { bytes = 118; nodes = 7; bindings = 0 })
unfolding build_answer sheet_file_of
P9_built = refl

-- ---- P10 "tuple_1 is tested first"
P10 : sheet_tree sheet10
    ≡ hoist 1 []
    (switch (tuple 1 0 ∷ [])
    (ccons (Int (50 ∷ [])) 1
    (switch (tuple 0 0 ∷ []) (ccons (Int (49 ∷ [])) 0 (hoist 0 [] (leaf 0 [])) cnil) (leaf 1 []))
    cnil)
    absent)
unfolding sheet_tree sheet_file_of
P10 = refl

-- ---- P11 "tuple_0"
P11 : sheet_tree sheet11
    ≡ hoist 1 []
    (switch (tuple 0 0 ∷ [])
    (ccons (Int (49 ∷ [])) 0
    (hoist 0 [] (switch (tuple 1 0 ∷ []) (ccons (Int (50 ∷ [])) 1 (leaf 0 []) cnil) absent))
    (ccons (Int (51 ∷ [])) 2
    (switch (tuple 1 0 ∷ []) (ccons (Int (52 ∷ [])) 3 (leaf 1 []) cnil) absent)
    cnil))
    absent)
unfolding sheet_tree sheet_file_of
P11 = refl

-- ---- P12 "no clause: 4"
P12 : build_answer sheet12 tree_room work_room ≡ refuses 4 0
unfolding build_answer sheet_file_of
P12 = refl

-- ---- one more: (1,1), (1,2), (2,3). Clause 1 hoists above the switch on tuple_1, since the last leaf of a switch is noted once
-- more at that switch's own place.
P13 : sheet_tree sheet13
    ≡ hoist 2 []
    (switch (tuple 0 0 ∷ [])
    (ccons (Int (49 ∷ [])) 0
    (hoist 1 []
    (switch (tuple 1 0 ∷ [])
    (ccons (Int (49 ∷ [])) 0 (hoist 0 [] (leaf 0 []))
    (ccons (Int (50 ∷ [])) 1 (leaf 1 []) cnil))
    absent))
    (ccons (Int (50 ∷ [])) 1
    (switch (tuple 1 0 ∷ []) (ccons (Int (51 ∷ [])) 2 (leaf 2 []) cnil) absent)
    cnil))
    absent)
unfolding sheet_tree sheet_file_of
P13 = refl

-- ---- one more: (1,_), (_,2), (_,3). tuple_0 is tested first, though more rows have a test in tuple_1: its count ends at the
-- first wildcard, which is in the first row.
P14 : sheet_tree sheet14
    ≡ hoist 2 []
    (switch (tuple 0 0 ∷ [])
    (ccons (Int (49 ∷ [])) 0 (hoist 0 [] (leaf 0 [])) cnil)
    (switch (tuple 1 0 ∷ [])
    (ccons (Int (50 ∷ [])) 1 (hoist 1 [] (leaf 1 []))
    (ccons (Int (51 ∷ [])) 2 (leaf 2 []) cnil))
    absent))
unfolding sheet_tree sheet_file_of
P14 = refl

-- ---- one more: `1`, discard, `2`. The case of `2` starts with the default rows so far, so that the discard takes it.
P15 : build_answer sheet15 tree_room work_room ≡ refuses 14 2
unfolding build_answer sheet_file_of
P15 = refl

-- ---- one more: (1,_,C1 5), (2,C0 5,_), (_,C0 n1,C1 n2). Clause 2's hoist has n1 before n2, as its leaf that is built first, in the
-- default; its leaf that is listed first has n2 before n1.
abbrev C0_part : Path
C0_part = tuple 1 0 ∷ constr 0 false 2 ∷ []

abbrev C1_part : Path
C1_part = tuple 2 0 ∷ constr 0 false 2 ∷ []

abbrev n1_n2 : List Binding
n1_n2 = record { name = 1; path = C0_part } ∷ record { name = 2; path = C1_part } ∷ []

abbrev n2_n1 : List Binding
n2_n1 = record { name = 2; path = C1_part } ∷ record { name = 1; path = C0_part } ∷ []

P16 : sheet_tree sheet16
    ≡ hoist 2 n1_n2
    (switch (tuple 0 0 ∷ [])
    (ccons (Int (49 ∷ [])) 0
    (switch (tuple 2 0 ∷ [])
    (ccons (Constr 1) 0
    (switch C1_part (ccons (Int (53 ∷ [])) 1 (hoist 0 [] (leaf 0 [])) cnil)
    (switch (tuple 1 0 ∷ []) (ccons (Constr 0) 0 (leaf 2 n2_n1) cnil) absent))
    cnil)
    absent)
    (ccons (Int (50 ∷ [])) 2
    (switch (tuple 1 0 ∷ [])
    (ccons (Constr 0) 0
    (switch C0_part (ccons (Int (53 ∷ [])) 1 (hoist 1 [] (leaf 1 [])) cnil)
    (switch (tuple 2 0 ∷ []) (ccons (Constr 1) 0 (leaf 2 n1_n2) cnil) absent))
    cnil)
    absent)
    cnil))
    (switch (tuple 1 0 ∷ [])
    (ccons (Constr 0) 0 (switch (tuple 2 0 ∷ []) (ccons (Constr 1) 0 (leaf 2 n1_n2) cnil) absent) cnil)
    absent))
unfolding sheet_tree sheet_file_of
P16 = refl

-- ---- one more: [5,2,7] at a list switch with ListWithTail(1), (3), (2) and (4) goes to ListWithTail(3), the largest not above its
-- length, wherever it stands.
P17 : walk
    (listswitch [] cnil
    (ccons (ListWithTail 1) 0 (leaf 1 [])
    (ccons (ListWithTail 3) 0 (leaf 3 [])
    (ccons (ListWithTail 2) 0 (leaf 2 [])
    (ccons (ListWithTail 4) 0 (leaf 4 []) cnil))))
    absent)
    panel5
    ≡ reached 3 []
unfolding walk panel_file_of
P17 = refl

-- ---- 32 says the node and the step; (5,5) is the panel of P19 to P22
-- at a test on the empty path: an integer at P1's list switch
P18 : walk_call file1 panel7 bound_room ≡ record { answer = answers (stuck_at 2 0); bound = zeros 576 }
unfolding walk_call panel_file_of
P18 = refl

-- at the first step
P19 : walk_call (tree_file [] (listswitch (pair 0 0 ∷ []) (ccons (ListOf 0) 0 (leaf 0 []) cnil) cnil absent)) panel18 bound_room
    ≡ record { answer = answers (stuck_at 0 0); bound = zeros 576 }
unfolding walk_call tree_file panel_file_of
P19 = refl

-- at the second of two steps, with a default that is not taken
P20 : walk_call (tree_file [] (switch (tuple 1 0 ∷ pair 0 1 ∷ []) (ccons (Constr 0) 0 (leaf 0 []) cnil) (leaf 1 []))) panel18 bound_room
    ≡ record { answer = answers (stuck_at 0 1); bound = zeros 576 }
unfolding walk_call tree_file panel_file_of
P20 = refl

-- under a hoist, at a leaf's second binding: its first can be followed, and its third sticks at another step
abbrev n123 : List Binding
n123 =
    record { name = 1; path = [] }
    ∷ record { name = 2; path = tuple 1 0 ∷ pair 0 1 ∷ [] }
    ∷ record { name = 3; path = pair 0 0 ∷ [] }
    ∷ []

P21 : walk_call (tree_file [] (hoist 0 n123 (leaf 0 n123))) panel18 bound_room ≡ record { answer = answers (stuck_at 1 1); bound = zeros 576 }
unfolding walk_call tree_file panel_file_of
P21 = refl

-- behind a default, at a test: the default's list switch is reached, and not the first case's
abbrev part1 : ℕ → Tree
part1 c = listswitch (tuple 1 0 ∷ []) (ccons (ListOf 0) 0 (leaf c []) cnil) cnil absent

P22 : walk_call (tree_file (49 ∷ []) (switch (tuple 0 0 ∷ []) (ccons (Int (49 ∷ [])) 0 (part1 0) cnil) (part1 1))) panel18 bound_room
    ≡ record { answer = answers (stuck_at 3 1); bound = zeros 576 }
unfolding walk_call tree_file panel_file_of
P22 = refl

-- ---- refusal 1: a buffer one byte, or one u16, too small
P1_room : build_answer sheet1 65535 work_room ≡ refuses 1 0
unfolding build_answer
P1_room = refl

P2_room : walk_call file1 panel2 575 ≡ record { answer = refuses 1 0; bound = zeros 575 }
unfolding walk_call
P2_room = refl
