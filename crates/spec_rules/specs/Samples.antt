-- The sheets and panels of 01's proved cases P1 to P12 and of four cases more, the tree file of P1's sheet and its listing, as bytes.
-- P1's sheet, its tree file and P2's panel are whole files, trailer included; of the others the sections are written out, and where
-- each starts is computed. A comment says what each run of bytes is; Proved has what is proved of them.
use Rattle.std.specs.Prelude.{ℕ, List, [], ◌∷◌}
use Rattle.spec_rules.specs.Sections.{sheet_file_of, panel_file_of}

-- P1: subject List of Int; clauses `[1, ..n1]`, `[n2, 2]`, discard
abbrev pub sheet1 : List ℕ
sheet1 =
    -- type 0: List, entry 0
    2 ∷ 0 ∷ 0 ∷ 0 ∷ 1 ∷ 0 ∷
    -- type 1: Int
    0 ∷ 0 ∷ 0 ∷ 0 ∷ 0 ∷ 0 ∷
    -- the type list
    1 ∷ 0 ∷
    -- pattern 0: list with tail, children 1, 2
    6 ∷ 0 ∷ 0 ∷ 0 ∷ 0 ∷ 0 ∷ 2 ∷ 0 ∷
    -- pattern 1: integer 1
    3 ∷ 0 ∷ 0 ∷ 0 ∷ 0 ∷ 0 ∷ 1 ∷ 0 ∷
    -- pattern 2: variable n1
    1 ∷ 0 ∷ 1 ∷ 0 ∷ 0 ∷ 0 ∷ 0 ∷ 0 ∷
    -- pattern 3: list, children 4, 5
    5 ∷ 0 ∷ 0 ∷ 0 ∷ 2 ∷ 0 ∷ 2 ∷ 0 ∷
    -- pattern 4: variable n2
    1 ∷ 0 ∷ 2 ∷ 0 ∷ 0 ∷ 0 ∷ 0 ∷ 0 ∷
    -- pattern 5: integer 2
    3 ∷ 0 ∷ 0 ∷ 0 ∷ 1 ∷ 0 ∷ 1 ∷ 0 ∷
    -- pattern 6: discard
    0 ∷ 0 ∷ 0 ∷ 0 ∷ 0 ∷ 0 ∷ 0 ∷ 0 ∷
    -- the child list
    1 ∷ 0 ∷ 2 ∷ 0 ∷ 4 ∷ 0 ∷ 5 ∷ 0 ∷
    -- the clauses' roots
    0 ∷ 0 ∷ 3 ∷ 0 ∷ 6 ∷ 0 ∷
    -- the pool: 1 2
    49 ∷ 50 ∷
    -- the seven starts, the subject's type, the length
    0 ∷ 0 ∷ 12 ∷ 0 ∷ 12 ∷ 0 ∷ 14 ∷ 0 ∷ 70 ∷ 0 ∷ 78 ∷ 0 ∷ 84 ∷ 0 ∷ 0 ∷ 0 ∷ 104 ∷ 0 ∷ []

-- P2: [1,2]
abbrev pub panel2 : List ℕ
panel2 =
    -- record 0: list, parts 1, 2
    2 ∷ 0 ∷ 0 ∷ 0 ∷ 0 ∷ 0 ∷ 2 ∷ 0 ∷
    -- record 1: integer 1
    0 ∷ 0 ∷ 0 ∷ 0 ∷ 0 ∷ 0 ∷ 1 ∷ 0 ∷
    -- record 2: integer 2
    0 ∷ 0 ∷ 0 ∷ 0 ∷ 1 ∷ 0 ∷ 1 ∷ 0 ∷
    -- the child list
    1 ∷ 0 ∷ 2 ∷ 0 ∷
    -- the pool: 1 2
    49 ∷ 50 ∷
    -- the three starts, the length
    0 ∷ 0 ∷ 24 ∷ 0 ∷ 28 ∷ 0 ∷ 38 ∷ 0 ∷ []

-- P3: [5,2]
abbrev pub panel3 : List ℕ
panel3 = panel_file_of (record {
  records =
      -- record 0: list, parts 1, 2
      2 ∷ 0 ∷ 0 ∷ 0 ∷ 0 ∷ 0 ∷ 2 ∷ 0 ∷
      -- record 1: integer 5
      0 ∷ 0 ∷ 0 ∷ 0 ∷ 0 ∷ 0 ∷ 1 ∷ 0 ∷
      -- record 2: integer 2
      0 ∷ 0 ∷ 0 ∷ 0 ∷ 1 ∷ 0 ∷ 1 ∷ 0 ∷ [];
  parts = 1 ∷ 0 ∷ 2 ∷ 0 ∷ [];
  -- 5 2
  pool = 53 ∷ 50 ∷ [];
})

-- P4: []
abbrev pub panel4 : List ℕ
panel4 = panel_file_of (record {
  records =
      -- record 0: list
      2 ∷ 0 ∷ 0 ∷ 0 ∷ 0 ∷ 0 ∷ 0 ∷ 0 ∷ [];
  parts = [];
  pool = [];
})

-- P5: [5,2,7]
abbrev pub panel5 : List ℕ
panel5 = panel_file_of (record {
  records =
      -- record 0: list, parts 1, 2, 3
      2 ∷ 0 ∷ 0 ∷ 0 ∷ 0 ∷ 0 ∷ 3 ∷ 0 ∷
      -- record 1: integer 5
      0 ∷ 0 ∷ 0 ∷ 0 ∷ 0 ∷ 0 ∷ 1 ∷ 0 ∷
      -- record 2: integer 2
      0 ∷ 0 ∷ 0 ∷ 0 ∷ 1 ∷ 0 ∷ 1 ∷ 0 ∷
      -- record 3: integer 7
      0 ∷ 0 ∷ 0 ∷ 0 ∷ 2 ∷ 0 ∷ 1 ∷ 0 ∷ [];
  parts = 1 ∷ 0 ∷ 2 ∷ 0 ∷ 3 ∷ 0 ∷ [];
  -- 5 2 7
  pool = 53 ∷ 50 ∷ 55 ∷ [];
})

-- P6: `7`, discard
abbrev pub sheet6 : List ℕ
sheet6 = sheet_file_of (record {
  types =
      -- type 0: Int
      0 ∷ 0 ∷ 0 ∷ 0 ∷ 0 ∷ 0 ∷ [];
  constructors = [];
  entries = [];
  patterns =
      -- pattern 0: integer 7
      3 ∷ 0 ∷ 0 ∷ 0 ∷ 0 ∷ 0 ∷ 1 ∷ 0 ∷
      -- pattern 1: discard
      0 ∷ 0 ∷ 0 ∷ 0 ∷ 0 ∷ 0 ∷ 0 ∷ 0 ∷ [];
  children = [];
  clauses = 0 ∷ 0 ∷ 1 ∷ 0 ∷ [];
  -- 7
  pool = 55 ∷ [];
  subject = 0;
})

-- P7: `7` alone
abbrev pub sheet7 : List ℕ
sheet7 = sheet_file_of (record {
  types =
      -- type 0: Int
      0 ∷ 0 ∷ 0 ∷ 0 ∷ 0 ∷ 0 ∷ [];
  constructors = [];
  entries = [];
  patterns =
      -- pattern 0: integer 7
      3 ∷ 0 ∷ 0 ∷ 0 ∷ 0 ∷ 0 ∷ 1 ∷ 0 ∷ [];
  children = [];
  clauses = 0 ∷ 0 ∷ [];
  -- 7
  pool = 55 ∷ [];
  subject = 0;
})

-- P7: 8
abbrev pub panel7 : List ℕ
panel7 = panel_file_of (record {
  records =
      -- record 0: integer 8
      0 ∷ 0 ∷ 0 ∷ 0 ∷ 0 ∷ 0 ∷ 1 ∷ 0 ∷ [];
  parts = [];
  -- 8
  pool = 56 ∷ [];
})

-- P8: discard, `7`
abbrev pub sheet8 : List ℕ
sheet8 = sheet_file_of (record {
  types =
      -- type 0: Int
      0 ∷ 0 ∷ 0 ∷ 0 ∷ 0 ∷ 0 ∷ [];
  constructors = [];
  entries = [];
  patterns =
      -- pattern 0: discard
      0 ∷ 0 ∷ 0 ∷ 0 ∷ 0 ∷ 0 ∷ 0 ∷ 0 ∷
      -- pattern 1: integer 7
      3 ∷ 0 ∷ 0 ∷ 0 ∷ 0 ∷ 0 ∷ 1 ∷ 0 ∷ [];
  children = [];
  clauses = 0 ∷ 0 ∷ 1 ∷ 0 ∷ [];
  -- 7
  pool = 55 ∷ [];
  subject = 0;
})

-- P9: a two-constructor type, constructors 1, 0, discard
abbrev pub sheet9 : List ℕ
sheet9 = sheet_file_of (record {
  types =
      -- type 0: Data, constructors 0 to 1
      5 ∷ 0 ∷ 0 ∷ 0 ∷ 2 ∷ 0 ∷ [];
  constructors =
      -- constructor 0: no field
      0 ∷ 0 ∷ 0 ∷ 0 ∷
      -- constructor 1: no field
      0 ∷ 0 ∷ 0 ∷ 0 ∷ [];
  entries = [];
  patterns =
      -- pattern 0: constructor 1
      7 ∷ 0 ∷ 1 ∷ 0 ∷ 0 ∷ 0 ∷ 0 ∷ 0 ∷
      -- pattern 1: constructor 0
      7 ∷ 0 ∷ 0 ∷ 0 ∷ 0 ∷ 0 ∷ 0 ∷ 0 ∷
      -- pattern 2: discard
      0 ∷ 0 ∷ 0 ∷ 0 ∷ 0 ∷ 0 ∷ 0 ∷ 0 ∷ [];
  children = [];
  clauses = 0 ∷ 0 ∷ 1 ∷ 0 ∷ 2 ∷ 0 ∷ [];
  pool = [];
  subject = 0;
})

-- P10: (1,2), (_,2)
abbrev pub sheet10 : List ℕ
sheet10 = sheet_file_of (record {
  types =
      -- type 0: Tuple, entries 0 to 1
      4 ∷ 0 ∷ 0 ∷ 0 ∷ 2 ∷ 0 ∷
      -- type 1: Int
      0 ∷ 0 ∷ 0 ∷ 0 ∷ 0 ∷ 0 ∷ [];
  constructors = [];
  entries = 1 ∷ 0 ∷ 1 ∷ 0 ∷ [];
  patterns =
      -- pattern 0: tuple, children 1, 2
      9 ∷ 0 ∷ 0 ∷ 0 ∷ 0 ∷ 0 ∷ 2 ∷ 0 ∷
      -- pattern 1: integer 1
      3 ∷ 0 ∷ 0 ∷ 0 ∷ 0 ∷ 0 ∷ 1 ∷ 0 ∷
      -- pattern 2: integer 2
      3 ∷ 0 ∷ 0 ∷ 0 ∷ 1 ∷ 0 ∷ 1 ∷ 0 ∷
      -- pattern 3: tuple, children 4, 5
      9 ∷ 0 ∷ 0 ∷ 0 ∷ 2 ∷ 0 ∷ 2 ∷ 0 ∷
      -- pattern 4: discard
      0 ∷ 0 ∷ 0 ∷ 0 ∷ 0 ∷ 0 ∷ 0 ∷ 0 ∷
      -- pattern 5: integer 2
      3 ∷ 0 ∷ 0 ∷ 0 ∷ 1 ∷ 0 ∷ 1 ∷ 0 ∷ [];
  children = 1 ∷ 0 ∷ 2 ∷ 0 ∷ 4 ∷ 0 ∷ 5 ∷ 0 ∷ [];
  clauses = 0 ∷ 0 ∷ 3 ∷ 0 ∷ [];
  -- 1 2
  pool = 49 ∷ 50 ∷ [];
  subject = 0;
})

-- P11: (1,2), (3,4)
abbrev pub sheet11 : List ℕ
sheet11 = sheet_file_of (record {
  types =
      -- type 0: Tuple, entries 0 to 1
      4 ∷ 0 ∷ 0 ∷ 0 ∷ 2 ∷ 0 ∷
      -- type 1: Int
      0 ∷ 0 ∷ 0 ∷ 0 ∷ 0 ∷ 0 ∷ [];
  constructors = [];
  entries = 1 ∷ 0 ∷ 1 ∷ 0 ∷ [];
  patterns =
      -- pattern 0: tuple, children 1, 2
      9 ∷ 0 ∷ 0 ∷ 0 ∷ 0 ∷ 0 ∷ 2 ∷ 0 ∷
      -- pattern 1: integer 1
      3 ∷ 0 ∷ 0 ∷ 0 ∷ 0 ∷ 0 ∷ 1 ∷ 0 ∷
      -- pattern 2: integer 2
      3 ∷ 0 ∷ 0 ∷ 0 ∷ 1 ∷ 0 ∷ 1 ∷ 0 ∷
      -- pattern 3: tuple, children 4, 5
      9 ∷ 0 ∷ 0 ∷ 0 ∷ 2 ∷ 0 ∷ 2 ∷ 0 ∷
      -- pattern 4: integer 3
      3 ∷ 0 ∷ 0 ∷ 0 ∷ 2 ∷ 0 ∷ 1 ∷ 0 ∷
      -- pattern 5: integer 4
      3 ∷ 0 ∷ 0 ∷ 0 ∷ 3 ∷ 0 ∷ 1 ∷ 0 ∷ [];
  children = 1 ∷ 0 ∷ 2 ∷ 0 ∷ 4 ∷ 0 ∷ 5 ∷ 0 ∷ [];
  clauses = 0 ∷ 0 ∷ 3 ∷ 0 ∷ [];
  -- 1 2 3 4
  pool = 49 ∷ 50 ∷ 51 ∷ 52 ∷ [];
  subject = 0;
})

-- P12: no clause
abbrev pub sheet12 : List ℕ
sheet12 = sheet_file_of (record {
  types =
      -- type 0: Int
      0 ∷ 0 ∷ 0 ∷ 0 ∷ 0 ∷ 0 ∷ [];
  constructors = [];
  entries = [];
  patterns = [];
  children = [];
  clauses = [];
  pool = [];
  subject = 0;
})

-- one more, for the step-back notes: (1,1), (1,2), (2,3)
abbrev pub sheet13 : List ℕ
sheet13 = sheet_file_of (record {
  types =
      -- type 0: Tuple, entries 0 to 1
      4 ∷ 0 ∷ 0 ∷ 0 ∷ 2 ∷ 0 ∷
      -- type 1: Int
      0 ∷ 0 ∷ 0 ∷ 0 ∷ 0 ∷ 0 ∷ [];
  constructors = [];
  entries = 1 ∷ 0 ∷ 1 ∷ 0 ∷ [];
  patterns =
      -- pattern 0: tuple, children 1, 2
      9 ∷ 0 ∷ 0 ∷ 0 ∷ 0 ∷ 0 ∷ 2 ∷ 0 ∷
      -- pattern 1: integer 1
      3 ∷ 0 ∷ 0 ∷ 0 ∷ 0 ∷ 0 ∷ 1 ∷ 0 ∷
      -- pattern 2: integer 1
      3 ∷ 0 ∷ 0 ∷ 0 ∷ 0 ∷ 0 ∷ 1 ∷ 0 ∷
      -- pattern 3: tuple, children 4, 5
      9 ∷ 0 ∷ 0 ∷ 0 ∷ 2 ∷ 0 ∷ 2 ∷ 0 ∷
      -- pattern 4: integer 1
      3 ∷ 0 ∷ 0 ∷ 0 ∷ 0 ∷ 0 ∷ 1 ∷ 0 ∷
      -- pattern 5: integer 2
      3 ∷ 0 ∷ 0 ∷ 0 ∷ 1 ∷ 0 ∷ 1 ∷ 0 ∷
      -- pattern 6: tuple, children 7, 8
      9 ∷ 0 ∷ 0 ∷ 0 ∷ 4 ∷ 0 ∷ 2 ∷ 0 ∷
      -- pattern 7: integer 2
      3 ∷ 0 ∷ 0 ∷ 0 ∷ 1 ∷ 0 ∷ 1 ∷ 0 ∷
      -- pattern 8: integer 3
      3 ∷ 0 ∷ 0 ∷ 0 ∷ 2 ∷ 0 ∷ 1 ∷ 0 ∷ [];
  children = 1 ∷ 0 ∷ 2 ∷ 0 ∷ 4 ∷ 0 ∷ 5 ∷ 0 ∷ 7 ∷ 0 ∷ 8 ∷ 0 ∷ [];
  clauses = 0 ∷ 0 ∷ 3 ∷ 0 ∷ 6 ∷ 0 ∷ [];
  -- 1 2 3
  pool = 49 ∷ 50 ∷ 51 ∷ [];
  subject = 0;
})

-- one more, for the count: (1,_), (_,2), (_,3)
abbrev pub sheet14 : List ℕ
sheet14 = sheet_file_of (record {
  types =
      -- type 0: Tuple, entries 0 to 1
      4 ∷ 0 ∷ 0 ∷ 0 ∷ 2 ∷ 0 ∷
      -- type 1: Int
      0 ∷ 0 ∷ 0 ∷ 0 ∷ 0 ∷ 0 ∷ [];
  constructors = [];
  entries = 1 ∷ 0 ∷ 1 ∷ 0 ∷ [];
  patterns =
      -- pattern 0: tuple, children 1, 2
      9 ∷ 0 ∷ 0 ∷ 0 ∷ 0 ∷ 0 ∷ 2 ∷ 0 ∷
      -- pattern 1: integer 1
      3 ∷ 0 ∷ 0 ∷ 0 ∷ 0 ∷ 0 ∷ 1 ∷ 0 ∷
      -- pattern 2: discard
      0 ∷ 0 ∷ 0 ∷ 0 ∷ 0 ∷ 0 ∷ 0 ∷ 0 ∷
      -- pattern 3: tuple, children 4, 5
      9 ∷ 0 ∷ 0 ∷ 0 ∷ 2 ∷ 0 ∷ 2 ∷ 0 ∷
      -- pattern 4: discard
      0 ∷ 0 ∷ 0 ∷ 0 ∷ 0 ∷ 0 ∷ 0 ∷ 0 ∷
      -- pattern 5: integer 2
      3 ∷ 0 ∷ 0 ∷ 0 ∷ 1 ∷ 0 ∷ 1 ∷ 0 ∷
      -- pattern 6: tuple, children 7, 8
      9 ∷ 0 ∷ 0 ∷ 0 ∷ 4 ∷ 0 ∷ 2 ∷ 0 ∷
      -- pattern 7: discard
      0 ∷ 0 ∷ 0 ∷ 0 ∷ 0 ∷ 0 ∷ 0 ∷ 0 ∷
      -- pattern 8: integer 3
      3 ∷ 0 ∷ 0 ∷ 0 ∷ 2 ∷ 0 ∷ 1 ∷ 0 ∷ [];
  children = 1 ∷ 0 ∷ 2 ∷ 0 ∷ 4 ∷ 0 ∷ 5 ∷ 0 ∷ 7 ∷ 0 ∷ 8 ∷ 0 ∷ [];
  clauses = 0 ∷ 0 ∷ 3 ∷ 0 ∷ 6 ∷ 0 ∷ [];
  -- 1 2 3
  pool = 49 ∷ 50 ∷ 51 ∷ [];
  subject = 0;
})

-- one more, for the order of a hoist's bindings: (1,_,C1 5), (2,C0 5,_), (_,C0 n1,C1 n2)
abbrev pub sheet16 : List ℕ
sheet16 = sheet_file_of (record {
  types =
      -- type 0: Tuple, entries 0 to 2
      4 ∷ 0 ∷ 0 ∷ 0 ∷ 3 ∷ 0 ∷
      -- type 1: Int
      0 ∷ 0 ∷ 0 ∷ 0 ∷ 0 ∷ 0 ∷
      -- type 2: Data, constructors 0 to 1
      5 ∷ 0 ∷ 0 ∷ 0 ∷ 2 ∷ 0 ∷ [];
  constructors =
      -- constructor 0: fields
      0 ∷ 0 ∷ 1 ∷ 0 ∷
      -- constructor 1: fields
      0 ∷ 0 ∷ 1 ∷ 0 ∷ [];
  entries = 1 ∷ 0 ∷ 2 ∷ 0 ∷ 2 ∷ 0 ∷ [];
  patterns =
      -- pattern 0: tuple, children 1, 2, 3
      9 ∷ 0 ∷ 0 ∷ 0 ∷ 0 ∷ 0 ∷ 3 ∷ 0 ∷
      -- pattern 1: integer 1
      3 ∷ 0 ∷ 0 ∷ 0 ∷ 0 ∷ 0 ∷ 1 ∷ 0 ∷
      -- pattern 2: discard
      0 ∷ 0 ∷ 0 ∷ 0 ∷ 0 ∷ 0 ∷ 0 ∷ 0 ∷
      -- pattern 3: constructor 1, children 4
      7 ∷ 0 ∷ 1 ∷ 0 ∷ 3 ∷ 0 ∷ 1 ∷ 0 ∷
      -- pattern 4: integer 5
      3 ∷ 0 ∷ 0 ∷ 0 ∷ 1 ∷ 0 ∷ 1 ∷ 0 ∷
      -- pattern 5: tuple, children 6, 7, 9
      9 ∷ 0 ∷ 0 ∷ 0 ∷ 4 ∷ 0 ∷ 3 ∷ 0 ∷
      -- pattern 6: integer 2
      3 ∷ 0 ∷ 0 ∷ 0 ∷ 2 ∷ 0 ∷ 1 ∷ 0 ∷
      -- pattern 7: constructor 0, children 8
      7 ∷ 0 ∷ 0 ∷ 0 ∷ 7 ∷ 0 ∷ 1 ∷ 0 ∷
      -- pattern 8: integer 5
      3 ∷ 0 ∷ 0 ∷ 0 ∷ 1 ∷ 0 ∷ 1 ∷ 0 ∷
      -- pattern 9: discard
      0 ∷ 0 ∷ 0 ∷ 0 ∷ 0 ∷ 0 ∷ 0 ∷ 0 ∷
      -- pattern 10: tuple, children 11, 12, 14
      9 ∷ 0 ∷ 0 ∷ 0 ∷ 8 ∷ 0 ∷ 3 ∷ 0 ∷
      -- pattern 11: discard
      0 ∷ 0 ∷ 0 ∷ 0 ∷ 0 ∷ 0 ∷ 0 ∷ 0 ∷
      -- pattern 12: constructor 0, children 13
      7 ∷ 0 ∷ 0 ∷ 0 ∷ 11 ∷ 0 ∷ 1 ∷ 0 ∷
      -- pattern 13: variable n1
      1 ∷ 0 ∷ 1 ∷ 0 ∷ 0 ∷ 0 ∷ 0 ∷ 0 ∷
      -- pattern 14: constructor 1, children 15
      7 ∷ 0 ∷ 1 ∷ 0 ∷ 12 ∷ 0 ∷ 1 ∷ 0 ∷
      -- pattern 15: variable n2
      1 ∷ 0 ∷ 2 ∷ 0 ∷ 0 ∷ 0 ∷ 0 ∷ 0 ∷ [];
  children = 1 ∷ 0 ∷ 2 ∷ 0 ∷ 3 ∷ 0 ∷ 4 ∷ 0 ∷ 6 ∷ 0 ∷ 7 ∷ 0 ∷ 9 ∷ 0 ∷ 8 ∷ 0 ∷ 11 ∷ 0 ∷ 12 ∷ 0 ∷ 14 ∷ 0 ∷ 13 ∷ 0 ∷ 15 ∷ 0 ∷ [];
  clauses = 0 ∷ 0 ∷ 5 ∷ 0 ∷ 10 ∷ 0 ∷ [];
  -- 1 5 2
  pool = 49 ∷ 53 ∷ 50 ∷ [];
  subject = 0;
})

-- one more, for a new case: `1`, discard, `2`
abbrev pub sheet15 : List ℕ
sheet15 = sheet_file_of (record {
  types =
      -- type 0: Int
      0 ∷ 0 ∷ 0 ∷ 0 ∷ 0 ∷ 0 ∷ [];
  constructors = [];
  entries = [];
  patterns =
      -- pattern 0: integer 1
      3 ∷ 0 ∷ 0 ∷ 0 ∷ 0 ∷ 0 ∷ 1 ∷ 0 ∷
      -- pattern 1: discard
      0 ∷ 0 ∷ 0 ∷ 0 ∷ 0 ∷ 0 ∷ 0 ∷ 0 ∷
      -- pattern 2: integer 2
      3 ∷ 0 ∷ 0 ∷ 0 ∷ 1 ∷ 0 ∷ 1 ∷ 0 ∷ [];
  children = [];
  clauses = 0 ∷ 0 ∷ 1 ∷ 0 ∷ 2 ∷ 0 ∷ [];
  -- 1 2
  pool = 49 ∷ 50 ∷ [];
  subject = 0;
})

-- one more, for walks that are stuck: (5,5)
abbrev pub panel18 : List ℕ
panel18 = panel_file_of (record {
  records =
      -- record 0: tuple, parts 1, 2
      4 ∷ 0 ∷ 0 ∷ 0 ∷ 0 ∷ 0 ∷ 2 ∷ 0 ∷
      -- record 1: integer 5
      0 ∷ 0 ∷ 0 ∷ 0 ∷ 0 ∷ 0 ∷ 1 ∷ 0 ∷
      -- record 2: integer 5
      0 ∷ 0 ∷ 0 ∷ 0 ∷ 0 ∷ 0 ∷ 1 ∷ 0 ∷ [];
  parts = 1 ∷ 0 ∷ 2 ∷ 0 ∷ [];
  -- 5
  pool = 53 ∷ [];
})

-- the tree file of P1's sheet
abbrev pub file1 : List ℕ
file1 =
    -- node 0: hoist
    3 ∷ 0 ∷ 0 ∷ 0 ∷ 0 ∷ 0 ∷ 1 ∷ 0 ∷ 1 ∷ 0 ∷ 0 ∷ 0 ∷
    -- node 1: hoist
    3 ∷ 0 ∷ 2 ∷ 0 ∷ 0 ∷ 0 ∷ 0 ∷ 0 ∷ 2 ∷ 0 ∷ 0 ∷ 0 ∷
    -- node 2: list switch
    1 ∷ 0 ∷ 1 ∷ 0 ∷ 0 ∷ 0 ∷ 2 ∷ 0 ∷ 1 ∷ 0 ∷ 16 ∷ 0 ∷
    -- node 3: switch
    0 ∷ 0 ∷ 2 ∷ 0 ∷ 3 ∷ 0 ∷ 1 ∷ 0 ∷ 0 ∷ 0 ∷ 6 ∷ 0 ∷
    -- node 4: leaf
    2 ∷ 0 ∷ 0 ∷ 0 ∷ 1 ∷ 0 ∷ 1 ∷ 0 ∷ 0 ∷ 0 ∷ 0 ∷ 0 ∷
    -- node 5: leaf
    2 ∷ 0 ∷ 2 ∷ 0 ∷ 0 ∷ 0 ∷ 0 ∷ 0 ∷ 0 ∷ 0 ∷ 0 ∷ 0 ∷
    -- node 6: switch
    0 ∷ 0 ∷ 2 ∷ 0 ∷ 4 ∷ 0 ∷ 1 ∷ 0 ∷ 0 ∷ 0 ∷ 9 ∷ 0 ∷
    -- node 7: leaf
    2 ∷ 0 ∷ 0 ∷ 0 ∷ 2 ∷ 0 ∷ 1 ∷ 0 ∷ 0 ∷ 0 ∷ 0 ∷ 0 ∷
    -- node 8: switch
    0 ∷ 0 ∷ 3 ∷ 0 ∷ 5 ∷ 0 ∷ 1 ∷ 0 ∷ 0 ∷ 0 ∷ 12 ∷ 0 ∷
    -- node 9: hoist
    3 ∷ 0 ∷ 1 ∷ 0 ∷ 3 ∷ 0 ∷ 1 ∷ 0 ∷ 10 ∷ 0 ∷ 0 ∷ 0 ∷
    -- node 10: leaf
    2 ∷ 0 ∷ 1 ∷ 0 ∷ 4 ∷ 0 ∷ 1 ∷ 0 ∷ 0 ∷ 0 ∷ 0 ∷ 0 ∷
    -- node 11: leaf
    2 ∷ 0 ∷ 2 ∷ 0 ∷ 0 ∷ 0 ∷ 0 ∷ 0 ∷ 0 ∷ 0 ∷ 0 ∷ 0 ∷
    -- node 12: switch
    0 ∷ 0 ∷ 2 ∷ 0 ∷ 6 ∷ 0 ∷ 1 ∷ 0 ∷ 0 ∷ 0 ∷ 15 ∷ 0 ∷
    -- node 13: leaf
    2 ∷ 0 ∷ 0 ∷ 0 ∷ 5 ∷ 0 ∷ 1 ∷ 0 ∷ 0 ∷ 0 ∷ 0 ∷ 0 ∷
    -- node 14: leaf
    2 ∷ 0 ∷ 2 ∷ 0 ∷ 0 ∷ 0 ∷ 0 ∷ 0 ∷ 0 ∷ 0 ∷ 0 ∷ 0 ∷
    -- node 15: leaf
    2 ∷ 0 ∷ 2 ∷ 0 ∷ 0 ∷ 0 ∷ 0 ∷ 0 ∷ 0 ∷ 0 ∷ 0 ∷ 0 ∷
    -- case 0
    3 ∷ 0 ∷ 1 ∷ 0 ∷ 0 ∷ 0 ∷ 3 ∷ 0 ∷
    -- case 1
    3 ∷ 0 ∷ 2 ∷ 0 ∷ 0 ∷ 0 ∷ 6 ∷ 0 ∷
    -- case 2
    4 ∷ 0 ∷ 1 ∷ 0 ∷ 0 ∷ 0 ∷ 12 ∷ 0 ∷
    -- case 3
    1 ∷ 0 ∷ 0 ∷ 0 ∷ 1 ∷ 0 ∷ 4 ∷ 0 ∷
    -- case 4
    1 ∷ 0 ∷ 0 ∷ 0 ∷ 1 ∷ 0 ∷ 7 ∷ 0 ∷
    -- case 5
    1 ∷ 0 ∷ 1 ∷ 0 ∷ 1 ∷ 0 ∷ 9 ∷ 0 ∷
    -- case 6
    1 ∷ 0 ∷ 0 ∷ 0 ∷ 1 ∷ 0 ∷ 13 ∷ 0 ∷
    -- binding 0
    1 ∷ 0 ∷ 0 ∷ 0 ∷
    -- binding 1
    1 ∷ 0 ∷ 0 ∷ 0 ∷
    -- binding 2
    1 ∷ 0 ∷ 0 ∷ 0 ∷
    -- binding 3
    2 ∷ 0 ∷ 2 ∷ 0 ∷
    -- binding 4
    2 ∷ 0 ∷ 2 ∷ 0 ∷
    -- binding 5
    1 ∷ 0 ∷ 0 ∷ 0 ∷
    -- path 0
    0 ∷ 0 ∷ 1 ∷ 0 ∷
    -- path 1
    0 ∷ 0 ∷ 0 ∷ 0 ∷
    -- path 2
    1 ∷ 0 ∷ 1 ∷ 0 ∷
    -- path 3
    2 ∷ 0 ∷ 1 ∷ 0 ∷
    -- step 0
    4 ∷ 0 ∷ 1 ∷ 0 ∷ 0 ∷ 0 ∷
    -- step 1
    3 ∷ 0 ∷ 0 ∷ 0 ∷ 0 ∷ 0 ∷
    -- step 2
    3 ∷ 0 ∷ 1 ∷ 0 ∷ 0 ∷ 0 ∷
    -- the pool
    49 ∷ 50 ∷
    -- the six starts, the length
    0 ∷ 0 ∷ 192 ∷ 0 ∷ 248 ∷ 0 ∷ 16 ∷ 1 ∷ 32 ∷ 1 ∷ 50 ∷ 1 ∷ 66 ∷ 1 ∷ []

-- 01's one listing, line by line
abbrev pub listing1 : List ℕ
listing1 =
    -- tree 16 6
    116 ∷ 114 ∷ 101 ∷ 101 ∷ 32 ∷ 49 ∷ 54 ∷ 32 ∷ 54 ∷ 10 ∷
    -- 0 hoist 0 then 1 n1=listtail_1
    48 ∷ 32 ∷ 104 ∷ 111 ∷ 105 ∷ 115 ∷ 116 ∷ 32 ∷ 48 ∷ 32 ∷ 116 ∷ 104 ∷ 101 ∷ 110 ∷ 32 ∷ 49 ∷ 32 ∷ 110 ∷ 49 ∷ 61 ∷ 108 ∷ 105 ∷ 115 ∷ 116 ∷ 116 ∷ 97 ∷ 105 ∷ 108 ∷ 95 ∷ 49 ∷ 10 ∷
    -- 1 hoist 2 then 2
    49 ∷ 32 ∷ 104 ∷ 111 ∷ 105 ∷ 115 ∷ 116 ∷ 32 ∷ 50 ∷ 32 ∷ 116 ∷ 104 ∷ 101 ∷ 110 ∷ 32 ∷ 50 ∷ 10 ∷
    -- 2 listswitch . List(1):3 List(2):6 ListWithTail(1):12 else 15
    50 ∷ 32 ∷ 108 ∷ 105 ∷ 115 ∷ 116 ∷ 115 ∷ 119 ∷ 105 ∷ 116 ∷ 99 ∷ 104 ∷ 32 ∷ 46 ∷ 32 ∷ 76 ∷ 105 ∷ 115 ∷ 116 ∷ 40 ∷ 49 ∷ 41 ∷ 58 ∷ 51 ∷ 32 ∷ 76 ∷ 105 ∷ 115 ∷ 116 ∷ 40 ∷ 50 ∷ 41 ∷ 58 ∷ 54 ∷ 32 ∷ 76 ∷ 105 ∷ 115 ∷ 116 ∷ 87 ∷ 105 ∷ 116 ∷ 104 ∷ 84 ∷ 97 ∷ 105 ∷ 108 ∷ 40 ∷ 49 ∷ 41 ∷ 58 ∷ 49 ∷ 50 ∷ 32 ∷ 101 ∷ 108 ∷ 115 ∷ 101 ∷ 32 ∷ 49 ∷ 53 ∷ 10 ∷
    -- 3 switch list_0 Int(1):4 else 5
    51 ∷ 32 ∷ 115 ∷ 119 ∷ 105 ∷ 116 ∷ 99 ∷ 104 ∷ 32 ∷ 108 ∷ 105 ∷ 115 ∷ 116 ∷ 95 ∷ 48 ∷ 32 ∷ 73 ∷ 110 ∷ 116 ∷ 40 ∷ 49 ∷ 41 ∷ 58 ∷ 52 ∷ 32 ∷ 101 ∷ 108 ∷ 115 ∷ 101 ∷ 32 ∷ 53 ∷ 10 ∷
    -- 4 leaf 0 n1=listtail_1
    52 ∷ 32 ∷ 108 ∷ 101 ∷ 97 ∷ 102 ∷ 32 ∷ 48 ∷ 32 ∷ 110 ∷ 49 ∷ 61 ∷ 108 ∷ 105 ∷ 115 ∷ 116 ∷ 116 ∷ 97 ∷ 105 ∷ 108 ∷ 95 ∷ 49 ∷ 10 ∷
    -- 5 leaf 2
    53 ∷ 32 ∷ 108 ∷ 101 ∷ 97 ∷ 102 ∷ 32 ∷ 50 ∷ 10 ∷
    -- 6 switch list_0 Int(1):7 else 8
    54 ∷ 32 ∷ 115 ∷ 119 ∷ 105 ∷ 116 ∷ 99 ∷ 104 ∷ 32 ∷ 108 ∷ 105 ∷ 115 ∷ 116 ∷ 95 ∷ 48 ∷ 32 ∷ 73 ∷ 110 ∷ 116 ∷ 40 ∷ 49 ∷ 41 ∷ 58 ∷ 55 ∷ 32 ∷ 101 ∷ 108 ∷ 115 ∷ 101 ∷ 32 ∷ 56 ∷ 10 ∷
    -- 7 leaf 0 n1=listtail_1
    55 ∷ 32 ∷ 108 ∷ 101 ∷ 97 ∷ 102 ∷ 32 ∷ 48 ∷ 32 ∷ 110 ∷ 49 ∷ 61 ∷ 108 ∷ 105 ∷ 115 ∷ 116 ∷ 116 ∷ 97 ∷ 105 ∷ 108 ∷ 95 ∷ 49 ∷ 10 ∷
    -- 8 switch list_1 Int(2):9 else 11
    56 ∷ 32 ∷ 115 ∷ 119 ∷ 105 ∷ 116 ∷ 99 ∷ 104 ∷ 32 ∷ 108 ∷ 105 ∷ 115 ∷ 116 ∷ 95 ∷ 49 ∷ 32 ∷ 73 ∷ 110 ∷ 116 ∷ 40 ∷ 50 ∷ 41 ∷ 58 ∷ 57 ∷ 32 ∷ 101 ∷ 108 ∷ 115 ∷ 101 ∷ 32 ∷ 49 ∷ 49 ∷ 10 ∷
    -- 9 hoist 1 then 10 n2=list_0
    57 ∷ 32 ∷ 104 ∷ 111 ∷ 105 ∷ 115 ∷ 116 ∷ 32 ∷ 49 ∷ 32 ∷ 116 ∷ 104 ∷ 101 ∷ 110 ∷ 32 ∷ 49 ∷ 48 ∷ 32 ∷ 110 ∷ 50 ∷ 61 ∷ 108 ∷ 105 ∷ 115 ∷ 116 ∷ 95 ∷ 48 ∷ 10 ∷
    -- 10 leaf 1 n2=list_0
    49 ∷ 48 ∷ 32 ∷ 108 ∷ 101 ∷ 97 ∷ 102 ∷ 32 ∷ 49 ∷ 32 ∷ 110 ∷ 50 ∷ 61 ∷ 108 ∷ 105 ∷ 115 ∷ 116 ∷ 95 ∷ 48 ∷ 10 ∷
    -- 11 leaf 2
    49 ∷ 49 ∷ 32 ∷ 108 ∷ 101 ∷ 97 ∷ 102 ∷ 32 ∷ 50 ∷ 10 ∷
    -- 12 switch list_0 Int(1):13 else 14
    49 ∷ 50 ∷ 32 ∷ 115 ∷ 119 ∷ 105 ∷ 116 ∷ 99 ∷ 104 ∷ 32 ∷ 108 ∷ 105 ∷ 115 ∷ 116 ∷ 95 ∷ 48 ∷ 32 ∷ 73 ∷ 110 ∷ 116 ∷ 40 ∷ 49 ∷ 41 ∷ 58 ∷ 49 ∷ 51 ∷ 32 ∷ 101 ∷ 108 ∷ 115 ∷ 101 ∷ 32 ∷ 49 ∷ 52 ∷ 10 ∷
    -- 13 leaf 0 n1=listtail_1
    49 ∷ 51 ∷ 32 ∷ 108 ∷ 101 ∷ 97 ∷ 102 ∷ 32 ∷ 48 ∷ 32 ∷ 110 ∷ 49 ∷ 61 ∷ 108 ∷ 105 ∷ 115 ∷ 116 ∷ 116 ∷ 97 ∷ 105 ∷ 108 ∷ 95 ∷ 49 ∷ 10 ∷
    -- 14 leaf 2
    49 ∷ 52 ∷ 32 ∷ 108 ∷ 101 ∷ 97 ∷ 102 ∷ 32 ∷ 50 ∷ 10 ∷
    -- 15 leaf 2
    49 ∷ 53 ∷ 32 ∷ 108 ∷ 101 ∷ 97 ∷ 102 ∷ 32 ∷ 50 ∷ 10 ∷ []
