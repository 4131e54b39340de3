-- What the walker says of a sheet and a panel, in ASCII: the line of a refusal, of the leaf or of no leaf, then a line for each binding of the
-- leaf, in its order: name, record, dropped, and what stands there. A newline ends every line. Rests on the calls of the crate spec_rules.
use Rattle.std.specs.Prelude.{ℕ, ◌-◌, List, [], ◌∷◌, ◌++◌, leb, ltb}
use Rattle.base_words.specs.Words.{pick}
use Rattle.spec_rules.specs.Limits.{tree_room, work_room}
use Rattle.spec_rules.specs.RefusalNumbers.{stuck_refusal}
use Rattle.spec_rules.specs.SheetRefusals.{Verdict, accepted, refused}
use Rattle.spec_rules.specs.PanelFile.{records, record_kind, record_a, record_count, RecordKind, Integer_record, Bytes_record, List_record, Pair_record, Tuple_record, Constructor_record, Unknown_record, record_kind_of, panel_verdict}
use Rattle.spec_rules.specs.TreeReader.{tree_of}
use Rattle.spec_rules.specs.Walking.{Bound, Walked, reached, no_leaf, stuck, walk}
use Rattle.spec_rules.specs.Calls.{Answer, answers, refuses, Built, build_answer, fit_call, sheet_tree_file, text_part}
use Rattle.spec_rules.specs.WalkPlaces.{last_node, stuck_step}
use Rattle.spec_rules.specs.Listing.{leaf_word, refused_word, decimal, hex, refused_line}

-- ---- the words, each behind its blank; a number or a text follows all but ` pair`
-- ` record `
abbrev pub record_word : List ℕ
record_word = 32 ∷ 114 ∷ 101 ∷ 99 ∷ 111 ∷ 114 ∷ 100 ∷ 32 ∷ []

-- ` dropped `
abbrev pub dropped_word : List ℕ
dropped_word = 32 ∷ 100 ∷ 114 ∷ 111 ∷ 112 ∷ 112 ∷ 101 ∷ 100 ∷ 32 ∷ []

-- ` int `
abbrev pub int_word : List ℕ
int_word = 32 ∷ 105 ∷ 110 ∷ 116 ∷ 32 ∷ []

-- ` bytes `
abbrev pub bytes_word : List ℕ
bytes_word = 32 ∷ 98 ∷ 121 ∷ 116 ∷ 101 ∷ 115 ∷ 32 ∷ []

-- ` list `
abbrev pub list_word : List ℕ
list_word = 32 ∷ 108 ∷ 105 ∷ 115 ∷ 116 ∷ 32 ∷ []

-- ` pair`
abbrev pub pair_word : List ℕ
pair_word = 32 ∷ 112 ∷ 97 ∷ 105 ∷ 114 ∷ []

-- ` tuple `
abbrev pub tuple_word : List ℕ
tuple_word = 32 ∷ 116 ∷ 117 ∷ 112 ∷ 108 ∷ 101 ∷ 32 ∷ []

-- ` constr `
abbrev pub constr_word : List ℕ
constr_word = 32 ∷ 99 ∷ 111 ∷ 110 ∷ 115 ∷ 116 ∷ 114 ∷ 32 ∷ []

-- `no leaf`, a line
abbrev pub no_leaf_line : List ℕ
no_leaf_line = 110 ∷ 111 ∷ 32 ∷ 108 ∷ 101 ∷ 97 ∷ 102 ∷ 10 ∷ []

-- ---- what stands at a position: record r with d dropped
-- what is left of a list; nothing where it has less than was dropped
unfoldable pub list_text : ℕ → ℕ → List ℕ
unfolding decimal
list_text count d = pick (leb d count) (list_word ++ decimal (count - d)) []

unfoldable pub kind_text : List ℕ → ℕ → ℕ → RecordKind → List ℕ
unfolding text_part decimal hex list_text record_count record_a
kind_text v r d Integer_record = int_word ++ text_part v r d
kind_text v r d Bytes_record = bytes_word ++ hex (text_part v r d)
kind_text v r d List_record = list_text (record_count v r) d
kind_text v r d Pair_record = pair_word
kind_text v r d Tuple_record = tuple_word ++ decimal (record_count v r)
kind_text v r d Constructor_record = constr_word ++ decimal (record_a v r)
kind_text v r d Unknown_record = []

unfoldable pub record_text : List ℕ → ℕ → ℕ → List ℕ
unfolding kind_text record_kind record_kind_of
record_text v r d = kind_text v r d (record_kind_of (record_kind v r))

-- nothing where v is no panel, or has no such record
abbrev pub where_accepted : Verdict → List ℕ → List ℕ
where_accepted accepted text = text
where_accepted (refused number place) text = []

unfoldable pub place_text : List ℕ → ℕ → ℕ → List ℕ
unfolding panel_verdict records record_text
place_text v r d = where_accepted (panel_verdict v) (pick (ltb r (records v)) (record_text v r d) [])

-- ---- lines
-- `nNAME record R dropped D` and what stands there
unfoldable pub binding_line : List ℕ → ℕ → ℕ → ℕ → List ℕ
unfolding decimal place_text
binding_line v name r d = 110 ∷ (decimal name ++ (record_word ++ (decimal r ++ (dropped_word ++ (decimal d ++ (place_text v r d ++ 10 ∷ []))))))

unfoldable pub binding_lines : List ℕ → List Bound → List ℕ
unfolding binding_line
binding_lines v [] = []
binding_lines v (b ∷ bs) = binding_line v b.name b.position.place b.position.dropped ++ binding_lines v bs

unfoldable pub leaf_line : ℕ → List ℕ
unfolding decimal
leaf_line clause = leaf_word ++ (32 ∷ (decimal clause ++ 10 ∷ []))

-- `refused 32 NODE STEP`
unfoldable pub stuck_line : ℕ → ℕ → List ℕ
unfolding decimal
stuck_line node step = refused_word ++ (32 ∷ (decimal stuck_refusal ++ (32 ∷ (decimal node ++ (32 ∷ (decimal step ++ 10 ∷ []))))))

-- ---- the whole text: of the walk of the tree file t on the panel v
unfoldable pub walked_text : List ℕ → List ℕ → Walked → List ℕ
unfolding leaf_line binding_lines stuck_line last_node stuck_step
walked_text t v (reached clause bs) = leaf_line clause ++ binding_lines v bs
walked_text t v no_leaf = no_leaf_line
walked_text t v stuck = stuck_line (last_node t v) (stuck_step t v (last_node t v))

-- a text where the panel fits the sheet, or where the sheet's tree was built, and else the line of the refusal
abbrev pub where_fits : Verdict → List ℕ → List ℕ
where_fits accepted text = text
where_fits (refused number place) text = refused_line number place

abbrev pub where_built : Answer Built → List ℕ → List ℕ
where_built (answers x) text = text
where_built (refuses number place) text = refused_line number place

-- of a panel that fits the sheet
unfoldable pub built_text : List ℕ → List ℕ → List ℕ
unfolding build_answer sheet_tree_file tree_of walk walked_text refused_line
built_text s v = where_built (build_answer s tree_room work_room) (walked_text (sheet_tree_file s) v (walk (tree_of (sheet_tree_file s)) v))

unfoldable pub telling : List ℕ → List ℕ → List ℕ
unfolding fit_call built_text refused_line
telling s v = where_fits (fit_call s v) (built_text s v)
