-- 01, "Refusal numbers" and "What the contracts have to say": for each call its whole answer, that is the numbers and every byte of
-- every writable lent buffer after it, on refused input too.
use Rattle.std.specs.Prelude.{ℕ, ◌+◌, ◌-◌, Bool, not, List, [], ◌∷◌, ◌++◌, length, eqb, leb, ltb}
use Rattle.std.proofs.Math.Option.{Option}
use Rattle.base_words.specs.Words.{both, text_at, zeros}
use Rattle.spec_rules.specs.Limits.{nodes_most, bindings_most, tree_room, work_room, bound_room}
use Rattle.spec_rules.specs.Kinds.{bytes_record}
use Rattle.spec_rules.specs.RefusalNumbers.{room_refusal, nodes_refusal, bindings_refusal, idle_refusal, panel_misfit_refusal, tree_refusal, no_text_refusal}
use Rattle.spec_rules.specs.Searching.{lowest}
use Rattle.spec_rules.specs.SheetFile.{clauses, pool}
use Rattle.spec_rules.specs.Patterns.{Pat, clause_patterns}
use Rattle.spec_rules.specs.SheetRefusals.{Verdict, accepted, refused, require, require_none, and_then, verdict}
use Rattle.spec_rules.specs.Building.{Tree}
use Rattle.spec_rules.specs.Hoisting.{whole_tree, nodes_in, bindings_in, has_leaf}
use Rattle.spec_rules.specs.TreeFile.{tree_file}
use Rattle.spec_rules.specs.TreeReader.{tree_fits, tree_of}
use Rattle.spec_rules.specs.PanelFile.{records, record_kind, record_first, record_count, panel_pool_at, panel_verdict}
use Rattle.spec_rules.specs.Fitting.{panel_fits}
use Rattle.spec_rules.specs.Walking.{Bound, Walked, reached, no_leaf, stuck, walk}
use Rattle.spec_rules.specs.WalkPlaces.{last_node, stuck_step}
use Rattle.spec_rules.specs.Meaning.{first_match}

-- A call's answer: what it gives, or a refusal with number and place.
pub data Answer (A : Type 0) : Type 0 where
  answers : A → Answer A
  refuses : ℕ → ℕ → Answer A

-- a verdict's refusal, or else
abbrev pub unless : {A : Type 0} → Verdict → Answer A → Answer A
unless accepted r = r
unless (refused number place) r = refuses number place

-- ---- the build: "a sheet, tree and work buffers and answers tree length, nodes, bindings"
unfoldable pub sheet_patterns : List ℕ → List Pat
unfolding clause_patterns clauses
sheet_patterns s = clause_patterns s 0 (clauses s)

unfoldable pub sheet_tree : List ℕ → Tree
unfolding sheet_patterns whole_tree
sheet_tree s = whole_tree (sheet_patterns s)

unfoldable pub sheet_tree_file : List ℕ → List ℕ
unfolding sheet_tree tree_file pool
sheet_tree_file s = tree_file (pool s) (sheet_tree s)

-- 14: "a clause has no leaf in the tree", the lowest clause
unfoldable pub lowest_idle : ℕ → Tree → Option ℕ
unfolding lowest has_leaf
lowest_idle n a = lowest (λ c. not (has_leaf c a)) 0 n

-- 12 "over 1,024 nodes", 13 "over 4,096 bindings in leaves and hoists together", 14
unfoldable pub tree_verdict : ℕ → Tree → Verdict
unfolding nodes_in bindings_in lowest_idle
tree_verdict n a =
    require (leb (nodes_in a) nodes_most) nodes_refusal
    (require (leb (length (bindings_in a)) bindings_most) bindings_refusal
    (require_none (lowest_idle n a) idle_refusal
    accepted))

-- 1: "written tree or work buffer under 65,536 bytes"
unfoldable pub build_room : ℕ → ℕ → Verdict
build_room tree_length work_length = require (both (leb tree_room tree_length) (leb work_room work_length)) room_refusal accepted

pub record Built : Type 0 where
  pub bytes : ℕ
  pub nodes : ℕ
  pub bindings : ℕ

unfoldable pub built_of : List ℕ → Tree → Built
unfolding nodes_in bindings_in
built_of file a = record { bytes = length file; nodes = nodes_in a; bindings = length (bindings_in a) }

unfoldable pub build_answer : List ℕ → ℕ → ℕ → Answer Built
unfolding build_room verdict clauses tree_verdict sheet_tree sheet_tree_file built_of
build_answer s tree_length work_length =
    unless (build_room tree_length work_length)
    (unless (verdict s)
    (unless (tree_verdict (clauses s) (sheet_tree s))
    (answers (built_of (sheet_tree_file s) (sheet_tree s)))))

-- "A refusal leaves each writable lent buffer all zero; a success leaves the work buffer zero and zeros after what it wrote"
abbrev pub written : {A : Type 0} → Answer A → List ℕ → ℕ → List ℕ
written (answers x) bytes room = bytes ++ zeros (room - length bytes)
written (refuses number place) bytes room = zeros room

pub record BuildCall : Type 0 where
  pub answer : Answer Built
  pub tree : List ℕ
  pub work : List ℕ

unfoldable pub build_call : List ℕ → ℕ → ℕ → BuildCall
unfolding build_answer sheet_tree_file
build_call s tree_length work_length = record {
  answer = build_answer s tree_length work_length;
  tree = written (build_answer s tree_length work_length) (sheet_tree_file s) tree_length;
  work = zeros work_length;
}

-- ---- the fit check: "a sheet (2 to 11) and a panel, and alone gives 25"
unfoldable pub fit_call : List ℕ → List ℕ → Verdict
unfolding verdict panel_verdict panel_fits
fit_call s v = and_then (verdict s) (and_then (panel_verdict v) (require (panel_fits s v) panel_misfit_refusal accepted))

-- ---- the walk: "a tree, any panel and a binding buffer"
-- 1: "binding buffer under 576 u16"; 31; 21 to 24; 32, whose place is two numbers and which is therefore an end of its own
unfoldable pub walk_room : ℕ → Verdict
walk_room bound_length = require (leb bound_room bound_length) room_refusal accepted

unfoldable pub tree_file_verdict : List ℕ → Verdict
unfolding tree_fits
tree_file_verdict t = require (tree_fits t) tree_refusal accepted

-- at a leaf its clause and how many bindings; of 32 the node and the step
pub data WalkEnd : Type 0 where
  leaf_of : ℕ → ℕ → WalkEnd
  without_leaf : WalkEnd
  stuck_at : ℕ → ℕ → WalkEnd

unfoldable pub walk_end : List ℕ → List ℕ → Walked → WalkEnd
unfolding last_node stuck_step
walk_end t v (reached c xs) = leaf_of c (length xs)
walk_end t v no_leaf = without_leaf
walk_end t v stuck = stuck_at (last_node t v) (stuck_step t v (last_node t v))

unfoldable pub walk_answer : List ℕ → List ℕ → ℕ → Answer WalkEnd
unfolding walk_room tree_file_verdict panel_verdict tree_of walk walk_end
walk_answer t v bound_length =
    unless (walk_room bound_length)
    (unless (tree_file_verdict t)
    (unless (panel_verdict v)
    (answers (walk_end t v (walk (tree_of t) v)))))

-- "(name, record, dropped) for each binding", "or No leaf with no bindings"
unfoldable pub bound_words : List Bound → List ℕ
bound_words [] = []
bound_words (b ∷ bs) = b.name ∷ b.position.place ∷ b.position.dropped ∷ bound_words bs

unfoldable pub walked_words : Walked → List ℕ
unfolding bound_words
walked_words (reached c xs) = bound_words xs
walked_words no_leaf = []
walked_words stuck = []

pub record WalkCall : Type 0 where
  pub answer : Answer WalkEnd
  pub bound : List ℕ

unfoldable pub walk_call : List ℕ → List ℕ → ℕ → WalkCall
unfolding walk_answer tree_of walk walked_words
walk_call t v bound_length = record {
  answer = walk_answer t v bound_length;
  bound = written (walk_answer t v bound_length) (walked_words (walk (tree_of t) v)) bound_length;
}

-- ---- the text call: "a panel and a position, answering start and length in the file, with a twin that returns the part, empty if
-- refused". 33: "the position is not an integer or byte string of the panel with 0 dropped"
pub record Span : Type 0 where
  pub start : ℕ
  pub count : ℕ

unfoldable pub has_text : List ℕ → ℕ → ℕ → Bool
unfolding records record_kind
has_text v place dropped = both (ltb place (records v)) (both (leb (record_kind v place) bytes_record) (eqb dropped 0))

unfoldable pub text_call : List ℕ → ℕ → ℕ → Answer Span
unfolding panel_verdict has_text panel_pool_at record_first record_count
text_call v place dropped =
    unless (panel_verdict v)
    (unless (require (has_text v place dropped) no_text_refusal accepted)
    (answers (record { start = panel_pool_at v + record_first v place; count = record_count v place })))

unfoldable pub part_of_span : List ℕ → Answer Span → List ℕ
part_of_span v (answers x) = text_at v x.start x.count
part_of_span v (refuses number place) = []

unfoldable pub text_part : List ℕ → ℕ → ℕ → List ℕ
unfolding text_call part_of_span
text_part v place dropped = part_of_span v (text_call v place dropped)

-- ---- what the sheet means on the panel
unfoldable pub meaning : List ℕ → List ℕ → Walked
unfolding sheet_patterns first_match
meaning s v = first_match 0 (sheet_patterns s) v
