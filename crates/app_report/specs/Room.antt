-- Every text has room: whatever the sheet and the panel, what the walker says has at most 32,459 bytes, 11 of the leaf's line and 169 of each
-- binding's. Rests on what an accepted panel has, texts of at most 64 bytes, and on a leaf's at most 192 bindings.
use Rattle.std.specs.Prelude.{◌≡◌, Bool, List, [], ◌∷◌, ◌++◌, ℕ, zero, suc, ◌+◌, ◌-◌, ◌*◌, ◌/◌, ◌%◌, ◌≤◌, eqb, leb, ltb}
use Rattle.std.proofs.Math.Path.{refl, ap}
use Rattle.std.proofs.Common.{sym, leb-true, ltb-true}
use Rattle.std.proofs.Math.Bool.{true, false}
use native.Mathlib.Omega.{arith}
use Rattle.std.proofs.Math.ListN.{length, length-append, length-take}
use Rattle.base_words.specs.Words.{pick}
use Rattle.base_words.specs.WordsLaws.{both_true}
use Rattle.spec_rules.specs.Limits.{text_most, tree_room, work_room}
use Rattle.spec_rules.specs.Kinds.{bytes_record}
use Rattle.spec_rules.specs.RefusalNumbers.{stuck_refusal}
use Rattle.spec_rules.specs.SheetRefusals.{Verdict, accepted, refused}
use Rattle.spec_rules.specs.PanelFile.{records, record_kind, record_a, record_count, RecordKind, Integer_record, Bytes_record, List_record, Pair_record, Tuple_record, Constructor_record, Unknown_record, record_kind_of, panel_verdict}
use Rattle.spec_rules.specs.TreeReader.{tree_fits, tree_of}
use Rattle.spec_rules.specs.Walking.{Bound, Walked, reached, no_leaf, stuck, walk}
use Rattle.spec_rules.specs.Calls.{Answer, answers, refuses, Built, build_answer, sheet_tree_file, fit_call, Span, has_text, text_call, part_of_span, text_part}
use Rattle.spec_rules.specs.WalkPlaces.{last_node, stuck_step}
use Rattle.spec_rules.specs.Listing.{decimal_to, decimal, hex, refused_line}
use Rattle.spec_accepted.specs.PanelFacts.{accepted_panel}
use Rattle.spec_theorems.specs.CallsLaws.{build_answers_only, fit_accepts_only, text_none, text_answers}
use Rattle.spec_theorems.specs.Theorems.{few_are_bound}
use Rattle.spec_theorems.proofs.Theorems.{the_file_fits}
use Rattle.app_listing.specs.RecordsLaws.{refused_line_is}
use Rattle.app_report.specs.Telling.{list_word, kind_text, record_text, place_text, binding_line, binding_lines, leaf_line, stuck_line, walked_text, where_fits, where_built, built_text, telling}
use Rattle.app_report.specs.LinesLaws.{binding_is, leaf_is}

-- ---- numbers and texts
decimal_to_short : (most n : ℕ) → length (decimal_to most n) ≤ most
unfolding decimal_to
decimal_to_short zero n = omega arith
decimal_to_short (suc most) n = go (ltb n 10) (decimal_to_short most (n / 10))
  where
    go : (b : Bool) → length (decimal_to most (n / 10)) ≤ most → length (pick b ((48 + n) ∷ []) (decimal_to most (n / 10) ++ (48 + n % 10) ∷ [])) ≤ suc most
    go true h = omega arith
    go false h = simp length-append (omega arith)

decimal_short : (n : ℕ) → length (decimal n) ≤ 5
unfolding decimal
decimal_short n = decimal_to_short 5 n

hex_long : (l : List ℕ) → length (hex l) ≡ 2 * length l
unfolding hex
hex_long [] = refl
hex_long (b ∷ l) = omega (arith, hex_long l)

short : {l m : List ℕ} {n : ℕ} → l ≡ m → length m ≤ n → length l ≤ n
short e h = rw e h

-- ---- what stands at a position of an accepted panel
module _ (v : List ℕ) (ok : panel_verdict v ≡ accepted) (r d : ℕ) where
  part_is : (a : Answer Span) → text_call v r d ≡ a → text_part v r d ≡ part_of_span v a
  unfolding text_part
  part_is a e = ap (part_of_span v) e

  part_short : length (text_part v r d) ≤ text_most
  part_short = go (has_text v r d) refl
    where
      few : has_text v r d ≡ true → record_count v r ≤ text_most
      few e = unfold has_text in
          let a = both_true (ltb r (records v)) _ e in
          let b = both_true (leb (record_kind v r) bytes_record) (eqb d 0) a.1 in
          (accepted_panel v ok).text_short r (ltb-true _ _ a.0) (leb-true _ _ b.0)

      go : (b : Bool) → has_text v r d ≡ b → length (text_part v r d) ≤ text_most
      go true e = short (part_is _ (text_answers v r d ok e)) (unfold part_of_span in simp length-take (omega (arith, few e)))
      go false e = short (part_is _ (text_none v r d ok e)) (unfold part_of_span in omega arith)

  kind_short : (kind : RecordKind) → length (kind_text v r d kind) ≤ 135
  unfolding kind_text
  kind_short Integer_record = omega (arith, part_short)
  kind_short Bytes_record = simp hex_long (omega (arith, part_short))
  kind_short List_record = list (leb d (record_count v r))
    where
      list : (b : Bool) → length (pick b (list_word ++ decimal (record_count v r - d)) []) ≤ 135
      list true = omega (arith, decimal_short (record_count v r - d))
      list false = omega arith
  kind_short Pair_record = omega arith
  kind_short Tuple_record = omega (arith, decimal_short (record_count v r))
  kind_short Constructor_record = omega (arith, decimal_short (record_a v r))
  kind_short Unknown_record = omega arith

  record_short : length (record_text v r d) ≤ 135
  unfolding record_text
  record_short = kind_short (record_kind_of (record_kind v r))

  place_short : length (place_text v r d) ≤ 135
  unfolding place_text
  place_short = rw ok (go (ltb r (records v)))
    where
      go : (b : Bool) → length (pick b (record_text v r d) []) ≤ 135
      go true = record_short
      go false = omega arith

-- ---- lines
refused_short : (number place : ℕ) → length (refused_line number place) ≤ 32459
refused_short number place =
    short (sym (refused_line_is number place)) (simp length-append (omega (arith, decimal_short number, decimal_short place)))

stuck_short : (node step : ℕ) → length (stuck_line node step) ≤ 32459
unfolding stuck_line
stuck_short node step = simp length-append (omega (arith, decimal_short stuck_refusal, decimal_short node, decimal_short step))

module _ (v : List ℕ) (ok : panel_verdict v ≡ accepted) where
  line_short : (name r d : ℕ) → length (binding_line v name r d) ≤ 169
  line_short name r d =
      short (sym (binding_is v name r d)) (simp length-append (omega (arith, decimal_short name, decimal_short r, decimal_short d, place_short v ok r d)))

  lines_more : (x : Bound) (xs : List Bound) → binding_lines v (x ∷ xs) ≡ binding_line v x.name x.position.place x.position.dropped ++ binding_lines v xs
  unfolding binding_lines
  lines_more x xs = refl

  lines_short : (xs : List Bound) → length (binding_lines v xs) ≤ 169 * length xs
  lines_short [] = unfold binding_lines in omega arith
  lines_short (x ∷ xs) =
      short (lines_more x xs) (simp length-append (omega (arith, line_short x.name x.position.place x.position.dropped, lines_short xs)))

  leaf_short : (clause : ℕ) (others : List ℕ) → length (leaf_line clause ++ others) ≤ 11 + length others
  leaf_short clause others = short (sym (leaf_is clause others)) (simp length-append (omega (arith, decimal_short clause)))

  walked_short : (t : List ℕ) → tree_fits t ≡ true → length (walked_text t v (walk (tree_of t) v)) ≤ 32459
  walked_short t fits = go (walk (tree_of t) v) refl
    where
      go : (w : Walked) → walk (tree_of t) v ≡ w → length (walked_text t v (walk (tree_of t) v)) ≤ 32459
      go (reached c xs) e =
          short (ap (walked_text t v) e)
          (unfold walked_text in omega (arith, leaf_short c (binding_lines v xs), lines_short xs, few_are_bound t v ok fits c xs e))
      go no_leaf e = short (ap (walked_text t v) e) (unfold walked_text in omega arith)
      go stuck e = short (ap (walked_text t v) e) (unfold walked_text in stuck_short (last_node t v) (stuck_step t v (last_node t v)))

-- ---- the whole text
module _ (s v : List ℕ) where
  built_short : fit_call s v ≡ accepted → length (built_text s v) ≤ 32459
  unfolding built_text
  built_short fit = go (build_answer s tree_room work_room) refl
    where
      go : (a : Answer Built) → build_answer s tree_room work_room ≡ a → length (where_built a (walked_text (sheet_tree_file s) v (walk (tree_of (sheet_tree_file s)) v))) ≤ 32459
      go (answers x) e =
          walked_short v (fit_accepts_only s v fit).1.panel (sheet_tree_file s) (the_file_fits s (build_answers_only s tree_room work_room x e).builds.sheet)
      go (refuses number place) e = refused_short number place

  -- THEOREM
  pub every_text_has_room : length (telling s v) ≤ 32459
  unfolding telling
  every_text_has_room = go (fit_call s v) refl
    where
      go : (w : Verdict) → fit_call s v ≡ w → length (where_fits w (built_text s v)) ≤ 32459
      go accepted e = built_short e
      go (refused number place) e = refused_short number place
