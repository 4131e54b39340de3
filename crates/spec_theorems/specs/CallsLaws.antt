-- The answers of the calls, case by case in 01's order: what a call tries first decides, and where nothing refuses it answers. The bytes
-- and words written after an answer, and that the least room of 576 words is enough.
use Rattle.std.specs.Prelude.{ℕ, ◌+◌, ◌-◌, ◌*◌, ◌≤◌, ◌<◌, ◌≡◌, ◌⊎◌, List, [], ◌∷◌, ◌++◌, leb}
use Rattle.std.proofs.Common.{arith, ◌∙◌, inl, inr, true≢false}
use Rattle.std.proofs.Math.Path.{refl, sym, ap}
use Rattle.std.proofs.Math.Bool.{Bool, true, false, false≢true}
use Rattle.std.proofs.Math.ListN.{length}
use borrow.Author.Tests.{leb-true, le-leb, lt-leb}
use Rattle.base_words.specs.Words.{both, text_at, zeros}
use Rattle.base_words.specs.WordsLaws.{both_true, both_make, both_first_false, both_second_false, text_at_append_left, text_at_whole}
use Rattle.spec_rules.specs.Limits.{tree_room, work_room, bound_room, node_bindings_most}
use Rattle.spec_rules.specs.RefusalNumbers.{room_refusal, panel_misfit_refusal, tree_refusal, no_text_refusal}
use Rattle.spec_rules.specs.SheetFile.{clauses}
use Rattle.spec_rules.specs.SheetRefusals.{Verdict, accepted, refused, require, verdict}
use Rattle.spec_rules.specs.TreeReader.{tree_fits, tree_of}
use Rattle.spec_rules.specs.PanelFile.{panel_pool_at, record_first, record_count, panel_verdict}
use Rattle.spec_rules.specs.Fitting.{panel_fits}
use Rattle.spec_rules.specs.Walking.{Bound, Walked, reached, no_leaf, stuck, walk}
use Rattle.spec_rules.specs.WalkPlaces.{last_node, stuck_step}
use Rattle.spec_rules.specs.Calls.{Answer, answers, refuses, unless, sheet_tree, sheet_tree_file, tree_verdict, build_room, Built, built_of, build_answer, build_call, fit_call, walk_room, tree_file_verdict, leaf_of, without_leaf, stuck_at, walk_end, walk_answer, bound_words, walked_words, walk_call, has_text, text_call}
use Rattle.spec_theorems.specs.Said.{Builds, Fits, WalkEnds, at_a_leaf, without_a_leaf, with_32}

-- ---- an answer is no refusal
module _ {A : Type 0} where
  is_answer : Answer A → Bool
  is_answer (answers x) = true
  is_answer (refuses n k) = false

  refuses_not_answers : (n k : ℕ) (x : A) → refuses n k ≡ answers x → ⊥
  unfolding is_answer
  refuses_not_answers n k x e = false≢true (ap is_answer e)

  answers_same : (x y : A) → answers x ≡ answers y → x ≡ y
  answers_same x y e = cc

  unless_answers : (w : Verdict) (r : Answer A) (x : A) → unless w r ≡ answers x → (w ≡ accepted) × (r ≡ answers x)
  unless_answers accepted r x e = (refl, e)
  unless_answers (refused n k) r x e = absurd (refuses_not_answers n k x e)

-- ---- the build
module _ (s : List ℕ) (n m : ℕ) where
  pub build_room_lem : (n < tree_room) ⊎ (m < work_room) → build_answer s n m ≡ refuses room_refusal 0
  unfolding build_answer build_room
  build_room_lem (inl l) = rw (both_first_false (leb tree_room n) (leb work_room m) (lt-leb tree_room n l))
  build_room_lem (inr l) = rw (both_second_false (leb tree_room n) (leb work_room m) (lt-leb work_room m l))

  room_there : tree_room ≤ n → work_room ≤ m → both (leb tree_room n) (leb work_room m) ≡ true
  room_there a b = both_make (leb tree_room n) (leb work_room m) (le-leb tree_room n a) (le-leb work_room m b)

  pub build_sheet : tree_room ≤ n → work_room ≤ m → (number place : ℕ) → verdict s ≡ refused number place → build_answer s n m ≡ refuses number place
  unfolding build_answer build_room
  build_sheet a b number place e = rw (room_there a b, e)

  pub build_tree : tree_room ≤ n → work_room ≤ m → verdict s ≡ accepted → (number place : ℕ) → tree_verdict (clauses s) (sheet_tree s) ≡ refused number place
      → build_answer s n m ≡ refuses number place
  unfolding build_answer build_room
  build_tree a b h number place e = rw (room_there a b, h, e)

  pub build_answers : tree_room ≤ n → work_room ≤ m → Builds s → build_answer s n m ≡ answers (built_of (sheet_tree_file s) (sheet_tree s))
  unfolding build_answer build_room
  build_answers a b h = rw (room_there a b, h.sheet, h.tree)

  pub record BuildAnswers (x : Built) : Type 0 where
    pub tree_room_holds : tree_room ≤ n
    pub work_room_holds : work_room ≤ m
    pub builds : Builds s
    pub is : x ≡ built_of (sheet_tree_file s) (sheet_tree s)

  pub build_answers_only : (x : Built) → build_answer s n m ≡ answers x → BuildAnswers x
  unfolding build_answer build_room
  build_answers_only x e =
      let (room, rest) = unless_answers (require (both (leb tree_room n) (leb work_room m)) room_refusal accepted) _ x e in
      let (sheet, last) = unless_answers (verdict s) _ x rest in
      let (tree, end) = unless_answers (tree_verdict (clauses s) (sheet_tree s)) _ x last in
      let (a, b) = both_true (leb tree_room n) (leb work_room m) (held (both (leb tree_room n) (leb work_room m)) room) in
      record {
        tree_room_holds = leb-true tree_room n a;
        work_room_holds = leb-true work_room m b;
        builds = record { sheet = sheet; tree = tree };
        is = sym (answers_same (built_of (sheet_tree_file s) (sheet_tree s)) x end);
      }
    where
      is_accepted : Verdict → Bool
      is_accepted accepted = true
      is_accepted (refused a b) = false

      held : (b : Bool) → require b 1 accepted ≡ accepted → b ≡ true
      held true h = refl
      held false h = ap is_accepted h

  pub build_writes : tree_room ≤ n → work_room ≤ m → Builds s
      → ((build_call s n m).tree ≡ sheet_tree_file s ++ zeros (n - length (sheet_tree_file s))) × ((build_call s n m).work ≡ zeros m)
  unfolding build_call
  build_writes a b h = (rw (build_answers a b h), refl)

  -- the first bytes of the tree buffer, as many as the answer says, are the file
  pub build_file : (x : Built) → build_answer s n m ≡ answers x → text_at (build_call s n m).tree 0 x.bytes ≡ sheet_tree_file s
  unfolding built_of
  build_file x e =
      let o = build_answers_only x e in
      let long : x.bytes ≡ length (sheet_tree_file s) = ap (λ (y : Built). y.bytes) o.is in
      rw ((build_writes o.tree_room_holds o.work_room_holds o.builds).0, long)
      (text_at_append_left (sheet_tree_file s) (zeros (n - length (sheet_tree_file s))) 0 (length (sheet_tree_file s)) (omega arith) ∙ text_at_whole (sheet_tree_file s))

  pub build_refused_writes : (number place : ℕ) → build_answer s n m ≡ refuses number place → ((build_call s n m).tree ≡ zeros n) × ((build_call s n m).work ≡ zeros m)
  unfolding build_call
  build_refused_writes number place e = (rw e, refl)

-- ---- the fit check
module _ (s v : List ℕ) where
  pub fit_sheet : (number place : ℕ) → verdict s ≡ refused number place → fit_call s v ≡ refused number place
  unfolding fit_call
  fit_sheet number place e = rw e

  pub fit_panel : verdict s ≡ accepted → (number place : ℕ) → panel_verdict v ≡ refused number place → fit_call s v ≡ refused number place
  unfolding fit_call
  fit_panel h number place e = rw (h, e)

  pub fit_type : verdict s ≡ accepted → panel_verdict v ≡ accepted → panel_fits s v ≡ false → fit_call s v ≡ refused panel_misfit_refusal 0
  unfolding fit_call
  fit_type h k e = rw (h, k, e)

  pub fit_accepts : verdict s ≡ accepted → Fits s v → fit_call s v ≡ accepted
  unfolding fit_call
  fit_accepts h f = rw (h, f.panel, f.type)

  no_refusal : (number place : ℕ) → refused number place ≡ accepted → ⊥
  no_refusal number place e = true≢false (ap is_refused e)
    where
      is_refused : Verdict → Bool
      is_refused accepted = false
      is_refused (refused a b) = true

  pub fit_accepts_only : fit_call s v ≡ accepted → (verdict s ≡ accepted) × Fits s v
  fit_accepts_only e = sheet (verdict s) refl
    where
      type : verdict s ≡ accepted → panel_verdict v ≡ accepted → (b : Bool) → panel_fits s v ≡ b → (verdict s ≡ accepted) × Fits s v
      type h k true g = (h, record { panel = k; type = g })
      type h k false g = absurd (no_refusal 25 0 (sym (fit_type h k g) ∙ e))

      panel : verdict s ≡ accepted → (w : Verdict) → panel_verdict v ≡ w → (verdict s ≡ accepted) × Fits s v
      panel h accepted k = type h k (panel_fits s v) refl
      panel h (refused number place) k = absurd (no_refusal number place (sym (fit_panel h number place k) ∙ e))

      sheet : (w : Verdict) → verdict s ≡ w → (verdict s ≡ accepted) × Fits s v
      sheet accepted h = panel h (panel_verdict v) refl
      sheet (refused number place) h = absurd (no_refusal number place (sym (fit_sheet number place h) ∙ e))

-- ---- the walk
length_bound_words : (xs : List Bound) → length (bound_words xs) ≡ 3 * length xs
unfolding bound_words
length_bound_words [] = refl
length_bound_words (x ∷ xs) = omega (arith, length_bound_words xs)

module _ (t v : List ℕ) (n : ℕ) where
  pub walk_room_lem : n < bound_room → walk_answer t v n ≡ refuses room_refusal 0
  unfolding walk_answer walk_room
  walk_room_lem l = rw (lt-leb bound_room n l)

  pub walk_tree : bound_room ≤ n → tree_fits t ≡ false → walk_answer t v n ≡ refuses tree_refusal 0
  unfolding walk_answer walk_room tree_file_verdict
  walk_tree l e = rw (le-leb bound_room n l, e)

  pub walk_panel : bound_room ≤ n → tree_fits t ≡ true → (number place : ℕ) → panel_verdict v ≡ refused number place → walk_answer t v n ≡ refuses number place
  unfolding walk_answer walk_room tree_file_verdict
  walk_panel l e number place f = rw (le-leb bound_room n l, e, f)

  module _ (room : bound_room ≤ n) (fits : tree_fits t ≡ true) (panel : panel_verdict v ≡ accepted) where
    pub walk_answers : walk_answer t v n ≡ answers (walk_end t v (walk (tree_of t) v))
    unfolding walk_answer walk_room tree_file_verdict
    walk_answers = rw (le-leb bound_room n room, fits, panel)

    walk_answers_end : (w : Walked) → walk (tree_of t) v ≡ w → walk_answer t v n ≡ answers (walk_end t v w)
    walk_answers_end w e = walk_answers ∙ ap (λ (u : Walked). answers (walk_end t v u)) e

    pub walk_reached : (c : ℕ) (xs : List Bound) → walk (tree_of t) v ≡ reached c xs → walk_answer t v n ≡ answers (leaf_of c (length xs))
    walk_reached c xs e = walk_answers_end (reached c xs) e ∙ unfold walk_end in refl

    pub walk_without : walk (tree_of t) v ≡ no_leaf → walk_answer t v n ≡ answers without_leaf
    walk_without e = walk_answers_end no_leaf e ∙ unfold walk_end in refl

    pub walk_stuck : walk (tree_of t) v ≡ stuck → walk_answer t v n ≡ answers (stuck_at (last_node t v) (stuck_step t v (last_node t v)))
    walk_stuck e = walk_answers_end stuck e ∙ unfold walk_end in refl

    pub walk_writes : (c : ℕ) (xs : List Bound) → walk (tree_of t) v ≡ reached c xs → (walk_call t v n).bound ≡ bound_words xs ++ zeros (n - 3 * length xs)
    unfolding walk_call walked_words
    walk_writes c xs e = rw (walk_reached c xs e, e, length_bound_words xs)

    no_words : zeros (n - 0) ≡ zeros n
    no_words = let e : n - 0 ≡ n = omega arith in ap zeros e

    pub walk_stuck_writes : walk (tree_of t) v ≡ stuck → (walk_call t v n).bound ≡ zeros n
    walk_stuck_writes e = unfold walk_call walked_words in rw (walk_stuck e, e) no_words

    -- LEMMA
    pub walk_ends : WalkEnds t v n
    walk_ends = go (walk (tree_of t) v) refl
      where
        without : walk (tree_of t) v ≡ no_leaf → (walk_call t v n).bound ≡ zeros n
        without e = unfold walk_call walked_words in rw (walk_without e, e) no_words

        go : (w : Walked) → walk (tree_of t) v ≡ w → WalkEnds t v n
        go (reached c xs) e = at_a_leaf c xs e (walk_reached c xs e) (walk_writes c xs e)
        go no_leaf e = without_a_leaf e (walk_without e) (without e)
        go stuck e = with_32 e (walk_stuck e) (walk_stuck_writes e)

  -- a refusal leaves zeros
  pub walk_refused_writes : (number place : ℕ) → walk_answer t v n ≡ refuses number place → (walk_call t v n).bound ≡ zeros n
  unfolding walk_call
  walk_refused_writes number place e = rw e

-- at most 192 bindings are written in at most 576 words
pub room_enough : (xs : List Bound) → length xs ≤ node_bindings_most → length (bound_words xs) ≤ bound_room
room_enough xs l = omega (arith, length_bound_words xs)

-- ---- the text call
module _ (v : List ℕ) (place dropped : ℕ) where
  pub text_panel : (number at : ℕ) → panel_verdict v ≡ refused number at → text_call v place dropped ≡ refuses number at
  unfolding text_call
  text_panel number at e = rw e

  pub text_none : panel_verdict v ≡ accepted → has_text v place dropped ≡ false → text_call v place dropped ≡ refuses no_text_refusal 0
  unfolding text_call
  text_none h e = rw (h, e)

  pub text_answers : panel_verdict v ≡ accepted → has_text v place dropped ≡ true
      → text_call v place dropped ≡ answers (record { start = panel_pool_at v + record_first v place; count = record_count v place })
  unfolding text_call
  text_answers h e = rw (h, e)
