-- The text from the answers of the calls: of the walk, of the build, of the fit check.
-- Rests on what the walk of a sheet's tree file is on a panel that fits the sheet.
use Rattle.std.proofs.Math.Path.{◌≡◌, sym, ap}
use Rattle.std.proofs.Common.{ap₂, ◌∙◌, arith}
use Rattle.std.specs.Prelude.{true, List, ◌++◌, ℕ, ◌-◌, ◌*◌, ◌≤◌, Some, None, Result, Ok, Err}
use Rattle.std.proofs.Math.ListN.{length, take}
use Rattle.base_words.specs.Words.{zeros}
use Rattle.spec_rules.specs.Limits.{tree_room, work_room, bound_room, node_bindings_most}
use Rattle.spec_rules.specs.SheetRefusals.{accepted}
use Rattle.spec_rules.specs.TreeReader.{tree_fits, tree_of}
use Rattle.spec_rules.specs.PanelFile.{panel_verdict}
use Rattle.spec_rules.specs.Walking.{Bound, reached, stuck, walk}
use Rattle.spec_rules.specs.WalkPlaces.{last_node, stuck_step}
use Rattle.spec_rules.specs.Calls.{answers, refuses, Built, BuildCall, build_answer, build_call, sheet_tree_file, fit_call, leaf_of, without_leaf, stuck_at, bound_words, WalkCall, walk_answer, walk_call}
use Rattle.spec_rules.specs.Listing.{refused_line}
use Rattle.spec_theorems.specs.Said.{WalkEnds, at_a_leaf, without_a_leaf, with_32}
use Rattle.spec_theorems.specs.CallsLaws.{build_answers_only, fit_accepts_only}
use Rattle.spec_theorems.specs.Theorems.{the_buffer_has_the_file, few_are_bound, the_walk_ends}
use Rattle.spec_theorems.proofs.Theorems.{the_file_fits}
use Rattle.format_parts.specs.Refusals.{number_of, verdict_of}
use Rattle.format_parts.specs.declared.refusals.Refusal.{Refusal}
use Rattle.walk.specs.declared.Leaf.{Leaf}
use Rattle.walk.specs.declared.WalkError.TheVariants.{Refused, Stuck}
use Rattle.walk.specs.Answers.{Walked, answer_of}
use Rattle.build_call.specs.declared.BuiltTree.{BuiltTree}
use Rattle.build_call.specs.Answers.{answer_of as build_answer_of}
use Rattle.dewmycel.specs.Promises.{BuildFits, FitFits, WalkFits}
use Rattle.app_report.specs.Telling.{no_leaf_line, leaf_line, stuck_line, walked_text, built_text, telling}
use Rattle.app_report.specs.Lines.{word_lines}
use Rattle.app_report.specs.LinesLaws.{lines_bound}

-- ---- the walk of an accepted tree file on an accepted panel
module _ (t v : List ℕ) (n : ℕ) (r : Walked) (bound : List ℕ) (fits : tree_fits t ≡ true) (panel : panel_verdict v ≡ accepted) (room : bound_room ≡ n)
    (is : WalkFits t v n r bound) where
  the_answer : answer_of r ≡ walk_answer t v n
  unfolding walk_call
  the_answer = ap (λ (x : WalkCall). x.answer) is

  the_words : bound ≡ (walk_call t v n).bound
  the_words = ap (λ (x : WalkCall). x.bound) is

  ends : WalkEnds t v n
  ends = the_walk_ends t v panel fits n (omega arith)

  -- the buffer has room for its bindings, and their lines are those of what the walk bound
  pub record AtLeaf (clause count : ℕ) : Type 0 where
    pub few : count ≤ node_bindings_most
    pub text : leaf_line clause ++ word_lines v bound 0 count ≡ walked_text t v (walk (tree_of t) v)

  at_leaf : (clause count c : ℕ) (xs : List Bound) → clause ≡ c → count ≡ length xs → bound ≡ bound_words xs ++ zeros (n - 3 * length xs)
      → walk (tree_of t) v ≡ reached c xs → AtLeaf clause count
  unfolding walked_text
  at_leaf clause count c xs e f g w = record {
    few = omega (arith, few_are_bound t v panel fits c xs w);
    text = rw (e, f, g, lines_bound v xs (zeros (n - 3 * length xs)), w);
  }

  pub walked_leaf : (leaf : Leaf) → r ≡ Ok (Some leaf) → AtLeaf leaf.clause leaf.count
  walked_leaf leaf e = go ends
    where
      told : answers (leaf_of leaf.clause leaf.count) ≡ walk_answer t v n
      told = sym (ap answer_of e) ∙ the_answer

      go : WalkEnds t v n → AtLeaf leaf.clause leaf.count
      go (at_a_leaf c xs w a b) =
          at_leaf leaf.clause leaf.count c xs (cc (told, a)) (cc (told, a)) (the_words ∙ b) w
      go (without_a_leaf w a b) = let z : ◌≡◌ {A = ℕ} 0 1 = cc (told, a) in absurd (omega arith)
      go (with_32 w a b) = let z : ◌≡◌ {A = ℕ} 0 1 = cc (told, a) in absurd (omega arith)

  pub walked_without : r ≡ Ok None → no_leaf_line ≡ walked_text t v (walk (tree_of t) v)
  walked_without e = go ends
    where
      told : answers without_leaf ≡ walk_answer t v n
      told = sym (ap answer_of e) ∙ the_answer

      go : WalkEnds t v n → no_leaf_line ≡ walked_text t v (walk (tree_of t) v)
      go (at_a_leaf c xs w a b) = let z : ◌≡◌ {A = ℕ} 0 1 = cc (told, a) in absurd (omega arith)
      go (without_a_leaf w a b) = unfold walked_text in rw w
      go (with_32 w a b) = let z : ◌≡◌ {A = ℕ} 0 1 = cc (told, a) in absurd (omega arith)

  stuck_there : (node step : ℕ) → walk (tree_of t) v ≡ stuck → node ≡ last_node t v → step ≡ stuck_step t v (last_node t v)
      → stuck_line node step ≡ walked_text t v (walk (tree_of t) v)
  unfolding walked_text
  stuck_there node step w e f = rw (w, e, f)

  pub walked_stuck : (node step : ℕ) → r ≡ Err (Stuck node step) → stuck_line node step ≡ walked_text t v (walk (tree_of t) v)
  walked_stuck node step e = go ends
    where
      told : answers (stuck_at node step) ≡ walk_answer t v n
      told = sym (ap answer_of e) ∙ the_answer

      go : WalkEnds t v n → stuck_line node step ≡ walked_text t v (walk (tree_of t) v)
      go (at_a_leaf c xs w a b) = let z : ◌≡◌ {A = ℕ} 0 1 = cc (told, a) in absurd (omega arith)
      go (without_a_leaf w a b) = let z : ◌≡◌ {A = ℕ} 0 1 = cc (told, a) in absurd (omega arith)
      go (with_32 w a b) = stuck_there node step w (cc (told, a)) (cc (told, a))

  pub walked_refused : (refusal : Refusal) → r ≡ Err (Refused refusal) → refused_line (number_of refusal.reason) refusal.place ≡ walked_text t v (walk (tree_of t) v)
  walked_refused refusal e = go ends
    where
      told : refuses (number_of refusal.reason) refusal.place ≡ walk_answer t v n
      told = sym (ap answer_of e) ∙ the_answer

      go : WalkEnds t v n → refused_line (number_of refusal.reason) refusal.place ≡ walked_text t v (walk (tree_of t) v)
      go (at_a_leaf c xs w a b) = let z : ◌≡◌ {A = ℕ} 0 1 = cc (told, a) in absurd (omega arith)
      go (without_a_leaf w a b) = let z : ◌≡◌ {A = ℕ} 0 1 = cc (told, a) in absurd (omega arith)
      go (with_32 w a b) = let z : ◌≡◌ {A = ℕ} 0 1 = cc (told, a) in absurd (omega arith)

-- ---- the build, in buffers of the least room, of a sheet that the panel fits
module _ (s v : List ℕ) (n m : ℕ) (b : Result BuiltTree Refusal) (tree work : List ℕ) (is : BuildFits s n m b tree work) (tree_room_holds : tree_room ≡ n) (work_room_holds : work_room ≡ m)
    (fit : fit_call s v ≡ accepted) where
  in_least_room : BuildFits s tree_room work_room b tree work
  in_least_room = is ∙ sym (ap₂ (λ (x y : ℕ). build_call s x y) tree_room_holds work_room_holds)

  built_answer : build_answer_of b ≡ build_answer s tree_room work_room
  unfolding build_call
  built_answer = ap (λ (x : BuildCall). x.answer) in_least_room

  pub built_refused : (refusal : Refusal) → b ≡ Err refusal → refused_line (number_of refusal.reason) refusal.place ≡ built_text s v
  unfolding built_text
  built_refused refusal e = rw (sym built_answer ∙ ap build_answer_of e)

  -- the first bytes of the buffer are a tree file, and the panel is one
  pub record OfTree (t : List ℕ) : Type 0 where
    pub tree_fits_holds : tree_fits t ≡ true
    pub panel_fits_holds : panel_verdict v ≡ accepted
    pub text : walked_text t v (walk (tree_of t) v) ≡ built_text s v

  pub built_tree : (built : BuiltTree) → b ≡ Ok built → OfTree (take built.length tree)
  unfolding built_text
  built_tree built e =
      let x : Built = record { bytes = built.length; nodes = built.nodes; bindings = built.bindings } in
      let a : build_answer s tree_room work_room ≡ answers x = sym built_answer ∙ ap build_answer_of e in
      let file : take built.length tree ≡ sheet_tree_file s = ap (λ (y : BuildCall). take built.length y.tree) in_least_room ∙ the_buffer_has_the_file s tree_room work_room x a in
      record {
        tree_fits_holds = rw file (the_file_fits s (build_answers_only s tree_room work_room x a).builds.sheet);
        panel_fits_holds = (fit_accepts_only s v fit).1.panel;
        text = rw (file, a);
      }

-- ---- the fit check
module _ (s v : List ℕ) (f : Result (Unit {0}) Refusal) (is : FitFits s v f) where
  pub fit_accepted : f ≡ Ok tt → fit_call s v ≡ accepted
  fit_accepted e = sym is ∙ ap verdict_of e

  pub told_built : f ≡ Ok tt → built_text s v ≡ telling s v
  unfolding telling
  told_built e = rw (fit_accepted e)

  pub told_refused : (refusal : Refusal) → f ≡ Err refusal → refused_line (number_of refusal.reason) refusal.place ≡ telling s v
  unfolding telling
  told_refused refusal e = rw (sym is ∙ ap verdict_of e)
