-- Laws of the walk's answer, one for each way out of the call.
-- Rests on Answers, Turns, Bindings and the laws of stores.
use Rattle.std.proofs.Math.Path.{◌≡◌, refl, sym, ap}
use Rattle.std.proofs.Common.{◌∙◌, arith}
use Rattle.std.specs.Prelude.{Some, None, Ok, Err, ℕ, ◌-◌, ◌*◌, ◌≤◌, ◌<◌}
use mathlib.Core.List.{List, [], ◌∷◌}
use Rattle.std.proofs.Math.Option.{Option, none, some}
use Rattle.std.proofs.Math.ListN.{length}
use Rattle.base_words.specs.Words.{zeros}
use Rattle.base_words.specs.Stored.{stored}
use Rattle.base_words.specs.StoredLaws.{stored_zeros}
use Rattle.spec_rules.specs.Limits.{bound_room}
use Rattle.spec_rules.specs.SheetRefusals.{accepted, refused}
use Rattle.spec_rules.specs.PanelFile.{panel_verdict}
use Rattle.spec_rules.specs.TreeReader.{bindings_from, tree_of}
use Rattle.spec_rules.specs.Walking.{Bound, bound, Walked as WalkedTo, reached, no_leaf, stuck, at_leaf, walk}
use Rattle.spec_rules.specs.WalkPlaces.{first_stuck, last_node, stuck_step}
use Rattle.spec_rules.specs.Calls.{Answer, answers, refuses, WalkEnd, leaf_of, walk_room, tree_file_verdict, walk_end, walk_answer, bound_words, walked_words, written, walk_call}
use Rattle.spec_accepted.specs.TreeFacts.{length_bindings_from}
use Rattle.spec_accepted.specs.PanelFacts.{accepted_panel}
use Rattle.spec_accepted.specs.WalkRunsLaws.{nodes_small}
use Rattle.format_panel.specs.declared.PanelMap.{PanelMap}
use Rattle.format_panel.specs.Answers.{Accepts}
use Rattle.format_panel.specs.AnswersLaws.{accepts_opened}
use Rattle.format_tree.specs.declared.layout.TreeMap.{TreeMap}
use Rattle.format_tree.specs.CheckLaws.{Accept}
use Rattle.format_parts.specs.declared.refusals.Refusal.{Refusal}
use Rattle.format_parts.specs.Refusals.{number_of}
use Rattle.walk.specs.declared.WalkError.TheVariants.{Refused, Stuck}
use Rattle.walk.specs.declared.follow.StuckAt.{StuckAt}
use Rattle.walk.specs.declared.nodes.ReachedLeaf.{ReachedLeaf}
use Rattle.walk.specs.Positions.{stuck_at, ReadyToWalk}
use Rattle.walk.specs.Turns.{End, Arrives}
use Rattle.walk.specs.Bindings.{words_after, Binds}
use Rattle.walk.specs.BindingsLaws.{length_bound}
use Rattle.walk.specs.Answers.{Walked, answer_of, call_of, Gives, panel_end}

-- ---- the words of a leaf
length_bound_words : (xs : List Bound) → length (bound_words xs) ≡ 3 * length xs
unfolding bound_words
length_bound_words [] = refl
length_bound_words (x ∷ xs) = omega (arith, length_bound_words xs)

-- a walk that ended at w gives its end and its words
by_end : (t v : List ℕ) (w : WalkedTo) (l l' : List ℕ) (r : Walked) → w ≡ walk (tree_of t) v → answer_of r ≡ answers (walk_end t v w)
    → l' ≡ written (answers (walk_end t v w)) (walked_words w) (length l) → Gives t v l l' r
by_end t v w l l' r e a b = record {
  answer = a ∙ ap (λ (x : WalkedTo). answers (walk_end t v x)) e;
  words = b ∙ ap (λ (x : WalkedTo). written (answers (walk_end t v x)) (walked_words x) (length l)) e;
}

module _ (t v l : List ℕ) (clear : l ≡ zeros (length l)) (k : ℕ) where
  nothing_written : zeros (length l) ≡ zeros (length l - 0)
  nothing_written = let e : length l ≡ length l - 0 = omega arith in ap zeros e

  pub gives_no_leaf : Arrives t v k (Ok None) → Gives t v l l (Ok None)
  unfolding walk_end walked_words
  gives_no_leaf w = by_end t v no_leaf l l (Ok None) w.means refl (clear ∙ nothing_written)

  -- the place is the last node, and the step at which it sticks
  stuck_place : (step : ℕ) → k ≡ last_node t v → step ≡ stuck_step t v k → answer_of (Err (Stuck k step)) ≡ answers (walk_end t v stuck)
  unfolding walk_end
  stuck_place step e s = rw (s, e)

  pub gives_stuck : (step : ℕ) → Arrives t v k (Err (stuck_at step)) → Gives t v l l (Err (Stuck k step))
  unfolding walked_words
  gives_stuck step w = by_end t v stuck l l (Err (Stuck k step)) w.means (stuck_place step w.last w.sticks) (clear ∙ nothing_written)

  module _ (leaf : ReachedLeaf) (l' : List ℕ) (w : Arrives t v k (Ok (Some leaf))) where
    pub gives_unbound : (step : ℕ) → Binds v (bindings_from t leaf.first leaf.count) l l' (Err (stuck_at step)) → Gives t v l l' (Err (Stuck k step))
    unfolding walked_words at_leaf
    gives_unbound step b = go (bound v (bindings_from t leaf.first leaf.count)) refl
      where
        go : (o : Option (List Bound)) → bound v (bindings_from t leaf.first leaf.count) ≡ o → Gives t v l l' (Err (Stuck k step))
        go none q =
            let g : Err (stuck_at step) ≡ Err (stuck_at (first_stuck v (bindings_from t leaf.first leaf.count))) = b.answer ∙ rw q in
            let h : stuck_at step ≡ stuck_at (first_stuck v (bindings_from t leaf.first leaf.count)) = cc in
            let s : step ≡ first_stuck v (bindings_from t leaf.first leaf.count) = ap (λ (x : StuckAt). x.0) h in
            by_end t v stuck l l' (Err (Stuck k step)) (sym (ap (at_leaf leaf.clause) q) ∙ w.means) (stuck_place step w.last (s ∙ w.sticks))
            (b.words ∙ ap (words_after l 0) q ∙ nothing_written)
        go (some xs) q = let g : Err (stuck_at step) ≡ Ok tt = b.answer ∙ rw q in let z : ◌≡◌ {A = ℕ} 0 1 = cc in absurd (omega arith)

    pub gives_leaf : bound_room ≤ length l → Binds v (bindings_from t leaf.first leaf.count) l l' (Ok tt) → Gives t v l l' (Ok (Some (record { clause = leaf.clause; count = leaf.count })))
    unfolding walk_end at_leaf walked_words
    gives_leaf room b = go (bound v (bindings_from t leaf.first leaf.count)) refl
      where
        go : (o : Option (List Bound)) → bound v (bindings_from t leaf.first leaf.count) ≡ o → Gives t v l l' (Ok (Some (record { clause = leaf.clause; count = leaf.count })))
        go none q =
            let g : Ok tt ≡ Err (stuck_at (first_stuck v (bindings_from t leaf.first leaf.count))) = b.answer ∙ rw q in
            let z : ◌≡◌ {A = ℕ} 0 1 = cc in
            absurd (omega arith)
        go (some xs) q =
            let many : length xs ≡ leaf.count = length_bound v (bindings_from t leaf.first leaf.count) xs q ∙ length_bindings_from t leaf.first leaf.count in
            let few : length (bound_words xs) ≤ length l = omega (arith, length_bound_words xs, w.holds.1) in
            by_end t v (reached leaf.clause xs) l l' (Ok (Some (record { clause = leaf.clause; count = leaf.count }))) (sym (ap (at_leaf leaf.clause) q) ∙ w.means) (ap (λ (k : ℕ). answers (leaf_of leaf.clause k)) (sym many))
            (b.words ∙ ap (words_after l 0) q ∙ ap (λ (x : List ℕ). stored x 0 (bound_words xs)) clear ∙ stored_zeros (length l) (bound_words xs) few)

-- ---- the node of 32 is a word, since the length of a tree file is one
module _ {t v : List ℕ} {m : TreeMap} {n : PanelMap} (ready : ReadyToWalk t m v n) where
  file_short : length t < 65536
  file_short = omega (arith, ready.mapped.short)

  pub node_word : {k : ℕ} {r : End} → Arrives t v k r → k < 65536
  node_word w = omega (arith, w.there, nodes_small t ready.sound file_short)

-- ---- the call
pub ready : {t : List ℕ} {m : TreeMap} {v : List ℕ} {n : PanelMap} → Accept t m → Accepts v n → ReadyToWalk t m v n
ready {t} {m} {v} {n} a b = record {
  mapped = a.map_is;
  sound = a.sound;
  opened = accepts_opened v n b;
  panel = accepted_panel v b.verdict;
}

-- k is the buffer once it is all zero
module _ (t v k : List ℕ) (clear : k ≡ zeros (length k)) (n : ℕ) (same : length k ≡ n) where
  call_refused : (r : Refusal) → walk_answer t v (length k) ≡ refuses (number_of r.reason) r.place → call_of (Err (Refused r)) k ≡ walk_call t v n
  unfolding walk_call
  call_refused r e = rw (← same, e) (ap (λ (l : List ℕ). record { answer = refuses (number_of r.reason) r.place; bound = l }) clear)

  pub call_no_room : (r : Refusal) → refused (number_of r.reason) r.place ≡ walk_room (length k) → call_of (Err (Refused r)) k ≡ walk_call t v n
  unfolding walk_answer
  call_no_room r e = call_refused r (rw (← e))

  module _ (room : accepted ≡ walk_room (length k)) where
    pub call_no_tree : (r : Refusal) → refused (number_of r.reason) r.place ≡ tree_file_verdict t → call_of (Err (Refused r)) k ≡ walk_call t v n
    unfolding walk_answer
    call_no_tree r e = call_refused r (rw (← room, ← e))

    module _ (tree : accepted ≡ tree_file_verdict t) where
      pub call_no_panel : (r : Refusal) → refused (number_of r.reason) r.place ≡ panel_verdict v → call_of (Err (Refused r)) k ≡ walk_call t v n
      unfolding walk_answer
      call_no_panel r e = call_refused r (rw (← room, ← tree, ← e))

      pub call_walks : accepted ≡ panel_verdict v → (l : List ℕ) (r : Walked) → Gives t v k l r → call_of r l ≡ walk_call t v n
      unfolding walk_call
      call_walks panel l r g =
          let a : walk_answer t v (length k) ≡ panel_end t v = unfold walk_answer in rw (← room, ← tree, ← panel) in
          let b = g.words in
          rw (← same, a, ← b) (ap (λ (x : Answer WalkEnd). record { answer = x; bound = l }) g.answer)
