-- DEMAND 1 AT THE C FACE, of the walk. The word that `dewmycel_walk` answers reads back as the walk's own answer, for every tree of bytes, every
-- panel and every buffer. So what Demand1 says of the walk holds of the word: it is a refusal with a number and a place, or 32 with a node and
-- a step, exactly for the walk's reasons; and the buffer is then all zero.
use Rattle.std.specs.Prelude.{◌≡◌, refl, Bool, true, false, ◌↔◌, List, ℕ, ◌≤◌, ◌<◌, leb, length}
use Rattle.std.proofs.Common.{sym, ◌∙◌, arith, leb-true, leb-false}
use Rattle.std.proofs.Math.Path.{ap}
use Rattle.base_words.specs.Words.{Bytes, zeros}
use Rattle.base_words.specs.WordsLaws.{word_at_small}
use Rattle.spec_rules.specs.Limits.{bound_room}
use Rattle.spec_rules.specs.RefusalNumbers.{room_refusal, panel_length_refusal, panel_layout_refusal, panel_shape_refusal, panel_text_refusal, tree_refusal, stuck_refusal}
use Rattle.spec_rules.specs.SheetRefusals.{Verdict, accepted, refused, require}
use Rattle.spec_rules.specs.PanelFile.{panel_verdict, panel_length_fits, panel_layout_fits, panel_shape_fits, panel_texts_fit}
use Rattle.spec_rules.specs.TreeReader.{tree_fits, tree_of, node_word, node_clause}
use Rattle.spec_rules.specs.Walking.{Walked, reached, no_leaf, stuck, walk}
use Rattle.spec_rules.specs.WalkPlaces.{last_node, stuck_step}
use Rattle.spec_rules.specs.Calls.{Answer, answers, refuses, WalkEnd, stuck_at, walk_answer, walk_call}
use Rattle.spec_theorems.specs.CallsLaws.{walk_room_lem, walk_tree, walk_panel, walk_reached, walk_without, walk_stuck, walk_refused_writes, walk_stuck_writes}
use Rattle.spec_theorems.specs.Theorems.{few_are_bound, the_leaf_is_there, the_place_is_short}
use Rattle.dewmycel.specs.Packed.{packed_walk}
use Rattle.dewmycel.specs.PackedLaws.{read_walk, leaf_reads_back, no_leaf_reads_back, stuck_reads_back, unwalked_reads_back}
use Rattle.dewmycel.specs.Face.{WalkFace}
use Rattle.demands.specs.Reasons.{WalkRefuses, WalkSticks}
use Rattle.demands.specs.ReasonsLaws.{walk_reason, reason_walk, stuck_reason, reason_stuck}

-- a panel's refusals: 21 to 24, all with place 0
record PanelRefusal (number place : ℕ) : Type 0 where
  least : panel_length_refusal ≤ number
  most : number ≤ panel_text_refusal
  no_place : place ≡ 0

panel_refusal : (v : List ℕ) (number place : ℕ) → panel_verdict v ≡ refused number place → PanelRefusal number place
unfolding panel_verdict
panel_refusal v number place e = go (panel_length_fits v) (panel_layout_fits v) (panel_shape_fits v) (panel_texts_fit v) e
  where
    one : (k : ℕ) → panel_length_refusal ≤ k → k ≤ panel_text_refusal → refused k 0 ≡ refused number place → PanelRefusal number place
    one k least most f =
        let a : k ≡ number = cc in
        let b : 0 ≡ place = cc in
        record { least = omega arith; most = omega arith; no_place = sym b }

    go : (a b c d : Bool)
        → require a panel_length_refusal (require b panel_layout_refusal (require c panel_shape_refusal (require d panel_text_refusal accepted))) ≡ refused number place
        → PanelRefusal number place
    go false b c d f = one panel_length_refusal (omega arith) (omega arith) f
    go true false c d f = one panel_layout_refusal (omega arith) (omega arith) f
    go true true false d f = one panel_shape_refusal (omega arith) (omega arith) f
    go true true true false f = one panel_text_refusal (omega arith) (omega arith) f
    go true true true true f = let z : ◌≡◌ {A = ℕ} 0 1 = cc in absurd (omega arith)

module _ (t v : List ℕ) (n : ℕ) (bytes : Bytes t) where
  -- how an answer that is known reads back
  reads : (a : Answer WalkEnd) → walk_answer t v n ≡ a → read_walk (packed_walk a) ≡ a → read_walk (packed_walk (walk_answer t v n)) ≡ walk_answer t v n
  reads a e f = rw e f

  refusal_reads : (number place : ℕ) → 0 < number → number < stuck_refusal → place ≡ 0 → walk_answer t v n ≡ refuses number place
      → read_walk (packed_walk (walk_answer t v n)) ≡ walk_answer t v n
  refusal_reads number place some few zero e =
      reads (refuses number place) e
      (unwalked_reads_back number place (record { some_number = some; number_word = omega arith; place_word = omega arith }) (λ q. omega arith))

  module _ (room : bound_room ≤ n) (fits : tree_fits t ≡ true) (panel : panel_verdict v ≡ accepted) where
    clause_word : (k : ℕ) → node_clause t k < 65536
    unfolding node_clause node_word
    clause_word k = word_at_small bytes _

    end_reads : (w : Walked) → walk (tree_of t) v ≡ w → read_walk (packed_walk (walk_answer t v n)) ≡ walk_answer t v n
    end_reads (reached c xs) e =
        let clause = (the_leaf_is_there t v fits c xs e).its_clause in
        reads _ (walk_reached t v n room fits panel c xs e)
        (leaf_reads_back c (length xs) (record {
          first = omega arith;
          second = omega (arith, clause, clause_word (last_node t v));
          third = omega (arith, few_are_bound t v panel fits c xs e);
          fourth = omega arith;
        }))
    end_reads no_leaf e = reads _ (walk_without t v n room fits panel e) no_leaf_reads_back
    end_reads stuck e =
        let short = the_place_is_short t v fits bytes in
        reads _ (walk_stuck t v n room fits panel e)
        (stuck_reads_back (last_node t v) (stuck_step t v (last_node t v)) (record { first = omega arith; second = short.0; third = short.1; fourth = omega arith }))

  -- THEOREM: the word reads back, whatever the tree, the panel and the buffer
  pub walk_reads_back : read_walk (packed_walk (walk_answer t v n)) ≡ walk_answer t v n
  walk_reads_back = room (leb bound_room n) refl
    where
      panel : bound_room ≤ n → tree_fits t ≡ true → (w : Verdict) → panel_verdict v ≡ w → read_walk (packed_walk (walk_answer t v n)) ≡ walk_answer t v n
      panel a b accepted h = end_reads a b h (walk (tree_of t) v) refl
      panel a b (refused number place) h =
          let r = panel_refusal v number place h in
          refusal_reads number place (omega (arith, r.least)) (omega (arith, r.most)) r.no_place (walk_panel t v n a b number place h)

      tree : bound_room ≤ n → (b : Bool) → tree_fits t ≡ b → read_walk (packed_walk (walk_answer t v n)) ≡ walk_answer t v n
      tree a true x = panel a x (panel_verdict v) refl
      tree a false x = refusal_reads tree_refusal 0 (omega arith) (omega arith) refl (walk_tree t v n a x)

      room : (b : Bool) → leb bound_room n ≡ b → read_walk (packed_walk (walk_answer t v n)) ≡ walk_answer t v n
      room true x = tree (leb-true bound_room n x) (tree_fits t) refl
      room false x = refusal_reads room_refusal 0 (omega arith) (omega arith) refl (walk_room_lem t v n (leb-false bound_room n x))

  -- ---- of a word that fits the call's contract at the C face
  module _ (y : ℕ) (bound : List ℕ) (fits : WalkFace y bound (walk_call t v n)) where
    pub the_word_reads_back : read_walk y ≡ walk_answer t v n
    unfolding walk_call
    the_word_reads_back = ap read_walk fits.answer ∙ walk_reads_back

    pub word_is_refused_exactly : (number place : ℕ) → (read_walk y ≡ refuses number place) ↔ WalkRefuses t v n number place
    word_is_refused_exactly number place = (
      λ e. walk_reason t v n number place (sym the_word_reads_back ∙ e),
      λ o. the_word_reads_back ∙ reason_walk t v n number place o,
    )

    pub word_is_stuck_exactly : (node step : ℕ) → (read_walk y ≡ answers (stuck_at node step)) ↔ WalkSticks t v n node step
    word_is_stuck_exactly node step = (
      λ e. stuck_reason t v n node step (sym the_word_reads_back ∙ e),
      λ o. the_word_reads_back ∙ reason_stuck t v n node step o,
    )

    pub word_refused_is_zero : (number place : ℕ) → read_walk y ≡ refuses number place → bound ≡ zeros n
    word_refused_is_zero number place e = fits.words ∙ walk_refused_writes t v n number place (sym the_word_reads_back ∙ e)

    pub word_stuck_is_zero : (node step : ℕ) → read_walk y ≡ answers (stuck_at node step) → bound ≡ zeros n
    word_stuck_is_zero node step e =
        let o = stuck_reason t v n node step (sym the_word_reads_back ∙ e) in
        fits.words ∙ walk_stuck_writes t v n o.room o.tree_fits_holds o.panel_fits_holds o.is_stuck
