-- Each refusal of a sheet, of its tree and of a panel, exactly: `refusal-N` says that N is given at place k exactly if the tests before
-- its own hold and its own fails, at k. The definitions of spec_rules as chains of stages.
use Rattle.std.specs.Prelude.{ℕ, suc, ◌≤◌, ◌<◌, ◌≡◌, refl, ◌⊎◌, ◌↔◌, Bool, true, false, List, leb, length}
use Rattle.std.proofs.Common.{arith, ◌∙◌, inl, inr, leb-true, leb-false, le-leb}
use Rattle.std.proofs.Math.Bool.{not}
use Rattle.std.proofs.lemmas.Bool.{lt-leb, not-false}
use Rattle.spec_rules.specs.Limits.{nodes_most, bindings_most}
use Rattle.spec_rules.specs.RefusalNumbers.{length_refusal, layout_refusal, no_clause_refusal, count_refusal, types_refusal, transparent_refusal, shape_refusal, text_refusal, misfit_refusal, name_twice_refusal, nodes_refusal, bindings_refusal, idle_refusal, panel_length_refusal, panel_layout_refusal, panel_shape_refusal, panel_text_refusal}
use Rattle.spec_rules.specs.SearchingLaws.{Lowest}
use Rattle.spec_rules.specs.SheetFile.{types, patterns, clauses}
use Rattle.spec_rules.specs.SheetRefusals.{length_fits, layout_fits, has_clause, counts_fit, types_fit, transparent, lowest_transparent, shape_fits, bad_text, lowest_bad_text, misfit, lowest_misfit, name_twice, lowest_name_twice, Verdict, accepted, refused, require, require_none, and_then, readable_verdict, transparent_verdict, shape_verdict, clauses_verdict, verdict}
use Rattle.spec_rules.specs.Building.{Tree}
use Rattle.spec_rules.specs.Hoisting.{nodes_in, bindings_in, has_leaf}
use Rattle.spec_rules.specs.PanelFile.{panel_length_fits, panel_layout_fits, panel_shape_fits, panel_texts_fit, panel_verdict}
use Rattle.spec_rules.specs.Calls.{lowest_idle, tree_verdict}
use Rattle.spec_theorems.specs.Said.{Passes2, Passes3, Passes4, Passes5, Passes6, Passes7, Passes8, Passes9, Passes10, Passes11, Passes12, Passes13, Passes14, Passes21, Passes22, Passes23, Passes24}
use Rattle.spec_theorems.specs.Stages.{Stage, then_stage, From, none_from, stage_from, stage_later, stage_here, stage_accepted, test_stage, lowest_stage}

-- ---- chains of stages: Passed and what decides then
record Chain (w : Verdict) (n : ℕ) (Passed : Type 0) (rest : Verdict) : Type 0 where
  goes_on : Passed → w ≡ rest
  later : (m k : ℕ) → n < m → w ≡ refused m k → Passed × (rest ≡ refused m k)
  accepts : w ≡ accepted → Passed × (rest ≡ accepted)

module _ {w : Verdict} {n : ℕ} {Pass : Type 0} {Fail : ℕ → Type 0} {rest : Verdict} where
  first : Stage w n Pass Fail rest → Chain w n Pass rest
  first s = record { goes_on = s.goes_on; later = stage_later s; accepts = stage_accepted s }

  first_refusal : Stage w n Pass Fail rest → From (suc n) rest → (k : ℕ) → (w ≡ refused n k) ↔ Fail k
  first_refusal s f k = (stage_here s f k, s.stops k)

module _ {w : Verdict} {n : ℕ} {Passed : Type 0} {mid : Verdict} (c : Chain w n Passed mid) where
  next : {m : ℕ} {Pass : Type 0} {Fail : ℕ → Type 0} {rest : Verdict} → n < m → Stage mid m Pass Fail rest → Chain w m (Passed × Pass) rest
  next {m} {Pass} {Fail} {rest} l s = record {
    goes_on = λ (a, b). c.goes_on a ∙ s.goes_on b;
    later = λ p k h e.
        let (a, d) = c.later p k (omega arith) e in
        let (b, g) = stage_later s p k h d in
        ((a, b), g);
    accepts = λ e.
        let (a, d) = c.accepts e in
        let (b, g) = stage_accepted s d in
        ((a, b), g);
  }

  refusal : {m : ℕ} {Pass : Type 0} {Fail : ℕ → Type 0} {rest : Verdict} → n < m → Stage mid m Pass Fail rest → From (suc m) rest → (k : ℕ)
      → (w ≡ refused m k) ↔ (Passed × Fail k)
  refusal {m} l s f k = (
    λ e. let (a, d) = c.later m k l e in (a, stage_here s f k d),
    λ (a, b). c.goes_on a ∙ s.stops k b,
  )

  acceptance : mid ≡ accepted → (w ≡ accepted) ↔ Passed
  acceptance e = (λ d. (c.accepts d).0, λ a. c.goes_on a ∙ e)

-- the numbers of a chain end with its last
most_of : {w : Verdict} {n : ℕ} {Passed : Type 0} → Chain w n Passed accepted → (m k : ℕ) → w ≡ refused m k → m ≤ n
most_of {w} {n} c m k e = go (leb m n) refl
  where
    go : (b : Bool) → leb m n ≡ b → m ≤ n
    go true f = leb-true m n f
    go false f = absurd (omega (arith, none_from (suc m) m k (c.later m k (leb-false m n f) e).1))

-- ---- 2 to 11
module _ (s : List ℕ) where
  abbrev after10 : Verdict
  after10 = require_none (lowest_name_twice s) name_twice_refusal accepted

  abbrev after9 : Verdict
  after9 = require_none (lowest_misfit s) misfit_refusal after10

  abbrev after8 : Verdict
  after8 = clauses_verdict s

  abbrev after7 : Verdict
  after7 = and_then (shape_verdict s) after8

  abbrev after6 : Verdict
  after6 = and_then (transparent_verdict s) after7

  -- what is left of the first stage of the verdict, and the other stages after it
  abbrev left5 : Verdict
  left5 = require (types_fit s) types_refusal accepted

  abbrev left4 : Verdict
  left4 = require (counts_fit s) count_refusal left5

  abbrev left3 : Verdict
  left3 = require (has_clause s) no_clause_refusal left4

  abbrev left2 : Verdict
  left2 = require (layout_fits s) layout_refusal left3

  abbrev after5 : Verdict
  after5 = and_then left5 after6

  abbrev after4 : Verdict
  after4 = and_then left4 after6

  abbrev after3 : Verdict
  after3 = and_then left3 after6

  abbrev after2 : Verdict
  after2 = and_then left2 after6

  stage2 : Stage (verdict s) length_refusal (Passes2 s) (λ k. (length_fits s ≡ false) × (k ≡ 0)) after2
  unfolding verdict readable_verdict
  stage2 = then_stage after6 (test_stage (length_fits s) length_refusal left2)

  stage3 : Stage after2 layout_refusal (layout_fits s ≡ true) (λ k. (layout_fits s ≡ false) × (k ≡ 0)) after3
  stage3 = then_stage after6 (test_stage (layout_fits s) layout_refusal left3)

  stage4 : Stage after3 no_clause_refusal (has_clause s ≡ true) (λ k. (has_clause s ≡ false) × (k ≡ 0)) after4
  stage4 = then_stage after6 (test_stage (has_clause s) no_clause_refusal left4)

  stage5 : Stage after4 count_refusal (counts_fit s ≡ true) (λ k. (counts_fit s ≡ false) × (k ≡ 0)) after5
  stage5 = then_stage after6 (test_stage (counts_fit s) count_refusal left5)

  stage6 : Stage after5 types_refusal (types_fit s ≡ true) (λ k. (types_fit s ≡ false) × (k ≡ 0)) after6
  stage6 = then_stage after6 (test_stage (types_fit s) types_refusal accepted)

  stage7 : Stage after6 transparent_refusal ((t : ℕ) → t < types s → transparent s t ≡ false) (Lowest (transparent s) 0 (types s)) after7
  unfolding transparent_verdict lowest_transparent
  stage7 = then_stage after7 (lowest_stage (transparent s) (types s) transparent_refusal accepted)

  stage8 : Stage after7 shape_refusal (shape_fits s ≡ true) (λ k. (shape_fits s ≡ false) × (k ≡ 0)) after8
  unfolding shape_verdict
  stage8 = then_stage after8 (test_stage (shape_fits s) shape_refusal accepted)

  stage9 : Stage after8 text_refusal ((p : ℕ) → p < patterns s → bad_text s p ≡ false) (Lowest (bad_text s) 0 (patterns s)) after9
  unfolding clauses_verdict lowest_bad_text
  stage9 = lowest_stage (bad_text s) (patterns s) text_refusal after9

  stage10 : Stage after9 misfit_refusal ((c : ℕ) → c < clauses s → misfit s c ≡ false) (Lowest (misfit s) 0 (clauses s)) after10
  unfolding lowest_misfit
  stage10 = lowest_stage (misfit s) (clauses s) misfit_refusal after10

  stage11 : Stage after10 name_twice_refusal ((c : ℕ) → c < clauses s → name_twice s c ≡ false) (Lowest (name_twice s) 0 (clauses s)) accepted
  unfolding lowest_name_twice
  stage11 = lowest_stage (name_twice s) (clauses s) name_twice_refusal accepted

  from11 : From name_twice_refusal after10
  from11 = stage_from stage11 (none_from 12)

  from10 : From misfit_refusal after9
  from10 = stage_from stage10 from11

  from9 : From text_refusal after8
  from9 = stage_from stage9 from10

  from8 : From shape_refusal after7
  from8 = stage_from stage8 from9

  from7 : From transparent_refusal after6
  from7 = stage_from stage7 from8

  from6 : From types_refusal after5
  from6 = stage_from stage6 from7

  from5 : From count_refusal after4
  from5 = stage_from stage5 from6

  from4 : From no_clause_refusal after3
  from4 = stage_from stage4 from5

  from3 : From layout_refusal after2
  from3 = stage_from stage3 from4

  chain2 : Chain (verdict s) length_refusal (Passes2 s) after2
  chain2 = first stage2

  chain3 : Chain (verdict s) layout_refusal (Passes3 s) after3
  chain3 = next chain2 (omega arith) stage3

  chain4 : Chain (verdict s) no_clause_refusal (Passes4 s) after4
  chain4 = next chain3 (omega arith) stage4

  chain5 : Chain (verdict s) count_refusal (Passes5 s) after5
  chain5 = next chain4 (omega arith) stage5

  chain6 : Chain (verdict s) types_refusal (Passes6 s) after6
  chain6 = next chain5 (omega arith) stage6

  chain7 : Chain (verdict s) transparent_refusal (Passes7 s) after7
  chain7 = next chain6 (omega arith) stage7

  chain8 : Chain (verdict s) shape_refusal (Passes8 s) after8
  chain8 = next chain7 (omega arith) stage8

  chain9 : Chain (verdict s) text_refusal (Passes9 s) after9
  chain9 = next chain8 (omega arith) stage9

  chain10 : Chain (verdict s) misfit_refusal (Passes10 s) after10
  chain10 = next chain9 (omega arith) stage10

  chain11 : Chain (verdict s) name_twice_refusal (Passes11 s) accepted
  chain11 = next chain10 (omega arith) stage11

  pub sheet_accepted : (verdict s ≡ accepted) ↔ Passes11 s
  sheet_accepted = acceptance chain11 refl

  -- the numbers that a sheet is refused with
  pub sheet_numbers : (n k : ℕ) → verdict s ≡ refused n k → (2 ≤ n) × (n ≤ 11)
  sheet_numbers n k e = (stage_from stage2 from3 n k e, most_of chain11 n k e)

  module _ (k : ℕ) where
    pub refusal_2 : (verdict s ≡ refused length_refusal k) ↔ ((length_fits s ≡ false) × (k ≡ 0))
    refusal_2 = first_refusal stage2 from3 k

    pub refusal_3 : (verdict s ≡ refused layout_refusal k) ↔ (Passes2 s × ((layout_fits s ≡ false) × (k ≡ 0)))
    refusal_3 = refusal chain2 (omega arith) stage3 from4 k

    pub refusal_4 : (verdict s ≡ refused no_clause_refusal k) ↔ (Passes3 s × ((has_clause s ≡ false) × (k ≡ 0)))
    refusal_4 = refusal chain3 (omega arith) stage4 from5 k

    pub refusal_5 : (verdict s ≡ refused count_refusal k) ↔ (Passes4 s × ((counts_fit s ≡ false) × (k ≡ 0)))
    refusal_5 = refusal chain4 (omega arith) stage5 from6 k

    pub refusal_6 : (verdict s ≡ refused types_refusal k) ↔ (Passes5 s × ((types_fit s ≡ false) × (k ≡ 0)))
    refusal_6 = refusal chain5 (omega arith) stage6 from7 k

    pub refusal_7 : (verdict s ≡ refused transparent_refusal k) ↔ (Passes6 s × Lowest (transparent s) 0 (types s) k)
    refusal_7 = refusal chain6 (omega arith) stage7 from8 k

    pub refusal_8 : (verdict s ≡ refused shape_refusal k) ↔ (Passes7 s × ((shape_fits s ≡ false) × (k ≡ 0)))
    refusal_8 = refusal chain7 (omega arith) stage8 from9 k

    pub refusal_9 : (verdict s ≡ refused text_refusal k) ↔ (Passes8 s × Lowest (bad_text s) 0 (patterns s) k)
    refusal_9 = refusal chain8 (omega arith) stage9 from10 k

    pub refusal_10 : (verdict s ≡ refused misfit_refusal k) ↔ (Passes9 s × Lowest (misfit s) 0 (clauses s) k)
    refusal_10 = refusal chain9 (omega arith) stage10 from11 k

    pub refusal_11 : (verdict s ≡ refused name_twice_refusal k) ↔ (Passes10 s × Lowest (name_twice s) 0 (clauses s) k)
    refusal_11 = refusal chain10 (omega arith) stage11 (none_from 12) k

-- ---- 12, 13 and 14
most_stage : (x most n : ℕ) (rest : Verdict) → Stage (require (leb x most) n rest) n (x ≤ most) (λ k. (most < x) × (k ≡ 0)) rest
most_stage x most n rest =
    let s = test_stage (leb x most) n rest in
    record {
      goes_on = λ l. s.goes_on (le-leb x most l);
      stops = λ k (l, z). s.stops k (lt-leb x most l, z);
      decided = either_way s.decided;
    }
  where
    either_way : (leb x most ≡ true) ⊎ ((k : ℕ) × ((leb x most ≡ false) × (k ≡ 0))) → (x ≤ most) ⊎ ((k : ℕ) × ((most < x) × (k ≡ 0)))
    either_way (inl e) = inl (leb-true x most e)
    either_way (inr (k, q)) = inr (k, (leb-false x most q.0, q.1))

module _ (n : ℕ) (a : Tree) where
  abbrev after13 : Verdict
  after13 = require_none (lowest_idle n a) idle_refusal accepted

  abbrev after12 : Verdict
  after12 = require (leb (length (bindings_in a)) bindings_most) bindings_refusal after13

  stage12 : Stage (tree_verdict n a) nodes_refusal (Passes12 a) (λ k. (nodes_most < nodes_in a) × (k ≡ 0)) after12
  unfolding tree_verdict
  stage12 = most_stage (nodes_in a) nodes_most nodes_refusal after12

  stage13 : Stage after12 bindings_refusal (length (bindings_in a) ≤ bindings_most) (λ k. (bindings_most < length (bindings_in a)) × (k ≡ 0)) after13
  stage13 = most_stage (length (bindings_in a)) bindings_most bindings_refusal after13

  stage14 : Stage after13 idle_refusal ((c : ℕ) → c < n → not (has_leaf c a) ≡ false) (Lowest (λ c. not (has_leaf c a)) 0 n) accepted
  unfolding lowest_idle
  stage14 = lowest_stage (λ c. not (has_leaf c a)) n idle_refusal accepted

  from14 : From idle_refusal after13
  from14 = stage_from stage14 (none_from 15)

  from13 : From bindings_refusal after12
  from13 = stage_from stage13 from14

  chain12 : Chain (tree_verdict n a) nodes_refusal (Passes12 a) after12
  chain12 = first stage12

  chain13 : Chain (tree_verdict n a) bindings_refusal (Passes13 a) after13
  chain13 = next chain12 (omega arith) stage13

  chain14 : Chain (tree_verdict n a) idle_refusal (Passes13 a × ((c : ℕ) → c < n → not (has_leaf c a) ≡ false)) accepted
  chain14 = next chain13 (omega arith) stage14

  pub tree_numbers : (m k : ℕ) → tree_verdict n a ≡ refused m k → (12 ≤ m) × (m ≤ 14)
  tree_numbers m k e = (stage_from stage12 from13 m k e, most_of chain14 m k e)

  pub tree_accepted : (tree_verdict n a ≡ accepted) ↔ Passes14 n a
  tree_accepted =
      let (f, g) = acceptance chain14 refl in (
        λ e. let (p, h) = f e in (p, λ c l. not-false (has_leaf c a) (h c l)),
        λ (p, h). g (p, λ c l. not_of (has_leaf c a) (h c l)),
      )
    where
      not_of : (b : Bool) → b ≡ true → not b ≡ false
      not_of b e = rw e

  module _ (k : ℕ) where
    pub refusal_12 : (tree_verdict n a ≡ refused nodes_refusal k) ↔ ((nodes_most < nodes_in a) × (k ≡ 0))
    refusal_12 = first_refusal stage12 from13 k

    pub refusal_13 : (tree_verdict n a ≡ refused bindings_refusal k) ↔ (Passes12 a × ((bindings_most < length (bindings_in a)) × (k ≡ 0)))
    refusal_13 = refusal chain12 (omega arith) stage13 from14 k

    pub refusal_14 : (tree_verdict n a ≡ refused idle_refusal k) ↔ (Passes13 a × Lowest (λ c. not (has_leaf c a)) 0 n k)
    refusal_14 = refusal chain13 (omega arith) stage14 (none_from 15) k

-- ---- 21 to 24
module _ (v : List ℕ) where
  abbrev after23 : Verdict
  after23 = require (panel_texts_fit v) panel_text_refusal accepted

  abbrev after22 : Verdict
  after22 = require (panel_shape_fits v) panel_shape_refusal after23

  abbrev after21 : Verdict
  after21 = require (panel_layout_fits v) panel_layout_refusal after22

  stage21 : Stage (panel_verdict v) panel_length_refusal (Passes21 v) (λ k. (panel_length_fits v ≡ false) × (k ≡ 0)) after21
  unfolding panel_verdict
  stage21 = test_stage (panel_length_fits v) panel_length_refusal after21

  stage22 : Stage after21 panel_layout_refusal (panel_layout_fits v ≡ true) (λ k. (panel_layout_fits v ≡ false) × (k ≡ 0)) after22
  stage22 = test_stage (panel_layout_fits v) panel_layout_refusal after22

  stage23 : Stage after22 panel_shape_refusal (panel_shape_fits v ≡ true) (λ k. (panel_shape_fits v ≡ false) × (k ≡ 0)) after23
  stage23 = test_stage (panel_shape_fits v) panel_shape_refusal after23

  stage24 : Stage after23 panel_text_refusal (panel_texts_fit v ≡ true) (λ k. (panel_texts_fit v ≡ false) × (k ≡ 0)) accepted
  stage24 = test_stage (panel_texts_fit v) panel_text_refusal accepted

  from24 : From panel_text_refusal after23
  from24 = stage_from stage24 (none_from 25)

  from23 : From panel_shape_refusal after22
  from23 = stage_from stage23 from24

  from22 : From panel_layout_refusal after21
  from22 = stage_from stage22 from23

  chain21 : Chain (panel_verdict v) panel_length_refusal (Passes21 v) after21
  chain21 = first stage21

  chain22 : Chain (panel_verdict v) panel_layout_refusal (Passes22 v) after22
  chain22 = next chain21 (omega arith) stage22

  chain23 : Chain (panel_verdict v) panel_shape_refusal (Passes23 v) after23
  chain23 = next chain22 (omega arith) stage23

  chain24 : Chain (panel_verdict v) panel_text_refusal (Passes24 v) accepted
  chain24 = next chain23 (omega arith) stage24

  pub panel_numbers : (n k : ℕ) → panel_verdict v ≡ refused n k → (21 ≤ n) × (n ≤ 24)
  panel_numbers n k e = (stage_from stage21 from22 n k e, most_of chain24 n k e)

  pub panel_accepted : (panel_verdict v ≡ accepted) ↔ Passes24 v
  panel_accepted = acceptance chain24 refl

  module _ (k : ℕ) where
    pub refusal_21 : (panel_verdict v ≡ refused panel_length_refusal k) ↔ ((panel_length_fits v ≡ false) × (k ≡ 0))
    refusal_21 = first_refusal stage21 from22 k

    pub refusal_22 : (panel_verdict v ≡ refused panel_layout_refusal k) ↔ (Passes21 v × ((panel_layout_fits v ≡ false) × (k ≡ 0)))
    refusal_22 = refusal chain21 (omega arith) stage22 from23 k

    pub refusal_23 : (panel_verdict v ≡ refused panel_shape_refusal k) ↔ (Passes22 v × ((panel_shape_fits v ≡ false) × (k ≡ 0)))
    refusal_23 = refusal chain22 (omega arith) stage23 from24 k

    pub refusal_24 : (panel_verdict v ≡ refused panel_text_refusal k) ↔ (Passes23 v × ((panel_texts_fit v ≡ false) × (k ≡ 0)))
    refusal_24 = refusal chain23 (omega arith) stage24 (none_from 25) k
