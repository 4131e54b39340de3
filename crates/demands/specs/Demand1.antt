-- DEMAND 1. Every byte string offered as sheet, tree or panel gets an answer, and each call ends. What does not fit is refused by
-- document 01's numbers, exactly when 01 says, and writable memory is then all zero.
--
-- That a call ends and answers is what it is to be proved: no call of crate dewmycel asks anything of its bytes or of its buffers. Here is
-- what it answers. An answer that fits a call's contract is a refusal with a number and a place exactly if there is that reason for it
-- (Reasons has 01's order for each call), and the tests behind the numbers are 01's, tried in 01's order. 32 has two numbers for its place,
-- the node and the step at which the walk is stuck: an answer of the walk is that exactly if the walk is stuck there.
use Rattle.std.specs.Prelude.{◌≡◌, refl, Some, None, Result, Ok, Err, false, not, ◌↔◌, List, [], ℕ, ◌<◌, length}
use Rattle.std.proofs.Common.{sym, ◌∙◌, arith}
use Rattle.std.proofs.Math.Path.{ap}
use Rattle.base_words.specs.Words.{text_at, zeros}
use Rattle.spec_rules.specs.Limits.{nodes_most, bindings_most}
use Rattle.spec_rules.specs.SearchingLaws.{Lowest}
use Rattle.spec_rules.specs.SheetFile.{types, patterns, clauses}
use Rattle.spec_rules.specs.SheetRefusals.{accepted, refused, verdict, length_fits, layout_fits, has_clause, counts_fit, types_fit, transparent, shape_fits, bad_text, misfit, name_twice}
use Rattle.spec_rules.specs.PanelFile.{panel_verdict, panel_length_fits, panel_layout_fits, panel_shape_fits, panel_texts_fit}
use Rattle.spec_rules.specs.Building.{Tree}
use Rattle.spec_rules.specs.Hoisting.{has_leaf, nodes_in, bindings_in}
use Rattle.spec_rules.specs.Calls.{refuses, tree_verdict, BuildCall, build_answer, build_call, WalkCall, walk_answer, walk_call, text_part, part_of_span}
use Rattle.spec_theorems.specs.Said.{StuckThere, Passes2, Passes3, Passes4, Passes5, Passes6, Passes7, Passes8, Passes9, Passes10, Passes11, Passes12, Passes13, Passes14, Passes21, Passes22, Passes23, Passes24}
use Rattle.spec_theorems.specs.CallsLaws.{build_refused_writes, walk_refused_writes, walk_stuck_writes}
use Rattle.spec_theorems.specs.Theorems.{the_place_is_there, accepted_exactly, panel_accepted_exactly, refused_2_exactly, refused_3_exactly, refused_4_exactly, refused_5_exactly, refused_6_exactly, refused_7_exactly, refused_8_exactly, refused_9_exactly, refused_10_exactly, refused_11_exactly, refused_12_exactly, refused_13_exactly, refused_21_exactly, refused_22_exactly, refused_23_exactly, refused_24_exactly}
use Rattle.spec_theorems.proofs.Theorems.{tree_accepted_exactly}
use Rattle.spec_theorems.specs.Refusals.{refusal_14}
use Rattle.format_parts.specs.declared.refusals.Refusal.{Refusal}
use Rattle.format_parts.specs.declared.sections.Section.{Section}
use Rattle.format_parts.specs.Refusals.{number_of, verdict_of}
use Rattle.format_panel.specs.Answers.{span_of}
use Rattle.walk.specs.declared.WalkError.TheVariants.{Refused, Stuck}
use Rattle.walk.specs.Answers.{Walked, answer_of as walk_answer_of}
use Rattle.build_call.specs.declared.BuiltTree.{BuiltTree}
use Rattle.build_call.specs.Answers.{answer_of as build_answer_of}
use Rattle.dewmycel.specs.Promises.{BuildFits, FitFits, WalkFits, TextFits, PartFits}
use Rattle.demands.specs.OneAnswer.{walk_known}
use Rattle.demands.specs.Reasons.{BuildRefuses, FitRefuses, WalkRefuses, WalkSticks, TextRefuses}
use Rattle.demands.specs.ReasonsLaws.{build_reason, reason_build, fit_reason, reason_fit, walk_reason, reason_walk, stuck_reason, reason_stuck, text_reason, reason_text}

-- ======== an answer is the refusal of this number and place
abbrev pub NumberAndPlace : Refusal → ℕ → ℕ → Type 0
NumberAndPlace why number place = (number_of why.reason ≡ number) × (why.place ≡ place)

abbrev pub RefusedWith : {A : Type 0} → Result A Refusal → ℕ → ℕ → Type 0
RefusedWith r number place = (why : Refusal) × (r ≡ Err why) × NumberAndPlace why number place

abbrev pub WalkRefusedWith : Walked → ℕ → ℕ → Type 0
WalkRefusedWith r number place = (why : Refusal) × (r ≡ Err (Refused why)) × NumberAndPlace why number place

module _ (number place : ℕ) where
  build_refused : (r : Result BuiltTree Refusal) → RefusedWith r number place → build_answer_of r ≡ refuses number place
  build_refused r (why, e, (n, p)) = ap build_answer_of e ∙ rw (n, p)

  refused_build : (r : Result BuiltTree Refusal) → build_answer_of r ≡ refuses number place → RefusedWith r number place
  refused_build (Ok t) e = let z : ◌≡◌ {A = ℕ} 0 1 = cc in absurd (omega arith)
  refused_build (Err why) e = (why, refl, (cc, cc))

  fit_refused : (r : Result (Unit {0}) Refusal) → RefusedWith r number place → verdict_of r ≡ refused number place
  fit_refused r (why, e, (n, p)) = ap verdict_of e ∙ rw (n, p)

  refused_fit : (r : Result (Unit {0}) Refusal) → verdict_of r ≡ refused number place → RefusedWith r number place
  refused_fit (Ok x) e = let z : ◌≡◌ {A = ℕ} 0 1 = cc in absurd (omega arith)
  refused_fit (Err why) e = (why, refl, (cc, cc))

  walk_refused : (r : Walked) → WalkRefusedWith r number place → walk_answer_of r ≡ refuses number place
  walk_refused r (why, e, (n, p)) = ap walk_answer_of e ∙ rw (n, p)

  refused_walk : (r : Walked) → walk_answer_of r ≡ refuses number place → WalkRefusedWith r number place
  refused_walk (Ok (Some leaf)) e = let z : ◌≡◌ {A = ℕ} 0 1 = cc in absurd (omega arith)
  refused_walk (Ok None) e = let z : ◌≡◌ {A = ℕ} 0 1 = cc in absurd (omega arith)
  refused_walk (Err (Stuck node step)) e = let z : ◌≡◌ {A = ℕ} 0 1 = cc in absurd (omega arith)
  refused_walk (Err (Refused why)) e = (why, refl, (cc, cc))

  text_refused : (r : Result Section Refusal) → RefusedWith r number place → span_of r ≡ refuses number place
  text_refused r (why, e, (n, p)) = ap span_of e ∙ rw (n, p)

  refused_text : (r : Result Section Refusal) → span_of r ≡ refuses number place → RefusedWith r number place
  refused_text (Ok x) e = let z : ◌≡◌ {A = ℕ} 0 1 = cc in absurd (omega arith)
  refused_text (Err why) e = (why, refl, (cc, cc))

-- ======== the calls
module _ (s : List ℕ) (n m : ℕ) (r : Result BuiltTree Refusal) (tree work : List ℕ) (fits : BuildFits s n m r tree work) where
  the_answer : build_answer_of r ≡ build_answer s n m
  unfolding build_call
  the_answer = ap (λ (x : BuildCall). x.answer) fits

  -- the build refuses exactly for 01's reasons
  pub build_is_refused_exactly : (number place : ℕ) → RefusedWith r number place ↔ BuildRefuses s n m number place
  build_is_refused_exactly number place = (
    λ w. build_reason s n m number place (sym the_answer ∙ build_refused number place r w),
    λ o. refused_build number place r (the_answer ∙ reason_build s n m number place o),
  )

  -- and then both buffers are all zero
  pub build_refused_is_zero : (number place : ℕ) → RefusedWith r number place → (tree ≡ zeros n) × (work ≡ zeros m)
  build_refused_is_zero number place w =
      let z = build_refused_writes s n m number place (sym the_answer ∙ build_refused number place r w) in
      (ap (λ (x : BuildCall). x.tree) fits ∙ z.0, ap (λ (x : BuildCall). x.work) fits ∙ z.1)

module _ (s v : List ℕ) (r : Result (Unit {0}) Refusal) (fits : FitFits s v r) where
  pub fit_is_refused_exactly : (number place : ℕ) → RefusedWith r number place ↔ FitRefuses s v number place
  fit_is_refused_exactly number place = (
    λ w. fit_reason s v number place (sym fits ∙ fit_refused number place r w),
    λ o. refused_fit number place r (fits ∙ reason_fit s v number place o),
  )

module _ (t v : List ℕ) (n : ℕ) (r : Walked) (bound : List ℕ) (fits : WalkFits t v n r bound) where
  the_walk_answer : walk_answer_of r ≡ walk_answer t v n
  unfolding walk_call
  the_walk_answer = ap (λ (x : WalkCall). x.answer) fits

  pub walk_is_refused_exactly : (number place : ℕ) → WalkRefusedWith r number place ↔ WalkRefuses t v n number place
  walk_is_refused_exactly number place = (
    λ w. walk_reason t v n number place (sym the_walk_answer ∙ walk_refused number place r w),
    λ o. refused_walk number place r (the_walk_answer ∙ reason_walk t v n number place o),
  )

  -- 32 with its place; and that node sticks at that step
  pub walk_is_stuck_exactly : (node step : ℕ) → (r ≡ Err (Stuck node step)) ↔ WalkSticks t v n node step
  walk_is_stuck_exactly node step = (
    λ e. stuck_reason t v n node step (sym the_walk_answer ∙ ap walk_answer_of e),
    λ o. walk_known r (Err (Stuck node step)) (the_walk_answer ∙ reason_stuck t v n node step o),
  )

  pub walk_is_stuck_there : (node step : ℕ) → r ≡ Err (Stuck node step) → StuckThere t v node step
  walk_is_stuck_there node step e =
      let o = stuck_reason t v n node step (sym the_walk_answer ∙ ap walk_answer_of e) in
      let k = o.node_is in
      let s = o.step_is in
      rw (s, k) (the_place_is_there t v o.tree_fits_holds o.is_stuck)

  pub walk_refused_is_zero : (number place : ℕ) → WalkRefusedWith r number place → bound ≡ zeros n
  walk_refused_is_zero number place w =
      ap (λ (x : WalkCall). x.bound) fits ∙ walk_refused_writes t v n number place (sym the_walk_answer ∙ walk_refused number place r w)

  pub walk_stuck_is_zero : (node step : ℕ) → r ≡ Err (Stuck node step) → bound ≡ zeros n
  walk_stuck_is_zero node step e =
      let o = stuck_reason t v n node step (sym the_walk_answer ∙ ap walk_answer_of e) in
      ap (λ (x : WalkCall). x.bound) fits ∙ walk_stuck_writes t v n o.room o.tree_fits_holds o.panel_fits_holds o.is_stuck

module _ (v : List ℕ) (at dropped : ℕ) (r : Result Section Refusal) (fits : TextFits v at dropped r) where
  pub text_is_refused_exactly : (number place : ℕ) → RefusedWith r number place ↔ TextRefuses v at dropped number place
  text_is_refused_exactly number place = (
    λ w. text_reason v at dropped number place (sym fits ∙ text_refused number place r w),
    λ o. refused_text number place r (fits ∙ reason_text v at dropped number place o),
  )

  -- the part that the twin returns is then empty, and else the text that the call tells
  module _ (part : List ℕ) (twin : PartFits v at dropped part) where
    pub text_refused_is_empty : (number place : ℕ) → RefusedWith r number place → part ≡ []
    unfolding text_part part_of_span
    text_refused_is_empty number place w = twin ∙ rw (sym fits ∙ text_refused number place r w)

    pub text_told_is_the_part : (x : Section) → r ≡ Ok x → part ≡ text_at v x.start x.count
    unfolding text_part part_of_span
    text_told_is_the_part x e = twin ∙ rw (sym fits ∙ ap span_of e)

-- ======== the numbers of a sheet: each exactly if the tests before it hold and its own does not; its place is 0 or the lowest
pub record SheetNumbers (s : List ℕ) : Type 0 where
  pub length_2 : (k : ℕ) → (verdict s ≡ refused 2 k) ↔ ((length_fits s ≡ false) × (k ≡ 0))
  pub layout_3 : (k : ℕ) → (verdict s ≡ refused 3 k) ↔ (Passes2 s × ((layout_fits s ≡ false) × (k ≡ 0)))
  pub no_clause_4 : (k : ℕ) → (verdict s ≡ refused 4 k) ↔ (Passes3 s × ((has_clause s ≡ false) × (k ≡ 0)))
  pub count_5 : (k : ℕ) → (verdict s ≡ refused 5 k) ↔ (Passes4 s × ((counts_fit s ≡ false) × (k ≡ 0)))
  pub types_6 : (k : ℕ) → (verdict s ≡ refused 6 k) ↔ (Passes5 s × ((types_fit s ≡ false) × (k ≡ 0)))
  pub transparent_7 : (k : ℕ) → (verdict s ≡ refused 7 k) ↔ (Passes6 s × Lowest (transparent s) 0 (types s) k)
  pub shape_8 : (k : ℕ) → (verdict s ≡ refused 8 k) ↔ (Passes7 s × ((shape_fits s ≡ false) × (k ≡ 0)))
  pub text_9 : (k : ℕ) → (verdict s ≡ refused 9 k) ↔ (Passes8 s × Lowest (bad_text s) 0 (patterns s) k)
  pub misfit_10 : (k : ℕ) → (verdict s ≡ refused 10 k) ↔ (Passes9 s × Lowest (misfit s) 0 (clauses s) k)
  pub name_twice_11 : (k : ℕ) → (verdict s ≡ refused 11 k) ↔ (Passes10 s × Lowest (name_twice s) 0 (clauses s) k)
  pub no_other : (verdict s ≡ accepted) ↔ Passes11 s

pub sheet_numbers_are_exact : (s : List ℕ) → SheetNumbers s
sheet_numbers_are_exact s = record {
  length_2 = refused_2_exactly s;
  layout_3 = refused_3_exactly s;
  no_clause_4 = refused_4_exactly s;
  count_5 = refused_5_exactly s;
  types_6 = refused_6_exactly s;
  transparent_7 = refused_7_exactly s;
  shape_8 = refused_8_exactly s;
  text_9 = refused_9_exactly s;
  misfit_10 = refused_10_exactly s;
  name_twice_11 = refused_11_exactly s;
  no_other = accepted_exactly s;
}

-- of a sheet's tree a, of n clauses
pub record TreeNumbers (n : ℕ) (a : Tree) : Type 0 where
  pub nodes_12 : (k : ℕ) → (tree_verdict n a ≡ refused 12 k) ↔ ((nodes_most < nodes_in a) × (k ≡ 0))
  pub bindings_13 : (k : ℕ) → (tree_verdict n a ≡ refused 13 k) ↔ (Passes12 a × ((bindings_most < length (bindings_in a)) × (k ≡ 0)))
  pub idle_14 : (k : ℕ) → (tree_verdict n a ≡ refused 14 k) ↔ (Passes13 a × Lowest (λ c. not (has_leaf c a)) 0 n k)
  pub no_other : (tree_verdict n a ≡ accepted) ↔ Passes14 n a

pub tree_numbers_are_exact : (n : ℕ) (a : Tree) → TreeNumbers n a
tree_numbers_are_exact n a = record {
  nodes_12 = refused_12_exactly n a;
  bindings_13 = refused_13_exactly n a;
  idle_14 = refusal_14 n a;
  no_other = tree_accepted_exactly n a;
}

-- of a panel
pub record PanelNumbers (v : List ℕ) : Type 0 where
  pub length_21 : (k : ℕ) → (panel_verdict v ≡ refused 21 k) ↔ ((panel_length_fits v ≡ false) × (k ≡ 0))
  pub layout_22 : (k : ℕ) → (panel_verdict v ≡ refused 22 k) ↔ (Passes21 v × ((panel_layout_fits v ≡ false) × (k ≡ 0)))
  pub shape_23 : (k : ℕ) → (panel_verdict v ≡ refused 23 k) ↔ (Passes22 v × ((panel_shape_fits v ≡ false) × (k ≡ 0)))
  pub text_24 : (k : ℕ) → (panel_verdict v ≡ refused 24 k) ↔ (Passes23 v × ((panel_texts_fit v ≡ false) × (k ≡ 0)))
  pub no_other : (panel_verdict v ≡ accepted) ↔ Passes24 v

pub panel_numbers_are_exact : (v : List ℕ) → PanelNumbers v
panel_numbers_are_exact v = record {
  length_21 = refused_21_exactly v;
  layout_22 = refused_22_exactly v;
  shape_23 = refused_23_exactly v;
  text_24 = refused_24_exactly v;
  no_other = panel_accepted_exactly v;
}
