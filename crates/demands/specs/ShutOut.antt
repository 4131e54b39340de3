-- What 01 has shut out by name, each as a theorem that no such answer fits: on 01's own sheet and panels (crate spec_rules, Samples).
use Rattle.std.specs.Prelude.{◌≡◌, refl, None, Result, Ok, Err, List, ℕ, get_or}
use Rattle.std.proofs.Common.{sym, ap, ◌∙◌, arith}
use Rattle.base_words.specs.Words.{text_at}
use Rattle.spec_rules.specs.Limits.{tree_room, work_room, bound_room}
use Rattle.spec_rules.specs.Sections.{sheet_file_of}
use Rattle.spec_rules.specs.Calls.{Answer, answers, refuses, Built, BuildCall, build_answer, build_call, WalkEnd, leaf_of, without_leaf, WalkCall, walk_answer, walk_call, sheet_tree_file}
use Rattle.spec_rules.specs.Samples.{sheet1, sheet6, sheet11, file1, panel2}
use Rattle.format_parts.specs.declared.refusals.Refusal.{Refusal}
use Rattle.format_parts.specs.Refusals.{number_of}
use Rattle.build_call.specs.declared.BuiltTree.{BuiltTree}
use Rattle.dewmycel.specs.Promises.{BuildFits, WalkFits}
use Rattle.spec_rules.specs.TreeReader.{nodes, bindings}
use Rattle.spec_theorems.specs.CallsLaws.{build_file}
use Rattle.spec_theorems.proofs.Theorems.{the_answer_tells_the_file}

zero_is_one : ◌≡◌ {A = ℕ} 0 1 → ⊥
zero_is_one z = absurd (omega arith)

built1 : build_answer sheet1 tree_room work_room ≡ answers (record { bytes = 322; nodes = 16; bindings = 6 })
unfolding build_answer
built1 = refl

-- ---- "a builder that refuses everything"
pub no_builder_refuses_everything : (why : Refusal) (tree work : List ℕ) → BuildFits sheet1 tree_room work_room (Err why) tree work → ⊥
unfolding build_call
no_builder_refuses_everything why tree work fits =
    let e : ◌≡◌ {A = Answer Built} (refuses (number_of why.reason) why.place) (answers (record { bytes = 322; nodes = 16; bindings = 6 })) = ap (λ (x : BuildCall). x.answer) fits ∙ built1 in
    zero_is_one cc

-- ---- "an untouched buffer": one that was zero does not stay so, since the first byte of the file is a hoist's kind, 3
tree_of_1 : get_or (build_call sheet1 tree_room work_room).tree 0 0 ≡ 3
unfolding build_call
tree_of_1 = refl

pub no_buffer_stays_zero : (r : Result BuiltTree Refusal) (tree work : List ℕ) → BuildFits sheet1 tree_room work_room r tree work → get_or tree 0 0 ≡ 0 → ⊥
no_buffer_stays_zero r tree work fits z =
    let e : get_or tree 0 0 ≡ 3 = ap (λ (x : BuildCall). get_or x.tree 0 0) fits ∙ tree_of_1 in
    absurd (omega (arith, e, z))

-- ---- "one fixed tree for all sheets": byte 2, the low byte of node 0's clause, tells two trees apart
clause_of_6 : get_or (build_call sheet6 tree_room work_room).tree 2 0 ≡ 1
unfolding build_call sheet_file_of
clause_of_6 = refl

clause_of_1 : get_or (build_call sheet1 tree_room work_room).tree 2 0 ≡ 0
unfolding build_call
clause_of_1 = refl

pub no_tree_is_for_all_sheets : (r q : Result BuiltTree Refusal) (tree work work' : List ℕ) → BuildFits sheet1 tree_room work_room r tree work → BuildFits sheet6 tree_room work_room q tree work' → ⊥
no_tree_is_for_all_sheets r q tree work work' a b =
    let e : get_or tree 2 0 ≡ 0 = ap (λ (x : BuildCall). get_or x.tree 2 0) a ∙ clause_of_1 in
    let f : get_or tree 2 0 ≡ 1 = ap (λ (x : BuildCall). get_or x.tree 2 0) b ∙ clause_of_6 in
    zero_is_one (sym e ∙ f)

-- ---- "one that specializes only the root": of (1,2), (3,4) node 3 is a switch below the root's, where such a builder has clause 0's leaf
second_switch : get_or (build_call sheet11 tree_room work_room).tree 36 9 ≡ 0
unfolding build_call sheet_file_of
second_switch = refl

pub no_builder_specializes_only_the_root : (r : Result BuiltTree Refusal) (tree work : List ℕ) → BuildFits sheet11 tree_room work_room r tree work → get_or tree 36 9 ≡ 2 → ⊥
no_builder_specializes_only_the_root r tree work fits z =
    let e : get_or tree 36 9 ≡ 0 = ap (λ (x : BuildCall). get_or x.tree 36 9) fits ∙ second_switch in
    absurd (omega (arith, e, z))

-- ---- "a walker that answers No leaf always"
walk_of_2 : walk_answer file1 panel2 bound_room ≡ answers (leaf_of 0 1)
unfolding walk_answer
walk_of_2 = refl

pub no_walker_answers_no_leaf_always : (bound : List ℕ) → WalkFits file1 panel2 bound_room (Ok None) bound → ⊥
unfolding walk_call
no_walker_answers_no_leaf_always bound fits =
    let e : ◌≡◌ {A = Answer WalkEnd} (answers without_leaf) (answers (leaf_of 0 1)) = ap (λ (x : WalkCall). x.answer) fits ∙ walk_of_2 in
    let d : ◌≡◌ {A = WalkEnd} without_leaf (leaf_of 0 1) = cc in
    zero_is_one cc

-- ---- "a made-up node or binding count, since it equals the records written"
pub no_count_is_made_up : (s : List ℕ) (n m : ℕ) (a : BuiltTree) (tree work : List ℕ) → BuildFits s n m (Ok a) tree work
    → (a.nodes ≡ nodes (text_at tree 0 a.length)) × (a.bindings ≡ bindings (text_at tree 0 a.length))
unfolding build_call
no_count_is_made_up s n m a tree work fits =
    let x : Built = record { bytes = a.length; nodes = a.nodes; bindings = a.bindings } in
    let e : build_answer s n m ≡ answers x = sym (ap (λ (y : BuildCall). y.answer) fits) in
    let file : text_at tree 0 a.length ≡ sheet_tree_file s = ap (λ (y : BuildCall). text_at y.tree 0 a.length) fits ∙ build_file s n m x e in
    let told = the_answer_tells_the_file s n m x e in
    (told.nodes_told ∙ ap nodes (sym file), told.bindings_told ∙ ap bindings (sym file))
