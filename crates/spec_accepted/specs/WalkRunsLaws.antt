-- Laws of the walk over a run of cases of a tree file, and how large the place of 32 can be in an accepted file.
-- Rests on the facts of an accepted tree file.
use Rattle.std.specs.Prelude.{◌≡◌, Bool, true, false, List, ◌∷◌, ◌++◌, length}
use Rattle.std.proofs.Math.Path.{refl}
use Rattle.std.proofs.Common.{sym, ap, ◌∙◌}
use Rattle.std.proofs.Math.Option.{Option, none, some}
use Prim.Native.Nat.{ℕ, zero, suc, ◌+◌, ◌≤◌, ◌<◌}
use native.Mathlib.Omega.{arith}
use Rattle.base_words.specs.Words.{pick}
use Rattle.spec_rules.specs.Kinds.{list_with_tail_case}
use Rattle.spec_rules.specs.Searching.{lowest}
use Rattle.spec_rules.specs.SearchingLaws.{lowest_some}
use Rattle.spec_rules.specs.SheetRefusals.{is_in}
use Rattle.spec_rules.specs.Splitting.{Test, same_test}
use Rattle.spec_rules.specs.Building.{Tree, Cases, ccons}
use Rattle.spec_rules.specs.TreeReader.{nodes, bindings, paths, steps, node_kind, node_path, node_first_binding, node_bindings, case_kind, case_number, case_child, binding_path, path_first, path_count, NodeKind, Switch, List_switch, Leaf, Hoist_node, Unknown_node, node_kind_of, CaseKind, Constr_case, Int_case, Bytes_case, List_case, List_with_tail_case, Unknown_case, case_kind_of, case_children, test_of_kind, case_test, start_of_test, steps_from, path_at, bindings_from, cases_for}
use Rattle.spec_rules.specs.Walking.{Position, panel_root, follow, Walked, test_kind, first_kind, if_same, walk, walk_cases}
use Rattle.spec_rules.specs.WalkPlaces.{steps_taken, first_stuck, step_at_kind, stuck_step}
use Rattle.spec_rules.specs.WalkPlacesLaws.{taken_most}
use Rattle.spec_accepted.specs.KindsLaws.{node_byte, case_byte, unknown_case}
use Rattle.spec_accepted.specs.TreeFacts.{TreeSound, case_listed, cases_for_some}

-- ---- the cases of a run: the walk goes to the child of the first that holds, or else
abbrev pub chosen_walk : (ℕ → Tree) → List ℕ → List ℕ → Option ℕ → Walked → Walked
chosen_walk f t v none otherwise = otherwise
chosen_walk f t v (some j) otherwise = walk (f (case_child t j)) v

if_same_lem : (b : Bool) (x y : Walked) → if_same b (λ u. x) (λ u. y) ≡ pick b x y
unfolding if_same
if_same_lem true x y = refl
if_same_lem false x y = refl

walk_cons : (u : Test) (at : ℕ) (a : Tree) (cs : Cases) (x : Test) (v : List ℕ) (o : Walked)
    → walk_cases (ccons u at a cs) x v (λ u. o) ≡ pick (same_test x u) (walk a v) (walk_cases cs x v (λ u. o))
unfolding walk
walk_cons u at a cs x v o = if_same_lem (same_test x u) (walk a v) (walk_cases cs x v (λ u. o))

pub walk_run : (f : ℕ → Tree) (t v : List ℕ) (x : Test) (o : Walked) (i n : ℕ)
    → walk_cases (cases_for f t i n) x v (λ u. o) ≡ chosen_walk f t v (lowest (λ j. same_test x (case_test t j)) i n) o
unfolding walk cases_for lowest
walk_run f t v x o i zero = refl
walk_run f t v x o i (suc n) = go (same_test x (case_test t i)) refl (walk_run f t v x o (i + 1) n)
  where
    go : (b : Bool) → same_test x (case_test t i) ≡ b
        → walk_cases (cases_for f t (i + 1) n) x v (λ u. o) ≡ chosen_walk f t v (lowest (λ j. same_test x (case_test t j)) (i + 1) n) o
        → walk_cases (cases_for f t i (suc n)) x v (λ u. o) ≡ chosen_walk f t v (lowest (λ j. same_test x (case_test t j)) i (suc n)) o
    go true e ih = walk_cons (case_test t i) (start_of_test (case_number t i) (case_test t i)) (f (case_child t i)) (cases_for f t (i + 1) n) x v o ∙ rw (e, lowest)
    go false e ih = walk_cons (case_test t i) (start_of_test (case_number t i) (case_test t i)) (f (case_child t i)) (cases_for f t (i + 1) n) x v o ∙ rw (e, lowest) ih

-- the case that was found is one of the run
pub chosen_listed : (t : List ℕ) (x : Test) (i n j : ℕ) → lowest (λ k. same_test x (case_test t k)) i n ≡ some j → is_in (case_child t j) (case_children t i n) ≡ true
chosen_listed t x i n j e =
    let l = lowest_some (λ k. same_test x (case_test t k)) i n j e in
    case_listed t i n j l.from l.to

-- the children of cases and tail cases, which are one run
pub case_children_add : (t : List ℕ) (i m n : ℕ) (ds : List ℕ) → case_children t i m ++ (case_children t (i + m) n ++ ds) ≡ case_children t i (m + n) ++ ds
unfolding case_children
case_children_add t i zero n ds = let a : i + 0 ≡ i = omega arith in let b : 0 + n ≡ n = omega arith in rw (a, b)
case_children_add t i (suc m) n ds =
    let a : i + suc m ≡ i + 1 + m = omega arith in
    let b : suc m + n ≡ suc (m + n) = omega arith in
    rw (a, b) (ap (λ (cs : List ℕ). case_child t i ∷ cs) (case_children_add t (i + 1) m n ds))

-- ---- the kind of a case's test, and so of a switch, is the kind that its record says
pub test_kind_lem : (t : List ℕ) (i : ℕ) → case_kind t i ≤ list_with_tail_case → test_kind (case_test t i) ≡ case_kind t i
unfolding case_test test_of_kind test_kind
test_kind_lem t i h = go (case_kind_of (case_kind t i)) refl
  where
    go : (kind : CaseKind) → case_kind_of (case_kind t i) ≡ kind → test_kind (test_of_kind t i (case_kind_of (case_kind t i))) ≡ case_kind t i
    go Constr_case e = rw e (sym (case_byte (case_kind t i) Constr_case e (omega arith)))
    go Int_case e = rw e (sym (case_byte (case_kind t i) Int_case e (omega arith)))
    go Bytes_case e = rw e (sym (case_byte (case_kind t i) Bytes_case e (omega arith)))
    go List_case e = rw e (sym (case_byte (case_kind t i) List_case e (omega arith)))
    go List_with_tail_case e = rw e (sym (case_byte (case_kind t i) List_with_tail_case e (omega arith)))
    go Unknown_case e = absurd (omega (arith, unknown_case (case_kind t i) e))

pub first_kind_lem : (f : ℕ → Tree) (t : List ℕ) (i n : ℕ) → 1 ≤ n → case_kind t i ≤ list_with_tail_case → first_kind (cases_for f t i n) ≡ case_kind t i
unfolding first_kind
first_kind_lem f t i n h k = ap first_kind (cases_for_some f t i n (λ z. omega arith)) ∙ test_kind_lem t i k

-- ---- a path's steps are a run of the step section, and so there are no more of them than records there
pub length_steps_from : (t : List ℕ) (i n : ℕ) → length (steps_from t i n) ≡ n
unfolding steps_from
length_steps_from t i zero = refl
length_steps_from t i (suc n) = ap suc (length_steps_from t (i + 1) n)

module _ (t : List ℕ) (sound : TreeSound t) where
  path_most : (p : ℕ) → p < paths t → length (path_at t p) ≤ steps t
  unfolding path_at
  path_most p h = omega (arith, length_steps_from t (path_first t p) (path_count t p), (sound.is_ruled.path_steps p h).inside)

  module _ (v : List ℕ) where
    pub steps_taken_most : (p : ℕ) (x : Position) → p < paths t → steps_taken v (path_at t p) x ≤ steps t
    steps_taken_most p x h = omega (arith, taken_most v (path_at t p) x, path_most p h)

    pub first_stuck_most : (b n : ℕ) → b + n ≤ bindings t → first_stuck v (bindings_from t b n) ≤ steps t
    unfolding first_stuck bindings_from
    first_stuck_most b zero h = omega arith
    first_stuck_most b (suc n) h = go (follow v (path_at t (binding_path t b)) panel_root) refl (first_stuck_most (b + 1) n (omega arith))
      where
        go : (o : Option Position) → follow v (path_at t (binding_path t b)) panel_root ≡ o → first_stuck v (bindings_from t (b + 1) n) ≤ steps t
            → first_stuck v (bindings_from t b (suc n)) ≤ steps t
        go none e ih = rw (e, first_stuck) (steps_taken_most (binding_path t b) panel_root (sound.is_ruled.binding_path_holds b (omega arith)))
        go (some x) e ih = rw (e, first_stuck) ih

    step_at_kind_most : (k : ℕ) → k < nodes t → (kind : NodeKind) → node_kind_of (node_kind t k) ≡ kind → step_at_kind t v k kind ≤ steps t
    unfolding step_at_kind
    step_at_kind_most k h Switch e =
        let z = node_byte (node_kind t k) Switch e (omega arith) in
        steps_taken_most (node_path t k) panel_root (sound.is_ruled.switch_path k h (omega arith))
    step_at_kind_most k h List_switch e =
        let z = node_byte (node_kind t k) List_switch e (omega arith) in
        steps_taken_most (node_path t k) panel_root (sound.is_ruled.switch_path k h (omega arith))
    step_at_kind_most k h Leaf e =
        let z = node_byte (node_kind t k) Leaf e (omega arith) in
        first_stuck_most (node_first_binding t k) (node_bindings t k) (sound.is_ruled.bindings_run k h (omega arith)).inside
    step_at_kind_most k h Hoist_node e = omega arith
    step_at_kind_most k h Unknown_node e = omega arith

    -- LEMMA: the step of 32 at whatever node of the file
    pub stuck_step_most : (k : ℕ) → k < nodes t → stuck_step t v k ≤ steps t
    unfolding stuck_step
    stuck_step_most k h = step_at_kind_most k h (node_kind_of (node_kind t k)) refl

  -- ---- both numbers fit 16 bits where the file's length does: each section lies in the file
  module _ (short : length t < 65536) where
    pub nodes_small : nodes t < 65536
    nodes_small = omega (arith, sound.is_laid)

    pub steps_small : steps t < 65536
    steps_small = omega (arith, sound.is_laid)

    pub stuck_step_small : (v : List ℕ) (k : ℕ) → k < nodes t → stuck_step t v k < 65536
    stuck_step_small v k h = omega (arith, stuck_step_most v k h, steps_small)
