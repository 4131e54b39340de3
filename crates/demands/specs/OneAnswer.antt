-- Each call has one answer: two results that fit, with their buffers, are equal.
use Rattle.std.specs.Prelude.{◌≡◌, refl, Some, None, Result, Ok, Err, List, ℕ, eqb}
use Rattle.std.proofs.Common.{sym, ap, ◌∙◌, arith}
use Rattle.base_words.specs.Words.{pick}
use Rattle.spec_rules.specs.Calls.{Built, BuildCall, leaf_of, without_leaf, stuck_at, WalkCall, Span}
use Rattle.format_parts.specs.declared.refusals.Reason.{Reason}
use Rattle.format_parts.specs.declared.refusals.Reason.TheVariants.{Room, Length, Layout, NoClause, Count, Types, Transparent, Shape, Text, Misfit, NameTwice, Nodes, Bindings, Idle, PanelLength, PanelLayout, PanelShape, PanelText, PanelMisfit, Tree, Stuck as StuckReason, NoText}
use Rattle.format_parts.specs.declared.refusals.Refusal.{Refusal}
use Rattle.format_parts.specs.declared.sections.Section.{Section}
use Rattle.format_parts.specs.Refusals.{number_of, verdict_of}
use Rattle.format_panel.specs.Answers.{span_of}
use Rattle.walk.specs.declared.Leaf.{Leaf}
use Rattle.walk.specs.declared.WalkError.TheVariants.{Refused, Stuck}
use Rattle.walk.specs.Answers.{Walked, answer_of as walk_answer_of}
use Rattle.build_call.specs.declared.BuiltTree.{BuiltTree}
use Rattle.build_call.specs.Answers.{answer_of as build_answer_of}
use Rattle.dewmycel.specs.Promises.{BuildFits, FitFits, WalkFits, TextFits, PartFits}

-- ---- a refusal is known by its number and place: no two reasons have one number
reason_of : ℕ → Reason
reason_of n =
    pick (eqb n 1) Room
    (pick (eqb n 2) Length
    (pick (eqb n 3) Layout
    (pick (eqb n 4) NoClause
    (pick (eqb n 5) Count
    (pick (eqb n 6) Types
    (pick (eqb n 7) Transparent
    (pick (eqb n 8) Shape
    (pick (eqb n 9) Text
    (pick (eqb n 10) Misfit
    (pick (eqb n 11) NameTwice
    (pick (eqb n 12) Nodes
    (pick (eqb n 13) Bindings
    (pick (eqb n 14) Idle
    (pick (eqb n 21) PanelLength
    (pick (eqb n 22) PanelLayout
    (pick (eqb n 23) PanelShape
    (pick (eqb n 24) PanelText
    (pick (eqb n 25) PanelMisfit
    (pick (eqb n 31) Tree
    (pick (eqb n 32) StuckReason NoText))))))))))))))))))))

reason_again : (r : Reason) → reason_of (number_of r) ≡ r
unfolding reason_of
reason_again Room = refl
reason_again Length = refl
reason_again Layout = refl
reason_again NoClause = refl
reason_again Count = refl
reason_again Types = refl
reason_again Transparent = refl
reason_again Shape = refl
reason_again Text = refl
reason_again Misfit = refl
reason_again NameTwice = refl
reason_again Nodes = refl
reason_again Bindings = refl
reason_again Idle = refl
reason_again PanelLength = refl
reason_again PanelLayout = refl
reason_again PanelShape = refl
reason_again PanelText = refl
reason_again PanelMisfit = refl
reason_again Tree = refl
reason_again StuckReason = refl
reason_again NoText = refl

refusal_known : (a b : Refusal) → number_of a.reason ≡ number_of b.reason → a.place ≡ b.place → a ≡ b
refusal_known a b n p =
    let e : a.reason ≡ b.reason = sym (reason_again a.reason) ∙ ap reason_of n ∙ reason_again b.reason in
    ap (λ (x : Reason). record { reason = x; place = a.place }) e ∙ ap (λ (k : ℕ). record { reason = b.reason; place = k }) p

-- ---- what the code answers is known by the rules' answer
tree_known : (a b : BuiltTree) → a.length ≡ b.length → a.nodes ≡ b.nodes → a.bindings ≡ b.bindings → a ≡ b
tree_known a b l n m =
    ap (λ (k : ℕ). record { length = k; nodes = a.nodes; bindings = a.bindings }) l
    ∙ ap (λ (k : ℕ). record { length = b.length; nodes = k; bindings = a.bindings }) n
    ∙ ap (λ (k : ℕ). record { length = b.length; nodes = b.nodes; bindings = k }) m

pub build_known : (r q : Result BuiltTree Refusal) → build_answer_of r ≡ build_answer_of q → r ≡ q
build_known (Ok t) (Ok u) e =
    let x : ◌≡◌ {A = Built} (record { bytes = t.length; nodes = t.nodes; bindings = t.bindings }) (record { bytes = u.length; nodes = u.nodes; bindings = u.bindings }) = cc in
    ap (λ (y : BuiltTree). Ok y) (tree_known t u (ap (λ (y : Built). y.bytes) x) (ap (λ (y : Built). y.nodes) x) (ap (λ (y : Built). y.bindings) x))
build_known (Ok t) (Err b) e = let z : ◌≡◌ {A = ℕ} 0 1 = cc in absurd (omega arith)
build_known (Err a) (Ok t) e = let z : ◌≡◌ {A = ℕ} 0 1 = cc in absurd (omega arith)
build_known (Err a) (Err b) e =
    let n : number_of a.reason ≡ number_of b.reason = cc in
    let p : a.place ≡ b.place = cc in
    ap (λ (y : Refusal). Err y) (refusal_known a b n p)

pub fit_known : (r q : Result (Unit {0}) Refusal) → verdict_of r ≡ verdict_of q → r ≡ q
fit_known (Ok x) (Ok y) e = refl
fit_known (Ok x) (Err b) e = let z : ◌≡◌ {A = ℕ} 0 1 = cc in absurd (omega arith)
fit_known (Err a) (Ok y) e = let z : ◌≡◌ {A = ℕ} 0 1 = cc in absurd (omega arith)
fit_known (Err a) (Err b) e =
    let n : number_of a.reason ≡ number_of b.reason = cc in
    let p : a.place ≡ b.place = cc in
    ap (λ (y : Refusal). Err y) (refusal_known a b n p)

leaf_known : (a b : Leaf) → leaf_of a.clause a.count ≡ leaf_of b.clause b.count → a ≡ b
leaf_known a b e =
    let c : a.clause ≡ b.clause = cc in
    let k : a.count ≡ b.count = cc in
    ap (λ (n : ℕ). record { clause = n; count = a.count }) c ∙ ap (λ (n : ℕ). record { clause = b.clause; count = n }) k

pub walk_known : (r q : Walked) → walk_answer_of r ≡ walk_answer_of q → r ≡ q
walk_known (Ok (Some l)) (Ok (Some u)) e =
    let x : leaf_of l.clause l.count ≡ leaf_of u.clause u.count = cc in
    ap (λ (y : Leaf). Ok (Some y)) (leaf_known l u x)
walk_known (Ok (Some l)) (Ok None) e = let x : leaf_of l.clause l.count ≡ without_leaf = cc in let z : ◌≡◌ {A = ℕ} 0 1 = cc in absurd (omega arith)
walk_known (Ok (Some l)) (Err (Stuck node' step')) e = let x : leaf_of l.clause l.count ≡ stuck_at node' step' = cc in let z : ◌≡◌ {A = ℕ} 0 1 = cc in absurd (omega arith)
walk_known (Ok (Some l)) (Err (Refused b)) e = let z : ◌≡◌ {A = ℕ} 0 1 = cc in absurd (omega arith)
walk_known (Ok None) (Ok (Some u)) e = let x : without_leaf ≡ leaf_of u.clause u.count = cc in let z : ◌≡◌ {A = ℕ} 0 1 = cc in absurd (omega arith)
walk_known (Ok None) (Ok None) e = refl
walk_known (Ok None) (Err (Stuck node' step')) e = let x : without_leaf ≡ stuck_at node' step' = cc in let z : ◌≡◌ {A = ℕ} 0 1 = cc in absurd (omega arith)
walk_known (Ok None) (Err (Refused b)) e = let z : ◌≡◌ {A = ℕ} 0 1 = cc in absurd (omega arith)
walk_known (Err (Stuck node step)) (Ok (Some u)) e = let x : stuck_at node step ≡ leaf_of u.clause u.count = cc in let z : ◌≡◌ {A = ℕ} 0 1 = cc in absurd (omega arith)
walk_known (Err (Stuck node step)) (Ok None) e = let x : stuck_at node step ≡ without_leaf = cc in let z : ◌≡◌ {A = ℕ} 0 1 = cc in absurd (omega arith)
walk_known (Err (Stuck node step)) (Err (Stuck node' step')) e = let x : stuck_at node step ≡ stuck_at node' step' = cc in cc
walk_known (Err (Stuck node step)) (Err (Refused b)) e = let z : ◌≡◌ {A = ℕ} 0 1 = cc in absurd (omega arith)
walk_known (Err (Refused a)) (Ok (Some u)) e = let z : ◌≡◌ {A = ℕ} 0 1 = cc in absurd (omega arith)
walk_known (Err (Refused a)) (Ok None) e = let z : ◌≡◌ {A = ℕ} 0 1 = cc in absurd (omega arith)
walk_known (Err (Refused a)) (Err (Stuck node' step')) e = let z : ◌≡◌ {A = ℕ} 0 1 = cc in absurd (omega arith)
walk_known (Err (Refused a)) (Err (Refused b)) e =
    let n : number_of a.reason ≡ number_of b.reason = cc in
    let p : a.place ≡ b.place = cc in
    ap (λ (y : Refusal). Err (Refused y)) (refusal_known a b n p)

pub text_known : (r q : Result Section Refusal) → span_of r ≡ span_of q → r ≡ q
text_known (Ok a) (Ok b) e =
    let x : ◌≡◌ {A = Span} (record { start = a.start; count = a.count }) (record { start = b.start; count = b.count }) = cc in
    ap (λ (k : ℕ). Ok (record { start = k; count = a.count })) (ap (λ (y : Span). y.start) x)
    ∙ ap (λ (k : ℕ). Ok (record { start = b.start; count = k })) (ap (λ (y : Span). y.count) x)
text_known (Ok a) (Err b) e = let z : ◌≡◌ {A = ℕ} 0 1 = cc in absurd (omega arith)
text_known (Err a) (Ok b) e = let z : ◌≡◌ {A = ℕ} 0 1 = cc in absurd (omega arith)
text_known (Err a) (Err b) e =
    let n : number_of a.reason ≡ number_of b.reason = cc in
    let p : a.place ≡ b.place = cc in
    ap (λ (y : Refusal). Err y) (refusal_known a b n p)

-- ---- one answer
pub one_build : (s : List ℕ) (n m : ℕ) (r q : Result BuiltTree Refusal) (tree tree' work work' : List ℕ) → BuildFits s n m r tree work → BuildFits s n m q tree' work'
    → (r ≡ q) × (tree ≡ tree') × (work ≡ work')
one_build s n m r q tree tree' work work' a b =
    let e = a ∙ sym b in
    (build_known r q (ap (λ (x : BuildCall). x.answer) e), ap (λ (x : BuildCall). x.tree) e, ap (λ (x : BuildCall). x.work) e)

pub one_fit : (s v : List ℕ) (r q : Result (Unit {0}) Refusal) → FitFits s v r → FitFits s v q → r ≡ q
one_fit s v r q a b = fit_known r q (a ∙ sym b)

pub one_walk : (t v : List ℕ) (n : ℕ) (r q : Walked) (bound bound' : List ℕ) → WalkFits t v n r bound → WalkFits t v n q bound' → (r ≡ q) × (bound ≡ bound')
one_walk t v n r q bound bound' a b =
    let e = a ∙ sym b in (walk_known r q (ap (λ (x : WalkCall). x.answer) e), ap (λ (x : WalkCall). x.bound) e)

pub one_text : (v : List ℕ) (place dropped : ℕ) (r q : Result Section Refusal) → TextFits v place dropped r → TextFits v place dropped q → r ≡ q
one_text v place dropped r q a b = text_known r q (a ∙ sym b)

pub one_part : (v : List ℕ) (place dropped : ℕ) (part part' : List ℕ) → PartFits v place dropped part → PartFits v place dropped part' → part ≡ part'
one_part v place dropped part part' a b = a ∙ sym b
