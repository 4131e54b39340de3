-- What a switch chooses, taken apart: the case that is found and its tree, as it is once hoists are taken out (`lookup_found`); what the part
-- showed (`by_test_lem`, `shows_takes`) or how long it was (`by_length_lem`).
use Prim.Native.Nat.{ℕ, zero, suc, ◌+◌, ◌≤◌}
use native.Mathlib.Omega.{arith}
use Rattle.std.proofs.Math.Path.{◌≡◌}
use Rattle.std.specs.Prelude.{refl, Bool, List, [], ◌∷◌, eqb}
use Rattle.std.proofs.Common.{sym, ap, ◌∙◌}
use Rattle.std.proofs.Math.Bool.{true, false}
use Rattle.std.proofs.Math.Option.{Option, none, some}
use Rattle.std.proofs.Math.Dec.{leb}
use borrow.Author.Tests.{leb-true}
use Rattle.base_words.specs.Words.{pick}
use Rattle.spec_rules.specs.Splitting.{Test, Constr, Int, Bytes, ListOf, ListWithTail, same_test, Met, is_met}
use Rattle.spec_rules.specs.SplittingLaws.{same_test_sound}
use Rattle.spec_rules.specs.Building.{Tree, Cases, cnil, ccons}
use Rattle.spec_rules.specs.Hoisting.{how_many, nodes_in, nodes_in_of}
use Rattle.spec_rules.specs.Walking.{test_kind, first_kind, tail_number, largest_tail}
use Rattle.spec_hoist.specs.Trees.{WellMade, WellMadeOf, unhoisted, unhoisted_of}
use Rattle.spec_match.specs.Depth.{cases_on, met_here, met_there}
use Rattle.spec_forgotten.specs.Values.{Value, an_integer, a_byte_string, whole, a_list, a_pair, a_tuple, a_constructor, shows_whole, shows}
use Rattle.spec_forgotten.specs.Choosing.{Chosen, lookup, or_tail, by_test, tail_of, by_length}
use Rattle.spec_forgotten.specs.OpenedParts.{Takes}
use Rattle.spec_forgotten.specs.NodesFit.{EachTest}

-- ---- the cases of a switch, as they are once hoists are taken out
pub record Found (f : Test → Tree) (ms : List Met) (m : ℕ) (cs : Cases) (t : Test) (c : Chosen) : Type 0 where
  pub same : t ≡ c.test
  pub met : is_met c.test ms ≡ true
  pub tree : unhoisted c.tree ≡ f c.test
  pub fewer : nodes_in c.tree ≤ nodes_in_of cs
  pub made : WellMade m c.tree

not_chosen : (c : Chosen) → ◌≡◌ {A = Option Chosen} none (some c) → ⊥
not_chosen c e = let z : ◌≡◌ {A = ℕ} 0 1 = cc in absurd (omega arith)

no_case : (t : Test) (at : ℕ) (a : Tree) (cs : Cases) → ◌≡◌ {A = Cases} (ccons t at a cs) cnil → ⊥
no_case t at a cs e = let z : ◌≡◌ {A = ℕ} 0 1 = cc in absurd (omega arith)

pub lookup_found : (f : Test → Tree) (m i j : ℕ) (cs : Cases) (ms : List Met) → unhoisted_of cs ≡ cases_on f ms → WellMadeOf m cs
    → (t : Test) (c : Chosen) → lookup i j cs t ≡ some c → Found f ms m cs t c
unfolding unhoisted cases_on lookup nodes_in WellMade
lookup_found f m i j cnil ms e w t c h = absurd (not_chosen c h)
lookup_found f m i j (ccons u at a cs) [] e w t c h = absurd (no_case u at (unhoisted a) (unhoisted_of cs) e)
lookup_found f m i j (ccons u at a cs) (y ∷ ms) e w t c h =
    let test : u ≡ y.test = cc in
    let tree : unhoisted a ≡ f y.test = cc in
    let others : unhoisted_of cs ≡ cases_on f ms = cc in
    go test tree (same_test t u) refl h (λ k. lookup_found f m (i + 1) (j + nodes_in a) cs ms others w.2 t c k)
  where
    go : u ≡ y.test → unhoisted a ≡ f y.test → (b : Bool) → same_test t u ≡ b
        → elim b as (λ z. Option Chosen) [ true ↦ some (record { test = u; index = i; node = j; tree = a }) | false ↦ lookup (i + 1) (j + nodes_in a) cs t ] ≡ some c
        → (lookup (i + 1) (j + nodes_in a) cs t ≡ some c → Found f ms m cs t c) → Found f (y ∷ ms) m (ccons u at a cs) t c
    go test tree true x h ih =
        let is : record { test = u; index = i; node = j; tree = a } ≡ c = cc in
        rw (← is)
        (record {
          same = same_test_sound t u x;
          met = rw test (met_here y ms);
          tree = tree ∙ ap f (sym test);
          fewer = omega arith;
          made = w.1;
        })
    go test tree false x h ih =
        let r = ih h in
        record {
          same = r.same;
          met = met_there c.test y ms r.met;
          tree = r.tree;
          fewer = omega (arith, r.fewer);
          made = r.made;
        }

-- what holds of each test that is met holds of each case's
pub each_met : (P : Test → Type 0) (f : Test → Tree) (cs : Cases) (ms : List Met) → unhoisted_of cs ≡ cases_on f ms → ((u : Test) → is_met u ms ≡ true → P u) → EachTest P cs
unfolding unhoisted cases_on EachTest
each_met P f cnil ms e h = tt
each_met P f (ccons u at a cs) [] e h = absurd (no_case u at (unhoisted a) (unhoisted_of cs) e)
each_met P f (ccons u at a cs) (y ∷ ms) e h =
    let test : u ≡ y.test = cc in
    let others : unhoisted_of cs ≡ cases_on f ms = cc in
    (h u (rw test (met_here y ms)), each_met P f cs ms others (λ x k. h x (met_there x y ms k)))

-- ---- what a part showed where a case was chosen
pub shows_takes : (s : List ℕ) (u : Test) (y : Value) → shows y ≡ some u → Takes s u y
shows_takes s (Constr a) y e = e
shows_takes s (Int w) y e = e
shows_takes s (Bytes w) y e = e
shows_takes s (ListOf n) y e = absurd (go y e)
  where
    no_test : (t : Test) → ◌≡◌ {A = Option Test} none (some t) → ⊥
    no_test t e = let z : ◌≡◌ {A = ℕ} 0 1 = cc in absurd (omega arith)

    go : (y : Value) → shows y ≡ some (ListOf n) → ⊥
    go (an_integer w) e = unfold shows in (let z : ◌≡◌ {A = ℕ} 0 1 = cc in absurd (omega arith))
    go (a_byte_string w) e = unfold shows in (let z : ◌≡◌ {A = ℕ} 0 1 = cc in absurd (omega arith))
    go (whole a_list vs) e = no_test (ListOf n) (unfold shows shows_whole in e)
    go (whole a_pair vs) e = no_test (ListOf n) (unfold shows shows_whole in e)
    go (whole a_tuple vs) e = no_test (ListOf n) (unfold shows shows_whole in e)
    go (whole (a_constructor a) vs) e = unfold shows shows_whole in (let z : ◌≡◌ {A = ℕ} 0 1 = cc in absurd (omega arith))
shows_takes s (ListWithTail n) y e = absurd (go y e)
  where
    no_test : (t : Test) → ◌≡◌ {A = Option Test} none (some t) → ⊥
    no_test t e = let z : ◌≡◌ {A = ℕ} 0 1 = cc in absurd (omega arith)

    go : (y : Value) → shows y ≡ some (ListWithTail n) → ⊥
    go (an_integer w) e = unfold shows in (let z : ◌≡◌ {A = ℕ} 0 1 = cc in absurd (omega arith))
    go (a_byte_string w) e = unfold shows in (let z : ◌≡◌ {A = ℕ} 0 1 = cc in absurd (omega arith))
    go (whole a_list vs) e = no_test (ListWithTail n) (unfold shows shows_whole in e)
    go (whole a_pair vs) e = no_test (ListWithTail n) (unfold shows shows_whole in e)
    go (whole a_tuple vs) e = no_test (ListWithTail n) (unfold shows shows_whole in e)
    go (whole (a_constructor a) vs) e = unfold shows shows_whole in (let z : ◌≡◌ {A = ℕ} 0 1 = cc in absurd (omega arith))

pub by_test_lem : (k : ℕ) (cs : Cases) (o : Option Test) (c : Chosen) → by_test k cs o ≡ some (some c) → (t : Test) × (o ≡ some t) × (lookup 0 (k + 1) cs t ≡ some c)
unfolding by_test
by_test_lem k cs none c e = let z : ◌≡◌ {A = ℕ} 0 1 = cc in absurd (omega arith)
by_test_lem k cs (some t) c e = go (eqb (test_kind t) (first_kind cs)) e
  where
    go : (b : Bool) → pick b (some (lookup 0 (k + 1) cs t)) none ≡ some (some c) → (u : Test) × (some t ≡ some u) × (lookup 0 (k + 1) cs u ≡ some c)
    go true h = let x : lookup 0 (k + 1) cs t ≡ some c = cc in (t, refl, x)
    go false h = let z : ◌≡◌ {A = ℕ} 0 1 = cc in absurd (omega arith)

-- the largest tail number is one of a tail that is not longer
tail_most : (n : ℕ) (ts : Cases) → largest_tail n ts ≤ suc n
unfolding largest_tail
tail_most n cnil = omega arith
tail_most n (ccons t at a ts) = go (leb (tail_number n t) (largest_tail n ts)) (number t) (tail_most n ts)
  where
    number : (t : Test) → tail_number n t ≤ suc n
    number (Constr a) = unfold tail_number in (omega arith)
    number (Int w) = unfold tail_number in (omega arith)
    number (Bytes w) = unfold tail_number in (omega arith)
    number (ListOf j) = unfold tail_number in (omega arith)
    number (ListWithTail j) = unfold tail_number in (pickd (leb j n) refl)
      where
        pickd : (b : Bool) → leb j n ≡ b → pick b (suc j) 0 ≤ suc n
        pickd true e = omega (arith, leb-true j n e)
        pickd false e = omega arith

    go : (b : Bool) → tail_number n t ≤ suc n → largest_tail n ts ≤ suc n → elim b as (λ z. ℕ) [ true ↦ largest_tail n ts | false ↦ tail_number n t ] ≤ suc n
    go true x y = y
    go false x y = x

pub data ByLength (k : ℕ) (cs ts : Cases) (n : ℕ) (c : Chosen) : Type 0 where
  exactly : lookup 0 (k + 1) cs (ListOf n) ≡ some c → ByLength k cs ts n c
  at_least : (j : ℕ) → j ≤ n → lookup (how_many cs) (k + 1 + nodes_in_of cs) ts (ListWithTail j) ≡ some c → ByLength k cs ts n c

pub by_length_lem : (k : ℕ) (cs ts : Cases) (o : Option ℕ) (c : Chosen) → by_length k cs ts o ≡ some (some c) → (n : ℕ) × (o ≡ some n) × ByLength k cs ts n c
unfolding by_length
by_length_lem k cs ts none c e = let z : ◌≡◌ {A = ℕ} 0 1 = cc in absurd (omega arith)
by_length_lem k cs ts (some n) c e = (n, refl, go (lookup 0 (k + 1) cs (ListOf n)) refl (largest_tail n ts) refl (inside _ e))
  where
    inside : (o : Option Chosen) → ◌≡◌ {A = Option (Option Chosen)} (some o) (some (some c)) → o ≡ some c
    inside o h = cc

    go : (o : Option Chosen) → lookup 0 (k + 1) cs (ListOf n) ≡ o → (l : ℕ) → largest_tail n ts ≡ l
        → or_tail o (tail_of (how_many cs) (k + 1 + nodes_in_of cs) ts l) ≡ some c → ByLength k cs ts n c
    go (some d) x l y h = exactly (x ∙ h)
    go none x zero y h = absurd (not_chosen c (unfold tail_of in h))
    go none x (suc j) y h = at_least j (omega (arith, tail_most n ts)) (unfold tail_of in h)
