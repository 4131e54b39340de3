-- Refusal 14: the lowest clause without a leaf is what `lowest_idle` finds on the whole tree. That it is the same to ask for a scope is in
-- proofs/IdleLaws.antt.
use Rattle.std.specs.Prelude.{◌≡◌, refl, Bool, true, false, not, ℕ, ◌<◌, ltb}
use Rattle.std.proofs.Common.{sym, ap, ◌∙◌, true≢false, arith, ltb-true, ltb-false}
use Rattle.std.proofs.Math.Option.{Option, none, some}
use Rattle.std.proofs.lemmas.Bool.{not-true, not-false}
use Rattle.spec_rules.specs.SearchingLaws.{lowest_none, lowest_some, lowest_make_none}
use Rattle.spec_rules.specs.Building.{Tree}
use Rattle.spec_rules.specs.Hoisting.{hoist_all, has_leaf}
use Rattle.spec_rules.specs.Calls.{lowest_idle}
use Rattle.spec_hoist.specs.UnhoistedLaws.{lowest_idle_hoisted}

-- ---- 14
-- THEOREM: the clauses that 14 finds on the whole tree are those without a scope
-- the lowest of n clauses that has no leaf
pub record LowestIdle (n : ℕ) (a : Tree) (c : ℕ) : Type 0 where
  pub clause : c < n
  pub idle : has_leaf c a ≡ false
  pub lower : (d : ℕ) → d < c → has_leaf d a ≡ true

-- THEOREM: 14 on the whole tree gives the lowest clause without a leaf, and nothing exactly where each clause has one
pub lowest_idle_some : (n : ℕ) (a : Tree) (c : ℕ) → lowest_idle n (hoist_all n a) ≡ some c → LowestIdle n a c
unfolding lowest_idle
lowest_idle_some n a c e =
    let l = lowest_some (λ d. not (has_leaf d a)) 0 n c (sym (lowest_idle_hoisted n n a) ∙ e) in
    record {
      clause = omega (arith, l.to);
      idle = not-true (has_leaf c a) l.has;
      lower = λ d h. not-false (has_leaf d a) (l.none_below d (omega arith) h);
    }

pub lowest_idle_none : (n : ℕ) (a : Tree) → lowest_idle n (hoist_all n a) ≡ none → (c : ℕ) → c < n → has_leaf c a ≡ true
unfolding lowest_idle
lowest_idle_none n a e c h = not-false (has_leaf c a) (lowest_none (λ d. not (has_leaf d a)) 0 n (sym (lowest_idle_hoisted n n a) ∙ e) c (omega arith) (omega arith))

pub lowest_idle_make_none : (n : ℕ) (a : Tree) → ((c : ℕ) → c < n → has_leaf c a ≡ true) → lowest_idle n (hoist_all n a) ≡ none
unfolding lowest_idle
lowest_idle_make_none n a h = lowest_idle_hoisted n n a ∙ lowest_make_none (λ d. not (has_leaf d a)) 0 n (λ c low high. ap not (h c (omega arith)))

pub lowest_idle_make : (n : ℕ) (a : Tree) (c : ℕ) → LowestIdle n a c → lowest_idle n (hoist_all n a) ≡ some c
lowest_idle_make n a c l = go (lowest_idle n (hoist_all n a)) refl
  where
    only : (d : ℕ) → LowestIdle n a d → d ≡ c
    only d m = below (ltb d c) refl (ltb c d) refl
      where
        clash : (k : ℕ) → has_leaf k a ≡ true → has_leaf k a ≡ false → ⊥
        clash k x y = true≢false (sym x ∙ y)

        below : (x : Bool) → ltb d c ≡ x → (y : Bool) → ltb c d ≡ y → d ≡ c
        below true e y f = absurd (clash d (l.lower d (ltb-true d c e)) m.idle)
        below false e true f = absurd (clash c (m.lower c (ltb-true c d f)) l.idle)
        below false e false f = omega (arith, ltb-false d c e, ltb-false c d f)

    go : (o : Option ℕ) → lowest_idle n (hoist_all n a) ≡ o → lowest_idle n (hoist_all n a) ≡ some c
    go none e = absurd (true≢false (sym (lowest_idle_none n a e c l.clause) ∙ l.idle))
    go (some d) e = e ∙ ap some (only d (lowest_idle_some n a d e))
