-- Rule 7: a clause's hoist stands above all its leaves.
-- Going down from the root the clause's scope is met before any leaf of it, and the hoist stands there.
use Rattle.std.specs.Prelude.{◌≡◌, refl, ◌⊎◌, Bool, true, false, List, [], ◌∷◌, ◌++◌, ℕ, zero, suc, ◌+◌, ◌≤◌, ◌<◌, eqb}
use Rattle.std.proofs.Math.Path.{sym, subst}
use Rattle.std.proofs.Common.{ap, ◌∙◌, inl, inr, ⊎_elim, append-nil, append_assoc, arith}
use Rattle.std.proofs.Math.Option.{Option, none, some}
use Rattle.std.proofs.lemmas.Bool.{eqb-false}
use Rattle.base_words.specs.Words.{either}
use Rattle.base_words.specs.WordsLaws.{either_false, same_text_refl}
use Rattle.spec_rules.specs.SearchingLaws.{first_or_rest}
use Rattle.spec_rules.specs.Building.{Tree, Cases, absent, leaf, hoist, switch, listswitch, cnil, ccons}
use Rattle.spec_rules.specs.Hoisting.{Place, Fallback, Case, under, Visit, how_many, visits, scope, Hoist, hoists, is_at, wrap, hoisted, hoisted_of, hoist_all, has_leaf, has_leaf_of}
use Rattle.spec_hoist.specs.Trees.{Above, AboveOf}
use Rattle.spec_hoist.specs.Scopes.{has_scope, later, last_leaf, last_leaf_of, is_clause, beneath, merge, scope_in, scope_in_of}
use Rattle.spec_hoist.specs.ScopesLaws.{noted_root, noted_step, merge_step, merge_none, beneath_step, beneath_none}
use Rattle.spec_hoist.proofs.ScopesLaws.{scope_is}
use Rattle.spec_hoist.proofs.IdleLaws.{has_scope_scope_in, has_scope_scope_in_of}
use Rattle.spec_hoist.specs.UnhoistedLaws.{has_leaf_hoisted_at, has_leaf_of_hoisted_at}

-- ---- where no hoist is needed
mutual
  unfolding Above has_leaf

  above_idle : (c : ℕ) (a : Tree) → has_leaf c a ≡ false → Above c a
  above_idle c absent h = tt
  above_idle c (leaf d bs) h = eqb-false c d h
  above_idle c (hoist d bs a) h = inr (above_idle c a h)
  above_idle c (switch p cs d) h = let z = either_false (has_leaf_of c cs) (has_leaf c d) h in (above_of_idle c cs z.0, above_idle c d z.1)
  above_idle c (listswitch p cs ts d) h =
      let z = either_false (has_leaf_of c cs) (either (has_leaf_of c ts) (has_leaf c d)) h in
      let y = either_false (has_leaf_of c ts) (has_leaf c d) z.1 in
      (above_of_idle c cs z.0, above_of_idle c ts y.0, above_idle c d y.1)

  above_of_idle : (c : ℕ) (cs : Cases) → has_leaf_of c cs ≡ false → AboveOf c cs
  above_of_idle c cnil h = tt
  above_of_idle c (ccons t at a cs) h = let z = either_false (has_leaf c a) (has_leaf_of c cs) h in (above_idle c a z.0, above_of_idle c cs z.1)

above_none : (c : ℕ) (hs : List Hoist) (q : Place) (a : Tree) → scope_in c a ≡ none → Above c (hoisted hs q a)
unfolding has_scope
above_none c hs q a e =
    above_idle c (hoisted hs q a) (has_leaf_hoisted_at c hs q a ∙ sym (has_scope_scope_in c a) ∙ ap has_scope e)

above_of_none : (c : ℕ) (hs : List Hoist) (q : Place) (i : ℕ) (cs : Cases) → scope_in_of c i cs ≡ none → AboveOf c (hoisted_of hs q i cs)
unfolding has_scope
above_of_none c hs q i cs e =
    above_of_idle c (hoisted_of hs q i cs) (has_leaf_of_hoisted_at c hs q i cs ∙ sym (has_scope_scope_in_of c i cs) ∙ ap has_scope e)

-- ---- where the hoist stands
-- the clause c is one of those to hoist, at the place s
HoistsAt : ℕ → Place → List Hoist → Type 0
HoistsAt c s [] = ⊥
HoistsAt c s (h ∷ hs) = ((c ≡ h.clause) × (h.scope ≡ some s)) ⊎ HoistsAt c s hs

above_wrap : (c : ℕ) (q : Place) (hs : List Hoist) (a : Tree) → Above c a → Above c (wrap q hs a)
unfolding wrap Above
above_wrap c q [] a h = h
above_wrap c q (x ∷ hs) a h = go (is_at q x.scope) refl (above_wrap c q hs a h)
  where
    go : (b : Bool) → is_at q x.scope ≡ b → Above c (wrap q hs a) → Above c (wrap q (x ∷ hs) a)
    go true e ih = rw (e, wrap) (inr ih)
    go false e ih = rw (e, wrap) ih

above_here : (c : ℕ) (q : Place) (hs : List Hoist) (a : Tree) → HoistsAt c q hs → Above c (wrap q hs a)
unfolding wrap Above HoistsAt is_at
above_here c q [] a h = absurd h
above_here c q (x ∷ hs) a (inl h) = rw (ap (is_at q) h.1 ∙ same_text_refl q, wrap) (inl h.0)
above_here c q (x ∷ hs) a (inr h) = go (is_at q x.scope) refl (above_here c q hs a h)
  where
    go : (b : Bool) → is_at q x.scope ≡ b → Above c (wrap q hs a) → Above c (wrap q (x ∷ hs) a)
    go true e ih = rw (e, wrap) (inr ih)
    go false e ih = rw (e, wrap) ih

hoists_at : (c : ℕ) (s : Place) (i n : ℕ) (a : Tree) (xs : List Visit) → i ≤ c → c < i + n → scope c xs ≡ some s → HoistsAt c s (hoists i n a xs)
unfolding hoists HoistsAt
hoists_at c s i zero a xs l m e = absurd (omega arith)
hoists_at c s i (suc n) a xs l m e =
    ⊎_elim (λ z. inl (z, ap (λ k. scope k xs) (sym z) ∙ e)) (λ w. inr (hoists_at c s (suc i) n a xs (omega (arith, w.0)) (omega (arith, w.1)) e)) (first_or_rest i c n l m)

module _ (c : ℕ) (hs : List Hoist) where
  at_root : (q : Place) → HoistsAt c (q ++ []) hs → HoistsAt c q hs
  at_root q h = subst (λ z. HoistsAt c z hs) (append-nil q) h

  -- one step further down
  at_step : (q : Place) (j k : ℕ) (s : Place) → j ≡ k → HoistsAt c (q ++ k ∷ s) hs → HoistsAt c (under q j ++ s) hs
  unfolding under
  at_step q j k s e h = subst (λ z. HoistsAt c z hs) (ap (λ z. q ++ z ∷ s) (sym e) ∙ sym (append_assoc q (j ∷ []) s)) h

  mutual
    unfolding hoisted Above scope_in

    -- where the hoist of c stands at its scope, it is met before any leaf of c
    above_hoisted : (q : Place) (a : Tree) (s : Place) → scope_in c a ≡ some s → HoistsAt c (q ++ s) hs → Above c (hoisted hs q a)
    above_hoisted q absent s e h = tt
    above_hoisted q (leaf d bs) s e h = above_here c q hs (leaf d bs) (at_root q (subst (λ z. HoistsAt c (q ++ z) hs) (noted_root (eqb c d) s e) h))
    above_hoisted q (hoist d bs a) s e h = inr (above_hoisted q a s e h)
    above_hoisted q (switch p cs d) [] e h = above_here c q hs (switch p (hoisted_of hs q 0 cs) (hoisted hs (under q Fallback) d)) (at_root q h)
    above_hoisted q (switch p cs d) (k ∷ s) e h =
        above_wrap c q hs (switch p (hoisted_of hs q 0 cs) (hoisted hs (under q Fallback) d))
        (⊎_elim
        (λ z. (above_of_hoisted q 0 cs k s z.0 h, above_none c hs (under q Fallback) d (beneath_none Fallback (scope_in c d) z.1)))
        (λ z.
        let y = beneath_step Fallback (scope_in c d) k s z.1 in
        (above_of_none c hs q 0 cs z.0, above_hoisted (under q Fallback) d s y.1 (at_step q Fallback k s y.0 h)))
        (merge_step (scope_in_of c 0 cs) (beneath Fallback (scope_in c d)) k s
        (noted_step (is_clause c (later (last_leaf_of cs) (last_leaf d))) (merge (scope_in_of c 0 cs) (beneath Fallback (scope_in c d))) k s e)))
    above_hoisted q (listswitch p cs ts d) [] e h =
        above_here c q hs (listswitch p (hoisted_of hs q 0 cs) (hoisted_of hs q (how_many cs) ts) (hoisted hs (under q Fallback) d)) (at_root q h)
    above_hoisted q (listswitch p cs ts d) (k ∷ s) e h =
        above_wrap c q hs (listswitch p (hoisted_of hs q 0 cs) (hoisted_of hs q (how_many cs) ts) (hoisted hs (under q Fallback) d))
        (⊎_elim
        (λ z.
        let y = merge_none (scope_in_of c (how_many cs) ts) (beneath Fallback (scope_in c d)) z.1 in
        (above_of_hoisted q 0 cs k s z.0 h, above_of_none c hs q (how_many cs) ts y.0, above_none c hs (under q Fallback) d (beneath_none Fallback (scope_in c d) y.1)))
        (λ x.
        ⊎_elim
        (λ z. (
          above_of_none c hs q 0 cs x.0,
          above_of_hoisted q (how_many cs) ts k s z.0 h,
          above_none c hs (under q Fallback) d (beneath_none Fallback (scope_in c d) z.1),
        ))
        (λ z.
        let y = beneath_step Fallback (scope_in c d) k s z.1 in (
          above_of_none c hs q 0 cs x.0,
          above_of_none c hs q (how_many cs) ts z.0,
          above_hoisted (under q Fallback) d s y.1 (at_step q Fallback k s y.0 h),
        ))
        (merge_step (scope_in_of c (how_many cs) ts) (beneath Fallback (scope_in c d)) k s x.1))
        (merge_step (scope_in_of c 0 cs) (merge (scope_in_of c (how_many cs) ts) (beneath Fallback (scope_in c d))) k s
        (noted_step (is_clause c (later (last_leaf_of cs) (later (last_leaf_of ts) (last_leaf d))))
        (merge (scope_in_of c 0 cs) (merge (scope_in_of c (how_many cs) ts) (beneath Fallback (scope_in c d)))) k s e)))

    above_of_hoisted : (q : Place) (i : ℕ) (cs : Cases) (k : ℕ) (s : Place) → scope_in_of c i cs ≡ some (k ∷ s) → HoistsAt c (q ++ k ∷ s) hs
        → AboveOf c (hoisted_of hs q i cs)
    above_of_hoisted q i cnil k s e h = tt
    above_of_hoisted q i (ccons t at a cs) k s e h =
        ⊎_elim
        (λ z.
        let y = beneath_step (Case i) (scope_in c a) k s z.0 in
        (above_hoisted (under q (Case i)) a s y.1 (at_step q (Case i) k s y.0 h), above_of_none c hs q (suc i) cs z.1))
        (λ z. (above_none c hs (under q (Case i)) a (beneath_none (Case i) (scope_in c a) z.0), above_of_hoisted q (suc i) cs k s z.1 h))
        (merge_step (beneath (Case i) (scope_in c a)) (scope_in_of c (suc i) cs) k s e)

-- THEOREM: going down from the root of the hoisted tree no leaf of a clause is met before its hoist
pub hoisted_above : (n : ℕ) (a : Tree) (c : ℕ) → c < n → Above c (hoist_all n a)
unfolding hoist_all
hoisted_above n a c l = go (scope_in c a) refl
  where
    go : (o : Option Place) → scope_in c a ≡ o → Above c (hoisted (hoists 0 n a (visits [] a)) [] a)
    go none e = above_none c (hoists 0 n a (visits [] a)) [] a e
    go (some s) e =
        above_hoisted c (hoists 0 n a (visits [] a)) [] a s e
        (hoists_at c s 0 n a (visits [] a) (omega arith) (omega arith) (scope_is c a ∙ e))
