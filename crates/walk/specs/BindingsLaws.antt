-- Laws of a leaf's bindings after some of them are written.
-- Rests on Bindings and the laws of stores.
use Rattle.std.proofs.Math.Path.{◌≡◌, sym, ap}
use Rattle.std.specs.Prelude.{refl, Ok, Err, List, [], ◌∷◌, set}
use Rattle.std.proofs.Common.{◌∙◌}
use Rattle.std.proofs.Math.Option.{Option, none, some}
use Prim.Native.Nat.{ℕ, suc, ◌+◌, ◌-◌, ◌*◌, ◌≤◌, ◌<◌}
use native.Mathlib.Omega.{arith}
use Rattle.std.proofs.Math.ListN.{length}
use Rattle.base_words.specs.Words.{zeros}
use Rattle.base_words.specs.Stored.{stored}
use Rattle.base_words.specs.StoredLaws.{set_stored, stored_append, stored_nil, length_stored}
use Rattle.spec_rules.specs.Rows.{Binding}
use Rattle.spec_rules.specs.TreeReader.{binding_name, binding_path, path_at, bindings_from}
use Rattle.spec_rules.specs.Walking.{Position as Place, panel_root, follow, Bound, bound}
use Rattle.spec_rules.specs.WalkPlaces.{steps_taken, first_stuck}
use Rattle.spec_rules.specs.Calls.{bound_words}
use Rattle.spec_accepted.specs.TreeFacts.{bindings_from_some}
use Rattle.walk.specs.Positions.{stuck_at}
use Rattle.walk.specs.Bindings.{given_of, given_by, words_after}

-- three stores next to each other
pub three_stores : (l : List ℕ) (i a b c : ℕ) → set (set (set l i a) (i + 1) b) (i + 2) c ≡ stored l i (a ∷ b ∷ c ∷ [])
three_stores l i a b c =
    set_stored (set (set l i a) (i + 1) b) (i + 2) c
    ∙ ap (λ (x : List ℕ). stored x (i + 2) (c ∷ [])) (set_stored (set l i a) (i + 1) b ∙ ap (λ (x : List ℕ). stored x (i + 1) (b ∷ [])) (set_stored l i a) ∙ stored_append l i (i + 1) (a ∷ []) (b ∷ []) (omega arith))
    ∙ stored_append l i (i + 2) (a ∷ b ∷ []) (c ∷ []) (omega arith)

-- ---- one more binding
cons_bound : Bound → Option (List Bound) → Option (List Bound)
cons_bound b none = none
cons_bound b (some xs) = some (b ∷ xs)

bound_some : (v : List ℕ) (b : Binding) (bs : List Binding) (x : Place) → follow v b.path panel_root ≡ some x
    → bound v (b ∷ bs) ≡ cons_bound (record { name = b.name; position = x }) (bound v bs)
unfolding bound cons_bound
bound_some v b bs x e = rw (e, bound) (go (bound v bs))
  where
    go : (o : Option (List Bound)) → ◌≡◌ {A = Option (List Bound)} (elim o [ none ↦ none | some xs ↦ some (record { name = b.name; position = x } ∷ xs) ]) (cons_bound (record { name = b.name; position = x }) o)
    go none = refl
    go (some xs) = refl

bound_none : (v : List ℕ) (b : Binding) (bs : List Binding) → follow v b.path panel_root ≡ none → bound v (b ∷ bs) ≡ none
unfolding bound
bound_none v b bs e = rw (e, bound)

given_cons : (b : Bound) (o : Option (List Bound)) (k : ℕ) → given_of (cons_bound b o) k ≡ given_of o k
unfolding cons_bound
given_cons b none k = refl
given_cons b (some xs) k = refl

given_some : (v : List ℕ) (b : Binding) (bs : List Binding) (x : Place) → follow v b.path panel_root ≡ some x → given_by v (b ∷ bs) ≡ given_by v bs
given_some v b bs x e =
    let later : first_stuck v (b ∷ bs) ≡ first_stuck v bs = unfold first_stuck in rw (e, first_stuck) in
    rw (bound_some v b bs x e, later) (given_cons (record { name = b.name; position = x }) (bound v bs) (first_stuck v bs))

given_none : (v : List ℕ) (b : Binding) (bs : List Binding) → follow v b.path panel_root ≡ none → given_by v (b ∷ bs) ≡ Err (stuck_at (steps_taken v b.path panel_root))
given_none v b bs e =
    let here : first_stuck v (b ∷ bs) ≡ steps_taken v b.path panel_root = unfold first_stuck in rw (e, first_stuck) in
    rw (bound_none v b bs e, here)

words_cons : (l : List ℕ) (at next : ℕ) (b : Bound) (o : Option (List Bound)) → at + 3 ≡ next
    → words_after (stored l at (b.name ∷ b.position.place ∷ b.position.dropped ∷ [])) next o ≡ words_after l at (cons_bound b o)
unfolding cons_bound bound_words
words_cons l at next b none e = ap zeros (length_stored l at (b.name ∷ b.position.place ∷ b.position.dropped ∷ []))
words_cons l at next b (some xs) e = stored_append l at next (b.name ∷ b.position.place ∷ b.position.dropped ∷ []) (bound_words xs) (omega arith)

-- as many as there are bindings
pub length_bound : (v : List ℕ) (bs : List Binding) (xs : List Bound) → bound v bs ≡ some xs → length xs ≡ length bs
unfolding bound
length_bound v [] xs e = let q : [] ≡ xs = cc in sym (ap length q)
length_bound v (b ∷ bs) xs e = go (follow v b.path panel_root) refl (length_bound v bs)
  where
    rest : (x : Place) (o : Option (List Bound)) → bound v bs ≡ o → ((ys : List Bound) → bound v bs ≡ some ys → length ys ≡ length bs)
        → cons_bound (record { name = b.name; position = x }) o ≡ some xs → length xs ≡ suc (length bs)
    rest x none q ih f = let g : none ≡ some xs = unfold cons_bound in f in let z : ◌≡◌ {A = ℕ} 0 1 = cc in absurd (omega arith)
    rest x (some ys) q ih f =
        let g : some (record { name = b.name; position = x } ∷ ys) ≡ some xs = unfold cons_bound in f in
        let k : record { name = b.name; position = x } ∷ ys ≡ xs = cc in
        sym (ap length k) ∙ ap suc (ih ys q)

    go : (o : Option Place) → follow v b.path panel_root ≡ o → ((ys : List Bound) → bound v bs ≡ some ys → length ys ≡ length bs) → length xs ≡ suc (length bs)
    go none q ih = let f : none ≡ some xs = sym (bound_none v b bs q) ∙ e in let z : ◌≡◌ {A = ℕ} 0 1 = cc in absurd (omega arith)
    go (some x) q ih = rest x (bound v bs) refl ih (sym (bound_some v b bs x q) ∙ e)

-- ---- after i of n bindings
module _ (t v : List ℕ) (first n : ℕ) where
  abbrev pub remaining : ℕ → List Binding
  remaining i = bindings_from t (first + i) (n - i)

  abbrev pub left : ℕ → Option (List Bound)
  left i = bound v (remaining i)

  pub bindings_start : remaining 0 ≡ bindings_from t first n
  bindings_start = let a : first + 0 ≡ first = omega arith in let b : n - 0 ≡ n = omega arith in rw (a, b)

  bindings_next : (i : ℕ) → i < n
      → bindings_from t (first + i) (n - i) ≡ record { name = binding_name t (first + i); path = path_at t (binding_path t (first + i)) } ∷ bindings_from t (first + (i + 1)) (n - (i + 1))
  bindings_next i h =
      let a : first + (i + 1) ≡ first + i + 1 = omega arith in
      let b : n - (i + 1) ≡ n - i - 1 = omega arith in
      rw (a, b) (bindings_from_some t (first + i) (n - i) (λ z. omega arith))

  pub binding_stuck : (i : ℕ) → i < n → follow v (path_at t (binding_path t (first + i))) panel_root ≡ none → left i ≡ none
  binding_stuck i h e = ap (bound v) (bindings_next i h) ∙ bound_none v _ _ e

  binding_on : (i : ℕ) (x : Place) → i < n → follow v (path_at t (binding_path t (first + i))) panel_root ≡ some x
      → left i ≡ cons_bound (record { name = binding_name t (first + i); position = x }) (left (i + 1))
  binding_on i x h e = ap (bound v) (bindings_next i h) ∙ bound_some v _ _ x e

  pub given_stuck : (i : ℕ) → i < n → follow v (path_at t (binding_path t (first + i))) panel_root ≡ none
      → given_by v (remaining i) ≡ Err (stuck_at (steps_taken v (path_at t (binding_path t (first + i))) panel_root))
  given_stuck i h e = ap (given_by v) (bindings_next i h) ∙ given_none v _ _ e

  pub given_on : (i : ℕ) (x : Place) → i < n → follow v (path_at t (binding_path t (first + i))) panel_root ≡ some x → given_by v (remaining (i + 1)) ≡ given_by v (remaining i)
  given_on i x h e = sym (ap (given_by v) (bindings_next i h) ∙ given_some v _ _ x e)

  pub words_on : (l : List ℕ) (i name : ℕ) (x : Place) → i < n → follow v (path_at t (binding_path t (first + i))) panel_root ≡ some x → name ≡ binding_name t (first + i)
      → words_after (stored l (3 * i) (name ∷ x.place ∷ x.dropped ∷ [])) (3 * (i + 1)) (left (i + 1)) ≡ words_after l (3 * i) (left i)
  words_on l i name x h e q =
      let three : 3 * i + 3 ≡ 3 * (i + 1) = omega arith in
      ap (λ (k : ℕ). words_after (stored l (3 * i) (k ∷ x.place ∷ x.dropped ∷ [])) (3 * (i + 1)) (left (i + 1))) q
      ∙ words_cons l (3 * i) (3 * (i + 1)) (record { name = binding_name t (first + i); position = x }) (left (i + 1)) three
      ∙ ap (words_after l (3 * i)) (sym (binding_on i x h e))

  pub given_end : (i : ℕ) → n ≤ i → Ok tt ≡ given_by v (remaining i)
  unfolding bindings_from bound
  given_end i h = let a : n - i ≡ 0 = omega arith in rw a

  pub words_end : (l : List ℕ) (i : ℕ) → n ≤ i → l ≡ words_after l (3 * i) (left i)
  unfolding bindings_from bound bound_words
  words_end l i h = let a : n - i ≡ 0 = omega arith in rw a (sym (stored_nil l (3 * i)))
