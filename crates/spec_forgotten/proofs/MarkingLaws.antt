-- The marking ends with the types that have a value: what it marks is filled, and where it ends nothing is added, so that the unmarked
-- are hollow. Its answer is the lowest hollow type exactly (`hollow_is_lowest`, `lowest_is_hollow`, `none_is_filled`).
use Prim.Native.Nat.{ℕ, zero, suc, ◌+◌, ◌≤◌, ◌<◌}
use Rattle.std.proofs.Common.{zero-add, arith, sym, ◌∙◌, inl, inr, true≢false}
use Rattle.std.specs.Prelude.{◌≡◌, ◌⊎◌, Bool, get_or}
use Rattle.std.proofs.Math.Path.{refl, ap}
use Rattle.std.proofs.Math.Logic.{⊎_elim}
use Rattle.std.proofs.Math.Bool.{true, false, not}
use Rattle.std.proofs.lemmas.Bool.{false≢true}
use mathlib.Core.List.{List, []}
use Rattle.std.proofs.Math.Option.{Option, none, some}
use Rattle.std.proofs.Math.Dec.{ltb}
use borrow.Author.Tests.{ltb-true, ltb-false}
use Rattle.base_words.specs.Words.{both, either}
use Rattle.base_words.specs.WordsLaws.{both_true, both_make, either_true, either_first_true, either_second_true}
use Rattle.spec_rules.specs.Searching.{times}
use Rattle.spec_rules.specs.SearchingLaws.{first_or_rest, lowest_none, lowest_some, times_most, times_some}
use Rattle.spec_rules.specs.SheetFile.{types}
use Rattle.spec_accepted.specs.SheetFacts.{Typed}
use Rattle.spec_forgotten.specs.Forgetting.{Filled, Hollow, LowestHollow, NoHollow}
use Rattle.spec_forgotten.proofs.FillingLaws.{fills_filled, unmarked_hollow}
use Rattle.spec_forgotten.specs.KnownTypes.{parts_known}
use Rattle.spec_forgotten.specs.Marking.{fills, is_marked, marks_by, round, added, rounds_to, filled_types, hollow_type}

-- ---- counting: of fewer numbers, if one is gone and none is new
fewer_times : (f g : ℕ → Bool) (i n : ℕ) → ((k : ℕ) → k < i + n → g k ≡ true → f k ≡ true) → times g i n ≤ times f i n
unfolding times
fewer_times f g i zero h = omega arith
fewer_times f g i (suc n) h = go (g i) refl (f i) refl (fewer_times f g (i + 1) n (λ k l. h k (omega arith)))
  where
    go : (a : Bool) → g i ≡ a → (b : Bool) → f i ≡ b → times g (i + 1) n ≤ times f (i + 1) n
        → elim a as (λ z. ℕ) [ true ↦ suc (times g (i + 1) n) | false ↦ times g (i + 1) n ] ≤ elim b as (λ z. ℕ) [ true ↦ suc (times f (i + 1) n) | false ↦ times f (i + 1) n ]
    go true x true y l = omega arith
    go true x false y l = absurd (true≢false (sym (h i (omega arith) x) ∙ y))
    go false x true y l = omega arith
    go false x false y l = l

less_times : (f g : ℕ → Bool) (i n : ℕ) → ((k : ℕ) → k < i + n → g k ≡ true → f k ≡ true) → (k : ℕ) → i ≤ k → k < i + n → f k ≡ true → g k ≡ false → times g i n < times f i n
unfolding times
less_times f g i zero h k low high x y = absurd (omega arith)
less_times f g i (suc n) h k low high x y =
    go (g i) refl (f i) refl (first_or_rest i k n low high) (fewer_times f g (i + 1) n (λ k l. h k (omega arith))) (λ a b. less_times f g (i + 1) n (λ k l. h k (omega arith)) k a b x y)
  where
    go : (a : Bool) → g i ≡ a → (b : Bool) → f i ≡ b → (k ≡ i) ⊎ ((i + 1 ≤ k) × (k < i + 1 + n)) → times g (i + 1) n ≤ times f (i + 1) n
        → (i + 1 ≤ k → k < i + 1 + n → times g (i + 1) n < times f (i + 1) n)
        → elim a as (λ z. ℕ) [ true ↦ suc (times g (i + 1) n) | false ↦ times g (i + 1) n ] < elim b as (λ z. ℕ) [ true ↦ suc (times f (i + 1) n) | false ↦ times f (i + 1) n ]
    go true p true q (inl e) l ih = absurd (true≢false (sym p ∙ ap g (sym e) ∙ y))
    go true p true q (inr (c, d)) l ih = let z = ih c d in omega arith
    go true p false q w l ih = absurd (true≢false (sym (h i (omega arith) p) ∙ q))
    go false p true q w l ih = omega arith
    go false p false q (inl e) l ih = absurd (true≢false (sym x ∙ ap f e ∙ q))
    go false p false q (inr (c, d)) l ih = ih c d

-- ---- marks
marks_at : (f : ℕ → Bool) (t n k : ℕ) → k < n → get_or (marks_by f t n) k false ≡ f (t + k)
unfolding marks_by
marks_at f t zero k l = absurd (omega arith)
marks_at f t (suc n) zero l = ap f (same t)
  where
    same : (t : ℕ) → t ≡ t + 0
    same t = omega arith
marks_at f t (suc n) (suc k) l = marks_at f (t + 1) n k (omega arith) ∙ ap f (next t k)
  where
    next : (t k : ℕ) → t + 1 + k ≡ t + suc k
    next t k = omega arith

marks_past : (f : ℕ → Bool) (t n k : ℕ) → n ≤ k → get_or (marks_by f t n) k false ≡ false
unfolding marks_by
marks_past f t zero k l = refl
marks_past f t (suc n) zero l = absurd (omega arith)
marks_past f t (suc n) (suc k) l = marks_past f (t + 1) n k (omega arith)

not_not : (b : Bool) → not b ≡ true → b ≡ false
not_not true h = absurd (false≢true h)
not_not false h = refl

not_of : (b : Bool) → b ≡ false → not b ≡ true
not_of b e = rw e

not_false : (b : Bool) → not b ≡ false → b ≡ true
not_false true h = refl
not_false false h = absurd (true≢false h)

module _ (s : List ℕ) where
  -- a type with a value is not hollow
  pub not_both : (t : ℕ) → Filled s t → Hollow s t → ⊥
  not_both t (v, h) e = true≢false (sym h ∙ e v)

  -- THEOREM: two lowest hollow types are one
  pub one_lowest : (t u : ℕ) → LowestHollow s t → LowestHollow s u → t ≡ u
  one_lowest t u a b = go (ltb t u) refl (ltb u t) refl
    where
      go : (x : Bool) → ltb t u ≡ x → (y : Bool) → ltb u t ≡ y → t ≡ u
      go true e y f = absurd (not_both t (b.lowest t (ltb-true t u e)) a.hollow)
      go false e true f = absurd (not_both u (a.lowest u (ltb-true u t f)) b.hollow)
      go false e false f = omega (arith, ltb-false t u e, ltb-false u t f)

module _ (s : List ℕ) (ty : Typed s) where
  -- ---- what is marked has a value
  abbrev Right : List Bool → Type 0
  Right ms = (t : ℕ) → is_marked ms t ≡ true → Filled s t

  round_at : (ms : List Bool) (t : ℕ) → t < types s → is_marked (round s ms) t ≡ either (is_marked ms t) (fills (is_marked ms) s t)
  unfolding round
  round_at ms t l =
      marks_at (λ t. either (is_marked ms t) (fills (is_marked ms) s t)) 0 (types s) t l
      ∙ ap (λ k. either (is_marked ms k) (fills (is_marked ms) s k)) (zero-add t)

  round_right : (ms : List Bool) → Right ms → Right (round s ms)
  unfolding round
  round_right ms r t h = go (ltb t (types s)) refl
    where
      go : (b : Bool) → ltb t (types s) ≡ b → Filled s t
      go true e =
          let l = ltb-true t (types s) e in
          ⊎_elim (λ x. r t x) (λ x. fills_filled s (is_marked ms) r t (ty.type_kind_holds t l) x)
          (either_true (is_marked ms t) (fills (is_marked ms) s t) (sym (round_at ms t l) ∙ h))
      go false e = absurd (true≢false (sym h ∙ marks_past (λ t. either (is_marked ms t) (fills (is_marked ms) s t)) 0 (types s) t (ltb-false t (types s) e)))

  -- ---- where nothing is added, the marks are closed
  abbrev Closed : List Bool → Type 0
  Closed ms = (t : ℕ) → t < types s → fills (is_marked ms) s t ≡ true → is_marked ms t ≡ true

  none_closed : (ms : List Bool) → added s ms ≡ none → Closed ms
  unfolding added
  none_closed ms h t l f = go (is_marked ms t) refl
    where
      go : (b : Bool) → is_marked ms t ≡ b → is_marked ms t ≡ true
      go true e = e
      go false e =
          let z = lowest_none (λ t. both (not (is_marked ms t)) (fills (is_marked ms) s t)) 0 (types s) h t (omega arith) (omega (arith, l)) in
          absurd (true≢false (sym (both_make (not (is_marked ms t)) (fills (is_marked ms) s t) (not_of (is_marked ms t) e) f) ∙ z))

  -- how many types are unmarked: a round that adds one leaves fewer
  unmarked : List Bool → ℕ
  unmarked ms = times (λ t. not (is_marked ms t)) 0 (types s)

  fewer : (ms : List Bool) (t : ℕ) → added s ms ≡ some t → (n : ℕ) → unmarked ms ≤ suc n → unmarked (round s ms) ≤ n
  unfolding added unmarked
  fewer ms t h n l =
      let w = lowest_some (λ t. both (not (is_marked ms t)) (fills (is_marked ms) s t)) 0 (types s) t h in
      let (x, y) = both_true (not (is_marked ms t)) (fills (is_marked ms) s t) w.has in
      let known : t < types s = omega (arith, w.to) in
      let now = round_at ms t known ∙ either_second_true (is_marked ms t) (fills (is_marked ms) s t) y in
      let z =
      less_times (λ t. not (is_marked ms t)) (λ t. not (is_marked (round s ms) t)) 0 (types s) stays t w.from w.to x (gone now) in
      omega (arith, z, l)
    where
      gone : is_marked (round s ms) t ≡ true → not (is_marked (round s ms) t) ≡ false
      gone e = rw e

      stays : (k : ℕ) → k < 0 + types s → not (is_marked (round s ms) k) ≡ true → not (is_marked ms k) ≡ true
      stays k m e = at (is_marked ms k) refl
        where
          at : (b : Bool) → is_marked ms k ≡ b → not (is_marked ms k) ≡ true
          at false q = not_of (is_marked ms k) q
          at true q =
              let z = round_at ms k (omega (arith, m)) ∙ either_first_true (is_marked ms k) (fills (is_marked ms) s k) q in
              absurd (true≢false (sym z ∙ not_not (is_marked (round s ms) k) e))

  pub record Done (ms : List Bool) : Type 0 where
    pub right : Right ms
    pub closed : Closed ms

  rounds_done : (n : ℕ) (ms : List Bool) → Right ms → unmarked ms ≤ n → Done (rounds_to n s ms)
  unfolding rounds_to
  rounds_done zero ms r l = record { right = r; closed = λ t k f. all_marked t k }
    where
      all_marked : (t : ℕ) → t < types s → is_marked ms t ≡ true
      all_marked t k = go (is_marked ms t) refl
        where
          go : (b : Bool) → is_marked ms t ≡ b → is_marked ms t ≡ true
          go true e = e
          go false e = let z : 1 ≤ unmarked ms = unfold unmarked in (times_some (λ t. not (is_marked ms t)) 0 (types s) t (omega arith) (omega (arith, k)) (not_of (is_marked ms t) e)) in absurd (omega (arith, l, z))
  rounds_done (suc n) ms r l = go (added s ms) refl (λ q k. rounds_done n (round s ms) q k)
    where
      go : (o : Option ℕ) → added s ms ≡ o → (Right (round s ms) → unmarked (round s ms) ≤ n → Done (rounds_to n s (round s ms)))
          → Done (elim o as (λ z. List Bool) [ none ↦ ms | some t ↦ rounds_to n s (round s ms) ])
      go none e ih = record { right = r; closed = none_closed ms e }
      go (some t) e ih = ih (round_right ms r) (fewer ms t e n l)

  done : Done (filled_types s)
  unfolding filled_types
  done = rounds_done (types s) [] (λ t h. absurd (false≢true h)) (unfold unmarked in (times_most (λ t. not (is_marked [] t)) 0 (types s)))

  pub marked_filled : (t : ℕ) → is_marked (filled_types s) t ≡ true → Filled s t
  marked_filled t h = done.right t h

  pub unmarked_is_hollow : (t : ℕ) → t < types s → is_marked (filled_types s) t ≡ false → Hollow s t
  unmarked_is_hollow t l h = unmarked_hollow s (is_marked (filled_types s)) done.closed (parts_known s ty) t l h

  -- THEOREM: a type of the sheet is filled or hollow
  pub filled_or_hollow : (t : ℕ) → t < types s → Filled s t ⊎ Hollow s t
  filled_or_hollow t l = go (is_marked (filled_types s) t) refl
    where
      go : (b : Bool) → is_marked (filled_types s) t ≡ b → Filled s t ⊎ Hollow s t
      go true e = inl (marked_filled t e)
      go false e = inr (unmarked_is_hollow t l e)

  -- THEOREM: the answer of the marking is the lowest type with no finite value
  pub hollow_is_lowest : (t : ℕ) → hollow_type s ≡ some t → LowestHollow s t
  unfolding hollow_type
  hollow_is_lowest t h =
      let w = lowest_some (λ t. not (is_marked (filled_types s) t)) 0 (types s) t h in
      let l : t < types s = omega (arith, w.to) in
      record {
        there = l;
        hollow = unmarked_is_hollow t l (not_not (is_marked (filled_types s) t) w.has);
        lowest = λ u k. marked_filled u (not_false (is_marked (filled_types s) u) (w.none_below u (omega arith) k));
      }

  -- THEOREM: without an answer every type has a value
  pub none_is_filled : hollow_type s ≡ none → NoHollow s
  unfolding hollow_type
  none_is_filled h t l = marked_filled t (not_false (is_marked (filled_types s) t) (lowest_none (λ t. not (is_marked (filled_types s) t)) 0 (types s) h t (omega arith) (omega (arith, l))))

  -- THEOREM: and the lowest hollow type is the answer
  pub lowest_is_hollow : (t : ℕ) → LowestHollow s t → hollow_type s ≡ some t
  lowest_is_hollow t w = go (hollow_type s) refl
    where
      go : (o : Option ℕ) → hollow_type s ≡ o → hollow_type s ≡ some t
      go none e = absurd (not_both s t (none_is_filled e t w.there) w.hollow)
      go (some u) e = e ∙ ap some (one_lowest s u t (hollow_is_lowest u e) w)
