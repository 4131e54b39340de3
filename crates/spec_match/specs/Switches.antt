-- One switch: the walk goes to the case whose patterns are those that pass, or to the default where none passes, and is not stuck.
-- The delicate part is the list switch: where no case has the exact length, the tailed patterns that pass are those of the case with
-- the largest tail number not above the length.
use Prim.Native.Nat.{ℕ, zero, suc, ◌≤◌}
use Rattle.std.proofs.Math.Nat.{suc_inj}
use Rattle.std.proofs.Common.{arith, ◌∙◌, inl, inr}
use Rattle.std.specs.Prelude.{◌≡◌, ◌⊎◌, Bool}
use Rattle.std.proofs.Math.Path.{refl, sym, ap, ap₂}
use Rattle.std.proofs.Math.Bool.{true, false, true≢false}
use Rattle.std.proofs.lemmas.Bool.{false≢true}
use mathlib.Core.List.{List, [], ◌∷◌}
use Rattle.std.proofs.Math.Option.{Option, some}
use Rattle.std.proofs.Math.Dec.{eqb, leb}
use borrow.Author.Tests.{eqb-true, eq-eqb, leb-true, leb-false, le-leb, lt-leb}
use Rattle.base_words.specs.Words.{either}
use Rattle.base_words.specs.WordsLaws.{either_true, either_false, either_first_true, either_second_true}
use Rattle.spec_rules.specs.Kinds.{list_record}
use Rattle.spec_rules.specs.Patterns.{Mark, Pat, Pats, discard, variable, assign, integer, bytestring, listed, tailed, constructor, opened, many}
use Rattle.spec_rules.specs.Rows.{Path}
use Rattle.spec_rules.specs.Splitting.{Test, Constr, Int, Bytes, ListOf, ListWithTail, same_test, tailless_length, tailed_length, longest, Met, is_met, cases_of, covers}
use Rattle.spec_rules.specs.SplittingLaws.{All, both_end, InRange, any_covers, same_test_sound, same_test_refl, either_none, not_true_false, longest_bounds}
use Rattle.spec_rules.proofs.SplittingLaws.{cases_of_covers, case_covered}
use Rattle.spec_rules.specs.Building.{Tree, Cases, switch, listswitch, cnil, ccons, is_list, has_list}
use Rattle.spec_rules.specs.PanelFile.{record_kind, record_a, record_text}
use Rattle.spec_rules.specs.Walking.{Position, panel_root, follow, Walked, shown_at, length_at, test_kind, first_kind, of_this_kind, tail_number, largest_tail, at_tail, walk, walk_cases}
use Rattle.spec_rules.specs.Meaning.{elements}
use Rattle.spec_match.specs.Lists.{all_map, all_both}
use Rattle.spec_match.specs.Tests.{is_test}
use Rattle.spec_match.specs.Depth.{cases_on, is_tail, is_exact, only, node_on, is_met_only, met_here, met_there}
use Rattle.spec_match.specs.Suits.{Suits, head_holds}
use Rattle.spec_match.specs.Answers.{Alike, Suited}

-- ---- walking into cases
module _ (v : List ℕ) where
  cases_first : (t u : Test) (at : ℕ) (a : Tree) (cs : Cases) (otherwise : Unit {0} → Walked) → same_test t u ≡ true → walk_cases (ccons u at a cs) t v otherwise ≡ walk a v
  unfolding walk
  cases_first t u at a cs otherwise e = rw e

  cases_next : (t u : Test) (at : ℕ) (a : Tree) (cs : Cases) (otherwise : Unit {0} → Walked) → same_test t u ≡ false → walk_cases (ccons u at a cs) t v otherwise ≡ walk_cases cs t v otherwise
  unfolding walk
  cases_next t u at a cs otherwise e = rw e

  cases_end : (t : Test) (otherwise : Unit {0} → Walked) → walk_cases cnil t v otherwise ≡ otherwise tt
  unfolding walk
  cases_end t otherwise = refl

  walk_met : (f : Test → Tree) (t : Test) (ms : List Met) (otherwise : Unit {0} → Walked) → is_met t ms ≡ true → walk_cases (cases_on f ms) t v otherwise ≡ walk (f t) v
  unfolding cases_on is_met
  walk_met f t [] otherwise e = absurd (false≢true e)
  walk_met f t (m ∷ ms) otherwise e = go (same_test t m.test) refl (walk_met f t ms otherwise)
    where
      go : (b : Bool) → same_test t m.test ≡ b → (is_met t ms ≡ true → walk_cases (cases_on f ms) t v otherwise ≡ walk (f t) v) → walk_cases (cases_on f (m ∷ ms)) t v otherwise ≡ walk (f t) v
      go true x ih = cases_first t m.test m.start (f m.test) (cases_on f ms) otherwise x ∙ ap (λ z. walk (f z) v) (sym (same_test_sound t m.test x))
      go false x ih = cases_next t m.test m.start (f m.test) (cases_on f ms) otherwise x ∙ ih (rw x at e)

  walk_not_met : (f : Test → Tree) (t : Test) (ms : List Met) (otherwise : Unit {0} → Walked) → is_met t ms ≡ false → walk_cases (cases_on f ms) t v otherwise ≡ otherwise tt
  unfolding cases_on is_met
  walk_not_met f t [] otherwise e = cases_end t otherwise
  walk_not_met f t (m ∷ ms) otherwise e =
      let (x, y) = either_false (same_test t m.test) (is_met t ms) e in
      cases_next t m.test m.start (f m.test) (cases_on f ms) otherwise x ∙ walk_not_met f t ms otherwise y

  walk_switch : (p : Path) (cs : Cases) (d : Tree) (x : Position) (t : Test) → follow v p panel_root ≡ some x → shown_at v x ≡ some t → test_kind t ≡ first_kind cs
      → walk (switch p cs d) v ≡ walk_cases cs t v (λ u. walk d v)
  unfolding walk of_this_kind
  walk_switch p cs d x t e s k = rw (e, s, eq-eqb (test_kind t) (first_kind cs) k, of_this_kind)

  walk_list : (p : Path) (cs ts : Cases) (d : Tree) (x : Position) (n : ℕ) → follow v p panel_root ≡ some x → length_at v x ≡ some n
      → walk (listswitch p cs ts d) v
      ≡ walk_cases cs (ListOf n) v (λ u. at_tail (largest_tail n ts) (λ k. walk_cases ts (ListWithTail k) v (λ u. walk d v)) (λ u. walk d v))
  unfolding walk
  walk_list p cs ts d x n e l = rw (e, l)

-- ---- the largest tail number
tail_number_is : (n k : ℕ) (t : Test) → tail_number n t ≡ suc k → (t ≡ ListWithTail k) × (k ≤ n)
unfolding tail_number
tail_number_is n k (Constr a) e = absurd (omega arith)
tail_number_is n k (Int w) e = absurd (omega arith)
tail_number_is n k (Bytes w) e = absurd (omega arith)
tail_number_is n k (ListOf j) e = absurd (omega arith)
tail_number_is n k (ListWithTail j) e = go (leb j n) refl
  where
    go : (b : Bool) → leb j n ≡ b → (ListWithTail j ≡ ListWithTail k) × (k ≤ n)
    go true x = let y : suc j ≡ suc k = rw x at e in (ap ListWithTail (suc_inj y), omega (arith, leb-true j n x))
    go false x = let y : 0 ≡ suc k = rw x at e in absurd (omega arith)

tail_number_of : (n k : ℕ) → k ≤ n → tail_number n (ListWithTail k) ≡ suc k
unfolding tail_number
tail_number_of n k l = rw (le-leb k n l)

module _ (n : ℕ) (f : Test → Tree) where
  largest_is : (ms : List Met) (k : ℕ) → largest_tail n (cases_on f ms) ≡ suc k → (is_met (ListWithTail k) ms ≡ true) × (k ≤ n)
  unfolding largest_tail cases_on
  largest_is [] k e = absurd (omega arith)
  largest_is (m ∷ ms) k e = go (leb (tail_number n m.test) (largest_tail n (cases_on f ms))) refl (largest_is ms k)
    where
      go : (b : Bool) → leb (tail_number n m.test) (largest_tail n (cases_on f ms)) ≡ b
          → (largest_tail n (cases_on f ms) ≡ suc k → (is_met (ListWithTail k) ms ≡ true) × (k ≤ n)) → (is_met (ListWithTail k) (m ∷ ms) ≡ true) × (k ≤ n)
      go true x ih = let (a, b) = ih (rw (x, largest_tail) at e) in (met_there (ListWithTail k) m ms a, b)
      go false x ih = let (a, b) = tail_number_is n k m.test (rw (x, largest_tail) at e) in (rw (← a) (met_here m ms), b)

  largest_most : (ms : List Met) (k : ℕ) → is_met (ListWithTail k) ms ≡ true → k ≤ n → suc k ≤ largest_tail n (cases_on f ms)
  unfolding largest_tail cases_on is_met
  largest_most [] k s l = absurd (false≢true s)
  largest_most (m ∷ ms) k s l =
      go (leb (tail_number n m.test) (largest_tail n (cases_on f ms))) refl (either_true (same_test (ListWithTail k) m.test) (is_met (ListWithTail k) ms) s)
      (λ e. largest_most ms k e l)
    where
      here : same_test (ListWithTail k) m.test ≡ true → tail_number n m.test ≡ suc k
      here a = ap (tail_number n) (sym (same_test_sound (ListWithTail k) m.test a)) ∙ tail_number_of n k l

      go : (b : Bool) → leb (tail_number n m.test) (largest_tail n (cases_on f ms)) ≡ b
          → (same_test (ListWithTail k) m.test ≡ true) ⊎ (is_met (ListWithTail k) ms ≡ true)
          → (is_met (ListWithTail k) ms ≡ true → suc k ≤ largest_tail n (cases_on f ms)) → suc k ≤ largest_tail n (cases_on f (m ∷ ms))
      go true x (inl a) ih = rw (x, largest_tail) (omega (arith, here a, leb-true (tail_number n m.test) (largest_tail n (cases_on f ms)) x))
      go true x (inr b) ih = rw (x, largest_tail) (ih b)
      go false x (inl a) ih = rw (x, largest_tail) (omega (arith, here a))
      go false x (inr b) ih = rw (x, largest_tail) (omega (arith, ih b, leb-false (tail_number n m.test) (largest_tail n (cases_on f ms)) x))

-- ---- a pattern's own case is met
unfoldable pub own_test : Pat → Test
unfolding many
own_test (discard m) = Constr 0
own_test (variable m x) = Constr 0
own_test (assign m x q) = Constr 0
own_test (integer m at w) = Int w
own_test (bytestring m at w) = Bytes w
own_test (listed m qs) = ListOf (many qs)
own_test (tailed m qs q) = ListWithTail (many qs)
own_test (constructor m a qs) = Constr a
own_test (opened m o qs) = Constr 0

own_in_range : (tailless tails : ℕ) (q : Pat) → tailless_length q ≤ tailless → tailed_length q ≤ tails → InRange tailless tails (own_test q)
unfolding own_test tailless_length tailed_length
own_in_range tailless tails (discard m) l h = tt
own_in_range tailless tails (variable m x) l h = tt
own_in_range tailless tails (assign m x q) l h = tt
own_in_range tailless tails (integer m at w) l h = tt
own_in_range tailless tails (bytestring m at w) l h = tt
own_in_range tailless tails (listed m qs) l h = l
own_in_range tailless tails (tailed m qs q) l h = h
own_in_range tailless tails (constructor m a qs) l h = tt
own_in_range tailless tails (opened m o qs) l h = tt

covers_own : (q : Pat) → is_test q ≡ true → covers q (own_test q) ≡ true
unfolding own_test covers is_test
covers_own (discard m) i = i
covers_own (variable m x) i = i
covers_own (assign m x q) i = i
covers_own (integer m at w) i = same_test_refl (Int w)
covers_own (bytestring m at w) i = same_test_refl (Bytes w)
covers_own (listed m qs) i = same_test_refl (ListOf (many qs))
covers_own (tailed m qs q) i = le-leb (many qs) (many qs) (omega arith)
covers_own (constructor m a qs) i = same_test_refl (Constr a)
covers_own (opened m o qs) i = i

covers_any : (qs : List Pat) → All (λ q. (t : Test) → covers q t ≡ true → any_covers t qs ≡ true) qs
unfolding any_covers
covers_any [] = tt
covers_any (q ∷ qs) = (
  λ t e. either_first_true (covers q t) (any_covers t qs) e,
  all_map (λ z. (t : Test) → covers z t ≡ true → any_covers t qs ≡ true) (λ z. (t : Test) → covers z t ≡ true → any_covers t (q ∷ qs) ≡ true)
      (λ z h t e. either_second_true (covers q t) (any_covers t qs) (h t e)) qs (covers_any qs),
)

abbrev OwnMet : List Pat → Pat → Type 0
OwnMet qs q = is_met (own_test q) (cases_of qs) ≡ true

pub own_met : (qs : List Pat) → All (λ q. is_test q ≡ true) qs → All (OwnMet qs) qs
own_met qs i =
    all_both (λ q. (is_test q ≡ true) × (tailless_length q ≤ longest tailless_length qs)) (λ q. (tailed_length q ≤ longest tailed_length qs) × ((t : Test) → covers q t ≡ true → any_covers t qs ≡ true)) (OwnMet qs)
    (λ q (a, b) (c, d). cases_of_covers (own_test q) qs (own_in_range (longest tailless_length qs) (longest tailed_length qs) q b c) ∙ d (own_test q) (covers_own q a)) qs
    (all_both (λ q. is_test q ≡ true) (λ q. tailless_length q ≤ longest tailless_length qs) (λ q. (is_test q ≡ true) × (tailless_length q ≤ longest tailless_length qs)) (λ q a b. (a, b)) qs i (longest_bounds tailless_length qs))
    (all_both (λ q. tailed_length q ≤ longest tailed_length qs) (λ q. (t : Test) → covers q t ≡ true → any_covers t qs ≡ true)
    (λ q. (tailed_length q ≤ longest tailed_length qs) × ((t : Test) → covers q t ≡ true → any_covers t qs ≡ true)) (λ q a b. (a, b)) qs (longest_bounds tailed_length qs) (covers_any qs))

-- ---- the patterns that suit one part are of one kind
module _ (v : List ℕ) (x : Position) where
  is_list_kind : (q : Pat) → Suited v x q → is_list q ≡ eqb (record_kind v x.place) list_record
  unfolding is_list is_test Suits
  is_list_kind (discard m) (i, s) = absurd (false≢true i)
  is_list_kind (variable m name) (i, s) = absurd (false≢true i)
  is_list_kind (assign m name q) (i, s) = absurd (false≢true i)
  is_list_kind (integer m at w) (i, s) = rw s
  is_list_kind (bytestring m at w) (i, s) = rw s
  is_list_kind (listed m qs) (i, s) = rw s.0
  is_list_kind (tailed m qs q) (i, s) = rw s.0
  is_list_kind (constructor m a qs) (i, s) = rw s.0
  is_list_kind (opened m o qs) (i, s) = absurd (false≢true i)

  has_list_kind : (q : Pat) (qs : List Pat) → All (Suited v x) (q ∷ qs) → has_list (q ∷ qs) ≡ eqb (record_kind v x.place) list_record
  unfolding has_list
  has_list_kind q [] g = either_none (is_list q) ∙ is_list_kind q g.0
  has_list_kind q (z ∷ qs) g = ap₂ either (is_list_kind q g.0) (has_list_kind z qs g.1) ∙ twice (eqb (record_kind v x.place) list_record)
    where
      twice : (b : Bool) → either b b ≡ b
      twice true = refl
      twice false = refl

  -- ---- a part that is no list shows one test
  shown_by : Pat → Test
  shown_by (discard m) = Constr 0
  shown_by (variable m name) = Constr 0
  shown_by (assign m name q) = Constr 0
  shown_by (integer m at w) = Int (record_text v x.place)
  shown_by (bytestring m at w) = Bytes (record_text v x.place)
  shown_by (listed m qs) = Constr 0
  shown_by (tailed m qs q) = Constr 0
  shown_by (constructor m a qs) = Constr (record_a v x.place)
  shown_by (opened m o qs) = Constr 0

  abbrev Plain : Pat → Type 0
  Plain q = Suited v x q × (is_list q ≡ false)

  shown_by_lem : (q : Pat) → Plain q → shown_at v x ≡ some (shown_by q)
  unfolding is_list is_test Suits shown_by shown_at
  shown_by_lem (discard m) ((i, s), l) = absurd (false≢true i)
  shown_by_lem (variable m name) ((i, s), l) = absurd (false≢true i)
  shown_by_lem (assign m name q) ((i, s), l) = absurd (false≢true i)
  shown_by_lem (integer m at w) ((i, s), l) = rw s
  shown_by_lem (bytestring m at w) ((i, s), l) = rw s
  shown_by_lem (listed m qs) ((i, s), l) = absurd (true≢false l)
  shown_by_lem (tailed m qs q) ((i, s), l) = absurd (true≢false l)
  shown_by_lem (constructor m a qs) ((i, s), l) = rw s.0
  shown_by_lem (opened m o qs) ((i, s), l) = absurd (false≢true i)

  covers_shown_by : (q : Pat) → Plain q → covers q (shown_by q) ≡ head_holds v q x
  unfolding is_list is_test shown_by covers head_holds same_test
  covers_shown_by (discard m) ((i, s), l) = refl
  covers_shown_by (variable m name) ((i, s), l) = refl
  covers_shown_by (assign m name q) ((i, s), l) = refl
  covers_shown_by (integer m at w) ((i, s), l) = refl
  covers_shown_by (bytestring m at w) ((i, s), l) = refl
  covers_shown_by (listed m qs) ((i, s), l) = absurd (true≢false l)
  covers_shown_by (tailed m qs q) ((i, s), l) = absurd (true≢false l)
  covers_shown_by (constructor m a qs) ((i, s), l) = both_end (eqb (record_a v x.place) a)
  covers_shown_by (opened m o qs) ((i, s), l) = refl

  covers_kind : (q : Pat) (u : Test) → Plain q → covers q u ≡ true → test_kind u ≡ test_kind (shown_by q)
  unfolding is_list is_test shown_by covers test_kind
  covers_kind (discard m) u ((i, s), l) c = absurd (false≢true i)
  covers_kind (variable m name) u ((i, s), l) c = absurd (false≢true i)
  covers_kind (assign m name q) u ((i, s), l) c = absurd (false≢true i)
  covers_kind (integer m at w) u ((i, s), l) c = ap test_kind (same_test_sound u (Int w) c)
  covers_kind (bytestring m at w) u ((i, s), l) c = ap test_kind (same_test_sound u (Bytes w) c)
  covers_kind (listed m qs) u ((i, s), l) c = absurd (true≢false l)
  covers_kind (tailed m qs q) u ((i, s), l) c = absurd (true≢false l)
  covers_kind (constructor m a qs) u ((i, s), l) c = ap test_kind (same_test_sound u (Constr a) c)
  covers_kind (opened m o qs) u ((i, s), l) c = absurd (false≢true i)

  shown_in_range : (tailless tails : ℕ) (q : Pat) → InRange tailless tails (shown_by q)
  unfolding shown_by
  shown_in_range tailless tails (discard m) = tt
  shown_in_range tailless tails (variable m name) = tt
  shown_in_range tailless tails (assign m name q) = tt
  shown_in_range tailless tails (integer m at w) = tt
  shown_in_range tailless tails (bytestring m at w) = tt
  shown_in_range tailless tails (listed m qs) = tt
  shown_in_range tailless tails (tailed m qs q) = tt
  shown_in_range tailless tails (constructor m a qs) = tt
  shown_in_range tailless tails (opened m o qs) = tt

  same_shown : (q z : Pat) → Plain q → Plain z → shown_by q ≡ shown_by z
  same_shown q z a b = same_test_lem (shown_by q) (shown_by z) (sym (shown_by_lem q a) ∙ shown_by_lem z b)
    where
      same_test_lem : (t u : Test) → ◌≡◌ {A = Option Test} (some t) (some u) → t ≡ u
      same_test_lem t u e = cc

  covers_shown : (t : Test) (q : Pat) → shown_at v x ≡ some t → Plain q → covers q t ≡ head_holds v q x
  covers_shown t q e a = ap (covers q) (same_test_lem t (shown_by q) (sym e ∙ shown_by_lem q a)) ∙ covers_shown_by q a
    where
      same_test_lem : (t u : Test) → ◌≡◌ {A = Option Test} (some t) (some u) → t ≡ u
      same_test_lem t u e = cc

  any_kind : (z : Pat) (u : Test) (qs : List Pat) → Plain z → All Plain qs → any_covers u qs ≡ true → test_kind u ≡ test_kind (shown_by z)
  unfolding any_covers
  any_kind z u [] b g e = absurd (false≢true e)
  any_kind z u (q ∷ qs) b g e = go (either_true (covers q u) (any_covers u qs) e) (any_kind z u qs b g.1)
    where
      go : (covers q u ≡ true) ⊎ (any_covers u qs ≡ true) → (any_covers u qs ≡ true → test_kind u ≡ test_kind (shown_by z)) → test_kind u ≡ test_kind (shown_by z)
      go (inl c) ih = covers_kind q u g.0 c ∙ ap test_kind (same_shown q z g.0 b)
      go (inr c) ih = ih c

  -- a list has a length
  list_length : record_kind v x.place ≡ list_record → length_at v x ≡ some (elements v x)
  unfolding length_at elements
  list_length e = rw e

  abbrev Listed : Pat → Type 0
  Listed q = Suited v x q × (is_list q ≡ true)

  covers_exact : (q : Pat) → Listed q → covers q (ListOf (elements v x)) ≡ head_holds v q x
  unfolding is_list covers head_holds same_test
  covers_exact (discard m) (s, l) = absurd (false≢true l)
  covers_exact (variable m name) (s, l) = absurd (false≢true l)
  covers_exact (assign m name q) (s, l) = absurd (false≢true l)
  covers_exact (integer m at w) (s, l) = absurd (false≢true l)
  covers_exact (bytestring m at w) (s, l) = absurd (false≢true l)
  covers_exact (listed m qs) (s, l) = both_end (eqb (elements v x) (many qs))
  covers_exact (tailed m qs q) (s, l) = refl
  covers_exact (constructor m a qs) (s, l) = absurd (false≢true l)
  covers_exact (opened m o qs) (s, l) = absurd (false≢true l)

  -- no case of the exact length
  module _ (ms : List Met) (none_exact : is_met (ListOf (elements v x)) ms ≡ false) where
    not_exact : (m : Mark) (qs : Pats) → is_met (own_test (listed m qs)) ms ≡ true → eqb (elements v x) (many qs) ≡ false
    unfolding own_test
    not_exact m qs o =
        not_true_false (eqb (elements v x) (many qs))
        (λ e. true≢false (sym o ∙ ap (λ n. is_met (ListOf n) ms) (sym (eqb-true (elements v x) (many qs) e)) ∙ none_exact))

    covers_tail : (k : ℕ) → k ≤ elements v x → ((j : ℕ) → is_met (ListWithTail j) ms ≡ true → j ≤ elements v x → j ≤ k)
        → (q : Pat) → Listed q → is_met (own_test q) ms ≡ true → covers q (ListWithTail k) ≡ head_holds v q x
    unfolding is_list covers head_holds same_test own_test
    covers_tail k l most (discard m) (s, i) o = absurd (false≢true i)
    covers_tail k l most (variable m name) (s, i) o = absurd (false≢true i)
    covers_tail k l most (assign m name q) (s, i) o = absurd (false≢true i)
    covers_tail k l most (integer m at w) (s, i) o = absurd (false≢true i)
    covers_tail k l most (bytestring m at w) (s, i) o = absurd (false≢true i)
    covers_tail k l most (listed m qs) (s, i) o = sym (not_exact m qs o)
    covers_tail k l most (tailed m qs q) (s, i) o = go (leb (many qs) (elements v x)) refl
      where
        go : (b : Bool) → leb (many qs) (elements v x) ≡ b → leb (many qs) k ≡ b
        go true e = le-leb (many qs) k (most (many qs) o (leb-true (many qs) (elements v x) e))
        go false e = lt-leb (many qs) k (omega (arith, leb-false (many qs) (elements v x) e))
    covers_tail k l most (constructor m a qs) (s, i) o = absurd (false≢true i)
    covers_tail k l most (opened m w qs) (s, i) o = absurd (false≢true i)

    none_passes : ((j : ℕ) → is_met (ListWithTail j) ms ≡ true → j ≤ elements v x → ⊥) → (q : Pat) → Listed q → is_met (own_test q) ms ≡ true → head_holds v q x ≡ false
    unfolding is_list head_holds own_test
    none_passes above (discard m) (s, i) o = refl
    none_passes above (variable m name) (s, i) o = refl
    none_passes above (assign m name q) (s, i) o = refl
    none_passes above (integer m at w) (s, i) o = absurd (false≢true i)
    none_passes above (bytestring m at w) (s, i) o = absurd (false≢true i)
    none_passes above (listed m qs) (s, i) o = not_exact m qs o
    none_passes above (tailed m qs q) (s, i) o = not_true_false (leb (many qs) (elements v x)) (λ e. above (many qs) o (leb-true (many qs) (elements v x) e))
    none_passes above (constructor m a qs) (s, i) o = absurd (false≢true i)
    none_passes above (opened m w qs) (s, i) o = refl

-- ---- a switch on the column with the patterns q₀ ∷ rest at p, which leads to x
module _ (v : List ℕ) (p : Path) (x : Position) (found : follow v p panel_root ≡ some x) (answer : Walked) (f : Test → Tree) (d : Tree)
    (q₀ : Pat) (rest : List Pat) (suited : All (Suited v x) (q₀ ∷ rest))
    (to_case : (t : Test) → is_met t (cases_of (q₀ ∷ rest)) ≡ true → All (λ q. covers q t ≡ head_holds v q x) (q₀ ∷ rest) → Alike (walk (f t) v) answer)
    (to_default : All (λ q. head_holds v q x ≡ false) (q₀ ∷ rest) → Alike (walk d v) answer) where
  abbrev qs : List Pat
  qs = q₀ ∷ rest

  abbrev cases : List Met
  cases = cases_of qs

  owns : All (OwnMet qs) qs
  owns = own_met qs (all_map (Suited v x) (λ q. is_test q ≡ true) (λ q s. s.0) qs suited)

  -- of a part that is no list
  module _ (not_list : eqb (record_kind v x.place) list_record ≡ false) where
    plain : All (Plain v x) qs
    plain = all_map (Suited v x) (Plain v x) (λ q s. (s, is_list_kind v x q s ∙ not_list)) qs suited

    abbrev t₀ : Test
    t₀ = shown_by v x q₀

    shows : shown_at v x ≡ some t₀
    shows = shown_by_lem v x q₀ plain.0

    kinds : (ms : List Met) → is_met (own_test q₀) ms ≡ true → ((u : Test) → is_met u ms ≡ true → test_kind u ≡ test_kind t₀) → test_kind t₀ ≡ first_kind (cases_on f ms)
    unfolding first_kind cases_on is_met
    kinds [] e h = absurd (false≢true e)
    kinds (m ∷ ms) e h = sym (h m.test (met_here m ms))

    passing : All (λ q. covers q t₀ ≡ head_holds v q x) qs
    passing = all_map (Plain v x) (λ q. covers q t₀ ≡ head_holds v q x) (λ q a. covers_shown v x t₀ q shows a) qs plain

    none_covers : (zs : List Pat) → any_covers t₀ zs ≡ false → All (λ q. covers q t₀ ≡ head_holds v q x) zs → All (λ q. head_holds v q x ≡ false) zs
    unfolding any_covers
    none_covers [] e h = tt
    none_covers (z ∷ zs) e h = let (a, b) = either_false (covers z t₀) (any_covers t₀ zs) e in (sym h.0 ∙ a, none_covers zs b h.1)

    at_switch : Alike (walk (switch p (cases_on f cases) d) v) answer
    at_switch =
        rw (walk_switch v p (cases_on f cases) d x t₀ found shows (kinds cases owns.0 (λ u e. any_kind v x q₀ u qs plain.0 plain (case_covered u qs e))))
        (go (is_met t₀ cases) refl)
      where
        go : (b : Bool) → is_met t₀ cases ≡ b → Alike (walk_cases (cases_on f cases) t₀ v (λ u. walk d v)) answer
        go true e = rw (walk_met v f t₀ cases (λ u. walk d v) e) (to_case t₀ e passing)
        go false e =
            rw (walk_not_met v f t₀ cases (λ u. walk d v) e)
            (to_default (none_covers qs (sym (cases_of_covers t₀ qs (shown_in_range v x (longest tailless_length qs) (longest tailed_length qs) q₀)) ∙ e) passing))

  -- of a list
  module _ (is_list_holds : eqb (record_kind v x.place) list_record ≡ true) where
    abbrev n : ℕ
    n = elements v x

    abbrev exact : List Met
    exact = only is_exact cases

    abbrev tails : List Met
    tails = only is_tail cases

    lists : All (Listed v x) qs
    lists = all_map (Suited v x) (Listed v x) (λ q s. (s, is_list_kind v x q s ∙ is_list_holds)) qs suited

    exact_met : is_met (ListOf n) exact ≡ is_met (ListOf n) cases
    unfolding is_tail
    exact_met = is_met_only is_exact (ListOf n) cases

    tail_met : (k : ℕ) → is_met (ListWithTail k) tails ≡ is_met (ListWithTail k) cases
    unfolding is_tail
    tail_met k = is_met_only is_tail (ListWithTail k) cases

    most : (j : ℕ) → is_met (ListWithTail j) cases ≡ true → j ≤ n → suc j ≤ largest_tail n (cases_on f tails)
    most j e l = largest_most n f tails j (tail_met j ∙ e) l

    at_tails : (k : ℕ) → largest_tail n (cases_on f tails) ≡ k → is_met (ListOf n) cases ≡ false
        → Alike (at_tail k (λ k. walk_cases (cases_on f tails) (ListWithTail k) v (λ u. walk d v)) (λ u. walk d v)) answer
    unfolding at_tail
    at_tails zero e s =
        to_default
        (all_both (Listed v x) (OwnMet qs) (λ q. head_holds v q x ≡ false) (λ q a o. none_passes v x cases s (λ j h l. omega (arith, e, most j h l)) q a o) qs lists owns)
    at_tails (suc k) e s =
        let (a, b) = largest_is n f tails k e in
        rw (walk_met v f (ListWithTail k) tails (λ u. walk d v) a)
        (to_case (ListWithTail k) (sym (tail_met k) ∙ a)
        (all_both (Listed v x) (OwnMet qs) (λ q. covers q (ListWithTail k) ≡ head_holds v q x)
        (λ q c o. covers_tail v x cases s k b (λ j h l. omega (arith, e, most j h l)) q c o) qs lists owns))

    at_listswitch : Alike (walk (listswitch p (cases_on f exact) (cases_on f tails) d) v) answer
    at_listswitch =
        rw (walk_list v p (cases_on f exact) (cases_on f tails) d x n found (list_length v x (eqb-true (record_kind v x.place) list_record is_list_holds)))
        (go (is_met (ListOf n) cases) refl)
      where
        otherwise : Unit {0} → Walked
        otherwise u = at_tail (largest_tail n (cases_on f tails)) (λ k. walk_cases (cases_on f tails) (ListWithTail k) v (λ u. walk d v)) (λ u. walk d v)

        go : (b : Bool) → is_met (ListOf n) cases ≡ b → Alike (walk_cases (cases_on f exact) (ListOf n) v otherwise) answer
        go true e =
            rw (walk_met v f (ListOf n) exact otherwise (exact_met ∙ e))
            (to_case (ListOf n) e (all_map (Listed v x) (λ q. covers q (ListOf n) ≡ head_holds v q x) (covers_exact v x) qs lists))
        go false e = rw (walk_not_met v f (ListOf n) exact otherwise (exact_met ∙ e)) (at_tails (largest_tail n (cases_on f tails)) refl e)

  -- LEMMA: a switch goes to the case that holds, or to the default where no pattern of the column passes
  pub at_node : Alike (walk (node_on p qs f d) v) answer
  unfolding node_on
  at_node = go (eqb (record_kind v x.place) list_record) refl
    where
      go : (b : Bool) → eqb (record_kind v x.place) list_record ≡ b → Alike (walk (node_on p qs f d) v) answer
      go true e = rw (has_list_kind v x q₀ rest suited, e, node_on) (at_listswitch e)
      go false e = rw (has_list_kind v x q₀ rest suited, e, node_on) (at_switch e)
