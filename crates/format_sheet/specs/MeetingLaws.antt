-- The laws of meeting things: one turn, a run, and the tally of a loop.
-- Rests on the laws of `every` and `times` in spec_rules and on those of a list after a store.
use Rattle.std.proofs.Math.Path.{◌≡◌, refl}
use Rattle.std.proofs.Common.{ap, sym, ◌∙◌, arith, length-set, get_or-set_same, get_or-set_other}
use Rattle.std.specs.Prelude.{Bool, List, ℕ, ◌+◌, ◌-◌, ◌≤◌, ◌<◌, eqb, leb, ltb, length, get_or, set, replicate}
use Rattle.std.proofs.Math.Bool.{true, false}
use Rattle.std.proofs.Math.Nat.{sub-zero}
use borrow.Author.Tests.{eqb-true, eqb-false, leb-true, leb-false, ltb-true, ltb-false, le-leb, lt-leb, lt-ltb, le-ltb}
use Rattle.std.proofs.lemmas.List.{length-replicate, get_or-replicate}
use Rattle.std.proofs.Math.ListN.{get_or-eq_default}
use Rattle.base_words.specs.Words.{both, pick}
use Rattle.spec_rules.specs.Limits.{patterns_most}
use Rattle.spec_rules.specs.Searching.{times}
use Rattle.spec_rules.specs.SearchingLaws.{every_true, times_yes, times_no, times_end, times_most}
use Rattle.format_sheet.specs.Meeting.{none_met, among, Meets, NoneMet, Tally}

-- ---- among
module _ (i n k : ℕ) where
  pub among_in : i ≤ k → k < i + n → among i n k ≡ 1
  unfolding among
  among_in a b = rw (le-leb i k a, lt-ltb k (i + n) b)

  pub among_below : k < i → among i n k ≡ 0
  unfolding among
  among_below a = rw (lt-leb i k a)

  pub among_past : i + n ≤ k → among i n k ≡ 0
  unfolding among
  among_past a = go (leb i k)
    where
      go : (b : Bool) → ◌≡◌ {A = ℕ} (pick (both b (ltb k (i + n))) 1 0) 0
      go true = rw (le-ltb k (i + n) a)
      go false = refl

-- below, among, or past
by_cases : (i n k : ℕ) (P : ℕ → Type 0) → (k < i → P 0) → (i ≤ k → k < i + n → P 1) → (i + n ≤ k → P 0) → P (among i n k)
by_cases i n k P below inside past = go (leb i k) refl (ltb k (i + n)) refl
  where
    go : (a : Bool) → leb i k ≡ a → (b : Bool) → ltb k (i + n) ≡ b → P (among i n k)
    go true x true y = rw (among_in i n k (leb-true _ _ x) (ltb-true _ _ y)) (inside (leb-true _ _ x) (ltb-true _ _ y))
    go true x false y = rw (among_past i n k (ltb-false _ _ y)) (past (ltb-false _ _ y))
    go false x b y = rw (among_below i n k (leb-false _ _ x)) (below (leb-false _ _ x))

pub among_more : (i n k : ℕ) → among i (n + 1) k ≡ among i n k + among (i + n) 1 k
among_more i n k =
    by_cases i (n + 1) k (λ x. x ≡ among i n k + among (i + n) 1 k)
    (λ below. omega (arith, among_below i n k below, among_below (i + n) 1 k (omega arith)))
    (λ low high. by_cases i n k (λ x. 1 ≡ x + among (i + n) 1 k)
    (λ below. absurd (omega arith))
    (λ l h. omega (arith, among_below (i + n) 1 k h))
    (λ past. omega (arith, among_in (i + n) 1 k past (omega arith))))
    (λ past. omega (arith, among_past i n k (omega arith), among_past (i + n) 1 k (omega arith)))

pub among_one : (i k : ℕ) → among i 1 k ≡ pick (eqb i k) 1 0
among_one i k = go (eqb i k) refl
  where
    go : (b : Bool) → eqb i k ≡ b → among i 1 k ≡ pick b 1 0
    go true x = let e = eqb-true i k x in among_in i 1 k (omega arith) (omega arith)
    go false x =
        let d = eqb-false i k x in
        by_cases i 1 k (λ y. y ≡ 0) (λ below. refl) (λ low high. absurd (d (omega arith))) (λ past. refl)

-- ---- meeting
module _ (l : List ℕ) where
  pub meets_one : (i : ℕ) → i < length l → Meets i 1 l (set l i (get_or l i 0 + 1))
  meets_one i h = record { kept = length-set l i (get_or l i 0 + 1); met = λ k. go k (eqb i k) refl }
    where
      go : (k : ℕ) (b : Bool) → eqb i k ≡ b → get_or (set l i (get_or l i 0 + 1)) k 0 ≡ get_or l k 0 + among i 1 k
      go k true x =
          let e = eqb-true i k x in
          let a : among i 1 k ≡ 1 = among_one i k ∙ ap (λ (y : Bool). pick y 1 0) x in
          rw (a, ← e) (get_or-set_same l i (get_or l i 0 + 1) 0 h)
      go k false x =
          let a : among i 1 k ≡ 0 = among_one i k ∙ ap (λ (y : Bool). pick y 1 0) x in
          rw a (get_or-set_other l i k (get_or l i 0 + 1) 0 (λ e. eqb-false i k x (sym e)) ∙ omega arith)

  pub meets_none : (i : ℕ) → Meets i 0 l l
  meets_none i = record { kept = refl; met = λ k. by_cases i 0 k (λ x. get_or l k 0 ≡ get_or l k 0 + x) (λ h. omega arith) (λ a b. absurd (omega arith)) (λ h. omega arith) }

pub meets_more : (i n : ℕ) {a b c : List ℕ} → Meets i n a b → Meets (i + n) 1 b c → Meets i (n + 1) a c
meets_more i n {a} {b} {c} f g = record {
  kept = g.kept ∙ f.kept;
  met = λ k. let x = f.met k in let y = g.met k in let z = among_more i n k in omega arith;
}

-- what was not met is there to be met once
pub room_to_meet : (i n j : ℕ) {a b : List ℕ} → none_met a i n ≡ true → j < n → Meets i j a b → get_or b (i + j) 0 < 255
unfolding none_met
room_to_meet i n j {a} {b} none h f =
    let x : get_or a (i + j) 0 ≡ 0 = eqb-true _ _ (every_true (λ k. eqb (get_or a k 0) 0) i n none (i + j) (omega arith) (omega arith)) in
    let y = f.met (i + j) in
    let z = among_past i j (i + j) (omega arith) in
    omega arith

pub none_of_zeros : NoneMet (replicate patterns_most 0)
none_of_zeros = record { long = length-replicate {A = ℕ} patterns_most 0; none_met_holds = λ k. go k (ltb k patterns_most) refl }
  where
    go : (k : ℕ) (b : Bool) → ltb k patterns_most ≡ b → ◌≡◌ {A = ℕ} (get_or (replicate patterns_most 0) k 0) 0
    go k true x = get_or-replicate patterns_most k 0 0 (ltb-true k patterns_most x)
    go k false x = get_or-eq_default (replicate patterns_most 0) 0 (ltb-false k patterns_most x)

-- ---- the tally of a loop
module _ (meets : ℕ → ℕ → Bool) (base : ℕ → ℕ) (n : ℕ) where
  pub tally_begins : {l : List ℕ} → length l ≡ patterns_most → ((k : ℕ) → get_or l k 0 ≡ base k) → Tally meets base n 0 l
  tally_begins {l} long h = record { long = long; tally = λ k. rw (sub-zero n) (omega (arith, h k)) }

  -- one turn of `times`
  times_turn : (k c : ℕ) → c < n → times (meets k) c (n - c) ≡ pick (meets k c) 1 0 + times (meets k) (c + 1) (n - (c + 1))
  times_turn k c h = go (meets k c) refl
    where
      go : (b : Bool) → meets k c ≡ b → times (meets k) c (n - c) ≡ pick b 1 0 + times (meets k) (c + 1) (n - (c + 1))
      go true x = omega (arith, times_yes (meets k) c n h x)
      go false x = omega (arith, times_no (meets k) c n h x)

  pub tally_goes_on : (c i w : ℕ) {l l' : List ℕ} → c < n → Tally meets base n c l → Meets i w l l'
      → ((k : ℕ) → among i w k ≡ pick (meets k c) 1 0) → Tally meets base n (c + 1) l'
  tally_goes_on c i w h t f same = record {
    long = f.kept ∙ t.long;
    tally = λ k. omega (arith, t.tally k, f.met k, same k, times_turn k c h);
  }

  pub tally_ends : (c : ℕ) {l : List ℕ} → n ≤ c → Tally meets base n c l → (k : ℕ) → get_or l k 0 ≡ base k + times (meets k) 0 n
  tally_ends c h t k = omega (arith, t.tally k, times_end (meets k) c n h)

  pub tally_most : (c k : ℕ) {l : List ℕ} → Tally meets base n c l → get_or l k 0 ≤ base k + n
  tally_most c k t = omega (arith, t.tally k, times_most (meets k) 0 n)
