-- What the pass over a panel's records and parts knows on its way: the record Good, kept by each part and each record that enters.
-- Rests on the steps of the pass, and on what the crate spec_accepted has of a part in a list.
use Rattle.std.specs.Prelude.{◌≡◌, ◌⊎◌, Bool, List, eqb, ltb, set}
use Rattle.std.proofs.Math.Path.{refl, ap}
use Rattle.std.proofs.Common.{sym, ◌∙◌, inl, inr, ⊎_elim, true≢false, ltb-true, eqb-true, lt-ltb, get_or-set_same}
use Rattle.std.proofs.Math.Bool.{true, false}
use Prim.Native.Nat.{ℕ, zero, suc, ◌+◌, ◌-◌, ◌≤◌, ◌<◌}
use native.Mathlib.Omega.{arith}
use Rattle.std.proofs.Math.ListN.{length, get_or, length-set}
use Rattle.std.proofs.Math.Seq.{get_or-set_other}
use Rattle.base_words.specs.Words.{pick}
use Rattle.base_words.specs.WordsLaws.{both_true}
use Rattle.spec_rules.specs.Limits.{records_most, panel_depth_most}
use Rattle.spec_rules.specs.PanelFile.{records, record_first, record_count, part, is_higher, record_within}
use Rattle.spec_accepted.specs.PanelFacts.{Holds, record_within_part}
use Rattle.format_parts.specs.Sums.{sum}
use Rattle.format_panel.specs.CountingLaws.{same_or_not, sum_next, sum_grows}
use Rattle.format_panel.specs.Shape.{Seen, fields_fit, enters_first, enter_part, enter_parts, record_met, enter_record, enter_records}
use Rattle.format_panel.specs.ShapeLaws.{listed, parts_on, parts_stop, records_on, records_stop, higher_true}

-- how many entries the list of record r has
abbrev pub entries : List ℕ → ℕ → ℕ
entries v r = pick (listed v r) (record_count v r) 0

-- entry j' of record r' comes before entry j of record r
pub record Passed (v : List ℕ) (r j r' j' : ℕ) : Type 0 where
  pub held : Holds v r' j'
  pub before : (r' < r) ⊎ ((r' ≡ r) × (j' < j))

-- record p is the part at an entry that was passed
pub record Met (v : List ℕ) (r j p : ℕ) : Type 0 where
  pub owner : ℕ
  pub entry : ℕ
  pub passed : Passed v r j owner entry
  pub is : part v entry ≡ p

-- a part that was passed is higher than its owner, and one deeper
pub record Deeper (v : List ℕ) (D : ℕ → ℕ) (r' j' : ℕ) : Type 0 where
  pub higher : r' < part v j'
  pub inside : part v j' < records v
  pub some : 1 ≤ D r'
  pub deeper : D (part v j') ≡ D r' + 1

-- how many records have a depth
abbrev pub met : (ℕ → ℕ) → ℕ → ℕ
met D n = sum (λ p. pick (ltb 0 (D p)) 1 0) 0 n

-- before entry j of record r, with depth D p for each record p that was met, 0 for the others, and c parts passed
pub record Good (v : List ℕ) (r j c : ℕ) (D : ℕ → ℕ) : Type 0 where
  pub root : D 0 ≡ 1
  pub most : (p : ℕ) → D p ≤ panel_depth_most
  pub came : (p : ℕ) → 1 ≤ D p → (p ≡ 0) ⊎ Met v r j p
  pub marked : (r' j' : ℕ) → Passed v r j r' j' → Deeper v D r' j'
  pub alone : (r₁ j₁ r₂ j₂ : ℕ) → Passed v r j r₁ j₁ → Passed v r j r₂ j₂ → part v j₁ ≡ part v j₂ → (r₁ ≡ r₂) × (j₁ ≡ j₂)
  pub done : (r' : ℕ) → r' < r → (1 ≤ D r') × (fields_fit v r' ≡ true)
  pub reach : record_within panel_depth_most v 0 ≡ true → (p : ℕ) → 1 ≤ D p → record_within (panel_depth_most + 1 - D p) v p ≡ true
  pub many : met D (records v) ≡ c + 1

module _ (v : List ℕ) where
  passed_on : {r j r' j' : ℕ} → Passed v r j r' j' → Passed v r (j + 1) r' j'
  passed_on p = record { held = p.held; before = ⊎_elim (λ a. inl a) (λ b. inr (b.0, omega (arith, b.1))) p.before }

  met_on : {r j p : ℕ} → Met v r j p → Met v r (j + 1) p
  met_on m = record { owner = m.owner; entry = m.entry; passed = passed_on m.passed; is = m.is }

  -- what was passed before the next entry: what was passed before, or this entry
  passed_split : (r j r' j' : ℕ) → Passed v r (j + 1) r' j' → Passed v r j r' j' ⊎ ((r' ≡ r) × (j' ≡ j))
  passed_split r j r' j' p = ⊎_elim (λ a. inl (record { held = p.held; before = inl a })) here p.before
    where
      here : (r' ≡ r) × (j' < j + 1) → Passed v r j r' j' ⊎ ((r' ≡ r) × (j' ≡ j))
      here b =
          ⊎_elim (λ e. inr (b.0, e)) (λ d. inl (record { held = p.held; before = inr (b.0, omega (arith, b.1)) })) (same_or_not j' j)

-- ---- one entry
module _ (v : List ℕ) (r j c : ℕ) (D E : ℕ → ℕ) (good : Good v r j c D) (held : Holds v r j) (some : 1 ≤ D r)
    (low : r < part v j) (high : part v j < records v) (new : D (part v j) ≡ 0) (shallow : D r < panel_depth_most)
    (here : E (part v j) ≡ D r + 1) (there : (p : ℕ) → (p ≡ part v j → ⊥) → E p ≡ D p) where
  -- a record with a depth is not the part that enters
  kept : (p : ℕ) → 1 ≤ D p → E p ≡ D p
  kept p h = there p (λ e. let d : D p ≡ D (part v j) = ap D e in omega arith)

  enter_came : (p : ℕ) → 1 ≤ E p → (p ≡ 0) ⊎ Met v r (j + 1) p
  enter_came p h = ⊎_elim is_new is_old (same_or_not p (part v j))
    where
      is_new : p ≡ part v j → (p ≡ 0) ⊎ Met v r (j + 1) p
      is_new e = inr (record { owner = r; entry = j; passed = record { held = held; before = inr (refl, omega arith) }; is = sym e })

      is_old : (p ≡ part v j → ⊥) → (p ≡ 0) ⊎ Met v r (j + 1) p
      is_old d = let same = there p d in ⊎_elim (λ e. inl e) (λ m. inr (met_on v m)) (good.came p (omega arith))

  enter_marked_old : (r' j' : ℕ) → Passed v r j r' j' → Deeper v E r' j'
  enter_marked_old r' j' p =
      let d = good.marked r' j' p in
      let a = kept r' d.some in
      let b = kept (part v j') (omega (arith, d.deeper)) in
      record { higher = d.higher; inside = d.inside; some = omega (arith, d.some); deeper = b ∙ d.deeper ∙ ap (λ (x : ℕ). x + 1) (sym a) }

  enter_marked_new : Deeper v E r j
  enter_marked_new =
      let a = kept r some in
      record { higher = low; inside = high; some = omega arith; deeper = here ∙ ap (λ (x : ℕ). x + 1) (sym a) }

  enter_marked : (r' j' : ℕ) → Passed v r (j + 1) r' j' → Deeper v E r' j'
  enter_marked r' j' p =
      ⊎_elim (enter_marked_old r' j') (λ e. rw (e.0, e.1) enter_marked_new) (passed_split v r j r' j' p)

  -- a part that was passed before is not the part that enters
  not_passed : (r' j' : ℕ) → Passed v r j r' j' → part v j' ≡ part v j → ⊥
  not_passed r' j' p e = let d = good.marked r' j' p in let z : D (part v j') ≡ D (part v j) = ap D e in omega (arith, d.deeper)

  enter_alone : (r₁ j₁ r₂ j₂ : ℕ) → Passed v r (j + 1) r₁ j₁ → Passed v r (j + 1) r₂ j₂ → part v j₁ ≡ part v j₂ → (r₁ ≡ r₂) × (j₁ ≡ j₂)
  enter_alone r₁ j₁ r₂ j₂ p₁ p₂ e = go (passed_split v r j r₁ j₁ p₁) (passed_split v r j r₂ j₂ p₂)
    where
      go : Passed v r j r₁ j₁ ⊎ ((r₁ ≡ r) × (j₁ ≡ j)) → Passed v r j r₂ j₂ ⊎ ((r₂ ≡ r) × (j₂ ≡ j)) → (r₁ ≡ r₂) × (j₁ ≡ j₂)
      go (inl a) (inl b) = good.alone r₁ j₁ r₂ j₂ a b e
      go (inl a) (inr b) = absurd (not_passed r₁ j₁ a (e ∙ ap (part v) b.1))
      go (inr a) (inl b) = absurd (not_passed r₂ j₂ b (sym e ∙ ap (part v) a.1))
      go (inr a) (inr b) = (a.0 ∙ sym b.0, a.1 ∙ sym b.1)

  enter_reach : record_within panel_depth_most v 0 ≡ true → (p : ℕ) → 1 ≤ E p → record_within (panel_depth_most + 1 - E p) v p ≡ true
  enter_reach w p h = ⊎_elim is_new is_old (same_or_not p (part v j))
    where
      deep : record_within (panel_depth_most - D r) v (part v j) ≡ true
      deep =
          let e : panel_depth_most + 1 - D r ≡ suc (panel_depth_most - D r) = omega arith in
          record_within_part v (panel_depth_most - D r) r j (rw e at (good.reach w r some)) held

      is_new : p ≡ part v j → record_within (panel_depth_most + 1 - E p) v p ≡ true
      is_new e =
          let f : panel_depth_most + 1 - (D r + 1) ≡ panel_depth_most - D r = omega arith in
          rw (e, here, f) deep

      is_old : (p ≡ part v j → ⊥) → record_within (panel_depth_most + 1 - E p) v p ≡ true
      is_old d = let same = there p d in rw same (good.reach w p (omega arith))

  enter_most : (p : ℕ) → E p ≤ panel_depth_most
  enter_most p =
      ⊎_elim (λ e. let d : E p ≡ E (part v j) = ap E e in omega arith) (λ d. omega (arith, there p d, good.most p)) (same_or_not p (part v j))

  enter_many : met E (records v) ≡ c + 1 + 1
  enter_many =
      sum_grows (λ p. pick (ltb 0 (D p)) 1 0) (λ p. pick (ltb 0 (E p)) 1 0) 0 (records v) (part v j) (omega arith) (omega arith)
      (rw (here, new, lt-ltb 0 (D r + 1) (omega arith)) refl)
      (λ p d. rw (there p d) refl)
      ∙ ap (λ (x : ℕ). x + 1) good.many

  pub enter_good : Good v r (j + 1) (c + 1) E
  enter_good = record {
    root = kept 0 (omega (arith, good.root)) ∙ good.root;
    most = enter_most;
    came = enter_came;
    marked = enter_marked;
    alone = enter_alone;
    done = λ r' l. let d = good.done r' l in (rw (kept r' d.0) d.0, d.1);
    reach = enter_reach;
    many = enter_many;
  }

-- ---- the entries of a record
-- the depth that the pass has for each record
abbrev pub depth_of : Seen → ℕ → ℕ
depth_of s p = get_or s.depths p 0

-- what the pass knows, with the list that holds the depths
pub record Sound (v : List ℕ) (r j c : ℕ) (s : Seen) : Type 0 where
  pub sound : s.sound ≡ true
  pub long : length s.depths ≡ records_most
  pub good : Good v r j c (depth_of s)

module _ (v : List ℕ) (few : records v ≤ records_most) where
  enters_true : (s : Seen) (r j c : ℕ) → Sound v r j c s → Holds v r j → 1 ≤ depth_of s r → enters_first v s.depths r j ≡ true
      → Sound v r (j + 1) (c + 1) (enter_part v s r j)
  unfolding enter_part enters_first
  enters_true s r j c sd held some h =
      let a = both_true (is_higher v r j) _ h in
      let b = both_true (eqb (depth_of s (part v j)) 0) _ a.1 in
      let up = higher_true v r j a.0 in
      let p = part v j in
      let long : p < length s.depths = omega (arith, sd.long) in
      rw h
      (record {
        sound = sd.sound;
        long = length-set s.depths p (depth_of s r + 1) ∙ sd.long;
        good = enter_good v r j c (depth_of s) (λ q. get_or (set s.depths p (depth_of s r + 1)) q 0) sd.good held some up.0 up.1
            (eqb-true _ _ b.0) (ltb-true _ _ b.1) (get_or-set_same s.depths p (depth_of s r + 1) 0 long)
            (λ q d. get_or-set_other s.depths p q (depth_of s r + 1) 0 d);
      })

  -- where nothing broke, the entry was right
  pub part_sound : (s : Seen) (r j c : ℕ) → Sound v r j c s → Holds v r j → 1 ≤ depth_of s r → (enter_part v s r j).sound ≡ true
      → Sound v r (j + 1) (c + 1) (enter_part v s r j)
  unfolding enter_part
  part_sound s r j c sd held some h = go (enters_first v s.depths r j) refl
    where
      go : (b : Bool) → enters_first v s.depths r j ≡ b → Sound v r (j + 1) (c + 1) (enter_part v s r j)
      go true e = enters_true s r j c sd held some e
      go false e = absurd (true≢false (sym h ∙ rw e refl))

  -- an owner whose entry was passed has a depth
  pub owner_met : (s : Seen) (r j c : ℕ) → Sound v r (j + 1) c s → Holds v r j → 1 ≤ depth_of s r
  owner_met s r j c sd held = (sd.good.marked r j (record { held = held; before = inr (refl, omega arith) })).some

  pub parts_sound : (n : ℕ) (s : Seen) (r j c : ℕ) → Sound v r j c s → ((k : ℕ) → j ≤ k → k < j + n → Holds v r k) → 1 ≤ depth_of s r
      → (enter_parts v s r j n).sound ≡ true
      → Sound v r (j + n) (c + n) (enter_parts v s r j n) × (1 ≤ depth_of (enter_parts v s r j n) r)
  unfolding enter_parts
  parts_sound zero s r j c sd held some h = let e : j + 0 ≡ j = omega arith in let f : c + 0 ≡ c = omega arith in rw (e, f) (sd, some)
  parts_sound (suc n) s r j c sd held some h =
      go (enter_part v s r j).sound refl
      (λ next own rest. parts_sound n (enter_part v s r j) r (j + 1) (c + 1) next (λ k low high. held k (omega arith) (omega arith)) own rest)
    where
      mine : Holds v r j
      mine = held j (omega arith) (omega arith)

      go : (b : Bool) → (enter_part v s r j).sound ≡ b
          → (Sound v r (j + 1) (c + 1) (enter_part v s r j) → 1 ≤ depth_of (enter_part v s r j) r → (enter_parts v (enter_part v s r j) r (j + 1) n).sound ≡ true
          → Sound v r (j + 1 + n) (c + 1 + n) (enter_parts v (enter_part v s r j) r (j + 1) n) × (1 ≤ depth_of (enter_parts v (enter_part v s r j) r (j + 1) n) r))
          → Sound v r (j + suc n) (c + suc n) (enter_parts v s r j (suc n)) × (1 ≤ depth_of (enter_parts v s r j (suc n)) r)
      go true e ih =
          let next = part_sound s r j c sd mine some e in
          let x : j + suc n ≡ j + 1 + n = omega arith in
          let y : c + suc n ≡ c + 1 + n = omega arith in
          rw (parts_on v s r j n e, x, y) (ih next (owner_met (enter_part v s r j) r j (c + 1) next mine) (rw (parts_on v s r j n e) at h))
      go false e ih = absurd (true≢false (sym h ∙ ap (λ (x : Seen). x.sound) (parts_stop v s r j n e) ∙ e))

  -- ---- from one place of the pass to another at which the same entries were passed
  good_move : (r j r₂ j₂ c : ℕ) (D : ℕ → ℕ)
      → ((r' j' : ℕ) → Passed v r j r' j' → Passed v r₂ j₂ r' j') → ((r' j' : ℕ) → Passed v r₂ j₂ r' j' → Passed v r j r' j')
      → ((r' : ℕ) → r' < r₂ → (1 ≤ D r') × (fields_fit v r' ≡ true))
      → Good v r j c D → Good v r₂ j₂ c D
  good_move r j r₂ j₂ c D to from done good = record {
    root = good.root;
    most = good.most;
    came = λ p h. ⊎_elim (λ e. inl e) (λ m. inr (record { owner = m.owner; entry = m.entry; passed = to _ _ m.passed; is = m.is })) (good.came p h);
    marked = λ r' j' p. good.marked r' j' (from r' j' p);
    alone = λ r₁ j₁ r₃ j₃ p q. good.alone r₁ j₁ r₃ j₃ (from r₁ j₁ p) (from r₃ j₃ q);
    done = done;
    reach = good.reach;
    many = good.many;
  }

  -- before the first entry of record r nothing of its list was passed
  pub to_first : (r c : ℕ) (D : ℕ → ℕ) → Good v r 0 c D → Good v r (record_first v r) c D
  to_first r c D good = good_move r 0 r (record_first v r) c D to from good.done good
    where
      to : (r' j' : ℕ) → Passed v r 0 r' j' → Passed v r (record_first v r) r' j'
      to r' j' p = record { held = p.held; before = ⊎_elim (λ a. inl a) (λ b. absurd (omega (arith, b.1))) p.before }

      from : (r' j' : ℕ) → Passed v r (record_first v r) r' j' → Passed v r 0 r' j'
      from r' j' p = record {
        held = p.held;
        before = ⊎_elim (λ a. inl a) (λ b. let e : record_first v r' ≡ record_first v r = ap (record_first v) b.0 in absurd (omega (arith, b.1, p.held.from))) p.before;
      }

  -- past the entries of record r, or where it has none, the next record is at hand
  to_next : (r j c : ℕ) (D : ℕ → ℕ) → ((j' : ℕ) → Holds v r j' → j' < j) → 1 ≤ D r → fields_fit v r ≡ true → Good v r j c D → Good v (r + 1) 0 c D
  to_next r j c D all some fields good = good_move r j (r + 1) 0 c D to from done good
    where
      to : (r' j' : ℕ) → Passed v r j r' j' → Passed v (r + 1) 0 r' j'
      to r' j' p = record { held = p.held; before = inl (⊎_elim (λ a. omega arith) (λ b. omega (arith, b.0)) p.before) }

      from : (r' j' : ℕ) → Passed v (r + 1) 0 r' j' → Passed v r j r' j'
      from r' j' p = record { held = p.held; before = ⊎_elim here (λ b. absurd (omega (arith, b.1))) p.before }
        where
          here : r' < r + 1 → (r' < r) ⊎ ((r' ≡ r) × (j' < j))
          here a = ⊎_elim (λ e. inr (e, all j' (rw e at p.held))) (λ d. inl (omega arith)) (same_or_not r' r)

      done : (r' : ℕ) → r' < r + 1 → (1 ≤ D r') × (fields_fit v r' ≡ true)
      done r' l = ⊎_elim (λ e. rw e (some, fields)) (λ d. good.done r' (omega arith)) (same_or_not r' r)

  -- ---- the records
  met_true : (depths : List ℕ) (r : ℕ) → record_met v depths r ≡ true → (1 ≤ get_or depths r 0) × (fields_fit v r ≡ true)
  unfolding record_met
  met_true depths r h = let a = both_true (ltb 0 (get_or depths r 0)) _ h in (ltb-true _ _ a.0, a.1)

  pub record_sound : (s : Seen) (r : ℕ) → Sound v r 0 (sum (entries v) 0 r) s → (enter_record v s r).sound ≡ true
      → Sound v (r + 1) 0 (sum (entries v) 0 (r + 1)) (enter_record v s r)
  unfolding enter_record
  record_sound s r sd h = go (record_met v s.depths r) refl
    where
      listing : record_met v s.depths r ≡ true → (b : Bool) → listed v r ≡ b → Sound v (r + 1) 0 (sum (entries v) 0 (r + 1)) (enter_record v s r)
      listing e true l =
          let m = met_true s.depths r e in
          let begun : Sound v r (record_first v r) (sum (entries v) 0 r) s = record { sound = sd.sound; long = sd.long; good = to_first r (sum (entries v) 0 r) (depth_of s) sd.good } in
          let ended = parts_sound (record_count v r) s r (record_first v r) (sum (entries v) 0 r) begun (λ k low high. record { holder = l; from = low; to = high }) m.0 (rw (e, l) at h) in
          let x : sum (entries v) 0 (r + 1) ≡ sum (entries v) 0 r + record_count v r = sum_next (entries v) r ∙ rw l in
          rw (e, l, x)
          (record {
            sound = ended.0.sound;
            long = ended.0.long;
            good = to_next r (record_first v r + record_count v r) (sum (entries v) 0 r + record_count v r) (depth_of (enter_parts v s r (record_first v r) (record_count v r)))
                (λ j' q. q.to) ended.1 m.1 ended.0.good;
          })
      listing e false l =
          let m = met_true s.depths r e in
          let x : sum (entries v) 0 (r + 1) ≡ sum (entries v) 0 r = sum_next (entries v) r ∙ rw l (omega arith) in
          rw (e, l, x)
          (record {
            sound = sd.sound;
            long = sd.long;
            good = to_next r 0 (sum (entries v) 0 r) (depth_of s) (λ j' q. absurd (true≢false (sym q.holder ∙ l))) m.0 m.1 sd.good;
          })

      go : (b : Bool) → record_met v s.depths r ≡ b → Sound v (r + 1) 0 (sum (entries v) 0 (r + 1)) (enter_record v s r)
      go true e = listing e (listed v r) refl
      go false e = absurd (true≢false (sym h ∙ rw e refl))

  pub records_sound : (n : ℕ) (s : Seen) (r : ℕ) → Sound v r 0 (sum (entries v) 0 r) s → (enter_records v s r n).sound ≡ true
      → Sound v (r + n) 0 (sum (entries v) 0 (r + n)) (enter_records v s r n)
  unfolding enter_records
  records_sound zero s r sd h = let e : r + 0 ≡ r = omega arith in rw e sd
  records_sound (suc n) s r sd h = go (enter_record v s r).sound refl (λ next rest. records_sound n (enter_record v s r) (r + 1) next rest)
    where
      go : (b : Bool) → (enter_record v s r).sound ≡ b
          → (Sound v (r + 1) 0 (sum (entries v) 0 (r + 1)) (enter_record v s r) → (enter_records v (enter_record v s r) (r + 1) n).sound ≡ true
          → Sound v (r + 1 + n) 0 (sum (entries v) 0 (r + 1 + n)) (enter_records v (enter_record v s r) (r + 1) n))
          → Sound v (r + suc n) 0 (sum (entries v) 0 (r + suc n)) (enter_records v s r (suc n))
      go true e ih =
          let x : r + suc n ≡ r + 1 + n = omega arith in
          rw (records_on v s r n e, x) (ih (record_sound s r sd e) (rw (records_on v s r n e) at h))
      go false e ih = absurd (true≢false (sym h ∙ ap (λ (x : Seen). x.sound) (records_stop v s r n e) ∙ e))
