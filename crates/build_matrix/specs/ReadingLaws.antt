-- Laws of what the code reads from a table: each way through a function says what it answers; and a sheet's own table says what the sheet does.
use Rattle.std.specs.Prelude.{◌≡◌, refl, Bool, true, false, not, is_some, List, [], ◌∷◌, ◌++◌, ℕ, zero, suc, ◌+◌, ◌-◌, ◌≤◌, ◌<◌, eqb, ltb, length, get_or, take, Some, None}
use Rattle.std.proofs.Common.{sym, ap, ◌∙◌, append_assoc, append-nil, arith, add-one}
use Rattle.std.proofs.Math.Bool.{cond}
use Rattle.std.specs.Bool.{then_some}
use Rattle.std.specs.List.{position_or_len}
use Rattle.std.proofs.lemmas.List.Recursion.{is_position_or_len}
use borrow.Author.Tests.{ne_eqb}
use Rattle.std.proofs.Math.Seq.{slice, slice-cons, slice_empty, drop-cons}
use Rattle.std.proofs.lemmas.List.{drop_all}
use Rattle.base_words.specs.Words.{either, pick}
use Rattle.spec_rules.specs.SplittingLaws.{All}
use Rattle.build_matrix.specs.declared.PerRow.{PerRow}
use Rattle.build_matrix.specs.Columns.{Held}
use Rattle.build_matrix.specs.declared.rows.Best.{Best}
use Rattle.build_matrix.specs.HeldRows.{count_of, best_of, wild_of}
use Rattle.build_matrix.specs.Lists.{numbers_in, HoldsRows}
use Rattle.build_matrix.specs.Reading.{cell_in, owner_in, held_in, bettered, kept}

-- ---- what a row has, by what was read
module _ (t opened : List ℕ) (class c cell : ℕ) (is : cell ≡ cell_in t class c) where
  pub held_none : cell ≡ 0 → None ≡ held_in t opened class c
  unfolding held_in
  held_none e = rw (sym is ∙ e)

  module _ (some_cell : cell ≡ 0 → ⊥) where
    cell_back : cell_in t class c ≡ suc (cell - 1)
    cell_back = sym is ∙ omega arith

    pub held_opened : (get_or opened (cell - 1) 0 ≡ 0 → ⊥) → None ≡ held_in t opened class c
    unfolding held_in
    held_opened n = rw (cell_back, ne_eqb (get_or opened (cell - 1) 0) 0 n)

    module _ (shut : get_or opened (cell - 1) 0 ≡ 0) (owner : ℕ) (is_owner : owner ≡ owner_in t (cell - 1)) where
      pub held_owned : (live : Bool) → live ≡ either (eqb owner 0) (not (eqb (get_or opened (owner - 1) 0) 0)) → then_some live (cell - 1) ≡ held_in t opened class c
      unfolding held_in
      held_owned live e = rw (e, cell_back, shut, ← is_owner) (go (either (eqb owner 0) (not (eqb (get_or opened (owner - 1) 0) 0))))
        where
          go : (b : Bool) → then_some b (cell - 1) ≡ pick b (Some (cell - 1)) None
          go true = refl
          go false = refl

-- ---- rows counted from the front: up to the place of the first that has no test
pub count_found : (held : ℕ → Held) (cs : List ℕ) → count_of held cs ≡ position_or_len (λ c. not (is_some (held c))) cs
unfolding count_of
count_found held cs = is_position_or_len (count_of held) (λ c. not (is_some (held c))) refl (λ c left. go (held c) (count_of held left)) cs
  where
    go : (h : Held) (n : ℕ) → elim h [ Some p ↦ suc n | None ↦ 0 ] ≡ cond (not (is_some h)) 0 (1 + n)
    go (Some p) n = omega arith
    go None n = refl

-- ---- the columns compared from the front
pub best_more : (counts : ℕ → ℕ) (best next : Best) (k n : ℕ) (ks : List ℕ) → n ≡ counts k → next ≡ bettered best k n
    → best_of counts next.choice next.amount ks ≡ best_of counts best.choice best.amount (k ∷ ks)
unfolding best_of
best_more counts best next k n ks e f = rw (f, e) (go (ltb best.amount (counts k)))
  where
    go : (b : Bool)
        → (best_of counts (pick b (record { choice = Some k; amount = counts k }) best).choice (pick b (record { choice = Some k; amount = counts k }) best).amount ks)
        ≡ pick b (best_of counts (Some k) (counts k) ks) (best_of counts best.choice best.amount ks)
    go true = refl
    go false = refl

pub best_end : (counts : ℕ → ℕ) (best : Best) (ks : List ℕ) → ks ≡ [] → best.choice ≡ best_of counts best.choice best.amount ks
unfolding best_of
best_end counts best ks e = rw e

-- ---- rows kept from the front
pub wild_more : (held : ℕ → Held) (c : ℕ) (cs : List ℕ) → wild_of held (c ∷ cs) ≡ kept (held c) c ++ wild_of held cs
unfolding wild_of
wild_more held c cs = go (held c) refl
  where
    go : (h : Held) → held c ≡ h → wild_of held (c ∷ cs) ≡ kept (held c) c ++ wild_of held cs
    go (Some p) e = rw (e, wild_of)
    go None e = rw (e, wild_of)

-- one row more of those kept
pub wild_step : (held : ℕ → Held) (r next : PerRow) (c : ℕ) (h : Held) (cs : List ℕ) → held c ≡ h → HoldsRows next (numbers_in r ++ kept h c)
    → numbers_in next ++ wild_of held cs ≡ numbers_in r ++ wild_of held (c ∷ cs)
wild_step held r next c h cs e w =
    ap (λ (x : List ℕ). x ++ wild_of held cs) w.are ∙ append_assoc (numbers_in r) (kept h c) (wild_of held cs)
    ∙ ap (λ (x : List ℕ). numbers_in r ++ x) (ap (λ (x : Held). kept x c ++ wild_of held cs) (sym e) ∙ sym (wild_more held c cs))

pub wild_end : (held : ℕ → Held) (l cs : List ℕ) → cs ≡ [] → l ≡ l ++ wild_of held cs
unfolding wild_of
wild_end held l cs e = sym (ap (λ (x : List ℕ). l ++ wild_of held x) e ∙ append-nil l)

pub kept_most : (h : Held) (c : ℕ) → length (kept h c) ≤ 1
kept_most (Some p) c = omega arith
kept_most None c = omega arith

-- ---- what holds of each in an array, from the front
pub all_at : (P : ℕ → Type 0) (l : List ℕ) (n i : ℕ) → i < n → n ≤ length l → All P (take n l) → P (get_or l i 0)
all_at P [] n i h e a = absurd (omega arith)
all_at P (x ∷ l) zero i h e a = absurd (omega arith)
all_at P (x ∷ l) (suc n) zero h e a = a.0
all_at P (x ∷ l) (suc n) (suc i) h e a = all_at P l n i (omega arith) (omega arith) a.1

-- of one that is known by its place
pub all_in : (P : ℕ → Type 0) (l : List ℕ) (i x d : ℕ) → i < length l → x ≡ get_or l i d → All P l → P x
all_in P [] i x d h e a = absurd (omega arith)
all_in P (y ∷ l) zero x d h e a = rw e a.0
all_in P (y ∷ l) (suc i) x d h e a = all_in P l i x d (omega arith) e a.1

-- ---- what is left of the first n, where a loop goes over them
pub left_on : (l : List ℕ) (n i : ℕ) → i < length (take n l) → slice i n l ≡ get_or (take n l) i 0 ∷ slice (i + 1) n l
left_on l n i h = rw (add-one i) (drop-cons (take n l) i 0 h)

pub left_end : (l : List ℕ) (n i : ℕ) → length (take n l) ≤ i → slice i n l ≡ []
left_end l n i h = drop_all i (take n l) h

pub slice_on : (l : List ℕ) (i n : ℕ) → i < n → n ≤ length l → slice i n l ≡ get_or l i 0 ∷ slice (i + 1) n l
slice_on l i n h e = rw (add-one i) (slice-cons i n l 0 h e)

pub slice_end : (l : List ℕ) (i n : ℕ) → i ≡ n → slice i n l ≡ []
slice_end l i n e = ap (λ (k : ℕ). slice k n l) e ∙ slice_empty n l
