-- Filling the table pattern by pattern: its class, its indices and its cell, each of which keeps what is filled and fills more.
-- Rests on Tabled, on the class of a pattern by its step, and on the laws of stores.
use Rattle.std.specs.Prelude.{◌≡◌, ◌⊎◌, Bool, ℕ, zero, suc, ◌+◌, ◌*◌, ◌≤◌, ◌<◌, eqb}
use Rattle.std.proofs.Math.Path.{refl, sym, ap, ap₂}
use Rattle.std.proofs.Common.{◌∙◌, arith, add-zero, zero-add, eq-or-lt_of_le, add-one}
use Rattle.std.proofs.Math.Logic.{inl, inr, ⊎_elim}
use Rattle.std.proofs.Math.Bool.{true, false, true≢false}
use mathlib.Core.List.{List, [], ◌∷◌, ◌++◌, map, map-append}
use Rattle.std.proofs.Math.Option.{Option, none, some}
use borrow.Author.Tests.{eqb-true, eqb-false, eq-eqb, ne_eqb}
use Rattle.std.proofs.Math.ListN.{length, get_or, set, length-set, length-append}
use Rattle.std.proofs.lemmas.List.{length-map}
use Rattle.std.proofs.Math.Seq.{get_or-set_same, get_or-set_other}
use Rattle.base_words.specs.Words.{text_at}
use Rattle.base_words.specs.WordsLaws.{both_true, both_make, both_first_false, pick_true, pick_false, texts_agree_at, text_at_whole, text_at_append_left}
use Rattle.base_words.specs.Stored.{stored}
use Rattle.base_words.specs.StoredLaws.{length_stored, get_or_stored_below, get_or_stored_above, text_at_stored_inside}
use Rattle.spec_rules.specs.Limits.{patterns_most, depth_most}
use Rattle.spec_rules.specs.Searching.{lowest}
use Rattle.spec_rules.specs.SearchingLaws.{lowest_agree}
use Rattle.spec_rules.specs.SheetFile.{patterns, clauses}
use Rattle.spec_rules.specs.Rows.{Step, pair, tuple, constr, list, listtail, Path, into}
use Rattle.spec_rules.specs.Columns.{step_index}
use Rattle.spec_accepted.specs.SheetFacts.{Accepted}
use Rattle.build_table.specs.Standing.{or_self, follows, clause_of, path_of, type_of, owner_of, is_test, above_of, index_of, step_of, step_number, class_of, same_step_as, is_cell, one_more}
use Rattle.build_table.specs.StandingLaws.{only_lowest, parent_below, above_below, first_path, path_above}
use Rattle.build_table.specs.PathsLaws.{length_into, length_follows, path_short, above_short}
use Rattle.build_table.specs.ClassLaws.{class_below, class_above, class_by_step, step_steps}
use Rattle.build_table.specs.ApartLaws.{same_test}
use Rattle.build_table.specs.Table.{class_at, type_at, step_at, index_at, depth_at, clause_at, indices_at, cells_at, same_number, above_in, same_step_in, class_in, classed, indexed, tested}
use Rattle.build_table.specs.Tabled.{Placed, Classed, Indexed, Filled, Ranged, RowBelow}
use Rattle.build_table.specs.FieldsLaws.{FieldAt, Fields, kept_fields}

-- ---- searches of one number more
abbrev or_later : ℕ → Bool → Option ℕ → Option ℕ
or_later i here rest = elim here [ true ↦ some i | false ↦ rest ]

lowest_longer : (f : ℕ → Bool) (i n : ℕ) → f (i + n) ≡ false → lowest f i (suc n) ≡ lowest f i n
unfolding lowest
lowest_longer f i zero e = ap (λ (b : Bool). or_later i b none) (ap f (sym (add-zero i)) ∙ e)
lowest_longer f i (suc n) e =
    let on : i + 1 + n ≡ i + suc n = omega arith in
    ap (or_later i (f i)) (lowest_longer f (i + 1) n (ap f on ∙ e))

-- ---- steps by their numbers
step_some : (step : Step) → step_number (some step) ≡ same_number → ⊥
unfolding step_number
step_some (pair i t) e = omega arith
step_some (tuple i t) e = omega arith
step_some (constr i b t) e = omega arith
step_some (list i t) e = omega arith
step_some (listtail i t) e = omega arith

-- ---- what a cell is
cell_says : (s : List ℕ) (c class q : ℕ) → is_cell s c class q ≡ true → (is_test s q ≡ true) × (clause_of s q ≡ c) × (class_of s q ≡ class)
unfolding is_cell
cell_says s c class q e =
    let x = both_true (is_test s q) _ e in
    let y = both_true (eqb (clause_of s q) c) _ x.1 in
    (x.0, eqb-true _ _ y.0, eqb-true _ _ y.1)

cell_is : (s : List ℕ) (c class q : ℕ) → is_test s q ≡ true → clause_of s q ≡ c → class_of s q ≡ class → is_cell s c class q ≡ true
unfolding is_cell
cell_is s c class q test clause same = both_make _ _ test (both_make _ _ (eq-eqb _ _ clause) (eq-eqb _ _ same))

cell_needs_test : (s : List ℕ) (c class q : ℕ) → is_test s q ≡ false → is_cell s c class q ≡ false
unfolding is_cell
cell_needs_test s c class q e = both_first_false (is_test s q) _ e

-- ---- what stays where the bytes that it is read from do
-- u has the bytes of t from `from` on and below `to`
abbrev Agrees : List ℕ → List ℕ → ℕ → ℕ → Type 0
Agrees t u from to = (k : ℕ) → from ≤ k → k < to → get_or u k 0 ≡ get_or t k 0

placed_fields_are : {s t : List ℕ} {q : ℕ} → Placed s t q → Fields t q (above_of s q) (step_number (step_of s q)) (index_of s q) (type_of s q) (owner_of s q) (clause_of s q)
placed_fields_are h = record { is_above = h.above; is_step = h.step; is_index = h.index; is_type = h.type; is_owner = h.owner; is_clause = h.clause }

pub fields_are_placed : {s t : List ℕ} {q : ℕ} → Fields t q (above_of s q) (step_number (step_of s q)) (index_of s q) (type_of s q) (owner_of s q) (clause_of s q) → Placed s t q
fields_are_placed f = record { owner = f.is_owner; above = f.is_above; type = f.is_type; step = f.is_step; index = f.is_index; clause = f.is_clause }

pub kept_placed : (s t u : List ℕ) (q : ℕ) → ((k : ℕ) → FieldAt q k → get_or u k 0 ≡ get_or t k 0) → Placed s t q → Placed s u q
kept_placed s t u q same h =
    fields_are_placed (kept_fields t u q (above_of s q) (step_number (step_of s q)) (index_of s q) (type_of s q) (owner_of s q) (clause_of s q) same (placed_fields_are h))

pub kept_classed : (s t u : List ℕ) (q : ℕ) → get_or u (class_at + q) 0 ≡ get_or t (class_at + q) 0 → get_or u (depth_at + q) 0 ≡ get_or t (depth_at + q) 0 → Classed s t q → Classed s u q
kept_classed s t u q class depth h = record { class = class ∙ h.class; depth = depth ∙ h.depth }

pub kept_indexed : (s t u : List ℕ) (q : ℕ) → length u ≡ length t → Agrees t u (indices_at + depth_most * q) (indices_at + depth_most * q + depth_most) → length (path_of s q) < depth_most
    → Indexed s t q → Indexed s u q
kept_indexed s t u q long same short h =
    texts_agree_at u t (indices_at + depth_most * q) (length (path_of s q)) long (λ k l. same (indices_at + depth_most * q + k) (omega arith) (omega arith)) ∙ h

module _ {s : List ℕ} (ok : Accepted s) {p : ℕ} (h : p < patterns s) where
  above_lower : (q : ℕ) → q < patterns s → 0 < q → above_of s q < q
  unfolding above_of
  above_lower q l some_lower = omega (arith, parent_below ok.is_shaped q l)

  small : p < patterns_most
  small = omega (arith, ok.is_counted.patterns_most_holds)

  short : (q : ℕ) → q < patterns s → length (path_of s q) < depth_most
  short = path_short ok.is_shaped ok.is_counted ok.root_depth

  -- ---- what is there when the patterns below p are filled
  module _ {t : List ℕ} {b i d : ℕ} (filled : Filled s t p b i d) (enough : p ≤ b) where
    placed_to : (q : ℕ) → q ≤ p → Placed s t q
    placed_to q l = filled.placed q (omega arith) (omega (arith, parent_below ok.is_shaped q (omega arith)))

    pub placed_here : Placed s t p
    placed_here = placed_to p (omega arith)

    -- the pattern above one up to p is classed
    above_classed : (q : ℕ) → q ≤ p → Classed s t (above_of s q)
    above_classed zero l =
        let e : above_of s 0 ≡ 0 = omega (arith, above_below ok.is_shaped 0 (omega arith)) in
        rw e filled.first
    above_classed (suc q) l =
        let lower = above_lower (suc q) (omega arith) (omega arith) in
        filled.classed (above_of s (suc q)) (omega arith) (omega arith)

    above_is : (q : ℕ) → q ≤ p → above_in t q ≡ above_of s q
    above_is q l = (placed_to q l).above

    above_class : (q : ℕ) → q ≤ p → get_or t (class_at + above_in t q) 0 ≡ class_of s (above_of s q)
    above_class q l = ap (λ (k : ℕ). get_or t (class_at + k) 0) (above_is q l) ∙ (above_classed q l).class

    above_type : (q : ℕ) → q ≤ p → get_or t (type_at + above_in t q) 0 ≡ type_of s (above_of s q)
    above_type q l =
        ap (λ (k : ℕ). get_or t (type_at + k) 0) (above_is q l) ∙ (placed_to (above_of s q) (omega (arith, above_below ok.is_shaped q (omega arith)))).type

    above_depth : get_or t (depth_at + above_in t p) 0 ≡ length (path_of s (above_of s p))
    above_depth = ap (λ (k : ℕ). get_or t (depth_at + k) 0) (above_is p (omega arith)) ∙ (above_classed p (omega arith)).depth

    -- the class of the pattern above q is not above q; so the same step as to p leads to no pattern below the class of the one above p
    above_class_below : (q : ℕ) → q ≤ p → get_or t (class_at + above_in t q) 0 ≤ q
    above_class_below q l =
        let lower = above_below ok.is_shaped q (omega arith) in
        omega (arith, above_class q l, class_below s (above_of s q) (omega arith))

    same_class_above : (q : ℕ) → same_step_in t q p ≡ true → get_or t (class_at + above_in t q) 0 ≡ get_or t (class_at + above_in t p) 0
    unfolding same_step_in
    same_class_above q e =
        let from_index = (both_true (eqb (get_or t (step_at + q) 0) (get_or t (step_at + p) 0)) _ e).1 in
        let from_class = (both_true (eqb (get_or t (index_at + q) 0) (get_or t (index_at + p) 0)) _ from_index).1 in
        eqb-true _ _ (both_true (eqb (get_or t (class_at + above_in t q) 0) (get_or t (class_at + above_in t p) 0)) _ from_class).0

    none_same_below : (q : ℕ) → q < get_or t (class_at + above_in t p) 0 → same_step_in t q p ≡ false
    none_same_below q l = go (same_step_in t q p) refl
      where
        go : (b : Bool) → same_step_in t q p ≡ b → same_step_in t q p ≡ false
        go false e = e
        go true e =
            let up_to : q ≤ p = omega (arith, above_class_below p (omega arith)) in
            absurd (omega (arith, above_class_below q up_to, same_class_above q e))

    pub ranged : Ranged t p
    ranged = record {
      long = filled.long;
      known = small;
      above = λ q l. omega (arith, above_is q l, above_below ok.is_shaped q (omega arith), small);
      depth = omega (arith, above_depth, above_short ok.is_shaped ok.is_counted ok.root_depth p h);
      class_below = above_class_below p (omega arith);
      none_below = none_same_below;
    }

    pub row_below : RowBelow t p
    row_below = record { ranged = ranged; lower = go p refl }
      where
        go : (k : ℕ) → p ≡ k → depth_most * above_in t p + get_or t (depth_at + above_in t p) 0 ≤ depth_most * p
        go zero e =
            let none_above : above_of s p ≡ 0 = omega (arith, above_below ok.is_shaped p h) in
            let none_deep : get_or t (depth_at + above_in t p) 0 ≡ 0 =
            above_depth ∙ ap (λ (k : ℕ). length (path_of s k)) none_above ∙ ap length (first_path ok.is_shaped (omega arith))
            in
            omega (arith, above_is p (omega arith))
        go (suc k) e =
            omega (arith, above_is p (omega arith), above_lower p h (omega arith), above_depth, above_short ok.is_shaped ok.is_counted ok.root_depth p h)

    -- ---- the class and the depth of p
    same_steps : (q : ℕ) → q ≤ p → same_step_in t q p ≡ same_step_as s q p
    unfolding same_step_in same_step_as
    same_steps q l =
        let x = placed_to q l in
        let y = placed_here in
        rw (x.step, y.step, x.index, y.index, above_class q l, above_class p (omega arith), above_type q l, above_type p (omega arith))

    class_found : (step : Step) → step_of s p ≡ some step → class_in t p ≡ class_of s p
    unfolding class_in
    class_found step e =
        ap (λ (found : Option ℕ). or_self found p) (lowest_agree (λ q. same_step_in t q p) (λ q. same_step_as s q p) 0 p (λ k low high. same_steps k (omega arith)))
        ∙ class_by_step ok.is_shaped ok.is_counted p step h e

    classed_is : classed t p ≡ set (set t (class_at + p) (class_of s p)) (depth_at + p) (length (path_of s p))
    unfolding classed follows
    classed_is = go (step_of s p) refl
      where
        path_is : (step : Option Step) → step_of s p ≡ step → path_of s p ≡ follows (path_of s (above_of s p)) step
        path_is step e = path_above ok.is_shaped ok.is_counted p h ∙ ap (follows (path_of s (above_of s p))) e

        go : (step : Option Step) → step_of s p ≡ step → classed t p ≡ set (set t (class_at + p) (class_of s p)) (depth_at + p) (length (path_of s p))
        go none e =
            let number : get_or t (step_at + p) 0 ≡ same_number = placed_here.step ∙ ap step_number e ∙ unfold step_number in refl in
            let class : get_or t (class_at + above_in t p) 0 ≡ class_of s p = above_class p (omega arith) ∙ sym (class_above ok.is_shaped ok.is_counted p h e) in
            let depth : get_or t (depth_at + above_in t p) 0 ≡ length (path_of s p) = above_depth ∙ ap length (sym (path_is none e)) in
            pick_true (eqb (get_or t (step_at + p) 0) same_number) _ _ (eq-eqb _ _ number) ∙ rw (class, depth)
        go (some step) e =
            let number : get_or t (step_at + p) 0 ≡ step_number (some step) = placed_here.step ∙ ap step_number e in
            let depth : get_or t (depth_at + above_in t p) 0 + 1 ≡ length (path_of s p) =
            ap (λ (k : ℕ). k + 1) above_depth ∙ sym (length_into (path_of s (above_of s p)) step) ∙ ap length (sym (path_is (some step) e))
            in
            pick_false (eqb (get_or t (step_at + p) 0) same_number) _ _ (ne_eqb _ _ (λ x. step_some step (sym number ∙ x))) ∙ rw (class_found step e, depth)

  -- ---- the class and the depth stored
  module _ {t : List ℕ} (filled : Filled s t p p p p) where
    with_class : List ℕ
    with_class = set (set t (class_at + p) (class_of s p)) (depth_at + p) (length (path_of s p))

    class_other : (k : ℕ) → (k ≡ class_at + p → ⊥) → (k ≡ depth_at + p → ⊥) → get_or with_class k 0 ≡ get_or t k 0
    unfolding with_class
    class_other k a b =
        get_or-set_other (set t (class_at + p) (class_of s p)) (depth_at + p) k (length (path_of s p)) 0 b ∙ get_or-set_other t (class_at + p) k (class_of s p) 0 a

    class_here : Classed s with_class p
    unfolding with_class
    class_here = record {
      class =
          get_or-set_other (set t (class_at + p) (class_of s p)) (depth_at + p) (class_at + p) (length (path_of s p)) 0 (λ e. omega arith)
          ∙ get_or-set_same t (class_at + p) (class_of s p) 0 (omega (arith, filled.long, small));
      depth = get_or-set_same (set t (class_at + p) (class_of s p)) (depth_at + p) (length (path_of s p)) 0 (simp length-set (omega (arith, filled.long, small)));
    }

    class_kept : (q : ℕ) → q < patterns_most → (q ≡ p → ⊥) → Classed s t q → Classed s with_class q
    class_kept q l other =
        kept_classed s t with_class q (class_other (class_at + q) (λ e. other (omega arith)) (λ e. omega arith)) (class_other (depth_at + q) (λ e. omega (arith, small)) (λ e. other (omega arith)))

    class_any : (q : ℕ) → q < patterns_most → Classed s t q ⊎ (q ≡ p) → Classed s with_class q
    class_any q l old = go (eqb q p) refl
      where
        go : (b : Bool) → eqb q p ≡ b → Classed s with_class q
        go true e = let same = eqb-true q p e in rw same class_here
        go false e = class_kept q l (eqb-false q p e) (⊎_elim (λ x. x) (λ x. absurd (eqb-false q p e x)) old)

    with_class_filled : Filled s with_class p (p + 1) p p
    unfolding with_class
    with_class_filled = record {
      long = simp length-set filled.long;
      first = class_any 0 (omega arith) (inl filled.first);
      placed = λ q l k. kept_placed s t with_class q (λ x f. class_other x (λ e. omega (arith, f.here, f.low, small)) (λ e. f.other (omega (arith, f.here, small, ok.is_counted.patterns_most_holds)))) (filled.placed q l k);
      classed = λ q l k. class_any q (omega (arith, ok.is_counted.patterns_most_holds)) (⊎_elim (λ e. inr e) (λ x. inl (filled.classed q l x)) (eq-or-lt_of_le {n = q} {m = p} (omega arith)));
      indexed = λ q l k. kept_indexed s t with_class q (simp length-set refl) (λ x low high. class_other x (λ e. omega (arith, small)) (λ e. omega (arith, small))) (short q l) (filled.indexed q l k);
      cell = λ c class l k. class_other (cells_at + patterns_most * c + class) (λ e. omega (arith, small)) (λ e. omega (arith, small)) ∙ filled.cell c class l k;
    }

    pub class_filled : Filled s (classed t p) p (p + 1) p p
    class_filled = rw (classed_is filled (omega arith)) (unfold with_class in with_class_filled)

  -- ---- the indices stored
  -- of the steps to the pattern above, and its own
  own_indices : List ℕ
  own_indices = map step_index (path_of s (above_of s p)) ++ index_of s p ∷ []

  length_own : length own_indices ≡ length (path_of s (above_of s p)) + 1
  unfolding own_indices
  length_own = length-append (map step_index (path_of s (above_of s p))) (index_of s p ∷ []) ∙ ap (λ (n : ℕ). n + 1) (length-map (path_of s (above_of s p)) step_index)

  own_short : length own_indices < depth_most
  own_short = omega (arith, length_own, above_short ok.is_shaped ok.is_counted ok.root_depth p h)

  -- as many of them as its path has steps
  own_are : text_at own_indices 0 (length (path_of s p)) ≡ map step_index (path_of s p)
  unfolding own_indices follows into
  own_are = go (step_of s p) refl
    where
      x : Path
      x = path_of s (above_of s p)

      path_is : (step : Option Step) → step_of s p ≡ step → path_of s p ≡ follows x step
      path_is step e = path_above ok.is_shaped ok.is_counted p h ∙ ap (follows x) e

      go : (step : Option Step) → step_of s p ≡ step → text_at own_indices 0 (length (path_of s p)) ≡ map step_index (path_of s p)
      go none e =
          rw (path_is none e)
          (text_at_append_left (map step_index x) (index_of s p ∷ []) 0 (length x) (omega (arith, length-map x step_index))
          ∙ ap (text_at (map step_index x) 0) (sym (length-map x step_index))
          ∙ text_at_whole (map step_index x))
      go (some step) e =
          let index = (step_steps ok.is_shaped ok.is_counted p h step e).index in
          let all : map step_index (x ++ step ∷ []) ≡ own_indices = map-append step_index x (step ∷ []) ∙ ap (λ (k : ℕ). map step_index x ++ k ∷ []) index in
          let long : length (x ++ step ∷ []) ≡ length own_indices = length-append x (step ∷ []) ∙ sym length_own in
          rw (path_is (some step) e) (ap (text_at own_indices 0) long ∙ text_at_whole own_indices ∙ sym all)

  module _ {t : List ℕ} (filled : Filled s t p (p + 1) p p) where
    above_indices : text_at t (indices_at + depth_most * above_in t p) (get_or t (depth_at + above_in t p) 0) ≡ map step_index (path_of s (above_of s p))
    above_indices = go p refl
      where
        up : above_in t p ≡ above_of s p
        up = above_is filled (omega arith) p (omega arith)

        go : (k : ℕ) → p ≡ k → text_at t (indices_at + depth_most * above_in t p) (get_or t (depth_at + above_in t p) 0) ≡ map step_index (path_of s (above_of s p))
        go zero e =
            let none_above : above_of s p ≡ 0 = omega (arith, above_below ok.is_shaped p h) in
            let none_there : path_of s (above_of s p) ≡ [] = ap (path_of s) none_above ∙ first_path ok.is_shaped (omega arith) in
            ap (text_at t (indices_at + depth_most * above_in t p)) (above_depth filled (omega arith) ∙ ap length none_there) ∙ rw none_there refl
        go (suc k) e =
            ap₂ (λ (x n : ℕ). text_at t (indices_at + depth_most * x) n) up (above_depth filled (omega arith))
            ∙ filled.indexed (above_of s p) (omega (arith, above_lower p h (omega arith))) (above_lower p h (omega arith))

    with_indices : List ℕ
    with_indices = stored t (indices_at + depth_most * p) own_indices

    indexed_are : indexed t p ≡ with_indices
    unfolding indexed with_indices own_indices
    indexed_are =
        ap₂ (λ (xs : List ℕ) (k : ℕ). stored t (indices_at + depth_most * p) (xs ++ k ∷ [])) above_indices (placed_here filled (omega arith)).index

    indices_below : (k : ℕ) → k < indices_at + depth_most * p → get_or with_indices k 0 ≡ get_or t k 0
    unfolding with_indices
    indices_below k l = get_or_stored_below t (indices_at + depth_most * p) own_indices k 0 l

    indices_above : (k : ℕ) → cells_at ≤ k → get_or with_indices k 0 ≡ get_or t k 0
    unfolding with_indices
    indices_above k l = get_or_stored_above t (indices_at + depth_most * p) own_indices k 0 (omega (arith, own_short, small))

    indices_here : Indexed s with_indices p
    unfolding with_indices
    indices_here =
        let room = own_short in
        let few = small in
        rw (add-zero (indices_at + depth_most * p)) at (text_at_stored_inside t (indices_at + depth_most * p) own_indices 0 (length (path_of s p)) (omega (arith, length_own, steps_most)) (omega (arith, filled.long, short p h)))
        ∙ own_are
      where
        steps_most : length (path_of s p) ≤ length (path_of s (above_of s p)) + 1
        steps_most = omega (arith, ap length (path_above ok.is_shaped ok.is_counted p h), length_follows (path_of s (above_of s p)) (step_of s p))

    with_indices_filled : Filled s with_indices p (p + 1) (p + 1) p
    unfolding with_indices
    with_indices_filled = record {
      long = length_stored t (indices_at + depth_most * p) own_indices ∙ filled.long;
      first = kept_classed s t with_indices 0 (indices_below (class_at + 0) (omega arith)) (indices_below (depth_at + 0) (omega arith)) filled.first;
      placed = λ q l k. kept_placed s t with_indices q (λ x f. indices_below x (omega (arith, f.here, f.high, ok.is_counted.patterns_most_holds))) (filled.placed q l k);
      classed = λ q l k.
          kept_classed s t with_indices q (indices_below (class_at + q) (omega (arith, ok.is_counted.patterns_most_holds))) (indices_below (depth_at + q) (omega (arith, ok.is_counted.patterns_most_holds)))
          (filled.classed q l k);
      indexed = λ q l k.
          ⊎_elim (λ e. rw e indices_here)
          (λ x. kept_indexed s t with_indices q (length_stored t (indices_at + depth_most * p) own_indices) (λ y low high. indices_below y (omega arith)) (short q l) (filled.indexed q l x))
          (eq-or-lt_of_le {n = q} {m = p} (omega arith));
      cell = λ c class l k. indices_above (cells_at + patterns_most * c + class) (omega arith) ∙ filled.cell c class l k;
    }

    pub indices_filled : Filled s (indexed t p) p (p + 1) (p + 1) p
    indices_filled = rw indexed_are with_indices_filled

  -- ---- its cell
  module _ {t : List ℕ} (filled : Filled s t p (p + 1) (p + 1) p) where
    place_of : ℕ
    place_of = cells_at + patterns_most * clause_of s p + class_of s p

    with_test : List ℕ
    with_test = set t place_of (p + 1)

    in_place : get_or t (clause_at + p) 0 ≡ clause_of s p
    in_place = (placed_here filled (omega arith)).clause

    tested_are : is_test s p ≡ true → tested t (is_test s p) p ≡ with_test
    unfolding tested with_test place_of
    tested_are e =
        pick_true (is_test s p) _ t e ∙ ap₂ (λ (c k : ℕ). set t (cells_at + patterns_most * c + k) (p + 1)) in_place (filled.classed p h (omega arith)).class

    test_below : (k : ℕ) → k < cells_at → get_or with_test k 0 ≡ get_or t k 0
    unfolding with_test place_of
    test_below k l = get_or-set_other t (cells_at + patterns_most * clause_of s p + class_of s p) k (p + 1) 0 (λ e. omega arith)

    -- one number more is looked at
    one_more_is : (c class : ℕ) → is_cell s c class p ≡ false → one_more (lowest (is_cell s c class) 0 p) ≡ one_more (lowest (is_cell s c class) 0 (p + 1))
    one_more_is c class e =
        ap one_more (sym (lowest_longer (is_cell s c class) 0 p (ap (is_cell s c class) (zero-add p) ∙ e)) ∙ ap (lowest (is_cell s c class) 0) (sym (add-one p)))

    -- its own cell has no other test
    own_found : (c class : ℕ) → is_cell s c class p ≡ true → one_more (lowest (is_cell s c class) 0 (p + 1)) ≡ p + 1
    own_found c class e =
        let x = cell_says s c class p e in
        ap one_more
        (only_lowest (is_cell s c class) (p + 1) p (omega arith) e
        (λ j l f.
        let y = cell_says s c class j f in
        same_test ok.is_shaped ok.is_counted j p (omega arith) h y.0 x.0 (y.1 ∙ sym x.1) (y.2 ∙ sym x.2)))

    with_test_cell : is_test s p ≡ true → (c class : ℕ) → c < clauses s → class < patterns_most
        → get_or with_test (cells_at + patterns_most * c + class) 0 ≡ one_more (lowest (is_cell s c class) 0 (p + 1))
    unfolding with_test place_of
    with_test_cell test c class l k = go (is_cell s c class p) refl
      where
        go : (b : Bool) → is_cell s c class p ≡ b → get_or with_test (cells_at + patterns_most * c + class) 0 ≡ one_more (lowest (is_cell s c class) 0 (p + 1))
        go true e =
            let x = cell_says s c class p e in
            let here : cells_at + patterns_most * c + class ≡ cells_at + patterns_most * clause_of s p + class_of s p = omega (arith, x.1, x.2) in
            rw here
            (get_or-set_same t (cells_at + patterns_most * clause_of s p + class_of s p) (p + 1) 0 (omega (arith, x.1, x.2, filled.long, ok.is_counted.clauses_most_holds)))
            ∙ sym (own_found c class e)
        go false e =
            get_or-set_other t (cells_at + patterns_most * clause_of s p + class_of s p) (cells_at + patterns_most * c + class) (p + 1) 0
            (λ here.
            let same_clause : clause_of s p ≡ c = omega (arith, class_below s p h, small) in
            let same_class : class_of s p ≡ class = omega (arith, class_below s p h, small) in
            true≢false (sym (cell_is s c class p test same_clause same_class) ∙ e))
            ∙ filled.cell c class l k
            ∙ one_more_is c class e

    with_test_filled : is_test s p ≡ true → Filled s with_test p (p + 1) (p + 1) (p + 1)
    unfolding with_test
    with_test_filled test = record {
      long = simp length-set filled.long;
      first = kept_classed s t with_test 0 (test_below (class_at + 0) (omega arith)) (test_below (depth_at + 0) (omega arith)) filled.first;
      placed = λ q l k. kept_placed s t with_test q (λ x f. test_below x (omega (arith, f.here, f.high, ok.is_counted.patterns_most_holds))) (filled.placed q l k);
      classed = λ q l k.
          kept_classed s t with_test q (test_below (class_at + q) (omega (arith, ok.is_counted.patterns_most_holds))) (test_below (depth_at + q) (omega (arith, ok.is_counted.patterns_most_holds)))
          (filled.classed q l k);
      indexed = λ q l k.
          kept_indexed s t with_test q (simp length-set refl) (λ y low high. test_below y (omega (arith, ok.is_counted.patterns_most_holds))) (short q l) (filled.indexed q l k);
      cell = with_test_cell test;
    }

    no_test_filled : is_test s p ≡ false → Filled s t p (p + 1) (p + 1) (p + 1)
    no_test_filled none_here = record {
      long = filled.long;
      first = filled.first;
      placed = filled.placed;
      classed = filled.classed;
      indexed = filled.indexed;
      cell = λ c class l k. filled.cell c class l k ∙ one_more_is c class (cell_needs_test s c class p none_here);
    }

    pub test_filled : Filled s (tested t (is_test s p) p) p (p + 1) (p + 1) (p + 1)
    unfolding tested
    test_filled = go (is_test s p) refl
      where
        go : (b : Bool) → is_test s p ≡ b → Filled s (tested t (is_test s p) p) p (p + 1) (p + 1) (p + 1)
        go true e = rw (tested_are e) (with_test_filled e)
        go false e =
            let same : tested t (is_test s p) p ≡ t = pick_false (is_test s p) (set t (cells_at + patterns_most * get_or t (clause_at + p) 0 + get_or t (class_at + p) 0) (p + 1)) t e in
            rw same (no_test_filled e)
