-- Answers of a walk that are the same up to the order of their bindings; and the first row of a matrix that holds, with its answer.
-- A case's rows have the same first row as the matrix where the case is the right one, and so have the default's where none is.
use Rattle.std.specs.Prelude.{ℕ, ◌+◌, Bool, eqb}
use Rattle.std.proofs.Common.{zero-add, arith, ◌∙◌, ne_eqb}
use Rattle.std.proofs.Math.Path.{◌≡◌, refl, sym, ap}
use Rattle.std.proofs.Math.Bool.{true, false}
use mathlib.Core.List.{List, [], ◌∷◌, map}
use Rattle.std.proofs.Math.Option.{Option, none, some}
use Rattle.base_words.specs.Words.{both, pick}
use Rattle.spec_rules.specs.Patterns.{Pat}
use Rattle.spec_rules.specs.Rows.{Path, Binding, Cell, Row, opened_columns}
use Rattle.spec_rules.specs.Columns.{test_at}
use Rattle.spec_rules.specs.Splitting.{Test, without_test, open_row, column, covers, case_rows, default_rows}
use Rattle.spec_rules.specs.Walking.{Position, panel_root, follow, Bound, bound, Walked, reached, no_leaf, stuck, at_leaf}
use Rattle.spec_rules.specs.SplittingLaws.{All}
use Rattle.spec_match.specs.Lists.{all_append, all_map}
use Rattle.spec_match.specs.Tests.{is_test, HasTest, cell, Taken, take_test, taken_has, others_have, default_all}
use Rattle.spec_match.specs.Bindings.{total, SameUpToOrder, row_bindings, open_bindings}
use Rattle.spec_match.specs.Suits.{Suits, holds_at, hold_all, hold_all_append, holds_at_matches, Good, head_holds, opened_read, head_fails}

-- ---- the same answer: both at no leaf, or both at a leaf of one clause with the same bindings up to order; none is stuck
abbrev pub SameAnswer : Walked → Walked → Type 0
SameAnswer (reached c xs) (reached d ys) = (c ≡ d) × SameUpToOrder xs ys
SameAnswer (reached c xs) no_leaf = ⊥
SameAnswer (reached c xs) stuck = ⊥
SameAnswer no_leaf (reached d ys) = ⊥
SameAnswer no_leaf no_leaf = Unit {0}
SameAnswer no_leaf stuck = ⊥
SameAnswer stuck b = ⊥

-- the same, or both stuck
abbrev pub Alike : Walked → Walked → Type 0
Alike (reached c xs) (reached d ys) = (c ≡ d) × SameUpToOrder xs ys
Alike (reached c xs) no_leaf = ⊥
Alike (reached c xs) stuck = ⊥
Alike no_leaf (reached d ys) = ⊥
Alike no_leaf no_leaf = Unit {0}
Alike no_leaf stuck = ⊥
Alike stuck (reached d ys) = ⊥
Alike stuck no_leaf = ⊥
Alike stuck stuck = Unit {0}

pub alike_trans : (a b c : Walked) → Alike a b → Alike b c → Alike a c
alike_trans (reached d xs) (reached e ys) (reached g zs) h k = (h.0 ∙ k.0, λ f. h.1 f ∙ k.1 f)
alike_trans (reached d xs) (reached e ys) no_leaf h k = k
alike_trans (reached d xs) (reached e ys) stuck h k = k
alike_trans (reached d xs) no_leaf c h k = absurd h
alike_trans (reached d xs) stuck c h k = absurd h
alike_trans no_leaf (reached e ys) c h k = absurd h
alike_trans no_leaf no_leaf c h k = k
alike_trans no_leaf stuck c h k = absurd h
alike_trans stuck (reached e ys) c h k = absurd h
alike_trans stuck no_leaf c h k = absurd h
alike_trans stuck stuck c h k = k

-- ---- bindings in another order lead to the same parts in another order
module _ (v : List ℕ) where
  missing : Binding → ℕ
  missing b = elim (follow v b.path panel_root) [ none ↦ 1 | some x ↦ 0 ]

  or_root : Option Position → Position
  or_root none = panel_root
  or_root (some x) = x

  bound_by : Binding → Bound
  bound_by b = record { name = b.name; position = or_root (follow v b.path panel_root) }

  if_none : ℕ → List Bound → Option (List Bound)
  if_none n xs = pick (eqb n 0) (some xs) none

  bound_total : (bs : List Binding) → bound v bs ≡ if_none (total missing bs) (map bound_by bs)
  unfolding bound total if_none
  bound_total [] = refl
  bound_total (b ∷ bs) = go (follow v b.path panel_root) refl (bound_total bs)
    where
      longer : (x : Position) (c : Bool)
          → ◌≡◌ {A = Option (List Bound)}
          (elim (pick c (some (map bound_by bs)) none) as (λ o. Option (List Bound)) [ none ↦ none | some xs ↦ some (record { name = b.name; position = x } ∷ xs) ])
          (pick c (some (record { name = b.name; position = x } ∷ map bound_by bs)) none)
      longer x true = refl
      longer x false = refl

      go : (o : Option Position) → follow v b.path panel_root ≡ o → bound v bs ≡ if_none (total missing bs) (map bound_by bs)
          → bound v (b ∷ bs) ≡ if_none (missing b + total missing bs) (bound_by b ∷ map bound_by bs)
      go none x ih = unfold missing in (rw (x, missing, bound) (rw (ne_eqb (1 + total missing bs) 0 (λ e. omega arith))))
      go (some y) x ih = unfold missing bound_by or_root in (rw (x, missing, bound) (rw (ih, zero-add) (longer y (eqb (total missing bs) 0))))

  total_map : (f : Bound → ℕ) (bs : List Binding) → total f (map bound_by bs) ≡ total (λ b. f (bound_by b)) bs
  unfolding total
  total_map f [] = refl
  total_map f (b ∷ bs) = ap (λ n. f (bound_by b) + n) (total_map f bs)

  alike_if_none : (c n : ℕ) (xs ys : List Bound) → SameUpToOrder xs ys → Alike (at_leaf c (if_none n xs)) (at_leaf c (if_none n ys))
  unfolding if_none at_leaf
  alike_if_none c n xs ys s = go (eqb n 0)
    where
      go : (b : Bool) → Alike (at_leaf c (pick b (some xs) none)) (at_leaf c (pick b (some ys) none))
      go true = (refl, s)
      go false = tt

  pub alike_leaves : (c d : ℕ) (bs cs : List Binding) → c ≡ d → SameUpToOrder bs cs → Alike (at_leaf c (bound v bs)) (at_leaf d (bound v cs))
  alike_leaves c d bs cs e s =
      rw (e, bound_total bs, bound_total cs, s missing)
      (alike_if_none d (total missing cs) (map bound_by bs) (map bound_by cs) (λ f. total_map f bs ∙ s (λ b. f (bound_by b)) ∙ sym (total_map f cs)))

  -- ---- the first row whose tests all hold
  unfoldable pub first_row : List Row → Walked
  unfolding hold_all bound at_leaf
  first_row [] = no_leaf
  first_row (r ∷ rs) = elim (hold_all v r.tests) [ true ↦ at_leaf r.clause (bound v (row_bindings r)) | false ↦ first_row rs ]

  pub first_yes : (r : Row) (rs : List Row) → hold_all v r.tests ≡ true → first_row (r ∷ rs) ≡ at_leaf r.clause (bound v (row_bindings r))
  unfolding first_row
  first_yes r rs e = rw (e, first_row)

  pub first_no : (r : Row) (rs : List Row) → hold_all v r.tests ≡ false → first_row (r ∷ rs) ≡ first_row rs
  unfolding first_row
  first_no r rs e = rw (e, first_row)

  -- rows that hold together and have the same bindings
  first_both : (r s : Row) (rs ss : List Row) → hold_all v r.tests ≡ hold_all v s.tests → r.clause ≡ s.clause → SameUpToOrder (row_bindings r) (row_bindings s)
      → Alike (first_row rs) (first_row ss) → Alike (first_row (r ∷ rs)) (first_row (s ∷ ss))
  first_both r s rs ss e c b ih = go (hold_all v s.tests) refl
    where
      go : (x : Bool) → hold_all v s.tests ≡ x → Alike (first_row (r ∷ rs)) (first_row (s ∷ ss))
      go true x = rw (first_yes r rs (e ∙ x), first_yes s ss x) (alike_leaves r.clause s.clause (row_bindings r) (row_bindings s) c b)
      go false x = rw (first_no r rs (e ∙ x), first_no s ss x) ih

  -- ---- a row with a test in the column at p, which leads to x
  abbrev pub GoodRow : Row → Type 0
  GoodRow r = All (Good v) r.tests

  -- a test pattern that suits the part at x
  abbrev pub Suited : Position → Pat → Type 0
  Suited x q = (is_test q ≡ true) × Suits q v x

  swap_both : (a b c : Bool) → both a (both b c) ≡ both b (both a c)
  swap_both true true c = refl
  swap_both true false c = refl
  swap_both false true c = refl
  swap_both false false c = refl

  hold_taken : (p : Path) (q : Pat) (cs : List Cell) → Taken p q cs → hold_all v cs ≡ both (holds_at v p q) (hold_all v (without_test p cs))
  unfolding hold_all
  hold_taken p q cs o =
      ap (hold_all v) o.whole
      ∙ hold_all_append v o.front (cell p q ∷ o.back)
      ∙ swap_both (hold_all v o.front) (holds_at v p q) (hold_all v o.back)
      ∙ ap (both (holds_at v p q)) (sym (ap (hold_all v) o.rest ∙ hold_all_append v o.front o.back))

  module _ (p : Path) (x : Position) (found : follow v p panel_root ≡ some x) where
    pub good_suited : (q : Pat) (r : Row) → test_at p r.tests ≡ some q → GoodRow r → Suited x q
    good_suited q r e g =
        let c : Good v (cell p q) = taken_has (Good v) p q r.tests (take_test p r.tests q e) g in
        (c.test, rw (same_position c.position x (sym c.found ∙ found)) at c.suits)
      where
        same_position : (a b : Position) → ◌≡◌ {A = Option Position} (some a) (some b) → a ≡ b
        same_position a b z = cc

    open_read : (q : Pat) (r : Row) → test_at p r.tests ≡ some q → GoodRow r → head_holds v q x ≡ true
        → (hold_all v (open_row p q r).tests ≡ hold_all v r.tests) × GoodRow (open_row p q r)
    unfolding open_row
    open_read q r e g h =
        let o = take_test p r.tests q e in
        let (i, s) = good_suited q r e g in
        let (m, n) = opened_read v p q x found i s h in (
          hold_all_append v (opened_columns p q) (without_test p r.tests)
              ∙ ap (λ b. both b (hold_all v (without_test p r.tests))) (m ∙ sym (holds_at_matches v p q x found))
              ∙ sym (hold_taken p q r.tests o),
          all_append (Good v) (opened_columns p q) (without_test p r.tests) n (others_have (Good v) p q r.tests o g),
        )

    row_fails : (q : Pat) (r : Row) → test_at p r.tests ≡ some q → GoodRow r → head_holds v q x ≡ false → hold_all v r.tests ≡ false
    row_fails q r e g h =
        hold_taken p q r.tests (take_test p r.tests q e)
        ∙ rw (holds_at_matches v p q x found, head_fails v q x (good_suited q r e g).0 h)

    open_clause : (q : Pat) (r : Row) → (open_row p q r).clause ≡ r.clause
    unfolding open_row
    open_clause q r = refl

    -- LEMMA: the rows of a case whose patterns are those that pass have the same first row, and stay good
    pub case_first : (t : Test) (rs : List Row) → All GoodRow rs → All (λ q. covers q t ≡ head_holds v q x) (column p rs)
        → Alike (first_row (case_rows p t rs)) (first_row rs) × All GoodRow (case_rows p t rs)
    unfolding case_rows column
    case_first t [] g h = (unfold first_row in tt, tt)
    case_first t (r ∷ rs) g h = go (test_at p r.tests) refl (case_first t rs g.1)
      where
        go : (o : Option Pat) → test_at p r.tests ≡ o
            → (All (λ q. covers q t ≡ head_holds v q x) (column p rs) → Alike (first_row (case_rows p t rs)) (first_row rs) × All GoodRow (case_rows p t rs))
            → Alike (first_row (case_rows p t (r ∷ rs))) (first_row (r ∷ rs)) × All GoodRow (case_rows p t (r ∷ rs))
        go none e ih =
            let (a, b) = ih (rw (e, column) at h) in
            rw (e, case_rows) (first_both r r (case_rows p t rs) rs refl refl (λ f. refl) a, (g.0, b))
        go (some q) e ih = test (head_holds v q x) refl
          where
            k : All (λ q. covers q t ≡ head_holds v q x) (q ∷ column p rs)
            k = rw (e, column) at h

            test : (b : Bool) → head_holds v q x ≡ b → Alike (first_row (case_rows p t (r ∷ rs))) (first_row (r ∷ rs)) × All GoodRow (case_rows p t (r ∷ rs))
            test true y =
                let c : covers q t ≡ true = k.0 ∙ y in
                let (a, b) = ih k.1 in
                let (m, n) = open_read q r e g.0 y in
                rw (e, c, case_rows) (
                  first_both (open_row p q r) r (case_rows p t rs) rs m (open_clause q r)
                      (open_bindings p q r e (all_map (Good v) HasTest (λ d i. i.test) r.tests g.0)) a,
                  (n, b),
                )
            test false y =
                let c : covers q t ≡ false = k.0 ∙ y in
                let (a, b) = ih k.1 in
                rw (e, c, case_rows, first_no r rs (row_fails q r e g.0 y)) (a, b)

    -- LEMMA: where no pattern of the column passes, the default's rows have the same first row
    pub default_first : (rs : List Row) → All GoodRow rs → All (λ q. head_holds v q x ≡ false) (column p rs) → Alike (first_row (default_rows p rs)) (first_row rs)
    unfolding default_rows column
    default_first [] g h = unfold first_row in tt
    default_first (r ∷ rs) g h = go (test_at p r.tests) refl (default_first rs g.1)
      where
        go : (o : Option Pat) → test_at p r.tests ≡ o → (All (λ q. head_holds v q x ≡ false) (column p rs) → Alike (first_row (default_rows p rs)) (first_row rs))
            → Alike (first_row (default_rows p (r ∷ rs))) (first_row (r ∷ rs))
        go none e ih = rw (e, default_rows) (first_both r r (default_rows p rs) rs refl refl (λ f. refl) (ih (rw (e, column) at h)))
        go (some q) e ih =
            let k : All (λ q. head_holds v q x ≡ false) (q ∷ column p rs) = rw (e, column) at h in
            rw (e, default_rows) (rw (first_no r rs (row_fails q r e g.0 k.0)) (ih k.1))

    -- the patterns of the column suit the part
    pub column_suited : (rs : List Row) → All GoodRow rs → All (Suited x) (column p rs)
    unfolding column
    column_suited [] g = tt
    column_suited (r ∷ rs) g = go (test_at p r.tests) refl (column_suited rs g.1)
      where
        go : (o : Option Pat) → test_at p r.tests ≡ o → All (Suited x) (column p rs) → All (Suited x) (column p (r ∷ rs))
        go none e ih = rw (e, column) ih
        go (some q) e ih = rw (e, column) (good_suited q r e g.0, ih)

  pub default_good : (p : Path) (rs : List Row) → All GoodRow rs → All GoodRow (default_rows p rs)
  default_good p rs g = default_all GoodRow GoodRow p (λ r e h. h) rs g
