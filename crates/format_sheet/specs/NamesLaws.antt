-- The names by number are the names of the pattern, and how a buffer of names grows.
-- Rests on the law by which a pattern opens one level.
use Rattle.std.specs.Prelude.{◌≡◌, Bool, true, false, eqb, length, get_or}
use Rattle.std.proofs.Math.Path.{refl, ap, sym}
use Rattle.std.proofs.Common.{ap₂, ◌∙◌, eq-eqb, ne_eqb, eqb-true, length-append}
use Rattle.std.proofs.lemmas.Bool.{eqb-false}
use Rattle.std.specs.List.{list_any}
use mathlib.Core.List.{List, [], ◌∷◌, ◌++◌, append-nil, append_assoc}
use Prim.Native.Nat.{ℕ, zero, suc, ◌+◌, ◌-◌, ◌≤◌, ◌<◌}
use native.Mathlib.Omega.{arith}
use Rattle.base_words.specs.Words.{Bytes, either, text_at}
use Rattle.base_words.specs.WordsLaws.{word_at_small}
use Rattle.spec_rules.specs.Limits.{patterns_most}
use Rattle.spec_rules.specs.Kinds.{variable_pattern, assign_pattern}
use Rattle.spec_rules.specs.SheetFile.{patterns, clauses, type_first, constructor_first, pattern_kind, pattern_a, pattern_first, pattern_count, child, root}
use Rattle.spec_rules.specs.Patterns.{PatternKind, Discard, Variable, Assign, Integer, ByteString, ListOfAll, ListWithRest, Constructor, Pair, Tuple, Unknown, pattern_kind_of, Pat, Pats, Mark, decorated, one_constructor, constructor_of, along, of_constructor, of_kind, pattern_to, pattern, clause_pattern, names, names_of}
use Rattle.spec_rules.specs.SheetRefusals.{has_children, is_in, repeats}
use Rattle.spec_accepted.specs.KindsLaws.{pattern_byte}
use Rattle.spec_accepted.specs.SheetFacts.{Counted, Shaped, Owns, owned_pattern}
use Rattle.spec_accepted.specs.PatternsLaws.{pattern_open}
use Rattle.format_sheet.specs.declared.records.PatternRecord.{PatternRecord}
use Rattle.format_sheet.specs.Records.{pattern_of}
use Rattle.format_sheet.specs.Shape.{children_first, children_count}
use Rattle.format_parts.specs.TextsLaws.{text_cons}
use Rattle.format_sheet.specs.Names.{name_of_kind, own_name, joined, names_to, names_in, Names, held, Adds, Lacks}

-- ---- lists joined
-- the last apart
joined_last : (f : ℕ → List ℕ) (i n : ℕ) → joined f i (suc n) ≡ joined f i n ++ f (i + n)
unfolding joined
joined_last f i zero = let e : i + 0 ≡ i = omega arith in rw e (append-nil (f i))
joined_last f i (suc n) =
    let e : i + suc n ≡ i + 1 + n = omega arith in
    ap (λ (x : List ℕ). f i ++ x) (joined_last f (i + 1) n) ∙ sym (rw e (append_assoc (f i) (joined f (i + 1) n) (f (i + 1 + n))))

names_along : (f : ℕ → ℕ → Pat) (g : ℕ → List ℕ) (s : List ℕ) (j n e step : ℕ) → ((i u : ℕ) → j ≤ i → i < j + n → names (f (child s i) u) ≡ g i)
    → names_of (along f s j n e step) ≡ joined g j n
unfolding along joined names
names_along f g s j zero e step h = refl
names_along f g s j (suc n) e step h = ap₂ ◌++◌ (h j _ (omega arith) (omega arith)) (names_along f g s (j + 1) n (e + step) step (λ i u low high. h i u (omega arith) (omega arith)))

by_constructor : (m : Mark) (a : ℕ) (list : Bool) (qs : Pats) (one : Bool) → names (of_constructor m a list qs one) ≡ names_of qs
unfolding names of_constructor
by_constructor m a list qs true = refl
by_constructor m a list qs false = refl

-- ---- the names of a pattern by its kind, where g gives those of its children
module _ (s : List ℕ) (sh : Shaped s) (p t : ℕ) (h : p < patterns s) (f : ℕ → ℕ → Pat) (g : ℕ → List ℕ)
    (agree : (j u : ℕ) → Owns s p j → names (f (child s j) u) ≡ g j) where
  inside : has_children (pattern_kind_of (pattern_kind s p)) ≡ true → (n e step : ℕ) → n ≤ pattern_count s p → names_of (along f s (pattern_first s p) n e step) ≡ joined g (pattern_first s p) n
  inside has n e step l =
      names_along f g s (pattern_first s p) n e step (λ i u low high. agree i u (record { parent = has; from = low; to = omega arith }))

  names_by_kind : (kind : PatternKind) → pattern_kind_of (pattern_kind s p) ≡ kind
      → names (of_kind f s p t kind) ≡ name_of_kind s p kind ++ joined g (children_first s p) (children_count s p)
  unfolding names of_kind name_of_kind children_first children_count has_children joined
  names_by_kind Discard e = rw e
  names_by_kind Variable e = rw e
  names_by_kind Assign e =
      let one = sh.assign_one p h (pattern_byte (pattern_kind s p) Assign e (omega arith)) in
      rw (e, one) (ap (λ (x : List ℕ). pattern_a s p ∷ x) (agree (pattern_first s p) t (record { parent = ap has_children e; from = omega arith; to = omega arith }) ∙ sym (append-nil (g (pattern_first s p)))))
  names_by_kind Integer e = rw e
  names_by_kind ByteString e = rw e
  names_by_kind ListOfAll e = rw e (inside (ap has_children e) (pattern_count s p) _ 0 (omega arith))
  names_by_kind ListWithRest e =
      let two = sh.tail_after_some p h (pattern_byte (pattern_kind s p) ListWithRest e (omega arith)) in
      let size : suc (pattern_count s p - 1) ≡ pattern_count s p = omega arith in
      rw e
      (ap₂ ◌++◌ (inside (ap has_children e) (pattern_count s p - 1) (type_first s t) 0 (omega arith))
      (agree (pattern_first s p + (pattern_count s p - 1)) t (record { parent = ap has_children e; from = omega arith; to = omega arith }))
      ∙ sym (joined_last g (pattern_first s p) (pattern_count s p - 1))
      ∙ ap (joined g (pattern_first s p)) size)
  names_by_kind Constructor e =
      rw e
      (by_constructor (record { number = p; type = t }) (pattern_a s p) (decorated s t) (along f s (pattern_first s p) (pattern_count s p) (constructor_first s (constructor_of s t (pattern_a s p))) 1) (one_constructor s t)
      ∙ inside (ap has_children e) (pattern_count s p) (constructor_first s (constructor_of s t (pattern_a s p))) 1 (omega arith))
  names_by_kind Pair e = rw e (inside (ap has_children e) (pattern_count s p) _ 1 (omega arith))
  names_by_kind Tuple e = rw e (inside (ap has_children e) (pattern_count s p) _ 1 (omega arith))
  names_by_kind Unknown e = rw e

-- ---- the names of a pattern by number
module _ (s : List ℕ) (sh : Shaped s) where
  names_to_lem : (deep p t : ℕ) → p < patterns s → names (pattern_to deep s p t) ≡ names_to deep s p
  unfolding pattern_to names_to own_name names
  names_to_lem zero p t h = refl
  names_to_lem (suc deep) p t h =
      names_by_kind s sh p t h (pattern_to deep s) (λ j. names_to deep s (child s j)) (λ j u o. names_to_lem deep (child s j) u (owned_pattern sh p j h o)) (pattern_kind_of (pattern_kind s p)) refl

  pub names_in_lem : (p t : ℕ) → p < patterns s → names (pattern s p t) ≡ names_in s p
  unfolding pattern names_in
  names_in_lem p t h = names_to_lem patterns_most p t h

  -- they open one level
  pub names_open : Counted s → (p : ℕ) → p < patterns s → names_in s p ≡ own_name s p ++ joined (λ j. names_in s (child s j)) (children_first s p) (children_count s p)
  unfolding own_name
  names_open few p h =
      sym (names_in_lem p 0 h) ∙ ap names (pattern_open s sh few p 0 h)
      ∙ names_by_kind s sh p 0 h (pattern s) (λ j. names_in s (child s j)) (λ j u o. names_in_lem (child s j) u (owned_pattern sh p j h o)) (pattern_kind_of (pattern_kind s p)) refl

  pub clause_names : (c : ℕ) → c < clauses s → names (clause_pattern s c) ≡ names_in s (root s c)
  unfolding clause_pattern
  clause_names c h = names_in_lem (root s c) _ (sh.root_pattern c h)

-- ---- a buffer of names that grows
pub adds_none : (h : Names) → Adds h [] h
adds_none h = record { kept = refl; counted = omega arith; holds = sym (append-nil (held h)) }

pub lacks_less : (h r r' : Names) (all xs rest rest' : List ℕ) → Lacks h all r rest → rest ≡ xs ++ rest' → Adds r xs r' → Lacks h all r' rest'
lacks_less h r r' all xs rest rest' l e a = record {
  kept = a.kept ∙ l.kept;
  counted = omega (arith, a.counted, l.counted, ap length e ∙ length-append xs rest');
  holds = ap (λ (y : List ℕ). y ++ rest') a.holds ∙ append_assoc (held r) xs rest' ∙ ap (λ (y : List ℕ). held r ++ y) (sym e) ∙ l.holds;
}

pub lacks_nothing : (h r : Names) (all rest : List ℕ) → Lacks h all r rest → rest ≡ [] → Adds h all r
lacks_nothing h r all rest l e = record {
  kept = l.kept;
  counted = omega (arith, l.counted, ap length e);
  holds = sym (append-nil (held r)) ∙ ap (λ (y : List ℕ). held r ++ y) (sym e) ∙ l.holds;
}

-- ---- a pattern's own name
module _ (s : List ℕ) (p : ℕ) (r : PatternRecord) (f : r ≡ pattern_of s p) where
  kind_is : r.kind ≡ pattern_kind s p
  kind_is = ap (λ (x : PatternRecord). x.kind) f

  a_is : r.a ≡ pattern_a s p
  a_is = ap (λ (x : PatternRecord). x.a) f

  pub name_small : Bytes s → r.a < 65536
  unfolding pattern_a
  name_small bytes = rw a_is (word_at_small bytes _)

  pub variable_name : r.kind ≡ variable_pattern → r.a ∷ [] ≡ own_name s p
  unfolding own_name name_of_kind pattern_kind_of
  variable_name e = rw (sym kind_is ∙ e, a_is)

  pub assign_name : r.kind ≡ assign_pattern → r.a ∷ [] ≡ own_name s p
  unfolding own_name name_of_kind pattern_kind_of
  assign_name e = rw (sym kind_is ∙ e, a_is)

  pub no_name : (r.kind ≡ variable_pattern → ⊥) → (r.kind ≡ assign_pattern → ⊥) → [] ≡ own_name s p
  unfolding own_name name_of_kind
  no_name v a = sym (other (pattern_kind_of (pattern_kind s p)) (λ e. v (kind_is ∙ pattern_byte (pattern_kind s p) Variable e (omega arith))) (λ e. a (kind_is ∙ pattern_byte (pattern_kind s p) Assign e (omega arith))))
    where
      other : (kind : PatternKind) → (kind ≡ Variable → ⊥) → (kind ≡ Assign → ⊥) → name_of_kind s p kind ≡ []
      other Discard x y = refl
      other Variable x y = absurd (x refl)
      other Assign x y = absurd (y refl)
      other Integer x y = refl
      other ByteString x y = refl
      other ListOfAll x y = refl
      other ListWithRest x y = refl
      other Constructor x y = refl
      other Pair x y = refl
      other Tuple x y = refl
      other Unknown x y = refl

-- ---- the children of a pattern, one after the other
module _ (s : List ℕ) (g : ℕ → List ℕ) (first n k : ℕ) where
  pub joined_next : k < n → joined g (first + k) (n - k) ≡ g (first + k) ++ joined g (first + (k + 1)) (n - (k + 1))
  unfolding joined
  joined_next h =
      let e : n - k ≡ suc (n - (k + 1)) = omega arith in
      let d : first + k + 1 ≡ first + (k + 1) = omega arith in
      ap (joined g (first + k)) e ∙ ap (λ (i : ℕ). g (first + k) ++ joined g i (n - (k + 1))) d

  pub joined_end : n ≤ k → joined g (first + k) (n - k) ≡ []
  unfolding joined
  joined_end h = let e : n - k ≡ 0 = omega arith in ap (joined g (first + k)) e

-- ---- a name among those after it
eqb_swap : (a b : ℕ) → eqb a b ≡ eqb b a
eqb_swap a b = go (eqb b a) refl
  where
    go : (r : Bool) → eqb b a ≡ r → eqb a b ≡ r
    go true e = eq-eqb a b (sym (eqb-true b a e))
    go false e = ne_eqb a b (λ h. eqb-false b a e (sym h))

pub is_in_any : (x : ℕ) (ys : List ℕ) → list_any (λ y. eqb y x) ys ≡ is_in x ys
unfolding is_in
is_in_any x [] = refl
is_in_any x (y ∷ ys) = ap₂ either (eqb_swap y x) (is_in_any x ys)

-- ---- one of the names again
module _ (l : List ℕ) (n : ℕ) where
  abbrev pub RepeatsLeft : ℕ → Type 0
  RepeatsLeft i = repeats (text_at l i (n - i)) ≡ repeats (text_at l 0 n)

  module _ (i : ℕ) (room : n ≤ length l) (h : i < n) (left : RepeatsLeft i) {r : Bool} (x : r ≡ is_in (get_or l i 0) (text_at l (i + 1) (n - (i + 1)))) where
    repeats_next : repeats (text_at l i (n - i)) ≡ either r (repeats (text_at l (i + 1) (n - (i + 1))))
    unfolding repeats
    repeats_next = let e : n - i - 1 ≡ n - (i + 1) = omega arith in rw (text_cons l i (n - i) (omega arith) (λ z. omega arith), e, x)

    pub repeats_found : r ≡ true → true ≡ repeats (text_at l 0 n)
    repeats_found y = sym (sym left ∙ repeats_next ∙ rw y)

    pub repeats_go_on : r ≡ false → RepeatsLeft (i + 1)
    repeats_go_on y = sym (repeats_next ∙ rw y) ∙ left

  pub repeats_end : (i : ℕ) → n ≤ i → RepeatsLeft i → false ≡ repeats (text_at l 0 n)
  unfolding repeats
  repeats_end i h left = let e : n - i ≡ 0 = omega arith in sym (ap (λ (k : ℕ). repeats (text_at l i k)) e) ∙ left
