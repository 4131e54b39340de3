-- Two tests of one clause with the same path are the same pattern: patterns of one clause share a path only along assigns.
-- Rests on StandingLaws and on the steps of paths.
use Rattle.std.specs.Prelude.{◌≡◌, refl, Bool, true, false, List, ℕ, zero, suc, ◌+◌, ◌-◌, ◌≤◌, ◌<◌, eqb}
use Rattle.std.proofs.Common.{sym, ◌∙◌, true≢false, arith, eqb-true, eq-eqb, ne_eqb}
use Rattle.std.proofs.Math.Path.{ap}
use Rattle.std.proofs.Math.Option.{some}
use Rattle.std.proofs.lemmas.Bool.{eqb-false}
use Rattle.spec_rules.specs.Limits.{patterns_most}
use Rattle.spec_rules.specs.Kinds.{assign_pattern}
use Rattle.spec_rules.specs.SheetFile.{patterns, clauses, pattern_kind, pattern_first, child, root}
use Rattle.spec_rules.specs.Patterns.{PatternKind, Discard, Variable, Assign, Integer, ByteString, ListOfAll, ListWithRest, Constructor, Pair, Tuple, Unknown}
use Rattle.spec_rules.specs.SheetRefusals.{has_children}
use Rattle.spec_rules.specs.Rows.{Step, into}
use Rattle.spec_rules.specs.Columns.{step_index}
use Rattle.spec_accepted.specs.KindsLaws.{byte_pattern, pattern_byte}
use Rattle.spec_accepted.specs.SheetFacts.{Counted, Owns, Shaped, assign_parent, owned_pattern}
use Rattle.build_table.specs.Standing.{kind_of, step_to, follows, clause_of, path_of, type_of, is_test, class_of}
use Rattle.build_table.specs.StandingLaws.{by_standing, root_clause, root_path, child_clause, child_path}
use Rattle.build_table.specs.PathsLaws.{step_to_steps}
use Rattle.build_table.specs.ClassLaws.{into_same, into_some, same_class_path}
use Rattle.build_table.specs.SeenLaws.{test_kind}

-- what is inside the assigns at p: p itself if it is no assign
core_to : ℕ → List ℕ → ℕ → ℕ
core_to zero s p = p
core_to (suc deep) s p = elim (eqb (pattern_kind s p) assign_pattern) [ true ↦ core_to deep s (child s (pattern_first s p)) | false ↦ p ]

core : List ℕ → ℕ → ℕ
core s p = core_to patterns_most s p

-- a step leads to each child of a pattern with children that is no assign
step_to_part : (s : List ℕ) (p t i : ℕ) (kind : PatternKind) → has_children kind ≡ true → (kind ≡ Assign → ⊥) → (step : Step) × (step_to s p t kind i ≡ some step)
unfolding step_to has_children
step_to_part s p t i Discard has other = absurd (true≢false (sym has))
step_to_part s p t i Variable has other = absurd (true≢false (sym has))
step_to_part s p t i Assign has other = absurd (other refl)
step_to_part s p t i Integer has other = absurd (true≢false (sym has))
step_to_part s p t i ByteString has other = absurd (true≢false (sym has))
step_to_part s p t i ListOfAll has other = (_, refl)
step_to_part s p t i ListWithRest has other = (_, refl)
step_to_part s p t i Constructor has other = (_, refl)
step_to_part s p t i Pair has other = (_, refl)
step_to_part s p t i Tuple has other = (_, refl)
step_to_part s p t i Unknown has other = absurd (true≢false (sym has))

module _ {s : List ℕ} (sh : Shaped s) (few : Counted s) where
  core_to_assign : (deep p : ℕ) → pattern_kind s p ≡ assign_pattern → core_to (suc deep) s p ≡ core_to deep s (child s (pattern_first s p))
  unfolding core_to
  core_to_assign deep p e = rw (eq-eqb (pattern_kind s p) assign_pattern e, core_to)

  core_to_other : (deep p : ℕ) → (pattern_kind s p ≡ assign_pattern → ⊥) → core_to (suc deep) s p ≡ p
  unfolding core_to
  core_to_other deep p e = rw (ne_eqb (pattern_kind s p) assign_pattern e, core_to)

  -- an assign's only child
  pub assign_child : (p j : ℕ) → p < patterns s → Owns s p j → pattern_kind s p ≡ assign_pattern → j ≡ pattern_first s p
  assign_child p j h o e = omega (arith, sh.assign_one p h e, o.from, o.to)

  assign_owns : (p : ℕ) → p < patterns s → pattern_kind s p ≡ assign_pattern → Owns s p (pattern_first s p)
  assign_owns p h e = record { parent = assign_parent s p e; from = omega arith; to = omega (arith, sh.assign_one p h e) }

  core_to_enough : (k l p : ℕ) → p < patterns s → patterns s ≤ k + p → patterns s ≤ l + p → core_to k s p ≡ core_to l s p
  core_to_enough zero l p h a b = absurd (omega arith)
  core_to_enough (suc k) zero p h a b = absurd (omega arith)
  core_to_enough (suc k) (suc l) p h a b = go (eqb (pattern_kind s p) assign_pattern) refl (core_to_enough k l)
    where
      go : (test : Bool) → eqb (pattern_kind s p) assign_pattern ≡ test
          → ((q : ℕ) → q < patterns s → patterns s ≤ k + q → patterns s ≤ l + q → core_to k s q ≡ core_to l s q) → core_to (suc k) s p ≡ core_to (suc l) s p
      go true e ih =
          let f = eqb-true (pattern_kind s p) assign_pattern e in
          let o = assign_owns p h f in
          let above = sh.child_above p (pattern_first s p) h o in
          core_to_assign k p f ∙ ih (child s (pattern_first s p)) (owned_pattern sh p (pattern_first s p) h o) (omega arith) (omega arith) ∙ sym (core_to_assign l p f)
      go false e ih = let f = eqb-false (pattern_kind s p) assign_pattern e in core_to_other k p f ∙ sym (core_to_other l p f)

  -- a child of an assign has the core of the assign
  core_assign : (p j : ℕ) → p < patterns s → Owns s p j → pattern_kind s p ≡ assign_pattern → core s p ≡ core s (child s j)
  unfolding core
  core_assign p j h o e =
      let above = sh.child_above p j h o in
      let most = few.patterns_most_holds in
      core_to_assign (patterns_most - 1) p e
      ∙ ap (λ (k : ℕ). core_to (patterns_most - 1) s (child s k)) (sym (assign_child p j h o e))
      ∙ core_to_enough (patterns_most - 1) patterns_most (child s j) (owned_pattern sh p j h o) (omega arith) (omega arith)

  core_other : (p : ℕ) → (pattern_kind s p ≡ assign_pattern → ⊥) → core s p ≡ p
  unfolding core
  core_other p e = core_to_other (patterns_most - 1) p e

  -- ---- the path of a child, of an assign and of any other
  pub inside_assign : (p j : ℕ) → p < patterns s → Owns s p j → pattern_kind s p ≡ assign_pattern → path_of s (child s j) ≡ path_of s p
  unfolding step_to follows kind_of
  inside_assign p j h o e =
      child_path sh p j h o few
      ∙ ap (λ (kind : PatternKind). follows (path_of s p) (step_to s p (type_of s p) kind (j - pattern_first s p))) (byte_pattern (pattern_kind s p) Assign e)

  pub inside_other : (p j : ℕ) → p < patterns s → Owns s p j → (pattern_kind s p ≡ assign_pattern → ⊥)
      → (step : Step) × (path_of s (child s j) ≡ into (path_of s p) step) × (step_index step ≡ j - pattern_first s p)
  unfolding follows kind_of
  inside_other p j h o e =
      let w = step_to_part s p (type_of s p) (j - pattern_first s p) (kind_of s p) o.parent (λ k. e (pattern_byte (pattern_kind s p) Assign k (omega arith))) in (
        w.0,
        child_path sh p j h o few ∙ ap (follows (path_of s p)) w.1,
        (step_to_steps s p (type_of s p) (j - pattern_first s p) (kind_of s p) w.0 w.1).index,
      )

  -- ---- patterns of one clause with the same path have the same core
  abbrev SameCore : ℕ → ℕ → Type 0
  SameCore p q = clause_of s p ≡ clause_of s q → path_of s p ≡ path_of s q → core s p ≡ core s q

  -- of a child of an assign it is that of the assign
  to_assign : (p q j : ℕ) → q < patterns s → Owns s q j → pattern_kind s q ≡ assign_pattern → SameCore p q → SameCore p (child s j)
  to_assign p q j l o e ih c path =
      ih (c ∙ child_clause sh q j l o few) (path ∙ inside_assign q j l o e) ∙ core_assign q j l o e

  from_assign : (p q j : ℕ) → p < patterns s → Owns s p j → pattern_kind s p ≡ assign_pattern → SameCore p q → SameCore (child s j) q
  from_assign p q j h o e ih c path =
      sym (core_assign p j h o e) ∙ ih (sym (child_clause sh p j h o few) ∙ c) (sym (inside_assign p j h o e) ∙ path)

  root_core : (c : ℕ) → c < clauses s → (q : ℕ) → q < patterns s → SameCore (root s c) q
  root_core c h = by_standing sh (SameCore (root s c)) at_root at_child
    where
      at_root : (d : ℕ) → d < clauses s → SameCore (root s c) (root s d)
      at_root d l e path =
          let same : c ≡ d = sym (root_clause sh c h) ∙ e ∙ root_clause sh d l in
          ap (λ (k : ℕ). core s (root s k)) same

      at_child : (q j : ℕ) → q < patterns s → Owns s q j → SameCore (root s c) q → SameCore (root s c) (child s j)
      at_child q j l o ih = go (eqb (pattern_kind s q) assign_pattern) refl
        where
          go : (test : Bool) → eqb (pattern_kind s q) assign_pattern ≡ test → SameCore (root s c) (child s j)
          go true e = to_assign (root s c) q j l o (eqb-true _ _ e) ih
          go false e = λ f path.
              let w = inside_other q j l o (eqb-false _ _ e) in
              absurd (into_some (path_of s q) w.0 (sym (root_path sh c h) ∙ path ∙ w.1))

  -- of two children of patterns that are no assigns
  both_others : (p j q k : ℕ) → p < patterns s → Owns s p j → (pattern_kind s p ≡ assign_pattern → ⊥) → q < patterns s → Owns s q k → (pattern_kind s q ≡ assign_pattern → ⊥) → SameCore p q
      → SameCore (child s j) (child s k)
  both_others p j q k h o e l v f ih c path =
      let x = inside_other p j h o e in
      let y = inside_other q k l v f in
      let w = into_same (path_of s p) (path_of s q) x.0 y.0 (sym x.1 ∙ path ∙ y.1) in
      let cores = ih (sym (child_clause sh p j h o few) ∙ c ∙ child_clause sh q k l v few) w.0 in
      let same : p ≡ q = sym (core_other p e) ∙ cores ∙ core_other q f in
      let index : j - pattern_first s p ≡ k - pattern_first s q = sym x.2 ∙ ap step_index w.1 ∙ y.2 in
      let first : pattern_first s p ≡ pattern_first s q = ap (pattern_first s) same in
      let entries : j ≡ k = omega (arith, o.from, v.from) in
      ap (λ (i : ℕ). core s (child s i)) entries

  child_core : (p j : ℕ) → p < patterns s → Owns s p j → ((q : ℕ) → q < patterns s → SameCore p q) → (q : ℕ) → q < patterns s → SameCore (child s j) q
  child_core p j h o ih = go (eqb (pattern_kind s p) assign_pattern) refl
    where
      other : (pattern_kind s p ≡ assign_pattern → ⊥) → (q : ℕ) → q < patterns s → SameCore (child s j) q
      other e = by_standing sh (SameCore (child s j)) at_root at_child
        where
          at_root : (d : ℕ) → d < clauses s → SameCore (child s j) (root s d)
          at_root d l c path =
              let w = inside_other p j h o e in
              absurd (into_some (path_of s p) w.0 (sym (root_path sh d l) ∙ sym path ∙ w.1))

          at_child : (q k : ℕ) → q < patterns s → Owns s q k → SameCore (child s j) q → SameCore (child s j) (child s k)
          at_child q k l v inner = by_kind (eqb (pattern_kind s q) assign_pattern) refl
            where
              by_kind : (test : Bool) → eqb (pattern_kind s q) assign_pattern ≡ test → SameCore (child s j) (child s k)
              by_kind true f = to_assign (child s j) q k l v (eqb-true _ _ f) inner
              by_kind false f = both_others p j q k h o e l v (eqb-false _ _ f) (ih q l)

      go : (test : Bool) → eqb (pattern_kind s p) assign_pattern ≡ test → (q : ℕ) → q < patterns s → SameCore (child s j) q
      go true e q l = from_assign p q j h o (eqb-true _ _ e) (ih q l)
      go false e q l = other (eqb-false _ _ e) q l

  same_core : (p : ℕ) → p < patterns s → (q : ℕ) → q < patterns s → SameCore p q
  same_core = by_standing sh (λ p. (q : ℕ) → q < patterns s → SameCore p q) root_core child_core

  -- so two of one clause that are no assigns and have the same path are the same
  pub same_path_same : (p q : ℕ) → p < patterns s → q < patterns s → (pattern_kind s p ≡ assign_pattern → ⊥) → (pattern_kind s q ≡ assign_pattern → ⊥)
      → clause_of s p ≡ clause_of s q → path_of s p ≡ path_of s q → p ≡ q
  same_path_same p q h l e f c path = sym (core_other p e) ∙ same_core p h q l c path ∙ core_other q f

  pub same_test : (p q : ℕ) → p < patterns s → q < patterns s → is_test s p ≡ true → is_test s q ≡ true → clause_of s p ≡ clause_of s q → class_of s p ≡ class_of s q → p ≡ q
  same_test p q h l t u c k =
      same_path_same p q h l (λ e. omega (arith, test_kind s p t)) (λ e. omega (arith, test_kind s q u)) c (same_class_path s p q h l k)
