-- The class of a pattern is the lowest pattern with its path, and comparing classes compares paths. A class is found by its step:
-- the class, the step, its index and the type that it steps from are together the path.
-- Rests on StandingLaws and on the equality of paths in spec_file.
use Rattle.std.specs.Prelude.{◌≡◌, Bool, true, false, List, [], ◌∷◌, ◌++◌, eqb, length}
use Rattle.std.proofs.Math.Path.{refl, sym, ap}
use Rattle.std.proofs.Common.{ap₂, ◌∙◌, ⊎_elim, true≢false, arith, zero-add, eq-or-lt_of_le, length-append}
use Rattle.std.proofs.Math.Option.{Option, none, some}
use Prim.Native.Nat.{ℕ, zero, suc, ◌+◌, ◌-◌, ◌≤◌, ◌<◌}
use borrow.Author.Tests.{eqb-true, eqb-false, eq-eqb}
use Rattle.base_words.specs.Words.{both, pick}
use Rattle.base_words.specs.WordsLaws.{both_true, both_make}
use Rattle.spec_rules.specs.Kinds.{pair_step, tuple_step, constr_step, list_step, listtail_step}
use Rattle.spec_rules.specs.Searching.{lowest}
use Rattle.spec_rules.specs.SearchingLaws.{lowest_some, lowest_none}
use Rattle.spec_rules.specs.SheetFile.{patterns, pattern_first}
use Rattle.spec_rules.specs.Patterns.{PatternKind, Discard, Variable, Assign, Integer, ByteString, ListOfAll, ListWithRest, Constructor, Pair, Tuple, Unknown, one_constructor, decorated}
use Rattle.spec_rules.specs.Rows.{Step, pair, tuple, constr, list, listtail, Path, into, same_path}
use Rattle.spec_rules.specs.Columns.{step_index}
use Rattle.spec_rules.specs.SplittingLaws.{not_true_false}
use Rattle.spec_rules.specs.TreeFile.{path_number}
use Rattle.spec_accepted.specs.SheetFacts.{Counted, Shaped}
use Rattle.spec_file.specs.PathsLaws.{same_path_refl, same_path_sound, same_path_make, path_number_first, path_number_rest}
use Rattle.build_table.specs.Standing.{or_self, kind_of, is_tail, step_to, follows, path_of, type_of, above_of, index_of, step_of, step_number, step_type, paths_from, sheet_paths, class_of, same_step_as}
use Rattle.build_table.specs.StandingLaws.{Place, as_root, as_child, place, by_standing, root_path, root_step, child_above, child_index, child_step, above_below, path_above}
use Rattle.build_table.specs.PathsLaws.{Steps, none_some, step_to_steps}

-- ---- the lowest pattern with a path
pub record Class (s : List ℕ) (p c : ℕ) : Type 0 where
  pub up_to : c ≤ p
  pub path : path_of s c ≡ path_of s p
  pub lowest_one : (q : ℕ) → q < c → path_of s q ≡ path_of s p → ⊥

-- of the n patterns from k on, if q is among them
record ClassFrom (s : List ℕ) (path : Path) (k q c : ℕ) : Type 0 where
  from : k ≤ c
  up_to : c ≤ q
  same : path_of s c ≡ path
  lowest_one : (i : ℕ) → k ≤ i → i < c → path_of s i ≡ path → ⊥

class_from : (s : List ℕ) (path : Path) (k n q : ℕ) → k ≤ q → q < k + n → path_of s q ≡ path → ClassFrom s path k q (k + path_number (paths_from s k n) path)
unfolding paths_from
class_from s path k zero q low high e = absurd (omega arith)
class_from s path k (suc n) q low high e = go (same_path path (path_of s k)) refl (class_from s path (k + 1) n q)
  where
    rest : List Path
    rest = paths_from s (k + 1) n

    go : (b : Bool) → same_path path (path_of s k) ≡ b
        → (k + 1 ≤ q → q < k + 1 + n → path_of s q ≡ path → ClassFrom s path (k + 1) q (k + 1 + path_number rest path))
        → ClassFrom s path k q (k + path_number (path_of s k ∷ rest) path)
    go true x ih =
        let z : k + path_number (path_of s k ∷ rest) path ≡ k = omega (arith, path_number_first (path_of s k) rest path x) in
        rw z (record { from = omega arith; up_to = low; same = sym (same_path_sound path (path_of s k) x); lowest_one = λ i a b f. absurd (omega arith) })
    go false x ih =
        let other : q ≡ k → ⊥ = λ d. true≢false (sym (ap (same_path path) (ap (path_of s) (sym d) ∙ e) ∙ same_path_refl path) ∙ x) in
        let w = ih (omega arith) (omega arith) e in
        let z : k + path_number (path_of s k ∷ rest) path ≡ k + 1 + path_number rest path = omega (arith, path_number_rest (path_of s k) rest path x) in
        rw z
        (record {
          from = omega (arith, w.from);
          up_to = w.up_to;
          same = w.same;
          lowest_one = λ i a b f. ⊎_elim (λ d. true≢false (sym (ap (same_path path) (ap (path_of s) d ∙ f) ∙ same_path_refl path) ∙ x)) (λ l. w.lowest_one i (omega arith) b f) (eq-or-lt_of_le a);
        })

class_of_number : (s : List ℕ) (p : ℕ) → class_of s p ≡ 0 + path_number (paths_from s 0 (patterns s)) (path_of s p)
unfolding class_of sheet_paths
class_of_number s p = sym (zero-add _)

pub class : (s : List ℕ) (p : ℕ) → p < patterns s → Class s p (class_of s p)
class s p h =
    let w = class_from s (path_of s p) 0 (patterns s) p (omega arith) (omega arith) refl in
    rw (class_of_number s p) (record { up_to = w.up_to; path = w.same; lowest_one = λ q l e. w.lowest_one q (omega arith) l e })

pub class_known : (s : List ℕ) (p : ℕ) → p < patterns s → class_of s p < patterns s
class_known s p h = omega (arith, (class s p h).up_to)

pub class_below : (s : List ℕ) (p : ℕ) → p < patterns s → class_of s p ≤ p
class_below s p h = (class s p h).up_to

pub same_path_class : (s : List ℕ) (p q : ℕ) → path_of s p ≡ path_of s q → class_of s p ≡ class_of s q
unfolding class_of
same_path_class s p q e = ap (path_number (sheet_paths s)) e

pub same_class_path : (s : List ℕ) (p q : ℕ) → p < patterns s → q < patterns s → class_of s p ≡ class_of s q → path_of s p ≡ path_of s q
same_class_path s p q h l e = sym (class s p h).path ∙ ap (path_of s) e ∙ (class s q l).path

pub class_of_class : (s : List ℕ) (p : ℕ) → p < patterns s → class_of s (class_of s p) ≡ class_of s p
class_of_class s p h = same_path_class s (class_of s p) p (class s p h).path

pub same_path_class_lem : (s : List ℕ) (p q : ℕ) → p < patterns s → q < patterns s → same_path (path_of s p) (path_of s q) ≡ eqb (class_of s p) (class_of s q)
same_path_class_lem s p q h l = go (eqb (class_of s p) (class_of s q)) refl
  where
    go : (b : Bool) → eqb (class_of s p) (class_of s q) ≡ b → same_path (path_of s p) (path_of s q) ≡ b
    go true e = same_path_make (path_of s p) (path_of s q) (same_class_path s p q h l (eqb-true _ _ e))
    go false e = not_true_false (same_path (path_of s p) (path_of s q)) (λ x. eqb-false _ _ e (same_path_class s p q (same_path_sound (path_of s p) (path_of s q) x)))

-- ---- steps: what a step's number, index and type say of it
-- the step with this number and index, from a part of type t
step_made : List ℕ → ℕ → ℕ → ℕ → Option Step
step_made s n i t =
    pick (eqb n pair_step) (some (pair i t))
    (pick (eqb n tuple_step) (some (tuple i t))
    (pick (eqb n constr_step) (some (constr i (both (one_constructor s t) (decorated s t)) t))
    (pick (eqb n list_step) (some (list i t))
    (pick (eqb n listtail_step) (some (listtail i t))
    none))))

step_to_made : (s : List ℕ) (p t i : ℕ) (kind : PatternKind) → step_to s p t kind i ≡ step_made s (step_number (step_to s p t kind i)) i t
unfolding step_to step_made step_number
step_to_made s p t i Discard = refl
step_to_made s p t i Variable = refl
step_to_made s p t i Assign = refl
step_to_made s p t i Integer = refl
step_to_made s p t i ByteString = refl
step_to_made s p t i ListOfAll = refl
step_to_made s p t i ListWithRest = go (is_tail s p i)
  where
    go : (last : Bool) → some (pick last (listtail i t) (list i t)) ≡ step_made s (step_number (some (pick last (listtail i t) (list i t)))) i t
    go true = refl
    go false = refl
step_to_made s p t i Constructor = refl
step_to_made s p t i Pair = refl
step_to_made s p t i Tuple = refl
step_to_made s p t i Unknown = refl

snoc_some : (p : Path) (x : Step) → [] ≡ p ++ x ∷ [] → ⊥
snoc_some p x e = omega (arith, length-append p (x ∷ []), ap length e)

snoc_same : (p q : Path) (x y : Step) → p ++ x ∷ [] ≡ q ++ y ∷ [] → (p ≡ q) × (x ≡ y)
snoc_same [] [] x y e = (refl, cc)
snoc_same [] (b ∷ q) x y e = let d : [] ≡ q ++ y ∷ [] = cc in absurd (snoc_some q y d)
snoc_same (a ∷ p) [] x y e = let d : [] ≡ p ++ x ∷ [] = cc in absurd (snoc_some p x d)
snoc_same (a ∷ p) (b ∷ q) x y e =
    let c : a ≡ b = cc in
    let d : p ++ x ∷ [] ≡ q ++ y ∷ [] = cc in
    let w = snoc_same p q x y d in
    (ap₂ ◌∷◌ c w.0, w.1)

pub into_same : (p q : Path) (x y : Step) → into p x ≡ into q y → (p ≡ q) × (x ≡ y)
unfolding into
into_same p q x y e = snoc_same p q x y e

pub into_some : (p : Path) (x : Step) → [] ≡ into p x → ⊥
unfolding into
into_some p x e = snoc_some p x e

module _ {s : List ℕ} (sh : Shaped s) (few : Counted s) where
  step_made_lem : (p : ℕ) → p < patterns s → step_of s p ≡ step_made s (step_number (step_of s p)) (index_of s p) (type_of s (above_of s p))
  unfolding step_made step_number
  step_made_lem =
      by_standing sh (λ p. step_of s p ≡ step_made s (step_number (step_of s p)) (index_of s p) (type_of s (above_of s p)))
      (λ c h. rw (root_step sh c h))
      (λ p j h o ih. rw (child_step sh p j h o, child_index sh p j h o, child_above sh p j h o) (step_to_made s p (type_of s p) (j - pattern_first s p) (kind_of s p)))

  pub step_steps : (p : ℕ) → p < patterns s → (step : Step) → step_of s p ≡ some step → Steps (index_of s p) (type_of s (above_of s p)) step
  step_steps =
      by_standing sh (λ p. (step : Step) → step_of s p ≡ some step → Steps (index_of s p) (type_of s (above_of s p)) step)
      (λ c h step e. absurd (none_some step (sym (root_step sh c h) ∙ e)))
      (λ p j h o ih step e.
      rw (child_index sh p j h o, child_above sh p j h o) (step_to_steps s p (type_of s p) (j - pattern_first s p) (kind_of s p) step (sym (child_step sh p j h o) ∙ e)))

  above_known : (p : ℕ) → p < patterns s → above_of s p < patterns s
  above_known p h = omega (arith, above_below sh p h)

  -- where a pattern's last step, the class above and the type above are those of another, so is its path
  pub same_step_path : (q p : ℕ) → q < patterns s → p < patterns s → same_step_as s q p ≡ true → path_of s q ≡ path_of s p
  unfolding same_step_as
  same_step_path q p l h e =
      let a = both_true (eqb (step_number (step_of s q)) (step_number (step_of s p))) _ e in
      let b = both_true (eqb (index_of s q) (index_of s p)) _ a.1 in
      let c = both_true (eqb (class_of s (above_of s q)) (class_of s (above_of s p))) _ b.1 in
      let number = eqb-true (step_number (step_of s q)) (step_number (step_of s p)) a.0 in
      let index = eqb-true (index_of s q) (index_of s p) b.0 in
      let type = eqb-true (type_of s (above_of s q)) (type_of s (above_of s p)) c.1 in
      let path = same_class_path s (above_of s q) (above_of s p) (above_known q l) (above_known p h) (eqb-true _ _ c.0) in
      let step : step_of s q ≡ step_of s p = step_made_lem q l ∙ rw (number, index, type) (sym (step_made_lem p h)) in
      path_above sh few q l ∙ rw (path, step) (sym (path_above sh few p h))

  -- the other way round, of two patterns that steps lead to
  pub same_path_step : (q p : ℕ) (x y : Step) → q < patterns s → p < patterns s → step_of s q ≡ some x → step_of s p ≡ some y → path_of s q ≡ path_of s p
      → same_step_as s q p ≡ true
  unfolding same_step_as follows
  same_path_step q p x y l h ex ey e =
      let pq : path_of s q ≡ into (path_of s (above_of s q)) x = path_above sh few q l ∙ ap (follows (path_of s (above_of s q))) ex in
      let pp : path_of s p ≡ into (path_of s (above_of s p)) y = path_above sh few p h ∙ ap (follows (path_of s (above_of s p))) ey in
      let w = into_same (path_of s (above_of s q)) (path_of s (above_of s p)) x y (sym pq ∙ e ∙ pp) in
      let step : step_of s q ≡ step_of s p = ex ∙ ap some w.1 ∙ sym ey in
      let sq = step_steps q l x ex in
      let sp = step_steps p h y ey in
      both_make _ _ (eq-eqb _ _ (ap step_number step))
      (both_make _ _ (eq-eqb _ _ (sym sq.index ∙ ap step_index w.1 ∙ sp.index))
      (both_make _ _ (eq-eqb _ _ (same_path_class s (above_of s q) (above_of s p) w.0))
      (eq-eqb _ _ (sym sq.type ∙ ap step_type w.1 ∙ sp.type))))

  -- ---- the class of a pattern by its step
  -- with no step it is that of the pattern above
  pub class_above : (p : ℕ) → p < patterns s → step_of s p ≡ none → class_of s p ≡ class_of s (above_of s p)
  unfolding follows
  class_above p h e = same_path_class s p (above_of s p) (path_above sh few p h ∙ ap (follows (path_of s (above_of s p))) e)

  -- a step leads to the class of a pattern that a step leads to
  class_stepped : (p : ℕ) (y : Step) → p < patterns s → step_of s p ≡ some y → (x : Step) × (step_of s (class_of s p) ≡ some x)
  unfolding follows
  class_stepped p y h e = go (step_of s (class_of s p)) refl (place sh (class_of s p) (class_known s p h))
    where
      c : ℕ
      c = class_of s p

      far : path_of s p ≡ into (path_of s (above_of s p)) y
      far = path_above sh few p h ∙ ap (follows (path_of s (above_of s p))) e

      go : (step : Option Step) → step_of s c ≡ step → Place s c → (x : Step) × (step_of s c ≡ some x)
      go (some x) f at = (x, f)
      go none f (as_root d l r) =
          absurd (into_some (path_of s (above_of s p)) y (sym (root_path sh d l) ∙ ap (path_of s) r ∙ (class s p h).path ∙ far))
      go none f (as_child q j l b o r) =
          let up : above_of s c ≡ q = ap (above_of s) (sym r) ∙ child_above sh q j l o in
          let path : path_of s c ≡ path_of s q = path_above sh few c (class_known s p h) ∙ ap₂ follows (ap (path_of s) up) f in
          absurd ((class s p h).lowest_one q b (sym path ∙ (class s p h).path))

  -- with a step it is the lowest pattern with the same one, or itself
  pub class_by_step : (p : ℕ) (y : Step) → p < patterns s → step_of s p ≡ some y → or_self (lowest (λ q. same_step_as s q p) 0 p) p ≡ class_of s p
  class_by_step p y h e = go (lowest (λ q. same_step_as s q p) 0 p) refl
    where
      own : same_step_as s (class_of s p) p ≡ true
      own =
          let w = class_stepped p y h e in
          same_path_step (class_of s p) p w.0 y (class_known s p h) h w.1 e (class s p h).path

      go : (found : Option ℕ) → lowest (λ q. same_step_as s q p) 0 p ≡ found → or_self found p ≡ class_of s p
      go none f =
          let at : class_of s p < p → ⊥ = λ l. true≢false (sym own ∙ lowest_none (λ q. same_step_as s q p) 0 p f (class_of s p) (omega arith) (omega arith)) in
          omega (arith, (class s p h).up_to)
      go (some q) f =
          let w = lowest_some (λ q. same_step_as s q p) 0 p q f in
          let here : path_of s q ≡ path_of s p = same_step_path q p (omega (arith, w.to)) h w.has in
          let not_above : q < class_of s p → ⊥ = λ l. (class s p h).lowest_one q l here in
          let not_below : class_of s p < q → ⊥ = λ l. true≢false (sym own ∙ w.none_below (class_of s p) (omega arith) l) in
          omega arith
