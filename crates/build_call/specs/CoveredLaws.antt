-- Every path that the tree before hoisting uses is the path of a pattern, by its number: so the paths of all patterns are a table that has it.
-- Rests on where patterns stand, said twice: by levels (crate spec_theorems) and by numbers (crate build_table).
use Rattle.std.specs.Prelude.{◌≡◌, refl, Bool, true, false, List, ◌∷◌, ◌++◌, eqb, length}
use Rattle.std.proofs.Math.Path.{sym, ap}
use Rattle.std.proofs.Common.{◌∙◌, ⊎_elim, arith, eqb-true}
use Prim.Native.Nat.{ℕ, zero, suc, ◌+◌, ◌-◌, ◌≤◌, ◌<◌}
use Rattle.std.proofs.lemmas.Bool.{eqb-false}
use Rattle.base_words.specs.Words.{pick}
use Rattle.base_words.specs.WordsLaws.{either_true}
use Rattle.spec_rules.specs.SheetFile.{patterns, pattern_first, pattern_count}
use Rattle.spec_rules.specs.Patterns.{PatternKind, Discard, Variable, Assign, Integer, ByteString, ListOfAll, ListWithRest, Constructor, Pair, Tuple, Unknown}
use Rattle.spec_rules.specs.Rows.{Path, into, list, listtail}
use Rattle.spec_rules.specs.Building.{Tree, absent, leaf, hoist, switch, listswitch, Cases, cnil, ccons}
use Rattle.spec_rules.specs.TreeFile.{binding_paths, paths_used, paths_used_of, is_among}
use Rattle.spec_rules.specs.Calls.{sheet_patterns, sheet_tree}
use Rattle.spec_accepted.specs.SheetFacts.{Shaped, Counted, Accepted}
use Rattle.spec_file.specs.PathsLaws.{Covers, is_among_first, is_among_rest, is_among_left, is_among_right, is_among_cases, is_among_append}
use Rattle.spec_hoist.specs.Trees.{unhoisted, unhoisted_of}
use Rattle.spec_theorems.specs.Stands.{part_path, part_type, Stands, Used}
use Rattle.spec_theorems.specs.SheetLeaves.{whole_unhoisted}
use Rattle.spec_theorems.proofs.BuiltTree.{sheet_used}
use Rattle.build_table.specs.Standing.{Standing, path_of, type_of, kind_of, is_tail, step_to, type_to, follows, child_standing, paths_from, sheet_paths}
use Rattle.build_table.specs.StandingLaws.{standing_child, root_path, root_type}
use Rattle.build_call.specs.VerdictLaws.{raw_tree}

-- ---- a part's path and type, in the words of both
same_path : (s : List ℕ) (p t i : ℕ) (x : Path) (kind : PatternKind) → part_path s p t x i kind ≡ follows x (step_to s p t kind i)
unfolding part_path follows step_to is_tail
same_path s p t i x Discard = refl
same_path s p t i x Variable = refl
same_path s p t i x Assign = refl
same_path s p t i x Integer = refl
same_path s p t i x ByteString = refl
same_path s p t i x ListOfAll = refl
same_path s p t i x ListWithRest = go (eqb (i + 1) (pattern_count s p))
  where
    go : (b : Bool) → pick b (into x (listtail i t)) (into x (list i t)) ≡ into x (pick b (listtail i t) (list i t))
    go true = refl
    go false = refl
same_path s p t i x Constructor = refl
same_path s p t i x Pair = refl
same_path s p t i x Tuple = refl
same_path s p t i x Unknown = refl

same_type : (s : List ℕ) (p t i : ℕ) (kind : PatternKind) → part_type s p t i kind ≡ type_to s p t kind i
unfolding part_type type_to is_tail
same_type s p t i Discard = refl
same_type s p t i Variable = refl
same_type s p t i Assign = refl
same_type s p t i Integer = refl
same_type s p t i ByteString = refl
same_type s p t i ListOfAll = refl
same_type s p t i ListWithRest = refl
same_type s p t i Constructor = refl
same_type s p t i Pair = refl
same_type s p t i Tuple = refl
same_type s p t i Unknown = refl

-- ---- where a pattern stands by levels is where it stands by its number
module _ {s : List ℕ} (sh : Shaped s) (few : Counted s) where
  stands_at : (n k : ℕ) (x : Path) (t : ℕ) → Stands s n k x t → (x ≡ path_of s k) × (t ≡ type_of s k)
  unfolding Stands child_standing kind_of
  stands_at zero k x t r = (
    r.path_is ∙ sym (root_path sh r.clause r.known) ∙ ap (path_of s) r.is,
    r.type_is ∙ sym (root_type sh r.clause r.known) ∙ ap (type_of s) r.is,
  )
  stands_at (suc n) k x t r =
      let (p, u) = stands_at n r.owner r.its_path r.its_type r.above in
      let e = standing_child sh few r.owner r.item r.known r.owns in
      let i = r.item - pattern_first s r.owner in (
        r.path_is ∙ same_path s r.owner r.its_type i r.its_path (kind_of s r.owner) ∙ (λ j. follows (p j) (step_to s r.owner (u j) (kind_of s r.owner) i))
            ∙ sym (ap (λ (z : Standing). z.path) e) ∙ ap (path_of s) r.is,
        r.type_is ∙ same_type s r.owner r.its_type i (kind_of s r.owner) ∙ ap (λ z. type_to s r.owner z (kind_of s r.owner) i) u
            ∙ sym (ap (λ (z : Standing). z.type) e) ∙ ap (type_of s) r.is,
      )

-- ---- the paths of all patterns
among_from : (s : List ℕ) (p n k : ℕ) → p ≤ k → k < p + n → is_among (path_of s k) (paths_from s p n) ≡ true
unfolding paths_from
among_from s p zero k low high = absurd (omega arith)
among_from s p (suc n) k low high = go (eqb p k) refl (among_from s (p + 1) n k)
  where
    go : (b : Bool) → eqb p k ≡ b → (p + 1 ≤ k → k < p + 1 + n → is_among (path_of s k) (paths_from s (p + 1) n) ≡ true)
        → is_among (path_of s k) (path_of s p ∷ paths_from s (p + 1) n) ≡ true
    go true e ih = rw (eqb-true p k e) (is_among_first (path_of s k) (paths_from s (k + 1) n))
    go false e ih = let d = eqb-false p k e in is_among_rest (path_of s k) (path_of s p) (paths_from s (p + 1) n) (ih (below d) (omega arith))
      where
        below : (p ≡ k → ⊥) → p + 1 ≤ k
        below d = omega arith

length_from : (s : List ℕ) (p n : ℕ) → length (paths_from s p n) ≡ n
unfolding paths_from
length_from s p zero = refl
length_from s p (suc n) = ap suc (length_from s (p + 1) n)

pub length_paths : (s : List ℕ) → length (sheet_paths s) ≡ patterns s
unfolding sheet_paths
length_paths s = length_from s 0 (patterns s)

-- ---- among two lists, part by part
first_or : (q p : Path) (ps qs : List Path) → is_among p (q ∷ ps) ≡ true → (is_among p ps ≡ true → is_among p qs ≡ true) → is_among p (q ∷ qs) ≡ true
first_or q p ps qs h f = ⊎_elim (λ e. rw (← e) (is_among_first p qs)) (λ g. is_among_rest p q qs (f g)) (is_among_cases p q ps h)

both_parts : (p : Path) (ps qs ps' qs' : List Path) → is_among p (ps ++ qs) ≡ true → (is_among p ps ≡ true → is_among p ps' ≡ true)
    → (is_among p qs ≡ true → is_among p qs' ≡ true) → is_among p (ps' ++ qs') ≡ true
both_parts p ps qs ps' qs' h f g =
    ⊎_elim (λ x. is_among_left p ps' qs' (f x)) (λ x. is_among_right p ps' qs' (g x)) (either_true (is_among p ps) (is_among p qs) (sym (is_among_append p ps qs) ∙ h))

-- ---- a tree without its hoists uses no other path
mutual
  unfolding paths_used unhoisted

  unhoisted_uses : (a : Tree) (p : Path) → is_among p (paths_used (unhoisted a)) ≡ true → is_among p (paths_used a) ≡ true
  unhoisted_uses absent p h = h
  unhoisted_uses (leaf c bs) p h = h
  unhoisted_uses (hoist c bs a) p h = is_among_right p (binding_paths bs) (paths_used a) (unhoisted_uses a p h)
  unhoisted_uses (switch q cs d) p h =
      first_or q p _ _ h (λ g. both_parts p _ _ _ _ g (λ f. unhoisted_uses_of cs p f) (λ f. unhoisted_uses d p f))
  unhoisted_uses (listswitch q cs ts d) p h =
      first_or q p _ _ h (λ g. both_parts p _ _ _ _ g (λ f. unhoisted_uses_of cs p f) (λ f. both_parts p _ _ _ _ f (λ e. unhoisted_uses_of ts p e) (λ e. unhoisted_uses d p e)))

  unhoisted_uses_of : (cs : Cases) (p : Path) → is_among p (paths_used_of (unhoisted_of cs)) ≡ true → is_among p (paths_used_of cs) ≡ true
  unhoisted_uses_of cnil p h = h
  unhoisted_uses_of (ccons t at a cs) p h = both_parts p _ _ _ _ h (λ f. unhoisted_uses a p f) (λ f. unhoisted_uses_of cs p f)

-- THEOREM: the paths of all patterns cover those that the tree uses
pub raw_covered : {s : List ℕ} → Accepted s → Covers (sheet_paths s) (paths_used (raw_tree s))
unfolding sheet_paths sheet_tree
raw_covered {s} a = record { among = λ p h. at p (sheet_used s a p (unhoisted_uses (sheet_tree s) p (rw (whole_unhoisted (sheet_patterns s)) h))) }
  where
    at : (p : Path) → Used s p → is_among p (paths_from s 0 (patterns s)) ≡ true
    at p u =
        let e = (stands_at a.is_shaped a.is_counted u.level u.number p u.type u.stands).0 in
        rw e (among_from s 0 (patterns s) u.number (omega arith) (omega (arith, u.known)))
