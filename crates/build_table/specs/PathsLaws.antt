-- What the paths of patterns are: at most 11 steps, each with an index below the number of children and a type of the sheet.
-- Rests on StandingLaws, the depth of roots, and the counts.
use Rattle.std.specs.Prelude.{◌≡◌, refl, Bool, true, false, List, [], ◌∷◌, ℕ, zero, suc, ◌+◌, ◌-◌, ◌≤◌, ◌<◌, length}
use Rattle.std.proofs.Common.{sym, ap, ◌∙◌, true≢false, arith, length-append}
use Rattle.std.proofs.Math.Option.{Option, none, some}
use Rattle.base_words.specs.Words.{both, pick}
use Rattle.spec_rules.specs.Limits.{depth_most}
use Rattle.spec_rules.specs.SheetFile.{patterns, clauses, pattern_first, child, root}
use Rattle.spec_rules.specs.Patterns.{PatternKind, Discard, Variable, Assign, Integer, ByteString, ListOfAll, ListWithRest, Constructor, Pair, Tuple, Unknown, one_constructor, decorated}
use Rattle.spec_rules.specs.SheetRefusals.{within}
use Rattle.spec_rules.specs.Rows.{Step, pair, tuple, constr, list, listtail, Path, into}
use Rattle.spec_rules.specs.Columns.{step_index}
use Rattle.spec_accepted.specs.SheetFacts.{Counted, Owns, Shaped, within_child}
use Rattle.build_table.specs.Standing.{kind_of, is_tail, step_to, follows, path_of, type_of, above_of, step_type}
use Rattle.build_table.specs.StandingLaws.{Place, as_root, as_child, place, by_standing, root_path, root_above, child_path, child_above, first_path}

pub length_into : (p : Path) (step : Step) → length (into p step) ≡ length p + 1
unfolding into
length_into p step = length-append p (step ∷ [])

pub length_follows : (p : Path) (step : Option Step) → length (follows p step) ≤ length p + 1
unfolding follows
length_follows p none = omega arith
length_follows p (some step) = omega (arith, length_into p step)

-- ---- how long
-- p is as deep as its path at least, and some levels are left below it
record Deep (s : List ℕ) (p : ℕ) : Type 0 where
  left : ℕ
  reaches : within (suc left) s p ≡ true
  long : length (path_of s p) + left < depth_most

within_some : (deep : ℕ) (s : List ℕ) (p : ℕ) → within deep s p ≡ true → (less : ℕ) × (deep ≡ suc less)
unfolding within
within_some zero s p h = absurd (true≢false (sym h))
within_some (suc less) s p h = (less, refl)

module _ {s : List ℕ} (sh : Shaped s) (few : Counted s) (deep : (c : ℕ) → c < clauses s → within depth_most s (root s c) ≡ true) where
  deep_enough : (p : ℕ) → p < patterns s → Deep s p
  deep_enough = by_standing sh (Deep s) at_root at_child
    where
      at_root : (c : ℕ) → c < clauses s → Deep s (root s c)
      at_root c h = record { left = depth_most - 1; reaches = deep c h; long = rw (root_path sh c h) (omega arith) }

      at_child : (p j : ℕ) → p < patterns s → Owns s p j → Deep s p → Deep s (child s j)
      at_child p j h o d =
          let below = within_child s d.left p j d.reaches o in
          let w = within_some d.left s (child s j) below in
          record {
            left = w.0;
            reaches = rw w.1 at below;
            long =
                rw (child_path sh p j h o few)
                (omega (arith, d.long, w.1, length_follows (path_of s p) (step_to s p (type_of s p) (kind_of s p) (j - pattern_first s p))));
          }

  pub path_short : (p : ℕ) → p < patterns s → length (path_of s p) < depth_most
  path_short p h = omega (arith, (deep_enough p h).long)

  -- the pattern above has a path with room for a step more
  pub above_short : (p : ℕ) → p < patterns s → length (path_of s (above_of s p)) + 1 < depth_most
  above_short p h = go (place sh p h)
    where
      go : Place s p → length (path_of s (above_of s p)) + 1 < depth_most
      go (as_root c l e) =
          let none_above : path_of s (above_of s p) ≡ [] = ap (λ (k : ℕ). path_of s (above_of s k)) (sym e) ∙ ap (path_of s) (root_above sh c l) ∙ first_path sh (omega arith) in
          rw none_above (omega arith)
      go (as_child q j l b o e) =
          let d = deep_enough q l in
          let w = within_some d.left s (child s j) (within_child s d.left q j d.reaches o) in
          let up : above_of s p ≡ q = ap (above_of s) (sym e) ∙ child_above sh q j l o in
          rw up (omega (arith, d.long, w.1))

-- ---- of which steps
-- the index and the type of a step
pub record Steps (i t : ℕ) (step : Step) : Type 0 where
  pub index : step_index step ≡ i
  pub type : step_type step ≡ t

pub none_some : (step : Step) → ◌≡◌ {A = Option Step} none (some step) → ⊥
none_some step e = let z : ◌≡◌ {A = ℕ} 0 1 = cc in omega arith

steps_from : (i t : ℕ) (one step : Step) → some one ≡ some step → Steps i t one → Steps i t step
steps_from i t one step e w = let d : one ≡ step = cc in rw d at w

pub step_to_steps : (s : List ℕ) (p t i : ℕ) (kind : PatternKind) (step : Step) → step_to s p t kind i ≡ some step → Steps i t step
unfolding step_to step_index step_type
step_to_steps s p t i Discard step e = absurd (none_some step e)
step_to_steps s p t i Variable step e = absurd (none_some step e)
step_to_steps s p t i Assign step e = absurd (none_some step e)
step_to_steps s p t i Integer step e = absurd (none_some step e)
step_to_steps s p t i ByteString step e = absurd (none_some step e)
step_to_steps s p t i ListOfAll step e = steps_from i t (list i t) step e (record { index = refl; type = refl })
step_to_steps s p t i ListWithRest step e = go (is_tail s p i) e
  where
    go : (last : Bool) → some (pick last (listtail i t) (list i t)) ≡ some step → Steps i t step
    go true x = steps_from i t (listtail i t) step x (record { index = refl; type = refl })
    go false x = steps_from i t (list i t) step x (record { index = refl; type = refl })
step_to_steps s p t i Constructor step e =
    steps_from i t (constr i (both (one_constructor s t) (decorated s t)) t) step e (record { index = refl; type = refl })
step_to_steps s p t i Pair step e = steps_from i t (pair i t) step e (record { index = refl; type = refl })
step_to_steps s p t i Tuple step e = steps_from i t (tuple i t) step e (record { index = refl; type = refl })
step_to_steps s p t i Unknown step e = absurd (none_some step e)
