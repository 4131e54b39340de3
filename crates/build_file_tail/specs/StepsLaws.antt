-- A path by its pattern: the path of the pattern above, and its own step; and the bytes of that step by what the table has of the pattern.
-- Rests on the laws of standing and of stores; climbing a path stores its steps from the last to the first.
use Rattle.std.specs.Prelude.{◌≡◌, Bool, true, false, List, [], ◌∷◌, ◌++◌, ℕ, ◌+◌, ◌-◌, ◌*◌, ◌≤◌, ◌<◌, length}
use Rattle.std.proofs.Math.Path.{refl}
use Rattle.std.proofs.Common.{sym, ap, ◌∙◌, append_assoc, append-nil, arith, length-append}
use Rattle.std.proofs.Math.Option.{Option, none, some}
use Rattle.base_words.specs.Words.{both, pick}
use Rattle.base_words.specs.Stored.{stored}
use Rattle.base_words.specs.StoredLaws.{stored_append, stored_swap, stored_nil}
use Rattle.spec_rules.specs.Limits.{step_size}
use Rattle.spec_rules.specs.Kinds.{constr_step}
use Rattle.spec_rules.specs.SheetFile.{patterns, pattern_first}
use Rattle.spec_rules.specs.Patterns.{PatternKind, Discard, Variable, Assign, Integer, ByteString, ListOfAll, ListWithRest, Constructor, Pair, Tuple, Unknown, one_constructor, decorated}
use Rattle.spec_rules.specs.Rows.{Step, pair, tuple, constr, list, listtail, Path, into, bit}
use Rattle.spec_rules.specs.TreeFile.{step_bytes, path_steps}
use Rattle.spec_accepted.specs.SheetFacts.{Accepted, Shaped}
use Rattle.spec_file.specs.LengthLaws.{length_path_steps}
use Rattle.format_sheet.specs.Records.{type_of as type_of_record}
use Rattle.format_records.specs.Records.{step_record}
use Rattle.build_table.specs.Standing.{kind_of, is_tail, step_to, follows, path_of, type_of, above_of, index_of, step_of, same_number, step_number}
use Rattle.build_table.specs.StandingLaws.{by_standing, root_path, root_step, child_index, child_step, child_above, above_below, path_above}
use Rattle.build_file_tail.specs.Tail.{Puts, own_steps, flag_of}
use Rattle.build_file_tail.specs.StoringLaws.{length_put}

-- ---- steps one behind the other
pub path_steps_append : (p q : Path) → path_steps (p ++ q) ≡ path_steps p ++ path_steps q
unfolding path_steps
path_steps_append [] q = refl
path_steps_append (x ∷ p) q = rw (path_steps_append p q) (sym (append_assoc (step_bytes x) (path_steps p) (path_steps q)))

follows_own : (p : Path) (step : Option Step) → follows p step ≡ p ++ own_steps step
unfolding follows into own_steps
follows_own p none = sym (append-nil p)
follows_own p (some step) = refl

-- ---- the bytes of a step
-- a type's record says what makes a field's flag
flag_decorated : (s : List ℕ) (t : ℕ) → bit (both (one_constructor s t) (decorated s t)) ≡ flag_of constr_step (type_of_record s t)
unfolding one_constructor decorated
flag_decorated s t = refl

-- the step to child i of a pattern of type t, if it is one
step_to_bytes : (s : List ℕ) (p t i : ℕ) (kind : PatternKind) → (step_number (step_to s p t kind i) ≡ same_number → ⊥)
    → path_steps (own_steps (step_to s p t kind i))
    ≡ step_record (step_number (step_to s p t kind i)) (flag_of (step_number (step_to s p t kind i)) (type_of_record s t)) i t
unfolding step_to step_number own_steps path_steps step_bytes
step_to_bytes s p t i Discard h = absurd (h refl)
step_to_bytes s p t i Variable h = absurd (h refl)
step_to_bytes s p t i Assign h = absurd (h refl)
step_to_bytes s p t i Integer h = absurd (h refl)
step_to_bytes s p t i ByteString h = absurd (h refl)
step_to_bytes s p t i ListOfAll h = refl
step_to_bytes s p t i ListWithRest h = go (is_tail s p i)
  where
    go : (last : Bool)
        → path_steps (own_steps (some (pick last (listtail i t) (list i t))))
        ≡ step_record (step_number (some (pick last (listtail i t) (list i t)))) (flag_of (step_number (some (pick last (listtail i t) (list i t)))) (type_of_record s t)) i t
    go true = refl
    go false = refl
step_to_bytes s p t i Constructor h = rw (flag_decorated s t)
step_to_bytes s p t i Pair h = refl
step_to_bytes s p t i Tuple h = refl
step_to_bytes s p t i Unknown h = absurd (h refl)

step_number_none : (step : Option Step) → step_number step ≡ same_number → own_steps step ≡ []
unfolding step_number own_steps
step_number_none none e = refl
step_number_none (some (pair i t)) e = absurd (omega arith)
step_number_none (some (tuple i t)) e = absurd (omega arith)
step_number_none (some (constr i b t)) e = absurd (omega arith)
step_number_none (some (list i t)) e = absurd (omega arith)
step_number_none (some (listtail i t)) e = absurd (omega arith)

module _ {s : List ℕ} (ok : Accepted s) where
  -- a pattern with a step of its own has it as its number, flag, index and the type above
  pub step_bytes_lem : (p : ℕ) → p < patterns s → (step_number (step_of s p) ≡ same_number → ⊥)
      → path_steps (own_steps (step_of s p))
      ≡ step_record (step_number (step_of s p)) (flag_of (step_number (step_of s p)) (type_of_record s (type_of s (above_of s p)))) (index_of s p) (type_of s (above_of s p))
  unfolding step_number
  step_bytes_lem =
      by_standing sh
      (λ p. (step_number (step_of s p) ≡ same_number → ⊥)
      → path_steps (own_steps (step_of s p))
      ≡ step_record (step_number (step_of s p)) (flag_of (step_number (step_of s p)) (type_of_record s (type_of s (above_of s p)))) (index_of s p) (type_of s (above_of s p)))
      (λ c h n. absurd (n (ap step_number (root_step sh c h))))
      (λ p j h o ih.
      rw (child_step sh p j h o, child_index sh p j h o, child_above sh p j h o) (step_to_bytes s p (type_of s p) (j - pattern_first s p) (kind_of s p)))
    where
      sh : Shaped s
      sh = ok.is_shaped

  -- one with none has none
  pub no_step : (p : ℕ) → step_number (step_of s p) ≡ same_number → own_steps (step_of s p) ≡ []
  no_step p e = step_number_none (step_of s p) e

  -- ---- the pattern above
  pub above_known : (p : ℕ) → p < patterns s → above_of s p < patterns s
  above_known p h = omega (arith, above_below ok.is_shaped p h)

  pub above_lower : (p : ℕ) → p < patterns s → 0 < length (path_of s p) → above_of s p < p
  above_lower =
      by_standing ok.is_shaped (λ p. 0 < length (path_of s p) → above_of s p < p)
      (λ c h l. absurd (omega (arith, ap length (root_path ok.is_shaped c h))))
      (λ p j h o ih l. rw (child_above ok.is_shaped p j h o) (ok.is_shaped.child_above p j h o))

  pub path_climbs : (p : ℕ) → p < patterns s → path_of s p ≡ path_of s (above_of s p) ++ own_steps (step_of s p)
  path_climbs p h = path_above ok.is_shaped ok.is_counted p h ∙ follows_own (path_of s (above_of s p)) (step_of s p)

-- ---- climbing
-- the steps behind those of p are stored, up to `to`: those of p stored too are those of the class, from `at` on
pub record Climbs (s before now : List ℕ) (at class p to : ℕ) : Type 0 where
  pub known : p < patterns s
  pub as_long : length now ≡ length before
  pub ends : to ≡ at + step_size * length (path_of s p)
  pub inside : to ≤ at + length (path_steps (path_of s class))
  pub goes_on : stored now at (path_steps (path_of s p)) ≡ stored before at (path_steps (path_of s class))

pub climbs : (s l : List ℕ) (at class : ℕ) → class < patterns s → (to : ℕ) → to ≡ at + length (path_steps (path_of s class)) → Climbs s l l at class class to
climbs s l at class h to e = record {
  known = h;
  as_long = refl;
  ends = omega (arith, e, length_path_steps (path_of s class));
  inside = omega (arith, e);
  goes_on = refl;
}

module _ {s : List ℕ} (ok : Accepted s) {before now : List ℕ} {at class p to : ℕ} (x : Climbs s before now at class p to) where
  own_steps_length : length (path_steps (path_of s p)) ≡ length (path_steps (path_of s (above_of s p))) + length (path_steps (own_steps (step_of s p)))
  own_steps_length =
      rw (path_climbs ok p x.known, path_steps_append (path_of s (above_of s p)) (own_steps (step_of s p)))
      (length-append (path_steps (path_of s (above_of s p))) (path_steps (own_steps (step_of s p))))

  -- where the pattern's own step goes
  pub climbs_room : at + length (path_steps (path_of s (above_of s p))) + length (path_steps (own_steps (step_of s p))) ≡ to
  climbs_room = omega (arith, own_steps_length, length_path_steps (path_of s p), x.ends)

  pub climbs_more : {next : List ℕ} {start above : ℕ} → Puts now next start to (path_steps (own_steps (step_of s p))) → above ≡ above_of s p
      → Climbs s before next at class above start
  climbs_more {next} {start} {above} w e =
      let rest = path_steps (path_of s (above_of s p)) in
      let own = path_steps (own_steps (step_of s p)) in
      let seam : at + length rest ≡ start = omega (arith, climbs_room, w.is_end) in
      let whole : rest ++ own ≡ path_steps (path_of s p) =
      sym (ap path_steps (path_climbs ok p x.known) ∙ path_steps_append (path_of s (above_of s p)) (own_steps (step_of s p))) in
      rw e
      (record {
        known = above_known ok p x.known;
        as_long = length_put w ∙ x.as_long;
        ends = omega (arith, seam, length_path_steps (path_of s (above_of s p)));
        inside = omega (arith, w.is_end, x.inside);
        goes_on =
            ap (λ (l : List ℕ). stored l at rest) w.is_stored
            ∙ stored_swap now at start rest own (omega (arith, seam))
            ∙ stored_append now at start rest own seam
            ∙ ap (stored now at) whole
            ∙ x.goes_on;
      })

  -- there is a step left, so the pattern above is a lower one
  pub climbs_lower : at < to → above_of s p < p
  climbs_lower l = above_lower ok p x.known (omega (arith, x.ends))

  pub climbs_all : to ≤ at → now ≡ stored before at (path_steps (path_of s class))
  climbs_all l = sym (stored_nil now at) ∙ ap (stored now at) (sym (empty (path_of s p) (omega (arith, x.ends)))) ∙ x.goes_on
    where
      empty : (q : Path) → length q ≡ 0 → path_steps q ≡ []
      empty [] e = unfold path_steps in refl
      empty (y ∷ q) e = absurd (omega arith)
