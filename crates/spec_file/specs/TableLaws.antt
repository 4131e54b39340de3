-- Steps, paths and bindings of a tree file read back: a path's number gives the path, a run of bindings the bindings.
-- Also that these records keep the reader's rules.
use Rattle.std.specs.Prelude.{◌≡◌, ℕ, zero, suc, ◌+◌, ◌*◌, ◌≤◌, ◌<◌, get_or}
use Rattle.std.proofs.Math.Path.{refl}
use Rattle.std.proofs.Common.{◌∙◌, arith, add-zero, zero-add, lt-ltb}
use Rattle.std.proofs.Math.Bool.{true, false}
use mathlib.Core.List.{List, [], ◌∷◌, ◌++◌}
use Rattle.std.proofs.Math.ListN.{length}
use Rattle.base_words.specs.Words.{word_bytes}
use Rattle.base_words.specs.WordsLaws.{both_make}
use Rattle.spec_rules.specs.Limits.{binding_size, path_size, step_size}
use Rattle.spec_rules.specs.Searching.{every}
use Rattle.spec_rules.specs.Rows.{Step, pair, tuple, constr, list, listtail, Path, bit, step_fields, Binding}
use Rattle.spec_rules.specs.TreeFile.{binding_paths, is_among, path_number, first_of, bindings_bytes, paths_bytes, step_bytes, path_steps, steps_bytes}
use Rattle.spec_rules.specs.TreeReader.{tree_bindings_at, tree_paths_at, tree_steps_at, paths, steps, step_keeps_rules, path_keeps_rules, binding_keeps_rules, step_at, steps_from, path_at, bindings_from}
use Rattle.spec_file.specs.PathsLaws.{Covers, covers_first, covers_rest, path_numbered}
use Rattle.spec_file.specs.StandingLaws.{Stands, stands_left, stands_right}
use Rattle.spec_file.specs.Writable.{steps_in}
use Rattle.spec_file.specs.LengthLaws.{length_step_bytes, length_path_steps}
use Rattle.spec_file.specs.RunLaws.{every_append, run_in_lem}
use Rattle.spec_file.specs.RecordsLaws.{StepIs, step_is, step_at_is, BindingIs, binding_is, PathIs, path_is}
use Rattle.spec_file.specs.TreeStandsLaws.{rest_bindings}

module _ (t : List ℕ) where
  -- ---- steps
  pub steps_read : (p : Path) (i : ℕ) → Stands t (tree_steps_at t + step_size * i) (path_steps p) → steps_from t i (length p) ≡ p
  unfolding path_steps steps_from
  steps_read [] i h = refl
  steps_read (s ∷ ss) i h =
      let first = step_is t i s (stands_left (step_bytes s) (path_steps ss) h) in
      let rest = stands_right (step_bytes s) (path_steps ss) (tree_steps_at t + step_size * (i + 1)) (omega (arith, length_step_bytes s)) h in
      let e : step_at t i ≡ s = step_at_is t i s first in
      let f : steps_from t (i + 1) (length ss) ≡ ss = steps_read ss (i + 1) rest in
      cc

  step_keeps_rules_lem : (i : ℕ) (s : Step) → StepIs t i (step_fields s) → step_keeps_rules t i ≡ true
  unfolding step_keeps_rules step_fields bit
  step_keeps_rules_lem i (pair j u) h = rw (h.kind_is, h.flag_is)
  step_keeps_rules_lem i (tuple j u) h = rw (h.kind_is, h.flag_is)
  step_keeps_rules_lem i (constr j true u) h = rw (h.kind_is, h.flag_is)
  step_keeps_rules_lem i (constr j false u) h = rw (h.kind_is, h.flag_is)
  step_keeps_rules_lem i (list j u) h = rw (h.kind_is, h.flag_is)
  step_keeps_rules_lem i (listtail j u) h = rw (h.kind_is, h.flag_is)

  path_steps_keep_rules : (p : Path) (i : ℕ) → Stands t (tree_steps_at t + step_size * i) (path_steps p) → every (step_keeps_rules t) i (length p) ≡ true
  unfolding path_steps every
  path_steps_keep_rules [] i h = refl
  path_steps_keep_rules (s ∷ ss) i h =
      let first = step_is t i s (stands_left (step_bytes s) (path_steps ss) h) in
      let rest = stands_right (step_bytes s) (path_steps ss) (tree_steps_at t + step_size * (i + 1)) (omega (arith, length_step_bytes s)) h in
      both_make (step_keeps_rules t i) (every (step_keeps_rules t) (i + 1) (length ss)) (step_keeps_rules_lem i s first) (path_steps_keep_rules ss (i + 1) rest)

  pub steps_keep_rules : (ps : List Path) (i : ℕ) → Stands t (tree_steps_at t + step_size * i) (steps_bytes ps) → every (step_keeps_rules t) i (steps_in ps) ≡ true
  unfolding steps_bytes steps_in every
  steps_keep_rules [] i h = refl
  steps_keep_rules (p ∷ ps) i h =
      every_append (step_keeps_rules t) i (length p) (steps_in ps) (path_steps_keep_rules p i (stands_left (path_steps p) (steps_bytes ps) h))
      (steps_keep_rules ps (i + length p) (stands_right (path_steps p) (steps_bytes ps) (tree_steps_at t + step_size * (i + length p)) (omega (arith, length_path_steps p)) h))

  -- ---- paths
  steps_from_first : (p : Path) (at : ℕ) → steps_from t (first_of (length p) at) (length p) ≡ steps_from t at (length p)
  unfolding first_of steps_from
  steps_from_first [] at = refl
  steps_from_first (s ∷ ss) at = refl

  path_at_lem : (i at : ℕ) (p : Path) → PathIs t i (first_of (length p) at) (length p) → Stands t (tree_steps_at t + step_size * at) (path_steps p) → path_at t i ≡ p
  unfolding path_at
  path_at_lem i at p h s = rw (h.first_is, h.count_is) (steps_from_first p at ∙ steps_read p at s)

  path_keeps_rules_lem : (i at : ℕ) (p : Path) → PathIs t i (first_of (length p) at) (length p) → at + length p ≤ steps t → path_keeps_rules t i ≡ true
  unfolding path_keeps_rules
  path_keeps_rules_lem i at p h l = rw (h.first_is, h.count_is) (run_in_lem (length p) at (steps t) l)

  -- the record of the first of these paths, and where those of the rest stand
  first_path : (p : Path) (ps : List Path) (i at : ℕ) → Stands t (tree_paths_at t + path_size * i) (paths_bytes at (p ∷ ps)) → PathIs t i (first_of (length p) at) (length p)
  unfolding paths_bytes
  first_path p ps i at h =
      path_is t i (first_of (length p) at) (length p)
      (stands_left (word_bytes (first_of (length p) at) ++ word_bytes (length p)) (paths_bytes (at + length p) ps) h)

  rest_paths : (p : Path) (ps : List Path) (i at : ℕ) → Stands t (tree_paths_at t + path_size * i) (paths_bytes at (p ∷ ps))
      → Stands t (tree_paths_at t + path_size * (i + 1)) (paths_bytes (at + length p) ps)
  unfolding paths_bytes
  rest_paths p ps i at h =
      stands_right (word_bytes (first_of (length p) at) ++ word_bytes (length p)) (paths_bytes (at + length p) ps) (tree_paths_at t + path_size * (i + 1)) (omega arith) h

  first_steps : (p : Path) (ps : List Path) (at : ℕ) → Stands t (tree_steps_at t + step_size * at) (steps_bytes (p ∷ ps)) → Stands t (tree_steps_at t + step_size * at) (path_steps p)
  unfolding steps_bytes
  first_steps p ps at h = stands_left (path_steps p) (steps_bytes ps) h

  rest_steps : (p : Path) (ps : List Path) (at : ℕ) → Stands t (tree_steps_at t + step_size * at) (steps_bytes (p ∷ ps))
      → Stands t (tree_steps_at t + step_size * (at + length p)) (steps_bytes ps)
  unfolding steps_bytes
  rest_steps p ps at h = stands_right (path_steps p) (steps_bytes ps) (tree_steps_at t + step_size * (at + length p)) (omega (arith, length_path_steps p)) h

  pub path_read : (ps : List Path) (i at k : ℕ) → Stands t (tree_paths_at t + path_size * i) (paths_bytes at ps) → Stands t (tree_steps_at t + step_size * at) (steps_bytes ps)
      → k < length ps → path_at t (i + k) ≡ get_or ps k []
  path_read [] i at k h s l = absurd (omega arith)
  path_read (p ∷ ps) i at zero h s l = rw add-zero (path_at_lem i at p (first_path p ps i at h) (first_steps p ps at s))
  path_read (p ∷ ps) i at (suc k) h s l =
      let e : i + suc k ≡ i + 1 + k = omega arith in
      rw e (path_read ps (i + 1) (at + length p) k (rest_paths p ps i at h) (rest_steps p ps at s) (omega arith))

  pub paths_keep_rules : (ps : List Path) (i at : ℕ) → Stands t (tree_paths_at t + path_size * i) (paths_bytes at ps) → at + steps_in ps ≤ steps t
      → every (path_keeps_rules t) i (length ps) ≡ true
  unfolding every steps_in
  paths_keep_rules [] i at h l = refl
  paths_keep_rules (p ∷ ps) i at h l =
      both_make (path_keeps_rules t i) (every (path_keeps_rules t) (i + 1) (length ps))
      (path_keeps_rules_lem i at p (first_path p ps i at h) (omega arith))
      (paths_keep_rules ps (i + 1) (at + length p) (rest_paths p ps i at h) (omega arith))

  -- ---- paths by their numbers, and bindings
  -- each path of the table is read at its number
  pub record Tabled (table : List Path) : Type 0 where
    pub number_inside : (p : Path) → is_among p table ≡ true → path_number table p < paths t
    pub path_there : (p : Path) → is_among p table ≡ true → path_at t (path_number table p) ≡ p

  pub tabled : (table : List Path) → paths t ≡ length table → Stands t (tree_paths_at t) (paths_bytes 0 table) → Stands t (tree_steps_at t) (steps_bytes table) → Tabled table
  tabled table e h s =
      let h' : Stands t (tree_paths_at t + path_size * 0) (paths_bytes 0 table) = rw add-zero h in
      let s' : Stands t (tree_steps_at t + step_size * 0) (steps_bytes table) = rw add-zero s in
      record {
        number_inside = λ p m. omega (arith, (path_numbered table p m).inside);
        path_there = λ p m.
            let n = path_numbered table p m in
            rw zero-add at (path_read table 0 0 (path_number table p) h' s' n.inside) ∙ n.found;
      }

  module _ (table : List Path) (tab : Tabled table) where
    first_binding : (x : Binding) (bs : List Binding) (i : ℕ) → Stands t (tree_bindings_at t + binding_size * i) (bindings_bytes table (x ∷ bs))
        → BindingIs t i x.name (path_number table x.path)
    unfolding bindings_bytes
    first_binding x bs i h =
        binding_is t i x.name (path_number table x.path)
        (stands_left (word_bytes x.name ++ word_bytes (path_number table x.path)) (bindings_bytes table bs) h)

    pub bindings_read : (bs : List Binding) (i : ℕ) → Stands t (tree_bindings_at t + binding_size * i) (bindings_bytes table bs) → Covers table (binding_paths bs)
        → bindings_from t i (length bs) ≡ bs
    unfolding bindings_from binding_paths
    bindings_read [] i h v = refl
    bindings_read (x ∷ bs) i h v =
        let r = first_binding x bs i h in
        let e : path_at t (path_number table x.path) ≡ x.path = tab.path_there x.path (covers_first table x.path (binding_paths bs) v) in
        let f : bindings_from t (i + 1) (length bs) ≡ bs = bindings_read bs (i + 1) (rest_bindings t table (tree_bindings_at t) i x bs h) (covers_rest table x.path (binding_paths bs) v) in
        rw (r.name_is, r.path_is, e, f)

    pub bindings_keep_rules : (bs : List Binding) (i : ℕ) → Stands t (tree_bindings_at t + binding_size * i) (bindings_bytes table bs) → Covers table (binding_paths bs)
        → every (binding_keeps_rules t) i (length bs) ≡ true
    unfolding every binding_keeps_rules binding_paths
    bindings_keep_rules [] i h v = refl
    bindings_keep_rules (x ∷ bs) i h v =
        let r = first_binding x bs i h in
        let l = tab.number_inside x.path (covers_first table x.path (binding_paths bs) v) in
        both_make (binding_keeps_rules t i) (every (binding_keeps_rules t) (i + 1) (length bs))
        (rw r.path_is (lt-ltb (path_number table x.path) (paths t) l))
        (bindings_keep_rules bs (i + 1) (rest_bindings t table (tree_bindings_at t) i x bs h) (covers_rest table x.path (binding_paths bs) v))
