-- A map's starts and counts are the file's; and a file with a true length and rising starts is mapped.
-- Rests on Reading and the rules' definitions of the tree file.
use Rattle.std.specs.Prelude.{◌≡◌, refl, Bool, List, [], ◌∷◌, ℕ, ◌-◌, length, eqb}
use Rattle.std.proofs.Common.{sym, ap, ◌∙◌, arith, div-one}
use Rattle.base_words.specs.Words.{Bytes, both}
use Rattle.spec_rules.specs.Limits.{node_size, case_size, binding_size, path_size, step_size, tree_trailer}
use Rattle.spec_rules.specs.SheetRefusals.{whole_between}
use Rattle.spec_rules.specs.TreeReader.{tree_start, tree_pool_end, tree_nodes_at, tree_cases_at, tree_bindings_at, tree_paths_at, tree_steps_at, tree_pool_at, tree_sizes, nodes, cases, bindings, paths, steps, tree_pool_size, starts_rise}
use Rattle.spec_accepted.specs.TreeFacts.{TreeLaid, tree_length_small}
use Rattle.format_parts.specs.declared.sections.Section.{Section}
use Rattle.format_parts.specs.Sections.{section_of}
use Rattle.format_tree.specs.declared.layout.TreeMap.{TreeMap}
use Rattle.format_tree.specs.Reading.{map_of, BindingsLie, PathsLie, StepsLie, Mapped}

-- ---- starts and counts
module _ {t : List ℕ} {m : TreeMap} (w : Mapped t m) where
  pub nodes_start : tree_nodes_at t ≡ 0
  nodes_start = sym (ap (λ (n : TreeMap). n.nodes.start) w.is) ∙ w.from_zero

  pub cases_start : tree_cases_at t ≡ m.cases.start
  cases_start = sym (ap (λ (n : TreeMap). n.cases.start) w.is)

  pub bindings_start : tree_bindings_at t ≡ m.bindings.start
  bindings_start = sym (ap (λ (n : TreeMap). n.bindings.start) w.is)

  pub paths_start : tree_paths_at t ≡ m.paths.start
  paths_start = sym (ap (λ (n : TreeMap). n.paths.start) w.is)

  pub steps_start : tree_steps_at t ≡ m.steps.start
  steps_start = sym (ap (λ (n : TreeMap). n.steps.start) w.is)

  pub pool_start : tree_pool_at t ≡ m.pool.start
  pool_start = sym (ap (λ (n : TreeMap). n.pool.start) w.is)

  pub nodes_count : nodes t ≡ m.nodes.count
  nodes_count = sym (ap (λ (n : TreeMap). n.nodes.count) w.is)

  pub cases_count : cases t ≡ m.cases.count
  cases_count = sym (ap (λ (n : TreeMap). n.cases.count) w.is)

  pub bindings_count : bindings t ≡ m.bindings.count
  bindings_count = sym (ap (λ (n : TreeMap). n.bindings.count) w.is)

  pub paths_count : paths t ≡ m.paths.count
  paths_count = sym (ap (λ (n : TreeMap). n.paths.count) w.is)

  pub steps_count : steps t ≡ m.steps.count
  steps_count = sym (ap (λ (n : TreeMap). n.steps.count) w.is)

  pub pool_count : tree_pool_size t ≡ m.pool.count
  pool_count = sym (ap (λ (n : TreeMap). n.pool.count) w.is)

  -- the map that was given is the file's own
  -- each section lies in the file
  pub bindings_lie : BindingsLie t
  bindings_lie = rw (bindings_start, bindings_count) (omega (arith, w.bindings_end, w.paths_end, w.steps_end, w.pool_end_holds))

  pub paths_lie : PathsLie t
  paths_lie = rw (paths_start, paths_count) (omega (arith, w.paths_end, w.steps_end, w.pool_end_holds))

  pub steps_lie : StepsLie t
  steps_lie = rw (steps_start, steps_count) (omega (arith, w.steps_end, w.pool_end_holds))

-- ---- the layout, as functions read it
-- the starts a to f and the end of the pool, as a function reads them one by one
abbrev pub starts_whole : ℕ → ℕ → ℕ → ℕ → ℕ → ℕ → ℕ → Bool
starts_whole a b c d e f end = both (eqb a 0) (whole_between tree_sizes (a ∷ b ∷ c ∷ d ∷ e ∷ f ∷ end ∷ []))

pub starts_rise_is : (t : List ℕ) (a b c d e f : ℕ)
    → a ≡ tree_start t 0 → b ≡ tree_start t 1 → c ≡ tree_start t 2 → d ≡ tree_start t 3 → e ≡ tree_start t 4 → f ≡ tree_start t 5
    → starts_rise t ≡ starts_whole a b c d e f (length t - tree_trailer)
unfolding starts_rise tree_nodes_at tree_cases_at tree_bindings_at tree_paths_at tree_steps_at tree_pool_at tree_pool_end
starts_rise_is t a b c d e f ea eb ec ed ee ef = rw (ea, eb, ec, ed, ee, ef)

-- the map, made of sections from one start to the next
pub map_is : (t : List ℕ) (a b c d e f : ℕ)
    → a ≡ tree_start t 0 → b ≡ tree_start t 1 → c ≡ tree_start t 2 → d ≡ tree_start t 3 → e ≡ tree_start t 4 → f ≡ tree_start t 5
    → (na ca ba pa sa po : Section) → na ≡ section_of a b node_size → ca ≡ section_of b c case_size → ba ≡ section_of c d binding_size → pa ≡ section_of d e path_size
    → sa ≡ section_of e f step_size → po ≡ section_of f (length t - tree_trailer) 1
    → ◌≡◌ {A = TreeMap} (record { nodes = na; cases = ca; bindings = ba; paths = pa; steps = sa; pool = po }) (map_of t)
unfolding tree_nodes_at tree_cases_at tree_bindings_at tree_paths_at tree_steps_at tree_pool_at tree_pool_end nodes cases bindings paths steps tree_pool_size
map_is t a b c d e f ea eb ec ed ee ef na ca ba pa sa po en ek em ep es eo = simp (en, ek, em, ep, es, eo, ea, eb, ec, ed, ee, ef, div-one)

-- the map of a file whose starts rise by whole records
pub mapped : (t : List ℕ) → Bytes t → TreeLaid t → Mapped t (map_of t)
mapped t bytes laid = record {
  is = refl;
  from_zero = laid.nodes_start;
  nodes_end = omega (arith, laid.nodes_start, laid.nodes_end);
  cases_end = laid.cases_end;
  bindings_end = laid.bindings_end;
  paths_end = laid.paths_end;
  steps_end = laid.steps_end;
  pool_end_holds = omega (arith, laid.pool_end_holds, laid.trailer_end);
  short = omega (arith, tree_length_small laid bytes);
}
