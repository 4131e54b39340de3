-- What follows from these facts: the refusals 12, 13 and 14 that the code gives, what finding scopes and writing ask, and the file written.
-- Rests on what hoisting adds to a tree, on what is written, and on the file's sections.
use Rattle.std.specs.Prelude.{◌≡◌, Bool, Ok, ℕ, zero, suc, ◌+◌, ◌*◌, ◌≤◌, ◌<◌}
use Rattle.std.proofs.Math.Path.{refl, sym, ap}
use Rattle.std.proofs.Common.{ap₂, subst, ◌∙◌}
use Rattle.std.proofs.Math.Bool.{true, false, not}
use mathlib.Core.List.{List, []}
use Rattle.std.proofs.Math.Option.{Option, none, some}
use native.Mathlib.Omega.{arith}
use Rattle.std.proofs.Math.ListN.{length, get_or}
use Rattle.base_words.specs.Words.{pick, zeros}
use Rattle.base_words.specs.Stored.{stored}
use Rattle.base_words.specs.StoredLaws.{stored_zeros}
use Rattle.spec_rules.specs.Limits.{nodes_most, bindings_most, clauses_most, tree_room, node_size, case_size, binding_size}
use Rattle.spec_rules.specs.RefusalNumbers.{nodes_refusal, bindings_refusal, idle_refusal}
use Rattle.spec_rules.specs.Searching.{lowest, times}
use Rattle.spec_rules.specs.SearchingLaws.{lowest_some, times_agree}
use Rattle.spec_rules.specs.SheetFile.{clauses, patterns, pool}
use Rattle.spec_rules.specs.SheetRefusals.{accepted, refused, verdict}
use Rattle.spec_rules.specs.Patterns.{names, clause_pattern}
use Rattle.spec_rules.specs.Rows.{Path}
use Rattle.spec_rules.specs.Hoisting.{has_leaf, first_bindings, nodes_in, bindings_in, hoist_all, whole_tree}
use Rattle.spec_rules.specs.TreeFile.{cases_in, path_table, tree_file}
use Rattle.spec_rules.specs.Calls.{answers, refuses, written, built_of, sheet_patterns, sheet_tree, sheet_tree_file, lowest_idle, tree_verdict}
use Rattle.spec_accepted.specs.SheetFacts.{Accepted}
use Rattle.spec_hoist.specs.Trees.{sum, WellMade, is_present}
use Rattle.spec_hoist.specs.BuiltLaws.{plain_tree_plain, plain_tree_made, plain_tree_present}
use Rattle.spec_hoist.specs.BindingsLaws.{first_bindings_idle}
use Rattle.spec_hoist.specs.WholeTreeLaws.{whole_tree_leaves, whole_tree_made, whole_tree_present, cases_in_less}
use Rattle.spec_theorems.specs.Said.{Builds, OfClause}
use Rattle.spec_theorems.specs.SheetLeaves.{each_leaf, sheet_leaves, length_sheet_patterns}
use Rattle.spec_theorems.proofs.SheetFileLaws.{sheet_file_small}
use Rattle.build_arena.specs.Arena.{arena_end, Held}
use Rattle.build_arena.specs.NumberedLaws.{nodes_held, leaf_node_lem}
use Rattle.build_table.specs.Standing.{path_of, sheet_paths, paths_from}
use Rattle.format_sheet.specs.Check.{SheetAccepts}
use Rattle.build_table.specs.Tabled.{Tabled}
use Rattle.format_sheet.specs.declared.SheetMap.{SheetMap}
use Rattle.build_scopes.specs.declared.Scopes.{Scopes}
use Rattle.build_scopes.specs.Marks.{ReadyTree, ReadyWith}
use Rattle.build_scopes.specs.Numbers.{descent, never, first_number, first_leaf_node, idle_number, BindCounts}
use Rattle.build_scopes.specs.NumbersLaws.{descent_in}
use Rattle.build_scopes.specs.Scoped.{Scoped, ScopedWith}
use Rattle.build_scopes.specs.FirstLeafLaws.{counts_each}
use Rattle.build_scopes.specs.WriterLaws.{ready_held, scoped_leaf}
use Rattle.build_nodes.specs.declared.tops.Tops.{Tops as BuildingTops}
use Rattle.build_nodes.specs.Raw.{Raw as BuildingRaw}
use Rattle.build_file_nodes.specs.declared.Tops.{Tops}
use Rattle.build_file_nodes.specs.Written.{WritingAsked, Written}
use Rattle.build_file_tail.specs.Tail.{Puts, used_paths, front_bytes, tail_bytes, TailReady}
use Rattle.build_file_tail.specs.FileLaws.{tail_ready, file_put}
use Rattle.build_call.specs.Answers.{Gives, tree_end}
use Rattle.build_call.specs.VerdictLaws.{raw_tree, hoists_of, hoist_bindings, whole_nodes, whole_bindings, refused_12, refused_13, refused_14, none_refused}
use Rattle.build_call.specs.Counts.{is_marked, leaf_bindings}
use Rattle.build_call.specs.CountsLaws.{no_leaf, some_leaf}
use Rattle.build_call.specs.CoveredLaws.{length_paths, raw_covered}
use Rattle.build_call.specs.Raw.{Raw, Fitting, Hoistable, Whole}

-- ---- sums that agree one by one
sum_agree : (f g : ℕ → ℕ) (i n : ℕ) → ((k : ℕ) → i ≤ k → k < i + n → f k ≡ g k) → sum f i n ≡ sum g i n
unfolding sum
sum_agree f g i zero e = refl
sum_agree f g i (suc n) e = ap₂ ◌+◌ (e i (omega arith) (omega arith)) (sum_agree f g (i + 1) n (λ k l h. e k (omega arith) (omega arith)))

-- ---- the paths of all patterns, by number
paths_at : (s : List ℕ) (p n c : ℕ) → c < n → get_or (paths_from s p n) c [] ≡ path_of s (p + c)
unfolding paths_from
paths_at s p zero c l = absurd (omega arith)
paths_at s p (suc n) zero l = let e : p ≡ p + 0 = omega arith in ap (path_of s) e
paths_at s p (suc n) (suc c) l = let e : p + 1 + c ≡ p + suc c = omega arith in paths_at s (p + 1) n c (omega arith) ∙ ap (path_of s) e

-- ---- refusals
module _ (s : List ℕ) where
  end_refused : (number place : ℕ) → tree_verdict (clauses s) (sheet_tree s) ≡ refused number place → tree_end s ≡ refuses number place
  end_refused number place e = rw e

  pub end_12 : nodes_most < nodes_in (raw_tree s) + hoists_of s → tree_end s ≡ refuses nodes_refusal 0
  end_12 l = end_refused nodes_refusal 0 (refused_12 s l)

  -- more nodes than there may be even before it is hoisted
  pub end_12_raw : nodes_most < nodes_in (raw_tree s) → tree_end s ≡ refuses nodes_refusal 0
  end_12_raw l = end_12 (omega arith)

  module _ (few : nodes_in (raw_tree s) + hoists_of s ≤ nodes_most) where
    pub end_13 : bindings_most < length (bindings_in (raw_tree s)) + hoist_bindings s → tree_end s ≡ refuses bindings_refusal 0
    end_13 l = end_refused bindings_refusal 0 (refused_13 s few l)

    pub end_14 : length (bindings_in (raw_tree s)) + hoist_bindings s ≤ bindings_most → (c : ℕ) → lowest_idle (clauses s) (raw_tree s) ≡ some c → tree_end s ≡ refuses idle_refusal c
    end_14 l c e = end_refused idle_refusal c (refused_14 s few l c e)

    pub end_built : length (bindings_in (raw_tree s)) + hoist_bindings s ≤ bindings_most → lowest_idle (clauses s) (raw_tree s) ≡ none
        → tree_end s ≡ answers (built_of (sheet_tree_file s) (sheet_tree s))
    end_built l e = rw (none_refused s few l e)

-- the hoists that the marks count
pub marks_hoists : (s leaves : List ℕ) → clauses s ≤ clauses_most → ((c : ℕ) → c < clauses_most → get_or leaves c 0 ≡ pick (has_leaf c (raw_tree s)) 1 0)
    → times (λ c. is_marked (get_or leaves c 0)) 0 (clauses s) ≡ hoists_of s
marks_hoists s leaves few are =
    times_agree (λ c. is_marked (get_or leaves c 0)) (λ c. has_leaf c (raw_tree s)) 0 (clauses s) (λ c l h. ap is_marked (are c (omega arith)) ∙ marked (has_leaf c (raw_tree s)))
  where
    marked : (b : Bool) → is_marked (pick b 1 0) ≡ b
    marked true = refl
    marked false = refl

-- ---- of an accepted sheet
module _ {s : List ℕ} (ok : Accepted s) where
  few_clauses : clauses s ≤ clauses_most
  few_clauses = ok.is_counted.clauses_most_holds

  -- as many bindings at each leaf of a clause as it has names
  abbrev names_of : ℕ → ℕ
  names_of c = length (names (clause_pattern s c))

  raw_counts : BindCounts names_of (raw_tree s)
  unfolding sheet_tree
  raw_counts =
      counts_each names_of (raw_tree s)
      (λ x m. (each_leaf (OfClause s) (sheet_tree s) (sheet_leaves s) x (rw (whole_tree_leaves (sheet_patterns s)) m)).as_many)

  hoisted_is : hoist_all (clauses s) (raw_tree s) ≡ sheet_tree s
  unfolding sheet_tree whole_tree
  hoisted_is = ap (λ n. hoist_all n (raw_tree s)) (sym (length_sheet_patterns s))

  raw_made : WellMade (clauses s) (raw_tree s)
  raw_made = subst (λ n. WellMade n (raw_tree s)) (length_sheet_patterns s) (plain_tree_made (sheet_patterns s))

  fewer_cases : cases_in (sheet_tree s) < nodes_in (sheet_tree s)
  unfolding sheet_tree
  fewer_cases =
      cases_in_less (length (sheet_patterns s)) (whole_tree (sheet_patterns s)) (whole_tree_made (sheet_patterns s))
      (whole_tree_present (sheet_patterns s) (omega (arith, length_sheet_patterns s, ok.is_counted.some_clause)))

  raw_there : is_present (raw_tree s) ≡ true
  raw_there = plain_tree_present (sheet_patterns s) (omega (arith, length_sheet_patterns s, ok.is_counted.some_clause))

  module _ (w : List ℕ) (long : arena_end ≤ length w) (nodes : nodes_in (raw_tree s) ≤ nodes_most) (bindings : length (bindings_in (raw_tree s)) ≤ bindings_most)
      (held : Held w (sheet_paths s) 0 0 0 (raw_tree s)) where
    by_held : ReadyTree w (raw_tree s)
    by_held =
        ready_held w (sheet_paths s) (raw_tree s) (clauses s) held long nodes bindings (plain_tree_plain (sheet_patterns s)) raw_made few_clauses raw_there

    -- the same, over the paths of all patterns
    raw_ready : ReadyTree w (raw_tree s)
    raw_ready = record {
      table = sheet_paths s;
      nodes = nodes_held w (sheet_paths s) (raw_tree s) held long nodes (omega (arith, cases_in_less (clauses s) (raw_tree s) raw_made raw_there)) bindings;
      plain = plain_tree_plain (sheet_patterns s);
      made = by_held.made;
      there = raw_there;
    }

    pub raw_ready_with : (n : ℕ) → n ≡ nodes_in (raw_tree s) → ReadyWith w n
    unfolding raw_ready
    raw_ready_with n e = record { tree = raw_tree s; ready = raw_ready; count = sym e }

    -- the scopes that are found are the tree's
    pub found_scopes : (n : ℕ) (e : n ≡ nodes_in (raw_tree s)) (x : Scopes) → ((h : ReadyWith w n) → Scoped h.tree (clauses s) x) → Scoped (raw_tree s) (clauses s) x
    unfolding raw_ready_with
    found_scopes n e x f = f (raw_ready_with n e)

    -- the bindings of the hoists are those of the first leaves that were found
    pub found_bindings : (x : Scopes) → Scoped (raw_tree s) (clauses s) x → sum (λ c. leaf_bindings w (get_or x.leaf c 0)) 0 (clauses s) ≡ hoist_bindings s
    unfolding first_leaf_node first_number raw_ready
    found_bindings x scoped = sum_agree (λ c. leaf_bindings w (get_or x.leaf c 0)) (λ c. length (first_bindings c (raw_tree s))) 0 (clauses s) (λ c l h. one c (omega arith) (has_leaf c (raw_tree s)) refl)
      where
        one : (c : ℕ) → c < clauses s → (b : Bool) → has_leaf c (raw_tree s) ≡ b → leaf_bindings w (get_or x.leaf c 0) ≡ length (first_bindings c (raw_tree s))
        one c h true e =
            let k = get_or x.leaf c 0 in
            let there = scoped_leaf w names_of (raw_tree s) (clauses s) x raw_ready raw_counts scoped c h e in
            let number : k ≡ descent never c 0 (raw_tree s) = scoped.leaf c h ∙ rw e in
            let within = descent_in never c 0 (raw_tree s) e (plain_tree_plain (sheet_patterns s)) in
            let inside : k < nodes_in (raw_tree s) = omega (arith, number, within.1) in
            let at = raw_ready.nodes.node k inside in
            let node = leaf_node_lem w (sheet_paths s) (cases_in (raw_tree s)) (length (bindings_in (raw_tree s))) k c (first_bindings c (raw_tree s)) long (rw there at at) in
            sym (some_leaf w k (omega arith)) ∙ node.count_is
        one c h false e =
            let k : get_or x.leaf c 0 ≡ nodes_most = scoped.leaf c h ∙ rw e in
            sym (no_leaf w (get_or x.leaf c 0) (omega arith)) ∙ sym (ap length (first_bindings_idle c (raw_tree s) e))

  -- ---- from one set of facts to the next
  -- 12 is not given, and the bindings have room
  pub fitting : (w : List ℕ) (nodes cases bindings : ℕ) (leaves : List ℕ) → Raw s w nodes cases bindings leaves
      → nodes_in (raw_tree s) + hoists_of s ≤ nodes_most → bindings ≤ bindings_most → Fitting s w nodes cases bindings
  fitting w nodes cases bindings leaves r fit few =
      let most : length (bindings_in (raw_tree s)) ≤ bindings_most = omega (arith, r.bindings_are) in
      record {
        long = r.long;
        nodes_are = r.nodes_are;
        nodes_fit = fit;
        cases_are = r.cases_are;
        bindings_are = omega (arith, r.bindings_are);
        bindings_most_holds = most;
        held = r.held most;
      }

  module _ (w : List ℕ) (nodes cases bindings : ℕ) (f : Fitting s w nodes cases bindings) where
    few_nodes : nodes_in (raw_tree s) ≤ nodes_most
    few_nodes = omega (arith, f.nodes_fit)

    -- what finding the scopes asks
    pub scopes_asked : ReadyWith w nodes
    scopes_asked = raw_ready_with w f.long few_nodes f.bindings_most_holds f.held nodes f.nodes_are

    -- they are found: it can be hoisted
    pub hoistable : (x : Scopes) (sets : List ℕ) (n : ℕ) → n ≡ clauses s → ((h : ReadyWith w nodes) → ScopedWith h.tree n sets x)
        → Hoistable s w nodes cases bindings x
    hoistable x sets n is found = record {
      fitting = f;
      scoped =
          found_scopes w f.long few_nodes f.bindings_most_holds f.held nodes f.nodes_are x
          (subst (λ k. (h : ReadyWith w nodes) → Scoped h.tree k x) is (λ h. (found h).scopes));
    }

  -- what building answers, where the tree fits
  pub raw_built : (w : List ℕ) (tops : BuildingTops) → arena_end ≤ length w → BuildingRaw s w tops → Raw s w tops.nodes tops.cases tops.bindings tops.leaves
  raw_built w tops long r = record {
    long = long;
    nodes_are = r.nodes;
    nodes_most_holds = r.nodes_most_holds;
    cases_are = r.cases;
    bindings_are = r.bindings;
    leaves_are = r.leaves;
    held = r.held;
  }

  -- the hoists that were counted
  pub hoists_counted : (w : List ℕ) (nodes cases bindings : ℕ) (leaves : List ℕ) → Raw s w nodes cases bindings leaves → (n more : ℕ) → n ≡ clauses s
      → more ≡ times (λ c. is_marked (get_or leaves c 0)) 0 n → more ≡ hoists_of s
  hoists_counted w nodes cases bindings leaves r n more is e =
      e ∙ ap (times (λ c. is_marked (get_or leaves c 0)) 0) is ∙ marks_hoists s leaves few_clauses r.leaves_are

  -- bindings of which it is known that they have no room
  pub raw_over : (w : List ℕ) (nodes cases bindings : ℕ) (leaves : List ℕ) → Raw s w nodes cases bindings leaves → bindings_most < bindings
      → bindings_most < length (bindings_in (raw_tree s)) + hoist_bindings s
  raw_over w nodes cases bindings leaves r l = omega (arith, r.bindings_are)

  module _ (w : List ℕ) (nodes cases bindings : ℕ) (x : Scopes) (h : Hoistable s w nodes cases bindings x) where
    nodes_few : nodes_in (raw_tree s) ≤ nodes_most
    nodes_few = omega (arith, h.fitting.nodes_fit)

    -- the bindings of the whole tree
    pub all_bindings : (n more : ℕ) → n ≡ clauses s → more ≡ sum (λ c. leaf_bindings w (get_or x.leaf c 0)) 0 n
        → bindings + more ≡ length (bindings_in (raw_tree s)) + hoist_bindings s
    all_bindings n more is e =
        ap₂ ◌+◌ h.fitting.bindings_are
        (e ∙ ap (sum (λ c. leaf_bindings w (get_or x.leaf c 0)) 0) is ∙ found_bindings w h.fitting.long nodes_few h.fitting.bindings_most_holds h.fitting.held x h.scoped)

    -- the lowest idle clause, by its number
    pub idle_found : x.idle < clauses_most → lowest_idle (clauses s) (raw_tree s) ≡ some x.idle
    unfolding idle_number
    idle_found l = go (lowest_idle (clauses s) (raw_tree s)) refl
      where
        go : (o : Option ℕ) → lowest_idle (clauses s) (raw_tree s) ≡ o → o ≡ some x.idle
        go none e = let z : x.idle ≡ clauses_most = h.scoped.idle ∙ ap idle_number e in absurd (omega arith)
        go (some c) e = let z : x.idle ≡ c = h.scoped.idle ∙ ap idle_number e in rw z

    pub none_idle : clauses_most ≤ x.idle → lowest_idle (clauses s) (raw_tree s) ≡ none
    unfolding idle_number lowest_idle
    none_idle l = go (lowest (λ c. not (has_leaf c (raw_tree s))) 0 (clauses s)) refl
      where
        go : (o : Option ℕ) → lowest (λ c. not (has_leaf c (raw_tree s))) 0 (clauses s) ≡ o → o ≡ none
        go none e = refl
        go (some c) e =
            let z : x.idle ≡ c = h.scoped.idle ∙ ap idle_number e in
            absurd (omega (arith, z, few_clauses, (lowest_some (λ d. not (has_leaf d (raw_tree s))) 0 (clauses s) c e).to))

    pub whole : length (bindings_in (raw_tree s)) + hoist_bindings s ≤ bindings_most → clauses_most ≤ x.idle → Whole s w nodes cases x
    whole fit l = record {
      long = h.fitting.long;
      nodes_are = h.fitting.nodes_are;
      nodes_fit = h.fitting.nodes_fit;
      cases_are = h.fitting.cases_are;
      bindings_fit = fit;
      busy = none_idle l;
      held = h.fitting.held;
      scoped = h.scoped;
    }

  -- ---- writing
  module _ (w : List ℕ) (nodes cases : ℕ) (x : Scopes) (h : Whole s w nodes cases x) where
    fits_12 : nodes_in (raw_tree s) ≤ nodes_most
    fits_12 = omega (arith, h.nodes_fit)

    fits_13 : length (bindings_in (raw_tree s)) ≤ bindings_most
    fits_13 = omega (arith, h.bindings_fit)

    pub writing_asked : WritingAsked w nodes cases x (clauses s)
    unfolding raw_ready
    writing_asked = record {
      tree = raw_tree s;
      ready = raw_ready w h.long fits_12 fits_13 h.held;
      node_count = sym h.nodes_are;
      case_count = sym h.cases_are;
      few = few_clauses;
      scoped = h.scoped;
      bound = names_of;
      bind_counts = raw_counts;
      covered = raw_covered ok;
      short = omega (arith, length_paths s, ok.is_counted.patterns_most_holds);
      nodes_most_holds = omega (arith, ap nodes_in hoisted_is, whole_nodes s, h.nodes_fit);
      bindings_most_holds = omega (arith, ap (λ a. length (bindings_in a)) hoisted_is, whole_bindings s, h.bindings_fit);
    }

    -- what is written is the sheet's tree, over the paths of all patterns
    pub is_written : (before after classes : List ℕ) (r : Tops) → ((a : WritingAsked w nodes cases x (clauses s)) → Written a.ready.table (hoist_all (clauses s) a.tree) before after classes r)
        → Written (sheet_paths s) (sheet_tree s) before after classes r
    unfolding writing_asked raw_ready
    is_written before after classes r f = rw hoisted_is at (f writing_asked)

    -- the same of a number of clauses that is the sheet's
    pub asked_at : (n : ℕ) → n ≡ clauses s → WritingAsked w nodes cases x n
    asked_at n e = subst (λ k. WritingAsked w nodes cases x k) (sym e) writing_asked

    pub written_at : (n : ℕ) → n ≡ clauses s → (before after classes : List ℕ) (r : Tops)
        → ((a : WritingAsked w nodes cases x n) → Written a.ready.table (hoist_all n a.tree) before after classes r) → Written (sheet_paths s) (sheet_tree s) before after classes r
    written_at n e before after classes r f =
        is_written before after classes r (subst (λ k. (a : WritingAsked w nodes cases x k) → Written a.ready.table (hoist_all k a.tree) before after classes r) e f)

    builds : verdict s ≡ accepted → Builds s
    builds v = record { sheet = v; tree = none_refused s h.nodes_fit h.bindings_fit h.busy }

    -- where the sections behind the nodes start
    abbrev pub cases_from_tops : Tops → ℕ
    cases_from_tops r = node_size * r.nodes

    abbrev pub bindings_from_tops : Tops → ℕ
    bindings_from_tops r = cases_from_tops r + case_size * r.cases

    abbrev pub paths_from_tops : Tops → ℕ
    paths_from_tops r = bindings_from_tops r + binding_size * r.bindings

    module _ (v : verdict s ≡ accepted) (tree middle classes : List ℕ) (r : Tops) (f : Written (sheet_paths s) (sheet_tree s) tree middle classes r) where
      table_is : used_paths s classes 0 r.paths ≡ path_table (sheet_tree s)
      unfolding sheet_paths
      table_is =
          f.paths_are (path_of s) (λ c l. let e : 0 + c ≡ c = omega arith in sym (paths_at s 0 (patterns s) c (omega (arith, l, length_paths s)) ∙ ap (path_of s) e))

      cases_start : cases_from_tops r ≡ node_size * nodes_in (sheet_tree s)
      cases_start = ap (λ n. node_size * n) f.nodes_are

      bindings_start : bindings_from_tops r ≡ cases_from_tops r + case_size * cases_in (sheet_tree s)
      bindings_start = ap (λ n. cases_from_tops r + case_size * n) f.cases_are

      paths_start : paths_from_tops r ≡ bindings_from_tops r + binding_size * length (bindings_in (sheet_tree s))
      paths_start = ap (λ n. bindings_from_tops r + binding_size * n) f.bindings_are

      -- 12 and 13 bound what is written
      pub nodes_written : r.nodes ≤ nodes_most
      nodes_written = omega (arith, f.nodes_are, whole_nodes s, h.nodes_fit)

      pub cases_written : r.cases ≤ nodes_most
      cases_written = omega (arith, f.cases_are, fewer_cases, whole_nodes s, h.nodes_fit)

      pub bindings_written : r.bindings ≤ bindings_most
      bindings_written = omega (arith, f.bindings_are, whole_bindings s, h.bindings_fit)

      small : length (sheet_tree_file s) < tree_room
      small = sheet_file_small s (builds v)

      pub tail_is_ready : (m : SheetMap) (t : List ℕ) → SheetAccepts s m → Tabled s t → tree_room ≤ length middle
          → TailReady s m t classes r.paths middle (cases_from_tops r) (bindings_from_tops r) (paths_from_tops r)
      unfolding sheet_tree_file
      tail_is_ready m t ch tabled room =
          tail_ready (sheet_tree s) ch tabled (record { inside = f.classes_inside; known = λ i l. omega (arith, f.classes_known i l, length_paths s) }) table_is (cases_from_tops r)
          (bindings_from_tops r) (paths_from_tops r) cases_start bindings_start paths_start small room

      front_is : middle ≡ stored tree 0 (front_bytes (used_paths s classes 0 r.paths) (sheet_tree s))
      unfolding front_bytes
      front_is = f.bytes_are ∙ ap (λ (p : List Path). stored tree 0 (front_bytes p (sheet_tree s))) (sym table_is)

      -- the tail behind the bindings
      abbrev pub tail_of : List ℕ
      tail_of = tail_bytes (pool s) (used_paths s classes 0 r.paths) (cases_from_tops r) (bindings_from_tops r) (paths_from_tops r)

      file_stands : (after : List ℕ) (end : ℕ) → Puts middle after (paths_from_tops r) end tail_of → Puts tree after 0 end (tree_file (pool s) (sheet_tree s))
      file_stands after end puts =
          file_put (pool s) (sheet_tree s) (used_paths s classes 0 r.paths) table_is (cases_from_tops r) (bindings_from_tops r) (paths_from_tops r) cases_start bindings_start paths_start
          front_is puts

      pub end_small : (after : List ℕ) (end : ℕ) → Puts middle after (paths_from_tops r) end tail_of → end < tree_room
      unfolding sheet_tree_file
      end_small after end puts = omega (arith, (file_stands after end puts).is_end, small)

      -- THEOREM: the file is written, and the answer tells it
      pub file_written : (after : List ℕ) (end : ℕ) → tree ≡ zeros (length tree) → tree_room ≤ length tree → Puts middle after (paths_from_tops r) end tail_of
          → Gives s (tree_end s) tree after (Ok (record { length = end; nodes = r.nodes; bindings = r.bindings }))
      unfolding sheet_tree_file built_of
      file_written after end clear room puts =
          let done = file_stands after end puts in
          let answered = end_built s h.nodes_fit h.bindings_fit h.busy in
          let told : end ≡ length (tree_file (pool s) (sheet_tree s)) = omega (arith, done.is_end) in
          record {
            answer = rw (told, f.nodes_are, f.bindings_are) (sym answered);
            bytes =
                done.is_stored
                ∙ ap (λ (l : List ℕ). stored l 0 (tree_file (pool s) (sheet_tree s))) clear
                ∙ stored_zeros (length tree) (tree_file (pool s) (sheet_tree s)) (omega (arith, small, room))
                ∙ sym (ap (λ a. written a (sheet_tree_file s) (length tree)) answered);
          }
