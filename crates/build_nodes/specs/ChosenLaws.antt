-- A switch as the code builds it: its cases met, their trees built, its node put, and its default built where it has one.
-- Rests on the laws of a switch over plain values.
use Rattle.std.specs.Prelude.{◌≡◌, refl, Option, Some, None, List, [], ℕ, ◌+◌, ◌-◌, ◌*◌, ◌≤◌, ◌<◌}
use Rattle.std.proofs.Math.Path.{sym}
use Rattle.std.proofs.Common.{ap, subst, ◌∙◌, add-one, arith}
use Rattle.std.proofs.Math.ListN.{length}
use Rattle.base_words.specs.Words.{pick}
use Rattle.base_words.specs.Stored.{stored}
use Rattle.base_words.specs.StoredLaws.{length_stored}
use Rattle.spec_rules.specs.Limits.{patterns_most, nodes_most, node_size, case_size}
use Rattle.spec_rules.specs.Patterns.{Pat}
use Rattle.spec_rules.specs.Splitting.{cases_of}
use Rattle.spec_rules.specs.SplittingLaws.{All}
use Rattle.spec_rules.specs.Building.{Tree, absent, leaf, hoist, switch, listswitch}
use Rattle.spec_rules.specs.Hoisting.{nodes_in}
use Rattle.spec_rules.specs.TreeFile.{path_number, node_bytes, cases_in, default_field}
use Rattle.spec_match.specs.Depth.{is_tail, is_exact, only, node_on}
use Rattle.format_sheet.specs.declared.SheetMap.{SheetMap}
use Rattle.build_table.specs.Standing.{sheet_paths, path_of, class_of}
use Rattle.build_matrix.specs.declared.Matrix.{Matrix}
use Rattle.build_matrix.specs.HeldRows.{held_tests}
use Rattle.build_matrix.specs.Live.{live_in}
use Rattle.build_matrix.specs.Lists.{numbers_in}
use Rattle.build_matrix.specs.Numbered.{tests_in, tree_at}
use Rattle.build_matrix.specs.InNumbers.{in_numbers, StandsFor, default_read}
use Rattle.build_matrix.specs.TreesLaws.{some_tree, chosen_class}
use Rattle.build_arena.specs.Arena.{cases_start, arena_end}
use Rattle.build_arena.specs.WritingLaws.{Kept, stands_stored}
use Rattle.build_cases.specs.declared.CasesMet.{CasesMet}
use Rattle.build_cases.specs.Passes.{case_records}
use Rattle.build_cases.specs.SoFar.{InSheet}
use Rattle.build_cases.specs.SoFarLaws.{length_case_records}
use Rattle.build_cases.specs.Made.{column_of, CasesMade, MeetsTo}
use Rattle.build_nodes.specs.declared.tops.Tops.{Tops}
use Rattle.build_nodes.specs.Built.{Roomy, Put, Builds, TooMany, CasesPut, TooManyOf, CasesOpen}
use Rattle.build_nodes.specs.BuiltLaws.{absent_put, kept_cases}
use Rattle.build_nodes.specs.SwitchLaws.{in_order, switch_kind, SwitchPut, switch_put, switch_fewer, met_over, cases_over, default_over}
use Rattle.build_nodes.specs.ColumnLaws.{order_parts, order_length, column_known, cases_there, default_there, default_none, default_are, as_switch, some_case}
use Rattle.build_nodes.specs.Steps.{Asked, chosen_column, case_list, case_tree, default_tree, AskedColumn, AskedCases}

-- ---- a default's field
no_default : (n : ℕ) → 0 ≡ default_field n absent
unfolding default_field
no_default n = refl

absent_fewer : cases_in absent ≤ nodes_in absent
unfolding cases_in nodes_in
absent_fewer = omega arith

there_field : (n : ℕ) (d : Tree) → 1 ≤ nodes_in d → n + 1 ≡ default_field n d
unfolding default_field nodes_in
there_field n absent h = absurd (omega arith)
there_field n (leaf c bs) h = add-one n
there_field n (hoist c bs a) h = add-one n
there_field n (switch p cs d) h = add-one n
there_field n (listswitch p cs ts d) h = add-one n

-- ---- what meeting the cases answers, as the code has it
abbrev met_column : List ℕ → ℕ → Matrix → List Pat
met_column s k x = column_of s (held_tests (live_in s x.opened k) (numbers_in x.rows))

column_met : (s : List ℕ) (k : ℕ) (x : Matrix) (first : ℕ) (w w' : List ℕ) (r o : Option CasesMet) → r ≡ o → MeetsTo s (met_column s k x) first w w' r
    → MeetsTo s (chosen_column s k (in_numbers x)) first w w' o
unfolding tests_in
column_met s k x first w w' r o e h = subst (MeetsTo s (met_column s k x) first w w') e h

-- ---- no room for the cases
module _ {s : List ℕ} {m : SheetMap} {t : List ℕ} {x : Matrix} {k : ℕ} (col : AskedColumn s m t x k) where
  pub no_room : (tops : Tops) (w w' : List ℕ) (z : Option CasesMet) → z ≡ None → MeetsTo s (met_column s k x) tops.cases w w' z → TooMany (tree_at s (in_numbers x)) tops
  no_room tops w w' z none met =
      let more = (column_met s k x tops.cases w w' z None none met).more in
      rw (as_switch col)
      (met_over (path_of s k) (chosen_column s k (in_numbers x)) (case_tree s k (in_numbers x)) (default_tree s k (in_numbers x)) tops (cases_there col)
      (omega (arith, more, order_length (chosen_column s k (in_numbers x)))))

-- ---- the cases met
pub record Opened (s : List ℕ) (m : SheetMap) (t : List ℕ) (x : Matrix) (k : ℕ) (w : List ℕ) (tops : Tops) (w₁ : List ℕ) (c : CasesMet) (from : Tops) : Type 0 where
  pub col : AskedColumn s m t x k
  pub room : Roomy w tops
  pub node_room : tops.nodes < nodes_most
  pub made : CasesMade s (chosen_column s k (in_numbers x)) tops.cases w w₁ c
  pub from_is : from ≡ record { nodes = tops.nodes + 1; cases = c.end; bindings = tops.bindings; leaves = tops.leaves }

-- as the code has them
pub opened : {s : List ℕ} {m : SheetMap} {t : List ℕ} {x : Matrix} {k : ℕ} → AskedColumn s m t x k → {w : List ℕ} {tops : Tops} → Roomy w tops → tops.nodes < nodes_most
    → {w₁ : List ℕ} (r : Option CasesMet) (c : CasesMet) → r ≡ Some c → MeetsTo s (met_column s k x) tops.cases w w₁ r
    → Opened s m t x k w tops w₁ c (record { nodes = tops.nodes + 1; cases = c.end; bindings = tops.bindings; leaves = tops.leaves })
opened {s} {m} {t} {x} {k} col {w} {tops} room l {w₁} r c e h =
    record { col = col; room = room; node_room = l; made = column_met s k x tops.cases w w₁ r (Some c) e h; from_is = refl }

module _ {s : List ℕ} {m : SheetMap} {t : List ℕ} {x : Matrix} {k : ℕ} {w : List ℕ} {tops : Tops} {w₁ : List ℕ} {c : CasesMet} {from : Tops}
    (o : Opened s m t x k w tops w₁ c from) where
  end_is : c.end ≡ tops.cases + length (case_list s k (in_numbers x))
  end_is = omega (arith, o.made.mid_is, o.made.end_is, order_parts (chosen_column s k (in_numbers x)))

  written : w₁ ≡ stored w (cases_start + case_size * tops.cases) (case_records (case_list s k (in_numbers x)))
  unfolding in_order
  written = o.made.written

  all_in_sheet : All (InSheet s) (case_list s k (in_numbers x))
  unfolding in_order
  all_in_sheet = o.made.each

  written_length : length w₁ ≡ length w
  written_length = ap length written ∙ length_stored w (cases_start + case_size * tops.cases) (case_records (case_list s k (in_numbers x)))

  cases_open : CasesOpen (case_list s k (in_numbers x)) tops.cases w₁ from
  cases_open =
      rw o.from_is
      (record {
        room = record {
          long = omega (arith, o.room.long, written_length);
          nodes_most_holds = omega (arith, o.node_room);
          cases_most_holds = o.made.small;
          bindings_most_holds = o.room.bindings_most_holds;
          leaves_long = o.room.leaves_long;
        };
        written =
            rw written
            (stands_stored w (cases_start + case_size * tops.cases) (case_records (case_list s k (in_numbers x)))
            (omega (arith, o.room.long, o.made.small, end_is, length_case_records (case_list s k (in_numbers x)))));
        to_come = end_is;
      })

  pub switch_open : AskedCases s k (in_numbers x) tops.cases w₁ from
  switch_open = record { begun = cases_open; each = all_in_sheet }

  kept₁ : Kept tops.nodes tops.cases tops.bindings w w₁
  kept₁ =
      rw written
      (kept_cases tops.nodes tops.cases tops.bindings tops.cases w (case_records (case_list s k (in_numbers x))) o.room.nodes_most_holds (omega arith)
      (omega (arith, o.made.small, end_is, length_case_records (case_list s k (in_numbers x)))))

  -- the cases have too many nodes
  pub switch_cases_over : TooManyOf (case_tree s k (in_numbers x)) (case_list s k (in_numbers x)) tops.cases from → TooMany (tree_at s (in_numbers x)) tops
  switch_cases_over over =
      rw (as_switch o.col)
      (cases_over (path_of s k) (chosen_column s k (in_numbers x)) (case_tree s k (in_numbers x)) (default_tree s k (in_numbers x)) tops from
      (ap (λ (z : Tops). z.nodes) o.from_is) over)

-- ---- the cases built, and the default's matrix made
pub record Cased (s : List ℕ) (m : SheetMap) (t : List ℕ) (x : Matrix) (k : ℕ) (w : List ℕ) (tops : Tops) (w₁ : List ℕ) (c : CasesMet) (from : Tops) (w₂ : List ℕ) (at : Tops) (d : Matrix) : Type 0 where
  pub begun : Opened s m t x k w tops w₁ c from
  pub put : CasesPut (sheet_paths s) (case_tree s k (in_numbers x)) (case_list s k (in_numbers x)) [] tops.cases w₁ w₂ from at
  pub stands : StandsFor d (default_read t k (in_numbers x))

pub cased : {s : List ℕ} {m : SheetMap} {t : List ℕ} {x : Matrix} {k : ℕ} {w : List ℕ} {tops : Tops} {w₁ : List ℕ} {c : CasesMet} {from : Tops} {w₂ : List ℕ} {at : Tops} {d : Matrix}
    → Opened s m t x k w tops w₁ c from
    → CasesPut (sheet_paths s) (case_tree s k (in_numbers x)) (case_list s k (in_numbers x)) [] tops.cases w₁ w₂ from at
    → StandsFor d (default_read t k (in_numbers x)) → Cased s m t x k w tops w₁ c from w₂ at d
cased begun put stands = record { begun = begun; put = put; stands = stands }

module _ {s : List ℕ} {m : SheetMap} {t : List ℕ} {x : Matrix} {k : ℕ} {w : List ℕ} {tops : Tops} {w₁ : List ℕ} {c : CasesMet} {from : Tops} {w₂ : List ℕ} {at : Tops} {d : Matrix}
    (y : Cased s m t x k w tops w₁ c from w₂ at d) where
  abbrev o : Opened s m t x k w tops w₁ c from
  o = y.begun

  pub switch_node_asked : (arena_end ≤ length w₂) × (tops.nodes < nodes_most) × (k < patterns_most) × (at.nodes + 1 ≤ nodes_most + 1)
  switch_node_asked =
      (y.put.room.long, o.node_room, column_known o.col, omega (arith, y.put.room.nodes_most_holds))

  module _ (w₃ : List ℕ) (default : ℕ)
      (node : w₃ ≡ stored w₂ (node_size * tops.nodes) (node_bytes (pick c.list 1 0) k tops.cases (c.mid - tops.cases) (c.end - c.mid) default)) where
    node_is : default ≡ default_field at.nodes (default_tree s k (in_numbers x))
        → w₃
        ≡ stored w₂ (node_size * tops.nodes)
        (node_bytes (switch_kind (chosen_column s k (in_numbers x))) (path_number (sheet_paths s) (path_of s k)) tops.cases (length (only is_exact (cases_of (chosen_column s k (in_numbers x)))))
        (length (only is_tail (cases_of (chosen_column s k (in_numbers x))))) (default_field at.nodes (default_tree s k (in_numbers x))))
    unfolding class_of
    node_is e =
        let class : k ≡ path_number (sheet_paths s) (path_of s k) = sym (chosen_class o.col.ready.checked.ok (in_numbers x) o.col.there.sound k o.col.chosen).itself in
        let cases : c.mid - tops.cases ≡ length (only is_exact (cases_of (chosen_column s k (in_numbers x)))) = omega (arith, o.made.mid_is) in
        let tails : c.end - c.mid ≡ length (only is_tail (cases_of (chosen_column s k (in_numbers x)))) = omega (arith, o.made.end_is) in
        node ∙ (λ i. stored w₂ (node_size * tops.nodes) (node_bytes (pick (o.made.list_is i) 1 0) (class i) tops.cases (cases i) (tails i) (e i)))

    node_length : length w₃ ≡ length w₂
    node_length =
        ap length node
        ∙ length_stored w₂ (node_size * tops.nodes) (node_bytes (pick c.list 1 0) k tops.cases (c.mid - tops.cases) (c.end - c.mid) default)

    parts : {w' : List ℕ} {to : Tops} → default ≡ default_field at.nodes (default_tree s k (in_numbers x))
        → Put (sheet_paths s) w₃ w' (default_tree s k (in_numbers x)) at to
        → SwitchPut (sheet_paths s) (path_of s k) (chosen_column s k (in_numbers x)) (case_tree s k (in_numbers x)) (default_tree s k (in_numbers x)) w w₁ w₂ w₃ w' tops from at to
    parts e p =
        record {
          room = o.room;
          node_room = o.node_room;
          some_case = some_case o.col;
          kept = kept₁ o;
          from_nodes = ap (λ (z : Tops). z.nodes) o.from_is;
          from_cases = ap (λ (z : Tops). z.cases) o.from_is ∙ end_is o;
          from_bindings = ap (λ (z : Tops). z.bindings) o.from_is;
          from_leaves = ap (λ (z : Tops). z.leaves) o.from_is;
          cases = y.put;
          node = node_is e;
          default = p;
        }

    room₃ : Roomy w₃ at
    room₃ =
        record {
          long = omega (arith, y.put.room.long, node_length);
          nodes_most_holds = y.put.room.nodes_most_holds;
          cases_most_holds = y.put.room.cases_most_holds;
          bindings_most_holds = y.put.room.bindings_most_holds;
          leaves_long = y.put.room.leaves_long;
        }

    -- the default's matrix
    pub switch_asked : (d.rows.count ≡ 0 → ⊥) → Asked s m t d w₃ at
    switch_asked filled = record { ready = o.col.ready; there = default_there o.col d y.stands filled; room = room₃ }

    -- there is no default
    pub switch_done : d.rows.count ≡ 0 → default ≡ 0 → Builds (sheet_paths s) w w₃ (tree_at s (in_numbers x)) tops (Some at)
    switch_done empty zero_is =
        let gone : default_tree s k (in_numbers x) ≡ absent = default_none o.col d y.stands empty in
        let p = parts (zero_is ∙ no_default at.nodes ∙ ap (default_field at.nodes) (sym gone))
        (subst (λ (a : Tree). Put (sheet_paths s) w₃ w₃ a at at) (sym gone) (absent_put (sheet_paths s) w₃ at room₃)) in
        rw (as_switch o.col)
        (record { put = switch_put p; fewer_cases = switch_fewer p (subst (λ (a : Tree). cases_in a ≤ nodes_in a) (sym gone) absent_fewer) })

    -- the default is built, or has too many nodes
    pub switch_default : (w' : List ℕ) (r : Option Tops) → (d.rows.count ≡ 0 → ⊥) → default ≡ at.nodes + 1
        → Builds (sheet_paths s) w₃ w' (tree_at s (in_numbers d)) at r → Builds (sheet_paths s) w w' (tree_at s (in_numbers x)) tops r
    switch_default w' r filled default_is bd =
        let same : tree_at s (in_numbers d) ≡ default_tree s k (in_numbers x) = ap (tree_at s) (default_are o.col d y.stands) in
        let there : 1 ≤ nodes_in (default_tree s k (in_numbers x)) =
        subst (λ (a : Tree). 1 ≤ nodes_in a) same (some_tree s (in_numbers d) (default_there o.col d y.stands filled).some_row) in
        let field : default ≡ default_field at.nodes (default_tree s k (in_numbers x)) = default_is ∙ there_field at.nodes (default_tree s k (in_numbers x)) there in
        rw (as_switch o.col) (whole field r (subst (λ (a : Tree). Builds (sheet_paths s) w₃ w' a at r) same bd))
      where
        tree : Tree
        tree = default_tree s k (in_numbers x)

        whole : default ≡ default_field at.nodes tree → (r : Option Tops) → Builds (sheet_paths s) w₃ w' tree at r
            → Builds (sheet_paths s) w w' (node_on (path_of s k) (chosen_column s k (in_numbers x)) (case_tree s k (in_numbers x)) tree) tops r
        whole field (Some to) b =
            record { put = switch_put (parts field b.put); fewer_cases = switch_fewer (parts field b.put) (omega (arith, b.fewer_cases)) }
        whole field None b =
            default_over (path_of s k) (chosen_column s k (in_numbers x)) (case_tree s k (in_numbers x)) tree tops w₁ w₂ (sheet_paths s) from at
            (ap (λ (z : Tops). z.nodes) o.from_is) (ap (λ (z : Tops). z.cases) o.from_is ∙ end_is o) y.put b
