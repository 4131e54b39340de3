-- The matrix of the clauses, built from empty tops, is the tree of the sheet.
use Rattle.std.specs.Prelude.{◌≡◌, refl, Option, Some, None, List, ℕ, zero, suc, ◌+◌, ◌≤◌, min, length, get_or}
use Rattle.std.proofs.Common.{sym, ap, subst, ◌∙◌, arith, zero-add}
use Rattle.std.proofs.lemmas.List.{length-replicate}
use Rattle.base_words.specs.Words.{pick, zeros}
use Rattle.spec_rules.specs.Limits.{clauses_most, bindings_most}
use Rattle.spec_rules.specs.Building.{Tree}
use Rattle.spec_rules.specs.Hoisting.{nodes_in, bindings_in, has_leaf}
use Rattle.spec_rules.specs.TreeFile.{cases_in}
use Rattle.format_sheet.specs.declared.SheetMap.{SheetMap}
use Rattle.build_table.specs.Standing.{sheet_paths}
use Rattle.build_matrix.specs.declared.Matrix.{Matrix}
use Rattle.build_matrix.specs.Ready.{ReadyTable}
use Rattle.build_matrix.specs.Numbered.{Numbered, SoundOf, first_numbered, tree_at}
use Rattle.build_matrix.specs.InNumbers.{in_numbers, StandsFor}
use Rattle.build_matrix.specs.TreesLaws.{sound_first, first_tree, first_some}
use Rattle.build_arena.specs.Arena.{arena_end}
use Rattle.build_nodes.specs.declared.tops.Tops.{Tops}
use Rattle.build_nodes.specs.Built.{BuiltTo, Builds, TooMany}
use Rattle.build_nodes.specs.Steps.{Asked}
use Rattle.build_nodes.specs.Raw.{raw_tree, BuildsRaw}

-- nothing is built yet
abbrev pub no_tops : Tops
no_tops = record { nodes = 0; cases = 0; bindings = 0; leaves = zeros clauses_most }

zeros_zero : (n i : ℕ) → get_or (zeros n) i 0 ≡ 0
zeros_zero zero i = refl
zeros_zero (suc n) zero = refl
zeros_zero (suc n) (suc i) = zeros_zero n i

module _ {s : List ℕ} {m : SheetMap} {t : List ℕ} (ready : ReadyTable s m t) (x : Matrix) (stands : StandsFor x (first_numbered s)) (w : List ℕ) (long : arena_end ≤ length w) where
  pub raw_asked : Asked s m t x w no_tops
  raw_asked =
      record {
        ready = ready;
        there = record {
          whole = stands.whole;
          sound = subst (λ (M : Numbered). SoundOf s M) (sym stands.are) (sound_first ready.checked.ok);
          some_row = subst (λ (M : Numbered). 1 ≤ length M.rows) (sym stands.are) (first_some ready.checked.ok);
        };
        room = record {
          long = long;
          nodes_most_holds = omega arith;
          cases_most_holds = omega arith;
          bindings_most_holds = omega arith;
          leaves_long = length-replicate {A = ℕ} clauses_most 0;
        };
      }

  tree_is : tree_at s (in_numbers x) ≡ raw_tree s
  tree_is = ap (tree_at s) stands.are ∙ first_tree ready.checked.ok

  -- THEOREM: it is the tree of the sheet
  pub raw_builds : (w' : List ℕ) (r : Option Tops) → Builds (sheet_paths s) w w' (tree_at s (in_numbers x)) no_tops r → BuildsRaw s w' r
  raw_builds w' (Some to) built =
      let b = subst (λ (a : Tree). BuiltTo (sheet_paths s) w w' a no_tops to) tree_is built in
      let p = b.put in
      record {
        nodes = p.counted.nodes ∙ zero-add (nodes_in (raw_tree s));
        cases = p.counted.cases ∙ zero-add (cases_in (raw_tree s));
        bindings = p.counted.bindings ∙ ap (λ z. min z (bindings_most + 1)) (zero-add (length (bindings_in (raw_tree s))));
        leaves_long = p.room.leaves_long;
        leaves = λ c l. p.counted.leaves c l ∙ ap (pick (has_leaf c (raw_tree s)) 1) (zeros_zero clauses_most c);
        nodes_most_holds = omega (arith, p.counted.nodes, p.room.nodes_most_holds);
        cases_most_holds = omega (arith, p.counted.cases, p.room.cases_most_holds);
        fewer_cases = b.fewer_cases;
        held = λ h. p.held (omega arith);
      }
  raw_builds w' None over =
      let b = subst (λ (a : Tree). TooMany a no_tops) tree_is over in
      omega (arith, b 0 (omega arith))
