-- What a filled table says to those who read it: each field is inside its limits, and the order of two rows of indices is that of the paths.
-- Rests on Tabled and on the laws of standings, classes and paths.
use Rattle.std.specs.Prelude.{◌≡◌, refl, Bool, true, false, List, [], ◌∷◌, map, ℕ, ◌+◌, ◌-◌, ◌*◌, ◌≤◌, ◌<◌, eqb, ltb, get_or}
use Rattle.std.proofs.Common.{ap, ap₂, ◌∙◌, arith}
use Rattle.std.proofs.Math.Option.{Option, none, some}
use Rattle.base_words.specs.Words.{both, text_at}
use Rattle.spec_rules.specs.Limits.{patterns_most, depth_most}
use Rattle.spec_rules.specs.Searching.{lowest}
use Rattle.spec_rules.specs.SearchingLaws.{lowest_some}
use Rattle.spec_rules.specs.SheetFile.{patterns, clauses}
use Rattle.spec_rules.specs.Rows.{Path}
use Rattle.spec_rules.specs.Columns.{step_index, before}
use Rattle.spec_accepted.specs.SheetFacts.{Accepted}
use Rattle.build_table.specs.Standing.{path_of, is_cell, one_more, cell_of}
use Rattle.build_table.specs.StandingLaws.{owner_below}
use Rattle.build_table.specs.PathsLaws.{path_short}
use Rattle.build_table.specs.Table.{owner_at, depth_at, indices_at, cells_at, first_before, indices_in}
use Rattle.build_table.specs.Tabled.{Tabled}

-- a path is before another where its indices are
abbrev by_first : ℕ → ℕ → Bool → Bool
by_first x y rest = elim (ltb x y) [ true ↦ true | false ↦ both (eqb x y) rest ]

first_before_paths : (p q : Path) → first_before (map step_index p) (map step_index q) ≡ before p q
unfolding first_before before
first_before_paths [] [] = refl
first_before_paths [] (y ∷ q) = refl
first_before_paths (x ∷ p) [] = refl
first_before_paths (x ∷ p) (y ∷ q) = ap (by_first (step_index x) (step_index y)) (first_before_paths p q)

one_more_most : (n : ℕ) (found : Option ℕ) → ((k : ℕ) → found ≡ some k → k < n) → one_more found ≤ n
one_more_most n none h = omega arith
one_more_most n (some k) h = let l = h k refl in omega arith

pub cell_most : (s : List ℕ) (c class : ℕ) → cell_of s c class ≤ patterns s
unfolding cell_of
cell_most s c class =
    one_more_most (patterns s) (lowest (is_cell s c class) 0 (patterns s)) (λ k e. omega (arith, (lowest_some (is_cell s c class) 0 (patterns s) k e).to))

module _ {s t : List ℕ} (ok : Accepted s) (table : Tabled s t) where
  -- ---- the limits of a pattern's fields
  module _ (q : ℕ) (h : q < patterns s) where
    pub owner_inside : get_or t (owner_at + q) 0 ≤ patterns_most
    owner_inside = omega (arith, (table.placed q h).owner, owner_below ok.is_shaped ok.is_counted q h, ok.is_counted.patterns_most_holds)

    pub depth_inside : get_or t (depth_at + q) 0 < depth_most
    depth_inside = omega (arith, (table.classed q h).depth, path_short ok.is_shaped ok.is_counted ok.root_depth q h)

    pub indices_of : indices_in t q ≡ map step_index (path_of s q)
    indices_of = ap (text_at t (indices_at + depth_most * q)) (table.classed q h).depth ∙ table.indexed q h

  -- ---- the limits of a cell; with no test in it, pattern 0 is read
  module _ (c class : ℕ) (h : c < clauses s) (known : class < patterns_most) where
    pub cell_inside : get_or t (cells_at + patterns_most * c + class) 0 ≤ patterns s
    cell_inside = omega (arith, table.cell c class h known, cell_most s c class)

    pub cell_owner_inside : get_or t (owner_at + (get_or t (cells_at + patterns_most * c + class) 0 - 1)) 0 ≤ patterns_most
    cell_owner_inside =
        let some_pattern = ok.is_shaped.root_pattern c h in
        owner_inside (get_or t (cells_at + patterns_most * c + class) 0 - 1) (omega (arith, cell_inside))

  -- ---- the order of paths
  pub before_paths : (a b : ℕ) → a < patterns s → b < patterns s → first_before (indices_in t a) (indices_in t b) ≡ before (path_of s a) (path_of s b)
  before_paths a b h l = ap₂ first_before (indices_of a h) (indices_of b l) ∙ first_before_paths (path_of s a) (path_of s b)
