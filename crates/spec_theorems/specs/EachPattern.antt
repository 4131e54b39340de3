-- What holds of every pattern inside a pattern, each with its path: it holds of the patterns in the columns that a row is made of, and
-- of those that a test opens to; and so of the patterns that bind the names.
use Rattle.std.specs.Prelude.{ℕ, ◌+◌}
use Rattle.std.proofs.Math.Bool.{false}
use Rattle.spec_rules.specs.Patterns.{Mark, Pat, Pats, discard, variable, assign, integer, bytestring, listed, tailed, constructor, opened, pnil, pcons, many}
use Rattle.spec_rules.specs.Rows.{Step, constr, list, listtail, Path, into, opening, Binding, Cell, columns_of, columns_of_each, opened_columns}
use Rattle.spec_rules.specs.SplittingLaws.{All}
use Rattle.spec_match.specs.Lists.{all_append}
use Rattle.spec_match.specs.Bindings.{all_bindings, all_bindings_of_each}

module _ (K : Path → Pat → Type 0) where
  -- K of the pattern at p and of every pattern inside it, at its own path
  unfoldable mutual
    unfolding into opening many

    pub Everywhere : Path → Pat → Type 0
    Everywhere p (discard m) = K p (discard m)
    Everywhere p (variable m x) = K p (variable m x)
    Everywhere p (assign m x q) = K p (assign m x q) × Everywhere p q
    Everywhere p (integer m at w) = K p (integer m at w)
    Everywhere p (bytestring m at w) = K p (bytestring m at w)
    Everywhere p (listed m qs) = K p (listed m qs) × EverywhereIn p (λ i. list i m.type) 0 qs
    Everywhere p (tailed m qs q) =
        K p (tailed m qs q) × EverywhereIn p (λ i. list i m.type) 0 qs × Everywhere (into p (listtail (many qs) m.type)) q
    Everywhere p (constructor m a qs) = K p (constructor m a qs) × EverywhereIn p (λ i. constr i false m.type) 0 qs
    Everywhere p (opened m o qs) = K p (opened m o qs) × EverywhereIn p (opening o m.type) 0 qs

    -- of parts i, i + 1, .. of the pattern at p
    pub EverywhereIn : Path → (ℕ → Step) → ℕ → Pats → Type 0
    EverywhereIn p step i pnil = Unit {0}
    EverywhereIn p step i (pcons q qs) = Everywhere (into p (step i)) q × EverywhereIn p step (i + 1) qs

  pub everywhere_here : (p : Path) (q : Pat) → Everywhere p q → K p q
  unfolding Everywhere
  everywhere_here p (discard m) h = h
  everywhere_here p (variable m x) h = h
  everywhere_here p (assign m x q) h = h.0
  everywhere_here p (integer m at w) h = h
  everywhere_here p (bytestring m at w) h = h
  everywhere_here p (listed m qs) h = h.0
  everywhere_here p (tailed m qs q) h = h.0
  everywhere_here p (constructor m a qs) h = h.0
  everywhere_here p (opened m o qs) h = h.0

  -- ---- columns
  abbrev pub InCell : Cell → Type 0
  InCell c = Everywhere c.path c.pattern

  mutual
    unfolding columns_of Everywhere

    pub columns_of_everywhere : (p : Path) (q : Pat) → Everywhere p q → All InCell (columns_of p q)
    columns_of_everywhere p (discard m) h = tt
    columns_of_everywhere p (variable m x) h = tt
    columns_of_everywhere p (assign m x q) h = columns_of_everywhere p q h.1
    columns_of_everywhere p (integer m at w) h = (h, tt)
    columns_of_everywhere p (bytestring m at w) h = (h, tt)
    columns_of_everywhere p (listed m qs) h = (h, tt)
    columns_of_everywhere p (tailed m qs q) h = (h, tt)
    columns_of_everywhere p (constructor m a qs) h = (h, tt)
    columns_of_everywhere p (opened m o qs) h = columns_of_each_everywhere p (opening o m.type) 0 qs h.1

    columns_of_each_everywhere : (p : Path) (step : ℕ → Step) (i : ℕ) (qs : Pats) → EverywhereIn p step i qs → All InCell (columns_of_each p step i qs)
    columns_of_each_everywhere p step i pnil h = tt
    columns_of_each_everywhere p step i (pcons q qs) h =
        all_append InCell (columns_of (into p (step i)) q) (columns_of_each p step (i + 1) qs)
        (columns_of_everywhere (into p (step i)) q h.0) (columns_of_each_everywhere p step (i + 1) qs h.1)

  pub opened_columns_everywhere : (p : Path) (q : Pat) → Everywhere p q → All InCell (opened_columns p q)
  unfolding opened_columns Everywhere
  opened_columns_everywhere p (discard m) h = tt
  opened_columns_everywhere p (variable m x) h = tt
  opened_columns_everywhere p (assign m x q) h = tt
  opened_columns_everywhere p (integer m at w) h = tt
  opened_columns_everywhere p (bytestring m at w) h = tt
  opened_columns_everywhere p (listed m qs) h = columns_of_each_everywhere p (λ i. list i m.type) 0 qs h.1
  opened_columns_everywhere p (tailed m qs q) h =
      all_append InCell (columns_of_each p (λ i. list i m.type) 0 qs) (columns_of (into p (listtail (many qs) m.type)) q)
      (columns_of_each_everywhere p (λ i. list i m.type) 0 qs h.1) (columns_of_everywhere (into p (listtail (many qs) m.type)) q h.2)
  opened_columns_everywhere p (constructor m a qs) h = columns_of_each_everywhere p (λ i. constr i false m.type) 0 qs h.1
  opened_columns_everywhere p (opened m o qs) h = tt

  -- ---- bindings: R of each, where it follows from K of the variable or the assign that binds it
  module _ (R : Binding → Type 0)
      (of_variable : (p : Path) (m : Mark) (x : ℕ) → K p (variable m x) → R (record { name = x; path = p }))
      (of_assign : (p : Path) (m : Mark) (x : ℕ) (q : Pat) → K p (assign m x q) → R (record { name = x; path = p }))
    where
      mutual
        unfolding all_bindings Everywhere

        pub all_bindings_everywhere : (p : Path) (q : Pat) → Everywhere p q → All R (all_bindings p q)
        all_bindings_everywhere p (discard m) h = tt
        all_bindings_everywhere p (variable m x) h = (of_variable p m x h, tt)
        all_bindings_everywhere p (assign m x q) h = (of_assign p m x q h.0, all_bindings_everywhere p q h.1)
        all_bindings_everywhere p (integer m at w) h = tt
        all_bindings_everywhere p (bytestring m at w) h = tt
        all_bindings_everywhere p (listed m qs) h = all_bindings_of_each_everywhere p (λ i. list i m.type) 0 qs h.1
        all_bindings_everywhere p (tailed m qs q) h =
            all_append R (all_bindings_of_each p (λ i. list i m.type) 0 qs) (all_bindings (into p (listtail (many qs) m.type)) q)
            (all_bindings_of_each_everywhere p (λ i. list i m.type) 0 qs h.1) (all_bindings_everywhere (into p (listtail (many qs) m.type)) q h.2)
        all_bindings_everywhere p (constructor m a qs) h = all_bindings_of_each_everywhere p (λ i. constr i false m.type) 0 qs h.1
        all_bindings_everywhere p (opened m o qs) h = all_bindings_of_each_everywhere p (opening o m.type) 0 qs h.1

        all_bindings_of_each_everywhere : (p : Path) (step : ℕ → Step) (i : ℕ) (qs : Pats) → EverywhereIn p step i qs → All R (all_bindings_of_each p step i qs)
        all_bindings_of_each_everywhere p step i pnil h = tt
        all_bindings_of_each_everywhere p step i (pcons q qs) h =
            all_append R (all_bindings (into p (step i)) q) (all_bindings_of_each p step (i + 1) qs)
            (all_bindings_everywhere (into p (step i)) q h.0) (all_bindings_of_each_everywhere p step (i + 1) qs h.1)
