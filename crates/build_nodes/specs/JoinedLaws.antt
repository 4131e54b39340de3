-- Cases with other cases behind them: what they have is what the first have and what the others have.
-- Rests on the arena's `joined`; the cases of a list of tests with others behind them are such.
use Rattle.std.specs.Prelude.{◌≡◌, refl, Bool, true, false, List, [], ◌∷◌, ◌++◌, ℕ, ◌+◌}
use Rattle.std.proofs.Common.{sym, ap, ◌∙◌, append_assoc, arith, add-zero, add_assoc}
use Rattle.std.proofs.Math.ListN.{length, length-append}
use Rattle.base_words.specs.Words.{either}
use Rattle.spec_rules.specs.Rows.{Path}
use Rattle.spec_rules.specs.Splitting.{Test, Met}
use Rattle.spec_rules.specs.Building.{Tree, Cases, cnil, ccons}
use Rattle.spec_rules.specs.Hoisting.{how_many, nodes_in, nodes_in_of, bindings_in, bindings_in_of, has_leaf, has_leaf_of}
use Rattle.spec_rules.specs.TreeFile.{cases_in, cases_in_of, case_bytes, own_cases}
use Rattle.spec_file.specs.TreeStands.{TreeStands}
use Rattle.spec_match.specs.Depth.{cases_on}
use Rattle.build_arena.specs.Arena.{HeldOf}
use Rattle.build_arena.specs.Numbered.{joined}

-- ---- sums
pub cases_in_of_joined : (cs ts : Cases) → cases_in_of (joined cs ts) ≡ cases_in_of cs + cases_in_of ts
unfolding joined cases_in_of
cases_in_of_joined cnil ts = omega arith
cases_in_of_joined (ccons t at a cs) ts = omega (arith, cases_in_of_joined cs ts)

pub bindings_in_of_joined : (cs ts : Cases) → bindings_in_of (joined cs ts) ≡ bindings_in_of cs ++ bindings_in_of ts
unfolding joined bindings_in_of
bindings_in_of_joined cnil ts = refl
bindings_in_of_joined (ccons t at a cs) ts =
    ap (λ z. bindings_in a ++ z) (bindings_in_of_joined cs ts) ∙ sym (append_assoc (bindings_in a) (bindings_in_of cs) (bindings_in_of ts))

either_assoc : (x y z : Bool) → either x (either y z) ≡ either (either x y) z
either_assoc true y z = refl
either_assoc false y z = refl

pub has_leaf_of_joined : (i : ℕ) (cs ts : Cases) → has_leaf_of i (joined cs ts) ≡ either (has_leaf_of i cs) (has_leaf_of i ts)
unfolding joined has_leaf_of
has_leaf_of_joined i cnil ts = refl
has_leaf_of_joined i (ccons t at a cs) ts = ap (either (has_leaf i a)) (has_leaf_of_joined i cs ts) ∙ either_assoc (has_leaf i a) (has_leaf_of i cs) (has_leaf_of i ts)

pub own_cases_joined : (k : ℕ) (cs ts : Cases) → own_cases k (joined cs ts) ≡ own_cases k cs ++ own_cases (k + nodes_in_of cs) ts
unfolding joined own_cases nodes_in_of
own_cases_joined k cnil ts = ap (λ z. own_cases z ts) (sym (add-zero k))
own_cases_joined k (ccons t at a cs) ts =
    ap (λ z. case_bytes t at k ++ z)
    (own_cases_joined (k + nodes_in a) cs ts ∙ ap (λ z. own_cases (k + nodes_in a) cs ++ own_cases z ts) (add_assoc k (nodes_in a) (nodes_in_of cs)))
    ∙ sym (append_assoc (case_bytes t at k) (own_cases (k + nodes_in a) cs) (own_cases (k + (nodes_in a + nodes_in_of cs)) ts))

-- ---- the cases of tests
pub cases_on_append : (f : Test → Tree) (ms ns : List Met) → cases_on f (ms ++ ns) ≡ joined (cases_on f ms) (cases_on f ns)
unfolding cases_on joined
cases_on_append f [] ns = refl
cases_on_append f (m ∷ ms) ns = ap (ccons m.test m.start (f m.test)) (cases_on_append f ms ns)

pub how_many_cases_on : (f : Test → Tree) (ms : List Met) → how_many (cases_on f ms) ≡ length ms
unfolding cases_on how_many
how_many_cases_on f [] = refl
how_many_cases_on f (m ∷ ms) = omega (arith, how_many_cases_on f ms)

-- ---- held in the arena
module _ (w : List ℕ) (table : List Path) where
  -- at numbers that are written in any way
  moved : (k c b k' c' b' : ℕ) (cs : Cases) → k ≡ k' → c ≡ c' → b ≡ b' → HeldOf w table k c b cs → HeldOf w table k' c' b' cs
  moved k c b k' c' b' cs x y z h = rw (← x, ← y, ← z) h

  pub held_of_joined : (k c b : ℕ) (cs ts : Cases) → HeldOf w table k c b cs
      → HeldOf w table (k + nodes_in_of cs) (c + cases_in_of cs) (b + length (bindings_in_of cs)) ts → HeldOf w table k c b (joined cs ts)
  unfolding joined nodes_in_of cases_in_of bindings_in_of TreeStands
  held_of_joined k c b cnil ts h g = moved (k + 0) (c + 0) (b + 0) k c b ts (omega arith) (omega arith) (omega arith) g
  held_of_joined k c b (ccons t at a cs) ts h g =
      let k₂ = k + nodes_in a in
      let c₂ = c + cases_in a in
      let b₂ = b + length (bindings_in a) in (
        h.0,
        held_of_joined k₂ c₂ b₂ cs ts h.1
            (moved (k + (nodes_in a + nodes_in_of cs)) (c + (cases_in a + cases_in_of cs)) (b + length (bindings_in a ++ bindings_in_of cs)) (k₂ + nodes_in_of cs) (c₂ + cases_in_of cs)
            (b₂ + length (bindings_in_of cs)) ts (omega arith) (omega arith) (omega (arith, length-append (bindings_in a) (bindings_in_of cs))) g),
      )

  pub front_held : (k c b : ℕ) (cs ts : Cases) → HeldOf w table k c b (joined cs ts) → HeldOf w table k c b cs
  unfolding joined TreeStands
  front_held k c b cnil ts h = tt
  front_held k c b (ccons t at a cs) ts h = (h.0, front_held (k + nodes_in a) (c + cases_in a) (b + length (bindings_in a)) cs ts h.1)

  pub back_held : (k c b : ℕ) (cs ts : Cases) → HeldOf w table k c b (joined cs ts)
      → HeldOf w table (k + nodes_in_of cs) (c + cases_in_of cs) (b + length (bindings_in_of cs)) ts
  unfolding joined nodes_in_of cases_in_of bindings_in_of TreeStands
  back_held k c b cnil ts h = moved k c b (k + 0) (c + 0) (b + 0) ts (omega arith) (omega arith) (omega arith) h
  back_held k c b (ccons t at a cs) ts h =
      let k₂ = k + nodes_in a in
      let c₂ = c + cases_in a in
      let b₂ = b + length (bindings_in a) in
      moved (k₂ + nodes_in_of cs) (c₂ + cases_in_of cs) (b₂ + length (bindings_in_of cs)) (k + (nodes_in a + nodes_in_of cs)) (c + (cases_in a + cases_in_of cs))
      (b + length (bindings_in a ++ bindings_in_of cs)) ts (omega arith) (omega arith) (omega (arith, length-append (bindings_in a) (bindings_in_of cs)))
      (back_held k₂ c₂ b₂ cs ts h.1)
