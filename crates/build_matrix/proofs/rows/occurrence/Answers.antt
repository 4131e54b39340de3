-- `rows::occurrence`: the place of the first row that has no test is how many stand before it.
use Rattle.std.proofs.Common.{rules, tests, ◌≡◌, sym, ◌∙◌, length-take-le, take, not, is_some, ℕ}
use native.Mathlib.Omega.{arith}
use Rattle.std.specs.List.{position}
use Rattle.std.proofs.lemmas.Iterator.{YieldsList-from_slice}
use Rattle.std.proofs.lemmas.Iterator.Search.{position_from_yields_List}
use Rattle.std.proofs.lemmas.Iterator.Adapters.{serves_from_places}
use Rattle.build_matrix.specs.ListsLaws.{found_or_end}
use Rattle.build_matrix.specs.Reading.{held_in, InTable}
use Rattle.build_matrix.specs.ReadingLaws.{all_in, count_found}
use Rattle.build_matrix.proofs.rows.occurrence.Goals as goal

pub position-requires-clause-callable : goal.position-requires-clause-callable
position-requires-clause-callable c =
    let a = c.args in
    serves_from_places (YieldsList-from_slice (take a.n a.rows.now) cc) (λ x q e. search rules)
    (λ x k low e.
    let there : (w : ℕ) → w ≡ x.now → InTable a.table.now a.class w = λ w f. all_in (InTable a.table.now a.class) (take a.n a.rows.now) k w x.now low (f ∙ e) c.requires.1 in
    search (rules, there))

pub returns : goal.returns
returns c =
    let a = c.args in
    let held = held_in a.table.now a.opened.now a.class in
    let there = take a.n a.rows.now in
    let e : c.position.result ≡ position (λ x. not (is_some (held x))) there =
    position_from_yields_List (λ x. not (is_some (held x))) _ _ c.position.result c.position.ensures.ran (YieldsList-from_slice there cc) (λ x b q e. search (rules, tests))
    in
    c.unwrap_or.ensures ∙ found_or_end (λ x. not (is_some (held x))) there c.position.result a.n e (length-take-le a.n a.rows.now (omega (arith, c.requires.0))) ∙ sym (count_found held there)
