-- `columns::place_of`: the place of the first that is the class, or else how many they are.
use Rattle.std.proofs.Common.{rules, tests, ◌≡◌, sym, ◌∙◌, length-take-le, take, eqb}
use native.Mathlib.Omega.{arith}
use Rattle.std.specs.List.{position}
use Rattle.std.proofs.lemmas.Iterator.{YieldsList-from_slice}
use Rattle.std.proofs.lemmas.Iterator.Search.{position_from_yields_List}
use Rattle.build_matrix.specs.ListsLaws.{found_or_end, place_found}
use Rattle.build_matrix.proofs.columns.place_of.Goals as goal

pub returns : goal.returns
returns c =
    let a = c.args in
    let there = take a.n a.cs.now in
    let e : c.position.result ≡ position (λ x. eqb x a.class) there =
    position_from_yields_List (λ x. eqb x a.class) _ _ c.position.result c.position.ensures.ran (YieldsList-from_slice there cc) (λ x b q e. search (rules, tests))
    in
    c.unwrap_or.ensures ∙ found_or_end (λ x. eqb x a.class) there c.position.result a.n e (length-take-le a.n a.cs.now (omega (arith, c.requires))) ∙ sym (place_found a.class there)
