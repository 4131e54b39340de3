-- `format_parts::texts::canonical` meets its contract: the text is `0`, or a natural number after its sign.
use Rattle.std.proofs.Common.{◌≡◌, ap, ◌∙◌, ℕ, List, Bor, take, drop, arith, refl, ◌+◌, ◌-◌}
use Rattle.spec_rules.specs.Texts.{natural, canonical}
use Rattle.format_parts.specs.TextsLaws.{canonical_zero, canonical_else}
use Rattle.format_parts.proofs.texts.canonical.Goals as goal

pub returns-then-eq : goal.returns-then-eq
returns-then-eq c =
    let a = c.args in
    let f : a.start + a.len - a.start ≡ a.len = omega arith in
    c.if-eq.true ∙ canonical_zero _ (rw c.as_slice.ensures at c.if-eq.ensures) ∙ ap (λ (n : ℕ). canonical (take n (drop a.start a.s.now))) f

pub returns-else-eq : goal.returns-else-eq
returns-else-eq c =
    let a = c.args in
    let f : a.start + a.len - a.start ≡ a.len = omega arith in
    canonical_else _ _ _ (rw c.as_slice.ensures at c.if-eq.ensures) refl c.strip_prefix.ensures.cases
    (c.natural.ensures ∙ ap (λ (x : Bor (List ℕ)). natural x.now) c.unwrap_or.ensures)
    ∙ ap (λ (n : ℕ). canonical (take n (drop a.start a.s.now))) f
