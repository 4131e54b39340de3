use Rattle.std.proofs.Common.{◌≡◌, ◌+◌, ◌-◌, ◌∙◌, arith}
use Rattle.std.proofs.Math.Path.{ap₂}
use Rattle.base_words.specs.Words.{text_at, same_text}
use Rattle.base_words.proofs.TextsSame.{pointwise_same}
use Rattle.base_words.proofs.same_text.Goals as goal

pub returns : goal.returns
returns c =
    let a = c.args in
    let e : a.i + a.n - a.i ≡ a.n = omega arith in
    let f : a.j + a.n - a.j ≡ a.n = omega arith in
    c.eq.ensures ∙ pointwise_same _ _ ∙ ap₂ (λ m n. same_text (text_at a.s.now a.i m) (text_at a.t.now a.j n)) e f
