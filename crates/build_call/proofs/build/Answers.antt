-- `build_call::build` meets its contract: the tree buffer is zero before anything is written, the work buffer after all.
use mathlib.Core.Path.{refl, sym, ap, ◌∙◌}
use Rattle.base_words.specs.Words.{zeros}
use Rattle.build_call.specs.AnswersLaws.{call_whole}
use Rattle.build_call.proofs.build.Goals as goal

pub build_clear-built-requires : goal.build_clear-built-requires
build_clear-built-requires c =
    let z = c.zero_all in
    z.ensures ∙ ap zeros (sym z.auto.b)

pub returns : goal.returns
returns c =
    let a = c.args in
    let z = c.zero_all in
    let b = c.build_clear-built in
    let w = c.zero_all-2 in
    call_whole a.sheet.now _ _ _ _ _ _ _ _ z.auto.b refl z.auto.b b.ensures (w.ensures ∙ ap zeros b.auto.work)
