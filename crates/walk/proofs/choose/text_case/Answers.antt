-- `walk::choose::text_case` meets its contract: its search is that of the first case of the text.
use Rattle.std.proofs.Common.{rules}
use Rattle.std.proofs.Math.Path.{refl}
use Rattle.base_words.specs.Words.{text_at, same_text}
use Rattle.spec_rules.specs.TreeReader.{case_text}
use Rattle.spec_rules.proofs.Ranges.{find_from}
use Rattle.walk.proofs.choose.text_case.Goals as goal

pub returns : goal.returns
returns c =
    let a = c.args in
    find_from (λ j. same_text (text_at a.panel.now a.start a.count) (case_text a.tree.now j)) _ a.i a.n c.find.ensures.ran refl refl (λ x b q e. search rules)
