-- `walk::choose::texts_same` meets its contract: texts of two lengths differ.
use Rattle.std.proofs.Common.{ne_eqb}
use Rattle.walk.specs.ChoicesLaws.{lengths_differ}
use Rattle.walk.proofs.choose.texts_same.Goals as goal

pub returns-else-count-len : goal.returns-else-count-len
returns-else-count-len c =
    let a = c.args in
    let differ = c.if-count-len.false in
    rw (ne_eqb a.count a.len differ) (lengths_differ a.panel.now a.tree.now a.i a.count a.j a.len c.requires.0 c.requires.1 differ)
