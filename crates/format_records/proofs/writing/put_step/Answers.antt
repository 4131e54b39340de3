-- `format_records::writing::put_step` meets its contract: the stores of the fields are the store of the record.
use Rattle.format_records.specs.WritingLaws.{step_stored}
use Rattle.format_records.proofs.writing.put_step.Goals as goal

pub returns : goal.returns
returns c =
    let a = c.args in
    step_stored a.b.now a.at a.kind a.flag a.index a.of c.put_head.ensures c.put_two_words.ensures
