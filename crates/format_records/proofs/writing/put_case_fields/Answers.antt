-- `format_records::writing::put_case_fields` meets its contract: the stores of the fields are the store of the record.
use Rattle.format_records.specs.WritingLaws.{fields_stored}
use Rattle.format_records.proofs.writing.put_case_fields.Goals as goal

pub returns : goal.returns
returns c =
    let a = c.args in
    fields_stored a.b.now a.at a.kind a.number a.count a.child c.put_head.ensures c.put_two_words.ensures c.put_word.ensures
