-- `format_records::writing::put_node` meets its contract: the stores of the fields are the store of the record.
use Rattle.format_records.specs.WritingLaws.{node_stored}
use Rattle.format_records.proofs.writing.put_node.Goals as goal

pub returns : goal.returns
returns c =
    let a = c.args in
    node_stored a.b.now a.at a.kind a.x a.y a.z a.u a.v c.put_head.ensures c.put_two_words.ensures c.put_two_words-2.ensures c.put_word.ensures
