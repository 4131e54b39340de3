-- `format_records::writing::put_two_words` meets its contract: two stores next to each other are one.
use Rattle.format_records.specs.WritingLaws.{words_stored}
use Rattle.format_records.proofs.writing.put_two_words.Goals as goal

pub returns : goal.returns
returns c =
    let a = c.args in
    words_stored a.b.now a.at a.x a.y c.put_word.ensures c.put_word-2.ensures
