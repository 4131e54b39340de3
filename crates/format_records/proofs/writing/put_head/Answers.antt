-- `format_records::writing::put_head` meets its contract: two stores next to each other are one.
use Rattle.format_records.specs.WritingLaws.{head_stored}
use Rattle.format_records.proofs.writing.put_head.Goals as goal

pub returns : goal.returns
returns c = head_stored _ _ _ _
