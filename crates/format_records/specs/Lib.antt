-- A tree's records at a place of a list of bytes: their fields, what is read of bytes that stand there, and what stores of fields make.
pub mod Records
pub mod RecordsLaws
pub mod WritingLaws
