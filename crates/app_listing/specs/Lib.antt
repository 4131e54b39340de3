-- The definitions that the contracts of this crate cite, and their laws.
pub mod Writing
pub mod WritingLaws
pub mod TextsLaws
pub mod Records
pub mod RecordsLaws
pub mod Answers
pub mod AnswersLaws
