pub mod Promises
pub mod Packed
pub mod Face
pub mod AnswersLaws
pub mod PackedLaws
