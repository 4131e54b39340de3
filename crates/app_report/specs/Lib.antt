-- The definitions that the contracts of this crate cite, and their laws.
pub mod Telling
pub mod Lines
pub mod Answers
pub mod PlacesLaws
pub mod LinesLaws
pub mod AnswersLaws
pub mod Room
pub mod FirstMatch
pub mod Examples
