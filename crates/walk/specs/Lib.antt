-- The definitions that the contracts of this crate cite, and their laws.
pub mod Positions
pub mod FollowLaws
pub mod Choices
pub mod ChoicesLaws
pub mod Turns
pub mod TurnsLaws
pub mod Bindings
pub mod BindingsLaws
pub mod Answers
pub mod AnswersLaws
