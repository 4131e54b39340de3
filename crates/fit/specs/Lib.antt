-- The definitions that the contracts of this crate cite, and their laws.
pub mod Fit
pub mod FitLaws
pub mod AnswersLaws
