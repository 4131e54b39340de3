-- The definitions that the contracts of this crate cite, and their laws.
pub mod Opened
pub mod Answers
pub mod LayoutLaws
pub mod CountingLaws
pub mod Shape
pub mod ShapeLaws
pub mod ShapePass
pub mod ShapeAnswer
pub mod ShapeSteps
pub mod TextsLaws
pub mod AnswersLaws
