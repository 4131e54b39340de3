-- Theorems that rest on others of this crate. Where a definition is changed so that one of those is false, these are no longer checked.
pub mod FallingLaws
pub mod SomewhereLaws
pub mod BuiltTested
pub mod SheetTested
pub mod ShapesLaws
pub mod SearchLaws
pub mod ReachLaws
pub mod FoundLaws
pub mod FillingLaws
pub mod MarkingLaws
pub mod PanelWalksLaws
pub mod ForgettingTheorems
pub mod OneAnswerLaws
