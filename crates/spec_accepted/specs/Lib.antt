-- What an accepted sheet, panel and tree give: crates above cite these facts in the place of the verdicts.
pub mod KindsLaws
pub mod RunsLaws
pub mod SheetFacts
pub mod PatternsLaws
pub mod PanelFacts
pub mod TreeFacts
pub mod WalkRunsLaws
