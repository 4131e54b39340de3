-- Theorems that rest on others of this crate. Where a definition is changed so that one of those is false, these are no longer checked.
pub mod Ranges
pub mod SplittingLaws
