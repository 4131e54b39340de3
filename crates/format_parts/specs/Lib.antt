-- The definitions that the contracts of this crate cite, and their laws.
pub mod Sections
pub mod SectionsLaws
pub mod TextsLaws
pub mod Sums
pub mod Refusals
pub mod RefusalsLaws
