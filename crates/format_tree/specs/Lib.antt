-- The definitions that the contracts of this crate cite, and their laws.
pub mod Reading
pub mod ReadingLaws
pub mod PreOrder
pub mod PreOrderLaws
pub mod RecordsLaws
pub mod NodesLaws
pub mod OrderLaws
pub mod CheckLaws
