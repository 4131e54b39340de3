-- The definitions that the contracts of this crate cite, and their laws. Crates above cite the laws in the place of the definitions.
pub mod Words
pub mod WordsLaws
pub mod Stored
pub mod StoredLaws
