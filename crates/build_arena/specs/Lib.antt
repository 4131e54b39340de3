-- What the arena's bytes say of the tree in it: its records one by one, opened a level at a time, and by the numbers of its nodes.
pub mod Arena
pub mod RecordsLaws
pub mod WritingLaws
pub mod Numbered
pub mod NumberedLaws
