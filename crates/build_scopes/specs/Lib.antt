-- Where each clause is hoisted and which of its leaves was built first, by the numbers of nodes in the arena.
pub mod Numbers
pub mod SwitchLaws
pub mod NumbersLaws
pub mod FirstLeafLaws
pub mod Marks
pub mod MarksLaws
pub mod SetsLaws
pub mod ReadyLaws
pub mod WayLaws
pub mod Scoped
pub mod ScopedLaws
pub mod WriterLaws
pub mod Examples
