pub mod Tail
pub mod StoringLaws
pub mod StepsLaws
pub mod ReadingLaws
pub mod RecordsLaws
pub mod FileLaws
pub mod TailLaws
