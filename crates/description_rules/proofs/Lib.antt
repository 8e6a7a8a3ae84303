pub mod Contained
pub mod ReadingLaws
pub mod ProgressLaws
