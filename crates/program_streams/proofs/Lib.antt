pub mod CallLaws
pub mod ReadLaws
