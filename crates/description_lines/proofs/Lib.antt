pub mod ReadLaws
pub mod WriteLaws
