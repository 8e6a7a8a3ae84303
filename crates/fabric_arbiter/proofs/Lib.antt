pub mod ChoiceLaws
pub mod GrantLaws
pub mod OrderLaws
