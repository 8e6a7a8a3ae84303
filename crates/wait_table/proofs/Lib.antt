pub mod TableLines
pub mod PrintLaws
pub mod Attained
pub mod Names
