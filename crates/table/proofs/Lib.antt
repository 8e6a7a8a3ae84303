pub mod PrepareLaws
pub mod FileLines
