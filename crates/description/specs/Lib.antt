pub mod Reader
pub mod Blame
pub mod Lent
pub mod Writer
pub mod Longest
pub mod OneText
pub mod Code
