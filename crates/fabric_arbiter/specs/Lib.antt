pub mod Choosing
pub mod Granting
pub mod Code
