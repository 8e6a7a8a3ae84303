pub mod Waits
pub mod Sums
pub mod Largest
pub mod Code
