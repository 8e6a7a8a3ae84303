pub mod Pairs
pub mod Numbers
pub mod Reaching
