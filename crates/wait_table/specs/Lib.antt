pub mod Tables
pub mod Named
pub mod Longest
pub mod Code
