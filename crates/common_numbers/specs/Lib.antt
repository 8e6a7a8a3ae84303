pub mod Numbers
pub mod Refusals
