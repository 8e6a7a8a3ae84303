pub mod Decoded
pub mod Checks
pub mod Targets
