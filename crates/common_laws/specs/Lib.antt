pub mod Bytes
pub mod Bits
pub mod Lists
