pub mod Accept
pub mod Entries
