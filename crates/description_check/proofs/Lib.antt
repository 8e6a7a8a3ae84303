pub mod EntryLaws
pub mod LowBitLaws
pub mod AcceptLaws
