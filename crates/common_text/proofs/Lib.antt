pub mod Pieces
pub mod Values
pub mod Decimal
pub mod Puts
pub mod Round
pub mod Spelling
