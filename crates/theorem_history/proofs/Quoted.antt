-- What the wait calls answer is the wait of the claim and a serve that is exact too (rule 6.6).
pub mod WaitCall
pub mod QuotedFigures
pub mod LongestTransfer
