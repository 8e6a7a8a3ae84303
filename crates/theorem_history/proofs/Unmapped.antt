-- Unmapped transfers in a history: how they are finished (rule 6.12), and the log of them (rule 6.13).
pub mod LogLists
pub mod HistoryLog
pub mod DecodeErrors
