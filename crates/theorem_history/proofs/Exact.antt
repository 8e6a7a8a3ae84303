-- The wait is exact: each connected pair has a history in which a transfer waits so long (rule 6.5).
pub mod DueRequests
pub mod DueClock
pub mod BuiltHistories
pub mod CallsDuringWait
pub mod CallsBeforeWait
pub mod ExactHistory
