pub mod Claim
pub mod WaitCall
pub mod ClockRuns
pub mod ReadLatency
