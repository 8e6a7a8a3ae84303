pub mod SlaveClockLaws
pub mod LatencyLaws
pub mod PassLaws
pub mod UnmappedLaws
pub mod AgainLaws
