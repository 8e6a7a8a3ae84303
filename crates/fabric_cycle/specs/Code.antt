pub mod Cycles
pub mod Latency
pub mod SlaveClocks
pub mod Unmapped
