pub mod Lanes
pub mod LaneMeaning
