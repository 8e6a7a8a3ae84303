pub mod LaneLaws
pub mod LaneMeaning
