pub mod ResetLaws
pub mod PostLaws
pub mod ClockLaws
pub mod RunOfClocks
pub mod TakeLaws
pub mod LanesShown
