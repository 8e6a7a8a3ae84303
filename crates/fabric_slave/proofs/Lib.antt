pub mod ServeLaws
pub mod ReachLaws
