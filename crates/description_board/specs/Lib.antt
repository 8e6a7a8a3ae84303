pub mod Records
pub mod Rules
pub mod Legal
pub mod Items
pub mod Rebuilt
