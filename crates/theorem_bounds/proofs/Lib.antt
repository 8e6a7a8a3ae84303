pub mod Order
pub mod Credit
pub mod Potential
