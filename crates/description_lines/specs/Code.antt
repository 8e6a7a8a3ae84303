pub mod LineFrom
