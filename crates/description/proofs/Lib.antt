pub mod TextLengths
pub mod BlameLaws
pub mod ChargedLaws
pub mod BoardText
pub mod LineTrip
pub mod LineText
pub mod Trip
