pub mod OptionLaws
pub mod ModeLaws
