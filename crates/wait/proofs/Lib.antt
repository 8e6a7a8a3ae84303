pub mod LookUpLaws
pub mod FigureBytes
pub mod WrittenLaws
