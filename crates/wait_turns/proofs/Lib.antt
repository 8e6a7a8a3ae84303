pub mod SumLaws
pub mod AccessLaws
pub mod OwnTurn
pub mod FigureBounds
pub mod TurnSums
pub mod Largest
