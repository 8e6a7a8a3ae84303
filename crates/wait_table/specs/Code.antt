pub mod PairLines
