pub mod BoardLaws
pub mod PutLaws
pub mod NumbersLaws
