pub mod ResponseLaws
pub mod ClockTaken
pub mod PassingLaws
