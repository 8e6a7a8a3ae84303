-- The wait is safe: the first cycle and the finish of a transfer come by their clocks (rules 6.3 and 6.4).
pub mod ClockTests
pub mod WaitBounds
pub mod PostedWait
pub mod WithinWait
