-- One clock of a sound state: the figures of a pair, a slave after the grant and after the clock, the masters after the clock.
pub mod PairFigures
pub mod AfterGrant
pub mod UsableGrants
pub mod SlaveClock
pub mod MasterClock
