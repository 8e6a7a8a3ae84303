-- A read brings the bytes of the byte memory (rules 6.7 to 6.9): from one transfer to one slave, one clock and a whole history.
pub mod LineOrders
pub mod TransferBytes
pub mod SlaveBytes
pub mod ActiveTransfers
pub mod ClearedBytes
pub mod FirstCycles
pub mod LateBytes
pub mod ClockBytes
pub mod HistoryBytes
