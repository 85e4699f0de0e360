pub mod Timers
pub mod Turns
