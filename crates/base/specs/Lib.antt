-- What the actuator and every sensor beside it share: time, and the table of refusal numbers.
pub mod Time
pub mod Refusals
