-- Which files, parameters, inputs and clock moves are refused, exactly, and what the calls then give.
pub mod Files
pub mod Readings
pub mod Calls
pub mod Runs
pub mod Changes
