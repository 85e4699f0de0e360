pub mod Inputs
pub mod Passed
