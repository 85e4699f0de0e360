pub mod Splices
pub mod Standing
