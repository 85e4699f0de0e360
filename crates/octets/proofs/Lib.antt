pub mod Splices
pub mod BothWays
pub mod Endings
