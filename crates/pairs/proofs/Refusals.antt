-- "Given exactly when", of the calls of the pair and of the run over a wall list.
pub mod Calls
pub mod Walls
pub mod Numbers
