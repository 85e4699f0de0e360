-- "Nobody waits for ever": Dark and Light, and the cases worked on paper.
pub mod Inputs
pub mod Stamps
pub mod Lasting
pub mod Prolonging
pub mod Dark
pub mod Light
pub mod Worked
