-- The pair of an actuator and a sensor (02, [1], from "Joined" on).
pub mod Items
pub mod Pairs
pub mod Lists
pub mod Calls
pub mod Walls
-- what is claimed of it
pub mod Refusals
pub mod Halves
pub mod Claims
