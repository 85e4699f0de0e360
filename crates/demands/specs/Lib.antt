pub mod Demands
pub mod Notes
pub mod NoteReadings
pub mod Joined
pub mod Changes
pub mod Live
pub mod WrongModels
pub mod Versions
-- with a sensor beside the actuator
pub mod Walls
pub mod WallJoined
pub mod WrongWalls
pub mod Pairs
pub mod Readings
