-- The end theorems: for every accepted file, of any model, and what no other model meets.
pub mod EveryFile
pub mod Shown
pub mod ThreeMistakes
pub mod Noting
pub mod Held
pub mod Newest
pub mod Used
pub mod Joined
pub mod Unique
pub mod Changes
pub mod Live
pub mod Meets
pub mod WrongModels
pub mod Alike
pub mod Versions
-- with a sensor beside the actuator: for every accepted wall list, of any model, by value and over a list
pub mod EveryWall
pub mod WallJoined
pub mod WallShown
pub mod WallMeets
pub mod WallVersions
pub mod PairMeets
pub mod Computing
pub mod WrongWalls
pub mod WrongPairs
pub mod Readings
pub mod NoteReadings
