pub mod ByKind
pub mod Lessons
pub mod Lights
