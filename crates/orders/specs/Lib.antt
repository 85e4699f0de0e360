pub mod ByKind
pub mod Lights
