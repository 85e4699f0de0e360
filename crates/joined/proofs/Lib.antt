pub mod Hears
pub mod ByValue
