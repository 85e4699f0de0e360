pub mod Tests
pub mod Codes
