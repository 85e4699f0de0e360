pub mod Turning
pub mod Hearing
pub mod Steps
