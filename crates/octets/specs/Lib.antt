pub mod BigEndian
pub mod Splice
pub mod Groups
