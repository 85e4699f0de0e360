-- The rules, one topic to a file, in the order of document 01. (Time and the refusal numbers: crates/base/specs; numbers in octets:
-- crates/octets/specs.)
pub mod Forms
pub mod Layout
pub mod Parameters
pub mod Inputs
pub mod Phases
pub mod Steps
pub mod Lists
pub mod Barriers
pub mod Answers
pub mod Scenes
pub mod Orders
pub mod Status
pub mod Calls
pub mod Readings
pub mod Files
pub mod Runs
pub mod Soundness
-- a whole scene change in one call; a state as octets, and the live calls from C
pub mod Changes
pub mod Images
pub mod Live
-- what is claimed of them
pub mod Refusals
pub mod Promises
pub mod Mistakes
pub mod Worked
-- the rules said a second time, from another side
pub mod Said
pub mod Facts
pub mod Written
