-- The theorems about the rules, by purpose. What they come to for every cue file and every model is in the crate `demands`.
pub mod Laws
pub mod Refusals
pub mod Mistakes
pub mod Promises
