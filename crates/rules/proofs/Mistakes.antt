-- The three mistakes that others made: rank, delays, ties.
pub mod Rank
pub mod Delays
pub mod Waiting
pub mod Ties
