-- The sensor (02, [1]), in the order of the request: its actions, what it takes, what it does, its calls.
pub mod Actions
pub mod Signals
pub mod Sensors
pub mod Reactions
pub mod Calls
-- what is claimed of them
pub mod Refusals
pub mod Claims
pub mod Asked
