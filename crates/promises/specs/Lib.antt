-- What the calls of a learner promise, and what holds of every list of calls.
pub mod Calls
pub mod Promises
pub mod Runs
pub mod Outcomes
