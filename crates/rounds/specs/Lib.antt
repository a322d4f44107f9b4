-- What is ready for the next step of a round.
pub mod Readiness
