-- Lemmas on lists of calls, from what the calls promise.
pub mod Replays
pub mod Fairness
pub mod Refutations
pub mod Shown
pub mod Taking
pub mod Endings
pub mod Kept
