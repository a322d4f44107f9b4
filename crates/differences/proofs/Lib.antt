-- Lemmas of this crate.
pub mod Later
pub mod Covered
pub mod Pushed
pub mod Reached
pub mod Visits
pub mod Steps
