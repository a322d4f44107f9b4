-- Lemmas of this crate.
pub mod Opened
pub mod Refusals
pub mod Taking
pub mod Steps
