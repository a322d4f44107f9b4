-- Lemmas of this crate.
pub mod Concluding
pub mod Following
