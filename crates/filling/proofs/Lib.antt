-- Lemmas of this crate.
pub mod Hearing
pub mod Trying
pub mod Joining
