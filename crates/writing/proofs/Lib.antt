-- Lemmas of this crate.
pub mod Entries
pub mod Reported
