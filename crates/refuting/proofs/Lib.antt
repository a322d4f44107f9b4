-- Lemmas of this crate.
pub mod Spelled
pub mod Showing
pub mod Keeping
