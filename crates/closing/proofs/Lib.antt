-- Lemmas of this crate.
pub mod Differing
pub mod Held
pub mod Led
pub mod Grows
