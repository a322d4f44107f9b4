-- Lemmas of this crate.
pub mod Doors
pub mod Fresh
