-- Lemmas of this crate.
pub mod Letters
pub mod Following
pub mod Places
