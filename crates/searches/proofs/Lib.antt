-- Lemmas of this crate.
pub mod Halving
pub mod Searched
pub mod Few
pub mod Edges
pub mod Ending
pub mod Rounding
pub mod Hearing
