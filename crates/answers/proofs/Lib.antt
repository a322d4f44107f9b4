-- Lemmas of this crate.
pub mod Cells
pub mod Gathered
pub mod Rows
pub mod Alike
