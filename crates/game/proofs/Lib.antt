-- Lemmas of this crate.
pub mod Sounds
pub mod Counting
pub mod Courses
pub mod Looks
pub mod Wanting
pub mod Recording
