-- Lemmas of this crate.
pub mod Compared
pub mod Slices
pub mod Halves
pub mod Inserted
pub mod Kept
pub mod Quiet
pub mod Listed
pub mod Places
pub mod Judged
pub mod Reported
pub mod Chosen
pub mod Followed
pub mod Checked
