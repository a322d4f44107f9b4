-- How a table that was shown is refuted.
pub mod Showing
