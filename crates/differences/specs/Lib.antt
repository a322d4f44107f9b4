-- The first difference of two tables, and how far a search for it has come.
pub mod Pairs
pub mod Differences
pub mod Searches
