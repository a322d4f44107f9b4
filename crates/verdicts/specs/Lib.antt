-- What the functions of this crate answer.
pub mod Orders
pub mod Listings
pub mod Faults
pub mod Verdicts
pub mod Greedy
pub mod Choices
