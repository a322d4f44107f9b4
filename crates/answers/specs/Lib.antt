-- How the values of this crate are read, and what its functions answer.
pub mod Values
pub mod Made
pub mod Logs
pub mod Evidence
