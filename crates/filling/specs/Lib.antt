-- How the observation table is filled.
pub mod Filled
