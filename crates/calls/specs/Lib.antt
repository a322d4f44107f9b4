-- What holds of any list of calls.
pub mod Runs
