-- What a search by halves leads to.
pub mod Searching
