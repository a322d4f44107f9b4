-- Words given by their parts.
pub mod Spelt
