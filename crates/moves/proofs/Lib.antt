-- Lemmas of this crate.
pub mod Staying
pub mod Decoded
pub mod Setting
pub mod Entering
pub mod Adding
pub mod Spelled
pub mod Growing
pub mod Standing
pub mod Holding
pub mod Seeing
