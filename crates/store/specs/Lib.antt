-- How a memory is read as a learner's state.
pub mod Decoding
pub mod Reading
pub mod Begun
pub mod Room
