-- What this crate's functions answer and write.
pub mod Words
pub mod Layout
pub mod Shapes
pub mod Room
pub mod Frames
pub mod Bulk
pub mod Records
pub mod Spans
pub mod Memories
