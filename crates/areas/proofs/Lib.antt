-- Lemmas of this crate.
pub mod Pairs
pub mod Bases
pub mod Inside
pub mod Laid
pub mod Middle
pub mod Entries
pub mod Ends
pub mod Sums
pub mod Memories
pub mod Views
