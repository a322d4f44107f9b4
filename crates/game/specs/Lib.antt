-- What a game is, and what is known of it when it ends.
pub mod Counterexamples
pub mod Courses
pub mod Endings
pub mod Games
