-- The learner as plain lists: its state, its invariant, its moves, and the decision of the invariant.
pub mod Bits
pub mod States
pub mod Observations
pub mod Learners
pub mod Moves
pub mod Steps
pub mod Deciding
pub mod Decisions
pub mod Pages
pub mod Models
