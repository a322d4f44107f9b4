-- What this crate's functions read and write, in the model's terms.
pub mod Opening
pub mod Observed
pub mod Making
pub mod Changes
pub mod Phases
pub mod Additions
pub mod Spelling
pub mod Holding
