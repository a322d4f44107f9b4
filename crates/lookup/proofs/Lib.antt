-- What the memory's parts are, and what is found in them.
pub mod Cuts
pub mod Spelled
pub mod Held
