-- Whether the hypothesis agrees with the answers, and places along an answer.
pub mod Agreeing
pub mod Along
