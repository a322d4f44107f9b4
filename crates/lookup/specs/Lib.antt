-- Words of a store, and answers to them.
pub mod Named
