-- Lemmas on words, tables, answers and tables that are borne out.
pub mod Search
pub mod Pigeonhole
pub mod Walks
pub mod Alphabet
pub mod Shortlex
pub mod Apart
pub mod Leads
pub mod Padding
pub mod Membership
pub mod Lamps
