-- What is missing of an observation table, which edges are like which rows, and where they lead.
pub mod Missing
pub mod Leading
